-- Why a commit fails, by its tail.
use Rattle.std.proofs.Common.{◌≡◌, ℕ, Bool, true, false, if◌then◌else◌, List, Option, Some, None, Result, Ok, Err, refl, sym, ap, ◌∙◌}
use Rattle.keys.specs.declared.settings.Settings.{Settings}
use Rattle.keys.specs.declared.fault.Fault.{Fault}
use Rattle.keys.specs.declared.fault.Fault.TheVariants.{Full, Spent}
use Rattle.mapping.specs.Tree.{Store}
use Rattle.flush_log.specs.AfterFlush.{is_spent, after_commit}
use Rattle.flush_log.specs.Images.{admitted}
use Rattle.flush_log.specs.Layout.{is_full_for_flush}
use Rattle.flush_log.specs.Slot.{Slot}

abbrev pub Answer : Type 0
Answer = Result ℕ Fault

abbrev pub unspent : Slot → Bool → Option ℕ
unspent t b = if b then None else Some t.tail

abbrev by_room : ℕ → Bool → Answer
by_room tail is_full = if is_full then Err Full else Ok tail

-- its numbers are spent
pub admits_none : (t : Slot) (is_full : Bool) → None ≡ unspent t (is_spent t) → (let spent : Answer = Err Spent in spent ≡ admitted t is_full)
admits_none t is_full = of (is_spent t)
  where
    of : (b : Bool) → None ≡ unspent t b → (let spent : Answer = Err Spent in spent ≡ (if b then spent else by_room t.tail is_full))
    of true h = refl
    of false h = absurd (cc)

-- they are not, and there is room or not
pub admits : (t : Slot) (tail : ℕ) (is_full full : Bool) → Some tail ≡ unspent t (is_spent t) → (tail ≡ t.tail → full ≡ is_full) → by_room tail full ≡ admitted t is_full
admits t tail is_full full = of (is_spent t)
  where
    of : (b : Bool) → Some tail ≡ unspent t b → (tail ≡ t.tail → full ≡ is_full) → by_room tail full ≡ (let spent : Answer = Err Spent in if b then spent else by_room t.tail is_full)
    of true h room = absurd (cc)
    of false h room =
        let same : tail ≡ t.tail = cc in
        ap (λ (n : ℕ). by_room n full) same ∙ ap (by_room t.tail) (room same)

-- whether it is full, by its head and its tail
pub full_at : (s : Settings) (t : Slot) (head tail : ℕ) → t.head ≡ head → tail ≡ t.tail → is_full_for_flush s head tail ≡ is_full_for_flush s t.head t.tail
full_at s t head tail h is = ap (λ (n : ℕ). is_full_for_flush s n tail) (sym h) ∙ ap (λ (n : ℕ). is_full_for_flush s t.head n) is

-- ---- the result, by the answer

-- of a commit that is admitted with this tail
pub record IsAdmitted (t : Slot) (is_full : Bool) (n : ℕ) : Type 0 where
  pub unspent : is_spent t ≡ false
  pub room : is_full ≡ false
  pub tail : n ≡ t.tail

pub admitted-is : (t : Slot) (is_full : Bool) (tail : ℕ) → (let answer : Answer = Ok tail in answer ≡ admitted t is_full) → IsAdmitted t is_full tail
admitted-is t is_full tail h = of (is_spent t) is_full refl h
  where
    of : (a b : Bool) → is_spent t ≡ a → (let answer : Answer = Ok tail in answer ≡ (if a then Err Spent else by_room t.tail b)) → IsAdmitted t b tail
    of true b e k = absurd (cc)
    of false true e k = absurd (cc)
    of false false e k = record { unspent = e; room = refl; tail = cc }

abbrev Left : Type 0
Left = Result (Store × List ℕ) Fault

module _ (t : Slot) (is_full : Bool) (st : Store) (file : List ℕ) where
  pub commit-refused : (fault : Fault) → admitted t is_full ≡ Err fault → after_commit t is_full st file ≡ Err fault
  commit-refused fault h = of (is_spent t) is_full h
    where
      of : (a b : Bool) → (let spent : Answer = Err Spent in if a then spent else by_room t.tail b) ≡ Err fault
          → (let done : Left = Ok (st, file) in if a then Err Spent else (if b then Err Full else done)) ≡ Err fault
      of true b k = cc
      of false true k = cc
      of false false k = absurd (cc)

  pub commit-admitted : is_spent t ≡ false → is_full ≡ false → after_commit t is_full st file ≡ Ok (st, file)
  commit-admitted unspent room = of (is_spent t) is_full unspent room
    where
      of : (a b : Bool) → a ≡ false → b ≡ false → (let done : Left = Ok (st, file) in (if a then Err Spent else (if b then Err Full else done)) ≡ done)
      of true b e k = absurd (cc)
      of false true e k = absurd (cc)
      of false false e k = refl
