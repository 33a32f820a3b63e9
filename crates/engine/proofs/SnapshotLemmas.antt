-- Numbered snapshots are read back.
use Rattle.std.proofs.Common.{◌≡◌, ◌∙◌, ℕ, zero, suc, ◌+◌, ◌-◌, ◌<◌, ◌≤◌, true, List, [], ◌∷◌, ◌++◌, length, Option, Some, None, refl, sym, ap, inl, inr, ⊎_elim, subst, append_assoc, arith}
use Rattle.std.proofs.Math.Nat.{eq-or-lt_of_le}
use Rattle.std.specs.List.{slice_get}
use Rattle.keys.specs.Bytes.{Bytes, Pairs}
use Rattle.keys.specs.Range.{is_within, rows}
use Rattle.keys.specs.declared.settings.Settings.{Settings}
use Rattle.engine.specs.Snapshots.{triangle, pair, next_pair, unpair, number_of_list, first_of_list, list_of, number_of_pair, pair_of, number_of_settings, settings_of, number_of, held_of, held_after, bytes_after, view_after}
use Rattle.flush_log.specs.Disk.{View, LeavesOnly}
use Rattle.engine.specs.Claim.{Held}

-- ---- numbers

numbered : (n s b a : ℕ) → a + b ≡ s → n ≡ b + triangle s → unpair n ≡ (a, b)
numbered zero zero zero zero e n = refl
numbered zero zero zero (suc a) e n = absurd (Prim.omega (arith, e))
numbered zero zero (suc b) a e n = absurd (Prim.omega (arith, n))
numbered zero (suc s) b a e n = absurd (Prim.omega (arith, n))
numbered (suc m) zero zero a e n = absurd (Prim.omega (arith, n))
numbered (suc m) zero (suc b) a e n = absurd (Prim.omega (arith, e))
numbered (suc m) (suc s) zero a e n =
    ap next_pair (numbered m s s 0 (Prim.omega (arith)) (Prim.omega (arith, n))) ∙ ap (λ x. (x, 0)) (Prim.omega (arith, e))
numbered (suc m) (suc s) (suc b) a e n = ap next_pair (numbered m (suc s) b (suc a) (Prim.omega (arith, e)) (Prim.omega (arith, n)))

pub unpair-pair : (a b : ℕ) → unpair (pair a b) ≡ (a, b)
unpair-pair a b = numbered (pair a b) (a + b) b a refl refl

pub list-first : {X : Type 0} (f : X → ℕ) (g : ℕ → X) → ((x : X) → g (f x) ≡ x) → (xs : List X) (most : ℕ) → number_of_list f xs ≤ most → first_of_list g most (number_of_list f xs) ≡ xs
list-first f g back [] zero few = refl
list-first f g back [] (suc most) few = refl
list-first f g back (x ∷ xs) zero few = absurd (Prim.omega (arith, few))
list-first f g back (x ∷ xs) (suc most) few =
    rw (unpair-pair (f x) (number_of_list f xs), back x) (ap (λ ys. x ∷ ys) (list-first f g back xs most (Prim.omega (arith, few))))

pub list-read : {X : Type 0} (f : X → ℕ) (g : ℕ → X) → ((x : X) → g (f x) ≡ x) → (xs : List X) → list_of g (number_of_list f xs) ≡ xs
list-read f g back xs = list-first f g back xs (number_of_list f xs) (Prim.omega (arith))

pub pair-read : (e : Bytes × Bytes) → pair_of (number_of_pair e) ≡ e
pair-read (k, v) =
    rw (unpair-pair (number_of_list (λ n. n) k) (number_of_list (λ n. n) v), list-read (λ n. n) (λ n. n) (λ n. refl) k, list-read (λ n. n) (λ n. n) (λ n. refl) v) refl

pub settings-read : (s : Settings) → settings_of (number_of_settings s) ≡ s
settings-read s =
    let e = pair s.seg_size s.segments in
    let d = pair s.max_value e in
    let c = pair s.max_key d in
    let b = pair s.chain c in
    rw (unpair-pair s.fan b, unpair-pair s.chain c, unpair-pair s.max_key d, unpair-pair s.max_value e, unpair-pair s.seg_size s.segments) refl

pub held-read : (held : Option Held) → held_of (number_of held) ≡ held
held-read None = refl
held-read (Some (s, m)) =
    rw (unpair-pair (number_of_settings s) (number_of_list number_of_pair m), settings-read s, list-read number_of_pair pair_of pair-read m) refl

-- ---- the disk

since_now : (bytes : ℕ → Bytes) (now : ℕ) (c : Bytes) → (n : ℕ) × (now ≤ n) × (n ≤ now) × (c ≡ bytes n) → c ≡ bytes now
since_now bytes now c left = left.3 ∙ ap bytes (Prim.omega (arith, left.1, left.2))

-- one more snapshot: a crash leaves the bytes before it or after it
pub leaves-pushed : (bytes later : ℕ → Bytes) (now next : ℕ) (P : Bytes → Type 0) → next ≡ suc now → ((n : ℕ) → n ≤ now → later n ≡ bytes n) →
    P (bytes now) → P (later next) → LeavesOnly (view_after bytes now) (view_after later next) P
leaves-pushed bytes later now next P one same before after =
    let last : (c : Bytes) (n : ℕ) → n ≡ next → c ≡ later n → P c = λ c n e is. subst P (sym (is ∙ ap later e)) after in
    record {
      later = Prim.omega (arith, one);
      each = λ c left. ⊎_elim (λ e. last c left.0 e left.3)
          (λ few. subst P (sym (left.3 ∙ same left.0 (Prim.omega (arith, few, one)) ∙ ap bytes (Prim.omega (arith, few, one, left.1)))) before)
          (eq-or-lt_of_le left.2);
      before = λ t c early left. ⊎_elim (λ e. inr (last c left.0 e left.3))
          (λ few. inl (left.0, left.1, Prim.omega (arith, few, one), left.3 ∙ same left.0 (Prim.omega (arith, few, one))))
          (eq-or-lt_of_le left.2);
    }

-- ---- snapshots

get-before : (xs : List Held) (y : Held) (n : ℕ) → n < length xs → slice_get (xs ++ y ∷ []) n ≡ slice_get xs n
get-before [] y n few = absurd (Prim.omega (arith, few))
get-before (x ∷ xs) y zero few = refl
get-before (x ∷ xs) y (suc n) few = get-before xs y n (Prim.omega (arith, few))

get-end : (xs : List Held) (y : Held) → slice_get (xs ++ y ∷ []) (length xs) ≡ Some y
get-end [] y = refl
get-end (x ∷ xs) y = get-end xs y

pub one-longer : (xs : List Held) (y : Held) → length (xs ++ y ∷ []) ≡ suc (length xs)
one-longer [] y = refl
one-longer (x ∷ xs) y = ap suc (one-longer xs y)

pub bytes-before : (xs : List Held) (y : Held) (n : ℕ) → n ≤ length xs → bytes_after (xs ++ y ∷ []) n ≡ bytes_after xs n
bytes-before xs y zero few = refl
bytes-before xs y (suc n) few = ap (λ held. number_of held ∷ suc n ∷ []) (get-before xs y n (Prim.omega (arith, few)))

pub held-end : (xs : List Held) (y : Held) → held_after (xs ++ y ∷ []) (length (xs ++ y ∷ [])) ≡ Some y
held-end xs y = rw (one-longer xs y) (get-end xs y)

pub kept-seen : (xs ys : List Held) (y : Held) → ys ≡ xs ++ y ∷ [] → bytes_after ys (length ys) ≡ number_of (Some y) ∷ suc (length xs) ∷ []
kept-seen xs ys y e = rw e (ap (λ held. number_of held ∷ length (xs ++ y ∷ []) ∷ []) (held-end xs y) ∙ ap (λ n. number_of (Some y) ∷ n ∷ []) (one-longer xs y))

pub kept-crash : (xs ys : List Held) (y : Held) (P : Bytes → Type 0) → ys ≡ xs ++ y ∷ [] → P (bytes_after xs (length xs)) → P (number_of (Some y) ∷ suc (length xs) ∷ []) →
    LeavesOnly (view_after (bytes_after xs) (length xs)) (view_after (bytes_after ys) (length ys)) P
kept-crash xs ys y P e before after =
    leaves-pushed (bytes_after xs) (bytes_after ys) (length xs) (length ys) P (ap length e ∙ one-longer xs y) (λ n few. ap (λ zs. bytes_after zs n) e ∙ bytes-before xs y n few)
    before (subst P (sym (kept-seen xs ys y e)) after)

pub leaves-more : (old new : View) (P Q : Bytes → Type 0) → ((c : Bytes) → P c → Q c) → LeavesOnly old new P → LeavesOnly old new Q
leaves-more old new P Q more l = record {
  later = l.later;
  each = λ c left. more c (l.each c left);
  before = λ t c early left. ⊎_elim inl (λ p. inr (more c p)) (l.before t c early left);
}

-- the last snapshot
pub held-last : (xs : List Held) → held_after xs (length xs) ≡ slice_get xs (length xs - 1)
held-last [] = refl
held-last (x ∷ xs) = ap (λ n. slice_get (x ∷ xs) n) (Prim.omega (arith))

-- ---- rows

-- a row of the range was added, if there may be more
pub row-added : (lo : Bytes) (hi : Option Bytes) (limit n m : ℕ) (out all : Pairs Bytes) (k v : Bytes) (es : Pairs Bytes) → n < limit → m ≡ n + 1 → is_within lo hi k ≡ true →
    out ++ rows lo hi (limit - n) ((k, v) ∷ es) ≡ all → (out ++ (k, v) ∷ []) ++ rows lo hi (limit - m) es ≡ all
row-added lo hi limit n m out all k v es few longer within h =
    let one : limit - n ≡ suc (limit - m) = Prim.omega (arith, few, longer) in
    let whole : out ++ (k, v) ∷ rows lo hi (limit - m) es ≡ all = rw (within, one) at h in
    append_assoc out ((k, v) ∷ []) (rows lo hi (limit - m) es) ∙ whole
