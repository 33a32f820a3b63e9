-- When the answers to orders don't depend on the contents that the disk returns.
use Rattle.std.proofs.Common.{◌≡◌, ◌⊎◌, ◌-◌, inl, inr, ℕ, zero, suc, List, [], ◌∷◌, ◌++◌, Option, Some, None, Result, Ok, Err, refl, sym, ap, ◌∙◌, subst}
use Rattle.std.specs.Prelude.{⊤, Bool, true, false, is_some, if◌then◌else◌}
use Rattle.std.specs.List.{All, AllByRecursion}
use Rattle.std.specs.Option.{option_map, option_or}
use Rattle.std.specs.declared.alloc.Global.{Global}
use Rattle.std.proofs.lemmas.List.Elements.{recursion_from_All}
use Rattle.keys.specs.declared.fault.Fault.{Fault}
use Rattle.keys.specs.declared.fault.Fault.TheVariants.{NoMemory}
use Rattle.keys.specs.declared.settings.Settings.{Settings}
use Rattle.keys.specs.declared.version.Version.{Version}
use Rattle.keys.specs.declared.version.Version.TheVariants.{One, Two}
use Rattle.mapping.specs.Tree.{Store}
use Rattle.flush_log.specs.AfterFlush.{after_text, of_version_two, unless_upgraded, flush_commit, file_after, store_after, is_spent}
use Rattle.flush_log.specs.FlushText.{flush_frames, upgrade_frames, flushed}
use Rattle.flush_log.specs.Layout.{is_full_for_flush}
use Rattle.engine.specs.Cleaning.{CleanRow, count_of, reads_in}
use Rattle.engine.specs.Steps.{Step, Answer, Stepped, unless_refused, after_step, batching}
use Rattle.engine.specs.Tidied.{counted_pages}
use Rattle.bwsh.specs.declared.order.Order.{Order}
use Rattle.bwsh.specs.declared.order.Order.TheVariants.{Batch, Lost, Flush, Clean, Upgrade, Tidy}
use Rattle.bwsh.specs.declared.session.SessionError.TheVariants as errors
use Rattle.bwsh.specs.BatchFile.{IsNoClean}
use Rattle.bwsh.specs.Session.{Batches, Stored, Seen, Reads, Tidying, later, AreLeft, AreSeenAlike, AreUntidied, by_batches, cleaned, cleaned_by, front_lines, head_lines, left_unless, own_refusal, readied, tidied, step_in, left_by, refused_by, left_by_step, refusal_of_step, after_order, refusal_of, map_after, map_unless, own_lines, answer_lines, answer_then, answered, accepted, first_refusal, orders_end, stopped_by, untidied}
use Rattle.bwsh.specs.Shown.{shown_flushed, shown_cleaned, shown_tidied, shown_upgraded}
use Rattle.bwsh.proofs.RunLemmas.{of_flush, of_upgrade, answering, committed_unless, first_shown}

-- ---- a step

-- the result and the store of a step, without the bytes
abbrev without_bytes : Stepped Global → Result (Answer Global × Store) Fault
without_bytes (Ok p) = Ok (p.0, p.1.0)
without_bytes (Err fault) = Err fault

batch-same : (o : Option Fault) (a : Answer Global) (st : Store) (f g : List ℕ) → without_bytes (unless_refused o a st f) ≡ without_bytes (unless_refused o a st g)
batch-same None a st f g = refl
batch-same (Some fault) a st f g = refl

commit-same : (say : Store → Answer Global) (spent full : Bool) (now : Store) (f g : List ℕ)
    → without_bytes (answering say (committed_unless spent full now f)) ≡ without_bytes (answering say (committed_unless spent full now g))
commit-same say true full now f g = refl
commit-same say false true now f g = refl
commit-same say false false now f g = refl

text-same : (say : Store → Answer Global) (settings : Settings) (st : Store) (f g : List ℕ) (text : _)
    → without_bytes (answering say (after_text settings st f text)) ≡ without_bytes (answering say (after_text settings st g text))
text-same say settings st f g [] = refl
text-same say settings st f g (x ∷ xs) =
    let m = flush_commit settings st (x ∷ xs) in
    commit-same say (is_spent m.slot) (is_full_for_flush settings m.slot.head m.slot.tail) (store_after (flushed st.tree) m.slot) (file_after settings f m) (file_after settings g m)

upgrade-same : (version : Version) (settings : Settings) (st : Store) (f g : List ℕ) (text : _)
    → without_bytes (answering of_upgrade (unless_upgraded version (after_text settings st f text)))
    ≡ without_bytes (answering of_upgrade (unless_upgraded version (after_text settings st g text)))
upgrade-same One settings st f g text = text-same of_upgrade settings st f g text
upgrade-same Two settings st f g text = refl

-- why an order is refused by definition: its step is, or it is a lost one
own_or : (settings : Settings) (order : Order)
    → ((at : Stored) → own_refusal settings at order ≡ Some NoMemory) ⊎ ((at : Stored) → own_refusal settings at order ≡ refusal_of_step settings at (step_in order))
own_or settings Lost = inl (λ at. refl)
own_or settings _ = inr (λ at. refl)

unless-same : (r : Option Fault) (a b c d : Stored) → a.0 ≡ b.0 → c.0 ≡ d.0 → (left_unless r a c).0 ≡ (left_unless r b d).0
unless-same None a b c d first second = second
unless-same (Some fault) a b c d first second = first

-- two outcomes of a step that differ in the bytes at most
left-same : (st : Store) (f g : List ℕ) (r q : Stepped Global) → without_bytes r ≡ without_bytes q → ((left_by (st, f) r).0 ≡ (left_by (st, g) q).0) × (refused_by r ≡ refused_by q)
left-same st f g (Ok p) (Ok q) e =
    let same : (let u : Answer Global × Store = (p.0, p.1.0) in let v : Answer Global × Store = (q.0, q.1.0) in u ≡ v) = cc in
    (ap (λ (u : Answer Global × Store). u.1) same, refl)
left-same st f g (Err a) (Err b) e = let same : a ≡ b = cc in (refl, ap (λ (x : Fault). Some x) same)
left-same st f g (Ok p) (Err b) e = absurd (cc)
left-same st f g (Err a) (Ok q) e = absurd (cc)

module _ (settings : Settings) (st : Store) (f g : List ℕ) where
  -- the result of the step of an order with these bytes
  abbrev stepped : List ℕ → Step Global → Stepped Global
  stepped file y = after_step (batching settings) settings st file y

  order-same : (order : Order) → IsNoClean order → (y : Step Global) → step_in order ≡ Some y → without_bytes (stepped f y) ≡ without_bytes (stepped g y)
  order-same (Batch cs) only y is =
      let same : Step.Batch cs ≡ y = cc in
      subst (λ (z : Step Global). without_bytes (stepped f z) ≡ without_bytes (stepped g z)) same (batch-same _ _ _ f g)
  order-same Flush only y is =
      let same : (let z : Step Global = Step.Flush in z ≡ y) = cc in
      subst (λ (z : Step Global). without_bytes (stepped f z) ≡ without_bytes (stepped g z)) same (text-same of_flush settings st f g (flush_frames st.version st.tree))
  order-same Upgrade only y is =
      let same : (let z : Step Global = Step.Upgrade in z ≡ y) = cc in
      subst (λ (z : Step Global). without_bytes (stepped f z) ≡ without_bytes (stepped g z)) same (upgrade-same st.version settings (of_version_two st) f g (upgrade_frames st.tree))
  order-same Clean only y is = absurd only
  order-same _ only y is = absurd (cc)

  step-same : (o : Option (Step Global)) → ((y : Step Global) → o ≡ Some y → without_bytes (stepped f y) ≡ without_bytes (stepped g y))
      → ((left_by_step settings (st, f) o).0 ≡ (left_by_step settings (st, g) o).0) × (refusal_of_step settings (st, f) o ≡ refusal_of_step settings (st, g) o)
  step-same None same = (refl, refl)
  step-same (Some y) same = left-same st f g (stepped f y) (stepped g y) (same y refl)

  -- an order that is no clean is refused for the same reason, and its step gives the same store
  refusal-same : (order : Order) → IsNoClean order → refusal_of_step settings (st, f) (step_in order) ≡ refusal_of_step settings (st, g) (step_in order)
  refusal-same order only = (step-same (step_in order) (order-same order only)).1

  stored-same : (order : Order) → IsNoClean order → (left_by_step settings (st, f) (step_in order)).0 ≡ (left_by_step settings (st, g) (step_in order)).0
  stored-same order only = (step-same (step_in order) (order-same order only)).0

-- an order that is no clean is refused for the same reason by definition
own_refusal-same : (settings : Settings) (st : Store) (f g : List ℕ) (order : Order) → IsNoClean order → own_refusal settings (st, f) order ≡ own_refusal settings (st, g) order
own_refusal-same settings st f g order only = by (own_or settings order)
  where
    by : ((at : Stored) → own_refusal settings at order ≡ Some NoMemory) ⊎ ((at : Stored) → own_refusal settings at order ≡ refusal_of_step settings at (step_in order))
        → own_refusal settings (st, f) order ≡ own_refusal settings (st, g) order
    by (inl lost) = lost (st, f) ∙ sym (lost (st, g))
    by (inr step) = step (st, f) ∙ refusal-same settings st f g order only ∙ sym (step (st, g))

-- cleans give the same store, whatever the bytes before them are
cleaned-same : (settings : Settings) (reads : List (List ℕ)) (st : Store) (f g : List ℕ) → (cleaned_by settings reads (st, f)).0 ≡ (cleaned_by settings reads (st, g)).0
cleaned-same settings [] st f g = refl
cleaned-same settings (file ∷ reads) st f g = refl

module _ (settings : Settings) (st : Store) (f g : Seen) where
  -- the store that was prepared for an order is the same, if it is tidied and cleaned in the same way
  readied-same : (order : Order) → f.tidying ≡ g.tidying → f.rows ≡ g.rows → f.merged ≡ g.merged → (readied order settings f (st, f.bytes)).0 ≡ (readied order settings g (st, g.bytes)).0
  readied-same Flush tidying rows merged =
      ap (λ (t : Tidying). (cleaned_by settings (reads_in f.rows) (tidied settings t (st, f.bytes))).0) tidying
      ∙ ap (λ (r : List CleanRow). (cleaned_by settings (reads_in r) (tidied settings g.tidying (st, f.bytes))).0) rows
      ∙ cleaned-same settings (reads_in g.rows) (tidied settings g.tidying (st, f.bytes)).0 f.bytes g.bytes
  readied-same (Tidy most) tidying rows merged = ap (λ (b : Batches). (tidied settings (by_batches b) (st, f.bytes)).0) merged
  readied-same _ tidying rows merged = refl

  -- an order that is no clean gives the same store, if the same store is prepared for it and it fails in the same way; and it is refused for the same
  -- reason
  same_by : (order : Order) → (readied order settings f (st, f.bytes)).0 ≡ (readied order settings g (st, g.bytes)).0 → f.fails ≡ g.fails → IsNoClean order
      → ((after_order settings st f order).0 ≡ (after_order settings st g order).0) × (refusal_of settings st f order ≡ refusal_of settings st g order)
  unfolding after_order refusal_of
  same_by order same fails only =
      let mine : Stored = readied order settings f (st, f.bytes) in
      let other : Stored = readied order settings g (st, g.bytes) in
      let moved : Stored = (other.0, mine.1) in
      let is : mine ≡ moved = ap (λ (x : Store). (let at : Stored = (x, mine.1) in at)) same in (
        ap (λ (at : Stored). (left_unless f.fails at (left_by_step settings at (step_in order))).0) is
            ∙ ap (λ (r : Option Fault). (left_unless r moved (left_by_step settings moved (step_in order))).0) fails
            ∙ unless-same g.fails moved other (left_by_step settings moved (step_in order)) (left_by_step settings other (step_in order)) refl (stored-same settings other.0 mine.1 other.1 order only),
        ap (λ (at : Stored). option_or f.fails (own_refusal settings at order)) is
            ∙ ap (λ (r : Option Fault). option_or r (own_refusal settings moved order)) fails
            ∙ ap (λ (r : Option Fault). option_or g.fails r) (own_refusal-same settings other.0 mine.1 other.1 order only),
      )

  pub after_order-same : f.tidying ≡ g.tidying → f.rows ≡ g.rows → f.merged ≡ g.merged → f.fails ≡ g.fails → (order : Order) → IsNoClean order
      → ((after_order settings st f order).0 ≡ (after_order settings st g order).0) × (refusal_of settings st f order ≡ refusal_of settings st g order)
  after_order-same tidying rows merged fails order only = same_by order (readied-same order tidying rows merged) fails only

  -- with the same rows of cleans before it, the lines are the same
  front-same : (order : Order) → f.rows ≡ g.rows → front_lines st f order ≡ front_lines st g order
  front-same Flush rows = ap (λ (r : List CleanRow). head_lines st.head (count_of r)) rows
  front-same _ rows = refl

  -- if it gives the same store, its answers are the same
  pub own-same : (m : List (List ℕ × List ℕ)) (order : Order) → (after_order settings st f order).0 ≡ (after_order settings st g order).0 → own_lines settings st f m order ≡ own_lines settings st g m order
  own-same m Flush same = ap (λ (s : Store). shown_flushed s.sequence ∷ []) same
  own-same m Clean same = ap (λ (s : Store). shown_cleaned s.head ∷ []) same
  own-same m Upgrade same = ap (λ (s : Store). shown_upgraded s.sequence ∷ []) same
  own-same m (Tidy most) same = ap (λ (s : Store). shown_tidied (counted_pages st.tree - counted_pages s.tree) ∷ []) same
  own-same m _ same = refl

-- ---- orders

-- the events are the same if all of their parts are
seen_is : (a b : Seen) → a.bytes ≡ b.bytes → a.tidying ≡ b.tidying → a.rows ≡ b.rows → a.last ≡ b.last → a.merged ≡ b.merged → a.fails ≡ b.fails → a.told ≡ b.told → a ≡ b
seen_is a b bytes tidying rows last merged fails told =
    ap (λ (x : List ℕ). (let s : Seen = record a { bytes = x } in s)) bytes
    ∙ ap (λ (x : Tidying). (let s : Seen = record a { bytes = b.bytes; tidying = x } in s)) tidying
    ∙ ap (λ (x : List CleanRow). (let s : Seen = record a { bytes = b.bytes; tidying = b.tidying; rows = x } in s)) rows
    ∙ ap (λ (x : List ℕ). (let s : Seen = record b { last = x; merged = a.merged; fails = a.fails; told = a.told } in s)) last
    ∙ ap (λ (x : Batches). (let s : Seen = record b { merged = x; fails = a.fails; told = a.told } in s)) merged
    ∙ ap (λ (x : Option Fault). (let s : Seen = record b { fails = x; told = a.told } in s)) fails
    ∙ ap (λ (x : List ℕ). (let s : Seen = record b { told = x } in s)) told

module _ (settings : Settings) where
  -- each of the orders gives the same store, and is refused for the same reason, with either contents of the disk
  abbrev AreAlike : Store → Reads → Reads → List Order → Type 0
  AreAlike st shown other [] = ⊤
  AreAlike st shown other (order ∷ rest) =
      ((after_order settings st (shown 0) order).0 ≡ (after_order settings st (other 0) order).0)
      × (refusal_of settings st (shown 0) order ≡ refusal_of settings st (other 0) order) × (front_lines st (shown 0) order ≡ front_lines st (other 0) order)
      × AreAlike (after_order settings st (shown 0) order).0 (later shown) (later other) rest

  lines-alike : (st : Store) (shown other : Reads) (m : List (List ℕ × List ℕ)) (orders : List Order) → AreAlike st shown other orders
      → answer_lines settings st shown m orders ≡ answer_lines settings st other m orders
  lines-alike st shown other m [] alike = refl
  lines-alike st shown other m (order ∷ rest) (same, refused, front, alike) =
      let now : Store = (after_order settings st (shown 0) order).0 in
      let n = map_after m order in
      let further = lines-alike now (later shown) (later other) n rest alike ∙ ap (λ (s : Store). answer_lines settings s (later other) n rest) same in
      ap (λ (l : List (List ℕ)). l ++ own_lines settings st (shown 0) m order ++ answer_lines settings now (later shown) n rest) front
      ∙ ap (λ (l : List (List ℕ)). front_lines st (other 0) order ++ l ++ answer_lines settings now (later shown) n rest) (own-same settings st (shown 0) (other 0) m order same)
      ∙ ap (λ (l : List (List ℕ)). front_lines st (other 0) order ++ own_lines settings st (other 0) m order ++ l) further

  accepted-alike : (st : Store) (shown other : Reads) (orders : List Order) → AreAlike st shown other orders → accepted settings st shown orders ≡ accepted settings st other orders
  accepted-alike st shown other [] alike = refl
  accepted-alike st shown other (order ∷ rest) (same, refused, front, alike) =
      let now : Store = (after_order settings st (shown 0) order).0 in
      let further = accepted-alike now (later shown) (later other) rest alike ∙ ap (λ (s : Store). accepted settings s (later other) rest) same in
      ap (λ (r : Option Fault). if is_some r then [] else order ∷ accepted settings now (later shown) rest) refused
      ∙ ap (λ (l : List Order). if is_some (refusal_of settings st (other 0) order) then [] else order ∷ l) further

  refusal-alike : (st : Store) (shown other : Reads) (orders : List Order) → AreAlike st shown other orders → first_refusal settings st shown orders ≡ first_refusal settings st other orders
  refusal-alike st shown other [] alike = refl
  refusal-alike st shown other (order ∷ rest) (same, refused, front, alike) =
      let now : Store = (after_order settings st (shown 0) order).0 in
      let further = refusal-alike now (later shown) (later other) rest alike ∙ ap (λ (s : Store). first_refusal settings s (later other) rest) same in
      ap (λ (r : Option Fault). option_or r (first_refusal settings now (later shown) rest)) refused
      ∙ ap (λ (r : Option Fault). option_or (refusal_of settings st (other 0) order) r) further

  end-alike : (on : Bool) (st : Store) (shown other : Reads) (orders : List Order) → AreAlike st shown other orders → orders_end on settings st shown orders ≡ orders_end on settings st other orders
  end-alike true st shown other orders alike = refl
  end-alike false st shown other orders alike = ap (λ (r : Option Fault). stopped_by (option_map (λ fault. errors.Fault fault) r)) (refusal-alike st shown other orders alike)

  -- the reported faults of refusals are the same
  abbrev AreTold : Reads → Reads → Type 0
  AreTold shown other = (i : ℕ) → (shown i).told ≡ (other i).told

  answered-alike : (on : Bool) (st : Store) (shown other : Reads) → AreTold shown other → (m : List (List ℕ × List ℕ)) (orders : List Order) → AreAlike st shown other orders
      → answered on settings st shown m orders ≡ answered on settings st other m orders
  answered-alike on st shown other told m [] alike = refl
  answered-alike on st shown other told m (order ∷ rest) (same, refused, front, alike) =
      let now : Store = (after_order settings st (shown 0) order).0 in
      let next : Store = (after_order settings st (other 0) order).0 in
      let r : Option Fault = refusal_of settings st (shown 0) order in
      let q : Option Fault = refusal_of settings st (other 0) order in
      let before : List (List ℕ) = front_lines st (other 0) order in
      let own : List (List ℕ) = own_lines settings st (other 0) m order in
      let further = answered-alike on now (later shown) (later other) (λ i. told (suc i)) (map_unless r m order) rest alike
      ∙ ap (λ (s : Store). answered on settings s (later other) (map_unless r m order) rest) same in
      ap (λ (l : List (List ℕ)). answer_then on r (shown 0).told l (own_lines settings st (shown 0) m order) (answered on settings now (later shown) (map_unless r m order) rest)) front
      ∙ ap (λ (l : List (List ℕ)). answer_then on r (shown 0).told before l (answered on settings now (later shown) (map_unless r m order) rest)) (own-same settings st (shown 0) (other 0) m order same)
      ∙ ap (λ (l : List (List ℕ)). answer_then on r (shown 0).told before own l) further
      ∙ ap (λ (o : Option Fault). answer_then on o (shown 0).told before own (answered on settings next (later other) (map_unless o m order) rest)) refused
      ∙ ap (λ (t : List ℕ). answer_then on q t before own (answered on settings next (later other) (map_unless q m order) rest)) (told 0)

  -- this holds if none is a clean
  alike-without_cleans : (st : Store) (shown other : Reads) → AreSeenAlike shown other → (orders : List Order) → AllByRecursion IsNoClean orders → AreAlike st shown other orders
  alike-without_cleans st shown other alike [] only = tt
  alike-without_cleans st shown other alike (order ∷ rest) only =
      let (tidying, rows, merged, fails, told) = alike 0 in
      let (same, refused) = after_order-same settings st (shown 0) (other 0) tidying rows merged fails order only.0 in
      (same, refused, front-same settings st (shown 0) (other 0) order rows, alike-without_cleans (after_order settings st (shown 0) order).0 (later shown) (later other) (λ i. alike (suc i)) rest only.1)

  alike-left : (st : Store) (file : List ℕ) (shown other : Reads) → AreSeenAlike shown other → (orders : List Order) → AreLeft settings st file shown orders
      → AreLeft settings st file other orders → AreAlike st shown other orders
  alike-left st file shown other alike [] p q = tt
  alike-left st file shown other alike (order ∷ rest) (first, p) (first_too, q) =
      let (tidying, rows, merged, fails, told) = alike 0 in
      let bytes : (shown 0).bytes ≡ (other 0).bytes = first.0 ∙ sym first_too.0 in
      let last : (shown 0).last ≡ (other 0).last =
      first.1 ∙ ap (λ (f : List ℕ). (cleaned settings (shown 0) (st, f)).1) bytes
      ∙ ap (λ (t : Tidying). (cleaned_by settings (reads_in (shown 0).rows) (tidied settings t (st, (other 0).bytes))).1) tidying
      ∙ ap (λ (r : List CleanRow). (cleaned_by settings (reads_in r) (tidied settings (other 0).tidying (st, (other 0).bytes))).1) rows ∙ sym first_too.1 in
      let seen : shown 0 ≡ other 0 = seen_is (shown 0) (other 0) bytes tidying rows last merged fails told in
      let same = ap (λ (f : Seen). after_order settings st f order) seen in
      let at : Stored = after_order settings st (shown 0) order in
      let here = subst (λ (a : Stored). AreLeft settings a.0 a.1 (later other) rest) (sym same) q in (
        ap (λ (a : Stored). a.0) same,
        ap (λ (f : Seen). refusal_of settings st f order) seen,
        ap (λ (f : Seen). front_lines st f order) seen,
        alike-left at.0 at.1 (later shown) (later other) (λ i. alike (suc i)) rest p here,
      )

module _ (settings : Settings) (st : Store) (shown other : Reads) (alike : AreSeenAlike shown other) where
  told_alike : (i : ℕ) → (shown i).told ≡ (other i).told
  told_alike i = let (tidying, rows, merged, fails, told) = alike i in told

  -- no order is a clean
  module _ (orders : List Order) (only : All IsNoClean orders) where
    same_orders : AreAlike settings st shown other orders
    same_orders = alike-without_cleans settings st shown other alike orders (recursion_from_All IsNoClean orders only)

    pub lines-same : (m : List (List ℕ × List ℕ)) → answer_lines settings st shown m orders ≡ answer_lines settings st other m orders
    lines-same m = lines-alike settings st shown other m orders same_orders

    pub answered-same : (on : Bool) (m : List (List ℕ × List ℕ)) → answered on settings st shown m orders ≡ answered on settings st other m orders
    answered-same on m = answered-alike settings on st shown other told_alike m orders same_orders

    pub accepted-same : accepted settings st shown orders ≡ accepted settings st other orders
    accepted-same = accepted-alike settings st shown other orders same_orders

    pub end-same : (on : Bool) → orders_end on settings st shown orders ≡ orders_end on settings st other orders
    end-same on = end-alike settings on st shown other orders same_orders

  -- the disk returns the bytes that were left
  module _ (file : List ℕ) (orders : List Order) (left : AreLeft settings st file shown orders) (left_too : AreLeft settings st file other orders) where
    left_orders : AreAlike settings st shown other orders
    left_orders = alike-left settings st file shown other alike orders left left_too

    pub lines-left : (m : List (List ℕ × List ℕ)) → answer_lines settings st shown m orders ≡ answer_lines settings st other m orders
    lines-left m = lines-alike settings st shown other m orders left_orders

    pub answered-left : (on : Bool) (m : List (List ℕ × List ℕ)) → answered on settings st shown m orders ≡ answered on settings st other m orders
    answered-left on m = answered-alike settings on st shown other told_alike m orders left_orders

    pub accepted-left : accepted settings st shown orders ≡ accepted settings st other orders
    accepted-left = accepted-alike settings st shown other orders left_orders

    pub end-left : (on : Bool) → orders_end on settings st shown orders ≡ orders_end on settings st other orders
    end-left on = end-alike settings on st shown other orders left_orders

-- ---- reads of a disk that returns the bytes that were left

abbrev shown_left : Settings → Store → List ℕ → List Order → Reads
shown_left settings st file [] = λ i. untidied file
shown_left settings st file (order ∷ rest) =
    let left : Stored = after_order settings st (untidied file) order in first_shown (untidied file) (shown_left settings left.0 left.1 rest)

untidied_first : (file : List ℕ) (shown : Reads) → AreUntidied shown → AreUntidied (first_shown (untidied file) shown)
untidied_first file shown none zero = refl
untidied_first file shown none (suc i) = none i

AreUntidied-left : (settings : Settings) (st : Store) (file : List ℕ) (orders : List Order) → AreUntidied (shown_left settings st file orders)
AreUntidied-left settings st file [] = λ i. refl
AreUntidied-left settings st file (order ∷ rest) =
    let left : Stored = after_order settings st (untidied file) order in
    untidied_first file (shown_left settings left.0 left.1 rest) (AreUntidied-left settings left.0 left.1 rest)

AreLeft-left : (settings : Settings) (st : Store) (file : List ℕ) (orders : List Order) → AreLeft settings st file (shown_left settings st file orders) orders
AreLeft-left settings st file [] = tt
AreLeft-left settings st file (order ∷ rest) =
    let left : Stored = after_order settings st (untidied file) order in ((refl, refl), AreLeft-left settings left.0 left.1 rest)

pub some_left : (settings : Settings) (st : Store) (file : List ℕ) (orders : List Order) → (shown : Reads) × AreUntidied shown × AreLeft settings st file shown orders
some_left settings st file orders = (shown_left settings st file orders, AreUntidied-left settings st file orders, AreLeft-left settings st file orders)
