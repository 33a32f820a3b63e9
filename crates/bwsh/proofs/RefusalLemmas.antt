-- Lemmas on a stream after a refusal or a bad line.
use Rattle.std.proofs.Common.{◌≡◌, ◌+◌, ◌<◌, ◌⊎◌, ◌||◌, ◌&&◌, ◌==◌, not, nat_lt, if◌then◌else◌, inl, inr, ℕ, suc, Bool, true, false, cond, length, arith, List, [], ◌∷◌, ◌++◌, Option, Some, None, Ok, Err, refl, sym, ap, ◌∙◌, length-append}
use Rattle.std.specs.Option.{option_or}
use Rattle.std.specs.declared.alloc.Global.{Global}
use Rattle.std.proofs.lemmas.Bool.{eq-eqb, lt-ltb, ne_eqb}
use Rattle.keys.specs.Bytes.{Bytes, Pairs}
use Rattle.keys.specs.declared.command.Command.{Command}
use Rattle.keys.specs.declared.fault.Fault.{Fault}
use Rattle.keys.specs.declared.fault.Fault.TheVariants.{BatchTooLong, NoMemory}
use Rattle.keys.specs.declared.settings.Settings.{Settings}
use Rattle.mapping.specs.Levels.{contents}
use Rattle.mapping.specs.Tree.{Store}
use Rattle.climb_plan.specs.Plan.{planned_tree}
use Rattle.engine.specs.Batch.{height_fault}
use Rattle.engine.specs.Refusal.{first_fault}
use Rattle.engine.specs.Steps.{Answer, Step, Stepped, after_step, batching, unless_refused}
use Rattle.engine.specs.Tokens.{most_rows}
use Rattle.bwsh.specs.declared.line.Line.{Line}
use Rattle.bwsh.specs.declared.line.Line.TheVariants.{Bad, Blank, Go}
use Rattle.bwsh.specs.declared.line.Line.TheVariants as line_variants
use Rattle.bwsh.specs.declared.line.Why.{Why}
use Rattle.bwsh.specs.declared.line.Why.TheVariants.{TooManyRows}
use Rattle.bwsh.specs.declared.order.Bounds.{Bounds}
use Rattle.bwsh.specs.declared.order.Order.{Order}
use Rattle.bwsh.specs.declared.order.Order.TheVariants.{BadLine, Batch, Flush, Lost, Tidy}
use Rattle.bwsh.specs.BatchFile.{IsInBatch, IsReadAs, Pending, asked, asks_too_much, first_bad, is_too_long, or_over}
use Rattle.bwsh.specs.BatchFile.Pending.{begun, skipped}
use Rattle.bwsh.specs.Session.{Reads, Seen, Stored, after_order, answer_then, answered, by_batches, fault_line, front_lines, later, left_by, left_by_step, left_unless, map_unless, own_lines, own_refusal, refusal_of, readied, refusal_of_step, refused_by, step_in}
use Rattle.bwsh.proofs.TidiedLemmas.{holds-cleaned, holds-tidied}

-- ---- a refusal

step_left : (at : Stored) (r : Stepped Global) (fault : Fault) → refused_by r ≡ Some fault → left_by at r ≡ at
step_left at (Ok p) fault e = absurd (cc)
step_left at (Err other) fault e = refl

-- a step that is refused does not change the stored data
step_refused : (settings : Settings) (at : Stored) (step : Option (Step Global)) (fault : Fault) → refusal_of_step settings at step ≡ Some fault → left_by_step settings at step ≡ at
step_refused settings at None fault e = refl
step_refused settings at (Some x) fault e = step_left at (after_step (batching settings) settings at.0 at.1 x) fault e

-- an order is no step, or is refused by definition as its step is
step_or_none : (settings : Settings) (order : Order) → (step_in order ≡ None) ⊎ ((at : Stored) → own_refusal settings at order ≡ refusal_of_step settings at (step_in order))
step_or_none settings Lost = inl refl
step_or_none settings _ = inr (λ at. refl)

own_refused : (settings : Settings) (at : Stored) (order : Order) (fault : Fault) → own_refusal settings at order ≡ Some fault → left_by_step settings at (step_in order) ≡ at
own_refused settings at order fault e = by (step_or_none settings order)
  where
    by : (step_in order ≡ None) ⊎ ((other : Stored) → own_refusal settings other order ≡ refusal_of_step settings other (step_in order)) → left_by_step settings at (step_in order) ≡ at
    by (inl none) = ap (left_by_step settings at) none
    by (inr same) = step_refused settings at (step_in order) fault (sym (same at) ∙ e)

left_refused : (settings : Settings) (at : Stored) (order : Order) (fails : Option Fault) (fault : Fault) → option_or fails (own_refusal settings at order) ≡ Some fault
    → left_unless fails at (left_by_step settings at (step_in order)) ≡ at
left_refused settings at order None fault e = own_refused settings at order fault e
left_refused settings at order (Some other) fault e = refl

-- the store that was prepared for an order has the same pairs
held_before : (order : Order) (settings : Settings) (seen : Seen) (at : Stored) → contents (readied order settings seen at).0.tree ≡ contents at.0.tree
held_before Flush settings seen at = holds-cleaned settings seen at
held_before (Tidy most) settings seen at = holds-tidied settings (by_batches seen.merged) at
held_before _ settings seen at = refl

-- an order that is refused changes no pair
pub refused-holds : (settings : Settings) (st : Store) (seen : Seen) (order : Order) (fault : Fault) → refusal_of settings st seen order ≡ Some fault
    → contents (after_order settings st seen order).0.tree ≡ contents st.tree
unfolding after_order refusal_of
refused-holds settings st seen order fault e =
    let at : Stored = readied order settings seen (st, seen.bytes) in
    ap (λ (left : Stored). contents left.0.tree) (left_refused settings at order seen.fails fault e) ∙ held_before order settings seen (st, seen.bytes)

-- it is answered by a line, after those of the cleans before it, and the others follow
pub answered-refused : (settings : Settings) (st : Store) (shown : Reads) (m : Pairs Bytes) (order : Order) (rest : List Order) (fault : Fault) → refusal_of settings st (shown 0) order ≡ Some fault
    → answered true settings st shown m (order ∷ rest) ≡ front_lines st (shown 0) order ++ fault_line (shown 0).told ∷ answered true settings (after_order settings st (shown 0) order).0 (later shown) m rest
answered-refused settings st shown m order rest fault e =
    ap (λ (r : Option Fault). answer_then true r (shown 0).told (front_lines st (shown 0) order) (own_lines settings st (shown 0) m order)
    (answered true settings (after_order settings st (shown 0) order).0 (later shown) (map_unless r m order) rest)) e

refused_batch : (r : Option Fault) (answer : Answer Global) (st : Store) (file : Bytes) → refused_by (unless_refused r answer st file) ≡ r
refused_batch None answer st file = refl
refused_batch (Some fault) answer st file = refl

-- a batch that is too long is refused
pub refusal-too_long : (settings : Settings) (st : Store) (seen : Seen) → seen.fails ≡ None → (commands : List (Command Global)) → 65535 < length commands
    → refusal_of settings st seen (Batch commands) ≡ Some BatchTooLong
unfolding refusal_of
refusal-too_long settings st seen none commands many =
    ap (λ (r : Option Fault). option_or r (own_refusal settings (st, seen.bytes) (Batch commands))) none
    ∙ refused_batch _ _ _ seen.bytes
    ∙ ap (λ (b : Bool). option_or (cond b (Some BatchTooLong) (first_fault settings 0 commands)) (height_fault (planned_tree settings st.tree commands).height))
    (lt-ltb 65535 (length commands) many)

-- a batch that lost a line is also refused
pub refusal-lost : (settings : Settings) (st : Store) (seen : Seen) → seen.fails ≡ None → refusal_of settings st seen Lost ≡ Some NoMemory
unfolding refusal_of
refusal-lost settings st seen none = ap (λ (r : Option Fault). option_or r (Some NoMemory)) none

-- ---- a batch that is skipped

one_more : (n k : ℕ) → n + 1 + k ≡ n + suc k
one_more n k = omega arith

skipped_over : (bounds : Bounds) (n : ℕ) (front tail : List Line) → IsInBatch front → asked bounds n skipped (front ++ tail) ≡ asked bounds (n + length front) skipped tail
skipped_over bounds n [] tail inside = ap (λ (k : ℕ). asked bounds k skipped tail) (omega arith)
skipped_over bounds n (Go ∷ front) tail inside = absurd inside
skipped_over bounds n (line_variants.Order order ∷ front) tail inside = absurd inside
skipped_over bounds n (Blank ∷ front) tail inside = skipped_over bounds (n + 1) front tail inside ∙ ap (λ (k : ℕ). asked bounds k skipped tail) (one_more n (length front))
skipped_over bounds n (line_variants.Command command ∷ front) tail inside = skipped_over bounds (n + 1) front tail inside ∙ ap (λ (k : ℕ). asked bounds k skipped tail) (one_more n (length front))
skipped_over bounds n (Bad why ∷ front) tail inside = skipped_over bounds (n + 1) front tail inside ∙ ap (λ (k : ℕ). asked bounds k skipped tail) (one_more n (length front))
skipped_over bounds n (line_variants.Lost ∷ front) tail inside = skipped_over bounds (n + 1) front tail inside ∙ ap (λ (k : ℕ). asked bounds k skipped tail) (one_more n (length front))

one_after : (n k : ℕ) → n + k + 1 ≡ n + (k + 1)
one_after n k = omega arith

-- up to a line `go`
pub skipped-go : (bounds : Bounds) (n : ℕ) (front : List Line) → IsInBatch front → (rest : List Line) → asked bounds n skipped (front ++ Go ∷ rest) ≡ asked bounds (n + (length front + 1)) (begun []) rest
skipped-go bounds n front inside rest =
    skipped_over bounds n front (Go ∷ rest) inside ∙ ap (λ (k : ℕ). asked bounds k (begun []) rest) (one_after n (length front))

-- or up to a line with its own order, which is run
pub skipped-order : (bounds : Bounds) (n : ℕ) (front : List Line) → IsInBatch front → (order : Order) (rest : List Line)
    → asked bounds n skipped (front ++ line_variants.Order order ∷ rest) ≡ order ∷ asked bounds (n + (length front + 1)) (begun []) rest
skipped-order bounds n front inside order rest =
    skipped_over bounds n front (line_variants.Order order ∷ rest) inside ∙ ap (λ (k : ℕ). order ∷ asked bounds k (begun []) rest) (one_after n (length front))

-- ---- a batch that is over a bound

if_over : (bounds : Bounds) (n : ℕ) (cs : List (Command Global)) (next : Pending → List Order) (too_much too_long : Bool) → asks_too_much bounds cs ≡ too_much → is_too_long bounds cs ≡ too_long
    → or_over bounds n cs next ≡ (if too_much || too_long then (if too_much then BadLine n TooManyRows else Batch cs) ∷ next skipped else next (begun cs))
if_over bounds n cs next too_much too_long rows long = rw (← rows, ← long) refl

-- the command that makes a batch ask for too many rows is a bad line
pub asked-too_many : (bounds : Bounds) → bounds.is_stream ≡ true → 0 < bounds.max_rows → (n : ℕ) (pending : List (Command Global)) (command : Command Global)
    → bounds.max_rows < most_rows (pending ++ command ∷ []) → (rest : List Line)
    → asked bounds n (begun pending) (line_variants.Command command ∷ rest) ≡ BadLine n TooManyRows ∷ asked bounds (n + 1) skipped rest
asked-too_many bounds streams some n pending command many rest =
    let more : List (Command Global) = pending ++ command ∷ [] in
    let bounded : (bounds.max_rows == 0) ≡ false = ne_eqb bounds.max_rows 0 (λ none. omega (arith, some, none)) in
    let beyond : nat_lt bounds.max_rows (most_rows more) ≡ true = lt-ltb bounds.max_rows (most_rows more) many in
    let over : asks_too_much bounds more ≡ true = all_three bounds.is_stream (bounds.max_rows == 0) (nat_lt bounds.max_rows (most_rows more)) streams bounded beyond in
    if_over bounds n more (λ pending. asked bounds (n + 1) pending rest) true (is_too_long bounds more) over refl
  where
    all_three : (a b c : Bool) → a ≡ true → b ≡ false → c ≡ true → (a && not b && c) ≡ true
    all_three true false true e f g = refl
    all_three true false false e f g = absurd (cc)
    all_three true true c e f g = absurd (cc)
    all_three false b c e f g = absurd (cc)

-- the command that makes a batch too long ends it
pub asked-too_long : (bounds : Bounds) → bounds.is_stream ≡ true → (n : ℕ) (pending : List (Command Global)) → length pending ≡ 65535 → (command : Command Global)
    → asks_too_much bounds (pending ++ command ∷ []) ≡ false → (rest : List Line)
    → asked bounds n (begun pending) (line_variants.Command command ∷ rest) ≡ Batch (pending ++ command ∷ []) ∷ asked bounds (n + 1) skipped rest
asked-too_long bounds streams n pending many command few rest =
    let more : List (Command Global) = pending ++ command ∷ [] in
    let beyond : nat_lt 65535 (length more) ≡ true = lt-ltb 65535 (length more) (omega (arith, many, length-append pending (command ∷ []))) in
    if_over bounds n more (λ pending. asked bounds (n + 1) pending rest) false true few (both bounds.is_stream (nat_lt 65535 (length more)) streams beyond)
  where
    both : (a b : Bool) → a ≡ true → b ≡ true → (a && b) ≡ true
    both true b e f = f
    both false b e f = absurd (cc)

-- a bound of 0 is none
pub never_over : (bounds : Bounds) → bounds.max_rows ≡ 0 → (commands : List (Command Global)) → asks_too_much bounds commands ≡ false
never_over bounds none commands = by bounds.is_stream (bounds.max_rows == 0) (nat_lt bounds.max_rows (most_rows commands)) (eq-eqb bounds.max_rows 0 none)
  where
    by : (a b c : Bool) → b ≡ true → (a && not b && c) ≡ false
    by true true c e = refl
    by false b c e = refl
    by true false c e = absurd (cc)

-- ---- a line that ends a batch

-- it was read as it is, or it is refused
pub order-read : (order : Order) (got : Line) → IsReadAs true (line_variants.Order order) got → (got ≡ line_variants.Order order) ⊎ (got ≡ line_variants.Order Lost)
order-read order got read = read

pub go-read : (got : Line) → IsReadAs true Go got → got ≡ Go
go-read got (inl is) = is
go-read got (inr lost) = absurd lost

-- ---- the first bad line

bad_after : (n : ℕ) (front : List Line) → first_bad n front ≡ None → (why : Why) (rest : List Line) → first_bad n (front ++ Bad why ∷ rest) ≡ Some (n + length front, why)
bad_after n [] good why rest = ap (λ (k : ℕ). Some (k, why)) (omega arith)
bad_after n (Bad other ∷ front) good why rest = absurd (cc)
bad_after n (_ ∷ front) good why rest = bad_after (n + 1) front good why rest ∙ ap (λ (k : ℕ). Some (k, why)) (omega arith)

pub first_bad-after : (front : List Line) → first_bad 1 front ≡ None → (why : Why) (rest : List Line) → first_bad 1 (front ++ Bad why ∷ rest) ≡ Some (length front + 1, why)
first_bad-after front good why rest = bad_after 1 front good why rest ∙ ap (λ (k : ℕ). Some (k, why)) (omega arith)
