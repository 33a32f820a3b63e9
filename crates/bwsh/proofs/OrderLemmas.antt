-- Lemmas on lines and their orders.
use Rattle.std.proofs.Common.{◌≡◌, ◌+◌, ◌||◌, ◌&&◌, ◌==◌, nat_lt, ◌<◌, ◌⊎◌, ℕ, Bool, true, false, cond, length, not, Option, Some, None, Result, Ok, Err, IfErr, IsErrAnd, arith, List, [], ◌∷◌, ◌++◌, map, refl, sym, ap, ◌∙◌, append_assoc, append-nil, length-append, inl, inr, subst}
use Rattle.std.specs.List.{AllByRecursion, flat_map, list_all, list_any}
use Rattle.std.specs.declared.alloc.Global.{Global}
use Rattle.std.proofs.lemmas.Bool.{and_parts, lt-ltb, ltb-true}
use Rattle.keys.specs.declared.command.Command.{Command}
use Rattle.engine.specs.Tokens.{most_rows, row_limit}
use Rattle.bwsh.specs.declared.line.Line.{Line}
use Rattle.bwsh.specs.declared.line.Line.TheVariants.{Blank, Go, Bad}
use Rattle.bwsh.specs.declared.line.Line.TheVariants as line_variants
use Rattle.bwsh.specs.declared.line.Why.{Why}
use Rattle.bwsh.specs.declared.order.Bounds.{Bounds}
use Rattle.bwsh.specs.declared.order.Order.{Order}
use Rattle.bwsh.specs.declared.order.Order.TheVariants.{Batch}
use Rattle.bwsh.specs.declared.session.SessionError.{SessionError}
use Rattle.bwsh.specs.declared.session.SessionError.TheVariants as errors
use Rattle.bwsh.specs.BatchFile.{IsBatch, IsForBatches, IsReadError, IsWithin, are_within_bounds, asked, batch_lines, commands_of, commands_of_lines, first_bad, is_over, is_within_bounds, last_order, line_writes, orders_of, over_order, writes}
use Rattle.bwsh.specs.BatchFile.Pending.{begun, skipped}

-- ---- commands

commands-last_order : (pending : List (Command Global)) → flat_map commands_of (last_order pending) ≡ pending ++ []
commands-last_order [] = refl
commands-last_order (command ∷ commands) = refl

-- and before other orders
commands-last_first : (pending : List (Command Global)) (orders : List Order) → flat_map commands_of (last_order pending ++ orders) ≡ pending ++ flat_map commands_of orders
commands-last_first [] orders = refl
commands-last_first (command ∷ commands) orders = refl

-- the pending commands come first, and then the commands of the lines
pub commands-orders_of : (pending : List (Command Global)) (parsed : List Line) → flat_map commands_of (orders_of pending parsed) ≡ pending ++ commands_of_lines parsed
commands-orders_of pending [] = commands-last_order pending
commands-orders_of pending (line_variants.Command command ∷ rest) =
    commands-orders_of (pending ++ command ∷ []) rest ∙ append_assoc pending (command ∷ []) (commands_of_lines rest)
commands-orders_of pending (Go ∷ rest) = ap (λ (cs : List (Command Global)). pending ++ cs) (commands-orders_of [] rest)
commands-orders_of pending (line_variants.Order order ∷ rest) =
    commands-last_first pending (order ∷ orders_of [] rest) ∙ ap (λ (cs : List (Command Global)). pending ++ (commands_of order ++ cs)) (commands-orders_of [] rest)
commands-orders_of pending (Blank ∷ rest) = commands-orders_of pending rest
commands-orders_of pending (Bad why ∷ rest) = commands-orders_of pending rest
commands-orders_of pending (line_variants.Lost ∷ rest) = commands-orders_of pending rest

one_batch : (pending commands : List (Command Global)) (rest : List Line) → orders_of pending (batch_lines commands ++ rest) ≡ Batch (pending ++ commands) ∷ orders_of [] rest
one_batch pending [] rest = ap (λ (cs : List (Command Global)). Batch cs ∷ orders_of [] rest) (sym (append-nil pending))
one_batch pending (command ∷ commands) rest =
    one_batch (pending ++ command ∷ []) commands rest
    ∙ ap (λ (cs : List (Command Global)). Batch cs ∷ orders_of [] rest) (append_assoc pending (command ∷ []) commands)

-- the orders of the lines of some batches are those batches
pub orders_of-batch_lines : (batches : List (List (Command Global))) → orders_of [] (flat_map batch_lines batches) ≡ map (λ commands. Batch commands) batches
orders_of-batch_lines [] = refl
orders_of-batch_lines (commands ∷ batches) =
    one_batch [] commands (flat_map batch_lines batches)
    ∙ ap (λ (orders : List Order). Batch commands ∷ orders) (orders_of-batch_lines batches)

-- if each line is a command, `go` or blank, all orders are batches
batches-last_order : (pending : List (Command Global)) → AllByRecursion IsBatch (last_order pending)
batches-last_order [] = tt
batches-last_order (command ∷ commands) = (tt, tt)

pub batches-orders_of : (pending : List (Command Global)) (parsed : List Line) → AllByRecursion IsForBatches parsed → AllByRecursion IsBatch (orders_of pending parsed)
batches-orders_of pending [] only = batches-last_order pending
batches-orders_of pending (line_variants.Command command ∷ rest) only = batches-orders_of (pending ++ command ∷ []) rest only.1
batches-orders_of pending (Go ∷ rest) only = (tt, batches-orders_of [] rest only.1)
batches-orders_of pending (line_variants.Order order ∷ rest) only = absurd only.0
batches-orders_of pending (Blank ∷ rest) only = batches-orders_of pending rest only.1
batches-orders_of pending (Bad why ∷ rest) only = batches-orders_of pending rest only.1
batches-orders_of pending (line_variants.Lost ∷ rest) only = batches-orders_of pending rest only.1

-- ---- whether a text writes to the disk

writes-last_order : (pending : List (Command Global)) → list_any writes (last_order pending) ≡ false
writes-last_order [] = refl
writes-last_order (command ∷ commands) = refl

writes-last_first : (pending : List (Command Global)) (orders : List Order) → list_any writes (last_order pending ++ orders) ≡ list_any writes orders
writes-last_first [] orders = refl
writes-last_first (command ∷ commands) orders = refl

-- an order of the lines writes to the disk if a line is such an order
pub writes-orders_of : (pending : List (Command Global)) (parsed : List Line) → list_any writes (orders_of pending parsed) ≡ list_any line_writes parsed
writes-orders_of pending [] = writes-last_order pending
writes-orders_of pending (line_variants.Command command ∷ rest) = writes-orders_of (pending ++ command ∷ []) rest
writes-orders_of pending (Go ∷ rest) = writes-orders_of [] rest
writes-orders_of pending (line_variants.Order order ∷ rest) =
    writes-last_first pending (order ∷ orders_of [] rest) ∙ ap (λ (b : Bool). writes order || b) (writes-orders_of [] rest)
writes-orders_of pending (Blank ∷ rest) = writes-orders_of pending rest
writes-orders_of pending (Bad why ∷ rest) = writes-orders_of pending rest
writes-orders_of pending (line_variants.Lost ∷ rest) = writes-orders_of pending rest

or_assoc : (a b c : Bool) → ((a || b) || c) ≡ (a || (b || c))
or_assoc true b c = refl
or_assoc false b c = refl

or_false : (a : Bool) → (a || false) ≡ a
or_false true = refl
or_false false = refl

-- after one more line, the orders so far together with the remaining lines write if they did before
pub writes-next : (before after : Bool) (said : Line) (rest : List Line) (all : Bool) → (before || list_any line_writes (said ∷ rest)) ≡ all
    → after ≡ (before || line_writes said) → (after || list_any line_writes rest) ≡ all
writes-next before after said rest all e is = ap (λ (b : Bool). b || list_any line_writes rest) is ∙ or_assoc before (line_writes said) (list_any line_writes rest) ∙ e

-- after the last line, the result is whether the orders write
pub writes-end : (before after : Bool) (parsed : List Line) → (before || list_any line_writes []) ≡ list_any line_writes parsed → after ≡ before
    → after ≡ list_any writes (orders_of [] parsed)
writes-end before after parsed e is = is ∙ sym (or_false before) ∙ e ∙ sym (writes-orders_of [] parsed)

-- ---- the first bad line

-- a line that was read, and is neither bad nor lost, is the parsed one
pub read_within : (said got : Line) → (got ≡ said) ⊎ (got ≡ line_variants.Lost) → IsWithin (got ∷ []) → got ≡ said
read_within said got (inl e) within = e
read_within said got (inr e) within = absurd (subst (λ (l : Line). IsWithin (l ∷ [])) e within)

first_bad-within : (n : ℕ) (said : Line) (rest : List Line) → IsWithin (said ∷ []) → first_bad n (said ∷ rest) ≡ first_bad (n + 1) rest
first_bad-within n Blank rest within = refl
first_bad-within n (line_variants.Command command) rest within = refl
first_bad-within n Go rest within = refl
first_bad-within n (line_variants.Order order) rest within = refl
first_bad-within n (Bad why) rest within = absurd within
first_bad-within n line_variants.Lost rest within = absurd within

-- then the first bad line is one of the others
pub first_bad-next : (n : ℕ) (said got : Line) (rest : List Line) → (got ≡ said) ⊎ (got ≡ line_variants.Lost) → IsWithin (got ∷ [])
    → first_bad n (said ∷ rest) ≡ first_bad (n + 1) rest
first_bad-next n said got rest read within =
    first_bad-within n said rest (subst (λ (l : Line). IsWithin (l ∷ [])) (read_within said got read within) within)

-- an error that needs no bad line is right, whichever line is bad
error_without_bad : (bad : Option (ℕ × Why)) (e : SessionError) → IsReadError None e → IsReadError bad e
error_without_bad bad (errors.Words error) right = right
error_without_bad bad (errors.Bad line why) right = absurd (let none : None ≡ Some (line, why) = right in cc)
error_without_bad bad (errors.Fault fault) right = right
error_without_bad bad errors.Device right = tt

error_of_line : (n : ℕ) (said : Line) (rest : List Line) (e : SessionError) → IsReadError (first_bad n (said ∷ [])) e → IsReadError (first_bad n (said ∷ rest)) e
error_of_line n Blank rest e right = error_without_bad (first_bad (n + 1) rest) e right
error_of_line n (line_variants.Command command) rest e right = error_without_bad (first_bad (n + 1) rest) e right
error_of_line n Go rest e right = error_without_bad (first_bad (n + 1) rest) e right
error_of_line n (line_variants.Order order) rest e right = error_without_bad (first_bad (n + 1) rest) e right
error_of_line n (Bad why) rest e right = right
error_of_line n line_variants.Lost rest e right = error_without_bad (first_bad (n + 1) rest) e right

-- an error of a line is an error of the text, if this line is the first of the remaining ones
pub read_error : (n : ℕ) (said got : Line) (rest : List Line) (bad : Option (ℕ × Why)) (e : SessionError) → (got ≡ said) ⊎ (got ≡ line_variants.Lost)
    → first_bad n (said ∷ rest) ≡ bad → IsReadError (first_bad n (got ∷ [])) e → IsReadError bad e
read_error n said got rest bad e (inl same) is right =
    subst (λ (o : Option (ℕ × Why)). IsReadError o e) is (error_of_line n said rest e (subst (λ (l : Line). IsReadError (first_bad n (l ∷ [])) e) same right))
read_error n said got rest bad e (inr lost) is right = error_without_bad bad e (subst (λ (l : Line). IsReadError (first_bad n (l ∷ [])) e) lost right)

pub handed_on : {X : Type 0} (r : Result X SessionError) (e : SessionError) (P : SessionError → Type 0) → IsErrAnd r (λ f. f ≡ e) → P e → IfErr r P
handed_on (Ok x) e P h p = absurd h
handed_on (Err f) e P h p = subst P (sym h) p

-- ---- a text is a stream that was read to its end

most_rows-push : (cs : List (Command Global)) (c : Command Global) → most_rows (cs ++ c ∷ []) ≡ most_rows cs + row_limit c
most_rows-push [] c = omega arith
most_rows-push (d ∷ cs) c = let more = most_rows-push cs c in omega (arith, more)

or_true : (b : Bool) → (b || true) ≡ true
or_true true = refl
or_true false = refl

-- a batch that is over a bound stays over it with one more command
over-more : (bounds : Bounds) (cs : List (Command Global)) (c : Command Global) → is_over bounds cs ≡ true → is_over bounds (cs ++ c ∷ []) ≡ true
over-more bounds cs c over =
    by bounds.is_stream (bounds.max_rows == 0) (nat_lt bounds.max_rows (most_rows cs)) (nat_lt bounds.max_rows (most_rows more)) (nat_lt 65535 (length cs)) (nat_lt 65535 (length more)) rows_more
    length_more over
  where
    more : List (Command Global)
    more = cs ++ c ∷ []

    rows_more : nat_lt bounds.max_rows (most_rows cs) ≡ true → nat_lt bounds.max_rows (most_rows more) ≡ true
    rows_more beyond =
        let many : bounds.max_rows < most_rows cs = ltb-true bounds.max_rows (most_rows cs) beyond in
        lt-ltb bounds.max_rows (most_rows more) (omega (arith, many, most_rows-push cs c))

    length_more : nat_lt 65535 (length cs) ≡ true → nat_lt 65535 (length more) ≡ true
    length_more beyond =
        let many : 65535 < length cs = ltb-true 65535 (length cs) beyond in
        lt-ltb 65535 (length more) (omega (arith, many, length-append cs (c ∷ [])))

    by : (stream none rows rows' long long' : Bool) → (rows ≡ true → rows' ≡ true) → (long ≡ true → long' ≡ true) → ((stream && not none && rows) || (stream && long)) ≡ true
        → ((stream && not none && rows') || (stream && long')) ≡ true
    by false none rows rows' long long' f g e = absurd (cc)
    by true false true rows' long long' f g e = ap (λ (b : Bool). b || long') (f refl)
    by true false false rows' true long' f g e = ap (λ (b : Bool). rows' || b) (g refl) ∙ or_true rows'
    by true false false rows' false long' f g e = absurd (cc)
    by true true rows rows' true long' f g e = g refl
    by true true rows rows' false long' f g e = absurd (cc)

none_over : (bounds : Bounds) → is_over bounds [] ≡ false
none_over bounds = by bounds.is_stream (bounds.max_rows == 0) (nat_lt bounds.max_rows 0) below_none
  where
    below_none : nat_lt bounds.max_rows 0 ≡ true → ⊥
    below_none hit = let below : bounds.max_rows < 0 = ltb-true bounds.max_rows 0 hit in omega (arith, below)

    by : (stream none rows : Bool) → (rows ≡ true → ⊥) → ((stream && not none && rows) || (stream && false)) ≡ false
    by true true rows f = refl
    by true false false f = refl
    by true false true f = absurd (f refl)
    by false none rows f = refl

not_within : (b rest : Bool) → b ≡ true → (not b && rest) ≡ false
not_within true rest e = refl
not_within false rest e = absurd (cc)

-- such a batch is one of the orders
over_last : (bounds : Bounds) (cs : List (Command Global)) (orders : List Order) → is_over bounds cs ≡ true → are_within_bounds bounds (last_order cs ++ orders) ≡ false
over_last bounds [] orders over = absurd (let none = none_over bounds in cc)
over_last bounds (c ∷ cs) orders over = not_within (is_over bounds (c ∷ cs)) (list_all (is_within_bounds bounds) orders) over

over_ordered : (bounds : Bounds) (cs : List (Command Global)) (parsed : List Line) → is_over bounds cs ≡ true → are_within_bounds bounds (orders_of cs parsed) ≡ false
over_ordered bounds cs [] over = ap (are_within_bounds bounds) (sym (append-nil (last_order cs))) ∙ over_last bounds cs [] over
over_ordered bounds cs (line_variants.Command command ∷ rest) over = over_ordered bounds (cs ++ command ∷ []) rest (over-more bounds cs command over)
over_ordered bounds cs (Go ∷ rest) over = not_within (is_over bounds cs) (list_all (is_within_bounds bounds) (orders_of [] rest)) over
over_ordered bounds cs (line_variants.Order order ∷ rest) over = over_last bounds cs (order ∷ orders_of [] rest) over
over_ordered bounds cs (Blank ∷ rest) over = over_ordered bounds cs rest over
over_ordered bounds cs (Bad why ∷ rest) over = over_ordered bounds cs rest over
over_ordered bounds cs (line_variants.Lost ∷ rest) over = over_ordered bounds cs rest over

within_if : (b : Bool) (bounds : Bounds) (cs : List (Command Global)) (parsed : List Line) → is_over bounds cs ≡ b → are_within_bounds bounds (orders_of cs parsed) ≡ true → b ≡ false
within_if true bounds cs parsed is within = absurd (let over = over_ordered bounds cs parsed is in cc)
within_if false bounds cs parsed is within = refl

within_last : (bounds : Bounds) (cs : List (Command Global)) (order : Order) (orders : List Order) → are_within_bounds bounds (last_order cs ++ order ∷ orders) ≡ true
    → are_within_bounds bounds orders ≡ true
within_last bounds [] order orders within = (and_parts (is_within_bounds bounds order) (are_within_bounds bounds orders) within).1
within_last bounds (c ∷ cs) order orders within =
    (and_parts (is_within_bounds bounds order) (are_within_bounds bounds orders)
    (and_parts (is_within_bounds bounds (Batch (c ∷ cs))) (are_within_bounds bounds (order ∷ orders)) within).1).1

-- without a bad or lost line, and without a batch that is over a bound, the orders are those of the text
pub asked-orders_of : (bounds : Bounds) (n : ℕ) (cs : List (Command Global)) (parsed : List Line) → IsWithin parsed → are_within_bounds bounds (orders_of cs parsed) ≡ true
    → asked bounds n (begun cs) parsed ≡ orders_of cs parsed
asked-orders_of bounds n cs [] good within = refl
asked-orders_of bounds n cs (line_variants.Command command ∷ rest) good within =
    let more = cs ++ command ∷ [] in
    ap (λ (b : Bool). cond b (over_order bounds n more ∷ asked bounds (n + 1) skipped rest) (asked bounds (n + 1) (begun more) rest)) (within_if (is_over bounds more) bounds more rest refl within)
    ∙ asked-orders_of bounds (n + 1) more rest good within
asked-orders_of bounds n cs (Go ∷ rest) good within =
    ap (λ (os : List Order). Batch cs ∷ os)
    (asked-orders_of bounds (n + 1) [] rest good (and_parts (is_within_bounds bounds (Batch cs)) (are_within_bounds bounds (orders_of [] rest)) within).1)
asked-orders_of bounds n cs (line_variants.Order order ∷ rest) good within =
    ap (λ (os : List Order). last_order cs ++ order ∷ os) (asked-orders_of bounds (n + 1) [] rest good (within_last bounds cs order (orders_of [] rest) within))
asked-orders_of bounds n cs (Blank ∷ rest) good within = asked-orders_of bounds (n + 1) cs rest good within
asked-orders_of bounds n cs (Bad why ∷ rest) good within = absurd good
asked-orders_of bounds n cs (line_variants.Lost ∷ rest) good within = absurd good
