use Rattle.std.proofs.Common.{◌≡◌, ◌<◌, ◌-◌, ℕ, List, Option, None, true, length, refl, sym, ◌∙◌, arith}
use Rattle.std.proofs.lemmas.Map.Keys.{sorted_tail}
use Rattle.std.specs.Map.{keys_of}
use Rattle.keys.specs.Order.{order, IsRising}
use Rattle.keys.specs.Range.{is_before, in_range, rows}
use Rattle.delta_chain.specs.Layers.{with_run}
use Rattle.scan.specs.Leaf.{from}
use Rattle.page_runs.specs.PageRows.{named_by_either}
use Rattle.page_runs.proofs.NamedRows.{rows_of_changes, rows-start, row-added, row-absent, rows-full, rows-past, rows-none}
use Rattle.page_runs.proofs.page_rows.rows_left.Goals.{in_default, in-Some+then-len-limit, then-len-limit-via-then-len-limit, then-len-limit-via-else-len-limit+then-not-is_before_end}
use Rattle.page_runs.proofs.page_rows.rows_left.Goals as goal

-- the rows that all keys from the low key on give are those of the range
of_range : {V : Type 0} (end : Option (List ℕ)) (limit : ℕ) (out : List (List ℕ × V)) (named : List (List ℕ × Option V)) → out ≡ rows_of_changes end (limit - 0) named
    → (pairs : List (List ℕ × V)) (changes : List (List ℕ × Option V)) (low : List ℕ) → IsRising pairs → IsRising changes → named ≡ named_by_either (from low pairs) (in_range low None changes) → out ≡ rows low end limit (with_run pairs changes)
of_range end limit out named h pairs changes low r s e = h ∙ rw e (rows-start low end limit pairs changes r s)

pub loop-key-init : goal.loop-key-init
loop-key-init c = record { all = rw c.empty-rows.ensures refl; rising = c.requires }

pub loop-key-preserved-in-Continue-1 : goal.loop-key-preserved-in-Continue-1
loop-key-preserved-in-Continue-1 c =
    let next = c.in-Some.ensures in
    let few : length c.loop-key.rows < c.args.limit = omega (arith, c.len.ensures) in
    let before : is_before c.args.end.now c.in-Some.key.now ≡ true = sym c.is_before_end.ensures ∙ c.if-not-is_before_end.false in
    record {
      all = rw (c.in_ok-push.ensures.ok, c.as_bytes.ensures) (row-added c.args.end.now c.args.limit c.loop-key.rows _ c.in-Some.key.now _ c.step.new.self few before (rw (next, c.in-Some-value.is) at c.loop-key.invariant.all));
      rising = sorted_tail order c.in-Some.key.now (keys_of c.step.new.self) (rw next at c.loop-key.invariant.rising);
    }

pub loop-key-preserved : goal.loop-key-preserved
loop-key-preserved c =
    let next = c.in-Some.ensures in
    record {
      all = row-absent c.args.end.now _ c.loop-key.rows _ c.in-Some.key.now c.in-Some.value c.step.new.self c.in_default-value.not-Some (rw next at c.loop-key.invariant.all);
      rising = sorted_tail order c.in-Some.key.now (keys_of c.step.new.self) (rw next at c.loop-key.invariant.rising);
    }

pub returns : goal.returns
returns c = of_range c.args.end.now c.args.limit c.loop-key.rows c.args.named.now (elim c.match-step.branch [
  | in_default w ↦ rows-none c.args.end.now _ c.loop-key.rows _ c.loop-key.named w.in_default.ensures.0 c.loop-key.invariant.all
  | in-Some+then-len-limit w ↦ elim w.then-len-limit.branch [
    | then-len-limit-via-then-len-limit w' ↦ rows-full c.args.end.now c.args.limit c.loop-key.rows _ c.loop-key.named (omega (arith, w.len.ensures)) c.loop-key.invariant.all
    | then-len-limit-via-else-len-limit+then-not-is_before_end w' ↦ (let next = w.in-Some.ensures in rows-past c.args.end.now _ c.loop-key.rows _ w.in-Some.key.now _ c.step.new.self (rw next at c.loop-key.invariant.rising) (sym w'.is_before_end.ensures ∙ w'.if-not-is_before_end.true) (rw next at c.loop-key.invariant.all))
  ]
])
