use Rattle.std.proofs.Common.{◌≡◌, ℕ, List, Option, None, true, refl, sym, ◌∙◌}
use Rattle.std.proofs.lemmas.Map.Keys.{sorted_tail}
use Rattle.std.specs.Map.{keys_of}
use Rattle.keys.specs.Order.{order, IsRising}
use Rattle.keys.specs.Range.{is_before, in_range}
use Rattle.delta_chain.specs.Layers.{with_run}
use Rattle.scan.specs.Leaf.{from}
use Rattle.page_runs.specs.PageRows.{named_by_either}
use Rattle.page_runs.proofs.NamedRows.{keys_of_changes, keys-start, key-present, key-absent, keys-past, keys-none}
use Rattle.page_runs.proofs.page_rows.keys_left.Goals.{in_default, in-Some+then-not-is_before_end}
use Rattle.page_runs.proofs.page_rows.keys_left.Goals as goal

-- the keys that all from the low key on give are those of the range
of_range : {V : Type 0} (end : Option (List ℕ)) (out : List (List ℕ)) (named : List (List ℕ × Option V)) → out ≡ keys_of_changes end named
    → (pairs : List (List ℕ × V)) (changes : List (List ℕ × Option V)) (low : List ℕ) → IsRising pairs → IsRising changes → named ≡ named_by_either (from low pairs) (in_range low None changes) → out ≡ keys_of (in_range low end (with_run pairs changes))
of_range end out named h pairs changes low r s e = h ∙ rw e (keys-start low end pairs changes r s)

pub loop-key-init : goal.loop-key-init
loop-key-init c = record { all = rw c.new-keys.ensures.items refl; rising = c.requires }

pub loop-key-preserved-in_ok-push : goal.loop-key-preserved-in_ok-push
loop-key-preserved-in_ok-push c =
    let next = c.in-Some.ensures in
    let before : is_before c.args.end.now c.in-Some.key.now ≡ true = sym c.is_before_end.ensures ∙ c.if-not-is_before_end.false in
    record {
      all = rw (c.in_ok-push.ensures.items, c.in_ok-from_bytes.ensures) (key-present c.args.end.now c.loop-key.keys.items _ c.in-Some.key.now c.in-Some.value c.step.new.self (sym c.is_some.ensures ∙ c.if-is_some.true) before (rw next at c.loop-key.invariant.all));
      rising = sorted_tail order c.in-Some.key.now (keys_of c.step.new.self) (rw next at c.loop-key.invariant.rising);
    }

pub loop-key-preserved : goal.loop-key-preserved
loop-key-preserved c =
    let next = c.in-Some.ensures in
    record {
      all = key-absent c.args.end.now c.loop-key.keys.items _ c.in-Some.key.now c.in-Some.value c.step.new.self (sym c.is_some.ensures ∙ c.if-is_some.false) (rw next at c.loop-key.invariant.all);
      rising = sorted_tail order c.in-Some.key.now (keys_of c.step.new.self) (rw next at c.loop-key.invariant.rising);
    }

pub returns : goal.returns
returns c = of_range c.args.end.now c.loop-key.keys.items c.args.named.now (elim c.match-step.branch [
  | in_default w ↦ keys-none c.args.end.now c.loop-key.keys.items _ c.loop-key.named w.in_default.ensures.0 c.loop-key.invariant.all
  | in-Some+then-not-is_before_end w ↦
      (let next = w.in-Some.ensures in
      keys-past c.args.end.now c.loop-key.keys.items _ w.in-Some.key.now _ c.step.new.self (rw next at c.loop-key.invariant.rising) (sym w.is_before_end.ensures ∙ w.if-not-is_before_end.true) (rw next at c.loop-key.invariant.all))
])
