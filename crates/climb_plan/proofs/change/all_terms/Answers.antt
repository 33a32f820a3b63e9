use Rattle.std.proofs.Common.{◌≡◌, ◌<◌, ◌≤◌, ◌+◌, ◌++◌, ◌∷◌, [], ℕ, List, Option, length, take, drop, get_or, refl, sym, ap, subst, ◌∙◌, arith, append_assoc, append-nil}
use Rattle.std.specs.Prelude.{flat_map}
use Rattle.std.proofs.lemmas.List.{drop_more, drop_all}
use Rattle.keys.specs.Bytes.{Separators}
use Rattle.keys.specs.Lists.{flat}
use Rattle.keys.specs.Order.{IsRising}
use Rattle.climb_plan.specs.Rewriting.{Remade, fresh_names, terms_of, terms_by_parent, CanTakeTerms}
use Rattle.climb_plan.proofs.change.all_terms.Goals as goal

-- the next parent, with the remaining groups
module _ (p : ℕ × ℕ) (ps left : List (ℕ × ℕ)) (fs : List Separators) (rs : List Remade) (next : left ≡ p ∷ ps) (can : CanTakeTerms left fs rs) where
  can_next : CanTakeTerms (p ∷ ps) fs rs
  can_next = subst (λ (xs : List (ℕ × ℕ)). CanTakeTerms xs fs rs) next can

  within : p.1 ≤ length rs
  within = can_next.1

  module _ (own : List Remade) (front : own ≡ take p.1 rs) (count : length own ≡ p.1) where
    freed_rise : IsRising (flat (take (length own) fs))
    freed_rise = rw count can_next.2

    fresh_rise : IsRising (flat_map fresh_names own)
    fresh_rise = rw front can_next.3

    module _ (later : List Remade) (back : later ≡ drop p.1 rs) (rest : List Separators) (after : rest ≡ drop (length own) fs) where
      can_more : CanTakeTerms ps rest later
      can_more = rw (after, count, back) can_next.4

      made_more : (out new all : List (ℕ × List (List ℕ × Option ℕ))) (run : List (List ℕ × Option ℕ)) → run ≡ terms_of (take (length own) fs) own → new ≡ out ++ (p.0, run) ∷ [] → out ++ terms_by_parent left fs rs ≡ all
          → new ++ terms_by_parent ps rest later ≡ all
      made_more out new all run terms made h =
          let whole : out ++ terms_by_parent (p ∷ ps) fs rs ≡ all = subst (λ (xs : List (ℕ × ℕ)). out ++ terms_by_parent xs fs rs ≡ all) next h in
          rw (made, terms, after, back, count, front) (append_assoc out ((p.0, terms_of (take p.1 fs) (take p.1 rs)) ∷ []) (terms_by_parent ps (drop p.1 fs) (drop p.1 rs)) ∙ whole)

next_of : (ps : List (ℕ × ℕ)) (i : ℕ) (p : ℕ × ℕ) → i < length ps → p ≡ get_or ps i p → drop i ps ≡ p ∷ drop (i + 1) ps
next_of ps i p l e = drop_more ps i p l ∙ ap (λ (q : ℕ × ℕ). q ∷ drop (i + 1) ps) (sym e)

pub loop-parent-init : goal.loop-parent-init
loop-parent-init c = record {
  can = rw c.from-freed.ensures.0 c.requires;
  made = rw c.in_ok-runs.ensures.items refl;
  count = c.in_ok-runs.ensures.len;
  room = c.in_ok-runs.ensures.exact;
}

pub split_at-requires : goal.split_at-requires
split_at-requires c = within c.parent-item.result _ _ _ _ (next_of c.args.parents.now c.loop-parent.parent-index c.parent-item.result c.loop-parent-test.true c.parent-item.is) c.loop-parent.invariant.can

pub next_terms-requires-clause-freed : goal.next_terms-requires-clause-freed
next_terms-requires-clause-freed c =
    freed_rise c.parent-item.result _ _ _ _ (next_of c.args.parents.now c.loop-parent.parent-index c.parent-item.result c.loop-parent-test.true c.parent-item.is) c.loop-parent.invariant.can _ c.split_at.ensures.front c.split_at.ensures.front_len

pub next_terms-requires-clause-fresh : goal.next_terms-requires-clause-fresh
next_terms-requires-clause-fresh c =
    fresh_rise c.parent-item.result _ _ _ _ (next_of c.args.parents.now c.loop-parent.parent-index c.parent-item.result c.loop-parent-test.true c.parent-item.is) c.loop-parent.invariant.can _ c.split_at.ensures.front c.split_at.ensures.front_len

pub push_reserved-requires : goal.push_reserved-requires
push_reserved-requires c = omega (arith, c.loop-parent.invariant.count, c.loop-parent.invariant.room, c.loop-parent-test.true)

pub loop-parent-preserved : goal.loop-parent-preserved
loop-parent-preserved c =
    let next = next_of c.args.parents.now c.loop-parent.parent-index c.parent-item.result c.loop-parent-test.true c.parent-item.is in
    record {
      can = can_more c.parent-item.result _ _ _ _ next c.loop-parent.invariant.can _ c.split_at.ensures.front c.split_at.ensures.front_len _ c.split_at.ensures.back _ c.in_ok-run.ensures.rest;
      made =
          made_more c.parent-item.result _ _ _ _ next c.loop-parent.invariant.can _ c.split_at.ensures.front c.split_at.ensures.front_len _ c.split_at.ensures.back _ c.in_ok-run.ensures.rest
          c.loop-parent.runs.items _ _ c.in_ok-run.run' c.in_ok-run.ensures.terms c.push_reserved.ensures.items c.loop-parent.invariant.made;
      count = omega (arith, c.push_reserved.ensures.len);
      room = rw c.push_reserved.ensures.capacity c.loop-parent.invariant.room;
    }

pub returns : goal.returns
returns c =
    let none = drop_all c.loop-parent.parent-index c.args.parents.now c.loop-parent-test.false in
    sym (append-nil c.loop-parent.runs.items) ∙ (rw (none, c.from-freed.ensures.0) at c.loop-parent.invariant.made)
