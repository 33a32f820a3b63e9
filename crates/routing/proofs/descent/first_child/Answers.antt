use Rattle.std.proofs.Common.{◌≡◌, ℕ, List, [], ◌∷◌, map, length, Some, None, refl, sym, ap, subst, ◌∙◌}
use Rattle.std.specs.List.{filter}
use Rattle.index_page.specs.Children.{Place, HasChildFor, children, child_entries, child_with_end, is_place_for}
use Rattle.routing.proofs.ShareLemmas.{none_cut, child_for_first, parted_keyed, first_share_at, lone_share_at, from_begun}
use Rattle.routing.proofs.descent.first_child.Goals as goal

pub child_for-requires : goal.child_for-requires
child_for-requires c = subst (λ (k : List ℕ). HasChildFor c.args.page.now k) (sym c.as_bytes-key.ensures) (child_for_first c.requires.ready.0 c.args.page.now c.args.keyed.now _ c.requires.some c.requires.ready.1)

pub child_with_end-pid-requires : goal.child_with_end-pid-requires
child_with_end-pid-requires c = subst (λ (k : List ℕ). HasChildFor c.args.page.now k) (sym c.as_bytes-key.ensures) (child_for_first c.requires.ready.0 c.args.page.now c.args.keyed.now _ c.requires.some c.requires.ready.1)

pub count_below-requires : goal.count_below-requires
count_below-requires c = parted_keyed c.requires.ready.0 c.args.page.now c.args.keyed.now c.in-Some.end.now c.requires.ready.1

pub returns-then-keyed-eq1-clause-first : goal.returns-then-keyed-eq1-clause-first
returns-then-keyed-eq1-clause-first c = λ cs z h. from_begun cs c.args.page.now c.args.keyed.now 1 _ z (lone_share_at cs c.args.page.now c.args.keyed.now c.child_for.result _ c.if-keyed-eq1.true h (subst (λ (k : List ℕ). map (λ (at : Place). at.pid) (filter (is_place_for k) (children (child_entries c.args.page.now) None)) ≡ c.child_for.result ∷ []) c.as_bytes-key.ensures (c.child_for.ensures None refl)))

pub returns-in-Some-clause-some : goal.returns-in-Some-clause-some
returns-in-Some-clause-some c =
    (first_share_at c.requires.ready.0 c.args.page.now c.args.keyed.now c.count_below.result c.child_with_end-pid.result.0 (Some c.in-Some.end.now) _ c.requires.some c.requires.ready.1 (rw c.in-Some.is at c.child_with_end-pid.ensures.child ∙ ap (λ (k : List ℕ). child_with_end k (child_entries c.args.page.now)) c.as_bytes-key.ensures)
    (record { before = c.count_below.ensures.below; following = c.count_below.ensures.others })).0

pub returns-in-Some-clause-first : goal.returns-in-Some-clause-first
returns-in-Some-clause-first c = λ cs z h. from_begun cs c.args.page.now c.args.keyed.now c.count_below.result _ z
    (first_share_at cs c.args.page.now c.args.keyed.now c.count_below.result c.child_with_end-pid.result.0 (Some c.in-Some.end.now) _ c.requires.some h (rw c.in-Some.is at c.child_with_end-pid.ensures.child ∙ ap (λ (k : List ℕ). child_with_end k (child_entries c.args.page.now)) c.as_bytes-key.ensures)
    (record { before = c.count_below.ensures.below; following = c.count_below.ensures.others })).1

pub returns-in-None-clause-first : goal.returns-in-None-clause-first
returns-in-None-clause-first c = λ cs z h. from_begun cs c.args.page.now c.args.keyed.now (length c.args.keyed.now) _ z
    (first_share_at cs c.args.page.now c.args.keyed.now (length c.args.keyed.now) c.child_with_end-pid.result.0 None _ c.requires.some h (rw c.in-None.is at c.child_with_end-pid.ensures.child ∙ ap (λ (k : List ℕ). child_with_end k (child_entries c.args.page.now)) c.as_bytes-key.ensures) (none_cut cs c.args.keyed.now)).1
