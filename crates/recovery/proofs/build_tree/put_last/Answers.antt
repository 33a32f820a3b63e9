use Rattle.std.proofs.Common.{◌<◌, ◌∙◌, ℕ, Some, sym, ap, subst}
use Rattle.std.specs.List.{AllByRecursion}
use Rattle.std.specs.Map.{keys_of}
use Rattle.index_page.specs.Page.{PageOfKind}
use Rattle.mapping.specs.Table.{Mapping, place_of, with_place}
use Rattle.recovery.proofs.BuildLemmas.{away-last, put-last, and_last}
use Rattle.recovery.proofs.build_tree.put_last.Goals as goal

pub put-requires : goal.put-requires
put-requires c =
    let t = c.args.table.now in
    let pid = c.pid.inside.0 in
    let below : AllByRecursion (λ n. n < pid) (keys_of t.places) = subst (λ (n : ℕ). AllByRecursion (λ m. m < n) (keys_of t.places)) (sym c.pid.view_is) c.requires in
    ap (λ (u : Mapping PageOfKind). place_of u pid) c.in_ok-room.ensures.ok ∙ away-last t pid below

pub returns : goal.returns
returns c =
    let t = c.args.table.now in
    let pid = c.pid.inside.0 in
    let below : AllByRecursion (λ n. n < pid) (keys_of t.places) = subst (λ (n : ℕ). AllByRecursion (λ m. m < n) (keys_of t.places)) (sym c.pid.view_is) c.requires in
    c.put.ensures
    ∙ ap (λ (u : Mapping PageOfKind). with_place u pid (Some c.args.page)) c.in_ok-room.ensures.ok
    ∙ put-last t pid below c.args.page
    ∙ ap (λ (n : ℕ). and_last t n (Some c.args.page)) c.pid.view_is
