use Rattle.std.proofs.Common.{◌≡◌, Option, None, sym, ap, ◌∙◌, subst}
use Rattle.std.specs.Prelude.{OnOk, IfErr}
use Rattle.mapping.specs.TreeInMemory.{tree_of}
use Rattle.keys.specs.Finding.{Finding}
use Rattle.verify.specs.Report.{IsFaultOf}
use Rattle.verify.specs.Seen.{first_found, all_pairs}
use Rattle.verify.proofs.LevelLemmas.{found_seen, pairs_seen, ok_then}
use Rattle.verify.proofs.level.pass_level.Goals as goal

pub returns-clause-ok : goal.returns-clause-ok
returns-clause-ok g c =
    let ps = (tree_of c.args.tree.now).pages in
    let same = ap (first_found c.args.met.now c.args.places.now) (c.deref.ensures.value ∙ c.in_ok-seen.ensures) ∙ found_seen c.args.settings.now c.args.level ps c.args.met.now c.args.places.now in
    subst (λ (o : Option Finding). OnOk c.meet_all.result (o ≡ None)) same c.meet_all.ensures.ok

pub returns-clause-pairs : goal.returns-clause-pairs
returns-clause-pairs g c =
    let ps = (tree_of c.args.tree.now).pages in
    let all = c.deref.ensures.value ∙ c.in_ok-seen.ensures in
    ok_then c.meet_all.result _ _ _ c.meet_all.ensures.ok c.meet_all.ensures.pairs (λ none. ap all_pairs all
    ∙ pairs_seen c.args.settings.now c.args.level ps c.args.met.now c.args.places.now (ap (first_found c.args.met.now c.args.places.now) (sym all) ∙ none))

pub returns-clause-err : goal.returns-clause-err
returns-clause-err g c =
    let ps = (tree_of c.args.tree.now).pages in
    let same = ap (first_found c.args.met.now c.args.places.now) (c.deref.ensures.value ∙ c.in_ok-seen.ensures) ∙ found_seen c.args.settings.now c.args.level ps c.args.met.now c.args.places.now in
    subst (λ (o : Option Finding). IfErr c.meet_all.result (IsFaultOf o)) same c.meet_all.ensures.err
