use Rattle.std.specs.Prelude.{map}
use Rattle.std.proofs.Common.{sym, subst}
use Rattle.std.proofs.lemmas.List.{length-map}
use Rattle.crew.specs.Round.{round, AreHome}
use Rattle.crew.proofs.RoundLemmas.{home_is_made, ok_is}
use Rattle.crew.proofs.rounds.run_round.Goals as goal

pub returns-clause-round : goal.returns-clause-round
returns-clause-round g c = λ pieces workers events ds joined home.
    let jobs = map g.W.Work.held c.args.jobs.items in
    let made = g.W.Work.made c.args.work.now in
    let is = home_is_made made jobs pieces workers events ds joined
    (subst (λ n. AreHome (round made pieces workers events) n ds) (sym (length-map c.args.jobs.items g.W.Work.held)) home) in
    ok_is g.W.Work.outcome c.work_by_crew.result (map made jobs) ds c.work_by_crew.ensures.made is
