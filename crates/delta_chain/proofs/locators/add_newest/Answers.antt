use Rattle.std.proofs.Common.{◌≡◌, arith}
use Rattle.std.proofs.lemmas.Result.{on_ok_weaker, on_err_weaker}
use Rattle.std.specs.Map.{keys_of}
use Rattle.delta_chain.specs.Located.{keys_of_runs, AreNewest}
use Rattle.delta_chain.proofs.LocatorLemmas.{numbered-push, length-keys_of, length-keys_of_runs}
use Rattle.delta_chain.proofs.locators.add_newest.Goals as goal

pub returns-in-Some-clause-numbered : goal.returns-in-Some-clause-numbered
returns-in-Some-clause-numbered g c =
    let many = length-keys_of_runs c.args.runs.now in
    let long = length-keys_of c.args.run.now in
    on_ok_weaker c.add_to.result (λ _. numbered-push (keys_of_runs c.args.runs.now) (keys_of c.args.run.now) (omega (arith, many)) (omega (arith, long)) c.requires.numbered) c.add_to.ensures.ok

pub returns-in-Some-clause-err : goal.returns-in-Some-clause-err
returns-in-Some-clause-err g c =
    let newest : AreNewest (keys_of_runs c.args.runs.now) c.in-Some.locators.items = rw c.in-Some.is at c.requires.list in
    on_err_weaker c.add_to.result (λ (e : c.add_to.new.locators ≡ c.in-Some.locators). rw e newest) c.add_to.ensures.err
