use Rattle.std.proofs.Common.{◌≡◌, false, List, ℕ, Some, None, IfSome, inr, subst, sym}
use Rattle.std.proofs.KnownBytes.{Appends-nil}
use Rattle.std.proofs.lemmas.Result.{err_from_is_err_and}
use Rattle.bwsh.specs.declared.options.asked.Options.{Options}
use Rattle.bwsh.specs.BatchFile.{first_bad, parse_text}
use Rattle.bwsh.specs.Options.{request_of}
use Rattle.bwsh.specs.Session.{RunsRead}
use Rattle.bwsh.proofs.EndLemmas.{Answers-bad, Answers-cut, Answers-text, RunsRead-no_crew}
use Rattle.bwsh.proofs.session.run_text.Goals as goal

pub returns-in_err-text : goal.returns-in_err-text
returns-in_err-text g c =
    let p = err_from_is_err_and c.from_residual.result c.from_residual.ensures.1 in
    rw (p.1, p.2) (Answers-cut (request_of c.args.notes.now.asked.now) _ _ _ _ c.in_err-text.ensures.either (Appends-nil _))

pub returns-in_err-checked : goal.returns-in_err-checked
returns-in_err-checked g c =
    let p = err_from_is_err_and c.from_residual-in_err-checked.result c.from_residual-in_err-checked.ensures.1 in
    let known = subst (λ (t : List ℕ). IfSome (g.I.Read.remaining c.args.input.now) (λ k. t ≡ k)) (sym c.deref.ensures.value) c.in_ok-text.ensures.read in
    rw (p.1, p.2) (Answers-bad (request_of c.args.notes.now.asked.now) _ _ c.deref.result.now c.requires known _ c.in_err-checked.ensures.bad)

pub returns-in_err-check_open : goal.returns-in_err-check_open
returns-in_err-check_open g c =
    let p = err_from_is_err_and c.from_residual-in_err-check_open.result c.from_residual-in_err-check_open.ensures.1 in
    rw (p.1, p.2) (Answers-cut (request_of c.args.notes.now.asked.now) _ _ _ _ (inr c.in_err-check_open.ensures.device) c.check_open.ensures.bytes)

pub returns-in_err-at : goal.returns-in_err-at
returns-in_err-at g c =
    let request = request_of c.args.notes.now.asked.now in
    let text = c.in_ok-text.text.items in
    let good = subst (λ (t : List ℕ). first_bad 1 (parse_text false t) ≡ None) c.deref.ensures.value c.in_ok-checked.ensures.good in
    let p = err_from_is_err_and c.from_residual-in_err-at.result c.from_residual-in_err-at.ensures.1 in
    rw (p.1, p.2) (Answers-text request (g.I.Read.remaining c.args.input.now) _ _ _ c.check_open.ensures.bytes _ text c.requires c.in_ok-text.ensures.read good (RunsRead-no_crew request (Some text) _ c.in_err-at.ensures.err))

pub returns : goal.returns
returns g c =
    let request = request_of c.args.notes.now.asked.now in
    let text = c.in_ok-text.text.items in
    let good = subst (λ (t : List ℕ). first_bad 1 (parse_text false t) ≡ None) c.deref.ensures.value c.in_ok-checked.ensures.good in
    let mid = g.O.Write.contents c.check_open.new.out in
    let new = g.O.Write.contents c.run_source.new.out in
    let of_slice = subst (λ (t : List ℕ). RunsRead (request_of c.in_ok-at.at.asked.now) (Some t) mid new c.run_source.result) c.as_slice.ensures.value c.run_source.ensures in
    Answers-text request (g.I.Read.remaining c.args.input.now) _ mid new c.check_open.ensures.bytes c.run_source.result text c.requires c.in_ok-text.ensures.read good
    (subst (λ (o : Options). RunsRead (request_of o) (Some text) mid new c.run_source.result) c.in_ok-at.ensures.ok.0 of_slice)
