use Rattle.std.proofs.Common.{◌≡◌, Option, Ok, Err, subst}
use Rattle.std.specs.Prelude.{IfErr, IsTrue, OnOk}
use Rattle.std.proofs.lemmas.Result.{err_from_is_err_and}
use Rattle.crew.specs.Crew.{is_crew}
use Rattle.crew.specs.declared.limits.Crew.{Crew}
use Rattle.keys.specs.Bytes.{Bytes, Pairs}
use Rattle.keys.specs.declared.settings.Settings.{Settings}
use Rattle.mapping.specs.Levels.{contents}
use Rattle.bwsh.specs.Options.{copy_of, request_of}
use Rattle.bwsh.specs.Session.{CopiesTo}
use Rattle.bwsh.proofs.CopiedLemmas.{End, IsLeft}
use Rattle.bwsh.proofs.EndLemmas.{RunsRead-uncopied, RunsRead-unopened, RunsRead-run}
use Rattle.bwsh.proofs.context.Session.run_source.Goals as goal

pub returns-in_err-copy : goal.returns-in_err-copy
returns-in_err-copy g c =
    let crew = subst (λ (crew : Crew). IsTrue (is_crew crew)) c.requires.crew c.args.self.now.calls.crew_in_range in
    let p = err_from_is_err_and c.from_residual.result c.from_residual.ensures.1 in
    rw (p.1, p.2) (RunsRead-uncopied (request_of c.args.self.now.asked.now) (g.I.Read.remaining c.args.input) (g.O.Write.contents c.args.out.now) crew _ c.in_err-copy.ensures.refused)

pub returns-in_err-store : goal.returns-in_err-store
returns-in_err-store g c =
    let crew = subst (λ (crew : Crew). IsTrue (is_crew crew)) c.requires.crew c.args.self.now.calls.crew_in_range in
    let (start, is, why, honest) = c.in_err-store.ensures in
    let p = err_from_is_err_and c.from_residual-in_err-store.result c.from_residual-in_err-store.ensures.1 in
    rw (p.1, p.2) (RunsRead-unopened (request_of c.args.self.now.asked.now) (g.I.Read.remaining c.args.input) crew c.in_ok-copy.ensures.admitted (g.O.Write.contents c.args.out.now) _ start is why)

-- the copy follows, unless an error ended the orders
left_by : (copy asked : Option Settings) (held : Pairs Bytes) (done end : End) → copy ≡ asked → OnOk done (CopiesTo copy held end) → IfErr done (λ early. end ≡ Err early) → IsLeft asked held done end
left_by copy asked held (Ok u) end is copies failed = subst (λ (c : Option Settings). CopiesTo c held end) is copies
left_by copy asked held (Err early) end is copies failed = failed

pub run_opened-done-requires : goal.run_opened-done-requires
run_opened-done-requires g c = λ κs. (
    let (start, is, opens, honest) = c.in_ok-store.ensures in
    let (file, start_is, seen_is, fine) = opens in
    (search, fine))

pub returns : goal.returns
returns g c =
    let request = request_of c.args.self.now.asked.now in
    let mode = c.args.self.now.calls.mode in
    let crew = subst (λ (crew : Crew). IsTrue (is_crew crew)) c.requires.crew c.args.self.now.calls.crew_in_range in
    let store = c.in_ok-store.store in
    let (start, is, opens, honest) = c.in_ok-store.ensures in
    let (file, start_is, seen_is, fine) = opens in
    let run = c.run_opened-done in
    let (parsed, read, runs) = run.ensures in
    RunsRead-run request (g.I.Read.remaining c.args.input) crew c.in_ok-copy.ensures.admitted store.settings store.store file _ _ start is start_is seen_is honest mode c.requires.mode
    parsed read (g.O.Write.contents c.args.out.now) (g.O.Write.contents run.new.out) run.result c.copy_after.result run.new.store.store runs
    (left_by _ (copy_of request) (contents run.new.store.store.tree) run.result c.copy_after.result c.in_ok-copy.ensures.asked c.copy_after.ensures.copies c.copy_after.ensures.failed)
