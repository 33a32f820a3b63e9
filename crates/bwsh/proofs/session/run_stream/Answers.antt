use Rattle.std.proofs.Common.{inl, inr, refl, subst}
use Rattle.std.proofs.KnownBytes.{Keeps-refl}
use Rattle.std.proofs.lemmas.Result.{err_from_is_err_and}
use Rattle.std.specs.Io.Buffered.{reader_buffer, reader_capacity, reader_inner, reader_remaining}
use Rattle.bwsh.specs.declared.options.asked.Options.{Options}
use Rattle.bwsh.specs.Options.{request_of}
use Rattle.bwsh.specs.Session.{RunsRead}
use Rattle.bwsh.proofs.EndLemmas.{Answers-buffered, Answers-cut, Answers-stream, RunsRead-no_crew}
use Rattle.bwsh.proofs.session.run_stream.Goals as goal

pub returns-in_err-check_open : goal.returns-in_err-check_open
returns-in_err-check_open g c =
    let p = err_from_is_err_and c.from_residual.result c.from_residual.ensures.1 in
    rw (p.1, p.2) (Answers-cut (request_of c.args.notes.now.asked.now) _ _ _ _ (inr c.in_err-check_open.ensures.device) c.check_open.ensures.bytes)

pub returns-in_err-at : goal.returns-in_err-at
returns-in_err-at g c =
    let request = request_of c.args.notes.now.asked.now in
    let known = g.I.Read.remaining c.args.input.now in
    let p = err_from_is_err_and c.from_residual-in_err-at.result c.from_residual-in_err-at.ensures.1 in
    rw (p.1, p.2) (Answers-stream request known _ _ _ c.check_open.ensures.bytes _ known c.requires (Keeps-refl known) (RunsRead-no_crew request known _ c.in_err-at.ensures.err))

pub returns-in_err-check_input_open : goal.returns-in_err-check_input_open
returns-in_err-check_input_open g c =
    let p = err_from_is_err_and c.from_residual-in_err-check_input_open.result c.from_residual-in_err-check_input_open.ensures.1 in
    rw (p.1, p.2) (Answers-cut (request_of c.args.notes.now.asked.now) _ _ _ _ c.in_err-check_input_open.ensures.either c.check_open.ensures.bytes)

pub returns-in_err-text : goal.returns-in_err-text
returns-in_err-text g c =
    let p = err_from_is_err_and c.from_residual-in_err-text.result c.from_residual-in_err-text.ensures.1 in
    rw (p.1, p.2) (Answers-cut (request_of c.args.notes.now.asked.now) _ _ _ _ (inl refl) c.check_open.ensures.bytes)

pub returns-in-Err : goal.returns-in-Err
returns-in-Err g c = Answers-cut (request_of c.args.notes.now.asked.now) _ _ _ c.read_fault.result c.read_fault.ensures.either c.check_open.ensures.bytes

pub returns-in-Ok : goal.returns-in-Ok
returns-in-Ok g c =
    let request = request_of c.args.notes.now.asked.now in
    let reader = c.in-Ok.reader in
    let known = g.I.Read.remaining c.args.input.now in
    let left = g.I.Read.remaining c.check_input_open.new.input in
    let inner = g.I.Read.remaining (reader_inner reader).now in
    let mid = g.O.Write.contents c.check_open.new.out in
    let new = g.O.Write.contents c.run_source.new.out in
    Answers-buffered request known _ mid new c.check_open.ensures.bytes c.run_source.result left inner (reader_capacity reader) (reader_buffer reader)
    c.in-Ok.ensures.capacity c.in-Ok.ensures.empty (rw c.in-Ok.ensures.inner refl) c.requires c.in_ok-check_input_open.ensures.bytes
    (subst (λ (o : Options). RunsRead (request_of o) (reader_remaining (λ r. g.I.Read.remaining r.now) reader) mid new c.run_source.result) c.in_ok-at.ensures.ok.0 c.run_source.ensures)
