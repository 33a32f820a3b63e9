use Rattle.bwsh.specs.Session.{error_text}
use Rattle.bwsh.proofs.ErrorLemmas.{begun_longer, begun_with}
use Rattle.bwsh.proofs.session.write_error_and.Goals as goal

pub returns-in_err-write_error : goal.returns-in_err-write_error
returns-in_err-write_error g c = begun_longer (error_text c.args.error.now) _ _ c.args.more.now c.in_err-write_error.ensures.err

pub returns : goal.returns
returns g c =
    begun_with (error_text c.args.error.now) _ _ _ c.args.more.now c.write_bytes.result c.in_ok-write_error.ensures.ok c.write_bytes.ensures.ok c.write_bytes.ensures.err
