use Rattle.bwsh.specs.Session.{error_text}
use Rattle.bwsh.proofs.AskLemmas.{Writes-some}
use Rattle.bwsh.proofs.context.Session.report_line.Goals as goal

pub returns : goal.returns
returns g c =
    Writes-some (g.O.Write.contents c.args.out.now) (g.O.Write.contents c.print_error.new.out) (error_text c.args.error.now) c.print_error.result
    c.print_error.ensures.ok c.print_error.ensures.err c.print_error.ensures.device
