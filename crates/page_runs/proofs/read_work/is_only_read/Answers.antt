use Rattle.std.proofs.Common.{◌∙◌, sym}
use Rattle.page_runs.proofs.KeyOrder.{same_read_only}
use Rattle.page_runs.proofs.read_work.is_only_read.Goals as goal

pub returns : goal.returns
returns c = c.are_all_read_only.ensures ∙ sym (same_read_only c.args.commands.now c.args.page_run.now.places c.places.result.now c.places.ensures.same)
