use Rattle.std.proofs.Common.{ap}
use Rattle.std.specs.Option.{option_copied}
use Rattle.mapping.specs.LogState.{log_state}
use Rattle.flush_log.proofs.TextImages.{depth_written}
use Rattle.flush_log.proofs.text.is_written.Goals as goal

pub returns-in-Upto : goal.returns-in-Upto
returns-in-Upto c encoding =
    depth_written encoding (option_copied c.args.page) (log_state c.args.logged) c.in-Some.page.now c.in-Upto.kept c.depth.result (ap option_copied c.in-Some.is) (ap log_state c.in-Upto.is) c.requires c.depth.ensures
