use Rattle.scan.proofs.EndLemmas.{none_end}
use Rattle.scan.proofs.ends.scan_ends.Goals as goal

pub returns-then-not-has_scan : goal.returns-then-not-has_scan
returns-then-not-has_scan c = none_end _ _ c.args.commands.now c.new.result.items c.new.ensures.items
