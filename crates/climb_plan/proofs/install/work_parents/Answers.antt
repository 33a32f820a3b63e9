use Rattle.std.proofs.Common.{map}
use Rattle.page_runs.specs.TermWork.{term_held_of}
use Rattle.climb_plan.proofs.InstallingParents.{all_indexes, made_of, back_away, back_is_before}
use Rattle.climb_plan.proofs.install.work_parents.Goals as goal

pub run_round-requires-after_bounds : goal.run_round-requires-after_bounds
run_round-requires-after_bounds g c κs within = all_indexes c.args.tree.now.table c.in_ok-jobs.jobs.items c.args.termed.items c.in_ok-jobs.ensures.held c.requires

pub put_back-requires : goal.put_back-requires
put_back-requires g c =
    back_away c.args.tree.now _ c.in_ok-jobs.jobs.items c.in-Err.jobs.items c.args.termed.items c.in_ok-jobs.ensures.taken c.in_ok-jobs.ensures.held c.in-Err.ensures.held c.requires

pub returns-in-Ok-clause-made : goal.returns-in-Ok-clause-made
returns-in-Ok-clause-made g c =
    made_of c.args.settings.now c.args.tree.now.table (map term_held_of c.in_ok-jobs.jobs.items) c.args.termed.items _ c.in-Ok.ensures.made c.in_ok-jobs.ensures.held

pub returns-in-Err-clause-err : goal.returns-in-Err-clause-err
returns-in-Err-clause-err g c rising =
    back_is_before c.args.tree.now _ _ c.in_ok-jobs.jobs.items c.in-Err.jobs.items c.args.termed.items c.in_ok-jobs.ensures.taken c.in_ok-jobs.ensures.held c.in-Err.ensures.held c.put_back.ensures c.requires rising
