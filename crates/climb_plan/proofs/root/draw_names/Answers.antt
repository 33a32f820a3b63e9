use Rattle.std.proofs.Common.{◌∙◌, sym, ap, length}
use Rattle.climb_plan.proofs.Rooted.{length_drawn, away_drawn, drawn_back}
use Rattle.climb_plan.proofs.root.draw_names.Goals as goal

pub names_of-requires : goal.names_of-requires
names_of-requires c = sym (ap length c.deref.ensures.value ∙ length_drawn c.args.tree.now _ _ c.in_ok-fresh.ensures.pids)

pub free_all-requires : goal.free_all-requires
free_all-requires c = away_drawn c.args.tree.now _ _ _ _ c.in_ok-fresh.ensures.drawn c.in_ok-fresh.ensures.pids c.deref-in-Err.ensures.value

pub returns-in-Err : goal.returns-in-Err
returns-in-Err c = record { pids = tt; names = tt; drawn = tt; err = drawn_back c.args.tree.now _ _ _ _ c.in_ok-fresh.ensures.drawn c.requires.logs c.deref-in-Err.ensures.value c.free_all.ensures }
