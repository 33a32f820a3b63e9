use Rattle.std.proofs.Common.{map}
use mir.Syntax.{erased}
use denote.Exit.{no}
use denote.Param.Send.{param_send, arg_send}
use Rattle.mapping.specs.TreeInMemory.{tree_of}
use Rattle.flush_log.specs.ImageWork.{job_held}
use Rattle.flush_log.proofs.Crossing.{done_send}
use Rattle.flush_log.proofs.TextImages.{each_can_be_written, images-text, images-are_some, images-frames}
use Rattle.flush_log.proofs.text.images.Goals as goal

pub run_round-requires-after_bounds : goal.run_round-requires-after_bounds
run_round-requires-after_bounds g c κs within = each_can_be_written c.in_ok-jobs.jobs.items c.in_ok-jobs.ensures.due

pub run_round-requires-send-W-Done : goal.run_round-requires-send-W-Done
run_round-requires-send-W-Done g c κs within = param_send _ _ (arg_send _ no _ (done_send (record { mir = erased; lft = _ })))

pub returns-in-Ok-clause-text : goal.returns-in-Ok-clause-text
returns-in-Ok-clause-text g c =
    images-text (λ v. v.items) c.images_of.result c.in-Ok.dones.items (map job_held c.in_ok-jobs.jobs.items) c.args.text (tree_of c.args.tree.now) c.in-Ok.ensures.origin c.images_of.ensures.images c.in_ok-jobs.ensures.text

pub returns-in-Ok-clause-some : goal.returns-in-Ok-clause-some
returns-in-Ok-clause-some g c =
    images-are_some (λ v. v.items) c.images_of.result c.in-Ok.dones.items (map job_held c.in_ok-jobs.jobs.items) c.args.text (tree_of c.args.tree.now) c.in-Ok.ensures.origin c.images_of.ensures.images c.in_ok-jobs.ensures.due

pub returns-in-Ok-clause-frames : goal.returns-in-Ok-clause-frames
returns-in-Ok-clause-frames g c =
    images-frames c.images_of.result c.in-Ok.dones.items (map job_held c.in_ok-jobs.jobs.items) c.args.text (tree_of c.args.tree.now) c.in-Ok.ensures.origin c.in_ok-jobs.ensures.text c.images_of.ensures.words
