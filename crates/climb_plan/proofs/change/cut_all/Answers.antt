use Rattle.std.proofs.Common.{◌<◌, map, sym, ap, ◌∙◌, subst}
use mir.Syntax.{erased}
use denote.Exit.{no}
use denote.Param.Send.{param_send, arg_send}
use Rattle.keys.specs.declared.settings.Settings.{Settings}
use Rattle.split_plan.specs.Pieces.{pages_lent}
use Rattle.split_plan.proofs.Crossing.{done_send}
use Rattle.climb_plan.specs.Rewriting.{all_seen, cut_group}
use Rattle.climb_plan.proofs.ChangedPieces.{each_joins, made_is_cut}
use Rattle.climb_plan.proofs.change.cut_all.Goals as goal

pub run_round-requires-after_bounds : goal.run_round-requires-after_bounds
run_round-requires-after_bounds g c κs within = λ k d l. (
  subst (λ (s : Settings). 0 < s.fan) (sym c.new-work.ensures) c.requires.fan,
  each_joins (λ g. all_seen g.items) (λ job. pages_lent job.members.items) c.args.groups.now c.in_ok-jobs.jobs.items c.in_ok-jobs.ensures c.requires.joined k d l,
)

pub run_round-requires-send-W-Done : goal.run_round-requires-send-W-Done
run_round-requires-send-W-Done g c κs within = param_send _ _ (arg_send _ no _ (done_send (record { mir = erased; lft = _ })))

pub returns-in-Ok : goal.returns-in-Ok
returns-in-Ok g c =
    let cut = made_is_cut (λ g. all_seen g.items) (λ job. pages_lent job.members.items) c.args.groups.now c.in_ok-jobs.jobs.items c.in_ok-jobs.ensures c.new-work.result.settings _ c.in-Ok.ensures.made in
    let settled = ap (λ (s : Settings). map (cut_group s) (map (λ g. all_seen g.items) c.args.groups.now)) c.new-work.ensures in
    rw (sym (cut ∙ settled)) c.all_cut.ensures
