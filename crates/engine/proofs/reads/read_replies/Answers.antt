use Rattle.std.proofs.Common.{◌∙◌, ap, map}
use Rattle.keys.specs.Lists.{flat}
use Rattle.page_runs.specs.Reads.{route_answers}
use Rattle.replies.specs.ByPlace.{pieces_at}
use Rattle.engine.proofs.GroupLemmas.{answers_as}
use Rattle.engine.proofs.reads.read_replies.Goals as goal

pub replies_of-requires : goal.replies_of-requires
replies_of-requires g c =
    let answers = map (route_answers c.args.work.now.tree.now c.args.work.now.commands.now) in
    answers_as c.args.work.now.commands.now _ (flat (answers c.args.page_runs.items)) (λ n. c.in_ok-reads.ensures n ∙ ap (λ rs. pieces_at (flat (answers rs)) n) c.deref.ensures.value) c.requires.answers
