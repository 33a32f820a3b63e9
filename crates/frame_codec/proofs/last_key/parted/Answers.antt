use Rattle.frame_codec.proofs.ShareLemmas.{common-beyond, all_after, parted-by}
use Rattle.frame_codec.specs.Codecs.{rejoined}
use Rattle.frame_codec.proofs.last_key.parted.Goals as goal

pub returns-then-shared-key : goal.returns-then-shared-key
returns-then-shared-key c =
    common-beyond c.args.shared c.args.key.now (rejoined c.args.key.now (c.args.shared, c.args.rest.now)) c.if-shared-key.true

pub returns : goal.returns
returns c =
    parted-by c.apart.result c.args.shared c.args.key.now _ c.args.rest.now c.if-shared-key.false (all_after c.args.shared c.args.key.now) c.apart.ensures
