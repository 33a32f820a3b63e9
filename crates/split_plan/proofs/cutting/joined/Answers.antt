use Rattle.split_plan.proofs.LentPieces.{kind_at}
use Rattle.split_plan.proofs.cutting.joined.Goals as goal

pub chain-requires : goal.chain-requires
chain-requires g c = kind_at g.V.Kind.is_of c.args.members.now c.loop-member.member-index c.member-item.result c.requires c.loop-member-test.true c.member-item.is
