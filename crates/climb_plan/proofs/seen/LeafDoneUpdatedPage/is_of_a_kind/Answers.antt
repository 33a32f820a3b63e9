use Rattle.climb_plan.proofs.BridgePieces.{leaves_are_kind}
use Rattle.climb_plan.proofs.seen.LeafDoneUpdatedPage.is_of_a_kind.Goals as goal

pub returns : goal.returns
returns c = leaves_are_kind
