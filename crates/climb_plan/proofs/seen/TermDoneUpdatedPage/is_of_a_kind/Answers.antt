use Rattle.climb_plan.proofs.BridgePieces.{index_pages_are_kind}
use Rattle.climb_plan.proofs.seen.TermDoneUpdatedPage.is_of_a_kind.Goals as goal

pub returns : goal.returns
returns c = index_pages_are_kind
