-- Chains may cross threads if their cells and their allocator may. This is stated here once, because the prover runs out of steps if it searches
-- through all parts of a chain.
use denote.RattleType.{RattleType}
use denote.Param.Send.{IsSend, IsSync, Frees}
use Rattle.std.specs.declared.alloc.Allocator.{Ghosts}
use Rattle.delta_chain.specs.contracts.chain.Chain as Chain
use Rattle.delta_chain.proofs.chain.Chain.TheSendSync as chain
use Rattle.delta_chain.specs.contracts.late.LazyChain as LazyChain
use Rattle.delta_chain.proofs.late.LazyChain.TheSendSync as late

module _ (V A : RattleType) (g : Ghosts A.Denot) where
  pub Chain-send : IsSend V → IsSend A → Frees g g.dealloc_token → IsSend (Chain.the_row V A g)
  Chain-send sv sa f = chain.the_send V A g sv sa f

  pub Chain-sync : IsSync V → IsSync A → IsSync (Chain.the_row V A g)
  Chain-sync sv sa = chain.the_sync V A g sv sa

  pub LazyChain-send : IsSend V → IsSend A → Frees g g.dealloc_token → IsSend (LazyChain.the_row V A g)
  LazyChain-send sv sa f = late.the_send V A g sv sa f

  pub LazyChain-sync : IsSync V → IsSync A → IsSync (LazyChain.the_row V A g)
  LazyChain-sync sv sa = late.the_sync V A g sv sa
