-- Pages may cross threads if their allocator may. This is stated here once, part by part, because the prover runs out of steps if it searches through
-- all parts of a page.
use denote.RattleType.{RattleType}
use denote.Struct.Declared.{shape}
use denote.Enum.Declared as variants
use denote.Param.Send.{IsSend, IsSync, Frees, view_send, view_sync, recorded_send, recorded_sync, struct_send, struct_sync, enum_send, enum_sync}
use Rattle.std.specs.declared.alloc.Allocator.{Ghosts}
use Rattle.std.proofs.CrossingOver.{crosses}
use Rattle.keys.specs.contracts.value.Value as Value
use Rattle.keys.proofs.key.Key.TheSendSync as key
use Rattle.keys.proofs.value.Value.TheSendSync as value
use Rattle.delta_chain.proofs.Crossing.{LazyChain-send, LazyChain-sync}
use Rattle.index_page.proofs.index_state.IndexState.TheSendSync as state
use Rattle.index_page.specs.contracts.in_memory.PageInMemory as PageInMemory
use Rattle.index_page.specs.contracts.in_memory.PageInMemory.TheInside as held
use Rattle.index_page.specs.contracts.in_memory.State as State
use Rattle.index_page.specs.contracts.page.Page as Page
use Rattle.index_page.specs.contracts.page.Page.TheInside as inside

module _ (A : RattleType) (g : Ghosts A.Denot) where
  state_send : IsSend A → Frees g g.dealloc_token → IsSend (State.the_field A g).row
  state_send s f =
      let values = LazyChain-send (Value.the_row A g) A g (value.the_send A g s f) s f in
      enum_send (variants.shape (State.the_type A g)) ((values, tt), ((state.the_send A g s f, tt), tt))

  pub PageInMemory-send : IsSend A → Frees g g.dealloc_token → IsSend (PageInMemory.the_row A g)
  PageInMemory-send s f = view_send _ _ _ _ _ (recorded_send _ _ _ (held.the_type A g).to_one (struct_send (shape (held.the_type A g)) (key.the_send A g s f, (state_send s f, tt))))

  pub Page-send : IsSend A → Frees g g.dealloc_token → IsSend (Page.the_row A g)
  Page-send s f = let page : IsSend (PageInMemory.the_row A g) = PageInMemory-send s f in view_send _ _ _ _ _ (recorded_send _ _ _ (inside.the_type A g).to_one (struct_send (shape (inside.the_type A g)) (search crosses, tt)))

  state_sync : IsSync A → IsSync (State.the_field A g).row
  state_sync s =
      let values = LazyChain-sync (Value.the_row A g) A g (value.the_sync A g s) s in
      enum_sync (variants.shape (State.the_type A g)) ((values, tt), ((state.the_sync A g s, tt), tt))

  pub PageInMemory-sync : IsSync A → IsSync (PageInMemory.the_row A g)
  PageInMemory-sync s = view_sync _ _ _ _ _ (recorded_sync _ _ _ (held.the_type A g).to_one (struct_sync (shape (held.the_type A g)) (key.the_sync A g s, (state_sync s, tt))))

  pub Page-sync : IsSync A → IsSync (Page.the_row A g)
  Page-sync s = let page : IsSync (PageInMemory.the_row A g) = PageInMemory-sync s in view_sync _ _ _ _ _ (recorded_sync _ _ _ (inside.the_type A g).to_one (struct_sync (shape (inside.the_type A g)) (search crosses, tt)))
