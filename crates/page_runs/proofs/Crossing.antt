-- The output for a leaf may cross threads: it owns its contents.
use denote.RattleType.{RattleType}
use denote.Struct.Declared.{shape}
use denote.Enum.Declared as variants
use denote.Builtin.{usize}
use denote.Param.Send.{IsSend, view_send, recorded_send, struct_send, enum_send, sendable}
use Rattle.std.specs.contracts.alloc.Global as Global
use Rattle.std.specs.contracts.impls.GlobalAllocator.TheImpl.{ghosts}
use Rattle.std.proofs.Crossing as heap
use Rattle.keys.specs.contracts.value.Value as Value
use Rattle.keys.proofs.pieces.Pieces.TheSendSync as pieces
use Rattle.keys.proofs.value.Value.TheSendSync as value
use Rattle.delta_chain.proofs.Crossing.{Chain-send}
use Rattle.delta_chain.proofs.run.Run.TheSendSync as run
use Rattle.index_page.proofs.Crossing.{PageInMemory-send}
use Rattle.index_page.specs.contracts.in_memory.PageInMemory as PageInMemory
use Rattle.routing.proofs.page_run.PageRun.TheSendSync as page_run
use Rattle.page_runs.specs.contracts.leaf_work.LeafDone as LeafDone
use Rattle.page_runs.specs.contracts.leaf_work.LeafDone.TheInside as inside
use Rattle.page_runs.specs.contracts.leaf_after.LeafWayBack as LeafWayBack
use Rattle.page_runs.specs.contracts.page_after.WayBack as WayBack
use Rattle.page_runs.proofs.class.Class.TheSendSync as class

abbrev values : RattleType
values = Value.the_row Global.the_row ghosts

values_send : IsSend values
values_send = value.the_send Global.the_row ghosts heap.send heap.frees

way_back_send : IsSend (WayBack.the_row values)
way_back_send = recorded_send _ _ _ (WayBack.the_type values).to_one (enum_send (variants.shape (WayBack.the_type values)) (
  (run.the_send values Global.the_row ghosts values_send heap.send heap.frees, tt),
  (tt, ((class.the_field_send, (Chain-send values Global.the_row ghosts values_send heap.send heap.frees, tt)), tt)),
))

usize_send : IsSend usize
usize_send = search sendable

leaf_way_back_send : IsSend LeafWayBack.the_field.row
leaf_way_back_send = enum_send (variants.shape LeafWayBack.the_type) (
  tt,
  (tt, ((class.the_field_send, (usize_send, tt)), ((heap.Box-send (WayBack.the_row values) way_back_send, (usize_send, tt)), tt))),
)

page_send : IsSend (PageInMemory.the_row Global.the_row ghosts)
page_send = PageInMemory-send Global.the_row ghosts heap.send heap.frees

pub done_send : IsSend LeafDone.the_row
done_send = view_send _ _ _ _ _ (recorded_send _ _ _ inside.the_type.to_one (struct_send (shape inside.the_type) (
  heap.Box-send (PageInMemory.the_row Global.the_row ghosts) page_send,
  (leaf_way_back_send, (page_run.the_send, (pieces.the_send Global.the_row ghosts heap.send heap.frees, tt))),
)))
