-- The output for a group may cross threads: its members are borrowed, and its new pages are owned.
use denote.Ref.{NamedLft}
use denote.Struct.Declared.{shape}
use denote.Struct.Field.{shr_ref_field}
use denote.Param.Send.{IsSend, IsSync, sendable, view_send, recorded_send, struct_send}
use Rattle.std.specs.contracts.alloc.Global as Global
use Rattle.std.specs.contracts.impls.GlobalAllocator.TheImpl.{ghosts}
use Rattle.std.specs.contracts.snapshot.Snapshot as Snapshot
use Rattle.std.proofs.Crossing as heap
use Rattle.index_page.specs.contracts.in_memory.PageInMemory as PageInMemory
use Rattle.index_page.proofs.Crossing.{PageInMemory-send, PageInMemory-sync}
use Rattle.split_plan.specs.contracts.group_work.GroupDone as GroupDone
use Rattle.split_plan.specs.contracts.new_pages.NewPages as NewPages
use Rattle.split_plan.specs.contracts.new_pages.NewPages.TheInside as inside

new_pages_send : IsSend NewPages.the_row
new_pages_send =
    let page : IsSend (PageInMemory.the_row Global.the_row ghosts) = PageInMemory-send Global.the_row ghosts heap.send heap.frees in
    let boxed = heap.Box-send (PageInMemory.the_row Global.the_row ghosts) page in
    let blanks = heap.Vec-send _ boxed in
    let member : IsSend (Snapshot.the_row (PageInMemory.the_row Global.the_row ghosts)) = search sendable depth 20 in
    let members = heap.Vec-send (Snapshot.the_row (PageInMemory.the_row Global.the_row ghosts)) member in
    view_send _ _ _ _ _ (recorded_send _ _ _ inside.the_type.to_one (struct_send (shape inside.the_type) (blanks, (search sendable depth 20, (members, tt)))))

pub done_send : (κ : NamedLft) → IsSend (GroupDone.the_row κ)
done_send κ =
    let page : IsSync (PageInMemory.the_row Global.the_row ghosts) = PageInMemory-sync Global.the_row ghosts heap.sync in
    let members = heap.Vec-send (shr_ref_field κ (PageInMemory.the_row Global.the_row ghosts) tt).row (search sendable) in
    let pieces : IsSend NewPages.the_row = new_pages_send in
    search sendable depth 20
