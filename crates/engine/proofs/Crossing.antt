-- The work on leaves may be shared by threads: the tree that it reads is borrowed, and so are the commands. The result for a leaf may be sent from
-- one thread to another.
use denote.Ref.{NamedLft}
use denote.Struct.Declared.{shape}
use denote.Struct.Field.{shr_ref_field}
use denote.Enum.Declared as variants
use denote.Param.Send.{IsSend, IsSync, recorded_send, recorded_sync, struct_sync, shr_slice_sync, enum_send, sendable}
use Rattle.std.specs.contracts.alloc.Global as Global
use Rattle.std.specs.contracts.impls.GlobalAllocator.TheImpl.{ghosts}
use Rattle.std.proofs.Crossing as heap
use Rattle.keys.specs.contracts.command.Command as Command
use Rattle.keys.proofs.command.Command.TheSendSync as command
use Rattle.keys.proofs.settings.Settings.TheSendSync as settings
use Rattle.mapping.specs.contracts.tree.Tree as Tree
use Rattle.mapping.proofs.Crossing.{Tree-sync}
use Rattle.page_runs.proofs.Crossing.{done_send}
use Rattle.page_runs.proofs.read_work.LeafRead.TheSendSync as leaf_read
use Rattle.page_runs.specs.contracts.read_work.ReadWork as ReadWork
use Rattle.routing.proofs.page_run.PageRun.TheSendSync as page_run
use Rattle.engine.specs.contracts.group_reads.GroupReads as GroupReads
use Rattle.engine.specs.contracts.leaf_tasks.BatchWork as BatchWork
use Rattle.engine.specs.contracts.leaf_tasks.TaskDone as TaskDone

tree_lent : (κ : NamedLft) → IsSync (shr_ref_field κ (Tree.the_row Global.the_row ghosts) tt).row
tree_lent κ =
    let tree : IsSync (Tree.the_row Global.the_row ghosts) = Tree-sync Global.the_row ghosts heap.sync in
    search sendable

command_sync : IsSync (Command.the_row Global.the_row ghosts)
command_sync = command.the_sync Global.the_row ghosts heap.sync

pub read_sync : (κ : NamedLft) → IsSync (ReadWork.the_row κ)
read_sync κ = recorded_sync _ _ _ (ReadWork.the_type κ).to_one (struct_sync (shape (ReadWork.the_type κ)) (search sendable, (shr_slice_sync _ _ _ command_sync, (tree_lent κ, tt))))

pub groups_sync : (κ : NamedLft) → IsSync (GroupReads.the_row κ)
groups_sync κ = recorded_sync _ _ _ (GroupReads.the_type κ).to_one (struct_sync (shape (GroupReads.the_type κ)) (search sendable, (shr_slice_sync _ _ _ command_sync, (tree_lent κ, (shr_slice_sync _ _ _ page_run.the_sync, tt)))))

pub work_sync : (κ : NamedLft) → IsSync (BatchWork.the_row κ)
work_sync κ = recorded_sync _ _ _ (BatchWork.the_type κ).to_one (struct_sync (shape (BatchWork.the_type κ)) (search sendable, (settings.the_field_sync, (shr_slice_sync _ _ _ command_sync, (tree_lent κ, tt)))))

pub task_done_send : IsSend TaskDone.the_row
task_done_send = recorded_send _ _ _ TaskDone.the_type.to_one (enum_send (variants.shape TaskDone.the_type) ((leaf_read.the_send, tt), ((done_send, tt), tt)))
