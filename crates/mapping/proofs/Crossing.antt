-- Trees may cross threads if their allocator may.
use denote.RattleType.{RattleType}
use denote.Param.Send.{IsSend, IsSync, Frees, sendable}
use Rattle.std.specs.declared.alloc.Allocator.{Ghosts}
use Rattle.index_page.specs.contracts.page.Page as Page
use Rattle.index_page.proofs.Crossing.{Page-send, Page-sync}
use Rattle.mapping.specs.contracts.page_table.PageTable as PageTable
use Rattle.mapping.specs.contracts.table.Table as Table
use Rattle.mapping.specs.contracts.tree.Tree as Tree
use Rattle.mapping.specs.contracts.due.Due as Due
use Rattle.mapping.proofs.due.Due.TheSendSync as due
use Rattle.mapping.proofs.table.Table.TheSendSync as table

module _ (A : RattleType) (g : Ghosts A.Denot) where
  table-send : IsSend A → Frees g g.dealloc_token → IsSend (PageTable.the_row A g)
  table-send s f = let t : IsSend (Table.the_row (Page.the_row A g) A g) = table.the_send (Page.the_row A g) A g (Page-send A g s f) s f in let d : IsSend (Due.the_row A g) = due.the_send A g s f in search sendable depth 20

  table-sync : IsSync A → IsSync (PageTable.the_row A g)
  table-sync s = let t : IsSync (Table.the_row (Page.the_row A g) A g) = table.the_sync (Page.the_row A g) A g (Page-sync A g s) s in let d : IsSync (Due.the_row A g) = due.the_sync A g s in search sendable depth 20

  pub Tree-send : IsSend A → Frees g g.dealloc_token → IsSend (Tree.the_row A g)
  Tree-send s f = let t = table-send s f in search sendable depth 20

  pub Tree-sync : IsSync A → IsSync (Tree.the_row A g)
  Tree-sync s = let t = table-sync s in search sendable depth 20
