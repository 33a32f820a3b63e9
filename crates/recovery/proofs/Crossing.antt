-- The page that is built from frames may cross threads: it owns its contents.
use denote.RattleType.{RattleType}
use denote.Struct.Declared.{shape}
use denote.Enum.Declared as variants
use denote.Param.Send.{IsSend, recorded_send, struct_send, enum_send}
use Rattle.std.specs.contracts.alloc.Global as Global
use Rattle.std.specs.contracts.impls.GlobalAllocator.TheImpl.{ghosts}
use Rattle.std.specs.contracts.option.Option as Option
use Rattle.std.proofs.Crossing as heap
use Rattle.index_page.proofs.Crossing.{Page-send}
use Rattle.index_page.specs.contracts.page.Page as Page
use Rattle.recovery.specs.contracts.rebuild.Rebuilt as Rebuilt
use Rattle.recovery.proofs.rebuild.PageLog.TheSendSync as log

abbrev pages : RattleType
pages = Page.the_row Global.the_row ghosts

page_send : IsSend (Option.the_field pages).row
page_send = enum_send (variants.shape (Option.the_type pages)) (tt, ((Page-send Global.the_row ghosts heap.send heap.frees, tt), tt))

pub rebuilt_send : IsSend Rebuilt.the_row
rebuilt_send = recorded_send _ _ _ Rebuilt.the_type.to_one (struct_send (shape Rebuilt.the_type) (log.the_field_send, (page_send, tt)))
