-- The output of a job may cross threads: the page is borrowed, and the image owns its frames.
use denote.Ref.{NamedLft}
use denote.Struct.Declared.{shape}
use denote.Param.Send.{IsSend, view_send, recorded_send, struct_send, sendable}
use Rattle.std.specs.contracts.alloc.Global as Global
use Rattle.std.specs.contracts.impls.GlobalAllocator.TheImpl.{ghosts}
use Rattle.std.proofs.Crossing as heap
use Rattle.index_page.proofs.Crossing.{Page-sync}
use Rattle.flush_log.specs.contracts.image.Image as Image
use Rattle.flush_log.specs.contracts.image_work.ImageDone as ImageDone
use Rattle.flush_log.specs.contracts.image_work.ImageDone.TheInside as inside
use Rattle.flush_log.specs.contracts.image_work.ImageJob as ImageJob

image_send : IsSend Image.the_row
image_send = let text = heap.Vec-send in search sendable depth 20

job_send : (κ : NamedLft) → IsSend (ImageJob.the_field κ).row
job_send κ = let page = Page-sync Global.the_row ghosts heap.sync in search sendable depth 20

pub done_send : (κ : NamedLft) → IsSend (ImageDone.the_row κ)
done_send κ = view_send _ _ _ _ _ (recorded_send _ _ _ (inside.the_type κ).to_one (struct_send (shape (inside.the_type κ)) (job_send κ, (image_send, tt))))
