use Rattle.std.proofs.Common.{[], Option, IfOk, sym, ap, subst}
use Rattle.std.specs.Option.{option_copied}
use Rattle.index_page.specs.Page.{PageOfKind}
use Rattle.mapping.specs.LogState.{log_state}
use Rattle.flush_log.specs.FlushText.{lacking}
use Rattle.flush_log.specs.ImageWork.{AreWritten}
use Rattle.flush_log.proofs.image_work.image_of.Goals as goal

pub returns-in-None : goal.returns-in-None
returns-in-None c =
    subst (λ (o : Option PageOfKind). IfOk c.free_image.result (λ image. AreWritten c.args.pid (lacking c.args.encoding o (log_state c.args.logged)) [] image))
    (sym (ap option_copied c.in-None.is)) (c.free_image.ensures c.args.encoding)
