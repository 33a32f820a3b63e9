use Rattle.std.proofs.Common.{length, sym, ◌∙◌}
use Rattle.flush_log.specs.Overlay.{AgreeAt}
use Rattle.flush_log.specs.Commit.{IsBesideSpans}
use Rattle.flush_log.specs.Layout.{spans}
use Rattle.flush_log.proofs.OverlayLemmas.{agree_same}
use Rattle.flush_log.proofs.ViewLemmas.{nothing_leaves}
use Rattle.flush_log.proofs.CommitRuns.{no_spans, some_text}
use Rattle.flush_log.proofs.commit.write_images.Goals as goal

pub returns-then-is_empty-clause-written : goal.returns-then-is_empty-clause-written
returns-then-is_empty-clause-written g c text of either honest =
    no_spans c.args.settings.now c.args.tail c.args.images.now text (g.D.Disk.view c.args.disk.now).seen (sym c.is_empty.ensures ∙ c.if-is_empty.true) of

pub returns-then-is_empty-clause-crash : goal.returns-then-is_empty-clause-crash
returns-then-is_empty-clause-crash g c text of either honest =
    let rs = spans c.args.settings.now c.args.tail text in
    nothing_leaves (g.D.Disk.view c.args.disk.now) (AgreeAt (IsBesideSpans c.args.settings.now rs)) (g.met.D.Disk.lawful c.args.disk.now honest) (λ f. agree_same (IsBesideSpans c.args.settings.now rs) f)

pub returns-clause-written : goal.returns-clause-written
returns-clause-written g c text of either honest =
    c.write_frames.ensures.written text of (some_text c.args.images.now (length text) (sym c.is_empty.ensures ∙ c.if-is_empty.false) either) honest

pub returns-clause-crash : goal.returns-clause-crash
returns-clause-crash g c text of either honest =
    c.write_frames.ensures.crash text of (some_text c.args.images.now (length text) (sym c.is_empty.ensures ∙ c.if-is_empty.false) either) honest
