use Rattle.std.proofs.Common.{inl, inr, refl, sym, subst, ◌∙◌}
use Rattle.std.proofs.lemmas.Result.{err_from_is_err_and}
use Rattle.mapping.specs.Levels.{contents}
use Rattle.flush_log.specs.Disk.{IsSynced, LeavesOnly}
use Rattle.flush_log.specs.declared.text.CommitKind.TheVariants as texts
use Rattle.engine.specs.Copies.{HoldsSomeStore}
use Rattle.engine.specs.Refusal.{is_crew}
use Rattle.engine.proofs.AsBefore.{text_as_before}
use Rattle.engine.proofs.CopyDone.{unfilled_leaves, refused_leaves, flush_leaves, fill_rest, fill_exact, fill_refused, fill_same, fill_counted, fill_contents, fill_bytes, fill_synced, fill_written, kept_by, put_fault}
use Rattle.engine.proofs.store.Store.fill.Goals as goal

-- ---- not all pairs were put

pub returns-in_err-put_all-clause-settings : goal.returns-in_err-put_all-clause-settings
returns-in_err-put_all-clause-settings g c = c.put_all.ensures.rest.0

pub returns-in_err-put_all-clause-filling : goal.returns-in_err-put_all-clause-filling
returns-in_err-put_all-clause-filling g c =
    let view = g.E.Disk.view in
    let old = c.args.copy.now in
    let rest = c.put_all.ensures.rest in
    let p = err_from_is_err_and c.from_residual.result c.from_residual.ensures.1 in
    rw (p.1, p.2) (record {
      copy = record {
        made = tt;
        holds = tt;
        exact = tt;
        kept = tt;
        back = kept_by view old.disk c.put_all.new.copy.disk rest.1;
        sound = tt;
        written = λ _. tt;
        bytes = λ _. tt;
        crash = λ is_synced. unfilled_leaves view old c.put_all.new.copy.disk (g.met.E.Disk.lawful old.disk is_synced.honest) c.requires.fresh.sound c.requires.fresh.fine is_synced rest.1;
      };
      is_synced = λ _. tt;
      refused = inr (inl (put_fault old.settings old.store (contents c.args.self.now.store.tree) _ c.requires.fresh.first c.in_err-put_all.ensures.refused));
      unchanged = λ _. rest.1;
    })

-- ---- they weren't flushed

pub returns-in_err-flush-clause-settings : goal.returns-in_err-flush-clause-settings
returns-in_err-flush-clause-settings g c = c.flush.ensures.step.rest.0 ∙ c.put_all.ensures.rest.0

pub returns-in_err-flush-clause-filling : goal.returns-in_err-flush-clause-filling
returns-in_err-flush-clause-filling g c =
    let view = g.E.Disk.view in
    let failed = g.E.Disk.failed in
    let all = contents c.args.self.now.store.tree in
    let old = c.args.copy.now in
    let mid = c.put_all.new.copy in
    let now = c.flush.new.self in
    let rest = c.put_all.ensures.rest in
    let put = c.in_ok-put_all.ensures in
    let fine = rest.2 ∙ c.requires.fresh.fine in
    let left = text_as_before view failed (is_crew c.args.crew) (texts.Flush mid.store.version) mid now refl _ c.in_err-flush.ensures.step in
    let flushed = text_as_before view failed (is_crew c.args.crew) (texts.Flush mid.store.version) mid now refl c.flush.result c.flush.ensures.step in
    let p = err_from_is_err_and c.from_residual-in_err-flush.result c.from_residual-in_err-flush.ensures.1 in
    rw (p.1, p.2) (record {
      copy = record {
        made = tt;
        holds = tt;
        exact = tt;
        kept = tt;
        back = (fill_rest view failed old mid now all rest c.flush.ensures.step.rest).1;
        sound = tt;
        written = λ _. tt;
        bytes = λ _. tt;
        crash = λ is_synced. (
            let there = subst (λ d. IsSynced (view d)) (sym rest.1) is_synced in
            subst (λ d. LeavesOnly (view d) (view now.disk) HoldsSomeStore) rest.1
            (refused_leaves view mid now c.flush.ensures.step.sound.0 fine there (flushed.crash fine there) _ _ _ (g.met.E.Disk.lawful mid.disk there.honest)
            left.frames_under_way c.what_was_flushed_is_what_is_read.ensures.read left.unchanged (left.refused fine c.requires.crew)));
      };
      is_synced = λ _. tt;
      refused = fill_refused view failed old mid now all rest c.requires.fresh.first put.log put.tree _ (left.refused fine c.requires.crew);
      unchanged = λ other. fill_same view failed old mid now all rest (left.unchanged other);
    })

-- ---- all is done

pub returns-clause-settings : goal.returns-clause-settings
returns-clause-settings g c = c.flush.ensures.step.rest.0 ∙ c.put_all.ensures.rest.0

pub returns-clause-filling : goal.returns-clause-filling
returns-clause-filling g c =
    let view = g.E.Disk.view in
    let failed = g.E.Disk.failed in
    let all = contents c.args.self.now.store.tree in
    let old = c.args.copy.now in
    let mid = c.put_all.new.copy in
    let now = c.flush.new.self in
    let rest = c.put_all.ensures.rest in
    let put = c.in_ok-put_all.ensures in
    let good = c.requires.fresh.fine in
    let fine = rest.2 ∙ good in
    let read = c.what_was_flushed_is_what_is_read.ensures.read in
    let sound = c.flush.ensures.step.sound in
    let kept = fill_rest view failed old mid now all rest c.flush.ensures.step.rest in
    let done = text_as_before view failed (is_crew c.args.crew) (texts.Flush mid.store.version) mid now refl _ c.in_ok-flush.ensures.step in
    let flushed = text_as_before view failed (is_crew c.args.crew) (texts.Flush mid.store.version) mid now refl c.flush.result c.flush.ensures.step in
    let counted = fill_counted view failed old mid now all rest done.counted good in
    record {
      copy = record {
        made = (kept.0, counted.0);
        holds = fill_contents view failed old mid now all rest c.what_was_flushed_is_what_is_read.ensures.tree sound.0 done.store.1 put.holds;
        exact = fill_exact view failed old mid now all rest c.requires.fresh.first put.log put.tree done.store.1;
        kept = (kept.1, counted.1);
        back = tt;
        sound = sound.1;
        written = fill_written view failed old mid now all rest c.requires.fresh.first put.log put.tree (λ honest. done.bytes honest);
        bytes = fill_bytes view failed old mid now all rest good sound.0 done.frames read (λ honest. done.bytes honest);
        crash = λ is_synced. (
            let there = subst (λ d. IsSynced (view d)) (sym rest.1) is_synced in
            subst (λ d. LeavesOnly (view d) (view now.disk) HoldsSomeStore) rest.1
            (flush_leaves view mid now sound.0 fine there (flushed.crash fine there) done.frames read));
      };
      is_synced = fill_synced view failed old mid now all rest good (λ good none. (c.flush.ensures.nothing good c.requires.crew none).1) (λ honest some. done.is_synced honest some);
      refused = tt;
      unchanged = tt;
    }
