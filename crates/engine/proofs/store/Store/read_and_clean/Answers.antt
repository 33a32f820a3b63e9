use Rattle.std.proofs.Common.{◌≤◌, ◌∙◌, sym, subst, arith}
use Rattle.keys.specs.declared.settings.Settings.{Settings}
use Rattle.engine.specs.Cleaning.{most_ahead}
use Rattle.engine.proofs.CleansLemmas.{none_on, refused_on, stopped_on, read_then, read_then_stopped, if_ok, if_err}
use Rattle.engine.proofs.EarlyLemmas.{early_ok, early_err, held_read, is_early, is_for, some_ahead}
use Rattle.engine.proofs.RowsLemmas.{calm_read, calm_refused, few_read, whole_read}
use Rattle.engine.proofs.store.Store.read_and_clean.Goals as goal

pub read_ahead-requires-clause-some : goal.read_ahead-requires-clause-some
read_ahead-requires-clause-some g c = λ κs within. some_ahead c.args.most c.args.self.now.settings c.requires.most

pub clean_if_worth-requires-clause-ready : goal.clean_if_worth-requires-clause-ready
clean_if_worth-requires-clause-ready g c = λ κs within. (
    let (only, read, below) = c.in-Ok.ensures.read in
    let most = c.requires.most in
    record {
      fine = only.counted.0 ∙ c.requires.fine;
      held = held_read g.D.Disk.view g.D.Disk.failed c.args.self.now c.read_ahead.new.self _ only read below
          (is_for g.D.Disk.view g.D.Disk.failed c.args.self.now c.args.most _ c.requires.most c.in-Ok.ensures.limit) c.in-Ok.ensures.live;
      some = some_ahead c.args.most c.args.self.now.settings c.requires.most;
      few = subst (λ (s : Settings). c.args.most ≤ most_ahead s) (sym only.rest.0) (omega (arith, most));
    })

pub returns-in-Err-clause-done : goal.returns-in-Err-clause-done
returns-in-Err-clause-done g c =
    let view = g.D.Disk.view in
    let failed = g.D.Disk.failed in
    let lawful = g.met.D.Disk.lawful in
    let old = c.args.self.now in
    let new = c.read_ahead.new.self in
    early_ok c.early_refusal.result c.in-Err.fault _ c.early_refusal.ensures
    (λ other. (
      omega arith,
      refused_on view failed lawful old 0 old (none_on view failed lawful old) new c.in-Err.fault other.0 c.in-Err.ensures.refused,
      λ some. absurd (omega (arith, some)),
      λ _. calm_refused view failed lawful old new c.in-Err.fault other c.in-Err.ensures.refused,
      tt,
    ))

pub returns-in-Err-clause-stopped : goal.returns-in-Err-clause-stopped
returns-in-Err-clause-stopped g c =
    let view = g.D.Disk.view in
    let failed = g.D.Disk.failed in
    let lawful = g.met.D.Disk.lawful in
    let old = c.args.self.now in
    let new = c.read_ahead.new.self in
    early_err c.early_refusal.result c.in-Err.fault _ c.early_refusal.ensures
    (λ machine. (machine, 0, some_ahead c.args.most old.settings c.requires.most, omega arith, λ some. absurd (omega (arith, some)), stopped_on view failed lawful old 0 old (none_on view failed lawful old) new c.in-Err.fault c.in-Err.ensures.refused))

pub returns-in-Ok-clause-done : goal.returns-in-Ok-clause-done
returns-in-Ok-clause-done g c =
    let view = g.D.Disk.view in
    let failed = g.D.Disk.failed in
    let old = c.args.self.now in
    let mid = c.read_ahead.new.self in
    let next = c.clean_if_worth.new.self in
    let (only, read, below) = c.in-Ok.ensures.read in
    if_ok c.clean_if_worth.result _ _ c.clean_if_worth.ensures.done
    (λ e h. (
      h.0,
      read_then view failed g.met.D.Disk.lawful old mid next e.0 only h.1,
      λ some. (let (helps, whole) = h.2 some in (is_early view failed old mid _ only c.requires.due c.in-Ok.ensures.live helps, whole_read view failed g.met.D.Disk.lawful old mid only next c.args.most e.0 whole)),
      λ none. calm_read view failed g.met.D.Disk.lawful old mid only (h.3 none),
      h.4,
    ))

pub returns-in-Ok-clause-stopped : goal.returns-in-Ok-clause-stopped
returns-in-Ok-clause-stopped g c =
    let view = g.D.Disk.view in
    let failed = g.D.Disk.failed in
    let old = c.args.self.now in
    let mid = c.read_ahead.new.self in
    let next = c.clean_if_worth.new.self in
    let (only, read, below) = c.in-Ok.ensures.read in
    if_err c.clean_if_worth.result _ _ c.clean_if_worth.ensures.stopped
    (λ fault h. (
      h.0,
      h.1,
      h.2,
      few_read view failed g.met.D.Disk.lawful old mid only h.1 h.3,
      λ some. is_early view failed old mid _ only c.requires.due c.in-Ok.ensures.live (h.4 some),
      read_then_stopped view failed g.met.D.Disk.lawful old mid next h.1 fault only h.5,
    ))
