use Rattle.std.proofs.Common.{◌≡◌, ◌++◌, List, Vec, map, refl, sym, ap, subst, ◌∙◌}
use Rattle.std.specs.Map.{keys_of}
use Rattle.keys.specs.declared.fault.Fault.TheVariants.{NoMemory}
use Rattle.mapping.specs.Proper.{AreRisingPids}
use Rattle.recovery.specs.BuiltTree.{log_pids, pages_of_logs, filled}
use Rattle.recovery.specs.Rebuild.{HeldLog, held_log}
use Rattle.recovery.specs.declared.rebuild.PageLog.{PageLog}
use Rattle.recovery.proofs.BuildLemmas.{AreAside, aside-none, aside-more, aside-passed, aside-rise, aside-built, put-aside, empty_by}
use Rattle.recovery.proofs.ReadBytes.{err_on, nothing_of}
use Rattle.recovery.proofs.build_tree.table_of.Goals as goal

pub loop-entry-init : goal.loop-entry-init
loop-entry-init g c =
    aside-none c.args.work.now.format c.new-table.result (map held_log c.new-logs.result.items) c.into_iter-entry-iterator.result c.args.by_pid.entries c.new-table.ensures
    (ap (λ (ls : List PageLog). map held_log ls) c.new-logs.ensures.items) c.into_iter-entry-iterator.ensures.into_iter_gives.0 c.len-rising.ensures.ordered

pub loop-entry-preserved-then-is_empty : goal.loop-entry-preserved-then-is_empty
loop-entry-preserved-then-is_empty g c =
    aside-passed c.args.work.now.format c.loop-entry.table (map held_log c.loop-entry.logs.items) c.loop-entry.entry-iterator c.next.new.self c.args.by_pid.entries c.loop-entry.invariant c.in-Some.entry c.in-Some.ensures.steps
    (empty_by c.in-Some.entry.1.frames.items c.in-Some.entry.1.frames.len (sym c.in-Some.entry.1.frames.ok.0) (sym c.is_empty.ensures ∙ c.if-is_empty.true))

pub loop-entry-preserved : goal.loop-entry-preserved
loop-entry-preserved g c =
    aside-more c.args.work.now.format c.loop-entry.table (map held_log c.loop-entry.logs.items) c.loop-entry.entry-iterator c.next.new.self c.args.by_pid.entries c.loop-entry.invariant c.in-Some.entry c.in-Some.ensures.steps
    (map held_log c.push.new.self.items) (put-aside _ _ _ c.in-Some.entry c.in_ok-push.ensures.items refl)

pub build_pages-requires-after_bounds : goal.build_pages-requires-after_bounds
build_pages-requires-after_bounds g c κs within =
    let s = c.args.work.now.format in
    let t = c.loop-entry.table in
    let now : List HeldLog = map held_log c.push.new.self.items in
    let more : AreAside s t now c.next.new.self c.args.by_pid.entries =
    aside-more s t (map held_log c.loop-entry.logs.items) c.loop-entry.entry-iterator c.next.new.self c.args.by_pid.entries c.loop-entry.invariant c.in-Some.entry c.in-Some.ensures.steps
    now (put-aside _ _ _ c.in-Some.entry c.in_ok-push.ensures.items refl) in
    subst (λ (v : Vec PageLog _). AreRisingPids (keys_of t.places ++ log_pids (map held_log v.items))) (sym c.replace-full.ensures.value) (aside-rise s t now c.next.new.self c.args.by_pid.entries more)

pub loop-entry-preserved-in-Continue-branch-2 : goal.loop-entry-preserved-in-Continue-branch-2
loop-entry-preserved-in-Continue-branch-2 g c =
    let s = c.args.work.now.format in
    let t = c.loop-entry.table in
    let now : List HeldLog = map held_log c.push.new.self.items in
    let more : AreAside s t now c.next.new.self c.args.by_pid.entries =
    aside-more s t (map held_log c.loop-entry.logs.items) c.loop-entry.entry-iterator c.next.new.self c.args.by_pid.entries c.loop-entry.invariant c.in-Some.entry c.in-Some.ensures.steps
    now (put-aside _ _ _ c.in-Some.entry c.in_ok-push.ensures.items refl) in
    aside-built s t now c.next.new.self c.args.by_pid.entries more c.build_pages.new.table (map held_log c.replace-full.new.dest.items)
    (c.in_ok-build_pages.ensures.ok ∙ ap (λ (v : Vec PageLog _). filled t (pages_of_logs s (map held_log v.items))) c.replace-full.ensures.value)
    (ap (λ (v : Vec PageLog _). map held_log v.items) c.replace-full.ensures.after ∙ ap (λ (ls : List PageLog). map held_log ls) c.new.ensures.items)

pub returns-in_err-push-clause-ok : goal.returns-in_err-push-clause-ok
returns-in_err-push-clause-ok g c = nothing_of c.from_residual.result _ c.from_residual.ensures.0

pub returns-in_err-push-clause-err : goal.returns-in_err-push-clause-err
returns-in_err-push-clause-err g c = err_on c.from_residual.result (λ fault. fault ≡ NoMemory) NoMemory c.from_residual.ensures.1 refl

pub returns-in_err-push-clause-ordered : goal.returns-in_err-push-clause-ordered
returns-in_err-push-clause-ordered g c = c.len-rising.ensures.ordered

pub returns-in_err-build_pages-clause-ok : goal.returns-in_err-build_pages-clause-ok
returns-in_err-build_pages-clause-ok g c = nothing_of c.from_residual-in_err-build_pages.result _ c.from_residual-in_err-build_pages.ensures.0

pub returns-in_err-build_pages-clause-err : goal.returns-in_err-build_pages-clause-err
returns-in_err-build_pages-clause-err g c = err_on c.from_residual-in_err-build_pages.result (λ fault. fault ≡ NoMemory) c.in_err-build_pages.field-0.0 c.from_residual-in_err-build_pages.ensures.1 c.in_err-build_pages.ensures.err

pub returns-in_err-build_pages-clause-ordered : goal.returns-in_err-build_pages-clause-ordered
returns-in_err-build_pages-clause-ordered g c = c.len-rising.ensures.ordered

pub returns-in_err-build_pages-2-clause-ok : goal.returns-in_err-build_pages-2-clause-ok
returns-in_err-build_pages-2-clause-ok g c = nothing_of c.from_residual-in_err-build_pages-2.result _ c.from_residual-in_err-build_pages-2.ensures.0

pub returns-in_err-build_pages-2-clause-err : goal.returns-in_err-build_pages-2-clause-err
returns-in_err-build_pages-2-clause-err g c = err_on c.from_residual-in_err-build_pages-2.result (λ fault. fault ≡ NoMemory) c.in_err-build_pages-2.field-0.0 c.from_residual-in_err-build_pages-2.ensures.1 c.in_err-build_pages-2.ensures.err

pub returns-in_err-build_pages-2-clause-ordered : goal.returns-in_err-build_pages-2-clause-ordered
returns-in_err-build_pages-2-clause-ordered g c = c.len-rising.ensures.ordered

pub returns-clause-err : goal.returns-clause-err
returns-clause-err g c = tt

pub returns-clause-ordered : goal.returns-clause-ordered
returns-clause-ordered g c = c.len-rising.ensures.ordered
