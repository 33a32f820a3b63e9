use Rattle.std.proofs.Common.{arith}
use Rattle.std.proofs.lemmas.List.{length-map}
use Rattle.flush_log.specs.Record.{call_of, calls_of}
use Rattle.flush_log.proofs.CrashLemmas.{front_call, tearing-starts, tearing-here, tearing-next, tearing-ends}
use Rattle.flush_log.proofs.crash_disk.tear.Goals as goal

pub loop-call-init : goal.loop-call-init
loop-call-init g c = tearing-starts c.args.fill (calls_of c.args.calls.now) c.args.file.now.items c.requires

pub tear_call-requires : goal.tear_call-requires
tear_call-requires g c =
    let at = c.loop-call.call-index in
    let item = c.call-item.result in
    tearing-here c.args.fill (calls_of c.args.calls.now) c.args.file.now.items at c.loop-call.file.items c.loop-call.invariant (call_of item) (front_call c.args.calls.now at item (omega arith) c.call-item.is)

pub loop-call-preserved : goal.loop-call-preserved
loop-call-preserved g c =
    let at = c.loop-call.call-index in
    let item = c.call-item.result in
    tearing-next c.args.fill (calls_of c.args.calls.now) c.args.file.now.items at c.loop-call.file.items c.loop-call.invariant (call_of item) (front_call c.args.calls.now at item (omega arith) c.call-item.is)
    c.tear_call.new.file.items c.tear_call.ensures.torn c.tear_call.ensures.long

pub returns-clause-torn : goal.returns-clause-torn
returns-clause-torn g c =
    let count = length-map c.args.calls.now call_of in
    tearing-ends c.args.fill (calls_of c.args.calls.now) c.args.file.now.items c.loop-call.call-index c.loop-call.file.items c.loop-call.invariant (omega (arith, count, c.loop-call-test.false))
