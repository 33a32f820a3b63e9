use Rattle.std.proofs.Common.{◌≡◌, ◌+◌, ◌-◌, inl, refl, subst, arith, ℕ}
use Rattle.std.specs.Io.KnownBytes.{Appends}
use Rattle.std.proofs.KnownBytes.{Appends-nil}
use Rattle.std.proofs.lemmas.Result.{err_from_is_err_and}
use Rattle.keys.specs.Lists.{flat}
use Rattle.bwsh.specs.Session.{head_lines}
use Rattle.bwsh.proofs.FlushLemmas.{one_cut, one_printed}
use Rattle.bwsh.proofs.running.print_cleans.Goals as goal

pub loop-segment-init : goal.loop-segment-init
loop-segment-init g c = (0, omega arith, omega arith, Appends-nil (g.O.Write.contents c.args.out.now))

pub loop-segment-preserved : goal.loop-segment-preserved
loop-segment-preserved g c =
    let (n, is, few, printed) = c.loop-segment.invariant in
    let less = c.loop-segment-test.true in (
      n + 1,
      omega (arith, is),
      omega (arith, is, less),
      one_printed (g.O.Write.contents c.args.out.now) (g.O.Write.contents c.loop-segment.out) (g.O.Write.contents c.print_numbers.new.out) c.args.head n c.loop-segment.segment _ is printed refl c.in_ok-print_numbers.ensures,
    )

pub returns-in_err-print_numbers : goal.returns-in_err-print_numbers
returns-in_err-print_numbers g c =
    let (n, is, few, printed) = c.loop-segment.invariant in
    let less = c.loop-segment-test.true in
    let p = err_from_is_err_and c.from_residual.result c.from_residual.ensures.1 in
    rw (p.1, p.2) (one_cut (g.O.Write.contents c.args.out.now) (g.O.Write.contents c.loop-segment.out) (g.O.Write.contents c.print_numbers.new.out) c.args.head n c.loop-segment.segment (c.args.last - c.args.head) _ is
    (omega (arith, is, less)) printed c.in_err-print_numbers.ensures)

pub returns : goal.returns
returns g c =
    let (n, is, few, printed) = c.loop-segment.invariant in
    let last = c.loop-segment-test.false in
    let all : n ≡ c.args.last - c.args.head = omega (arith, is, few, last) in
    inl (refl, subst (λ (k : ℕ). Appends (g.O.Write.contents c.args.out.now) (g.O.Write.contents c.loop-segment.out) (flat (head_lines c.args.head k))) all printed)
