use Rattle.std.proofs.Common.{sym, ap, ◌∙◌, List, ℕ, Some}
use Rattle.scan.proofs.EndLemmas.{may_end}
use Rattle.scan.proofs.ends.end_of.Goals as goal

pub returns-in-Some : goal.returns-in-Some
returns-in-Some c = λ gone m is lack.
    may_end _ m c.args.command.now c.in-Scan.lo _ c.in-Scan.hi _ c.in-Scan.limit c.end_of_scan.result c.in-Scan.is c.as_bytes.ensures
    (ap (λ (k : List ℕ). Some k) c.as_bytes-in-Some.ensures ∙ sym c.in-Some.is) (c.end_of_scan.ensures gone m is lack)

pub returns-in-None : goal.returns-in-None
returns-in-None c = λ gone m is lack.
    may_end _ m c.args.command.now c.in-Scan.lo _ c.in-Scan.hi _ c.in-Scan.limit c.end_of_scan-in-None.result c.in-Scan.is c.as_bytes-in-None.ensures (sym c.in-None.is) (c.end_of_scan-in-None.ensures gone m is lack)
