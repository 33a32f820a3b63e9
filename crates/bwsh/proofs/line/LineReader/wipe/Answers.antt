use Rattle.std.proofs.Common.{refl}
use Rattle.bwsh.specs.declared.line.Line.TheVariants.{Bad}
use Rattle.bwsh.specs.declared.line.Why.TheVariants.{WordCount}
use Rattle.bwsh.specs.Line.{parse_wipe}
use Rattle.bwsh.proofs.WordLemmas.{not_two, the_two_are}
use Rattle.bwsh.proofs.line.LineReader.wipe.Goals as goal

pub returns-in_default : goal.returns-in_default
returns-in_default c = not_two parse_wipe (Bad WordCount) refl (λ v. refl) (λ v w x rest. refl) _ c.in_default.ensures

pub returns-in_default-2 : goal.returns-in_default-2
returns-in_default-2 c =
    let none = c.in_default-2.is in
    rw (the_two_are _ _ _ c.in-Some.ensures, ← c.in_ok-lo.ensures, none) refl

pub returns-in_default-3 : goal.returns-in_default-3
returns-in_default-3 c =
    let no_bound = c.in_default-3.is in
    let lo = c.in-Some-2.is in
    rw (the_two_are _ _ _ c.in-Some.ensures, ← c.in_ok-lo.ensures, ← c.in_ok-hi.ensures, no_bound, lo) refl

pub returns : goal.returns
returns c =
    let lo = c.in-Some-2.is in
    let hi = c.in-Some-3.is in
    rw (the_two_are _ _ _ c.in-Some.ensures, ← c.in_ok-lo.ensures, ← c.in_ok-hi.ensures, lo, hi) refl
