use Rattle.std.proofs.Common.{refl}
use Rattle.std.specs.Prelude.{Err}
use Rattle.bwsh.specs.declared.line.Why.TheVariants.{WordCount}
use Rattle.bwsh.specs.Line.{range_and_limit}
use Rattle.bwsh.proofs.WordLemmas.{not_three, the_three_are}
use Rattle.bwsh.proofs.line.LineReader.range.Goals as goal

pub returns-in_default : goal.returns-in_default
returns-in_default c = not_three range_and_limit (Err WordCount) refl (λ v. refl) (λ v w. refl) (λ v w x y rest. refl) _ c.in_default.ensures

pub returns-in_default-2 : goal.returns-in_default-2
returns-in_default-2 c =
    let none = c.in_default-2.is in
    rw (the_three_are _ _ _ _ c.in-Some.ensures, ← c.in_ok-lo.ensures, none) refl

pub returns-in_default-3 : goal.returns-in_default-3
returns-in_default-3 c =
    let no_bound = c.in_default-3.is in
    let lo = c.in-Some-2.is in
    rw (the_three_are _ _ _ _ c.in-Some.ensures, ← c.in_ok-lo.ensures, ← c.in_ok-hi.ensures, no_bound, lo) refl

pub returns-in_default-number_in : goal.returns-in_default-number_in
returns-in_default-number_in c =
    let no_number = c.in_default-number_in.is in
    let lo = c.in-Some-2.is in
    let hi = c.in-Some-3.is in
    rw (the_three_are _ _ _ _ c.in-Some.ensures, ← c.in_ok-lo.ensures, ← c.in_ok-hi.ensures, ← c.number_in.ensures, no_number, lo, hi) refl

pub returns : goal.returns
returns c =
    let limit = c.in-Some-number_in.is in
    let lo = c.in-Some-2.is in
    let hi = c.in-Some-3.is in
    rw (the_three_are _ _ _ _ c.in-Some.ensures, ← c.in_ok-lo.ensures, ← c.in_ok-hi.ensures, ← c.number_in.ensures, limit, lo, hi) refl
