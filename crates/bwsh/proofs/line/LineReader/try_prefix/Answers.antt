use Rattle.std.proofs.Common.{refl}
use Rattle.bwsh.specs.declared.line.Line.TheVariants.{Bad}
use Rattle.bwsh.specs.declared.line.Why.TheVariants.{WordCount}
use Rattle.bwsh.specs.Line.{parse_prefix}
use Rattle.bwsh.proofs.WordLemmas.{not_two, the_two_are}
use Rattle.bwsh.proofs.line.LineReader.try_prefix.Goals as goal

pub returns-in_default : goal.returns-in_default
returns-in_default c = not_two parse_prefix (Bad WordCount) refl (λ v. refl) (λ v w x rest. refl) _ c.in_default.ensures

pub returns-in_default-2 : goal.returns-in_default-2
returns-in_default-2 c =
    let none = c.in_default-2.is in
    rw (the_two_are _ _ _ c.in-Some.ensures, ← c.in_ok-bytes.ensures, none) refl

pub returns-in_default-number_in : goal.returns-in_default-number_in
returns-in_default-number_in c =
    let no_number = c.in_default-number_in.is in
    let bytes = c.in-Some-2.is in
    rw (the_two_are _ _ _ c.in-Some.ensures, ← c.in_ok-bytes.ensures, ← c.number_in.ensures, no_number, bytes) refl

pub returns : goal.returns
returns c =
    let limit = c.in-Some-number_in.is in
    let bytes = c.in-Some-2.is in
    rw (the_two_are _ _ _ c.in-Some.ensures, ← c.in_ok-bytes.ensures, ← c.number_in.ensures, limit, bytes) refl
