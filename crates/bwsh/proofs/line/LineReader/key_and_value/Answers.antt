use Rattle.std.proofs.Common.{refl}
use Rattle.std.specs.Prelude.{Err}
use Rattle.bwsh.specs.declared.line.Why.TheVariants.{WordCount}
use Rattle.bwsh.specs.Line.{key_and_value}
use Rattle.bwsh.proofs.WordLemmas.{not_two, the_two_are}
use Rattle.bwsh.proofs.line.LineReader.key_and_value.Goals as goal

pub returns-in_default : goal.returns-in_default
returns-in_default c = not_two key_and_value (Err WordCount) refl (λ v. refl) (λ v w x rest. refl) _ c.in_default.ensures

pub returns-in_default-2 : goal.returns-in_default-2
returns-in_default-2 c =
    let none = c.in_default-2.is in
    rw (the_two_are _ _ _ c.in-Some.ensures, ← c.in_ok-key.ensures, none) refl

pub returns-in_default-3 : goal.returns-in_default-3
returns-in_default-3 c =
    let no_value = c.in_default-3.is in
    let key = c.in-Some-2.is in
    rw (the_two_are _ _ _ c.in-Some.ensures, ← c.in_ok-key.ensures, ← c.in_ok-value.ensures, no_value, key) refl

pub returns : goal.returns
returns c =
    let value = c.in-Some-3.is in
    let key = c.in-Some-2.is in
    rw (the_two_are _ _ _ c.in-Some.ensures, ← c.in_ok-key.ensures, ← c.in_ok-value.ensures, value, key) refl
