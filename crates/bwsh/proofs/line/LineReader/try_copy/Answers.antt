use Rattle.std.proofs.Common.{refl}
use Rattle.bwsh.proofs.WordLemmas.{the_only_is, the_two_are}
use Rattle.bwsh.proofs.line.LineReader.try_copy.Goals.{in-None, in-Some-2}
use Rattle.bwsh.proofs.line.LineReader.try_copy.Goals as goal

pub returns-in-Some : goal.returns-in-Some
returns-in-Some c =
    let only = the_only_is _ _ c.in-Some.ensures in
    elim c.match-branch-2.branch [
      | in-Some-2 w ↦ let path = w.in-Some-2.is in rw (w.result-is, only, ← c.in_ok-path.ensures, path) refl
      | in-None w ↦ let none = w.in-None.is in rw (w.result-is, only, ← c.in_ok-path.ensures, none) refl
    ]

pub returns-in_default-number_in : goal.returns-in_default-number_in
returns-in_default-number_in c =
    let no_number = c.in_default-number_in.is in
    let path = c.in-Some-3.is in
    rw (the_two_are _ _ _ c.in-Some-two_words.ensures, ← c.in_ok-path-2.ensures, ← c.number_in.ensures, no_number, path) refl

pub returns : goal.returns
returns c =
    let segments = c.in-Some-number_in.is in
    let path = c.in-Some-3.is in
    rw (the_two_are _ _ _ c.in-Some-two_words.ensures, ← c.in_ok-path-2.ensures, ← c.number_in.ensures, segments, path) refl
