-- The words of a line.
use Rattle.std.specs.Prelude.{ℕ, Bool, true, false, ◌||◌, ◌==◌, List, [], ◌∷◌, Option, Some, None, filter}
use Rattle.std.specs.List.{slice_split}
use Rattle.keys.specs.Bytes.{Bytes}

-- a space or a tab
abbrev pub is_blank : ℕ → Bool
is_blank c = (c == 32) || (c == 9)

-- whether it is not empty
abbrev pub is_word : Bytes → Bool
is_word [] = false
is_word (c ∷ cs) = true

-- the nonempty parts of a line between its blanks
abbrev pub words_of : Bytes → List Bytes
words_of line = filter is_word (slice_split is_blank line)

-- the word, if it is the only one
abbrev pub the_only : List Bytes → Option Bytes
the_only (word ∷ []) = Some word
the_only _ = None

-- the two words, if there are no others
abbrev pub the_two : List Bytes → Option (Bytes × Bytes)
the_two (first ∷ second ∷ []) = Some (first, second)
the_two _ = None

-- the three words, if there are no others
abbrev pub the_three : List Bytes → Option (Bytes × Bytes × Bytes)
the_three (first ∷ second ∷ third ∷ []) = Some (first, second, third)
the_three _ = None
