-- Output through a buffer.
use Rattle.std.specs.Prelude.{◌≡◌, ◌⊎◌, List, ◌++◌, Option, Result, Ok, Err}
use Rattle.std.specs.Io.KnownBytes.{Appends}
use Rattle.keys.specs.Bytes.{Bytes}
use Rattle.keys.specs.Lists.{flat}
use Rattle.bwsh.specs.declared.output.Buffer.{Buffer}
use Rattle.bwsh.specs.declared.session.SessionError.{SessionError}
use Rattle.bwsh.specs.declared.session.SessionError.TheVariants.{Device}

-- the list begins with the other one
abbrev pub BeginsWith : {X : Type 0} → List X → List X → Type 0
BeginsWith {X} xs front = (rest : List X) × (xs ≡ front ++ rest)

-- known bytes, and the text that follows them, are together extended by these bytes
abbrev pub Adds : Option Bytes → Bytes → Option Bytes → Bytes → Bytes → Type 0
Adds old held new left bytes = (front : Bytes) × Appends old new front × (held ++ bytes ≡ front ++ left)

-- known bytes are extended by a prefix of this text
abbrev pub IsBegun : Option Bytes → Option Bytes → Bytes → Type 0
IsBegun old new text = (front : Bytes) × BeginsWith text front × Appends old new front

-- known bytes are extended by all of these lines; or the output fails, after a prefix of them
abbrev pub Writes : Option Bytes → Option Bytes → List Bytes → Result (Unit {0}) SessionError → Type 0
Writes old new lines end = ((end ≡ Ok tt) × Appends old new (flat lines)) ⊎ ((end ≡ Err Device) × IsBegun old new (flat lines))

-- The effect on a buffer and on its output when these bytes are added to its text: all of them are added; or the output fails, after a prefix of the
-- text. Nothing else can fail.
abbrev pub Puts : {O : Type 0} → (O → Option Bytes) → Buffer → O → Buffer → O → Bytes → Result (Unit {0}) SessionError → Type 0
Puts contents old out now left bytes (Ok done) = Adds (contents out) old.text.items (contents left) now.text.items bytes
Puts contents old out now left bytes (Err early) = (early ≡ Device) × IsBegun (contents out) (contents left) (old.text.items ++ bytes)
