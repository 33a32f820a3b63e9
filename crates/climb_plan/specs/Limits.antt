-- Which commands are within the settings.
use Rattle.std.specs.Prelude.{◌≤◌, List, length, Option, IfSome}
use Rattle.std.specs.List.{AllByRecursion}
use Rattle.keys.specs.Bytes.{Bytes}
use Rattle.keys.specs.Footprint.{Span, One, Range, Access, Gives, span_of, access_of}
use Rattle.keys.specs.declared.settings.Settings.{Settings}
use Rattle.keys.specs.declared.command.Command.{Command}

-- a key and a value are no longer than the settings allow
abbrev pub IsShortPair : Settings → Bytes → Bytes → Type 0
IsShortPair s k v = (length k ≤ s.max_key) × (length v ≤ s.max_value)

-- the bounds are no longer than the settings allow: the lower one, and the upper one, if there is one
abbrev pub AreShortBounds : Settings → Bytes → Option Bytes → Type 0
AreShortBounds s lo hi = (length lo ≤ s.max_key) × IfSome hi (λ end. length end ≤ s.max_key)

-- the key of a command and the value that it sets, or its bounds, are no longer than the settings allow
abbrev pub IsShortAccess : Settings → Span → Access → Type 0
IsShortAccess s (One k) (Gives v) = IsShortPair s k v
IsShortAccess s (One k) deed = length k ≤ s.max_key
IsShortAccess s (Range lo hi) deed = AreShortBounds s lo hi

abbrev pub IsShortCommand : {A : Type 0} → Settings → Command A → Type 0
IsShortCommand s c = IsShortAccess s (span_of c) (access_of c)

abbrev pub AreShort : {A : Type 0} → Settings → List (Command A) → Type 0
AreShort s cs = AllByRecursion (IsShortCommand s) cs
