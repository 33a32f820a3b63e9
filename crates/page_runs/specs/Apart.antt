-- Executing only those commands of a batch that are on some of the keys.
use Rattle.std.specs.Prelude.{◌≡◌, Bool, true, false, ◌&&◌, List, [], ◌∷◌, Option, Some, None, if◌then◌else◌}
use Rattle.std.specs.Option.{option_map_or}
use Rattle.std.specs.Ordering.{is_eq}
use Rattle.keys.specs.Bytes.{Bytes, Pairs}
use Rattle.keys.specs.Footprint.{Span, One, Range, Access, Looks, Gives, Takes, span_of, access_of, is_in_span}
use Rattle.keys.specs.Order.{order}
use Rattle.keys.specs.OrderedMap.{value_at}
use Rattle.keys.specs.Range.{is_within}
use Rattle.keys.specs.declared.command.Command.{Command}
use Rattle.keys.specs.declared.command.Reply.{Reply}

-- whether a span and what is done to it concern the key; reading a range concerns no key
abbrev pub is_on : Span → Access → Bytes → Bool
is_on (One k) deed q = is_eq (order q k)
is_on (Range lo hi) Looks q = false
is_on (Range lo hi) deed q = is_within lo hi q

-- whether the command is on the key; a scan is on no key, and a wipe on each key of its range
abbrev pub is_on_key : {A : Type 0} → Command A → Bytes → Bool
is_on_key c q = is_on (span_of c) (access_of c) q

-- the key of a span of a single key
abbrev pub single_of : Span → Option Bytes
single_of (One k) = Some k
single_of (Range lo hi) = None

-- the key of a command on a single key
abbrev pub single_key : {A : Type 0} → Command A → Option Bytes
single_key c = single_of (span_of c)

-- whether a command of this kind may set values
abbrev pub is_giving : Access → Bool
is_giving Looks = false
is_giving (Gives v) = true
is_giving Takes = false

-- whether the command may set the value of the key
abbrev pub gives_key : {A : Type 0} → Command A → Bytes → Bool
gives_key c q = is_giving (access_of c) && is_in_span (span_of c) q

-- whether the command is on a single key, which is one of these keys
abbrev pub is_on_one : {A : Type 0} → (Bytes → Bool) → Command A → Bool
is_on_one is_own c = option_map_or is_own (single_key c) false

-- the command is on none of these keys
abbrev pub IsOff : {A : Type 0} → (Bytes → Bool) → Command A → Type 0
IsOff is_own c = (q : Bytes) → is_own q ≡ true → is_on_key c q ≡ false

-- the command is on none but these keys
abbrev pub IsWithin : {A : Type 0} → (Bytes → Bool) → Command A → Type 0
IsWithin is_own c = (q : Bytes) → is_own q ≡ false → is_on_key c q ≡ false

-- every command on one of these keys is executed
abbrev pub TakesAll : {A : Type 0} → (Bytes → Bool) → (Command A → Bool) → Type 0
TakesAll {A} is_own is_taken = (c : Command A) → is_taken c ≡ false → IsOff is_own c

-- no command on another key is executed
abbrev pub TakesNoOther : {A : Type 0} → (Bytes → Bool) → (Command A → Bool) → Type 0
TakesNoOther {A} is_own is_taken = (c : Command A) → is_taken c ≡ true → IsWithin is_own c

-- no command that sets another key is executed
abbrev pub GivesNoOther : {A : Type 0} → (Bytes → Bool) → (Command A → Bool) → Type 0
GivesNoOther {A} is_own is_taken = (c : Command A) → is_taken c ≡ true → (q : Bytes) → is_own q ≡ false → gives_key c q ≡ false

-- the map has no other keys
abbrev pub HasNoOther : (Bytes → Bool) → Pairs Bytes → Type 0
HasNoOther is_own x = (q : Bytes) → is_own q ≡ false → value_at q x ≡ None

-- the replies to those commands that pass the test
abbrev pub replies_where : {A : Type 0} → (Command A → Bool) → List (Command A) → List (Reply A) → List (Reply A)
replies_where passes [] rs = []
replies_where passes (c ∷ cs) [] = []
replies_where passes (c ∷ cs) (r ∷ rs) = if passes c then r ∷ replies_where passes cs rs else replies_where passes cs rs

-- the two maps agree at each of these keys
abbrev pub AgreeOn : (Bytes → Bool) → Pairs Bytes → Pairs Bytes → Type 0
AgreeOn is_own m x = (q : Bytes) → is_own q ≡ true → value_at q m ≡ value_at q x
