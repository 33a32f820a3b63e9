-- What a command touches, what it may do there, and how its reply is put together, defined once for each command. Where a command goes, what it may
-- delete and how the answers of its pages are joined is derived from these definitions.
use Rattle.std.specs.Prelude.{ℕ, Bool, true, false, Option}
use Rattle.std.specs.Ordering.{is_eq}
use Rattle.keys.specs.Bytes.{Bytes}
use Rattle.keys.specs.Order.{order}
use Rattle.keys.specs.Range.{is_within}
use Rattle.keys.specs.declared.command.Command.{Command}
use Rattle.keys.specs.declared.command.Command.TheVariants.{Get, Put, Add, Del, Scan, Wipe}

-- the keys that a command covers: one key, or a range from a lower bound up to (but excluding) an optional upper bound
pub data Span : Type 0 where
  One : Bytes → Span
  Range : Bytes → Option Bytes → Span

abbrev pub span_of : {A : Type 0} → Command A → Span
span_of (Get k) = One k
span_of (Put k v) = One k
span_of (Add k v) = One k
span_of (Del k) = One k
span_of (Scan lo hi limit) = Range lo hi
span_of (Wipe lo hi) = Range lo hi

-- what a command may do to its keys: read them, set their value, or delete them
pub data Access : Type 0 where
  Looks : Access
  Gives : Bytes → Access
  Takes : Access

abbrev pub access_of : {A : Type 0} → Command A → Access
access_of (Get k) = Looks
access_of (Put k v) = Gives v
access_of (Add k v) = Gives v
access_of (Del k) = Takes
access_of (Scan lo hi limit) = Looks
access_of (Wipe lo hi) = Takes

-- how the reply is made of the pages' answers: the answer of a single page, all their rows up to a limit, or the sum of their counts
pub data Joining : Type 0 where
  Alone : Joining
  RowsUpTo : ℕ → Joining
  Summed : Joining

abbrev pub joining_of : {A : Type 0} → Command A → Joining
joining_of (Get k) = Alone
joining_of (Put k v) = Alone
joining_of (Add k v) = Alone
joining_of (Del k) = Alone
joining_of (Scan lo hi limit) = RowsUpTo limit
joining_of (Wipe lo hi) = Summed

-- the first key of a span
abbrev pub first_of : Span → Bytes
first_of (One k) = k
first_of (Range lo hi) = lo

-- whether a span is a range, which may lie in several pages
abbrev pub is_range : Span → Bool
is_range (One k) = false
is_range (Range lo hi) = true

-- whether a key is in a span
abbrev pub is_in_span : Span → Bytes → Bool
is_in_span (One k) q = is_eq (order q k)
is_in_span (Range lo hi) q = is_within lo hi q

-- whether a command of this kind leaves every map unchanged
abbrev pub is_reading : Access → Bool
is_reading Looks = true
is_reading (Gives v) = false
is_reading Takes = false

-- whether a reply is joined from rows; whether it is a sum of counts
abbrev pub is_of_rows : Joining → Bool
is_of_rows Alone = false
is_of_rows (RowsUpTo limit) = true
is_of_rows Summed = false

abbrev pub is_of_counts : Joining → Bool
is_of_counts Alone = false
is_of_counts (RowsUpTo limit) = false
is_of_counts Summed = true
