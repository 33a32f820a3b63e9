-- A batch that is built command by command, and the replies that its tokens find.
use Rattle.std.specs.Prelude.{◌≡◌, ◌++◌, ◌+◌, ℕ, Bool, true, false, List, [], ◌∷◌, length, Option, Some, None}
use Rattle.std.specs.declared.alloc.Global.{Global}
use Rattle.keys.specs.Bytes.{Bytes, Pairs}
use Rattle.keys.specs.declared.command.Command.{Command}
use Rattle.keys.specs.declared.command.Command.TheVariants.{Scan}
use Rattle.keys.specs.declared.command.Reply.{Reply}
use Rattle.keys.specs.declared.command.Reply.TheVariants.{Value, New, Added, Deleted, Rows, Wiped}

-- the command was added as the last one, and the token is its place
abbrev pub IsAdded : List (Command Global) → List (Command Global) → Command Global → ℕ → Type 0
IsAdded old new c token = (token ≡ length old) × (new ≡ old ++ c ∷ [])

-- the reply to a Put or an Add whose key was absent
abbrev pub is_new : Reply Global → Bool
is_new New = true
is_new Added = true
is_new _ = false

-- the reply to a Del whose key was present
abbrev pub was_deleted : Reply Global → Bool
was_deleted Deleted = true
was_deleted _ = false

-- the value in a reply
abbrev pub value_of : Reply Global → Option Bytes
value_of (Value v) = Some v
value_of _ = None

-- the number of deleted keys in a reply
abbrev pub wiped_count : Reply Global → ℕ
wiped_count (Wiped n) = n
wiped_count _ = 0

-- the pairs in a reply
abbrev pub rows_of : Reply Global → Option (Pairs Bytes)
rows_of (Rows es) = Some es
rows_of _ = None

-- ---- the rows of a batch

-- how many rows the reply to a command may have: the limit of a scan
abbrev pub row_limit : {A : Type 0} → Command A → ℕ
row_limit (Scan lo hi limit) = limit
row_limit _ = 0

-- how many rows the replies to a batch may have together: the sum of the limits of its scans
abbrev pub most_rows : {A : Type 0} → List (Command A) → ℕ
most_rows [] = 0
most_rows (c ∷ cs) = row_limit c + most_rows cs

-- how many rows a reply has
abbrev pub row_count : {A : Type 0} → Reply A → ℕ
row_count (Rows es) = length es
row_count _ = 0

-- how many rows replies have together
abbrev pub row_counts : {A : Type 0} → List (Reply A) → ℕ
row_counts [] = 0
row_counts (r ∷ rs) = row_count r + row_counts rs
