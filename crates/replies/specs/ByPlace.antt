-- The reply at each place of a batch, from the answers of the pages.
use Rattle.std.specs.Prelude.{◌≡◌, ℕ, ◌+◌, ◌-◌, ◌^◌, ◌<◌, ◌==◌, min, Bool, true, false, List, [], ◌∷◌, ◌++◌, map, slice_set, slice_index_or, take, flat_map, length, slice_get, Option, Some, None}
use Rattle.std.specs.List.{All, filter, sum_by}
use Rattle.keys.specs.Bytes.{Bytes, Pairs}
use Rattle.keys.specs.Footprint.{Joining, Alone, RowsUpTo, Summed, joining_of}
use Rattle.keys.specs.Places.{is_scan_at, is_wipe_at, is_ranged_at}
use Rattle.keys.specs.declared.command.Command.{Command}
use Rattle.keys.specs.declared.command.Reply.{Reply}
use Rattle.keys.specs.declared.command.Reply.TheVariants.{Missing, Rows, Wiped}
use Rattle.keys.specs.declared.piece.Piece.{Piece}

-- the pieces at a place, in the order of the list
abbrev pub pieces_at : {A : Type 0} → List (Piece A) → ℕ → List (Piece A)
pieces_at ps place = filter (λ p. p.place == place) ps

-- the rows of an answer; only answers to scans have any
abbrev pub rows_of : {A : Type 0} → Reply A → Pairs Bytes
rows_of (Rows rows) = rows
rows_of _ = []

-- whether it is an answer to a scan
abbrev pub is_rows : {A : Type 0} → Reply A → Bool
is_rows (Rows rows) = true
is_rows _ = false

-- the count in an answer; only answers to wipes have one
abbrev pub count_of : {A : Type 0} → Reply A → ℕ
count_of (Wiped count) = count
count_of _ = 0

-- whether it is an answer to a wipe
abbrev pub is_count : {A : Type 0} → Reply A → Bool
is_count (Wiped count) = true
is_count _ = false

-- the greatest count in a reply
abbrev pub most_counted : ℕ
most_counted = 2 ^ 128 - 1

-- the reply, if there is exactly one
abbrev pub lone : {A : Type 0} → List (Reply A) → Option (Reply A)
lone (r ∷ []) = Some r
lone _ = None

-- several answers as one reply: the answer of the single page; the concatenated rows, cut at the limit; or the sum of the counts, capped at the
-- greatest count
abbrev pub joined_by : {A : Type 0} → Joining → List (Reply A) → Option (Reply A)
joined_by Alone rs = lone rs
joined_by (RowsUpTo limit) rs = Some (Rows (take limit (flat_map rows_of rs)))
joined_by Summed rs = Some (Wiped (min (sum_by count_of rs) most_counted))

-- the reply to a command, from the answers of the pages
abbrev pub joined_replies : {A : Type 0} → Command A → List (Reply A) → Option (Reply A)
joined_replies c rs = joined_by (joining_of c) rs

-- the reply to the command at a place
abbrev pub joined_replies_at : {A : Type 0} → Option (Command A) → List (Reply A) → Option (Reply A)
joined_replies_at None rs = None
joined_replies_at (Some c) rs = joined_replies c rs

-- the reply at a place
abbrev pub reply_at : {A : Type 0} → List (Command A) → List (Piece A) → ℕ → Option (Reply A)
reply_at cs ps place = joined_replies_at (slice_get cs place) (map (λ p. p.reply) (pieces_at ps place))

-- whether a piece's place is one of the batch
abbrev pub IsPlaceOf : {A : Type 0} → List (Command A) → Piece A → Type 0
IsPlaceOf cs p = p.place < length cs

-- valid answers of pages to a batch: rows to scans and to no other command, counts to wipes and to no other command, and exactly one answer to each
-- command on a single key
pub record AreAnswers {A : Type 0} (cs : List (Command A)) (ps : List (Piece A)) : Type 0 where
  pub within : All (IsPlaceOf cs) ps
  pub kind : All (λ p. is_rows p.reply ≡ is_scan_at cs p.place) ps
  pub counts : All (λ p. is_count p.reply ≡ is_wipe_at cs p.place) ps
  pub once : (place : ℕ) → place < length cs → is_ranged_at cs place ≡ false → length (pieces_at ps place) ≡ 1

-- ---- adding one answer after the other

-- the most rows that the reply to a command may have
abbrev pub limit_in : Joining → ℕ
limit_in Alone = 0
limit_in (RowsUpTo limit) = limit
limit_in Summed = 0

abbrev pub limit_of : {A : Type 0} → Command A → ℕ
limit_of c = limit_in (joining_of c)

-- the reply to a command before any answer is added: no rows for a scan, a count of zero for a wipe, and otherwise a placeholder
abbrev pub blank_in : {A : Type 0} → Joining → Reply A
blank_in Alone = Missing
blank_in (RowsUpTo limit) = Rows []
blank_in Summed = Wiped 0

abbrev pub blank_of : {A : Type 0} → Command A → Reply A
blank_of c = blank_in (joining_of c)

-- rows with more rows appended, cut at a limit
abbrev pub with_rows : {A : Type 0} → ℕ → Reply A → Pairs Bytes → Reply A
with_rows limit (Rows rows) more = Rows (take limit (rows ++ more))
with_rows limit at more = at

-- a count with more added
abbrev pub with_count : {A : Type 0} → Reply A → ℕ → Reply A
with_count (Wiped count) more = Wiped (min (count + more) most_counted)
with_count at more = at

-- the reply at a place after one more answer: rows are appended to its rows, a count is added to its count, and any other answer replaces it
abbrev pub with_answer : {A : Type 0} → ℕ → Reply A → Reply A → Reply A
with_answer limit at (Rows more) = with_rows limit at more
with_answer limit at (Wiped more) = with_count at more
with_answer limit at reply = reply

-- the limit of the command at a place
abbrev pub limit_by : {A : Type 0} → Option (Command A) → ℕ
limit_by None = 0
limit_by (Some c) = limit_of c

-- the list after these pieces, each added at its place
abbrev pub with_pieces : {A : Type 0} → List (Command A) → List (Piece A) → List (Reply A) → List (Reply A)
with_pieces cs [] rs = rs
with_pieces cs (p ∷ ps) rs = with_pieces cs ps (slice_set rs p.place (with_answer (limit_by (slice_get cs p.place)) (slice_index_or rs p.place p.reply) p.reply))
