-- The room that a log needs.
use Rattle.std.specs.Prelude.{ℕ, ◌+◌, ◌*◌, ◌/◌}

-- the greatest size of n pairs as bases or as runs, with keys of k bytes and values of v bytes: each pair as a change, and for each leaf that is half
-- full (16 of 32 entries) a frame header, a low key, and an entry in the parent
abbrev pub text_of_pairs : ℕ → ℕ → ℕ → ℕ
text_of_pairs n k v = n * (5 + k + v) + (n / 16 + 1) * (28 + 2 * k)

-- the room for them if a leaf has at most sixteen runs: a base and its runs are live, one more commit must fit, and an eighth of each segment may be
-- too short for the next frame
abbrev pub room_of_pairs : ℕ → ℕ → ℕ → ℕ
room_of_pairs n k v = 21 * text_of_pairs n k v
