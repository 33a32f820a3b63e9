-- The disk of snapshots. Its contents are two numbers, which no call reads or writes: one encodes the settings and the pairs of the last snapshot, and
-- the other is how many snapshots there are.
use Rattle.std.specs.Prelude.{◌≡◌, ℕ, zero, suc, ◌+◌, ◌≤◌, true, length, List, [], ◌∷◌, slice_get, Option, Some, None}
use Rattle.keys.specs.Bytes.{Bytes, Pairs}
use Rattle.keys.specs.declared.settings.Settings.{Settings}
use Rattle.engine.specs.Claim.{Held}
use Rattle.flush_log.specs.Disk.{View}

-- ---- two numbers as one

-- the sum of the numbers up to this one
abbrev pub triangle : ℕ → ℕ
triangle zero = 0
triangle (suc n) = suc (n + triangle n)

-- the place of a pair of numbers among all pairs, in the order of their sums, then of their second numbers
abbrev pub pair : ℕ → ℕ → ℕ
pair a b = b + triangle (a + b)

-- the pair after this one
abbrev pub next_pair : ℕ × ℕ → ℕ × ℕ
next_pair (zero, b) = (suc b, 0)
next_pair (suc a, b) = (a, suc b)

-- the pair at a place
abbrev pub unpair : ℕ → ℕ × ℕ
unpair zero = (0, 0)
unpair (suc n) = next_pair (unpair n)

-- ---- lists as numbers

-- a list of things that have numbers: 0 if it is empty, and else one more than the pair of its first and its rest
abbrev pub number_of_list : {X : Type 0} → (X → ℕ) → List X → ℕ
number_of_list f [] = 0
number_of_list f (x ∷ xs) = suc (pair (f x) (number_of_list f xs))

-- at most so many elements of the list with this number
abbrev pub first_of_list : {X : Type 0} → (ℕ → X) → ℕ → ℕ → List X
first_of_list f zero n = []
first_of_list f (suc most) zero = []
first_of_list f (suc most) (suc n) = f (unpair n).0 ∷ first_of_list f most (unpair n).1

-- the list with this number: it has no more elements than its number says
abbrev pub list_of : {X : Type 0} → (ℕ → X) → ℕ → List X
list_of f n = first_of_list f n n

-- ---- a store as a number

-- a key and its value
abbrev pub number_of_pair : Bytes × Bytes → ℕ
number_of_pair e = pair (number_of_list (λ n. n) e.0) (number_of_list (λ n. n) e.1)

-- the key and the value with this number
abbrev pub pair_of : ℕ → Bytes × Bytes
pair_of n = (list_of (λ x. x) (unpair n).0, list_of (λ x. x) (unpair n).1)

-- the six fields of settings
abbrev pub number_of_settings : Settings → ℕ
number_of_settings s = pair s.fan (pair s.chain (pair s.max_key (pair s.max_value (pair s.seg_size s.segments))))

-- the settings with this number
abbrev pub settings_of : ℕ → Settings
settings_of n =
    let a = unpair n in
    let b = unpair a.1 in
    let c = unpair b.1 in
    let d = unpair c.1 in
    let e = unpair d.1 in
    record { fan = a.0; chain = b.0; max_key = c.0; max_value = d.0; seg_size = e.0; segments = e.1 }

-- a snapshot, or 0 if there is none
abbrev pub number_of : Option Held → ℕ
number_of None = 0
number_of (Some held) = suc (pair (number_of_settings held.0) (number_of_list number_of_pair held.1))

-- the snapshot with this number
abbrev pub held_of : ℕ → Option Held
held_of zero = None
held_of (suc n) = Some (settings_of (unpair n).0, list_of pair_of (unpair n).1)

-- the snapshot that these bytes encode
abbrev pub snapshot_of : Bytes → Option Held
snapshot_of (n ∷ count ∷ []) = held_of n
snapshot_of bytes = None

-- how many snapshots there are on the disk with these bytes
abbrev pub count_of : Bytes → ℕ
count_of (n ∷ count ∷ []) = count
count_of bytes = 0

-- ---- the disk

-- the last of the first n snapshots
abbrev pub held_after : List Held → ℕ → Option Held
held_after snapshots zero = None
held_after snapshots (suc n) = slice_get snapshots n

-- the bytes after the first n snapshots
abbrev pub bytes_after : List Held → ℕ → Bytes
bytes_after snapshots n = number_of (held_after snapshots n) ∷ n ∷ []

-- a disk whose bytes are durable at each moment, after so many moments
abbrev pub view_after : (ℕ → Bytes) → ℕ → View
view_after bytes now = record {
  is_honest = true;
  size = 2;
  seen = bytes now;
  may_leave = λ c. c ≡ bytes now;
  moment = now;
  left_since = λ t c. (n : ℕ) × (t ≤ n) × (n ≤ now) × (c ≡ bytes n);
}

-- the snapshots, oldest first, and how many calls of the disk failed
pub record SnapshotsOnDisk : Type 0 where
  pub snapshots : List Held
  pub failures : ℕ

-- the disk at this moment: each snapshot is one moment
abbrev pub view_of : SnapshotsOnDisk → View
view_of d = view_after (bytes_after d.snapshots) (length d.snapshots)

-- the bytes after one more snapshot on a disk with these bytes
abbrev pub bytes_with : Held → Bytes → Bytes
bytes_with held old = number_of (Some held) ∷ suc (count_of old) ∷ []

-- the effect of a flush of a store with these pairs
abbrev pub flushed_with : Settings → Pairs Bytes → Bytes → Option (ℕ × Pairs Bytes × Bytes)
flushed_with s m old = Some (suc (count_of old), m, bytes_with (s, m) old)

-- the pairs of a snapshot
abbrev pub pairs_held : Option Held → Option (Pairs Bytes)
pairs_held None = None
pairs_held (Some held) = Some held.1
