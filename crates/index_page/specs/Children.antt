-- The children of an index page, each with its range.
use Rattle.std.specs.Prelude.{◌≡◌, ℕ, ◌<◌, Bool, false, ◌&&◌, ◌||◌, List, [], ◌∷◌, map, length, Option, Some, None, if◌then◌else◌}
use Rattle.std.specs.List.{filter}
use Rattle.keys.specs.Bytes.{Bytes, Separators}
use Rattle.index_page.specs.Page.{PageOfKind, entries, first_key}
use Rattle.index_page.specs.Page.PageOfKind.{Leaf, Index}
use Rattle.index_page.specs.Range.{is_below, is_before, is_within}

-- a child as an entry of an index page describes it: its pid, and its range, from the entry's key to the next entry's key
pub record Place : Type 0 where
  pub pid : ℕ
  pub low : Bytes
  pub end : Option Bytes

-- the children that entries describe; the last one's range ends at the page's own end
abbrev pub children : Separators → Option Bytes → List Place
children [] end = []
children (e ∷ []) end = record { pid = e.1; low = e.0; end = end } ∷ []
children (e ∷ f ∷ es) end = record { pid = e.1; low = e.0; end = Some f.0 } ∷ children (f ∷ es) end

-- whether the key lies in the range of the place
abbrev pub is_place_for : Bytes → Place → Bool
is_place_for k at = is_within at.low at.end k

-- the entries of an index page; a leaf has no children
abbrev pub child_entries : PageOfKind → Separators
child_entries (Leaf p) = []
child_entries (Index p) = entries p

-- the page has a child, and the first one's key isn't above the key
abbrev pub HasChildFor : PageOfKind → Bytes → Type 0
HasChildFor p k = (0 < length (child_entries p)) × (is_below k (first_key (child_entries p)) ≡ false)

-- if the first entry's key isn't above k: the pid of the child whose range contains k, and the next entry's key, at which that range ends
abbrev pub child_with_end : Bytes → Separators → ℕ × Option Bytes
child_with_end k [] = (0, None)
child_with_end k (e ∷ []) = (e.1, None)
child_with_end k (e ∷ f ∷ es) = if is_below k f.0 then (e.1, Some f.0) else child_with_end k (f ∷ es)

-- whether a key lies after lo and before hi
abbrev pub is_between : Bytes → Option Bytes → Bytes → Bool
is_between lo hi k = is_below lo k && is_before hi k

-- whether the range of the place meets the bounds, from lo on and before hi: lo lies in it, or it begins after lo and before hi
abbrev pub meets : Bytes → Option Bytes → Place → Bool
meets lo hi at = is_place_for lo at || is_between lo hi at.low

-- the low keys and pids of those children, in order, whose range meets the bounds, where the last child's range has no end
abbrev pub children_within : Bytes → Option Bytes → Separators → Separators
children_within lo hi es = map (λ at. (at.low, at.pid)) (filter (meets lo hi) (children es None))

-- the entries whose keys lie after k and before hi
abbrev pub entries_between : Bytes → Option Bytes → Separators → Separators
entries_between k hi es = filter (λ e. is_between k hi e.0) es

-- the remaining entries of an iteration up to hi: the next one, if there is one, and those after it
abbrev pub left_from : Option (Bytes × ℕ) → Option Bytes → Separators → Separators
left_from None hi es = []
left_from (Some e) hi es = e ∷ entries_between e.0 hi es
