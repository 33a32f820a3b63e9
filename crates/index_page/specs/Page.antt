-- A page: its low key, and what it holds.
use Rattle.std.specs.Prelude.{ℕ, ⊤, List, [], ◌∷◌, ◌++◌, map, Some}
use Rattle.std.specs.Map.{keys_of}
use Rattle.keys.specs.Bytes.{Bytes, Pairs, Changes}
use Rattle.delta_chain.specs.Layers.{Layers, entries_of}

-- a page whose keys have cells of type V; its range of keys begins at its low key
pub record Page (V : Type 0) : Type 0 where
  pub low : Bytes
  pub layers : Layers V

-- a leaf has values; an index page has, under their low keys, the pids of its children
pub data PageOfKind : Type 0 where
  Leaf : Page Bytes → PageOfKind
  Index : Page ℕ → PageOfKind

-- a page's low key, whatever its kind
abbrev pub low_of : PageOfKind → Bytes
low_of (Leaf p) = p.low
low_of (Index p) = p.low

-- the page of a leaf, and the page of an index page; a page of the other kind counts as an empty page
abbrev pub leaf_of : PageOfKind → Page Bytes
leaf_of (Leaf p) = p
leaf_of (Index p) = record { low = p.low; layers = record { runs = []; base = [] } }

abbrev pub index_of : PageOfKind → Page ℕ
index_of (Leaf p) = record { low = p.low; layers = record { runs = []; base = [] } }
index_of (Index p) = p

-- the page is a leaf, or an index page
abbrev pub IsLeaf : PageOfKind → Type 0
IsLeaf (Leaf p) = ⊤
IsLeaf (Index p) = ⊥

abbrev pub IsIndex : PageOfKind → Type 0
IsIndex (Leaf p) = ⊥
IsIndex (Index p) = ⊤

-- a page with a base and no runs
abbrev pub bare : {V : Type 0} → Bytes → Pairs V → Page V
bare low base = record { low = low; layers = record { runs = []; base = base } }

-- the pairs that are present in the page, in key order
abbrev pub entries : {V : Type 0} → Page V → Pairs V
entries p = entries_of p.layers

-- the key of the first pair, or the empty key if there is none
abbrev pub first_key : {V : Type 0} → Pairs V → Bytes
first_key [] = []
first_key (e ∷ es) = e.0

-- pairs as changes that set each key's value
abbrev pub as_changes : {V : Type 0} → Pairs V → Changes V
as_changes es = map (λ e. (e.0, Some e.1)) es

-- the changes of the runs, newest first, and then the base's pairs
abbrev pub changes_over : {V : Type 0} → List (Changes V) → Pairs V → Changes V
changes_over [] base = as_changes base
changes_over (run ∷ runs) base = run ++ changes_over runs base

-- all changes and pairs of the page
abbrev pub said : {V : Type 0} → Page V → Changes V
said p = changes_over p.layers.runs p.layers.base

-- the keys of these changes and pairs
abbrev pub named : {V : Type 0} → Page V → List Bytes
named p = keys_of (said p)
