-- Lemmas on the remaining pairs of an iteration over a tree: at its start, and from leaf to leaf.
use Rattle.std.specs.Prelude.{◌≡◌, ℕ, pred, Bool, List, [], ◌∷◌, Some}
use Rattle.std.proofs.Common.{refl, sym, ap, ◌∙◌, subst, append-nil}
use Rattle.std.proofs.lemmas.Grind.{flat_map-append}
use Rattle.delta_chain.specs.Layers.{Layers, entries_of}
use Rattle.index_page.specs.Page as page
use Rattle.index_page.specs.Page.{Page}
use Rattle.mapping.specs.Levels.{levels_of, contents}
use Rattle.mapping.specs.Proper.{AreLevels, HoldsLevels}
use Rattle.mapping.specs.TreeInMemory.{TreeInMemory, tree_of}
use Rattle.scan.specs.Direction.{IsNext, in_turn}
use Rattle.scan.specs.Edge.{beyond}
use Rattle.scan.specs.Path.{leaf_with, leaf_pages, leaves_beyond, pairs}
use Rattle.scan.specs.RankCounter.{PassesLower}
use Rattle.scan.specs.Walk.{walk_beyond, pairs_along, HasNextKey}
use Rattle.scan.specs.declared.direction.Direction.{Direction}
use Rattle.scan.specs.declared.direction.Direction.TheVariants.{Up, Down}
use Rattle.scan.proofs.DirectionLemmas.{nothing_first, next_in_turn, in_turn_next, next_of_both}
use Rattle.scan.proofs.RowLemmas.{at_top}
use Rattle.scan.proofs.TreeBeyond.{contents-beyond}

abbrev Leaves : Type 0
Leaves = List (Page (List ℕ))

abbrev Pairs : Type 0
Pairs = List (List ℕ × List ℕ)

pairs_turn : (d : Direction) (xs ys : Leaves) → pairs (in_turn d xs ys) ≡ in_turn d (pairs xs) (pairs ys)
pairs_turn Up xs ys = flat_map-append page.entries xs ys
pairs_turn Down xs ys = flat_map-append page.entries ys xs

-- at the start, the remaining pairs are those beyond the edge
pub pairs_at_start : (d : Direction) (t : TreeInMemory) (held : HoldsLevels (tree_of t).pages (levels_of (tree_of t))) (levels : AreLevels (levels_of (tree_of t))) (test : List ℕ → Bool) → PassesLower test → (low : List ℕ) (first : Layers (List ℕ)) (leaves : Leaves) (left : Pairs)
    → IsNext d (walk_beyond d t 0 test t.root) (leaf_with low first) leaves → left ≡ beyond d test (entries_of first) → pairs_along d left leaves ≡ beyond d test (contents (tree_of t))
pairs_at_start d t held levels test lower low first leaves left w e =
    let top : walk_beyond d t 0 test t.root ≡ leaf_pages (tree_of t).pages (leaves_beyond d (tree_of t).pages (pred t.height) test t.root) =
    ap (λ (n : ℕ). leaf_pages (tree_of t).pages (leaves_beyond d (tree_of t).pages n test t.root)) (at_top t held levels) in
    ap (λ (x : Pairs). in_turn d x (pairs leaves)) e
    ∙ sym (contents-beyond d (tree_of t) held levels test lower (leaf_with low first) leaves (subst (λ (x : Leaves). IsNext d x (leaf_with low first) leaves) top w))

-- the next leaf replaces a leaf without remaining pairs
pub next_leaf_left : (d : Direction) (leaf new : Pairs) (leaves later : Leaves) (low : List ℕ) (layers : Layers (List ℕ)) (whole : Pairs) → leaf ≡ [] → IsNext d leaves (leaf_with low layers) later → new ≡ entries_of layers → pairs_along d leaf leaves ≡ whole → pairs_along d new later ≡ whole
next_leaf_left d leaf new leaves later low layers whole e n m h =
    ap (λ (x : Pairs). in_turn d x (pairs later)) (m ∙ sym (append-nil (entries_of layers)))
    ∙ sym (pairs_turn d (leaf_with low layers ∷ []) later)
    ∙ ap (λ (x : Leaves). pairs x) (sym (next_in_turn d (leaf_with low layers) leaves later n))
    ∙ sym (nothing_first d (pairs leaves))
    ∙ ap (λ (x : Pairs). in_turn d x (pairs leaves)) (sym e)
    ∙ h

-- no pair remains in the leaf or in the leaves
pub nothing_along : (d : Direction) (leaf : Pairs) (leaves : Leaves) → leaf ≡ [] → leaves ≡ [] → pairs_along d leaf leaves ≡ []
nothing_along d leaf leaves e n =
    ap (λ (x : Pairs). in_turn d x (pairs leaves)) e ∙ ap (λ (x : Leaves). in_turn d [] (pairs x)) n ∙ nothing_first d []

-- ---- a pair that was read before it is removed

pub peeked_kept : (d : Direction) (e : List ℕ × List ℕ) (old rest : Pairs) → IsNext d old e rest → in_turn d (e ∷ []) rest ≡ old
peeked_kept d e old rest h = sym (next_in_turn d e old rest h)

pub key_of_next : (d : Direction) (e : List ℕ × List ℕ) (old rest : Pairs) → IsNext d old e rest → HasNextKey d (Some e.0) old
key_of_next d e old rest h = (e.1, rest, h)

pub key_of_peeked : (d : Direction) (e : List ℕ × List ℕ) (rest : Pairs) → HasNextKey d (Some e.0) (in_turn d (e ∷ []) rest)
key_of_peeked d e rest = (e.1, rest, in_turn_next d e (in_turn d (e ∷ []) rest) rest refl)

-- ---- the exits of the loop over leaves

-- the next pair of the leaf is the next pair of the iteration
pub pair_found : (d : Direction) (e : List ℕ × List ℕ) (leaf new : Pairs) (leaves : Leaves) (whole : Pairs) → IsNext d leaf e new → pairs_along d leaf leaves ≡ whole → IsNext d whole e (pairs_along d new leaves)
pair_found d e leaf new leaves whole n h = subst (λ (xs : Pairs). IsNext d xs e (pairs_along d new leaves)) h (next_of_both d e leaf new (pairs leaves) n)

pub none_found : (d : Direction) (leaf new : Pairs) (leaves later : Leaves) (whole : Pairs) → leaf ≡ [] → new ≡ [] → leaves ≡ [] → later ≡ [] → pairs_along d leaf leaves ≡ whole → (whole ≡ []) × (pairs_along d new later ≡ [])
none_found d leaf new leaves later whole e f n m h = (sym h ∙ nothing_along d leaf leaves e n, nothing_along d new later f m)
