-- Borrowed entries, and the pages that are made of pieces of them, for the proofs of the code that splits.
use Rattle.std.specs.Prelude.{◌≡◌, ℕ, zero, suc, ◌+◌, ◌-◌, ◌*◌, ◌/◌, ◌<◌, ◌≤◌, List, [], ◌∷◌, ◌++◌, map, take, drop, length, slice_get, get_or, Some, slice_range}
use Rattle.std.proofs.Common.{refl, sym, ap, ◌∙◌, arith, add-one, append_assoc, append-nil, drop_of_length-le}
use Rattle.std.specs.Borrow.{Bor}
use Rattle.std.specs.List.{AllByRecursion}
use Rattle.std.specs.List.Sorted.{IsStrictlySortedBy}
use Rattle.std.specs.Map.{keys_of}
use Rattle.keys.specs.Lists.{flat}
use Rattle.keys.specs.Order.{IsRising}
use Rattle.keys.specs.declared.settings.Settings.{Settings}
use Rattle.keys.proofs.MapLemmas.{IsBelowAll}
use Rattle.delta_chain.specs.Lent.{pairs_lent}
use Rattle.delta_chain.proofs.Lending.{length-pairs_lent}
use Rattle.index_page.specs.InMemory.{InMemory, page_shown}
use Rattle.index_page.specs.Page.{Page, PageOfKind, bare, first_key}
use Rattle.split_plan.specs.Cut.{piece_count, pieces, cut}
use Rattle.split_plan.specs.Pieces.{pages_lent, joined_pages, low_at, pages_from, pages_made}
use Rattle.split_plan.proofs.CutLemmas.{cut-joined, cut_full, cut_nothing}
use Rattle.split_plan.proofs.Full.{AllFull}

module _ {V : Type 0} where
  pub pairs_lent-drop : (n : ℕ) (lent : List (Bor (List ℕ) × Bor V)) → pairs_lent (drop n lent) ≡ drop n (pairs_lent lent)
  pairs_lent-drop zero lent = refl
  pairs_lent-drop (suc n) [] = refl
  pairs_lent-drop (suc n) (e ∷ es) = pairs_lent-drop n es

  pub pairs_lent-take : (n : ℕ) (lent : List (Bor (List ℕ) × Bor V)) → pairs_lent (take n lent) ≡ take n (pairs_lent lent)
  pairs_lent-take zero lent = refl
  pairs_lent-take (suc n) [] = refl
  pairs_lent-take (suc n) (e ∷ es) = ap (λ (m : List (List ℕ × V)). (e.0.now, e.1.now) ∷ m) (pairs_lent-take n es)

  pub pairs_lent-slice : (lent : List (Bor (List ℕ) × Bor V)) (a b : ℕ) → pairs_lent (slice_range lent a b) ≡ slice_range (pairs_lent lent) a b
  pairs_lent-slice lent a b = pairs_lent-take (b - a) (drop a lent) ∙ ap (λ (m : List (List ℕ × V)). take (b - a) m) (pairs_lent-drop a lent)

  -- the piece between these places
  pub piece_is : (lent : List (Bor (List ℕ) × Bor V)) (a b i p : ℕ) → a ≡ i * length lent / p → b ≡ (i + 1) * length lent / p → pairs_lent (slice_range lent a b) ≡ slice_range (pairs_lent lent) (i * length (pairs_lent lent) / p) ((i + 1) * length (pairs_lent lent) / p)
  piece_is lent a b i p h j = pairs_lent-slice lent a b ∙ rw (h, j, length-pairs_lent lent) refl

  -- ---- parts of entries that rise

  below_taken : (n : ℕ) (j : List ℕ) (es : List (List ℕ × V)) → IsBelowAll j (keys_of es) → IsBelowAll j (keys_of (take n es))
  below_taken zero j es h = tt
  below_taken (suc n) j [] h = tt
  below_taken (suc n) j (e ∷ es) h = (h.0, below_taken n j es h.1)

  rising_taken : (n : ℕ) (es : List (List ℕ × V)) → IsRising es → IsRising (take n es)
  unfolding IsStrictlySortedBy
  rising_taken zero es h = tt
  rising_taken (suc n) [] h = tt
  rising_taken (suc n) (e ∷ es) h = (below_taken n e.0 es h.0, rising_taken n es h.1)

  rising_after : (n : ℕ) (es : List (List ℕ × V)) → IsRising es → IsRising (drop n es)
  unfolding IsStrictlySortedBy
  rising_after zero es h = h
  rising_after (suc n) [] h = tt
  rising_after (suc n) (e ∷ es) h = rising_after n es h.1

  pub rising_slice : (es : List (List ℕ × V)) (a b : ℕ) → IsRising es → IsRising (slice_range es a b)
  rising_slice es a b h = rising_taken (b - a) (drop a es) (rising_after a es h)

  -- ---- the pages of pieces

  -- the pages of a number of p pieces, from piece i on
  abbrev pub pages_at : List ℕ → List (List ℕ × V) → ℕ → ℕ → ℕ → List (Page V)
  pages_at low es p i zero = []
  pages_at low es p i (suc more) =
      let b : List (List ℕ × V) = slice_range es (i * length es / p) (suc i * length es / p) in
      bare (low_at low i b) b ∷ pages_at low es p (suc i) more

  pages_later : (low : List ℕ) (es : List (List ℕ × V)) (p i more : ℕ) → pages_at low es p (suc i) more ≡ map (λ c. bare (first_key c) c) (pieces es p (suc i) more)
  pages_later low es p i zero = refl
  pages_later low es p i (suc more) =
      let b : List (List ℕ × V) = slice_range es (suc i * length es / p) (suc (suc i) * length es / p) in
      ap (λ (ps : List (Page V)). bare (first_key b) b ∷ ps) (pages_later low es p (suc i) more)

  -- all of them
  pub pages_all : (low : List ℕ) (es : List (List ℕ × V)) (p : ℕ) → pages_from low (pieces es p 0 p) ≡ pages_at low es p 0 p
  pages_all low es p = from_first low es p p
    where
      from_first : (low : List ℕ) (es : List (List ℕ × V)) (p more : ℕ) → pages_from low (pieces es p 0 more) ≡ pages_at low es p 0 more
      from_first low es p zero = refl
      from_first low es p (suc more) =
          let b : List (List ℕ × V) = slice_range es (0 * length es / p) (1 * length es / p) in
          ap (λ (ps : List (Page V)). bare low b ∷ ps) (sym (pages_later low es p 0 more))

  module _ {X : Type 0} (made : Page V → X) where
    -- no pages are made, and those of all pieces are to come
    pub cut_begins : (low : List ℕ) (fan : ℕ) (es : List (List ℕ × V)) (p : ℕ) (done : List X) → done ≡ [] → p ≡ piece_count fan (length es) → done ++ map made (pages_at low es p 0 (p - 0)) ≡ map made (pages_from low (cut fan es))
    cut_begins low fan es p done d e =
        let z : p - 0 ≡ p = omega arith in
        rw (d, z, e) (ap (λ (ps : List (Page V)). map made ps) (sym (pages_all low es (piece_count fan (length es)))))

    -- one more page is made
    pub cut_step : (low : List ℕ) (es : List (List ℕ × V)) (p i : ℕ) (done all : List X) (b : List (List ℕ × V)) (k : List ℕ) → i < p → b ≡ slice_range es (i * length es / p) ((i + 1) * length es / p) → k ≡ low_at low i b → done ++ map made (pages_at low es p i (p - i)) ≡ all → (done ++ made (bare k b) ∷ []) ++ map made (pages_at low es p (i + 1) (p - (i + 1))) ≡ all
    cut_step low es p i done all b k l h j t =
        let m : p - i ≡ suc (p - suc i) = omega arith in
        let n : i + 1 ≡ suc i = add-one i in
        let u : done ++ map made (pages_at low es p i (suc (p - suc i))) ≡ all = ap (λ (more : ℕ). done ++ map made (pages_at low es p i more)) (sym m) ∙ t in
        append_assoc done (made (bare k b) ∷ []) (map made (pages_at low es p (i + 1) (p - (i + 1)))) ∙ rw (j, h, n) u

    -- all are made
    pub cut_ends : (low : List ℕ) (es : List (List ℕ × V)) (p i : ℕ) (done all : List X) → p ≤ i → done ++ map made (pages_at low es p i (p - i)) ≡ all → done ≡ all
    cut_ends low es p i done all l h =
        let none : p - i ≡ 0 = omega arith in
        sym (append-nil done) ∙ ap (λ (n : ℕ). done ++ map made (pages_at low es p i n)) (sym none) ∙ h

-- ---- borrowed pages

-- all of them are of a kind, and the one at a place too
pub kind_at : (P : PageOfKind → Type 0) (lent : List (Bor InMemory)) (at : ℕ) (page : Bor InMemory) → AllByRecursion P (pages_lent lent) → at < length lent → page ≡ get_or lent at page → P (page_shown page.now)
kind_at P [] at page a l h = absurd (omega arith)
kind_at P (d ∷ ds) zero page a l h = rw h a.0
kind_at P (d ∷ ds) (suc at) page a l h = let m : at < length ds = omega arith in kind_at P ds at page a.1 m h

module _ {V : Type 0} (taken : PageOfKind → Page V) where
  -- the pages of joined entries from the first member's low key are what is made of the members
  pub remade_is : (s : Settings) (members : List (Bor InMemory)) (first : Bor InMemory) (low : List ℕ) (es : List (List ℕ × V)) → Some first ≡ slice_get members 0 → low ≡ (taken (page_shown first.now)).low → es ≡ joined_pages (map taken (pages_lent members)) → pages_from low (cut s.fan es) ≡ pages_made s (map taken (pages_lent members))
  remade_is s [] first low es f h j = absurd (cc)
  remade_is s (m ∷ ms) first low es f h j = let e : first ≡ m = cc in rw (h, e, j) refl

-- ---- pages of separators

module _ {V : Type 0} where
  pub all_done : (es done : List (List ℕ × V)) (n : ℕ) → length es ≤ n → done ++ drop n es ≡ es → done ≡ es
  all_done es done n h t = sym (append-nil done) ∙ ap (λ (rest : List (List ℕ × V)). done ++ rest) (sym (drop_of_length-le es h)) ∙ t

  named_by : (low : List ℕ) (es : List (List ℕ × V)) (bs : List (List (List ℕ × V))) → AllFull bs → flat bs ≡ es → low ≡ first_key es → pages_from low bs ≡ map (λ b. bare (first_key b) b) bs
  named_by low es [] full f h = refl
  named_by low es ([] ∷ bs) full f h = absurd (let l : 0 < 0 = full.0 in omega arith)
  named_by low es ((e ∷ b) ∷ bs) full f h =
      let k : low ≡ e.0 = h ∙ ap first_key (sym f) in
      ap (λ (k : List ℕ). bare k (e ∷ b) ∷ map (λ c. bare (first_key c) c) bs) k

  named : (low : List ℕ) (fan : ℕ) (es : List (List ℕ × V)) → 0 < fan → low ≡ first_key es → pages_from low (cut fan es) ≡ map (λ b. bare (first_key b) b) (cut fan es)
  named low fan [] z h = rw (cut_nothing fan z) (ap (λ (k : List ℕ). bare k [] ∷ []) h)
  named low fan (e ∷ es) z h =
      let some : 0 < length (e ∷ es) = omega arith in
      named_by low (e ∷ es) (cut fan (e ∷ es)) (cut_full fan (e ∷ es) z some) (cut-joined fan (e ∷ es)) h

  made_each : {X : Type 0} (made : Page V → X) (bs : List (List (List ℕ × V))) → map made (map (λ b. bare (first_key b) b) bs) ≡ map (λ b. made (bare (first_key b) b)) bs
  made_each made [] = refl
  made_each made (b ∷ bs) = ap (λ ps. made (bare (first_key b) b) ∷ ps) (made_each made bs)

  -- from the first key of all, each piece has its own first key
  pub pages_named : {X : Type 0} (made : Page V → X) (low : List ℕ) (fan : ℕ) (es : List (List ℕ × V)) → 0 < fan → low ≡ first_key es → map made (pages_from low (cut fan es)) ≡ map (λ b. made (bare (first_key b) b)) (cut fan es)
  pages_named made low fan es z h = ap (λ (ps : List (Page V)). map made ps) (named low fan es z h) ∙ made_each made (cut fan es)
