-- Parents' entries of freed or new pages, list by list, for the proofs of the code that collects them.
use Rattle.std.specs.Prelude.{◌≡◌, ℕ, suc, ◌+◌, ◌-◌, ◌<◌, ◌⊎◌, Box, List, [], ◌∷◌, ◌++◌, map, take, drop}
use Rattle.std.proofs.Common.{refl, sym, ap, ◌∙◌, arith, append_assoc, inl, inr}
use Rattle.keys.specs.Lists.{flat}
use Rattle.index_page.specs.InMemory.{InMemory, page_shown}
use Rattle.index_page.specs.InMemory.InMemory.{LeafInMemory, IndexInMemory}
use Rattle.index_page.specs.Page.{Page, PageOfKind, low_of}
use Rattle.index_page.specs.Page.PageOfKind.{Leaf, Index}
use Rattle.split_plan.specs.Frames.{frame_in, frame_of}
use Rattle.climb_plan.specs.Rewriting.{named_pages}

-- without pages, or without numbers, there are no separators
pub named_none : {X : Type 0} (shown : X → PageOfKind) (ps : List X) (pids : List ℕ) → (ps ≡ []) ⊎ (pids ≡ []) → named_pages (map shown ps) pids ≡ []
named_none shown [] pids h = refl
named_none shown (p ∷ ps) [] h = refl
named_none shown (p ∷ ps) (pid ∷ pids) (inl e) = absurd (cc)
named_none shown (p ∷ ps) (pid ∷ pids) (inr e) = absurd (cc)

-- separators show nothing of pages but their low keys, which are known before the values are moved
low_by : (m : InMemory) (p : PageOfKind) → frame_in m ≡ frame_of p → low_of (page_shown m) ≡ low_of p
low_by (LeafInMemory low lazy) (Leaf p) h = cc
low_by (LeafInMemory low lazy) (Index p) h = absurd (cc)
low_by (IndexInMemory low chain) (Leaf p) h = absurd (cc)
low_by (IndexInMemory low chain) (Index p) h = let same : record { low = low; layers = chain } ≡ p = cc in ap (λ (q : Page ℕ). q.low) same

pub named_blank : {Z : Type 0} (ms : List (Box InMemory Z)) (ps : List PageOfKind) (pids : List ℕ) → map (λ m. frame_in m.value) ms ≡ map frame_of ps → named_pages (map (λ m. page_shown m.value) ms) pids ≡ named_pages ps pids
named_blank [] [] pids h = refl
named_blank [] (p ∷ ps) pids h = absurd (cc)
named_blank (m ∷ ms) [] pids h = absurd (cc)
named_blank (m ∷ ms) (p ∷ ps) [] h = refl
named_blank (m ∷ ms) (p ∷ ps) (pid ∷ pids) h =
    let first : frame_in m.value ≡ frame_of p = cc in
    let rest : map (λ b. frame_in b.value) ms ≡ map frame_of ps = cc in
    let pair : List ℕ → ℕ → List ℕ × ℕ = λ a b. (a, b) in
    ap (λ (low : List ℕ). pair low pid ∷ named_pages (map (λ b. page_shown b.value) ms) pids) (low_by m.value p first) ∙ ap (λ (ns : List (List ℕ × ℕ)). (low_of p, pid) ∷ ns) (named_blank ms ps pids rest)

module _ {X : Type 0} where
  -- one more of n lists is joined
  pub joined_more : (done x all : List X) (old new : List (List X)) (n i : ℕ) → old ≡ x ∷ new → i < n → done ++ flat (take (n - i) old) ≡ all → (done ++ x) ++ flat (take (n - (i + 1)) new) ≡ all
  joined_more done x all old new n i e l h =
      let more : suc (n - (i + 1)) ≡ n - i = omega arith in
      append_assoc done x (flat (take (n - (i + 1)) new))
      ∙ ap (λ (m : ℕ). done ++ flat (take m (x ∷ new))) more
      ∙ ap (λ (xss : List (List X)). done ++ flat (take (n - i) xss)) (sym e)
      ∙ h

  -- and what follows these stays
  pub after_more : (x : List X) (old new rest : List (List X)) (n i : ℕ) → old ≡ x ∷ new → i < n → drop (n - i) old ≡ rest → drop (n - (i + 1)) new ≡ rest
  after_more x old new rest n i e l h =
      let more : suc (n - (i + 1)) ≡ n - i = omega arith in
      ap (λ (m : ℕ). drop m (x ∷ new)) more ∙ ap (λ (xss : List (List X)). drop (n - i) xss) (sym e) ∙ h
