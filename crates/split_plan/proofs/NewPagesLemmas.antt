-- New pages and what is known of them before their values are moved into them.
use Rattle.std.specs.Prelude.{◌≡◌, ◌+◌, ◌<◌, ◌≤◌, ℕ, true, false, Box, List, [], ◌∷◌, ◌++◌, map, flat_map, drop, length, get_or, Result, Ok, Err, IfOk}
use Rattle.std.proofs.Common.{refl, sym, ap, ◌∙◌, append_assoc, append-nil}
use Rattle.std.specs.Borrow.{Bor}
use Rattle.std.specs.Map.{keys_of}
use Rattle.std.proofs.lemmas.List.{drop_more, drop_all}
use Rattle.keys.specs.Lists.{flat}
use Rattle.keys.specs.declared.settings.Settings.{Settings}
use Rattle.index_page.specs.InMemory.{InMemory, page_shown}
use Rattle.index_page.specs.InMemory.InMemory.{LeafInMemory, IndexInMemory}
use Rattle.index_page.specs.Page.{Page, PageOfKind, bare, first_key, leaf_of}
use Rattle.index_page.specs.Page.PageOfKind.{Leaf, Index}
use Rattle.split_plan.specs.Cut.{cut}
use Rattle.split_plan.specs.Frames.{Frame, frame_in, frame_of, begins_with_leaf}
use Rattle.split_plan.specs.Frames.Frame.{LeafFrame, IndexFrame}
use Rattle.split_plan.specs.Pieces.{CanJoin, pages_lent, pages_from, joined_pages, group_made}
use Rattle.split_plan.proofs.CutLemmas.{cut-joined}

pub from_ok : {T E : Type 0} (r : Result T E) (P Q : T → Type 0) → ((x : T) → P x → Q x) → IfOk r P → IfOk r Q
from_ok (Ok x) P Q f h = f x h
from_ok (Err e) P Q f h = tt

-- ---- lists

module _ {X Y Z : Type 0} (f : Y → Z) (g : X → Y) where
  pub map_twice : (xs : List X) → map f (map g xs) ≡ map (λ x. f (g x)) xs
  map_twice [] = refl
  map_twice (x ∷ xs) = ap (λ (zs : List Z). f (g x) ∷ zs) (map_twice xs)

pub mapped_push : {X Y : Type 0} (f : X → Y) (xs : List X) (x : X) (y : Y) → f x ≡ y → map f (xs ++ x ∷ []) ≡ map f xs ++ y ∷ []
mapped_push f [] x y h = ap (λ (z : _). z ∷ []) h
mapped_push f (w ∷ xs) x y h = ap (λ (zs : List _). f w ∷ zs) (mapped_push f xs x y h)

-- ---- index pages

index_by : (m : InMemory) (p : Page ℕ) → frame_in m ≡ IndexFrame p → page_shown m ≡ Index p
index_by (LeafInMemory low lazy) p h = absurd (cc)
index_by (IndexInMemory low chain) p h = let same : record { low = low; layers = chain } ≡ p = cc in ap Index same

pub index_shown : {Z : Type 0} (ms : List (Box InMemory Z)) (ps : List (Page ℕ)) → map (λ m. frame_in m.value) ms ≡ map frame_of (map Index ps) → map (λ m. page_shown m.value) ms ≡ map Index ps
index_shown [] [] h = refl
index_shown [] (p ∷ ps) h = absurd (cc)
index_shown (m ∷ ms) [] h = absurd (cc)
index_shown (m ∷ ms) (p ∷ ps) h =
    let first : frame_in m.value ≡ IndexFrame p = cc in
    let rest : map (λ b. frame_in b.value) ms ≡ map frame_of (map Index ps) = cc in
    ap (λ (q : PageOfKind). q ∷ map (λ b. page_shown b.value) ms) (index_by m.value p first) ∙ ap (λ (qs : List PageOfKind). Index p ∷ qs) (index_shown ms ps rest)

-- ---- leaves by their low keys and entries

abbrev Part : Type 0
Part = List ℕ × List (List ℕ × List ℕ)

abbrev pub leaf_at : List ℕ × List (List ℕ × List ℕ) → PageOfKind
leaf_at b = Leaf (bare b.0 b.1)

abbrev pub frame_at : List ℕ × List (List ℕ × List ℕ) → Frame
frame_at b = LeafFrame b.0 [] (keys_of b.1)

abbrev parts_from : List ℕ → List (List (List ℕ × List ℕ)) → List Part
parts_from low [] = []
parts_from low (b ∷ bs) = (low, b) ∷ map (λ c. (first_key c, c)) bs

abbrev pub parts_of : Settings → List PageOfKind → List (List ℕ × List (List ℕ × List ℕ))
parts_of s [] = []
parts_of s (Leaf p ∷ ms) = parts_from p.low (cut s.fan (joined_pages (p ∷ map leaf_of ms)))
parts_of s (Index p ∷ ms) = []

later_parts : (bs : List (List (List ℕ × List ℕ))) → map Leaf (map (λ c. bare (first_key c) c) bs) ≡ map leaf_at (map (λ c. (first_key c, c)) bs)
later_parts [] = refl
later_parts (b ∷ bs) = ap (λ (ps : List PageOfKind). Leaf (bare (first_key b) b) ∷ ps) (later_parts bs)

parts_shown : (low : List ℕ) (bs : List (List (List ℕ × List ℕ))) → map Leaf (pages_from low bs) ≡ map leaf_at (parts_from low bs)
parts_shown low [] = refl
parts_shown low (b ∷ bs) = ap (λ (ps : List PageOfKind). Leaf (bare low b) ∷ ps) (later_parts bs)

later_joined : (bs : List (List (List ℕ × List ℕ))) → flat_map (λ (b : Part). b.1) (map (λ c. (first_key c, c)) bs) ≡ flat bs
later_joined [] = refl
later_joined (b ∷ bs) = ap (λ (es : List (List ℕ × List ℕ)). b ++ es) (later_joined bs)

parts_joined : (low : List ℕ) (bs : List (List (List ℕ × List ℕ))) → flat_map (λ (b : Part). b.1) (parts_from low bs) ≡ flat bs
parts_joined low [] = refl
parts_joined low (b ∷ bs) = ap (λ (es : List (List ℕ × List ℕ)). b ++ es) (later_joined bs)

-- ---- groups of leaves

-- the new pages, and their entries together
pub made_of_parts : (s : Settings) (ms : List PageOfKind) → begins_with_leaf ms ≡ true → group_made s ms ≡ map leaf_at (parts_of s ms)
made_of_parts s [] b = refl
made_of_parts s (Leaf p ∷ ms) b = parts_shown p.low (cut s.fan (joined_pages (p ∷ map leaf_of ms)))
made_of_parts s (Index p ∷ ms) b = absurd (cc)

pub joined_of_parts : (s : Settings) (ms : List PageOfKind) → begins_with_leaf ms ≡ true → flat_map (λ b. b.1) (parts_of s ms) ≡ joined_pages (map leaf_of ms)
joined_of_parts s [] b = refl
joined_of_parts s (Leaf p ∷ ms) b =
    let es : List (List ℕ × List ℕ) = joined_pages (p ∷ map leaf_of ms) in
    parts_joined p.low (cut s.fan es) ∙ cut-joined s.fan es
joined_of_parts s (Index p ∷ ms) b = absurd (cc)

pub frames_of_parts : (s : Settings) (ms : List PageOfKind) → begins_with_leaf ms ≡ true → map frame_of (group_made s ms) ≡ map frame_at (parts_of s ms)
frames_of_parts s ms b = ap (λ (ps : List PageOfKind). map frame_of ps) (made_of_parts s ms b) ∙ map_twice frame_of leaf_at (parts_of s ms)

-- other pages are complete
pub indexes_complete : {Z : Type 0} (s : Settings) (ms : List PageOfKind) (blanks : List (Box InMemory Z)) → begins_with_leaf ms ≡ false → CanJoin ms → map (λ m. frame_in m.value) blanks ≡ map frame_of (group_made s ms) → map (λ m. page_shown m.value) blanks ≡ group_made s ms
indexes_complete s [] blanks b h e = absurd h
indexes_complete s (Leaf p ∷ ms) blanks b h e = absurd (cc)
indexes_complete s (Index p ∷ ms) blanks b h e = index_shown blanks _ e

-- ---- the members, as they are shown

module _ {S : Type 0} (shown : S → PageOfKind) where
  pub one_shown : (out new : List S) (x : S) (lent : List (Bor InMemory)) (i : ℕ) (m : Bor InMemory) (all : List PageOfKind) → i < length lent → m ≡ get_or lent i m → new ≡ out ++ x ∷ [] → shown x ≡ page_shown m.now
      → map shown out ++ pages_lent (drop i lent) ≡ all → map shown new ++ pages_lent (drop (i + 1) lent) ≡ all
  one_shown out new x lent i m all l e n s h =
      let left : drop i lent ≡ m ∷ drop (i + 1) lent = drop_more lent i m l ∙ ap (λ (y : Bor InMemory). y ∷ drop (i + 1) lent) (sym e) in
      let rest : List PageOfKind = pages_lent (drop (i + 1) lent) in
      ap (λ (ps : List PageOfKind). ps ++ rest) (ap (λ (xs : List S). map shown xs) n ∙ mapped_push shown out x (page_shown m.now) s)
      ∙ append_assoc (map shown out) (page_shown m.now ∷ []) rest
      ∙ ap (λ (ms : List (Bor InMemory)). map shown out ++ pages_lent ms) (sym left)
      ∙ h

  pub all_shown : (out : List S) (lent : List (Bor InMemory)) (i : ℕ) (all : List PageOfKind) → length lent ≤ i → map shown out ++ pages_lent (drop i lent) ≡ all → map shown out ≡ all
  all_shown out lent i all l h =
      sym (append-nil (map shown out)) ∙ ap (λ (ms : List (Bor InMemory)). map shown out ++ pages_lent ms) (sym (drop_all i lent l)) ∙ h
