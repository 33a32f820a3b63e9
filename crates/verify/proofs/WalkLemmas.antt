-- How a walk continues from a level, and its result.
use Rattle.std.specs.Prelude.{◌≡◌, Result, Ok, Err, IsErr, IfOk, ℕ, zero, suc, pred, ◌+◌, ◌-◌, ◌<◌, List, [], ◌∷◌, ◌++◌, map, flat_map, length, Option, Some, None}
use Rattle.std.proofs.Common.{inl, refl, sym, ap, ◌∙◌, arith, subst}
use Rattle.std.specs.Map.{values_of}
use Rattle.std.proofs.lemmas.Bool.{false≢true}
use Rattle.std.proofs.lemmas.List.{length-append, map-append}
use Rattle.keys.specs.Finding.{Finding}
use Rattle.keys.specs.declared.settings.Settings.{Settings}
use Rattle.keys.specs.declared.fault.Fault.{Fault}
use Rattle.keys.specs.declared.fault.Fault.TheVariants.{NoMemory}
use Rattle.index_page.specs.Page.{PageOfKind}
use Rattle.index_page.specs.Page as page
use Rattle.index_page.specs.Page.PageOfKind.{Leaf, Index}
use Rattle.index_page.specs.Children.{Place}
use Rattle.index_page.proofs.ChildLemmas.{pids-children}
use Rattle.mapping.specs.Tree.{Tree, page_at}
use Rattle.mapping.specs.Levels.{Placed, joined, pids, as_index, index_at, levels_below}
use Rattle.mapping.specs.Finding.{or_else, on_level, children_of_page, children_at, all_met, finding_below, finding}
use Rattle.verify.specs.Met.{HaveMetTheSame}
use Rattle.verify.specs.Report.{IsFaultOf}
use Rattle.verify.specs.Seen.{broken_at}
use Rattle.verify.specs.Walked.{HasComeTo}
use Rattle.verify.specs.declared.look.Level.TheVariants.{Above}
use Rattle.verify.proofs.MetLemmas.{finding_below-same}
use Rattle.verify.proofs.LevelLemmas.{fault_or_else}

-- the pids of places
abbrev pub place_pids : List Place → List ℕ
place_pids ats = map (λ at. at.pid) ats

-- ---- the pids of the level below

child_pids_of : (end : Option (List ℕ)) (p : Option PageOfKind) → place_pids (children_of_page end p) ≡ values_of (page.entries (as_index p))
child_pids_of end None = refl
child_pids_of end (Some (Leaf p)) = refl
child_pids_of end (Some (Index p)) = pids-children (page.entries p) end

module _ (ps : List (ℕ × PageOfKind)) where
  child_pids : (ats : List Place) → place_pids (flat_map (children_at ps) ats) ≡ values_of (joined (map (index_at ps) (place_pids ats)))
  child_pids [] = refl
  child_pids (at ∷ ats) =
      let below : List Place = flat_map (children_at ps) ats in
      let rest : List (List ℕ × ℕ) = joined (map (index_at ps) (place_pids ats)) in
      let here : List (List ℕ × ℕ) = page.entries (as_index (page_at ps at.pid)) in
      map-append (λ (a : Place). a.pid) (children_at ps at) below
      ∙ ap (λ (x : List ℕ). x ++ place_pids below) (child_pids_of at.end (page_at ps at.pid))
      ∙ ap (λ (x : List ℕ). values_of here ++ x) (child_pids ats)
      ∙ sym (map-append (λ (e : List ℕ × ℕ). e.1) here rest)

module _ {V : Type 0} (look : ℕ → Placed V) where
  count_pids : (ats : List Place) → length (pids (map look (place_pids ats))) ≡ length ats
  count_pids [] = refl
  count_pids (at ∷ ats) = ap suc (count_pids ats)

-- ---- from the root down

height_less : (height : ℕ) → height - 1 ≡ pred height
height_less zero = refl
height_less (suc n) = let x : suc n - 1 ≡ n = omega arith in x

module _ (s : Settings) (t : Tree) where
  -- the walk begins at the root
  pub at_root : HasComeTo s t (t.height - 1) 2 [] (record { pid = t.root; low = []; end = None } ∷ [])
  at_root = record {
    found = ap (λ (n : ℕ). finding_below s t.pages n 2 [] (record { pid = t.root; low = []; end = None } ∷ [])) (height_less t.height);
    levels = ([], ap (λ (n : ℕ). levels_below t.pages n (t.root ∷ []) []) (height_less t.height), refl);
  }

  passed_above : (n least : ℕ) (met : List ℕ) (ats : List Place) → on_level (broken_at s (Above least) t.pages) met ats ≡ None
      → finding_below s t.pages (suc n) least met ats ≡ finding_below s t.pages n 1 (all_met met ats) (flat_map (children_at t.pages) ats)
  passed_above n least met ats h = ap (λ (o : Option Finding). or_else o (finding_below s t.pages n 1 (all_met met ats) (flat_map (children_at t.pages) ats))) h

  -- it goes down a level
  down : (n least : ℕ) (met after : List ℕ) (ats : List Place) → HasComeTo s t (suc n) least met ats → on_level (broken_at s (Above least) t.pages) met ats ≡ None
      → HaveMetTheSame after (all_met met ats) → length after ≡ length met + length ats → HasComeTo s t n 1 after (flat_map (children_at t.pages) ats)
  down n least met after ats w h same count =
      let below : List Place = flat_map (children_at t.pages) ats in
      let above : List (List (Placed ℕ)) = w.levels.0 in
      let here : List (Placed ℕ) = map (index_at t.pages) (place_pids ats) in
      let own : length (pids here) ≡ length ats = count_pids (index_at t.pages) ats in
      let others : length (flat_map pids above) ≡ length met = w.levels.2 in
      let both : length (pids here ++ flat_map pids above) ≡ length (pids here) + length (flat_map pids above) = length-append (pids here) (flat_map pids above) in
      record {
        found = finding_below-same s t.pages n 1 after (all_met met ats) below same ∙ sym (passed_above n least met ats h) ∙ w.found;
        levels = (here ∷ above, ap (λ (x : List ℕ). levels_below t.pages n x (here ∷ above)) (child_pids t.pages ats) ∙ w.levels.1, omega arith);
      }

  pub one_down : (height level least : ℕ) (met after : List ℕ) (ats : List Place) → level < height → HasComeTo s t (height - level) least met ats
      → on_level (broken_at s (Above least) t.pages) met ats ≡ None → HaveMetTheSame after (all_met met ats) → length after ≡ length met + length ats
      → HasComeTo s t (height - (level + 1)) 1 after (flat_map (children_at t.pages) ats)
  one_down height level least met after ats l w h same count =
      let e : height - level ≡ suc (height - (level + 1)) = omega arith in
      down (height - (level + 1)) least met after ats (subst (λ (n : ℕ). HasComeTo s t n least met ats) e w) h same count

  -- what is found of a level is found of the tree
  pub fault_above : (height level least : ℕ) (met : List ℕ) (ats : List Place) (fault : Fault) → level < height → HasComeTo s t (height - level) least met ats
      → IsFaultOf (on_level (broken_at s (Above least) t.pages) met ats) fault → IsFaultOf (finding s t) fault
  fault_above height level least met ats fault l w f =
      let n : ℕ = height - (level + 1) in
      let e : height - level ≡ suc n = omega arith in
      let v = subst (λ (m : ℕ). HasComeTo s t m least met ats) e w in
      subst (λ (o : Option Finding). IsFaultOf o fault) v.found
      (fault_or_else (on_level (broken_at s (Above least) t.pages) met ats) (finding_below s t.pages n 1 (all_met met ats) (flat_map (children_at t.pages) ats)) fault f)

-- ---- where a walk stops

-- an Err need not satisfy what an Ok promises
pub owes_nothing : {T : Type 0} (r : Result T Fault) (P : T → Type 0) → IsErr r → IfOk r P
owes_nothing (Ok x) P is = absurd (false≢true is)
owes_nothing (Err f) P is = tt

-- an allocation may fail whatever the finding is
pub fault_of_memory : (o : Option Finding) → IsFaultOf o NoMemory
fault_of_memory None = refl
fault_of_memory (Some f) = inl refl
