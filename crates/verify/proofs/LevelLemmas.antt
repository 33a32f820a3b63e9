-- The findings on a level, from the verdicts on its pages.
use Rattle.std.specs.Prelude.{◌≡◌, ◌<◌, ℕ, suc, ◌+◌, Bool, true, false, not, List, [], ◌∷◌, ◌++◌, map, drop, length, ◌≤◌, slice_get, get_or, Option, Some, None, Result, Ok, Err, IfOk, IfErr, OnOk, IsErrAnd, MatchResult}
use Rattle.std.proofs.Common.{refl, sym, ap, ◌∙◌, append_assoc, add-one, arith, subst, inl}
use Rattle.std.specs.List.{AllZip}
use Rattle.std.specs.Map.{keys_of, values_of}
use Rattle.std.proofs.lemmas.List.{length-append, drop_all, drop_more}
use Rattle.delta_chain.proofs.Places.{drop_pair, front_under}
use Rattle.keys.specs.Finding.{Finding}
use Rattle.keys.specs.declared.settings.Settings.{Settings}
use Rattle.keys.specs.declared.fault.Fault.{Fault}
use Rattle.index_page.specs.Page.{PageOfKind}
use Rattle.index_page.specs.Page as page
use Rattle.index_page.specs.Page.PageOfKind.{Leaf, Index}
use Rattle.index_page.specs.Children.{Place, children}
use Rattle.index_page.proofs.ChildLemmas.{next_key, children-cons}
use Rattle.index_page.specs.Rules.{is_same_key, keeps_range, fits_sizes, fits_depth, is_headed, is_short_value, is_any_pid}
use Rattle.mapping.specs.Tree.{page_at}
use Rattle.mapping.specs.Levels.{as_leaf, leaf_at, joined}
use Rattle.mapping.specs.FreshPids.{is_among}
use Rattle.mapping.specs.Finding.{first_broken, broken_leaf, broken_index, or_else, found_at, on_level, all_met}
use Rattle.verify.specs.Met.{HaveMetTheSame}
use Rattle.verify.specs.Report.{IsFaultOf}
use Rattle.verify.proofs.MetLemmas.{first_found-same, same_next}
use Rattle.verify.specs.Seen.{broken_at, seen_as, seen_at, found_by, first_found, pairs_of, all_pairs}
use Rattle.verify.specs.declared.look.Level.{Level}
use Rattle.verify.specs.declared.look.Level.TheVariants.{Leaves, Above}
use Rattle.verify.specs.declared.look.Verdict.{Verdict}

-- ---- the verdict on a page by itself, and whether it has been visited, determine the finding there

module _ (at : Place) (met : List ℕ) (n : ℕ) where
  leaf_by : (a b c d m : Bool) → is_among at.pid met ≡ m
      → found_by met at.pid (seen_as (first_broken ((4, a) ∷ (5, b) ∷ (6, c) ∷ (7, d) ∷ (9, true) ∷ [])) n) ≡ found_at at (first_broken ((4, a) ∷ (5, b) ∷ (6, c) ∷ (7, d) ∷ (9, not m) ∷ []))
  leaf_by false b c d m h = refl
  leaf_by true false c d m h = refl
  leaf_by true true false d m h = refl
  leaf_by true true true false m h = refl
  leaf_by true true true true true h = rw h refl
  leaf_by true true true true false h = rw h refl

  index_by : (a b c d e m : Bool) → is_among at.pid met ≡ m
      → found_by met at.pid (seen_as (first_broken ((4, a) ∷ (5, b) ∷ (6, c) ∷ (7, d) ∷ (8, e) ∷ (9, true) ∷ [])) n) ≡ found_at at (first_broken ((4, a) ∷ (5, b) ∷ (6, c) ∷ (7, d) ∷ (8, e) ∷ (9, not m) ∷ []))
  index_by false b c d e m h = refl
  index_by true false c d e m h = refl
  index_by true true false d e m h = refl
  index_by true true true false e m h = refl
  index_by true true true true false m h = refl
  index_by true true true true true true h = rw h refl
  index_by true true true true true false h = rw h refl

  found_at_leaf : (s : Settings) (p : Option PageOfKind) → found_by met at.pid (seen_as (broken_leaf s [] at p) n) ≡ found_at at (broken_leaf s met at p)
  found_at_leaf s None = refl
  found_at_leaf s (Some (Index p)) = refl
  found_at_leaf s (Some (Leaf p)) =
      leaf_by (is_same_key p.low at.low) (keeps_range at.low at.end p) (fits_sizes s (is_short_value s) p) (fits_depth s p) (is_among at.pid met) refl

  found_at_index : (s : Settings) (least : ℕ) (p : Option PageOfKind) → found_by met at.pid (seen_as (broken_index s least [] at p) n) ≡ found_at at (broken_index s least met at p)
  found_at_index s least None = refl
  found_at_index s least (Some (Leaf p)) = refl
  found_at_index s least (Some (Index p)) =
      index_by (is_same_key p.low at.low) (keeps_range at.low at.end p) (fits_sizes s is_any_pid p) (fits_depth s p) (is_headed least p) (is_among at.pid met) refl

module _ (s : Settings) (level : Level) (ps : List (ℕ × PageOfKind)) where
  found_here : (met : List ℕ) (at : Place) → found_by met at.pid (seen_at s level ps at) ≡ found_at at (broken_at s level ps met at)
  found_here met at = by level
    where
      by : (l : Level) → found_by met at.pid (seen_at s l ps at) ≡ found_at at (broken_at s l ps met at)
      by Leaves = found_at_leaf at met (length (page.entries (as_leaf (page_at ps at.pid)))) s (page_at ps at.pid)
      by (Above least) = found_at_index at met (length (page.entries (as_leaf (page_at ps at.pid)))) s least (page_at ps at.pid)

  -- the first finding by what is seen is the level's
  pub found_seen : (met : List ℕ) (ats : List Place) → first_found met ats (map (seen_at s level ps) ats) ≡ on_level (broken_at s level ps) met ats
  found_seen met [] = refl
  found_seen met (at ∷ ats) =
      ap (λ (o : Option Finding). or_else o (first_found (at.pid ∷ met) ats (map (seen_at s level ps) ats))) (found_here met at)
      ∙ ap (λ (o : Option Finding). or_else (found_at at (broken_at s level ps met at)) o) (found_seen (at.pid ∷ met) ats)

  -- ---- the pairs

  pairs_by : (met : List ℕ) (pid : ℕ) (o : Option ℕ) (n : ℕ) (later : Option Finding) → or_else (found_by met pid (seen_as o n)) later ≡ None → pairs_of (seen_as o n) ≡ n
  pairs_by met pid None n later h = refl
  pairs_by met pid (Some rule) n later h = absurd (cc)

  none_later : (o later : Option Finding) → or_else o later ≡ None → later ≡ None
  none_later None later h = h
  none_later (Some f) later h = absurd (cc)

  -- if there is no finding, the pairs counted are those of the leaves
  pub pairs_seen : (met : List ℕ) (ats : List Place) → first_found met ats (map (seen_at s level ps) ats) ≡ None
      → all_pairs (map (seen_at s level ps) ats) ≡ length (joined (map (leaf_at ps) (map (λ at. at.pid) ats)))
  pairs_seen met [] h = refl
  pairs_seen met (at ∷ ats) h =
      let here : List (List ℕ × List ℕ) = page.entries (as_leaf (page_at ps at.pid)) in
      let rest : List (List ℕ × List ℕ) = joined (map (leaf_at ps) (map (λ a. a.pid) ats)) in
      let later : Option Finding = first_found (at.pid ∷ met) ats (map (seen_at s level ps) ats) in
      let one = pairs_by met at.pid (broken_at s level ps [] at) (length here) later h in
      let others = pairs_seen (at.pid ∷ met) ats (none_later (found_by met at.pid (seen_at s level ps at)) later h) in
      ap (λ (k : ℕ). k + all_pairs (map (seen_at s level ps) ats)) one ∙ ap (λ (k : ℕ). length here + k) others ∙ sym (length-append here rest)

-- ---- why a level isn't passed

-- a fault for what is found first is one for what is found at all
pub fault_or_else : (o later : Option Finding) (fault : Fault) → IsFaultOf o fault → IsFaultOf (or_else o later) fault
fault_or_else None None fault h = h
fault_or_else None (Some f) fault h = inl h
fault_or_else (Some f) later fault h = h

-- ---- the lists of places

module _ (es : List (List ℕ × ℕ)) (at : ℕ) (end : Option (List ℕ)) where
  pub next_there : (k : List ℕ) → slice_get (keys_of es) at ≡ Some k → next_key (drop at es) end ≡ Some k
  next_there k h = let f = front_under es at k h in ap (λ (x : List (List ℕ × ℕ)). next_key x end) f.1

  pub no_next : length es ≤ at → next_key (drop at es) end ≡ end
  no_next l = ap (λ (x : List (List ℕ × ℕ)). next_key x end) (drop_all at es l)

-- one more place after others, from what the entries from its own on come to
pub push_place : (out : List Place) (es : List (List ℕ × ℕ)) (at : ℕ) (k : List ℕ) (pid : ℕ) (end next : Option (List ℕ)) (all : List Place)
    → slice_get (keys_of es) at ≡ Some k → slice_get (values_of es) at ≡ Some pid → next_key (drop (at + 1) es) end ≡ next
    → out ++ children (drop at es) end ≡ all → (out ++ record { pid = pid; low = k; end = next } ∷ []) ++ children (drop (at + 1) es) end ≡ all
push_place out es at k pid end next all h i n e =
    let rest : List Place = children (drop (at + 1) es) end in
    let here : drop at es ≡ (k, pid) ∷ drop (at + 1) es = rw add-one (drop_pair es at k pid h i) in
    let named : List Place → List Place = λ x. out ++ x in
    let ended : Option (List ℕ) → Place = λ o. record { pid = pid; low = k; end = o } in
    append_assoc out (record { pid = pid; low = k; end = next } ∷ []) rest
    ∙ ap (λ (o : Option (List ℕ)). out ++ ended o ∷ rest) (sym n)
    ∙ ap named (sym (children-cons (k, pid) (drop (at + 1) es) end))
    ∙ ap (λ (x : List (List ℕ × ℕ)). out ++ children x end) (sym here)
    ∙ e

-- ---- what is made of each, in the order of the list

module _ {X Y : Type 0} (E H : Type 0) (f : X → Y) where
  pub zip_ok : H → (xs : List X) (ys : List Y) → AllZip (λ x r. H → IfOk {E = E} r (λ y. y ≡ f x)) xs (map Ok ys) → ys ≡ map f xs
  zip_ok h [] [] a = refl
  zip_ok h [] (y ∷ ys) a = absurd a
  zip_ok h (x ∷ xs) [] a = absurd a
  zip_ok h (x ∷ xs) (y ∷ ys) a = ap (λ (z : Y). z ∷ ys) (a.0 h) ∙ ap (λ (zs : List Y). f x ∷ zs) (zip_ok h xs ys a.1)

module _ {T E : Type 0} where
  pub ok_of_match : (r : Result T E) (P R : T → Type 0) (Q : E → Type 0) → MatchResult r P Q → ((v : T) → P v → R v) → IfOk r R
  ok_of_match (Ok v) P R Q h f = f v h
  ok_of_match (Err e) P R Q h f = tt

  pub err_of : (r : Result T E) (P Q : E → Type 0) → IsErrAnd r P → ((e : E) → P e → Q e) → IfErr r Q
  err_of (Ok v) P Q h f = tt
  err_of (Err e) P Q h f = f e h

  pub ok_then : (r : Result T E) (A : Type 0) (x y : T) → OnOk r A → IfOk r (λ v. v ≡ x) → (A → x ≡ y) → IfOk r (λ v. v ≡ y)
  ok_then (Ok v) A x y a h f = h ∙ f a
  ok_then (Err e) A x y a h f = tt

-- ---- one more page is visited

-- the elements from a place on
pub from_here : {X : Type 0} (xs : List X) (at : ℕ) (x : X) → at < length xs → x ≡ get_or xs at x → drop at xs ≡ x ∷ drop (at + 1) xs
from_here xs at x l e = drop_more xs at x l ∙ ap (λ y. y ∷ drop (at + 1) xs) (sym e)

module _ (ats : List Place) (seen : List Verdict) (at : ℕ) (p : Place) (s : Verdict) (h : drop at ats ≡ p ∷ drop (at + 1) ats) (i : drop at seen ≡ s ∷ drop (at + 1) seen) where
  pub found_step : (met after : List ℕ) (pid : ℕ) (all : Option Finding) → pid ≡ p.pid → found_by met pid s ≡ None → HaveMetTheSame after (pid ∷ met)
      → first_found met (drop at ats) (drop at seen) ≡ all → first_found after (drop (at + 1) ats) (drop (at + 1) seen) ≡ all
  found_step met after pid all e none same found =
      let rest : List ℕ → Option Finding = λ m. first_found m (drop (at + 1) ats) (drop (at + 1) seen) in
      let own : found_by met p.pid s ≡ None = ap (λ (n : ℕ). found_by met n s) (sym e) ∙ none in
      first_found-same after (pid ∷ met) (drop (at + 1) ats) (drop (at + 1) seen) same
      ∙ ap (λ (n : ℕ). rest (n ∷ met)) e
      ∙ sym (ap (λ (o : Option Finding). or_else o (rest (p.pid ∷ met))) own)
      ∙ sym (ap (λ (x : List Place). first_found met x (drop at seen)) h ∙ ap (λ (x : List Verdict). first_found met (p ∷ drop (at + 1) ats) x) i)
      ∙ found

  -- what is wrong here is what is wrong with all
  pub fault_step : (met : List ℕ) (pid : ℕ) (all : Option Finding) (fault : Fault) → pid ≡ p.pid → first_found met (drop at ats) (drop at seen) ≡ all → IsFaultOf (found_by met pid s) fault → IsFaultOf all fault
  fault_step met pid all fault e found reported =
      let rest : Option Finding = first_found (p.pid ∷ met) (drop (at + 1) ats) (drop (at + 1) seen) in
      let here : or_else (found_by met pid s) rest ≡ all =
      ap (λ (n : ℕ). or_else (found_by met n s) rest) e
      ∙ sym (ap (λ (x : List Place). first_found met x (drop at seen)) h ∙ ap (λ (x : List Verdict). first_found met (p ∷ drop (at + 1) ats) x) i)
      ∙ found
      in
      subst (λ (o : Option Finding). IsFaultOf o fault) here (fault_or_else (found_by met pid s) rest fault reported)

  pub pairs_step : (pairs n all : ℕ) → n ≡ pairs_of s → pairs + all_pairs (drop at seen) ≡ all → (pairs + n) + all_pairs (drop (at + 1) seen) ≡ all
  pairs_step pairs n all e h = let one : all_pairs (drop at seen) ≡ pairs_of s + all_pairs (drop (at + 1) seen) = ap all_pairs i in omega arith

  pub met_step : (first met after : List ℕ) (pid : ℕ) → pid ≡ p.pid → HaveMetTheSame after (pid ∷ met)
      → HaveMetTheSame (all_met met (drop at ats)) (all_met first ats) → HaveMetTheSame (all_met after (drop (at + 1) ats)) (all_met first ats)
  met_step first met after pid e same old =
      let own : HaveMetTheSame after (p.pid ∷ met) = subst (λ (n : ℕ). HaveMetTheSame after (n ∷ met)) e same in
      λ n. same_next p (drop (at + 1) ats) met after own n ∙ ap (λ (x : List Place). is_among n (all_met met x)) (sym h) ∙ old n

  pub count_step : (met after : List ℕ) (all : ℕ) → length after ≡ length met + 1 → length met + length (drop at ats) ≡ all → length after + length (drop (at + 1) ats) ≡ all
  count_step met after all e old = let one : length (drop at ats) ≡ suc (length (drop (at + 1) ats)) = ap length h in omega arith
