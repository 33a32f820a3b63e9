-- Findings depend only on the set of visited pids, and not on their order.
use Rattle.std.specs.Prelude.{◌≡◌, ℕ, zero, suc, Bool, true, false, not, cond, ◌||◌, nat_eq, List, [], ◌∷◌, ◌++◌, map, flat_map, Option, Some, None, if◌then◌else◌}
use Rattle.std.proofs.Common.{refl, sym, ap, ◌∙◌, Ordering, Less, Equal, Greater}
use Rattle.std.specs.Ordering.{nat_cmp, is_eq, match_ordering}
use Rattle.std.specs.List.{list_any}
use Rattle.std.specs.Map.{keys_of}
use Rattle.std.specs.BTreeMap.{is_at}
use Rattle.std.specs.BTreeSet.{insert_key}
use Rattle.std.proofs.lemmas.Cmp.{tied_itself}
use Rattle.std.proofs.lemmas.Bool.{eq-eqb, eqb-true}
use Rattle.keys.specs.declared.settings.Settings.{Settings}
use Rattle.keys.proofs.Basics.{equal_by, or_swapped}
use Rattle.index_page.specs.Page.{PageOfKind}
use Rattle.index_page.specs.Page.PageOfKind.{Leaf, Index}
use Rattle.index_page.specs.Children.{Place}
use Rattle.index_page.specs.Rules.{is_short_value, is_any_pid}
use Rattle.mapping.specs.Tree.{page_at}
use Rattle.mapping.specs.FreshPids.{is_among}
use Rattle.mapping.specs.Finding.{Finding, common_rules, child_rule, first_broken, broken_leaf, broken_index, or_else, found_at, on_level, unmet, children_at, all_met, finding_below}
use Rattle.mapping.proofs.TableLemmas.{total, same_pid}
use Rattle.verify.specs.Met.{HaveMetTheSame}
use Rattle.verify.specs.Seen.{broken_at, found_by, first_found}
use Rattle.verify.specs.declared.look.Level.TheVariants.{Leaves, Above}
use Rattle.verify.specs.declared.look.Verdict.{Verdict}
use Rattle.verify.specs.declared.look.Verdict.TheVariants.{Broken, Sound}

-- ---- one more in order

or_twice : (a c : Bool) → (a || c) ≡ (a || (a || c))
or_twice true c = refl
or_twice false c = refl

inserted_by : (o : Ordering) (m n x : ℕ) (xs rest : List ℕ) → nat_cmp n x ≡ o → is_among m rest ≡ (nat_eq m n || is_among m xs)
    → is_among m (match_ordering o (n ∷ x ∷ xs) (x ∷ xs) (x ∷ rest)) ≡ (nat_eq m n || is_among m (x ∷ xs))
inserted_by Less m n x xs rest e h = refl
inserted_by Equal m n x xs rest e h =
    let same : n ≡ x = same_pid n x e in
    or_twice (nat_eq m x) (is_among m xs) ∙ ap (λ (i : ℕ). nat_eq m i || (nat_eq m x || is_among m xs)) (sym same)
inserted_by Greater m n x xs rest e h = ap (λ (b : Bool). nat_eq m x || b) h ∙ or_swapped (nat_eq m x) (nat_eq m n) (is_among m xs)

-- a number put among others in order is among them, and so are those that were
pub among-insert : (m n : ℕ) (ks : List ℕ) → is_among m (insert_key nat_cmp ks n) ≡ (nat_eq m n || is_among m ks)
among-insert m n [] = refl
among-insert m n (x ∷ xs) = inserted_by (nat_cmp n x) m n x xs (insert_key nat_cmp xs n) refl (among-insert m n xs)

among-following : (m n : ℕ) (xs met : List ℕ) → is_among m (xs ++ n ∷ met) ≡ (nat_eq m n || is_among m (xs ++ met))
among-following m n [] met = refl
among-following m n (x ∷ xs) met = ap (λ (b : Bool). nat_eq m x || b) (among-following m n xs met) ∙ or_swapped (nat_eq m x) (nat_eq m n) (is_among m (xs ++ met))

-- ---- the same pids visited before and after

pub same_with : (n : ℕ) (met other : List ℕ) → HaveMetTheSame met other → HaveMetTheSame (n ∷ met) (n ∷ other)
same_with n met other h = λ m. ap (λ (b : Bool). nat_eq m n || b) (h m)

same_following : (xs met other : List ℕ) → HaveMetTheSame met other → HaveMetTheSame (xs ++ met) (xs ++ other)
same_following [] met other h = h
same_following (x ∷ xs) met other h = same_with x (xs ++ met) (xs ++ other) (same_following xs met other h)

pub same_after : (ats : List Place) (met other : List ℕ) → HaveMetTheSame met other → HaveMetTheSame (all_met met ats) (all_met other ats)
same_after ats met other h = same_following (map (λ at. at.pid) ats) met other h

-- those of one place, and then of others, are those of all of them
pub same_next : (at : Place) (ats : List Place) (met after : List ℕ) → HaveMetTheSame after (at.pid ∷ met) → HaveMetTheSame (all_met after ats) (all_met met (at ∷ ats))
same_next at ats met after h = λ m. same_after ats after (at.pid ∷ met) h m ∙ among-following m at.pid (map (λ a. a.pid) ats) met

-- ---- what is found

found_by-same : (met other : List ℕ) (pid : ℕ) (s : Verdict) → HaveMetTheSame met other → found_by met pid s ≡ found_by other pid s
found_by-same met other pid (Broken rule) h = refl
found_by-same met other pid (Sound pairs) h = ap (λ (b : Bool). if b then Some (record { rule = 9; pid = pid }) else None) (h pid)

pub first_found-same : (met other : List ℕ) (ats : List Place) (seen : List Verdict) → HaveMetTheSame met other → first_found met ats seen ≡ first_found other ats seen
first_found-same met other [] seen h = refl
first_found-same met other (at ∷ ats) [] h = refl
first_found-same met other (at ∷ ats) (s ∷ seen) h =
    ap (λ (o : Option Finding). or_else o (first_found (at.pid ∷ met) ats seen)) (found_by-same met other at.pid s h)
    ∙ ap (λ (o : Option Finding). or_else (found_by other at.pid s) o) (first_found-same (at.pid ∷ met) (at.pid ∷ other) ats seen (same_with at.pid met other h))

broken_leaf-same : (s : Settings) (met other : List ℕ) (at : Place) (p : Option PageOfKind) → HaveMetTheSame met other → broken_leaf s met at p ≡ broken_leaf s other at p
broken_leaf-same s met other at None h = refl
broken_leaf-same s met other at (Some (Index p)) h = refl
broken_leaf-same s met other at (Some (Leaf p)) h = ap (λ (b : Bool). first_broken (common_rules s (is_short_value s) at p ++ (9, not b) ∷ [])) (h at.pid)

broken_index-same : (s : Settings) (least : ℕ) (met other : List ℕ) (at : Place) (p : Option PageOfKind) → HaveMetTheSame met other → broken_index s least met at p ≡ broken_index s least other at p
broken_index-same s least met other at None h = refl
broken_index-same s least met other at (Some (Leaf p)) h = refl
broken_index-same s least met other at (Some (Index p)) h = ap (λ (b : Bool). first_broken (common_rules s is_any_pid at p ++ child_rule least p ∷ (9, not b) ∷ [])) (h at.pid)

module _ (broken : List ℕ → Place → Option ℕ) (same : (met other : List ℕ) (at : Place) → HaveMetTheSame met other → broken met at ≡ broken other at) where
  on_level-same : (met other : List ℕ) (ats : List Place) → HaveMetTheSame met other → on_level broken met ats ≡ on_level broken other ats
  on_level-same met other [] h = refl
  on_level-same met other (at ∷ ats) h =
      ap (λ (o : Option ℕ). or_else (found_at at o) (on_level broken (at.pid ∷ met) ats)) (same met other at h)
      ∙ ap (λ (o : Option Finding). or_else (found_at at (broken other at)) o) (on_level-same (at.pid ∷ met) (at.pid ∷ other) ats (same_with at.pid met other h))

module _ (s : Settings) (ps : List (ℕ × PageOfKind)) where
  pub unmet-same : (met other : List ℕ) (qs : List (ℕ × PageOfKind)) → HaveMetTheSame met other → unmet met qs ≡ unmet other qs
  unmet-same met other [] h = refl
  unmet-same met other (q ∷ qs) h =
      ap (λ (b : Bool). cond b (unmet met qs) (Some (record { rule = 10; pid = q.0 }))) (h q.0)
      ∙ ap (λ (o : Option Finding). cond (is_among q.0 other) o (Some (record { rule = 10; pid = q.0 }))) (unmet-same met other qs h)

  pub finding_below-same : (n least : ℕ) (met other : List ℕ) (ats : List Place) → HaveMetTheSame met other → finding_below s ps n least met ats ≡ finding_below s ps n least other ats
  finding_below-same zero least met other ats h =
      ap (λ (o : Option Finding). or_else o (unmet (all_met met ats) ps)) (on_level-same (broken_at s Leaves ps) (λ m o at. broken_leaf-same s m o at (page_at ps at.pid)) met other ats h)
      ∙ ap (λ (o : Option Finding). or_else (on_level (broken_at s Leaves ps) other ats) o) (unmet-same (all_met met ats) (all_met other ats) ps (same_after ats met other h))
  finding_below-same (suc n) least met other ats h =
      let below : List Place = flat_map (children_at ps) ats in
      ap (λ (o : Option Finding). or_else o (finding_below s ps n 1 (all_met met ats) below)) (on_level-same (broken_at s (Above least) ps) (λ m o at. broken_index-same s least m o at (page_at ps at.pid)) met other ats h)
      ∙ ap (λ (o : Option Finding). or_else (on_level (broken_at s (Above least) ps) other ats) o) (finding_below-same n 1 (all_met met ats) (all_met other ats) below (same_after ats met other h))

-- ---- what a set has

same_test : (b c : Bool) (m n : ℕ) → is_eq (nat_cmp m n) ≡ b → nat_eq m n ≡ c → is_eq (nat_cmp m n) ≡ nat_eq m n
same_test true true m n s t = s ∙ sym t
same_test true false m n s t = let x = same_pid m n (equal_by (nat_cmp m n) s) in let y = eq-eqb m n x in absurd (cc)
same_test false false m n s t = s ∙ sym t
same_test false true m n s t =
    let x : m ≡ n = eqb-true m n t in
    let y : is_eq (nat_cmp m n) ≡ true = ap (λ (k : ℕ). is_eq (nat_cmp m k)) (sym x) ∙ ap is_eq (tied_itself total m) in
    absurd (cc)

pub has_among : (n : ℕ) (ks : List ℕ) → list_any (is_at (nat_cmp n)) ks ≡ is_among n ks
has_among n [] = refl
has_among n (k ∷ ks) = ap (λ (b : Bool). b || list_any (is_at (nat_cmp n)) ks) (same_test (is_eq (nat_cmp n k)) (nat_eq n k) n k refl refl) ∙ ap (λ (b : Bool). nat_eq n k || b) (has_among n ks)

-- ---- the pages that haven't been visited, by their pids

abbrev pub unmet_of : List ℕ → List ℕ → Option Finding
unmet_of met [] = None
unmet_of met (p ∷ ps) = cond (is_among p met) (unmet_of met ps) (Some (record { rule = 10; pid = p }))

pub unmet-pids : (met : List ℕ) (ps : List (ℕ × PageOfKind)) → unmet_of met (keys_of ps) ≡ unmet met ps
unmet-pids met [] = refl
unmet-pids met (p ∷ ps) = ap (λ (o : Option Finding). cond (is_among p.0 met) o (Some (record { rule = 10; pid = p.0 }))) (unmet-pids met ps)
