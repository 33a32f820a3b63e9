-- Groups that are rewritten, and the mapping table after they are replaced: the changes of the plan are installed.
use Rattle.std.specs.Prelude.{◌≡◌, ℕ, zero, suc, ◌+◌, ◌<◌, Bool, true, false, cond, nat_eq, List, [], ◌∷◌, ◌++◌, map, flat_map, drop, length, Option, Some, None, IsSome}
use Rattle.std.proofs.Common.{refl, sym, ap, ◌∙◌, subst, arith, append-nil, length-append}
use Rattle.std.specs.List.{filter, AllByRecursion, range_with_len}
use Rattle.std.proofs.lemmas.Bool.{or_parts, or_from}
use Rattle.std.proofs.lemmas.List.{length-map, map-append}
use Rattle.keys.specs.Lists.{flat}
use Rattle.keys.specs.declared.settings.Settings.{Settings}
use Rattle.index_page.specs.Page.{Page, PageOfKind}
use Rattle.index_page.proofs.ListLemmas.{all-append, all_apart, all-filter}
use Rattle.mapping.specs.Levels.{Placed, joined, pids}
use Rattle.mapping.specs.FreshPids.{is_among, unused, IsNeverUnused}
use Rattle.mapping.specs.Outdate.{outdate_all}
use Rattle.mapping.specs.Proper.{Distinct, AreRisingPids}
use Rattle.mapping.specs.Table as table
use Rattle.mapping.specs.Table.{Mapping, pids_in_use, place_of, page_of}
use Rattle.mapping.proofs.LevelLemmas.{pids-append, same_pids}
use Rattle.mapping.proofs.PidLemmas.{among_apart}
use Rattle.page_runs.specs.Updated.{Updated, is_fat}
use Rattle.split_plan.specs.Cut.{cut}
use Rattle.split_plan.specs.UpdatedLevel.{placed_of}
use Rattle.split_plan.specs.Change.{is_rewritten, remade, changes, new_of, fresh_of}
use Rattle.split_plan.specs.Pieces.{CanJoin, group_made}
use Rattle.split_plan.specs.Terms.{freed_of}
use Rattle.split_plan.proofs.ChangeLemmas.{remade_by, remade_begins}
use Rattle.split_plan.proofs.PidLemmas.{distinct_renewed, recast, renewed-append}
use Rattle.split_plan.proofs.Renewed.{Renewed}
use Rattle.split_plan.proofs.Renewed.Renewed.{done, keep, drop_one, draw}
use Rattle.climb_plan.specs.Changing.{page_seen, AreHome}
use Rattle.climb_plan.specs.Installing.{page_or_none, pages_under, all_installed, IsMade, CanInstallAll}
use Rattle.climb_plan.specs.Level.{IsKind, remade_of}
use Rattle.climb_plan.specs.Rewriting.{Remade}
use Rattle.climb_plan.proofs.BridgeGroups.{IsInOrder, AreInOrder, cut_one}
use Rattle.climb_plan.proofs.BridgePieces.{pids-replacements, pieces_here}
use Rattle.climb_plan.proofs.ChangingOutdated.{updated_pids-append}
use Rattle.climb_plan.proofs.InstalledPages.{not_among_from}
use Rattle.climb_plan.proofs.InstallingLemmas.{AreUnder, AreShaped, AreReady, AreMade, AreInstalled, groups_pids, can_install_all, all_are_installed, others-all_installed, logged-all_installed, rising-all_installed}
use Rattle.climb_plan.proofs.Installed.{IsInstalled, updated_pids}

-- ---- fresh pids

ranges_join : (f : ℕ → ℕ) (i n k : ℕ) → map f (range_with_len i n) ++ map f (range_with_len (i + n) k) ≡ map f (range_with_len i (n + k))
ranges_join f i zero k = let e : i + 0 ≡ i = omega arith in let z : 0 + k ≡ k = omega arith in rw (e, z) refl
ranges_join f i (suc n) k =
    let e : i + suc n ≡ (i + 1) + n = omega arith in
    let x : suc (n + k) ≡ suc n + k = omega arith in
    ap (λ (ns : List ℕ). f i ∷ ns) (ap (λ (j : ℕ). map f (range_with_len (i + 1) n) ++ map f (range_with_len j k)) e ∙ ranges_join f (i + 1) n k) ∙ ap (λ (m : ℕ). map f (range_with_len i m)) x

module _ (used : List ℕ) where
  stay_all : (i : ℕ) (ns : List ℕ) → Renewed used i i ns ns
  stay_all i [] = done
  stay_all i (n ∷ ns) = keep n (stay_all i ns)

  leave_all : (i : ℕ) (ns : List ℕ) → Renewed used i i ns []
  leave_all i [] = done
  leave_all i (n ∷ ns) = drop_one n (leave_all i ns)

  -- n pids are allocated, one after the other
  pub draw_all : (i n : ℕ) → Renewed used i (i + n) [] (map (unused used) (range_with_len i n))
  draw_all i zero = recast used (let e : i ≡ i + 0 = omega arith in e) refl refl done
  draw_all i (suc n) =
      let count : suc i + n ≡ i + suc n = omega arith in
      let next : suc i ≡ i + 1 = omega arith in
      draw (recast used count refl (ap (λ (j : ℕ). map (unused used) (range_with_len j n)) next) (draw_all (suc i) n))

module _ {V : Type 0} (s : Settings) (used : List ℕ) where
  fresh_by : (b : Bool) (i : ℕ) (w : Updated V) → pids (drop 1 (remade_by b s used i w [])) ≡ map (unused used) (range_with_len i (length (drop 1 (remade_by b s used i w []))))
  fresh_by true i w = pids-replacements used i w.placed (cut s.fan (joined (placed_of (w ∷ []))))
  fresh_by false i w = refl

  fresh_one : (i : ℕ) (g : List (Updated V)) → pids (drop 1 (remade s used i g)) ≡ map (unused used) (range_with_len i (length (drop 1 (remade s used i g))))
  fresh_one i [] = refl
  fresh_one i (w ∷ []) = fresh_by (is_fat w) i w
  fresh_one i (w ∷ v ∷ ws) = pids-replacements used i w.placed (cut s.fan (joined (placed_of (w ∷ v ∷ ws))))

  -- the new pages of groups have the next unused pids
  pub fresh_numbers : (i : ℕ) (gs : List (List (Updated V))) → pids (fresh_of (changes s used i gs)) ≡ map (unused used) (range_with_len i (length (fresh_of (changes s used i gs))))
  fresh_numbers i [] = refl
  fresh_numbers i (g ∷ gs) =
      let here : List (Placed V) = drop 1 (remade s used i g) in
      let later : List (Placed V) = fresh_of (changes s used (i + length here) gs) in
      pids-append here later
      ∙ ap (λ (ns : List ℕ). ns ++ pids later) (fresh_one i g)
      ∙ ap (λ (ns : List ℕ). map (unused used) (range_with_len i (length here)) ++ ns) (fresh_numbers (i + length here) gs)
      ∙ ranges_join (unused used) i (length here) (length later)
      ∙ ap (λ (n : ℕ). map (unused used) (range_with_len i n)) (sym (length-append here later))

  -- the first page of a group has its first member's pid
  first_stays : (i : ℕ) (w : Updated V) (ws : List (Updated V)) → pids (remade s used i (w ∷ ws)) ≡ w.placed.pid ∷ pids (drop 1 (remade s used i (w ∷ ws)))
  first_stays i w ws = same_pids (remade s used i (w ∷ ws)) (w.placed ∷ drop 1 (remade s used i (w ∷ ws))) (remade_begins s used i w ws)

  -- ---- groups

  module _ (of : Page V → PageOfKind) where
    -- the result of the code for groups
    abbrev pub remade_all : ℕ → List (List (Updated V)) → List Remade
    remade_all i gs = map (remade_of of) (changes s used i gs)

    one_renewed : (i : ℕ) (g : List (Updated V)) → Renewed used i (i + length (drop 1 (remade s used i g))) (updated_pids g) (updated_pids g ++ pids (drop 1 (remade s used i g)))
    one_renewed i g =
        let drawn = recast used refl refl (sym (fresh_one i g)) (draw_all used i (length (drop 1 (remade s used i g)))) in
        recast used refl (append-nil (updated_pids g)) refl (renewed-append (stay_all used i (updated_pids g)) drawn)

    renewed_by : (b : Bool) (i : ℕ) (g : List (Updated V)) (gs rs : List (List (Updated V)))
        → ((j : ℕ) → Renewed used j (j + length (fresh_of (changes s used j rs))) (updated_pids (flat gs)) (groups_pids (remade_all j rs)))
        → Renewed used i (i + length (fresh_of (changes s used i (cond b (g ∷ rs) rs)))) (updated_pids (flat (g ∷ gs))) (groups_pids (remade_all i (cond b (g ∷ rs) rs)))
    renewed_by true i g gs rs ih =
        let here : List (Placed V) = drop 1 (remade s used i g) in
        let later : List (Placed V) = fresh_of (changes s used (i + length here) rs) in
        let count : (i + length here) + length later ≡ i + length (here ++ later) = omega (arith, length-append here later) in
        recast used count (sym (updated_pids-append g (flat gs))) refl (renewed-append (one_renewed i g) (ih (i + length here)))
    renewed_by false i g gs rs ih = recast used refl (sym (updated_pids-append g (flat gs))) refl (renewed-append (leave_all used i (updated_pids g)) (ih i))

    -- the pids of the groups that are rewritten, of members and of new pages, are those of all groups, renewed
    groups_renewed : (i : ℕ) (gs : List (List (Updated V))) → Renewed used i (i + length (fresh_of (changes s used i (filter is_rewritten gs)))) (updated_pids (flat gs)) (groups_pids (remade_all i (filter is_rewritten gs)))
    groups_renewed i [] = recast used (let e : i ≡ i + 0 = omega arith in e) refl refl done
    groups_renewed i (g ∷ gs) = renewed_by (is_rewritten g) i g gs (filter is_rewritten gs) (λ j. groups_renewed j gs)

    -- so they are distinct
    pub groups_distinct : (i : ℕ) (gs : List (List (Updated V))) → AllByRecursion (IsNeverUnused used) (updated_pids (flat gs)) → Distinct (updated_pids (flat gs)) → Distinct (groups_pids (remade_all i (filter is_rewritten gs)))
    groups_distinct i gs n d = distinct_renewed (groups_renewed i gs) n d

    -- ---- facts about each group

    shaped_one : (i : ℕ) (g : List (Updated V)) → is_rewritten g ≡ true → (let r : Remade = remade_of of (record { members = g; pages = remade s used i g }) in (0 < length r.members) × (length r.pieces ≡ suc (length r.fresh)))
    shaped_one i [] e = absurd (cc)
    shaped_one i (w ∷ ws) e =
        let all : List (Placed V) = remade s used i (w ∷ ws) in
        let some : 0 < suc (length (updated_pids ws)) = omega arith in
        (some, length-map all (λ (q : Placed V). of q.page) ∙ sym (length-map all (λ (q : Placed V). q.pid)) ∙ ap (λ (ns : List ℕ). length ns) (first_stays i w ws))

    -- groups that are rewritten have members, and one page more than fresh ones
    pub all_shaped : (i : ℕ) (gs : List (List (Updated V))) → AllByRecursion (λ g. is_rewritten g ≡ true) gs → AreShaped (remade_all i gs)
    all_shaped i [] h = tt
    all_shaped i (g ∷ gs) h = (shaped_one i g h.0, all_shaped (i + length (drop 1 (remade s used i g))) gs h.1)

    -- their members are in the table, and the places of fresh pages are empty
    pub all_ready : (t : Mapping PageOfKind) (i : ℕ) (gs : List (List (Updated V))) → AllByRecursion (λ k. IsSome (page_of t k)) (updated_pids (flat gs)) → AllByRecursion (λ k. place_of t k ≡ Some None) (pids (fresh_of (changes s used i gs))) → AreReady t (remade_all i gs)
    all_ready t i [] a b = tt
    all_ready t i (g ∷ gs) a b =
        let here : List (Placed V) = drop 1 (remade s used i g) in
        let later : List (Placed V) = fresh_of (changes s used (i + length here) gs) in
        let m = all_apart (λ k. IsSome (page_of t k)) (updated_pids g) (updated_pids (flat gs)) (subst (λ (ns : List ℕ). AllByRecursion (λ k. IsSome (page_of t k)) ns) (updated_pids-append g (flat gs)) a) in
        let f = all_apart (λ k. place_of t k ≡ Some None) (pids here) (pids later) (subst (λ (ns : List ℕ). AllByRecursion (λ k. place_of t k ≡ Some None) ns) (pids-append here later) b) in
        ((m.0, f.0), all_ready t (i + length here) gs m.1 f.1)

    -- their members' pages are in the table, so the new pages are those of these
    under_members : (t : Mapping PageOfKind) (g : List (Updated V)) → AreHome of t (placed_of g) → pages_under t (updated_pids g) ≡ map (λ x. x.page) (map (page_seen of) g)
    under_members t [] h = refl
    under_members t (w ∷ ws) h =
        ap (λ (o : Option (Option PageOfKind)). page_or_none (table.at_home o) ∷ pages_under t (updated_pids ws)) h.0 ∙ ap (λ (ps : List PageOfKind). of w.placed.page ∷ ps) (under_members t ws h.1)

    made_one : IsKind of → (t : Mapping PageOfKind) (i : ℕ) (g : List (Updated V)) → is_rewritten g ≡ true → IsInOrder g → AreHome of t (placed_of g) → IsMade t (remade_of of (record { members = g; pages = remade s used i g }))
    made_one kind t i g e order h =
        let same = sym (under_members t g h) in
        (s, subst (λ (ps : List PageOfKind). CanJoin ps) same (cut_one of kind g e order), sym (pieces_here of kind s used i g e) ∙ ap (λ (ps : List PageOfKind). group_made s ps) same)

    all_made : IsKind of → (t : Mapping PageOfKind) (i : ℕ) (gs : List (List (Updated V))) → AreInOrder gs → AllByRecursion (λ g. AreHome of t (placed_of g)) gs → AreMade t (remade_all i gs)
    all_made kind t i [] a h = tt
    all_made kind t i (g ∷ gs) a h = (made_one kind t i g a.0.0 a.0.1 h.0, all_made kind t (i + length (drop 1 (remade s used i g))) gs a.1 h.1)

    home_each : (t : Mapping PageOfKind) (gs : List (List (Updated V))) → AreHome of t (placed_of (flat gs)) → AllByRecursion (λ g. AreHome of t (placed_of g)) gs
    home_each t [] h = tt
    home_each t (g ∷ gs) h =
        let joint = map-append (λ (w : Updated V). w.placed) g (flat gs) in
        let parts = all_apart (λ p. place_of t p.pid ≡ Some (Some (of p.page))) (placed_of g) (placed_of (flat gs)) (subst (λ (ps : List (Placed V)). AreHome of t ps) joint h) in
        (parts.0, home_each t gs parts.1)

    members_all : (i : ℕ) (gs : List (List (Updated V))) → flat_map (λ r. r.members) (remade_all i gs) ≡ updated_pids (flat gs)
    members_all i [] = refl
    members_all i (g ∷ gs) =
        ap (λ (ns : List ℕ). updated_pids g ++ ns) (members_all (i + length (drop 1 (remade s used i g))) gs) ∙ sym (updated_pids-append g (flat gs))

    -- ---- after they are replaced

    home_under : (t : Mapping PageOfKind) (qs : List (Placed V)) → AreUnder t (pids qs) (map (λ q. of q.page) qs) → AreHome of t qs
    home_under t [] h = tt
    home_under t (q ∷ qs) h = (h.0, home_under t qs h.1)

    none_placed : (t : Mapping PageOfKind) (ws : List (Updated V)) → AllByRecursion (λ k. place_of t k ≡ None) (updated_pids ws) → AllByRecursion (λ p. place_of t p.pid ≡ None) (placed_of ws)
    none_placed t [] h = tt
    none_placed t (w ∷ ws) h = (h.0, none_placed t ws h.1)

    home_one : (t : Mapping PageOfKind) (i : ℕ) (g : List (Updated V)) → is_rewritten g ≡ true → AreInstalled t (remade_of of (record { members = g; pages = remade s used i g })) → AreHome of t (remade s used i g)
    home_one t i [] e a = absurd (cc)
    home_one t i (w ∷ ws) e a =
        let all : List (Placed V) = remade s used i (w ∷ ws) in
        home_under t all (subst (λ (ns : List ℕ). AreUnder t ns (map (λ q. of q.page) all)) (sym (first_stays i w ws)) a.pieces)

    none_one : (t : Mapping PageOfKind) (i : ℕ) (g : List (Updated V)) → is_rewritten g ≡ true → AreInstalled t (remade_of of (record { members = g; pages = remade s used i g })) → AllByRecursion (λ p. place_of t p.pid ≡ None) (drop 1 (placed_of g))
    none_one t i [] e a = absurd (cc)
    none_one t i (w ∷ ws) e a = none_placed t ws a.freed

    new_home : (t : Mapping PageOfKind) (i : ℕ) (gs : List (List (Updated V))) → AllByRecursion (λ g. is_rewritten g ≡ true) gs → AllByRecursion (AreInstalled t) (remade_all i gs) → AreHome of t (new_of (changes s used i gs))
    new_home t i [] h a = tt
    new_home t i (g ∷ gs) h a =
        let new : List (Placed V) = remade s used i g in
        let j : ℕ = i + length (drop 1 new) in
        all-append (λ p. place_of t p.pid ≡ Some (Some (of p.page))) new (new_of (changes s used j gs)) (home_one t i g h.0 a.0) (new_home t j gs h.1 a.1)

    freed_none : (t : Mapping PageOfKind) (i : ℕ) (gs : List (List (Updated V))) → AllByRecursion (λ g. is_rewritten g ≡ true) gs → AllByRecursion (AreInstalled t) (remade_all i gs) → AllByRecursion (λ p. place_of t p.pid ≡ None) (freed_of (changes s used i gs))
    freed_none t i [] h a = tt
    freed_none t i (g ∷ gs) h a =
        let j : ℕ = i + length (drop 1 (remade s used i g)) in
        all-append (λ p. place_of t p.pid ≡ None) (drop 1 (placed_of g)) (freed_of (changes s used j gs)) (none_one t i g h.0 a.0) (freed_none t j gs h.1 a.1)

    in_neither : (n : ℕ) (ps qs : List (Placed V)) → is_among n (pids (ps ++ qs)) ≡ false → (is_among n (pids ps) ≡ false) × (is_among n (pids qs) ≡ false)
    in_neither n ps qs h = among_apart n (pids ps) (pids qs) (ap (λ (ns : List ℕ). is_among n ns) (sym (pids-append ps qs)) ∙ h)

    updated_as_placed : (ws : List (Updated V)) → updated_pids ws ≡ pids (placed_of ws)
    updated_as_placed [] = refl
    updated_as_placed (w ∷ ws) = ap (λ (ns : List ℕ). w.placed.pid ∷ ns) (updated_as_placed ws)

    apart_one : (n i : ℕ) (g : List (Updated V)) → is_rewritten g ≡ true → is_among n (pids (remade s used i g)) ≡ false → is_among n (pids (drop 1 (placed_of g))) ≡ false → is_among n (updated_pids g ++ pids (drop 1 (remade s used i g))) ≡ false
    apart_one n i [] e a b = absurd (cc)
    apart_one n i (w ∷ ws) e a b =
        let here : List ℕ = pids (drop 1 (remade s used i (w ∷ ws))) in
        let parts = or_parts (nat_eq n w.placed.pid) (is_among n here) (ap (λ (ns : List ℕ). is_among n ns) (sym (first_stays i w ws)) ∙ a) in
        let others : is_among n (updated_pids ws) ≡ false = ap (λ (ns : List ℕ). is_among n ns) (updated_as_placed ws) ∙ b in
        not_among_from n (updated_pids (w ∷ ws)) here (or_from (nat_eq n w.placed.pid) (is_among n (updated_pids ws)) parts.0 others) parts.1

    apart_all : (n i : ℕ) (gs : List (List (Updated V))) → AllByRecursion (λ g. is_rewritten g ≡ true) gs → is_among n (pids (new_of (changes s used i gs))) ≡ false → is_among n (pids (freed_of (changes s used i gs))) ≡ false → is_among n (groups_pids (remade_all i gs)) ≡ false
    apart_all n i [] h a b = refl
    apart_all n i (g ∷ gs) h a b =
        let new : List (Placed V) = remade s used i g in
        let j : ℕ = i + length (drop 1 new) in
        let p = in_neither n new (new_of (changes s used j gs)) a in
        let q = in_neither n (drop 1 (placed_of g)) (freed_of (changes s used j gs)) b in
        not_among_from n (updated_pids g ++ pids (drop 1 new)) (groups_pids (remade_all j gs)) (apart_one n i g h.0 p.0 q.0) (apart_all n j gs h.1 p.1 q.1)

    -- ---- of all groups those that are rewritten

    kept_by : (P : ℕ → Type 0) (b : Bool) (g : List (Updated V)) (rs : List (List (Updated V))) → AllByRecursion P (updated_pids g) → AllByRecursion P (updated_pids (flat rs)) → AllByRecursion P (updated_pids (flat (cond b (g ∷ rs) rs)))
    kept_by P true g rs a h = subst (λ (ns : List ℕ). AllByRecursion P ns) (sym (updated_pids-append g (flat rs))) (all-append P (updated_pids g) (updated_pids (flat rs)) a h)
    kept_by P false g rs a h = h

    kept_members : (P : ℕ → Type 0) (gs : List (List (Updated V))) → AllByRecursion P (updated_pids (flat gs)) → AllByRecursion P (updated_pids (flat (filter is_rewritten gs)))
    kept_members P [] h = tt
    kept_members P (g ∷ gs) h =
        let r = all_apart P (updated_pids g) (updated_pids (flat gs)) (subst (λ (ns : List ℕ). AllByRecursion P ns) (updated_pids-append g (flat gs)) h) in
        kept_by P (is_rewritten g) g (filter is_rewritten gs) r.0 (kept_members P gs r.1)

    passing_by : (b : Bool) (g : List (Updated V)) (rs : List (List (Updated V))) → is_rewritten g ≡ b → AllByRecursion (λ g. is_rewritten g ≡ true) rs → AllByRecursion (λ g. is_rewritten g ≡ true) (cond b (g ∷ rs) rs)
    passing_by true g rs e h = (e, h)
    passing_by false g rs e h = h

    all_pass : (gs : List (List (Updated V))) → AllByRecursion (λ g. is_rewritten g ≡ true) (filter is_rewritten gs)
    all_pass [] = tt
    all_pass (g ∷ gs) = passing_by (is_rewritten g) g (filter is_rewritten gs) refl (all_pass gs)

    module _ (t : Mapping PageOfKind) (i : ℕ) (gs : List (List (Updated V))) (rises : AreRisingPids (pids_in_use t)) (never : AllByRecursion (IsNeverUnused used) (updated_pids (flat gs))) (distinct : Distinct (updated_pids (flat gs))) where
      abbrev rs : List (List (Updated V))
      rs = filter is_rewritten gs

      -- groups can be replaced if their members are in the table and the places of fresh pages are empty
      pub groups_can_be_installed : IsKind of → AreInOrder rs → AreHome of t (placed_of (flat gs)) → AllByRecursion (λ k. IsSome (page_of t k)) (updated_pids (flat gs)) → AllByRecursion (λ k. place_of t k ≡ Some None) (pids (fresh_of (changes s used i rs))) → CanInstallAll t (remade_all i rs)
      groups_can_be_installed kind order home a b =
          can_install_all t (remade_all i rs) rises (groups_distinct i gs never distinct) (all_shaped i rs (all_pass gs)) (all_ready t i rs (kept_members (λ k. IsSome (page_of t k)) gs a) b)
          (all_made kind t i rs order (all-filter (λ g. AreHome of t (placed_of g)) is_rewritten gs (home_each t gs home)))

      -- after they are, the changes are installed
      pub groups_installed : IsInstalled of t (all_installed t (remade_all i rs)) (changes s used i rs)
      groups_installed =
          let apart = groups_distinct i gs never distinct in
          let shaped = all_shaped i rs (all_pass gs) in
          let every = all_are_installed t (remade_all i rs) rises apart shaped in
          let u : Mapping PageOfKind = all_installed t (remade_all i rs) in
          record {
            new = new_home u i rs (all_pass gs) every;
            freed = freed_none u i rs (all_pass gs) every;
            others = λ n h. (let p = among_apart n (pids (new_of (changes s used i rs))) (pids (freed_of (changes s used i rs))) h in others-all_installed n t (remade_all i rs) rises apart shaped (apart_all n i rs (all_pass gs) p.0 p.1));
          }

      pub groups_rising : AreRisingPids (pids_in_use (all_installed t (remade_all i rs)))
      groups_rising = rising-all_installed t (remade_all i rs) rises (groups_distinct i gs never distinct) (all_shaped i rs (all_pass gs))

      -- and the log has nothing new of their members
      pub groups_logged : (all_installed t (remade_all i rs)).logged ≡ outdate_all (updated_pids (flat rs)) t.logged
      groups_logged =
          logged-all_installed t (remade_all i rs) rises (groups_distinct i gs never distinct) (all_shaped i rs (all_pass gs))
          ∙ ap (λ (ns : List ℕ). outdate_all ns t.logged) (members_all i rs)
