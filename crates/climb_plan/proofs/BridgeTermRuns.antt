-- The runs that the code gives the parents of a level are those of the plan.
use Rattle.std.specs.Prelude.{◌≡◌, ℕ, suc, ◌+◌, ◌<◌, ◌≤◌, List, [], ◌∷◌, ◌++◌, map, flat_map, take, drop, length, Option}
use Rattle.std.proofs.Common.{refl, sym, ap, ◌∙◌, subst, arith, length-append, Less}
use Rattle.std.specs.List.{AllByRecursion}
use Rattle.std.specs.List.Sorted.{IsStrictlySortedBy}
use Rattle.std.specs.Map.{keys_of}
use Rattle.std.proofs.lemmas.List.{length-map, map-append}
use Rattle.keys.specs.Lists.{flat}
use Rattle.keys.specs.Order.{order, IsRising}
use Rattle.keys.specs.declared.settings.Settings.{Settings}
use Rattle.index_page.specs.Page.{Page, PageOfKind}
use Rattle.mapping.specs.Levels.{Placed, entries, joined, name, names, pids}
use Rattle.mapping.specs.Proper.{next_low, Tiled}
use Rattle.mapping.proofs.TileLemmas.{Separators, names-append, rising-names}
use Rattle.page_runs.specs.Updated.{Updated, is_thin}
use Rattle.split_plan.specs.Change.{Change, remade, changes, new_of, fresh_of}
use Rattle.split_plan.proofs.ChangeLemmas.{placed_of-append, tiled-groups}
use Rattle.split_plan.specs.Groups.{groups}
use Rattle.split_plan.proofs.GroupLemmas.{groups-joined}
use Rattle.split_plan.specs.Terms.{freed_of, terms}
use Rattle.split_plan.proofs.TermLemmas.{names_apart, tiled_family_apart}
use Rattle.split_plan.specs.UpdatedLevel.{placed_of}
use Rattle.climb_plan.specs.Changing.{SeenPage, page_seen, Changing, groups_to_rewrite, with_changing, changing_families, changing_groups, changing_changes}
use Rattle.climb_plan.specs.Level.{IsKind, remade_of, parent_pids, group_counts}
use Rattle.climb_plan.specs.Rewriting.{Remade, freed_names, named_pages, fresh_names, terms_of, CanTakeTerms, terms_by_parent}
use Rattle.climb_plan.proofs.BridgeSeen.{shown_groups, names-page_seen}
use Rattle.climb_plan.proofs.ChangingGroups.{flat-changing_changes, alike_rewritten}
use Rattle.climb_plan.proofs.ParentRuns.{runs_by_parent}

-- ---- parts of lists

-- a list without some of its elements
data IsPart {X : Type 0} : List X → List X → Type 0 where
  none : IsPart [] []
  kept : {xs ys : List X} → (x : X) → IsPart xs ys → IsPart (x ∷ xs) (x ∷ ys)
  left_out : {xs ys : List X} → (y : X) → IsPart xs ys → IsPart xs (y ∷ ys)

module _ {X : Type 0} where
  whole_part : (xs : List X) → IsPart xs xs
  whole_part [] = IsPart.none
  whole_part (x ∷ xs) = IsPart.kept x (whole_part xs)

  without_first : (xs : List X) → IsPart (drop 1 xs) xs
  without_first [] = IsPart.none
  without_first (x ∷ xs) = IsPart.left_out x (whole_part xs)

  part_append : {xs ys us vs : List X} → IsPart xs ys → IsPart us vs → IsPart (xs ++ us) (ys ++ vs)
  part_append (IsPart.none) q = q
  part_append (IsPart.kept x p) q = IsPart.kept x (part_append p q)
  part_append (IsPart.left_out y p) q = IsPart.left_out y (part_append p q)

  part_map : {Y : Type 0} {xs ys : List X} (f : X → Y) → IsPart xs ys → IsPart (map f xs) (map f ys)
  part_map f (IsPart.none) = IsPart.none
  part_map f (IsPart.kept x p) = IsPart.kept (f x) (part_map f p)
  part_map f (IsPart.left_out y p) = IsPart.left_out (f y) (part_map f p)

all_part : (P : List ℕ → Type 0) {xs ys : Separators} → IsPart xs ys → AllByRecursion P (keys_of ys) → AllByRecursion P (keys_of xs)
all_part P (IsPart.none) h = h
all_part P (IsPart.kept x p) h = (h.0, all_part P p h.1)
all_part P (IsPart.left_out y p) h = all_part P p h.1

-- a part of rising separators rises
rising_part : {xs ys : Separators} → IsPart xs ys → IsRising ys → IsRising xs
unfolding IsStrictlySortedBy
rising_part (IsPart.none) h = h
rising_part (IsPart.kept x p) h = (all_part (λ k. order x.0 k ≡ Less) p h.0, rising_part p h.1)
rising_part (IsPart.left_out y p) h = rising_part p h.1

-- ---- the separators of a family that changes rise

module _ {V : Type 0} where
  freed_part : (s : Settings) (used : List ℕ) (i : ℕ) (gs : List (List (Updated V))) → IsPart (freed_of (changes s used i gs)) (placed_of (flat gs))
  freed_part s used i [] = IsPart.none
  freed_part s used i (g ∷ gs) =
      let later : List (Placed V) = freed_of (changes s used (i + length (drop 1 (remade s used i g))) gs) in
      subst (λ (ps : List (Placed V)). IsPart (drop 1 (placed_of g) ++ later) ps) (sym (placed_of-append g (flat gs))) (part_append (without_first (placed_of g)) (freed_part s used (i + length (drop 1 (remade s used i g))) gs))

  fresh_part : (cs : List (Change V)) → IsPart (fresh_of cs) (new_of cs)
  fresh_part [] = IsPart.none
  fresh_part (c ∷ cs) = part_append (without_first c.pages) (fresh_part cs)

  -- the separators of freed pages, and those of new pages, rise
  pub record HasRisingNames (s : Settings) (used : List ℕ) (c : Changing V) : Type 0 where
    pub freed : (i : ℕ) → IsRising (names (freed_of (changes s used i c.groups)))
    pub fresh : (i : ℕ) → IsRising (names (fresh_of (changes s used i c.groups)))

  family_rises : (s : Settings) (used : List ℕ) (p : Placed ℕ) (f : List (Updated V)) (end : Option (List ℕ)) → 0 < s.fan → Tiled (placed_of f) end → (let c : Changing V = record { parent = p; groups = groups_to_rewrite f } in HasRisingNames s used c)
  family_rises s used p f end z h =
      let gs : List (List (Updated V)) = groups is_thin f in
      let whole : Tiled (placed_of (flat gs)) end = subst (λ (ws : List (Updated V)). Tiled (placed_of ws) end) (sym (groups-joined is_thin f)) h in
      record {
        freed = λ i. subst (λ (ps : List (Placed V)). IsRising (names ps)) (alike_rewritten s used i gs).freed (rising_part (part_map name (freed_part s used i gs)) (rising-names (placed_of (flat gs)) end whole));
        fresh = λ i. subst (λ (ps : List (Placed V)). IsRising (names ps)) (alike_rewritten s used i gs).fresh (rising_part (part_map name (fresh_part (changes s used i gs))) (rising-names (new_of (changes s used i gs)) end (tiled-groups s used i f end z h)));
      }

  rises_by : (gs : List (List (Updated V))) (s : Settings) (used : List ℕ) (p : Placed ℕ) (chs : List (Changing V)) → (let c : Changing V = record { parent = p; groups = gs } in HasRisingNames s used c) → AllByRecursion (HasRisingNames s used) chs
      → (let c : Changing V = record { parent = p; groups = gs } in AllByRecursion (HasRisingNames s used) (with_changing gs c chs))
  rises_by [] s used p chs h k = k
  rises_by (g ∷ gs) s used p chs h k = (h, k)

  pub changing_rises : (s : Settings) (used : List ℕ) (ps : List (Placed ℕ)) (ws : List (Updated V)) (end : Option (List ℕ)) → 0 < s.fan → Tiled (placed_of ws) end → joined ps ≡ names (placed_of ws) → AllByRecursion (HasRisingNames s used) (changing_families ps ws)
  changing_rises s used [] ws end z h l = tt
  changing_rises s used (p ∷ ps) ws end z h l =
      let n : ℕ = length (entries p) in
      let f : List (Updated V) = take n ws in
      let more : List (Updated V) = drop n ws in
      let r = names_apart (entries p) (joined ps) ws l in
      let a = tiled_family_apart n ws end h in
      rises_by (groups_to_rewrite f) s used p (changing_families ps more) (family_rises s used p f (next_low (placed_of more) end) z a.0) (changing_rises s used ps more end z a.1 r.1)

-- ---- the first n

module _ {X : Type 0} where
  first_taken : (n : ℕ) (xs ys : List X) → n ≡ length xs → take n (xs ++ ys) ≡ xs
  first_taken n xs ys e = ap (λ (m : ℕ). take m (xs ++ ys)) e ∙ taken xs ys
    where
      taken : {Y : Type 0} (us vs : List Y) → take (length us) (us ++ vs) ≡ us
      taken [] vs = refl
      taken (u ∷ us) vs = ap (λ ts. u ∷ ts) (taken us vs)

  first_dropped : (n : ℕ) (xs ys : List X) → n ≡ length xs → drop n (xs ++ ys) ≡ ys
  first_dropped n xs ys e = ap (λ (m : ℕ). drop m (xs ++ ys)) e ∙ dropped xs ys
    where
      dropped : {Y : Type 0} (us vs : List Y) → drop (length us) (us ++ vs) ≡ vs
      dropped [] vs = refl
      dropped (u ∷ us) vs = dropped us vs

termed_step : (pid n : ℕ) (cs : List (ℕ × ℕ)) (fs more : List Separators) (rs later : List Remade) → n ≡ length fs → n ≡ length rs → (let all : List (ℕ × ℕ) = (pid, n) ∷ cs in terms_by_parent all (fs ++ more) (rs ++ later) ≡ (pid, terms_of fs rs) ∷ terms_by_parent cs more later)
termed_step pid n cs fs more rs later e f =
    rw (first_taken n fs more e, first_dropped n fs more e, first_taken n rs later f, first_dropped n rs later f) refl

can_step : (pid n : ℕ) (cs : List (ℕ × ℕ)) (fs more : List Separators) (rs later : List Remade) → n ≡ length fs → n ≡ length rs → IsRising (flat fs) → IsRising (flat_map fresh_names rs) → CanTakeTerms cs more later
    → (let all : List (ℕ × ℕ) = (pid, n) ∷ cs in CanTakeTerms all (fs ++ more) (rs ++ later))
can_step pid n cs fs more rs later e f a b c =
    let x : n ≤ length (fs ++ more) = omega (arith, length-append fs more) in
    let y : n ≤ length (rs ++ later) = omega (arith, length-append rs later) in
    rw (first_taken n fs more e, first_dropped n fs more e, first_taken n rs later f, first_dropped n rs later f) (x, y, a, b, c)

-- ---- the runs of the parents

module _ {V : Type 0} where
  length-changes : (s : Settings) (used : List ℕ) (i : ℕ) (gs : List (List (Updated V))) → length (changes s used i gs) ≡ length gs
  length-changes s used i [] = refl
  length-changes s used i (g ∷ gs) = ap (λ (n : ℕ). suc n) (length-changes s used (i + length (drop 1 (remade s used i g))) gs)

  -- the new pages of the first parent's groups, and those of the others
  changes_apart : (s : Settings) (used : List ℕ) (i : ℕ) (c : Changing V) (chs : List (Changing V))
      → changes s used i (c.groups ++ changing_groups chs) ≡ changes s used i c.groups ++ changes s used (i + length (fresh_of (changes s used i c.groups))) (changing_groups chs)
  changes_apart s used i c chs =
      let cs : List (Change V) = changes s used i c.groups in
      sym (flat-changing_changes s used i (c ∷ chs)) ∙ ap (λ (ds : List (Change V)). cs ++ ds) (flat-changing_changes s used (i + length (fresh_of cs)) chs)

module _ {V : Type 0} (of : Page V → PageOfKind) where
  -- the freed entries of groups, and the entries of their new pages
  abbrev pub freed_in : List (List (Updated V)) → List Separators
  freed_in gs = map freed_names (shown_groups of gs)

  abbrev pub made_in : List (Change V) → List Remade
  made_in cs = map (remade_of of) cs

  freed_in-append : (gs hs : List (List (Updated V))) → freed_in (gs ++ hs) ≡ freed_in gs ++ freed_in hs
  freed_in-append gs hs =
      ap (λ (xs : List (List SeenPage)). map freed_names xs) (map-append (λ (g : List (Updated V)). map (page_seen of) g) gs hs) ∙ map-append freed_names (shown_groups of gs) (shown_groups of hs)

  length-freed_in : (gs : List (List (Updated V))) → length gs ≡ length (freed_in gs)
  length-freed_in [] = refl
  length-freed_in (g ∷ gs) = ap (λ (n : ℕ). suc n) (length-freed_in gs)

  length-made_in : (s : Settings) (used : List ℕ) (i : ℕ) (gs : List (List (Updated V))) → length gs ≡ length (made_in (changes s used i gs))
  length-made_in s used i gs = sym (length-changes s used i gs) ∙ sym (length-map (changes s used i gs) (remade_of of))

  module _ (kind : IsKind of) where
    freed_here : (g : List (Updated V)) → freed_names (map (page_seen of) g) ≡ names (drop 1 (placed_of g))
    freed_here [] = refl
    freed_here (w ∷ ws) = names-page_seen of kind ws

    names_freed : (s : Settings) (used : List ℕ) (i : ℕ) (gs : List (List (Updated V))) → flat (freed_in gs) ≡ names (freed_of (changes s used i gs))
    names_freed s used i [] = refl
    names_freed s used i (g ∷ gs) =
        let j : ℕ = i + length (drop 1 (remade s used i g)) in
        ap (λ (ns : Separators). ns ++ flat (freed_in gs)) (freed_here g)
        ∙ ap (λ (ns : Separators). names (drop 1 (placed_of g)) ++ ns) (names_freed s used j gs)
        ∙ sym (names-append (drop 1 (placed_of g)) (freed_of (changes s used j gs)))

    named_here : (qs : List (Placed V)) → named_pages (map (λ q. of q.page) qs) (pids qs) ≡ names qs
    named_here [] = refl
    named_here (q ∷ qs) =
        let first : List ℕ → List ℕ × ℕ = λ k. (k, q.pid) in
        ap (λ (k : List ℕ). first k ∷ named_pages (map (λ p. of p.page) qs) (pids qs)) (kind.low q.page) ∙ ap (λ (ns : Separators). name q ∷ ns) (named_here qs)

    fresh_here : (qs : List (Placed V)) → named_pages (drop 1 (map (λ q. of q.page) qs)) (pids (drop 1 qs)) ≡ names (drop 1 qs)
    fresh_here [] = refl
    fresh_here (q ∷ qs) = named_here qs

    names_fresh : (cs : List (Change V)) → flat_map fresh_names (made_in cs) ≡ names (fresh_of cs)
    names_fresh [] = refl
    names_fresh (c ∷ cs) =
        ap (λ (ns : Separators). ns ++ flat_map fresh_names (made_in cs)) (fresh_here c.pages)
        ∙ ap (λ (ns : Separators). names (drop 1 c.pages) ++ ns) (names_fresh cs)
        ∙ sym (names-append (drop 1 c.pages) (fresh_of cs))

    -- the terms of one parent
    pub terms-page_seen : (s : Settings) (used : List ℕ) (i : ℕ) (gs : List (List (Updated V))) → terms_of (freed_in gs) (made_in (changes s used i gs)) ≡ terms (changes s used i gs)
    terms-page_seen s used i gs =
        let a = names_freed s used i gs in
        let b = names_fresh (changes s used i gs) in
        rw (a, b) refl

    -- the runs of all parents
    pub termed-page_seen : (s : Settings) (used : List ℕ) (i : ℕ) (chs : List (Changing V))
        → terms_by_parent (group_counts chs) (freed_in (changing_groups chs)) (made_in (changes s used i (changing_groups chs))) ≡ runs_by_parent (parent_pids chs) (map terms (changing_changes s used i chs))
    termed-page_seen s used i [] = refl
    termed-page_seen s used i (c ∷ chs) =
        let gs : List (List (Updated V)) = c.groups in
        let cs : List (Change V) = changes s used i gs in
        let j : ℕ = i + length (fresh_of cs) in
        let more : List (List (Updated V)) = changing_groups chs in
        let later : List (Change V) = changes s used j more in
        let counts : List (ℕ × ℕ) = group_counts (c ∷ chs) in
        let pair : List (List ℕ × Option ℕ) → ℕ × List (List ℕ × Option ℕ) = λ run. (c.parent.pid, run) in
        ap (λ (ds : List (Change V)). terms_by_parent counts (freed_in (gs ++ more)) (made_in ds)) (changes_apart s used i c chs)
        ∙ ap (λ (rs : List Remade). terms_by_parent counts (freed_in (gs ++ more)) rs) (map-append (remade_of of) cs later)
        ∙ ap (λ (fs : List Separators). terms_by_parent counts fs (made_in cs ++ made_in later)) (freed_in-append gs more)
        ∙ termed_step c.parent.pid (length gs) (group_counts chs) (freed_in gs) (freed_in more) (made_in cs) (made_in later) (length-freed_in gs) (length-made_in s used i gs)
        ∙ ap (λ (run : List (List ℕ × Option ℕ)). pair run ∷ terms_by_parent (group_counts chs) (freed_in more) (made_in later)) (terms-page_seen s used i gs)
        ∙ ap (λ (rest : List (ℕ × List (List ℕ × Option ℕ))). pair (terms cs) ∷ rest) (termed-page_seen s used j chs)

    termed_each : (s : Settings) (used : List ℕ) (i : ℕ) (chs : List (Changing V)) → AllByRecursion (HasRisingNames s used) chs → CanTakeTerms (group_counts chs) (freed_in (changing_groups chs)) (made_in (changes s used i (changing_groups chs)))
    termed_each s used i [] h = tt
    termed_each s used i (c ∷ chs) h =
        let gs : List (List (Updated V)) = c.groups in
        let cs : List (Change V) = changes s used i gs in
        let j : ℕ = i + length (fresh_of cs) in
        let more : List (List (Updated V)) = changing_groups chs in
        let later : List (Change V) = changes s used j more in
        let counts : List (ℕ × ℕ) = group_counts (c ∷ chs) in
        let freed : IsRising (flat (freed_in gs)) = subst (λ (ns : Separators). IsRising ns) (sym (names_freed s used i gs)) (h.0.freed i) in
        let fresh : IsRising (flat_map fresh_names (made_in cs)) = subst (λ (ns : Separators). IsRising ns) (sym (names_fresh cs)) (h.0.fresh i) in
        let one : CanTakeTerms counts (freed_in gs ++ freed_in more) (made_in cs ++ made_in later) =
        can_step c.parent.pid (length gs) (group_counts chs) (freed_in gs) (freed_in more) (made_in cs) (made_in later) (length-freed_in gs) (length-made_in s used i gs) freed fresh (termed_each s used j chs h.1) in
        let made : made_in (changes s used i (gs ++ more)) ≡ made_in cs ++ made_in later = ap (λ (ds : List (Change V)). made_in ds) (changes_apart s used i c chs) ∙ map-append (remade_of of) cs later in
        subst (λ (fs : List Separators). CanTakeTerms counts fs (made_in (changes s used i (gs ++ more)))) (sym (freed_in-append gs more)) (subst (λ (rs : List Remade). CanTakeTerms counts (freed_in gs ++ freed_in more) rs) (sym made) one)

    -- the parents of a level can get their runs
    pub can_be_termed : (s : Settings) (used : List ℕ) (i : ℕ) (ps : List (Placed ℕ)) (ws : List (Updated V)) (end : Option (List ℕ)) → 0 < s.fan → Tiled (placed_of ws) end → joined ps ≡ names (placed_of ws)
        → CanTakeTerms (group_counts (changing_families ps ws)) (freed_in (changing_groups (changing_families ps ws))) (made_in (changes s used i (changing_groups (changing_families ps ws))))
    can_be_termed s used i ps ws end z h l = termed_each s used i (changing_families ps ws) (changing_rises s used ps ws end z h l)
