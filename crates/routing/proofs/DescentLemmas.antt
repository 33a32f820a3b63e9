-- Lemmas on distributing shares down the levels of a tree, for the proofs of this crate.
use Rattle.std.specs.Prelude.{◌≡◌, ℕ, zero, suc, pred, ◌+◌, ◌-◌, ◌<◌, Bool, true, false, not, ◌&&◌, ◌||◌, List, [], ◌∷◌, ◌++◌, map, flat_map, length, drop, slice_get, Option, Some, None}
use Rattle.std.proofs.Common.{refl, sym, ap, ◌∙◌, subst, arith, append_assoc, get_or, inl, inr}
use Rattle.std.specs.List.{AllByRecursion, filter}
use Rattle.std.specs.Map.{keys_of, values_of}
use Rattle.std.proofs.Math.Seq.{drop-cons}
use Rattle.std.proofs.lemmas.Bool.{cases_lt, and_parts}
use Rattle.std.proofs.lemmas.List.Elements.{All-from_recursion}
use Rattle.std.proofs.lemmas.List.Kept.{IsStrictlySortedBy-filter}
use Rattle.keys.specs.Footprint.{Span, One, Range, span_of, first_of}
use Rattle.keys.specs.Places.{is_some_that}
use Rattle.keys.specs.declared.command.Command.{Command}
use Rattle.index_page.specs.Page.{PageOfKind}
use Rattle.index_page.specs.Page.PageOfKind.{Index}
use Rattle.index_page.specs.Range.{is_below, is_before, is_within, AreFrom, AreBefore, IsBefore}
use Rattle.index_page.specs.Rules.{IsHeaded}
use Rattle.index_page.specs.Children.{children}
use Rattle.index_page.proofs.ListLemmas.{all_weaker}
use Rattle.index_page.proofs.PageLemmas.{all_keys_entries}
use Rattle.index_page.proofs.RangeLemmas.{below_is_less, less_is_below, less_through, low_through}
use Rattle.index_page.proofs.ChildLemmas.{within_parts}
use Rattle.mapping.specs.FreshPids.{is_among}
use Rattle.keys.proofs.MapLemmas.{total}
use Rattle.mapping.specs.Tree.{Tree, page_at}
use Rattle.mapping.specs.Levels as levels
use Rattle.mapping.specs.Levels.{Placed, Levels, joined, name, names, as_index, leaf_at, index_at, levels_below, levels_of, first_pid, top_pid}
use Rattle.mapping.specs.Proper.{next_low, IsTile, Tiled, Stacked, AreLevels, HasIndexPages, HoldsLevels}
use Rattle.mapping.proofs.DescentWay.{count_above}
use Rattle.mapping.proofs.SameTree.{root_on_top}
use Rattle.mapping.proofs.TileLemmas.{Separators, next_low-parents}
use Rattle.mapping.proofs.LevelLemmas.{values_of-names, index_pages_found}
use Rattle.routing.specs.BatchKeys.{key_or_empty, key_at}
use Rattle.routing.specs.SortedPlaces.{order_of_places, AreInKeyOrder, reaches_page, reaches, reaches_at}
use Rattle.routing.specs.Keyed.{AreKeyed}
use Rattle.routing.specs.Shares.{Share, all_of, Lent, share_of_lent, lent_shares, is_in_range, shares, shares_below, without_idle, CanHandDownShare, index_under, IsReadyShare, AreReadyShares, share_below}
use Rattle.routing.proofs.RouteLemmas.{among-append}
use Rattle.routing.proofs.IdleLemmas.{same_idle}
use Rattle.routing.proofs.SortLemmas.{total_places, same_place, same_sorted}
use Rattle.routing.proofs.SliceLemmas.{reaching_below, among-filter, in_order-append, none_pass}
use Rattle.routing.proofs.ShareLemmas.{share_taken, filter_twice, all_passed, same_share}

-- ---- a range within another

-- the last child's range: be and bl say that a key is below the child's and below the page's low key, b that it is before the page's end, r that
-- its command reaches the page
narrowed_last : (be bl b r : Bool) → (not be ≡ true → not bl ≡ true) → (r ≡ true → be ≡ true) → (not be && b) ≡ ((r || (not bl && b)) && (not be && true))
narrowed_last true bl b r f g = sym (none_pass (r || (not bl && b)))
narrowed_last false true b r f g = absurd (let h = f refl in cc)
narrowed_last false false b true f g = absurd (let h = g refl in cc)
narrowed_last false false true false f g = refl
narrowed_last false false false false f g = refl

-- another child's range: h says that the key is before the next child's low key
narrowed : (be bl h b r : Bool) → (not be ≡ true → not bl ≡ true) → (h ≡ true → b ≡ true) → (r ≡ true → be ≡ true) → (not be && h) ≡ ((r || (not bl && b)) && (not be && h))
narrowed true bl h b r f k g = sym (none_pass (r || (not bl && b)))
narrowed false true h b r f k g = absurd (let t = f refl in cc)
narrowed false false h b true f k g = absurd (let t = g refl in cc)
narrowed false false true true false f k g = refl
narrowed false false true false false f k g = absurd (let t = k refl in cc)
narrowed false false false true false f k g = refl
narrowed false false false false false f k g = refl

only_of : (a b : Bool) → (a ≡ true → b ≡ true) → a ≡ (b && a)
only_of true true f = refl
only_of true false f = sym (f refl)
only_of false true f = refl
only_of false false f = refl

from_by : (b : Bool) (k low e : List ℕ) → is_below k low ≡ b → is_below e low ≡ false → not (is_below k e) ≡ true → not b ≡ true
from_by false k low e b h n = refl
from_by true k low e b h n =
    absurd (let l = less_is_below k e (less_through k e low b h) in let m : not (is_below k e) ≡ false = rw l refl in cc)

-- a key from e on is from a lower key on
from_low : (k low e : List ℕ) → is_below e low ≡ false → not (is_below k e) ≡ true → not (is_below k low) ≡ true
from_low k low e h n = from_by (is_below k low) k low e refl h n

-- a key below f is before an end that f is before
before_high : (end : Option (List ℕ)) (k f : List ℕ) → IsBefore end f → is_below k f ≡ true → is_before end k ≡ true
before_high None k f h b = refl
before_high (Some hi) k f h b = less_is_below k hi (total.trans k f hi (below_is_less k f b) h)

pub second_before : (end : Option (List ℕ)) (e f : List ℕ × ℕ) (es : Separators) → AreBefore end (keys_of (e ∷ f ∷ es)) → IsBefore end f.0 × AreBefore end (keys_of (f ∷ es))
second_before None e f es a = (tt, tt)
second_before (Some hi) e f es a = (below_is_less f.0 hi a.1.0, a.1)

below_by : (b : Bool) (k low e : List ℕ) → is_below k e ≡ b → is_below k low ≡ true → is_below e low ≡ false → b ≡ true
below_by true k low e c h n = refl
below_by false k low e c h n = absurd (let l = less_is_below k e (less_through k e low h n) in cc)

-- a key below a low key is below each one from it on
below_child : (k low e : List ℕ) → is_below k low ≡ true → is_below e low ≡ false → is_below k e ≡ true
below_child k low e h n = below_by (is_below k e) k low e refl h n

before_low : (hi : Option (List ℕ)) (low e : List ℕ) → is_below e low ≡ false → is_before hi e ≡ true → is_before hi low ≡ true
before_low None low e n h = refl
before_low (Some hi) low e n h = less_is_below low hi (low_through low e hi n (below_is_less e hi h))

pub entry_before : (end : Option (List ℕ)) (e : List ℕ × ℕ) (es : Separators) → AreBefore end (keys_of (e ∷ es)) → IsBefore end e.0
entry_before None e es a = tt
entry_before (Some hi) e es a = below_is_less e.0 hi a.0

module _ {A : Type 0} (cs : List (Command A)) (low : List ℕ) (end : Option (List ℕ)) where
  -- whether the command at this place reaches the page, or begins in it
  abbrev pub gets : ℕ → Bool
  gets q = reaches_at cs low q || is_in_range cs low end q

  scan_by : (b : Bool) (e lo : List ℕ) (hi : Option (List ℕ)) → is_below lo low ≡ b → is_below e low ≡ false → IsBefore end e → is_below lo e ≡ true → is_before hi e ≡ true
      → ((is_below lo low && is_before hi low) || is_within low end lo) ≡ true
  scan_by true e lo hi c n m b h = rw (c, before_low hi low e n h) refl
  scan_by false e lo hi c n m b h = rw (c, before_high end lo e m b) refl

  span_reaches_child : (e : List ℕ) (s : Span) → is_below e low ≡ false → IsBefore end e → reaches_page e s ≡ true → (reaches_page low s || is_within low end (first_of s)) ≡ true
  span_reaches_child e (One k) n m h = absurd (cc)
  span_reaches_child e (Range lo hi) n m h = let p = and_parts (is_below lo e) (is_before hi e) h in scan_by (is_below lo low) e lo hi refl n m p.0 p.1

  pub reaches_child : (e : List ℕ) (o : Option (Command A)) → is_below e low ≡ false → IsBefore end e → is_some_that (reaches e) o ≡ true → (is_some_that (reaches low) o || is_within low end (key_or_empty o)) ≡ true
  reaches_child e None n m h = absurd (cc)
  reaches_child e (Some c) n m h = span_reaches_child e (span_of c) n m h

  -- what reaches a child reaches its page or begins in it
  pub reaching_narrowed : (e : List ℕ × ℕ) (es : Separators) (ps : List ℕ) → AreFrom low (keys_of (e ∷ es)) → AreBefore end (keys_of (e ∷ es)) → filter (reaches_at cs e.0) ps ≡ filter (reaches_at cs e.0) (filter gets ps)
  reaching_narrowed e es ps a b =
      filter_twice (reaches_at cs e.0) gets (reaches_at cs e.0)
      (λ q. only_of (reaches_at cs e.0 q) (gets q) (reaches_child e.0 (slice_get cs q) a.0 (entry_before end e es b))) ps

  pub child_above : (e : List ℕ) (q : ℕ) → is_below e low ≡ false → reaches_at cs low q ≡ true → is_below (key_at cs q) e ≡ true
  child_above e q n h = below_child (key_at cs q) low e (reaching_below cs low q h) n

  -- what begins in a child begins in its page
  pub last_narrowed : (e : List ℕ × ℕ) (ps : List ℕ) → AreFrom low (keys_of (e ∷ [])) → filter (is_in_range cs e.0 end) ps ≡ filter (is_in_range cs e.0 None) (filter gets ps)
  last_narrowed e ps a =
      filter_twice (is_in_range cs e.0 end) gets (is_in_range cs e.0 None)
      (λ q. narrowed_last (is_below (key_at cs q) e.0) (is_below (key_at cs q) low) (is_before end (key_at cs q)) (reaches_at cs low q) (from_low (key_at cs q) low e.0 a.0) (child_above e.0 q a.0)) ps

  pub own_narrowed : (e f : List ℕ × ℕ) (es : Separators) (ps : List ℕ) → AreFrom low (keys_of (e ∷ f ∷ es)) → IsBefore end f.0 → filter (is_in_range cs e.0 (Some f.0)) ps ≡ filter (is_in_range cs e.0 (Some f.0)) (filter gets ps)
  own_narrowed e f es ps a l =
      filter_twice (is_in_range cs e.0 (Some f.0)) gets (is_in_range cs e.0 (Some f.0))
      (λ q. narrowed (is_below (key_at cs q) e.0) (is_below (key_at cs q) low) (is_below (key_at cs q) f.0) (is_before end (key_at cs q)) (reaches_at cs low q) (from_low (key_at cs q) low e.0 a.0) (before_high end (key_at cs q) f.0 l) (child_above e.0 q a.0)) ps

  both_by : (a r i : Bool) → (a && (r || i)) ≡ ((a && r) || (a && i))
  both_by true r i = refl
  both_by false r i = refl

  -- of places in the order of their keys, what a page gets are those that reach it, and then those that begin in it
  pub gets_parted : (ps : List ℕ) → AreInKeyOrder cs ps → filter gets ps ≡ filter (reaches_at cs low) ps ++ filter (is_in_range cs low end) ps
  gets_parted ps o =
      let rs = filter (reaches_at cs low) ps in
      let qs = filter (is_in_range cs low end) ps in
      let sorted = λ (f : ℕ → Bool). IsStrictlySortedBy-filter (order_of_places cs) f ps o in
      same_sorted (order_of_places cs) (total_places cs) (same_place cs) (filter gets ps) (rs ++ qs)
      (λ n.
      among-filter gets n ps ∙ both_by (is_among n ps) (reaches_at cs low n) (is_in_range cs low end n)
      ∙ sym (among-append n rs qs ∙ rw (among-filter (reaches_at cs low) n ps, among-filter (is_in_range cs low end) n ps) refl))
      (sorted gets)
      (in_order-append cs low rs qs
      (all_weaker (λ q. reaches_at cs low q ≡ true) (λ q. is_below (key_at cs q) low ≡ true) (reaching_below cs low) rs (all_passed (reaches_at cs low) ps))
      (all_weaker (λ q. is_in_range cs low end q ≡ true) (λ q. is_below (key_at cs q) low ≡ false) (λ q h. (within_parts low end (key_at cs q) h).0) qs (all_passed (is_in_range cs low end) ps))
      (sorted (reaches_at cs low)) (sorted (is_in_range cs low end)))

module _ {A : Type 0} (cs : List (Command A)) (low : List ℕ) where
  abbrev got : ℕ → Bool
  got = gets cs low None

  -- the children of a page without an end get the same of all places as of the page's own
  pub shares-narrowed : (es : Separators) (ps : List ℕ) → AreFrom low (keys_of es) → shares cs ps (children es None) ≡ shares cs (filter got ps) (children es None)
  shares-narrowed [] ps a = refl
  shares-narrowed (e ∷ []) ps a =
      let qs = filter got ps in
      let own = last_narrowed cs low None e ps a in
      same_share e.1 (filter (is_in_range cs e.0 None) ps) (filter (is_in_range cs e.0 None) qs)
      (without_idle cs None (filter (is_in_range cs e.0 None) ps) (filter (reaches_at cs e.0) ps)) (without_idle cs None (filter (is_in_range cs e.0 None) qs) (filter (reaches_at cs e.0) qs)) [] []
      own (same_idle cs None (filter (is_in_range cs e.0 None) ps) (filter (is_in_range cs e.0 None) qs) (filter (reaches_at cs e.0) ps) (filter (reaches_at cs e.0) qs) own (reaching_narrowed cs low None e [] ps a tt)) refl
  shares-narrowed (e ∷ f ∷ es) ps a =
      let qs = filter got ps in
      let own = own_narrowed cs low None e f es ps a tt in
      same_share e.1 (filter (is_in_range cs e.0 (Some f.0)) ps) (filter (is_in_range cs e.0 (Some f.0)) qs)
      (without_idle cs (Some f.0) (filter (is_in_range cs e.0 (Some f.0)) ps) (filter (reaches_at cs e.0) ps)) (without_idle cs (Some f.0) (filter (is_in_range cs e.0 (Some f.0)) qs) (filter (reaches_at cs e.0) qs)) (shares cs ps (children (f ∷ es) None)) (shares cs qs (children (f ∷ es) None))
      own (same_idle cs (Some f.0) (filter (is_in_range cs e.0 (Some f.0)) ps) (filter (is_in_range cs e.0 (Some f.0)) qs) (filter (reaches_at cs e.0) ps) (filter (reaches_at cs e.0) qs) own (reaching_narrowed cs low None e (f ∷ es) ps a tt))
      (shares-narrowed (f ∷ es) ps a.1)

-- ---- a level of index pages

-- the level's pages are the table's, each has a child, the first at its own low key, and they tile the keys up to the end
pub record IsIndexLevel (pages : List (ℕ × PageOfKind)) (end : Option (List ℕ)) (up : List (Placed ℕ)) : Type 0 where
  pub held : HasIndexPages pages up
  pub headed : AllByRecursion (λ p. IsHeaded 1 p.page) up
  pub tiled : Tiled up end

module _ {A : Type 0} (cs : List (Command A)) (pages : List (ℕ × PageOfKind)) where
  pub found_under : (p : Placed ℕ) → page_at pages p.pid ≡ Some (Index p.page) → index_under pages p.pid ≡ Index p.page
  found_under p h = ap (λ (o : Option PageOfKind). Index (as_index o)) h

  -- a share that is ready, of a page that is found
  ready_now : (s : Share) (page : PageOfKind) → IsReadyShare pages cs s → Some page ≡ page_at pages s.pid → (page ≡ index_under pages s.pid) × CanHandDownShare cs page s
  ready_now s page h e =
      let both : Some page ≡ Some (index_under pages s.pid) = e ∙ h.held in
      let same : page ≡ index_under pages s.pid = cc in
      (same, subst (λ (p : PageOfKind). CanHandDownShare cs p s) (sym same) h.share)

  -- one more share is distributed, and the others remain to be distributed
  level_step : (old new rest : List Lent) (share : Lent) (page : PageOfKind) (whole : List Share) → page ≡ index_under pages share.pid → lent_shares new ≡ lent_shares old ++ shares_below cs page (all_of (share_of_lent share))
      → lent_shares old ++ flat_map (share_below pages cs) (lent_shares (share ∷ rest)) ≡ whole → lent_shares new ++ flat_map (share_below pages cs) (lent_shares rest) ≡ whole
  level_step old new rest share page whole e i h =
      let later : List Share = flat_map (share_below pages cs) (lent_shares rest) in
      ap (λ (x : List Share). x ++ later) i
      ∙ append_assoc (lent_shares old) (shares_below cs page (all_of (share_of_lent share))) later
      ∙ ap (λ (p : PageOfKind). lent_shares old ++ (shares_below cs p (all_of (share_of_lent share)) ++ later)) e
      ∙ h

  share_at_drop : (all : List Lent) (i : ℕ) (d : Lent) → i < length all → drop i all ≡ get_or all i d ∷ drop (i + 1) all
  share_at_drop all i d l = let e : suc i ≡ i + 1 = omega arith in drop-cons all i d l ∙ ap (λ (j : ℕ). get_or all i d ∷ drop j all) e

  -- of shares that are ready, the one that was taken from a place can be distributed
  pub ready_share : (all : List Lent) (i : ℕ) (d l : Lent) (pid : ℕ) (page : PageOfKind) → i < length all → l ≡ get_or all i d → pid ≡ l.pid → AreReadyShares pages cs all → Some page ≡ page_at pages pid → CanHandDownShare cs page (share_of_lent l)
  ready_share all i d l pid page w t q h e = (ready_now (share_of_lent l) page (share_taken (IsReadyShare pages cs) all i d l w t h.each) (e ∙ ap (λ (n : ℕ). page_at pages n) q)).1

  pub ready_keys : (all : List Lent) (i : ℕ) (d l : Lent) → i < length all → l ≡ get_or all i d → AreReadyShares pages cs all → AreKeyed cs l.keyed
  ready_keys all i d l w t h = subst (λ (x : Lent). AreKeyed cs x.keyed) (sym t) (All-from_recursion (λ (share : Lent). AreKeyed cs share.keyed) all h.keys i d w)

  -- and its page isn't missing
  pub not_missing : (all : List Lent) (i : ℕ) (d l : Lent) (pid : ℕ) → i < length all → l ≡ get_or all i d → pid ≡ l.pid → AreReadyShares pages cs all → None ≡ page_at pages pid → ⊥
  not_missing all i d l pid w t q h e =
      let both : None ≡ Some (index_under pages l.pid) = e ∙ ap (λ (n : ℕ). page_at pages n) q ∙ (share_taken (IsReadyShare pages cs) all i d l w t h.each).held in
      cc

  pub share_step : (all old new : List Lent) (i : ℕ) (d l : Lent) (pid : ℕ) (page : PageOfKind) (whole : List Share) → i < length all → l ≡ get_or all i d → pid ≡ l.pid → AreReadyShares pages cs all
      → Some page ≡ page_at pages pid → lent_shares new ≡ lent_shares old ++ shares_below cs page (all_of (share_of_lent l))
      → lent_shares old ++ flat_map (share_below pages cs) (lent_shares (drop i all)) ≡ whole
      → lent_shares new ++ flat_map (share_below pages cs) (lent_shares (drop (i + 1) all)) ≡ whole
  share_step all old new i d l pid page whole w t q a e n h =
      let now = subst (λ (ss : List Lent). lent_shares old ++ flat_map (share_below pages cs) (lent_shares ss) ≡ whole) (share_at_drop all i d w ∙ ap (λ (x : Lent). x ∷ drop (i + 1) all) (sym t)) h in
      level_step old new (drop (i + 1) all) l page whole (ready_now (share_of_lent l) page (share_taken (IsReadyShare pages cs) all i d l w t a.each) (e ∙ ap (λ (m : ℕ). page_at pages m) q)).0 n now

  -- the entries of a page before an end
  pub entries_before : (end : Option (List ℕ)) (p : Placed ℕ) → IsTile end p → AreBefore end (keys_of (levels.entries p))
  entries_before None p t = tt
  entries_before (Some hi) p t = all_keys_entries (λ j. is_below j hi ≡ true) p.page t.keys.before

-- ---- the levels of a tree, from the root down

-- the separators of the pages a number of levels below the root
abbrev pub names_at : List (ℕ × PageOfKind) → ℕ → ℕ → Separators
names_at pages root zero = ([], root) ∷ []
names_at pages root (suc i) = joined (map (index_at pages) (values_of (names_at pages root i)))

module _ (pages : List (ℕ × PageOfKind)) where
  first_name : {V : Type 0} (ps : List (Placed V)) → length ps ≡ 1 → next_low ps None ≡ Some [] → ([], first_pid ps) ∷ [] ≡ names ps
  first_name [] n f = absurd (omega arith)
  first_name (p ∷ []) n f =
      let low : [] ≡ p.page.low = cc in
      let named : List ℕ → List ℕ × ℕ = λ k. (k, p.pid) in
      ap (λ (k : List ℕ). named k ∷ []) low
  first_name (p ∷ q ∷ ps) n f = absurd (omega arith)

  -- of levels under one root, the lowest is as far below the root as there are levels above it
  pub names-level : {V : Type 0} (level : List (Placed V)) (ups : List (List (Placed ℕ))) → AllByRecursion (HasIndexPages pages) ups → Stacked level ups → next_low level None ≡ Some [] → names_at pages (top_pid level ups) (length ups) ≡ names level
  names-level level [] h o f = first_name level o f
  names-level level (up ∷ ups) h o f =
      let above : next_low up None ≡ Some [] = sym (next_low-parents up level o.0.linked o.0.headed) ∙ f in
      ap (λ (ns : Separators). joined (map (index_at pages) (values_of ns))) (names-level up ups h.1 o.1 above)
      ∙ ap (λ (ns : List ℕ). joined (map (index_at pages) ns)) (values_of-names up)
      ∙ ap (λ (ps : List (Placed ℕ)). joined ps) (index_pages_found pages up h.0)
      ∙ o.0.linked

  -- the known facts about the level this far below the root: its pages have these separators, and are a level of index pages
  pub record IsLevelAt (root : ℕ) (i : ℕ) : Type 0 where
    pub level : List (Placed ℕ)
    pub named : names_at pages root i ≡ names level
    pub below : names_at pages root (suc i) ≡ joined level
    pub known : IsIndexLevel pages None level

  pub index_level : {V : Type 0} (level : List (Placed V)) (ups : List (List (Placed ℕ))) → AllByRecursion (HasIndexPages pages) ups → Stacked level ups → next_low level None ≡ Some [] → (i : ℕ) → i < length ups → IsLevelAt (top_pid level ups) i
  index_level level [] h o f i l = absurd (omega arith)
  index_level level (up ∷ ups) h o f i l =
      let above : next_low up None ≡ Some [] = sym (next_low-parents up level o.0.linked o.0.headed) ∙ f in
      let named : names_at pages (top_pid up ups) (length ups) ≡ names up = names-level up ups h.1 o.1 above in
      let own : IsLevelAt (top_pid up ups) (length ups) = record {
        level = up;
        named = named;
        below = names-level level (up ∷ ups) h o f ∙ sym o.0.linked;
        known = record { held = h.0; headed = o.0.headed; tiled = o.0.tiled };
      } in
      elim (cases_lt i (length ups)) [
        | inl b ↦ index_level up ups h.1 o.1 above i b
        | inr b ↦ (let same : length ups ≡ i = omega arith in subst (λ (j : ℕ). IsLevelAt (top_pid up ups) j) same own)
      ]

-- ---- of a tree whose levels are in order

module _ (t : Tree) (held : HoldsLevels t.pages (levels_of t)) (levels : AreLevels (levels_of t)) where
  root_is_top : top_pid (levels_of t).level (levels_of t).above ≡ t.root
  root_is_top = root_on_top t.pages (pred t.height) t.root

  above_height : length (levels_of t).above ≡ pred t.height
  above_height = let e = count_above t.pages (pred t.height) (t.root ∷ []) [] in e ∙ (let z : pred t.height + 0 ≡ pred t.height = omega arith in z)

  -- the separators of the leaves
  pub names-leaves : names_at t.pages t.root (pred t.height) ≡ names (levels_of t).level
  names-leaves =
      ap (λ (i : ℕ). names_at t.pages t.root i) (sym above_height)
      ∙ ap (λ (pid : ℕ). names_at t.pages pid (length (levels_of t).above)) (sym root_is_top)
      ∙ names-level t.pages (levels_of t).level (levels_of t).above held.above levels.stacked levels.first

  pub level_at : (i : ℕ) → i < pred t.height → IsLevelAt t.pages t.root i
  level_at i l =
      let b : i < length (levels_of t).above = rw above_height l in
      subst (λ (pid : ℕ). IsLevelAt t.pages pid i) root_is_top (index_level t.pages (levels_of t).level (levels_of t).above held.above levels.stacked levels.first i b)

-- ---- numbers

pub same_pred : (i n : ℕ) → i ≡ n - 1 → i ≡ pred n
same_pred i zero h = omega arith
same_pred i (suc n) h = omega arith
