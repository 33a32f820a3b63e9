-- Lemmas on the walk over an index page's children, from left to right, with scans that continue from child to child.
use Rattle.std.specs.Prelude.{◌≡◌, ℕ, zero, suc, ◌+◌, ◌<◌, ◌≤◌, Bool, true, false, ◌||◌, cond, List, [], ◌∷◌, ◌++◌, length, take, drop, Option, Some, None}
use Rattle.std.proofs.Common.{refl, sym, ap, ◌∙◌, subst, arith, append-nil, append_assoc, Less}
use Rattle.std.specs.List.{AllByRecursion, filter, slice_range}
use Rattle.std.specs.List.Sorted.{IsStrictlySortedBy}
use Rattle.std.proofs.lemmas.List.{take-append-drop, map-append, take-map, drop-map, drop-drop, take_all}
use Rattle.std.proofs.lemmas.List.Elements.{filter-append}
use Rattle.keys.specs.Order.{order, IsRising}
use Rattle.keys.proofs.MapLemmas.{total}
use Rattle.keys.specs.declared.command.Command.{Command}
use Rattle.index_page.specs.Page.{PageOfKind, first_key, low_of}
use Rattle.index_page.specs.Range.{is_below, is_before}
use Rattle.index_page.specs.Children.{Place, children, child_with_end, child_entries, HasChildFor}
use Rattle.index_page.proofs.ListLemmas.{all-append, all_apart, all_weaker}
use Rattle.index_page.proofs.RangeLemmas.{below_is_less, less_is_below, less_through, not_below_lower, not_below_itself, from_first}
use Rattle.index_page.proofs.ChildLemmas.{within, not_within_below, not_within_after}
use Rattle.mapping.proofs.TileLemmas.{Separators}
use Rattle.routing.specs.BatchKeys.{key_at}
use Rattle.routing.specs.Routes.{has_some}
use Rattle.routing.specs.SortedPlaces.{AreInKeyOrder, reaches_at}
use Rattle.routing.specs.Keyed.{Keyed, places_of, AreKeyed}
use Rattle.routing.specs.Shares.{Share, all_of, Lent, lent_shares, is_in_range, shares, shares_below, without_idle, next_key, CanHandDownKeyed, CanHandDownShare}
use Rattle.routing.proofs.RouteLemmas.{or_true}
use Rattle.routing.proofs.SliceLemmas.{IsBelowKey, IsFromKey, reaching_below}
use Rattle.routing.proofs.ShareLemmas.{filter_all, filter_none, all_passed, no_shares, no_share, some_share, lent_is, push_share, from_first as places_from_first, before_end, all_places_of, keyed_take, keyed_drop, AreCutAt, none_cut, rest_keyed, part_is}
use Rattle.routing.proofs.DescentLemmas.{gets, shares-narrowed}
use Rattle.routing.proofs.IdleLemmas.{without_idle-nothing, same_idle, some_stay}

-- ---- the children from a key on

-- the entries that aren't below a key, of entries whose keys rise
abbrev pub from_low : List ℕ → Separators → Separators
from_low low [] = []
from_low low (e ∷ es) = cond (is_below e.0 low) (from_low low es) (e ∷ es)

-- a key that is the key of an entry
pub record IsEntry (es : Separators) (low : List ℕ) : Type 0 where
  pub some : 0 < length (from_low low es)
  pub first : first_key (from_low low es) ≡ low

below_through : (a b c : List ℕ) → is_below a b ≡ true → order b c ≡ Less → is_below a c ≡ true
below_through a b c h l = less_is_below a c (total.trans a b c (below_is_less a b h) l)

-- a key from b on isn't below a lower key
from_through : (b : Bool) (k low e : List ℕ) → is_below k e ≡ b → is_below k low ≡ false → is_below e low ≡ true → b ≡ false
from_through false k low e c h n = refl
from_through true k low e c h n = absurd (let l = below_through k e low c (below_is_less e low n) in cc)

-- what is from a higher key on is from this one on
from_higher : (b : Bool) (q k low : List ℕ) → is_below q low ≡ b → is_below k low ≡ false → is_below q k ≡ false → b ≡ false
from_higher false q k low e n h = refl
from_higher true q k low e n h = absurd (let l = less_is_below q k (less_through q k low e n) in cc)

rising_one_of : (b : Bool) (es fs : Separators) → IsRising es → IsRising fs → IsRising (cond b es fs)
rising_one_of true es fs r s = r
rising_one_of false es fs r s = s

rising_from : (low : List ℕ) (es : Separators) → IsRising es → IsRising (from_low low es)
unfolding IsStrictlySortedBy
rising_from low [] r = r
rising_from low (e ∷ es) r = rising_one_of (is_below e.0 low) (from_low low es) (e ∷ es) (rising_from low es r.1) r

no_longer_by : (b : Bool) (n : ℕ) (es fs : Separators) → length es ≤ n → length fs ≤ n → length (cond b es fs) ≤ n
no_longer_by true n es fs h k = h
no_longer_by false n es fs h k = k

no_longer : (low : List ℕ) (es : Separators) → length (from_low low es) ≤ length es
no_longer low [] = omega arith
no_longer low (e ∷ es) = let h = no_longer low es in no_longer_by (is_below e.0 low) (length (e ∷ es)) (from_low low es) (e ∷ es) (omega arith) (omega arith)

entry_later : (e : List ℕ × ℕ) (es : Separators) (low : List ℕ) → is_below e.0 low ≡ true → IsEntry (e ∷ es) low → IsEntry es low
entry_later e es low b h = record { some = rw b at h.some; first = rw b at h.first }

entry_earlier : (e : List ℕ × ℕ) (es : Separators) (low : List ℕ) → is_below e.0 low ≡ true → IsEntry es low → IsEntry (e ∷ es) low
entry_earlier e es low b h = record { some = rw b h.some; first = rw b h.first }

-- the first entry isn't above the key of an entry
first_by : (b : Bool) (f : List ℕ × ℕ) (es : Separators) (low : List ℕ) → is_below f.0 low ≡ b → IsEntry (f ∷ es) low → is_below low f.0 ≡ false
first_by true f es low b h = not_below_lower f.0 low (below_is_less f.0 low b)
first_by false f es low b h = let e : f.0 ≡ low = rw b at h.first in rw (← e) (not_below_itself f.0)

-- the child of a key from an entry on is found among the entries from that one on
child_by : (b : Bool) (k low : List ℕ) (e f : List ℕ × ℕ) (es : Separators) → is_below e.0 low ≡ b → is_below k low ≡ false → IsEntry (e ∷ f ∷ es) low
    → (IsEntry (f ∷ es) low → child_with_end k (f ∷ es) ≡ child_with_end k (from_low low (f ∷ es))) → child_with_end k (e ∷ f ∷ es) ≡ child_with_end k (cond b (from_low low (f ∷ es)) (e ∷ f ∷ es))
child_by true k low e f es b n h ih =
    let later = entry_later e (f ∷ es) low b h in
    let following : is_below k f.0 ≡ false = from_higher (is_below k f.0) k low f.0 refl (first_by (is_below f.0 low) f es low refl later) n in
    rw following (ih later)
child_by false k low e f es b n h ih = refl

lone_by : (b : Bool) (k low : List ℕ) (e : List ℕ × ℕ) → is_below e.0 low ≡ b → IsEntry (e ∷ []) low → child_with_end k (e ∷ []) ≡ child_with_end k (cond b [] (e ∷ []))
lone_by true k low e b h = absurd (let s = (entry_later e [] low b h).some in omega arith)
lone_by false k low e b h = refl

child_from : (k low : List ℕ) (es : Separators) → is_below k low ≡ false → IsEntry es low → child_with_end k es ≡ child_with_end k (from_low low es)
child_from k low [] n h = refl
child_from k low (e ∷ []) n h = lone_by (is_below e.0 low) k low e refl h
child_from k low (e ∷ f ∷ es) n h = child_by (is_below e.0 low) k low e f es refl n h (child_from k low (f ∷ es) n)

from_twice_by : (b : Bool) (low end : List ℕ) (e : List ℕ × ℕ) (es : Separators) → is_below e.0 low ≡ b → order low end ≡ Less → from_low end es ≡ from_low end (from_low low es) → from_low end (e ∷ es) ≡ from_low end (cond b (from_low low es) (e ∷ es))
from_twice_by true low end e es b l ih = rw (below_through e.0 low end b l) ih
from_twice_by false low end e es b l ih = refl

from_twice : (low end : List ℕ) (es : Separators) → order low end ≡ Less → from_low end es ≡ from_low end (from_low low es)
from_twice low end [] l = refl
from_twice low end (e ∷ es) l = from_twice_by (is_below e.0 low) low end e es refl l (from_twice low end es l)

-- rising entries from the first one's key on are all
from_itself : (es : Separators) → from_low (first_key es) es ≡ es
from_itself [] = refl
from_itself (e ∷ es) = rw (not_below_itself e.0) refl

-- the end of a child's range is the key of an entry after the first
end_by : (b : Bool) (k end : List ℕ) (e f : List ℕ × ℕ) (es : Separators) → order e.0 f.0 ≡ Less → (let child : ℕ × Option (List ℕ) = cond b (e.1, Some f.0) (child_with_end k (f ∷ es)) in child.1 ≡ Some end)
    → ((child_with_end k (f ∷ es)).1 ≡ Some end → (order f.0 end ≡ Less) × IsEntry (f ∷ es) end) → (order e.0 end ≡ Less) × IsEntry (e ∷ f ∷ es) end
end_by true k end e f es l c ih =
    let same : f.0 ≡ end = cc in
    let m : order e.0 end ≡ Less = subst (λ (x : List ℕ). order e.0 x ≡ Less) same l in
    let itself : is_below f.0 end ≡ false = subst (λ (x : List ℕ). is_below f.0 x ≡ false) same (not_below_itself f.0) in
    (m, entry_earlier e (f ∷ es) end (less_is_below e.0 end m) (record { some = rw itself (omega arith); first = rw itself same }))
end_by false k end e f es l c ih =
    let h = ih c in
    let m : order e.0 end ≡ Less = total.trans e.0 f.0 end l h.0 in
    (m, entry_earlier e (f ∷ es) end (less_is_below e.0 end m) h.1)

end_entry : (k end : List ℕ) (e : List ℕ × ℕ) (es : Separators) → IsRising (e ∷ es) → (child_with_end k (e ∷ es)).1 ≡ Some end → (order e.0 end ≡ Less) × IsEntry (e ∷ es) end
unfolding IsStrictlySortedBy
end_entry k end e [] r c = absurd (cc)
end_entry k end e (f ∷ es) r c = end_by (is_below k f.0) k end e f es r.0.0 c (end_entry k end f es r.1)

-- ---- one child

module _ {A : Type 0} (cs : List (Command A)) where
  same_on : (f g : ℕ → Bool) (P : ℕ → Type 0) → ((q : ℕ) → P q → f q ≡ g q) → (qs : List ℕ) → AllByRecursion P qs → filter f qs ≡ filter g qs
  same_on f g P e [] a = refl
  same_on f g P e (q ∷ qs) a = rw (e q a.0, same_on f g P e qs a.1) refl

  not_reaching : (b : Bool) (low : List ℕ) (q : ℕ) → reaches_at cs low q ≡ b → IsFromKey cs low q → b ≡ false
  not_reaching false low q e h = refl
  not_reaching true low q e h = absurd (let l = reaching_below cs low q e in cc)

  none_of : (low : List ℕ) (qs : List ℕ) → AllByRecursion (IsFromKey cs low) qs → filter (reaches_at cs low) qs ≡ []
  none_of low qs a = filter_none (reaches_at cs low) qs (all_weaker (IsFromKey cs low) (λ q. reaches_at cs low q ≡ false) (λ q h. not_reaching (reaches_at cs low q) low q refl h) qs a)

  none_within : (low : List ℕ) (end : Option (List ℕ)) (qs : List ℕ) → AllByRecursion (IsBelowKey cs low) qs → filter (is_in_range cs low end) qs ≡ []
  none_within low end qs a = filter_none (is_in_range cs low end) qs (all_weaker (IsBelowKey cs low) (λ q. is_in_range cs low end q ≡ false) (λ q h. not_within_below low end (key_at cs q) h) qs a)

  all_below : (low : List ℕ) (rs : List ℕ) → AllByRecursion (λ q. reaches_at cs low q ≡ true) rs → AllByRecursion (IsBelowKey cs low) rs
  all_below low rs a = all_weaker (λ q. reaches_at cs low q ≡ true) (IsBelowKey cs low) (reaching_below cs low) rs a

  -- where places are cut at the end of a range
  pub record AreParted (end : Option (List ℕ)) (xs ys : List ℕ) : Type 0 where
    pub before : AllByRecursion (λ q. is_before end (key_at cs q) ≡ true) xs
    pub following : AllByRecursion (λ q. is_before end (key_at cs q) ≡ false) ys

  -- what a child gets: of what begins from its low key on, what lies before its end; and what reaches it
  own_is : (low : List ℕ) (end : Option (List ℕ)) (rs xs ys : List ℕ) → AllByRecursion (λ q. reaches_at cs low q ≡ true) rs → AllByRecursion (IsFromKey cs low) (xs ++ ys) → AreParted end xs ys
      → filter (is_in_range cs low end) (rs ++ (xs ++ ys)) ≡ xs
  own_is low end rs xs ys r a p =
      let f = is_in_range cs low end in
      let two = all_apart (IsFromKey cs low) xs ys a in
      filter-append f rs (xs ++ ys)
      ∙ ap (λ (zs : List ℕ). zs ++ filter f (xs ++ ys)) (none_within low end rs (all_below low rs r))
      ∙ filter-append f xs ys
      ∙ ap (λ (zs : List ℕ). zs ++ filter f ys) (filter_all f xs (all_in xs two.0 p.before))
      ∙ ap (λ (zs : List ℕ). xs ++ zs) (filter_none f ys (all_weaker (λ q. is_before end (key_at cs q) ≡ false) (λ q. is_in_range cs low end q ≡ false) (λ q h. not_within_after low end (key_at cs q) h) ys p.following))
      ∙ append-nil xs
    where
      all_in : (qs : List ℕ) → AllByRecursion (IsFromKey cs low) qs → AllByRecursion (λ q. is_before end (key_at cs q) ≡ true) qs → AllByRecursion (λ q. is_in_range cs low end q ≡ true) qs
      all_in [] a b = tt
      all_in (q ∷ qs) a b = (within low end (key_at cs q) a.0 b.0, all_in qs a.1 b.1)

  reaching_is : (low : List ℕ) (rs qs : List ℕ) → AllByRecursion (λ q. reaches_at cs low q ≡ true) rs → AllByRecursion (IsFromKey cs low) qs → filter (reaches_at cs low) (rs ++ qs) ≡ rs
  reaching_is low rs qs r a =
      let f = reaches_at cs low in
      filter-append f rs qs
      ∙ ap (λ (zs : List ℕ). zs ++ filter f qs) (filter_all f rs r)
      ∙ ap (λ (zs : List ℕ). rs ++ zs) (none_of low qs a)
      ∙ append-nil rs

  -- of places below a key, and places from it on, what the children from the key on get: of the first, what reaches it; and the others
  gets_on : (low : List ℕ) (xs ys : List ℕ) → AllByRecursion (IsBelowKey cs low) xs → AllByRecursion (IsFromKey cs low) ys → filter (gets cs low None) (xs ++ ys) ≡ filter (reaches_at cs low) xs ++ ys
  gets_on low xs ys a b =
      let f = gets cs low None in
      filter-append f xs ys
      ∙ ap (λ (zs : List ℕ). zs ++ filter f ys) (same_on f (reaches_at cs low) (IsBelowKey cs low) (λ q h. only_reaching (reaches_at cs low q) (is_in_range cs low None q) (not_within_below low None (key_at cs q) h)) xs a)
      ∙ ap (λ (zs : List ℕ). filter (reaches_at cs low) xs ++ zs) (filter_all f ys (all_weaker (IsFromKey cs low) (λ q. f q ≡ true) (λ q h. got (reaches_at cs low q) (is_in_range cs low None q) (within low None (key_at cs q) h refl)) ys b))
    where
      only_reaching : (r i : Bool) → i ≡ false → (r || i) ≡ r
      only_reaching true i e = refl
      only_reaching false i e = e

      got : (r i : Bool) → i ≡ true → (r || i) ≡ true
      got true i e = refl
      got false i e = e

  -- what remains for the children from this key on
  abbrev left_over : List ℕ → List ℕ → List ℕ → List ℕ → List ℕ
  left_over end rs xs ys = filter (reaches_at cs end) (rs ++ xs) ++ ys

  -- all before the end of a child is below it
  below_end : (e f : List ℕ × ℕ) (rs xs : List ℕ) → order e.0 f.0 ≡ Less → AllByRecursion (λ q. reaches_at cs e.0 q ≡ true) rs → AllByRecursion (λ q. is_below (key_at cs q) f.0 ≡ true) xs → AllByRecursion (IsBelowKey cs f.0) (rs ++ xs)
  below_end e f rs xs l r b =
      all-append (IsBelowKey cs f.0) rs xs (all_weaker (IsBelowKey cs e.0) (IsBelowKey cs f.0) (λ q h. below_through (key_at cs q) e.0 f.0 h l) rs (all_below e.0 rs r)) b

  -- the first child gets the places before its end and those that reach it; the others get the rest
  here : (e f : List ℕ × ℕ) (es : Separators) (rs xs ys : List ℕ) → IsRising (e ∷ f ∷ es) → AllByRecursion (λ q. reaches_at cs e.0 q ≡ true) rs → AllByRecursion (IsFromKey cs e.0) (xs ++ ys) → AreParted (Some f.0) xs ys
      → (has_some xs || has_some rs) ≡ true
      → (let s : Share = record { pid = e.1; own = xs; reaching = without_idle cs (Some f.0) xs rs } in shares cs (rs ++ (xs ++ ys)) (children (e ∷ f ∷ es) None) ≡ s ∷ shares cs (left_over f.0 rs xs ys) (children (f ∷ es) None))
  unfolding IsStrictlySortedBy
  here e f es rs xs ys i r a p s =
      let all = rs ++ (xs ++ ys) in
      let rest : shares cs all (children (f ∷ es) None) ≡ shares cs (left_over f.0 rs xs ys) (children (f ∷ es) None) =
      shares-narrowed cs f.0 (f ∷ es) all (from_first (f ∷ es) i.1)
      ∙ ap (λ (qs : List ℕ). shares cs qs (children (f ∷ es) None)) (
      ap (λ (qs : List ℕ). filter (gets cs f.0 None) qs) (sym (append_assoc rs xs ys))
      ∙ gets_on f.0 (rs ++ xs) ys (below_end e f rs xs i.0.0 r p.before) p.following) in
      let own = own_is e.0 (Some f.0) rs xs ys r a p in
      let begun = filter (is_in_range cs e.0 (Some f.0)) all in
      let reaching = filter (reaches_at cs e.0) all in
      some_share e.1 begun xs (without_idle cs (Some f.0) begun reaching) (without_idle cs (Some f.0) xs rs) (shares cs all (children (f ∷ es) None)) (shares cs (left_over f.0 rs xs ys) (children (f ∷ es) None))
      own (same_idle cs (Some f.0) begun xs reaching rs own (reaching_is e.0 rs (xs ++ ys) r a)) (ap (λ (b : Bool). has_some xs || b) (some_stay cs (Some f.0) xs rs) ∙ s) rest

  -- the last child gets all
  last : (e : List ℕ × ℕ) (rs xs ys : List ℕ) → AllByRecursion (λ q. reaches_at cs e.0 q ≡ true) rs → AllByRecursion (IsFromKey cs e.0) (xs ++ ys) → AreParted None xs ys → (has_some xs || has_some rs) ≡ true
      → (let s : Share = record { pid = e.1; own = xs; reaching = without_idle cs None xs rs } in shares cs (rs ++ (xs ++ ys)) (children (e ∷ []) None) ≡ s ∷ [])
  last e rs xs ys r a p s =
      let all = rs ++ (xs ++ ys) in
      let own = own_is e.0 None rs xs ys r a p in
      let begun = filter (is_in_range cs e.0 None) all in
      let reaching = filter (reaches_at cs e.0) all in
      some_share e.1 begun xs (without_idle cs None begun reaching) (without_idle cs None xs rs) [] [] own (same_idle cs None begun xs reaching rs own (reaching_is e.0 rs (xs ++ ys) r a)) (ap (λ (b : Bool). has_some xs || b) (some_stay cs None xs rs) ∙ s) refl

  -- a child that lies before all places gets none
  passed_over : (e f : List ℕ × ℕ) (es : Separators) (qs : List ℕ) → order e.0 f.0 ≡ Less → AllByRecursion (IsFromKey cs f.0) qs → shares cs qs (children (e ∷ f ∷ es) None) ≡ shares cs qs (children (f ∷ es) None)
  passed_over e f es qs l a =
      let begun = filter (is_in_range cs e.0 (Some f.0)) qs in
      let reaching = filter (reaches_at cs e.0) qs in
      no_share e.1 begun (without_idle cs (Some f.0) begun reaching) (shares cs qs (children (f ∷ es) None)) (shares cs qs (children (f ∷ es) None))
      (filter_none (is_in_range cs e.0 (Some f.0)) qs (all_weaker (IsFromKey cs f.0) (λ q. is_in_range cs e.0 (Some f.0) q ≡ false) (λ q h. not_within_after e.0 (Some f.0) (key_at cs q) h) qs a))
      (without_idle-nothing cs (Some f.0) begun reaching (none_of e.0 qs (all_weaker (IsFromKey cs f.0) (IsFromKey cs e.0) (λ q h. from_through (is_below (key_at cs q) e.0) (key_at cs q) f.0 e.0 refl h (less_is_below e.0 f.0 l)) qs a)))
      refl

  -- ---- the next child that gets anything

  -- what remains for the children after one whose range has this end
  abbrev pub rest_of : Option (List ℕ) → List ℕ → List ℕ → List ℕ → Separators → List Share
  rest_of None rs xs ys es = []
  rest_of (Some end) rs xs ys es = shares cs (left_over end rs xs ys) (children (from_low end es) None)

  rest_later : (o : Option (List ℕ)) (k : List ℕ) (xs ys : List ℕ) (e f : List ℕ × ℕ) (es : Separators) → IsRising (e ∷ f ∷ es) → (child_with_end k (f ∷ es)).1 ≡ o → rest_of o [] xs ys (f ∷ es) ≡ rest_of o [] xs ys (e ∷ f ∷ es)
  unfolding IsStrictlySortedBy
  rest_later None k xs ys e f es r c = refl
  rest_later (Some end) k xs ys e f es r c =
      let l : order e.0 end ≡ Less = total.trans e.0 f.0 end r.0.0 (end_entry k end f es r.1 c).0 in
      rw (less_is_below e.0 end l) refl

  abbrev IsNext : List ℕ → Separators → List ℕ → List ℕ → List ℕ → ℕ × Option (List ℕ) → Type 0
  IsNext k es rs xs ys child = (let s : Share = record { pid = child.0; own = xs; reaching = without_idle cs child.1 xs rs } in shares cs (rs ++ (xs ++ ys)) (children es None) ≡ s ∷ rest_of child.1 rs xs ys es)

  next_by : (b : Bool) (k : List ℕ) (e f : List ℕ × ℕ) (es : Separators) (rs xs ys : List ℕ) → is_below k f.0 ≡ b → IsRising (e ∷ f ∷ es) → AllByRecursion (λ q. reaches_at cs e.0 q ≡ true) rs → AllByRecursion (IsFromKey cs e.0) (xs ++ ys)
      → (has_some rs ≡ true → k ≡ e.0) → AllByRecursion (IsFromKey cs k) (xs ++ ys) → (has_some xs || has_some rs) ≡ true
      → (let child : ℕ × Option (List ℕ) = cond b (e.1, Some f.0) (child_with_end k (f ∷ es)) in AreParted child.1 xs ys
      → (AllByRecursion (IsFromKey cs f.0) (xs ++ ys) → (has_some xs || false) ≡ true → AreParted (child_with_end k (f ∷ es)).1 xs ys → IsNext k (f ∷ es) [] xs ys (child_with_end k (f ∷ es)))
      → IsNext k (e ∷ f ∷ es) rs xs ys child)
  unfolding IsStrictlySortedBy
  next_by true k e f es rs xs ys b i r a w n s p ih =
      let first : Share = record { pid = e.1; own = xs; reaching = without_idle cs (Some f.0) xs rs } in
      let from : from_low f.0 (e ∷ f ∷ es) ≡ f ∷ es = rw (less_is_below e.0 f.0 i.0.0, not_below_itself f.0) refl in
      here e f es rs xs ys i r a p s ∙ ap (λ (fs : Separators). first ∷ shares cs (left_over f.0 rs xs ys) (children fs None)) (sym from)
  next_by false k e f es (q ∷ rs) xs ys b i r a w n s p ih =
      absurd (let same = w refl in let l = less_is_below e.0 f.0 i.0.0 in let m : is_below k f.0 ≡ true = rw same l in cc)
  next_by false k e f es [] xs ys b i r a w n s p ih =
      let child : ℕ × Option (List ℕ) = child_with_end k (f ∷ es) in
      let first : Share = record { pid = child.0; own = xs; reaching = without_idle cs child.1 xs [] } in
      let from = all_weaker (IsFromKey cs k) (IsFromKey cs f.0) (λ q h. from_higher (is_below (key_at cs q) f.0) (key_at cs q) k f.0 refl b h) (xs ++ ys) n in
      passed_over e f es (xs ++ ys) i.0.0 from ∙ ih from s p ∙ ap (λ (ss : List Share). first ∷ ss) (rest_later child.1 k xs ys e f es i refl)

  next_from : (k : List ℕ) (e : List ℕ × ℕ) (es : Separators) (rs xs ys : List ℕ) → IsRising (e ∷ es) → AllByRecursion (λ q. reaches_at cs e.0 q ≡ true) rs → AllByRecursion (IsFromKey cs e.0) (xs ++ ys)
      → (has_some rs ≡ true → k ≡ e.0) → AllByRecursion (IsFromKey cs k) (xs ++ ys) → (has_some xs || has_some rs) ≡ true → AreParted (child_with_end k (e ∷ es)).1 xs ys → IsNext k (e ∷ es) rs xs ys (child_with_end k (e ∷ es))
  unfolding IsStrictlySortedBy
  next_from k e [] rs xs ys i r a w n s p = last e rs xs ys r a p s
  next_from k e (f ∷ es) rs xs ys i r a w n s p =
      next_by (is_below k f.0) k e f es rs xs ys refl i r a w n s p (λ from some parted. next_from k f es [] xs ys i.1 tt from (λ h. absurd (cc)) n some parted)

  -- ---- a step of the walk

  -- the state of the walk: at the key of an entry, with scans that reach it, and with places from it on
  pub record IsAt (es : Separators) (low : List ℕ) (rs qs : List ℕ) : Type 0 where
    pub entry : IsEntry es low
    pub reach : AllByRecursion (λ q. reaches_at cs low q ≡ true) rs
    pub from : AllByRecursion (IsFromKey cs low) qs

  step_from : (left es : Separators) (k low : List ℕ) (rs xs ys : List ℕ) → left ≡ from_low low es → IsRising left → IsAt es low rs (xs ++ ys) → (has_some rs ≡ true → k ≡ low) → AllByRecursion (IsFromKey cs k) (xs ++ ys)
      → (has_some xs || has_some rs) ≡ true → AreParted (child_with_end k left).1 xs ys → IsNext k left rs xs ys (child_with_end k left)
  step_from [] es k low rs xs ys t r a w n s p = absurd (let z = subst (λ (fs : Separators). 0 < length fs) (sym t) a.entry.some in omega arith)
  step_from (e ∷ left) es k low rs xs ys t r a w n s p =
      let same : e.0 ≡ low = ap (λ (fs : Separators). first_key fs) t ∙ a.entry.first in
      next_from k e left rs xs ys r (subst (λ (x : List ℕ). AllByRecursion (λ q. reaches_at cs x q ≡ true) rs) (sym same) a.reach) (subst (λ (x : List ℕ). AllByRecursion (IsFromKey cs x) (xs ++ ys)) (sym same) a.from)
      (λ h. w h ∙ sym same) n s p

  -- a child's range ends after the walk's key, at another entry, and fewer entries remain from there on
  end_from : (left es : Separators) (k low end : List ℕ) → left ≡ from_low low es → IsRising left → IsEntry es low → (child_with_end k left).1 ≡ Some end → (order low end ≡ Less) × (length (from_low end left) < length left) × IsEntry left end
  end_from [] es k low end t r h c = absurd (cc)
  end_from (e ∷ left) es k low end t r h c =
      let same : e.0 ≡ low = ap (λ (fs : Separators). first_key fs) t ∙ h.first in
      let at = end_entry k end e left r c in
      let dropped : from_low end (e ∷ left) ≡ from_low end left = rw (less_is_below e.0 end at.0) refl in
      let fewer = no_longer end left in
      (subst (λ (x : List ℕ). order x end ≡ Less) same at.0, rw dropped (omega arith), at.1)

  rest_from : (o : Option (List ℕ)) (es : Separators) (k low : List ℕ) (rs xs ys : List ℕ) → IsRising es → IsEntry es low → (child_with_end k (from_low low es)).1 ≡ o → rest_of o rs xs ys (from_low low es) ≡ rest_of o rs xs ys es
  rest_from None es k low rs xs ys r h c = refl
  rest_from (Some end) es k low rs xs ys r h c =
      let l = (end_from (from_low low es) es k low end refl (rising_from low es r) h c).0 in
      ap (λ (fs : Separators). shares cs (left_over end rs xs ys) (children fs None)) (sym (from_twice low end es l))

  -- the child of a key gets what lies before its end, and what reaches it, and those after it get the rest
  pub walk_step : (es : Separators) (k low : List ℕ) (rs xs ys : List ℕ) (pid : ℕ) (end : Option (List ℕ)) → IsRising es → IsAt es low rs (xs ++ ys) → is_below k low ≡ false → (has_some rs ≡ true → k ≡ low)
      → AllByRecursion (IsFromKey cs k) (xs ++ ys) → (has_some xs || has_some rs) ≡ true → (pid, end) ≡ child_with_end k es → AreParted end xs ys
      → (let s : Share = record { pid = pid; own = xs; reaching = without_idle cs end xs rs } in shares cs (rs ++ (xs ++ ys)) (children (from_low low es) None) ≡ s ∷ rest_of end rs xs ys es)
  walk_step es k low rs xs ys pid end r a b w n s c p =
      let left = from_low low es in
      let child : ℕ × Option (List ℕ) = child_with_end k left in
      let found : (pid, end) ≡ child = c ∙ child_from k low es b a.entry in
      let pid_is : pid ≡ child.0 = ap (λ (x : ℕ × Option (List ℕ)). x.0) found in
      let end_is : end ≡ child.1 = ap (λ (x : ℕ × Option (List ℕ)). x.1) found in
      let share : ℕ → Option (List ℕ) → Share = λ i o. record { pid = i; own = xs; reaching = without_idle cs o xs rs } in
      step_from left es k low rs xs ys refl (rising_from low es r) a w n s (subst (λ (o : Option (List ℕ)). AreParted o xs ys) end_is p)
      ∙ ap (λ (i : ℕ). share i child.1 ∷ rest_of child.1 rs xs ys left) (sym pid_is)
      ∙ ap (λ (ss : List Share). share pid child.1 ∷ ss) (rest_from child.1 es k low rs xs ys r a.entry refl)
      ∙ ap (λ (o : Option (List ℕ)). share pid o ∷ rest_of o rs xs ys es) (sym end_is)

  -- the walk's next state is at that end, with fewer children remaining
  pub walk_on : (es : Separators) (k low end : List ℕ) (rs xs ys : List ℕ) (pid : ℕ) → IsRising es → IsAt es low rs (xs ++ ys) → is_below k low ≡ false → (pid, Some end) ≡ child_with_end k es → AreParted (Some end) xs ys
      → IsAt es end (filter (reaches_at cs end) (rs ++ xs)) ys × (length (from_low end es) < length (from_low low es))
  walk_on es k low end rs xs ys pid r a b c p =
      let left = from_low low es in
      let end_is : (child_with_end k left).1 ≡ Some end = sym (ap (λ (x : ℕ × Option (List ℕ)). x.1) (c ∙ child_from k low es b a.entry)) in
      let at = end_from left es k low end refl (rising_from low es r) a.entry end_is in
      let same : from_low end es ≡ from_low end left = from_twice low end es at.0 in
      let entry : IsEntry es end = record { some = rw same at.2.some; first = rw same at.2.first } in
      (record { entry = entry; reach = all_passed (reaches_at cs end) (rs ++ xs); from = p.following }, rw same at.1)

  -- ---- the next key

  -- the next key: it isn't below the walk's key, it equals that key if scans reach it, no place is below it, and some places are before each end
  -- after it
  record IsNextKey (low : List ℕ) (rs ps : List ℕ) (k : List ℕ) : Type 0 where
    above : is_below k low ≡ false
    at_low : has_some rs ≡ true → k ≡ low
    from : AllByRecursion (IsFromKey cs k) ps
    some : (end : Option (List ℕ)) (n : ℕ) → is_before end k ≡ true → AreParted end (take n ps) (drop n ps) → (has_some (take n ps) || has_some rs) ≡ true

  key_before : (n : ℕ) (end : Option (List ℕ)) (p : ℕ) (ps : List ℕ) → is_before end (key_at cs p) ≡ true → AreParted end (take n (p ∷ ps)) (drop n (p ∷ ps)) → (has_some (take n (p ∷ ps)) || false) ≡ true
  key_before zero end p ps b c = absurd (let d = c.following.0 in cc)
  key_before (suc n) end p ps b c = refl

  next_key_is : (low k : List ℕ) (rs : List ℕ) (es : List Keyed) → AreKeyed cs es → AreInKeyOrder cs (places_of es) → AllByRecursion (IsFromKey cs low) (places_of es) → next_key low rs es ≡ Some k → IsNextKey low rs (places_of es) k
  next_key_is low k (r ∷ rs) es h o a e =
      let same : low ≡ k = cc in
      record {
        above = rw (← same) (not_below_itself low);
        at_low = λ t. sym same;
        from = subst (λ (x : List ℕ). AllByRecursion (IsFromKey cs x) (places_of es)) same a;
        some = λ end n b c. or_true (has_some (take n (places_of es)));
      }
  next_key_is low k [] [] h o a e = absurd (cc)
  next_key_is low k [] (x ∷ es) h o a e =
      let same : x.0 ≡ k = cc in
      let key : key_at cs x.1 ≡ k = sym h.0 ∙ same in
      record {
        above = subst (λ (y : List ℕ). is_below y low ≡ false) key a.0;
        at_low = λ t. absurd (cc);
        from = subst (λ (y : List ℕ). AllByRecursion (IsFromKey cs y) (places_of (x ∷ es))) key (places_from_first cs x.1 (places_of es) (key_at cs x.1) o (not_below_itself (key_at cs x.1)));
        some = λ end n b c. key_before n end x.1 (places_of es) (subst (λ (y : List ℕ). is_before end y ≡ true) (sym key) b) c;
      }

  -- ---- the walk by entries

  parted_of : (end : Option (List ℕ)) (es : List Keyed) (n : ℕ) → AreKeyed cs es → AreCutAt cs end (take n es) (drop n es) → AreParted end (places_of (take n es)) (places_of (drop n es))
  parted_of end es n k c = record {
    before = all_places_of cs (λ x. is_before end x ≡ true) (take n es) (keyed_take cs n es k) c.before;
    following = all_places_of cs (λ x. is_before end x ≡ false) (drop n es) (keyed_drop cs n es k) c.following;
  }

  two_parts : (es : List Keyed) (n : ℕ) → places_of es ≡ places_of (take n es) ++ places_of (drop n es)
  two_parts es n = ap (λ (x : List Keyed). places_of x) (sym (take-append-drop n es)) ∙ map-append (λ (e : Keyed). e.1) (take n es) (drop n es)

  -- the state of the walk, by entries, and the next key
  pub record IsWalking (page : PageOfKind) (low : List ℕ) (rs : List ℕ) (rest : List Keyed) (k : List ℕ) : Type 0 where
    pub can : CanHandDownKeyed cs page rest
    pub at : IsAt (child_entries page) low rs (places_of rest)
    pub key : next_key low rs rest ≡ Some k

  key_of_walk : (page : PageOfKind) (low k : List ℕ) (rs : List ℕ) (rest : List Keyed) → IsWalking page low rs rest k → IsNextKey low rs (places_of rest) k
  key_of_walk page low k rs rest w = next_key_is low k rs rest w.can.keys w.can.places.in_order w.at.from w.key

  -- there is a child for the next key
  pub child_for_next : (page : PageOfKind) (low k : List ℕ) (rs : List ℕ) (rest : List Keyed) → IsWalking page low rs rest k → HasChildFor page k
  child_for_next page low k rs rest w = some_child (child_entries page) w.at.entry (key_of_walk page low k rs rest w).above
    where
      some_child : (es : Separators) → IsEntry es low → is_below k low ≡ false → (0 < length es) × (is_below k (first_key es) ≡ false)
      some_child [] h n = absurd (let s = h.some in omega arith)
      some_child (e ∷ es) h n = (omega arith, from_higher (is_below k e.0) k low e.0 refl (first_by (is_below e.0 low) e es low refl h) n)

  -- the next child's share, and what remains for those after it
  pub walked : (page : PageOfKind) (low k : List ℕ) (rs : List ℕ) (rest : List Keyed) (n : ℕ) (pid : ℕ) (end : Option (List ℕ)) → IsWalking page low rs rest k → (pid, end) ≡ child_with_end k (child_entries page) → AreCutAt cs end (take n rest) (drop n rest)
      → (let s : Share = record { pid = pid; own = places_of (take n rest); reaching = without_idle cs end (places_of (take n rest)) rs } in
      shares cs (rs ++ places_of rest) (children (from_low low (child_entries page)) None) ≡ s ∷ rest_of end rs (places_of (take n rest)) (places_of (drop n rest)) (child_entries page))
  walked page low k rs rest n pid end w c cut =
      let es = child_entries page in
      let xs = places_of (take n rest) in
      let ys = places_of (drop n rest) in
      let next = key_of_walk page low k rs rest w in
      let parted = parted_of end rest n w.can.keys cut in
      let before : is_before end k ≡ true = ap (λ (x : ℕ × Option (List ℕ)). is_before x.1 k) c ∙ before_end cs k es in
      let place = λ (e : Keyed). e.1 in
      let taken : take n (places_of rest) ≡ xs = take-map place n rest in
      let dropped : drop n (places_of rest) ≡ ys = drop-map place n rest in
      let some : (has_some xs || has_some rs) ≡ true =
      ap (λ (zs : List ℕ). has_some zs || has_some rs) (sym taken)
      ∙ next.some end n before (subst (λ (zs : List ℕ). AreParted end (take n (places_of rest)) zs) (sym dropped) (subst (λ (zs : List ℕ). AreParted end zs ys) (sym taken) parted)) in
      let two = two_parts rest n in
      ap (λ (zs : List ℕ). shares cs (rs ++ zs) (children (from_low low es) None)) two
      ∙ walk_step es k low rs xs ys pid end w.can.places.rising (subst (λ (zs : List ℕ). IsAt es low rs zs) two w.at) next.above next.at_low (subst (λ (zs : List ℕ). AllByRecursion (IsFromKey cs k) zs) two next.from) some c parted

  -- the next state of the walk
  pub walked_on : (page : PageOfKind) (low k end : List ℕ) (rs : List ℕ) (rest : List Keyed) (n : ℕ) (pid : ℕ) → IsWalking page low rs rest k → (pid, Some end) ≡ child_with_end k (child_entries page) → AreCutAt cs (Some end) (take n rest) (drop n rest)
      → IsAt (child_entries page) end (filter (reaches_at cs end) (rs ++ places_of (take n rest))) (places_of (drop n rest)) × (length (from_low end (child_entries page)) < length (from_low low (child_entries page)))
  walked_on page low k end rs rest n pid w c cut =
      walk_on (child_entries page) k low end rs (places_of (take n rest)) (places_of (drop n rest)) pid w.can.places.rising (subst (λ (zs : List ℕ). IsAt (child_entries page) low rs zs) (two_parts rest n) w.at) (key_of_walk page low k rs rest w).above c (parted_of (Some end) rest n w.can.keys cut)

  -- ---- the walk in code

  -- the walk begins at the page's first child
  pub walk_begins : (page : PageOfKind) (s : Share) (low : List ℕ) (rs ps : List ℕ) → CanHandDownShare cs page s → low ≡ low_of page → rs ≡ s.reaching → ps ≡ s.own
      → IsAt (child_entries page) low rs ps × (shares cs (rs ++ ps) (children (from_low low (child_entries page)) None) ≡ shares_below cs page (all_of s))
  walk_begins page s low rs ps h l r p =
      let es = child_entries page in
      let first : first_key es ≡ low = h.first ∙ sym l in
      let all : from_low low es ≡ es = ap (λ (x : List ℕ). from_low x es) (sym first) ∙ from_itself es in
      let reach : AllByRecursion (λ q. reaches_at cs low q ≡ true) rs =
      subst (λ (x : List ℕ). AllByRecursion (λ q. reaches_at cs x q ≡ true) rs) (sym l) (subst (λ (zs : List ℕ). AllByRecursion (λ q. reaches_at cs (low_of page) q ≡ true) zs) (sym r) h.reach) in
      let from : AllByRecursion (IsFromKey cs low) ps =
      subst (λ (zs : List ℕ). AllByRecursion (IsFromKey cs low) zs) (sym p)
      (all_weaker (λ q. HasChildFor page (key_at cs q)) (IsFromKey cs low) (λ q c. subst (λ (x : List ℕ). is_below (key_at cs q) x ≡ false) first c.1) s.own h.own.each) in (
        record { entry = record { some = rw all h.some; first = rw all first }; reach = reach; from = from },
        ap (λ (fs : Separators). shares cs (rs ++ ps) (children fs None)) all
            ∙ ap (λ (zs : List ℕ). shares cs (zs ++ ps) (children es None)) r
            ∙ ap (λ (zs : List ℕ). shares cs (s.reaching ++ zs) (children es None)) p,
      )

  -- the state of the code's loop, by the remaining entries
  pub walking : (page : PageOfKind) (low k : List ℕ) (rs : List ℕ) (es rest : List Keyed) (start : ℕ) → rest ≡ drop start es → CanHandDownKeyed cs page es → IsAt (child_entries page) low rs (places_of (drop start es)) → next_key low rs rest ≡ Some k → IsWalking page low rs rest k
  walking page low k rs es rest start t h a e = record {
    can = rest_keyed cs page es rest start t h;
    at = subst (λ (x : List Keyed). IsAt (child_entries page) low rs (places_of x)) (sym t) a;
    key = e;
  }

  -- one more share is distributed
  pub scan_step : (page : PageOfKind) (low k end : List ℕ) (rs onward : List ℕ) (es rest : List Keyed) (start count until : ℕ) (pid : ℕ) (old new : List Lent) (lent : Lent) (whole : List Share) → rest ≡ drop start es → until ≡ start + count → IsWalking page low rs rest k
      → (pid, Some end) ≡ child_with_end k (child_entries page) → AreCutAt cs (Some end) (take count rest) (drop count rest)
      → lent.pid ≡ pid → lent.keyed ≡ slice_range es start until → lent.reaching ≡ without_idle cs (Some end) (places_of (slice_range es start until)) rs → new ≡ old ++ lent ∷ [] → onward ≡ filter (reaches_at cs end) (rs ++ places_of (slice_range es start until))
      → lent_shares old ++ shares cs (rs ++ places_of (drop start es)) (children (from_low low (child_entries page)) None) ≡ whole
      → lent_shares new ++ shares cs (onward ++ places_of (drop until es)) (children (from_low end (child_entries page)) None) ≡ whole
  scan_step page low k end rs onward es rest start count until pid old new lent whole t u w c cut p o r i g h =
      let names = child_entries page in
      let part : slice_range es start until ≡ take count rest = part_is cs es start count until u ∙ ap (λ (x : List Keyed). take count x) (sym t) in
      let left : drop count rest ≡ drop until es = ap (λ (x : List Keyed). drop count x) t ∙ drop-drop count start es ∙ ap (λ (j : ℕ). drop j es) (sym u) in
      let xs = places_of (take count rest) in
      let kept = without_idle cs (Some end) xs rs in
      let s : Share = record { pid = pid; own = xs; reaching = kept } in
      let more = shares cs (rs ++ places_of rest) (children (from_low low names) None) in
      let less = rest_of (Some end) rs xs (places_of (drop count rest)) names in
      ap (λ (zs : List ℕ). lent_shares new ++ shares cs (zs ++ places_of (drop until es)) (children (from_low end names) None)) (g ∙ ap (λ (x : List Keyed). filter (reaches_at cs end) (rs ++ places_of x)) part)
      ∙ ap (λ (x : List Keyed). lent_shares new ++ shares cs (filter (reaches_at cs end) (rs ++ xs) ++ places_of x) (children (from_low end names) None)) (sym left)
      ∙ push_share old new lent s more less i (lent_is lent.pid pid (places_of lent.keyed) xs lent.reaching kept p (ap (λ (x : List Keyed). places_of x) (o ∙ part)) (r ∙ ap (λ (x : List Keyed). without_idle cs (Some end) (places_of x) rs) part)) (walked page low k rs rest count pid (Some end) w c cut)
      ∙ ap (λ (x : List Keyed). lent_shares old ++ shares cs (rs ++ places_of x) (children (from_low low names) None)) t
      ∙ h

  pub scan_on : (page : PageOfKind) (low k end : List ℕ) (rs onward : List ℕ) (es rest : List Keyed) (start count until : ℕ) (pid : ℕ) → rest ≡ drop start es → until ≡ start + count → IsWalking page low rs rest k
      → (pid, Some end) ≡ child_with_end k (child_entries page) → AreCutAt cs (Some end) (take count rest) (drop count rest) → onward ≡ filter (reaches_at cs end) (rs ++ places_of (slice_range es start until))
      → IsAt (child_entries page) end onward (places_of (drop until es)) × (length (from_low end (child_entries page)) < length (from_low low (child_entries page)))
  scan_on page low k end rs onward es rest start count until pid t u w c cut g =
      let part : slice_range es start until ≡ take count rest = part_is cs es start count until u ∙ ap (λ (x : List Keyed). take count x) (sym t) in
      let left : drop count rest ≡ drop until es = ap (λ (x : List Keyed). drop count x) t ∙ drop-drop count start es ∙ ap (λ (j : ℕ). drop j es) (sym u) in
      let on : onward ≡ filter (reaches_at cs end) (rs ++ places_of (take count rest)) = g ∙ ap (λ (x : List Keyed). filter (reaches_at cs end) (rs ++ places_of x)) part in
      let both = walked_on page low k end rs rest count pid w c cut in
      (subst (λ (zs : List ℕ). IsAt (child_entries page) end zs (places_of (drop until es))) (sym on) (subst (λ (x : List Keyed). IsAt (child_entries page) end (filter (reaches_at cs end) (rs ++ places_of (take count rest))) (places_of x)) left both.0), both.1)

  -- the last child takes everything that remains
  pub scan_last : (page : PageOfKind) (low k : List ℕ) (rs : List ℕ) (es rest : List Keyed) (start : ℕ) (pid : ℕ) (old new : List Lent) (lent : Lent) (whole : List Share) → rest ≡ drop start es → IsWalking page low rs rest k
      → (pid, None) ≡ child_with_end k (child_entries page) → lent.pid ≡ pid → lent.keyed ≡ rest → lent.reaching ≡ without_idle cs None (places_of rest) rs → new ≡ old ++ lent ∷ []
      → lent_shares old ++ shares cs (rs ++ places_of (drop start es)) (children (from_low low (child_entries page)) None) ≡ whole → lent_shares new ≡ whole
  scan_last page low k rs es rest start pid old new lent whole t w c p o r i h =
      let names = child_entries page in
      let count = length rest in
      let all : take count rest ≡ rest = take_all count rest (omega arith) in
      let kept = without_idle cs None (places_of (take count rest)) rs in
      let s : Share = record { pid = pid; own = places_of (take count rest); reaching = kept } in
      let more = shares cs (rs ++ places_of rest) (children (from_low low names) None) in
      sym (append-nil (lent_shares new))
      ∙ push_share old new lent s more [] i (lent_is lent.pid pid (places_of lent.keyed) (places_of (take count rest)) lent.reaching kept p (ap (λ (x : List Keyed). places_of x) (o ∙ sym all)) (r ∙ ap (λ (x : List Keyed). without_idle cs None (places_of x) rs) (sym all))) (walked page low k rs rest count pid None w c (none_cut cs rest))
      ∙ ap (λ (x : List Keyed). lent_shares old ++ shares cs (rs ++ places_of x) (children (from_low low names) None)) t
      ∙ h

  nothing_next : (low : List ℕ) (rs : List ℕ) (rest : List Keyed) → next_key low rs rest ≡ None → (rs ≡ []) × (rest ≡ [])
  nothing_next low (r ∷ rs) rest e = absurd (cc)
  nothing_next low [] [] e = (refl, refl)
  nothing_next low [] (x ∷ rest) e = absurd (cc)

  -- if there is no next key, nothing is left
  pub all_walked : (low : List ℕ) (rs : List ℕ) (es rest : List Keyed) (start : ℕ) (ats : List Place) (old : List Lent) (whole : List Share) → rest ≡ drop start es → next_key low rs rest ≡ None
      → lent_shares old ++ shares cs (rs ++ places_of (drop start es)) ats ≡ whole → lent_shares old ≡ whole
  all_walked low rs es rest start ats old whole t e h =
      let none = nothing_next low rs rest e in
      let left : drop start es ≡ [] = sym t ∙ none.1 in
      sym (append-nil (lent_shares old))
      ∙ ap (λ (ss : List Share). lent_shares old ++ ss) (sym (no_shares cs ats))
      ∙ ap (λ (x : List Keyed). lent_shares old ++ shares cs (places_of x) ats) (sym left)
      ∙ ap (λ (zs : List ℕ). lent_shares old ++ shares cs (zs ++ places_of (drop start es)) ats) (sym none.0)
      ∙ h
