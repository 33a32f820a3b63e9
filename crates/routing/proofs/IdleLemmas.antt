-- Lemmas on the commands that are left out of a page because they find nothing there, for the proofs of this crate.
use Rattle.std.specs.Prelude.{◌≡◌, ◌⊎◌, ℕ, ◌<◌, Bool, true, false, ◌||◌, List, [], ◌∷◌, nat_eq, nat_le, min, if◌then◌else◌, Option, Some, None}
use Rattle.std.proofs.Common.{refl, sym, ap, ◌∙◌, subst, arith, inl, inr}
use Rattle.std.specs.List.{filter, list_any, fold, reduce}
use Rattle.std.proofs.lemmas.Bool.{cases_lt, and_parts, le-leb, leb-false}
use Rattle.std.proofs.lemmas.List.Kept.{IsStrictlySortedBy-filter}
use Rattle.keys.specs.declared.command.Command.{Command}
use Rattle.mapping.specs.FreshPids.{is_among}
use Rattle.routing.specs.Idle.{gives_at, empties_at}
use Rattle.routing.specs.Keyed.{Keyed, places_of}
use Rattle.routing.specs.Routes.{has_some}
use Rattle.routing.specs.Shares.{first_emptying, upto, without_idle}
use Rattle.routing.specs.SortedPlaces.{order_of_places, AreInKeyOrder}
use Rattle.routing.proofs.SortLemmas.{among_itself}
use Rattle.routing.proofs.SliceLemmas.{among-filter}

-- ---- what is among lists

pub some_among : (p : ℕ) (xs : List ℕ) → is_among p xs ≡ true → has_some xs ≡ true
some_among p [] h = absurd (cc)
some_among p (x ∷ xs) h = refl

pub none_among : (xs : List ℕ) → ((p : ℕ) → is_among p xs ≡ true → ⊥) → xs ≡ []
none_among [] f = refl
none_among (x ∷ xs) f = absurd (f x (among_itself x xs))

pub none_there : (xs : List ℕ) → has_some xs ≡ false → xs ≡ []
none_there [] h = refl
none_there (x ∷ xs) h = absurd (cc)

-- what is among those that pass is among all, and passes
pub among_passing : (f : ℕ → Bool) (p : ℕ) (xs : List ℕ) → is_among p (filter f xs) ≡ true → (is_among p xs ≡ true) × (f p ≡ true)
among_passing f p xs h = let both = and_parts (is_among p xs) (f p) (sym (among-filter f p xs) ∙ h) in (both.0, both.1)

pub among_kept : (f : ℕ → Bool) (p : ℕ) (xs : List ℕ) → is_among p xs ≡ true → f p ≡ true → is_among p (filter f xs) ≡ true
among_kept f p xs h k = among-filter f p xs ∙ rw (h, k) refl

-- what is asked of entries is asked of their places
pub any_of_places : (f : ℕ → Bool) (es : List Keyed) → list_any (λ entry. f entry.1) es ≡ list_any f (places_of es)
any_of_places f [] = refl
any_of_places f (e ∷ es) = ap (λ (b : Bool). f e.1 || b) (any_of_places f es)

-- ---- the least of a list

either_least : (a b : ℕ) → (min a b ≡ a) ⊎ (min a b ≡ b)
either_least a b = elim (cases_lt a b) [
  | inl l ↦ inl (omega arith)
  | inr l ↦ inr (omega arith)
]

among_first : (n x y : ℕ) (ys : List ℕ) → is_among n (x ∷ ys) ≡ true → is_among n (x ∷ y ∷ ys) ≡ true
among_first n x y ys h = by (nat_eq n x) (nat_eq n y) h
  where
    by : (b c : Bool) → (b || is_among n ys) ≡ true → (b || (c || is_among n ys)) ≡ true
    by true c h = refl
    by false true h = refl
    by false false h = h

among_second : (n x y : ℕ) (ys : List ℕ) → is_among n (y ∷ ys) ≡ true → is_among n (x ∷ y ∷ ys) ≡ true
among_second n x y ys h = by (nat_eq n x) h
  where
    by : (b : Bool) → is_among n (y ∷ ys) ≡ true → (b || is_among n (y ∷ ys)) ≡ true
    by true h = refl
    by false h = h

least_by : (x y : ℕ) (ys : List ℕ) → is_among (fold min (min x y) ys) (min x y ∷ ys) ≡ true → (min x y ≡ x) ⊎ (min x y ≡ y) → is_among (fold min (min x y) ys) (x ∷ y ∷ ys) ≡ true
least_by x y ys h (inl e) = among_first (fold min (min x y) ys) x y ys (subst (λ (m : ℕ). is_among (fold min (min x y) ys) (m ∷ ys) ≡ true) e h)
least_by x y ys h (inr e) = among_second (fold min (min x y) ys) x y ys (subst (λ (m : ℕ). is_among (fold min (min x y) ys) (m ∷ ys) ≡ true) e h)

least_there : (x : ℕ) (xs : List ℕ) → is_among (fold min x xs) (x ∷ xs) ≡ true
least_there x [] = among_itself x []
least_there x (y ∷ ys) = least_by x y ys (least_there (min x y) ys) (either_least x y)

-- the least of some numbers is among them
least_among : (xs : List ℕ) (w : ℕ) → reduce min xs ≡ Some w → is_among w xs ≡ true
least_among [] w h = absurd (cc)
least_among (x ∷ xs) w h = let e : fold min x xs ≡ w = cc in subst (λ (n : ℕ). is_among n (x ∷ xs) ≡ true) e (least_there x xs)

-- ---- what is left out

module _ {A : Type 0} (cs : List (Command A)) (end : Option (List ℕ)) where
  -- a place is left out of these, which reach a page with this end: nothing that begins there gives a value, and one that stays, at a
  -- lower place, takes all of the page
  pub record IsLeftOut (own rs : List ℕ) (p : ℕ) : Type 0 where
    pub none : list_any (gives_at cs) own ≡ false
    pub last : ℕ
    pub kept : is_among last rs ≡ true
    pub before : last < p
    pub empties : empties_at cs end last ≡ true

  upto_nothing : (o : Option ℕ) → upto o [] ≡ []
  upto_nothing None = refl
  upto_nothing (Some w) = refl

  idle_of_nothing : (b : Bool) (own : List ℕ) → (if b then [] else upto (first_emptying cs end []) []) ≡ []
  idle_of_nothing true own = refl
  idle_of_nothing false own = refl

  pub without_idle-nothing : (own rs : List ℕ) → rs ≡ [] → without_idle cs end own rs ≡ []
  without_idle-nothing own rs e = ap (λ (xs : List ℕ). without_idle cs end own xs) e ∙ idle_of_nothing (list_any (gives_at cs) own) own

  pub same_idle : (xs ys rs qs : List ℕ) → xs ≡ ys → rs ≡ qs → without_idle cs end xs rs ≡ without_idle cs end ys qs
  same_idle xs ys rs qs e f = ap (λ (zs : List ℕ). without_idle cs end zs rs) e ∙ ap (λ (zs : List ℕ). without_idle cs end ys zs) f

  pub all_stay : (own rs : List ℕ) → list_any (gives_at cs) own ≡ true → rs ≡ without_idle cs end own rs
  all_stay own rs h = ap (λ (b : Bool). if b then rs else upto (first_emptying cs end rs) rs) (sym h)

  pub stay_upto : (own rs : List ℕ) (w : ℕ) → list_any (gives_at cs) own ≡ false → first_emptying cs end rs ≡ Some w → without_idle cs end own rs ≡ upto (Some w) rs
  stay_upto own rs w h e = ap (λ (b : Bool). if b then rs else upto (first_emptying cs end rs) rs) h ∙ ap (λ (o : Option ℕ). upto o rs) e

  -- ---- what stays is there, and what doesn't is left out

  upto_there : (o : Option ℕ) (p : ℕ) (rs : List ℕ) → is_among p (upto o rs) ≡ true → is_among p rs ≡ true
  upto_there None p rs h = h
  upto_there (Some w) p rs h = (among_passing (λ q. nat_le q w) p rs h).0

  there_by : (b : Bool) (o : Option ℕ) (p : ℕ) (rs : List ℕ) → is_among p (if b then rs else upto o rs) ≡ true → is_among p rs ≡ true
  there_by true o p rs h = h
  there_by false o p rs h = upto_there o p rs h

  pub stays_there : (own rs : List ℕ) (p : ℕ) → is_among p (without_idle cs end own rs) ≡ true → is_among p rs ≡ true
  stays_there own rs p h = there_by (list_any (gives_at cs) own) (first_emptying cs end rs) p rs h

  beyond_by : (b : Bool) (own rs : List ℕ) (w p : ℕ) → list_any (gives_at cs) own ≡ false → (is_among w rs ≡ true) × (empties_at cs end w ≡ true) → is_among p rs ≡ true → nat_le p w ≡ b
      → (is_among p (upto (Some w) rs) ≡ true) ⊎ IsLeftOut own (upto (Some w) rs) p
  beyond_by true own rs w p n h a e = inl (among_kept (λ q. nat_le q w) p rs a e)
  beyond_by false own rs w p n h a e = inr (record { none = n; last = w; kept = among_kept (λ q. nat_le q w) w rs h.0 (le-leb w w (omega arith)); before = leb-false p w e; empties = h.1 })

  stays_upto : (o : Option ℕ) (own rs : List ℕ) (p : ℕ) → list_any (gives_at cs) own ≡ false → first_emptying cs end rs ≡ o → is_among p rs ≡ true → (is_among p (upto o rs) ≡ true) ⊎ IsLeftOut own (upto o rs) p
  stays_upto None own rs p n e a = inl a
  stays_upto (Some w) own rs p n e a =
      beyond_by (nat_le p w) own rs w p n (among_passing (empties_at cs end) w rs (least_among (filter (empties_at cs end) rs) w e)) a refl

  stays_by : (b : Bool) (own rs : List ℕ) (p : ℕ) → list_any (gives_at cs) own ≡ b → is_among p rs ≡ true
      → (let zs : List ℕ = if b then rs else upto (first_emptying cs end rs) rs in (is_among p zs ≡ true) ⊎ IsLeftOut own zs p)
  stays_by true own rs p e a = inl a
  stays_by false own rs p e a = stays_upto (first_emptying cs end rs) own rs p e refl a

  pub stays_or_not : (own rs : List ℕ) (p : ℕ) → is_among p rs ≡ true → (is_among p (without_idle cs end own rs) ≡ true) ⊎ IsLeftOut own (without_idle cs end own rs) p
  stays_or_not own rs p a = stays_by (list_any (gives_at cs) own) own rs p refl a

  -- some stay if there are any
  some_stay_by : (own rs : List ℕ) (p : ℕ) → (is_among p (without_idle cs end own rs) ≡ true) ⊎ IsLeftOut own (without_idle cs end own rs) p → has_some (without_idle cs end own rs) ≡ true
  some_stay_by own rs p (inl h) = some_among p (without_idle cs end own rs) h
  some_stay_by own rs p (inr l) = some_among l.last (without_idle cs end own rs) l.kept

  pub some_stay : (own rs : List ℕ) → has_some (without_idle cs end own rs) ≡ has_some rs
  some_stay own [] = ap has_some (without_idle-nothing own [] refl)
  some_stay own (r ∷ rs) = some_stay_by own (r ∷ rs) r (stays_or_not own (r ∷ rs) r (among_itself r rs))

  -- ---- they stay in order

  upto_in_order : (o : Option ℕ) (rs : List ℕ) → AreInKeyOrder cs rs → AreInKeyOrder cs (upto o rs)
  upto_in_order None rs h = h
  upto_in_order (Some w) rs h = IsStrictlySortedBy-filter (order_of_places cs) (λ q. nat_le q w) rs h

  in_order_by : (b : Bool) (o : Option ℕ) (rs : List ℕ) → AreInKeyOrder cs rs → AreInKeyOrder cs (if b then rs else upto o rs)
  in_order_by true o rs h = h
  in_order_by false o rs h = upto_in_order o rs h

  pub stays_in_order : (own rs : List ℕ) → AreInKeyOrder cs rs → AreInKeyOrder cs (without_idle cs end own rs)
  stays_in_order own rs h = in_order_by (list_any (gives_at cs) own) (first_emptying cs end rs) rs h
