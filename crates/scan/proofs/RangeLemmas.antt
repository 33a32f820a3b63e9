-- The pairs between two edges, taken from either end: `near` is the edge at which pairs are taken, and `far` the test that a key is on this side of
-- the other edge.
use Rattle.std.specs.Prelude.{◌≡◌, ℕ, Bool, true, false, not, ◌&&◌, ◌||◌, cond, List, [], ◌∷◌, ◌++◌, length, Option, Some, None}
use Rattle.std.proofs.Common.{refl, sym, ap, ◌∙◌, subst, arith, append-nil}
use Rattle.std.specs.List.{AllByRecursion, filter}
use Rattle.std.proofs.lemmas.List.Elements.{filter-append}
use Rattle.keys.specs.Bytes.{Bytes}
use Rattle.keys.specs.Order.{IsRising}
use Rattle.keys.specs.Range.{is_below, is_before, in_range}
use Rattle.keys.proofs.RangeLemmas.{rising-filtered}
use Rattle.scan.specs.Direction.{IsNext, precedes, after}
use Rattle.scan.specs.Edge.{is_beyond, beyond, between, PartAlike}
use Rattle.scan.specs.Prefix.{begins_with, with_prefix}
use Rattle.scan.specs.Range.{IsOwnEdge}
use Rattle.scan.specs.Search.{IsPassed}
use Rattle.scan.specs.RankCounter.{PassesLower}
use Rattle.scan.specs.Walk.{HasNextKey}
use Rattle.scan.specs.declared.direction.Direction.{Direction}
use Rattle.scan.specs.declared.direction.Direction.TheVariants.{Up, Down}
use Rattle.scan.proofs.PrefixLemmas.{lower_begins_not}
use Rattle.scan.proofs.LastLemmas.{each, none_passes, passes_none, passes_alike}
use Rattle.index_page.proofs.ListLemmas.{all_apart}
use Rattle.scan.proofs.DirectionLemmas.{first_there, not_both, same_place}

abbrev Pairs : Type 0
Pairs = List (List ℕ × List ℕ)

-- ---- lists

module _ {X : Type 0} where
  -- a filter of a filter
  pub both_pass : (p q : X → Bool) (xs : List X) → filter q (filter p xs) ≡ filter (λ x. p x && q x) xs
  both_pass p q [] = refl
  both_pass p q (x ∷ xs) = by (p x) (q x) x xs refl (both_pass p q xs)
    where
      by : (b c : Bool) (x : X) (xs : List X) → q x ≡ c → filter q (filter p xs) ≡ filter (λ y. p y && q y) xs → filter q (cond b (x ∷ filter p xs) (filter p xs)) ≡ cond (b && c) (x ∷ filter (λ y. p y && q y) xs) (filter (λ y. p y && q y) xs)
      by true true x xs h ih = rw h (ap (λ (ys : List X). x ∷ ys) ih)
      by true false x xs h ih = rw h ih
      by false true x xs h ih = ih
      by false false x xs h ih = ih

  -- the first of what is left passes, and so comes first of what passes
  pub kept_next : (d : Direction) (p : X → Bool) (x : X) (all rest : List X) → IsNext d all x rest → p x ≡ true → IsNext d (filter p all) x (filter p rest)
  kept_next Up p x all rest h t = ap (λ (ys : List X). filter p ys) h ∙ ap (λ (b : Bool). cond b (x ∷ filter p rest) (filter p rest)) t
  kept_next Down p x all rest h t = ap (λ (ys : List X). filter p ys) h ∙ filter-append p rest (x ∷ []) ∙ ap (λ (b : Bool). filter p rest ++ cond b (x ∷ []) []) t

  -- it doesn't, and nothing after it does
  pub none_next : (d : Direction) (p : X → Bool) (x : X) (all rest : List X) → IsNext d all x rest → p x ≡ false → filter p rest ≡ [] → filter p all ≡ []
  none_next Up p x all rest h f n = ap (λ (ys : List X). filter p ys) h ∙ ap (λ (b : Bool). cond b (x ∷ filter p rest) (filter p rest)) f ∙ n
  none_next Down p x all rest h f n =
      ap (λ (ys : List X). filter p ys) h ∙ filter-append p rest (x ∷ []) ∙ ap (λ (b : Bool). filter p rest ++ cond b (x ∷ []) []) f ∙ append-nil (filter p rest) ∙ n

  -- each that passes passes
  pub passing_pass : (p : X → Bool) (xs : List X) → AllByRecursion (λ x. p x ≡ true) (filter p xs)
  passing_pass p [] = tt
  passing_pass p (x ∷ xs) = by (p x) x (filter p xs) refl (passing_pass p xs)
    where
      by : (b : Bool) (x : X) (kept : List X) → p x ≡ b → AllByRecursion (λ y. p y ≡ true) kept → AllByRecursion (λ y. p y ≡ true) (cond b (x ∷ kept) kept)
      by true x kept h a = (h, a)
      by false x kept h a = a

  -- what holds of all that pass holds of each that passes
  all_passing : (p : X → Bool) (P : X → Type 0) (xs : List X) → AllByRecursion P (filter p xs) → AllByRecursion (λ x. p x ≡ true → P x) xs
  all_passing p P [] a = tt
  all_passing p P (x ∷ xs) a = by (p x) x (filter p xs) refl a (λ r. all_passing p P xs r)
    where
      by : (b : Bool) (x : X) (kept : List X) → p x ≡ b → AllByRecursion P (cond b (x ∷ kept) kept) → (AllByRecursion P kept → AllByRecursion (λ y. p y ≡ true → P y) xs) → (p x ≡ true → P x) × AllByRecursion (λ y. p y ≡ true → P y) xs
      by true x kept h a f = ((λ t. a.0), f a.1)
      by false x kept h a f = ((λ t. absurd (let wrong = sym h ∙ t in cc)), f a)

-- ---- between two edges

pub between-up : (start end : Bytes → Bool) (es : Pairs) → between start end es ≡ filter (λ e. end e.0) (beyond Up start es)
between-up start end es = sym (both_pass (λ (e : List ℕ × List ℕ). not (start e.0)) (λ (e : List ℕ × List ℕ). end e.0) es)

swap_and : (b c : Bool) → (b && c) ≡ (c && b)
swap_and true true = refl
swap_and true false = refl
swap_and false true = refl
swap_and false false = refl

pub all_such : (P : List ℕ × List ℕ → Type 0) → ((e : List ℕ × List ℕ) → P e) → (es : Pairs) → AllByRecursion P es
all_such P f [] = tt
all_such P f (e ∷ es) = (f e, all_such P f es)

pub between-down : (start end : Bytes → Bool) (es : Pairs) → between start end es ≡ filter (λ e. not (start e.0)) (beyond Down end es)
between-down start end es =
    passes_alike (λ (e : List ℕ × List ℕ). not (start e.0) && end e.0) (λ (e : List ℕ × List ℕ). end e.0 && not (start e.0)) es
    (all_such (λ e. (not (start e.0) && end e.0) ≡ (end e.0 && not (start e.0))) (λ e. swap_and (not (start e.0)) (end e.0)) es)
    ∙ sym (both_pass (λ (e : List ℕ × List ℕ). end e.0) (λ (e : List ℕ × List ℕ). not (start e.0)) es)

-- edges that part the pairs alike have the same pairs between them
pub same_between : (s start e end : Bytes → Bool) (es : Pairs) → PartAlike s start es → PartAlike e end es → between s e es ≡ between start end es
same_between s start e end [] a b = refl
same_between s start e end (x ∷ es) a b =
    ap (λ (c : Bool). cond (not c && e x.0) (x ∷ between s e es) (between s e es)) a.0
    ∙ ap (λ (c : Bool). cond (not (start x.0) && c) (x ∷ between s e es) (between s e es)) b.0
    ∙ ap (λ (ys : Pairs). cond (not (start x.0) && end x.0) (x ∷ ys) ys) (same_between s start e end es a.1 b.1)

pub same_beyond : (d : Direction) (s start : Bytes → Bool) (es : Pairs) → PartAlike s start es → beyond d s es ≡ beyond d start es
same_beyond Up s start es a = passes_alike (λ (e : List ℕ × List ℕ). not (s e.0)) (λ (e : List ℕ × List ℕ). not (start e.0)) es (each (λ (e : List ℕ × List ℕ) (q : s e.0 ≡ start e.0). ap not q) es a)
same_beyond Down s start es a = passes_alike (λ (e : List ℕ × List ℕ). s e.0) (λ (e : List ℕ × List ℕ). start e.0) es a

-- ---- a row taken

-- what is on this side of the other edge: with a key, all to which the walk comes before it
abbrev pub PassesEarlier : Direction → (Bytes → Bool) → Type 0
PassesEarlier d far = (k j : Bytes) → precedes d k j ≡ true → far j ≡ true → far k ≡ true

beyond_rises : (d : Direction) (near : Bytes → Bool) (es : Pairs) → IsRising es → IsRising (beyond d near es)
beyond_rises d near es r = rising-filtered (λ e. is_beyond d near e.0) es r

module _ (d : Direction) (all : Pairs) (rising : IsRising all) (k v : List ℕ) (rest : Pairs) (next : IsNext d all (k, v) rest) where
  -- the others are those after the key
  pub others : rest ≡ after d k all
  others = sym (first_there d (k, v) all rest rising next).others

  pub rest_rises : IsRising rest
  rest_rises = subst (λ (xs : Pairs). IsRising xs) (sym others) (rising-filtered (λ e. precedes d k e.0) all rising)

  module _ (far : Bytes → Bool) (earlier : PassesEarlier d far) where
    far_by : (b : Bool) (j : List ℕ) → far j ≡ b → precedes d k j ≡ true → far k ≡ false → b ≡ false
    far_by true j h p f = absurd (let t = sym (earlier k j p h) ∙ f in cc)
    far_by false j h p f = refl

    none_later : (xs : Pairs) → far k ≡ false → AllByRecursion (λ e. precedes d k e.0 ≡ true) xs → filter (λ e. far e.0) xs ≡ []
    none_later xs f a = passes_none (λ e. far e.0) xs (each (λ (e : List ℕ × List ℕ) (p : precedes d k e.0 ≡ true). far_by (far e.0) e.0 refl p f) xs a)

    rest_later : AllByRecursion (λ e. precedes d k e.0 ≡ true) rest
    rest_later = subst (λ (xs : Pairs). AllByRecursion (λ e. precedes d k e.0 ≡ true) xs) (sym others) (passing_pass (λ e. precedes d k e.0) all)

    -- a row
    pub row_taken : far k ≡ true → IsNext d (filter (λ e. far e.0) all) (k, v) (filter (λ e. far e.0) rest)
    row_taken t = kept_next d (λ e. far e.0) (k, v) all rest next t

    -- or none, now and later
    pub no_row : far k ≡ false → (filter (λ e. far e.0) all ≡ []) × (filter (λ e. far e.0) rest ≡ [])
    no_row f = let n = none_later rest f rest_later in (none_next d (λ e. far e.0) (k, v) all rest next f n, n)

-- ---- the edge is moved past the key

pub near_by : (d : Direction) (near : Bytes → Bool) (b : Bool) (k j : List ℕ) → is_beyond d near j ≡ b → is_beyond d near k ≡ true → precedes d k j ≡ true → PassesLower near → b ≡ true
near_by Up near true k j h n p l = refl
near_by Up near false k j h n p l = absurd (up_case (near j) (near k) refl refl)
  where
    -- near holds of j, which is above k, and so of k
    up_case : (a b : Bool) → near j ≡ a → near k ≡ b → ⊥
    up_case true true s t = let wrong : not (near k) ≡ false = ap not t in cc
    up_case true false s t = let u : near k ≡ true = l k j s (not_both Up k j p) in cc
    up_case false b s t = let wrong : not (near j) ≡ true = ap not s in cc
near_by Down near true k j h n p l = refl
near_by Down near false k j h n p l = absurd (let u : near j ≡ true = l j k n (not_both Up j k p) in cc)

-- beyond the new edge lie the others
pub edge_moved : (d : Direction) (near moved : Bytes → Bool) (es : Pairs) (k v : List ℕ) (rest : Pairs) → IsRising es → PassesLower near → IsNext d (beyond d near es) (k, v) rest → is_beyond d near k ≡ true → IsPassed d k moved → rest ≡ beyond d moved es
edge_moved d near moved es k v rest r l h n p =
    others d (beyond d near es) (beyond_rises d near es r) k v rest h
    ∙ both_pass (λ (e : List ℕ × List ℕ). is_beyond d near e.0) (λ (e : List ℕ × List ℕ). precedes d k e.0) es
    ∙ passes_alike (λ (e : List ℕ × List ℕ). is_beyond d near e.0 && precedes d k e.0) (λ (e : List ℕ × List ℕ). is_beyond d moved e.0) es
    (all_such (λ e. (is_beyond d near e.0 && precedes d k e.0) ≡ is_beyond d moved e.0) (λ e. narrower (precedes d k e.0) (is_beyond d near e.0) (λ t. near_by d near (is_beyond d near e.0) k e.0 refl n t l) ∙ sym (p e.0)) es)
  where
    narrower : (q b : Bool) → (q ≡ true → b ≡ true) → (b && q) ≡ q
    narrower true true f = refl
    narrower true false f = absurd (let t = f refl in cc)
    narrower false true f = refl
    narrower false false f = refl

-- ---- an edge of the tree's own

module _ {X : Type 0} (P : X → Type 0) where
  -- what holds of all elements holds of the first
  pub next_holds : (d : Direction) (x : X) (all rest : List X) → IsNext d all x rest → AllByRecursion P all → P x
  next_holds Up x all rest h a = (subst (λ (xs : List X). AllByRecursion P xs) h a).0
  next_holds Down x all rest h a = (all_apart P rest (x ∷ []) (subst (λ (xs : List X). AllByRecursion P xs) h a)).1.0

same_not : (b c : Bool) → not b ≡ not c → b ≡ c
same_not true true q = refl
same_not true false q = absurd (cc)
same_not false true q = absurd (cc)
same_not false false q = refl

same_side : (d : Direction) (own under : Bytes → Bool) (j : List ℕ) → is_beyond d own j ≡ is_beyond d under j → own j ≡ under j
same_side Up own under j q = same_not (own j) (under j) q
same_side Down own under j q = q

module _ (d : Direction) (under own : Bytes → Bool) (es : Pairs) (rising : IsRising es) (lower : PassesLower under) where
  alike_by : (k : List ℕ) (b c p : Bool) (j : List ℕ) → is_beyond d under k ≡ true → is_beyond d under j ≡ b → precedes d j k ≡ c → precedes d k j ≡ p → (b ≡ true → c ≡ false) → not c ≡ b
  alike_by k true true p j own_k s t u q = absurd (let f = q refl in cc)
  alike_by k true false p j own_k s t u q = refl
  alike_by k false true p j own_k s t u q = refl
  alike_by k false false true j own_k s t u q = absurd (let f = near_by d under false k j s own_k u lower in cc)
  alike_by k false false false j own_k s t u q = absurd (let f = subst (λ (i : List ℕ). is_beyond d under i ≡ false) (same_place d j k t u) s in let g = sym f ∙ own_k in cc)

  -- an edge at the first pair beyond another has the same pairs below it
  pub own_alike : (key : Option (List ℕ)) → HasNextKey d key (beyond d under es) → IsOwnEdge d key own → PartAlike own under es
  own_alike None h o = each (λ (x : List ℕ × List ℕ) (q : is_beyond d under x.0 ≡ false). same_side d own under x.0 (o x.0 ∙ sym q)) es (none_passes (λ x. is_beyond d under x.0) es h)
  own_alike (Some k) h o =
      let rises : IsRising (beyond d under es) = rising-filtered (λ x. is_beyond d under x.0) es rising in
      let first = first_there d (k, h.0) (beyond d under es) h.1 rises h.2 in
      let above = none_passes (λ (x : List ℕ × List ℕ). precedes d x.0 k) (beyond d under es) first.none_before in
      let own_k : is_beyond d under k ≡ true = next_holds (λ (x : List ℕ × List ℕ). is_beyond d under x.0 ≡ true) d (k, h.0) (beyond d under es) h.1 h.2 (passing_pass (λ (x : List ℕ × List ℕ). is_beyond d under x.0) es) in
      each (λ (x : List ℕ × List ℕ) (q : is_beyond d under x.0 ≡ true → precedes d x.0 k ≡ false).
      same_side d own under x.0 (o x.0 ∙ alike_by k (is_beyond d under x.0) (precedes d x.0 k) (precedes d k x.0) x.0 own_k refl refl refl q)) es
      (all_passing (λ (x : List ℕ × List ℕ). is_beyond d under x.0) (λ x. precedes d x.0 k ≡ false) es above)

-- an edge has the same pairs below it as itself
pub same_alike : (own under : Bytes → Bool) (es : Pairs) → ((k : List ℕ) → own k ≡ under k) → PartAlike own under es
same_alike own under [] f = tt
same_alike own under (e ∷ es) f = (f e.0, same_alike own under es f)

-- ---- the ranges of keys

-- the pairs between two edges, where they are those of a range
pub between_in_range : (start end : List ℕ → Bool) (lo : List ℕ) (hi : Option (List ℕ)) (es : Pairs) → ((k : List ℕ) → start k ≡ is_below k lo) → ((k : List ℕ) → end k ≡ is_before hi k) → between start end es ≡ in_range lo hi es
between_in_range start end lo hi [] f g = refl
between_in_range start end lo hi (x ∷ es) f g =
    ap (λ (c : Bool). cond (not c && end x.0) (x ∷ between start end es) (between start end es)) (f x.0)
    ∙ ap (λ (c : Bool). cond (not (is_below x.0 lo) && c) (x ∷ between start end es) (between start end es)) (g x.0)
    ∙ ap (λ (ys : Pairs). cond (not (is_below x.0 lo) && is_before hi x.0) (x ∷ ys) ys) (between_in_range start end lo hi es f g)

prefix_by : (p k : List ℕ) (b c : Bool) → is_below k p ≡ b → begins_with p k ≡ c → (not b && (b || c)) ≡ c
prefix_by p k true true s t = absurd (let f = lower_begins_not (begins_with p k) p k refl s in let g = sym t ∙ f in cc)
prefix_by p k true false s t = refl
prefix_by p k false true s t = refl
prefix_by p k false false s t = refl

-- the keys with a prefix lie between these edges
pub between_prefix : (p : List ℕ) (es : Pairs) → between (λ k. is_below k p) (λ k. is_below k p || begins_with p k) es ≡ with_prefix p es
between_prefix p es =
    passes_alike (λ e. not (is_below e.0 p) && (is_below e.0 p || begins_with p e.0)) (λ e. begins_with p e.0) es
    (all_such (λ e. (not (is_below e.0 p) && (is_below e.0 p || begins_with p e.0)) ≡ begins_with p e.0) (λ e. prefix_by p e.0 (is_below e.0 p) (begins_with p e.0) refl refl) es)

-- and all keys begin with no bytes
pub between_all : (p : List ℕ) (es : Pairs) → 0 ≡ length p → between (λ k. false) (λ k. true) es ≡ with_prefix p es
between_all [] es h = passes_alike (λ e. true) (λ e. begins_with [] e.0) es (all_such (λ e. true ≡ begins_with [] e.0) (λ e. refl) es)
between_all (x ∷ p) es h = absurd (omega arith)

-- ---- a turn at either end

pub turn_up : (start end moved : List ℕ → Bool) (es : Pairs) (k v : List ℕ) (rest : Pairs) → IsRising es → PassesLower start → PassesLower end → IsNext Up (beyond Up start es) (k, v) rest → IsPassed Up k moved
    → (rest ≡ beyond Up moved es) × (end k ≡ true → between start end es ≡ (k, v) ∷ between moved end es) × (end k ≡ false → (between start end es ≡ []) × (between moved end es ≡ []))
turn_up start end moved es k v rest r ls le n p =
    let own : is_beyond Up start k ≡ true = next_holds (λ (x : List ℕ × List ℕ). is_beyond Up start x.0 ≡ true) Up (k, v) (beyond Up start es) rest n (passing_pass (λ (x : List ℕ × List ℕ). is_beyond Up start x.0) es) in
    let later = edge_moved Up start moved es k v rest r ls n own p in
    let earlier : PassesEarlier Up end = λ j i q t. le j i t (not_both Up j i q) in
    let left : filter (λ e. end e.0) rest ≡ between moved end es = ap (λ (x : Pairs). filter (λ e. end e.0) x) later ∙ sym (between-up moved end es) in (
      later,
      λ t. between-up start end es ∙ row_taken Up (beyond Up start es) (beyond_rises Up start es r) k v rest n end earlier t ∙ ap (λ (x : Pairs). (k, v) ∷ x) left,
      λ f. let z = no_row Up (beyond Up start es) (beyond_rises Up start es r) k v rest n end earlier f in (between-up start end es ∙ z.0, sym left ∙ z.1),
    )

pub turn_down : (start end moved : List ℕ → Bool) (es : Pairs) (k v : List ℕ) (rest : Pairs) → IsRising es → PassesLower start → PassesLower end → IsNext Down (beyond Down end es) (k, v) rest → IsPassed Down k moved
    → (rest ≡ beyond Down moved es) × (start k ≡ false → between start end es ≡ between start moved es ++ (k, v) ∷ []) × (start k ≡ true → (between start end es ≡ []) × (between start moved es ≡ []))
turn_down start end moved es k v rest r ls le n p =
    let far : List ℕ → Bool = λ j. not (start j) in
    let own : is_beyond Down end k ≡ true = next_holds (λ (x : List ℕ × List ℕ). is_beyond Down end x.0 ≡ true) Down (k, v) (beyond Down end es) rest n (passing_pass (λ (x : List ℕ × List ℕ). is_beyond Down end x.0) es) in
    let later = edge_moved Down end moved es k v rest r le n own p in
    let earlier : PassesEarlier Down far = λ j i q t. above_by start ls j i (start j) refl q t in
    let left : filter (λ e. far e.0) rest ≡ between start moved es = ap (λ (x : Pairs). filter (λ e. far e.0) x) later ∙ sym (between-down start moved es) in (
      later,
      λ f. between-down start end es ∙ row_taken Down (beyond Down end es) (beyond_rises Down end es r) k v rest n far earlier (ap not f) ∙ ap (λ (x : Pairs). x ++ (k, v) ∷ []) left,
      λ t. let z = no_row Down (beyond Down end es) (beyond_rises Down end es r) k v rest n far earlier (ap not t) in (between-down start end es ∙ z.0, sym left ∙ z.1),
    )
  where
    -- i is below j; if i isn't under the edge, j isn't
    above_by : (start : List ℕ → Bool) → PassesLower start → (j i : List ℕ) (b : Bool) → start j ≡ b → is_below i j ≡ true → not (start i) ≡ true → not b ≡ true
    above_by start l j i false s q t = refl
    above_by start l j i true s q t = absurd (let u : start i ≡ true = l i j s (not_both Up i j q) in let w : not (start i) ≡ false = ap not u in cc)

-- no pair is left on one side
pub nothing_up : (start end : List ℕ → Bool) (es : Pairs) → beyond Up start es ≡ [] → between start end es ≡ []
nothing_up start end es h = between-up start end es ∙ ap (λ (x : Pairs). filter (λ e. end e.0) x) h

pub nothing_down : (start end : List ℕ → Bool) (es : Pairs) → beyond Down end es ≡ [] → between start end es ≡ []
nothing_down start end es h = between-down start end es ∙ ap (λ (x : Pairs). filter (λ e. not (start e.0)) x) h
