-- Values that are moved out of joined leaves: the next one is in the chain, or else the next leaf begins with it.
use Rattle.std.specs.Prelude.{◌≡◌, ◌≢◌, ◌<◌, ◌≤◌, ℕ, zero, suc, Bool, true, false, Box, List, [], ◌∷◌, ◌++◌, map, flat_map, drop, length, set, get_or, slice_get, Option, Some, None, is_some}
use Rattle.std.proofs.Common.{refl, sym, ap, ◌∙◌, subst, arith, Less}
use Rattle.std.specs.Option.{unwrap_or}
use Rattle.std.specs.List.{AllByRecursion}
use Rattle.std.specs.Map.{keys_of}
use Rattle.std.proofs.lemmas.List.{drop_all}
use Rattle.std.proofs.lemmas.Map.Keys.{sorted_head, sorted_tail}
use Rattle.keys.specs.Order.{order, IsRising}
use Rattle.keys.specs.OrderedMap.{value_at}
use Rattle.keys.proofs.MapLemmas.{order_itself, is_itself, is_apart}
use Rattle.delta_chain.specs.Exchange.{exchanged_at, exchanged}
use Rattle.delta_chain.specs.Lazy.{Lazy, seen}
use Rattle.delta_chain.specs.Layers.{Layers, holds, entries_of, IsInOrder}
use Rattle.delta_chain.proofs.Exchanging.{rising-exchanged, holds-exchanged_elsewhere}
use Rattle.delta_chain.proofs.LayerLemmas.{rising-entries_of, value_at-entries_of}
use Rattle.delta_chain.proofs.LazyLemmas.{seen-early}
use Rattle.delta_chain.proofs.Places.{front_under}
use Rattle.index_page.specs.InMemory.{InMemory, page_shown}
use Rattle.index_page.specs.InMemory.InMemory.{LeafInMemory, IndexInMemory}
use Rattle.index_page.specs.Page.{PageOfKind, bare, entries, IsLeaf, leaf_of}
use Rattle.index_page.specs.Page.PageOfKind.{Leaf}
use Rattle.index_page.proofs.ListLemmas.{all_apart, all_weaker}
use Rattle.split_plan.specs.Frames.{frame_in}
use Rattle.split_plan.specs.Frames.Frame.{LeafFrame}
use Rattle.split_plan.specs.Moving.{HasLeft}
use Rattle.split_plan.specs.Pieces.{joined_pages}
use Rattle.split_plan.proofs.Stages.{AreDone, next_is, one_done, all_done, none_done}

all_zip : {X : Type 0} (P Q R : X → Type 0) → ((x : X) → P x → Q x → R x) → (xs : List X) → AllByRecursion P xs → AllByRecursion Q xs → AllByRecursion R xs
all_zip P Q R f [] a b = tt
all_zip P Q R f (x ∷ xs) a b = (f x a.0 b.0, all_zip P Q R f xs a.1 b.1)

-- ---- rising entries

apart_above : (k q : List ℕ) → order k q ≡ Less → q ≢ k
apart_above k q less e = let same = order_itself k in absurd (let wrong : order k k ≡ Less = rw e at less in cc)

module _ {V : Type 0} where
  all_above : (k : List ℕ) (es : List (List ℕ × V)) → AllByRecursion (λ j. order k j ≡ Less) (keys_of es) → AllByRecursion (λ e. e.0 ≢ k) es
  all_above k [] a = tt
  all_above k (e ∷ es) a = (apart_above k e.0 a.0, all_above k es a.1)

  -- the entries after the first have other keys
  later_apart : (e : List ℕ × V) (es : List (List ℕ × V)) → IsRising (e ∷ es) → AllByRecursion (λ f. f.0 ≢ e.0) es
  later_apart e es r = all_above e.0 es (sorted_head order e.0 (keys_of es) r)

  value_here : (e : List ℕ × V) (es : List (List ℕ × V)) → value_at e.0 (e ∷ es) ≡ Some e.1
  value_here e es = rw (is_itself e.0) refl

  value_later : (e : List ℕ × V) (es : List (List ℕ × V)) (q : List ℕ) → q ≢ e.0 → value_at q (e ∷ es) ≡ value_at q es
  value_later e es q n = rw (is_apart q e.0 n) refl

  -- each entry is the one that is found at its key
  each_found : (es : List (List ℕ × V)) → IsRising es → AllByRecursion (λ e. value_at e.0 es ≡ Some e.1) es
  each_found [] r = tt
  each_found (e ∷ es) r = (
    value_here e es,
    all_zip (λ f. f.0 ≢ e.0) (λ f. value_at f.0 es ≡ Some f.1) (λ f. value_at f.0 (e ∷ es) ≡ Some f.1) (λ f n h. value_later e es f.0 n ∙ h) es (later_apart e es r)
        (each_found es (sorted_tail order e.0 (keys_of es) r)),
  )

  none_at_all : (es : List (List ℕ × V)) → AllByRecursion (λ e. value_at {V = V} e.0 [] ≡ None) es
  none_at_all [] = tt
  none_at_all (e ∷ es) = (refl, none_at_all es)

  -- the keys of later entries are not found among earlier ones
  none_found : (own later : List (List ℕ × V)) → IsRising (own ++ later) → AllByRecursion (λ e. value_at e.0 own ≡ None) later
  none_found [] later r = none_at_all later
  none_found (o ∷ own) later r =
      let apart = (all_apart (λ f. f.0 ≢ o.0) own later (later_apart o (own ++ later) r)).1 in
      all_zip (λ f. f.0 ≢ o.0) (λ f. value_at f.0 own ≡ None) (λ f. value_at f.0 (o ∷ own) ≡ None) (λ f n h. value_later o own f.0 n ∙ h) later apart
      (none_found own later (sorted_tail order o.0 (keys_of (own ++ later)) r))

-- ---- what is left

abbrev Held : Type 0
Held = List ℕ × List ℕ

abbrev rest_of : List PageOfKind → List Held
rest_of leaves = joined_pages (map leaf_of leaves)

-- a chain from which nothing was moved, and the leaves after it
pub all_left : (c : Layers (List ℕ)) (leaves : List PageOfKind) → IsInOrder c → AllByRecursion IsLeaf leaves → IsRising (entries_of c ++ rest_of leaves) → HasLeft c leaves (entries_of c ++ rest_of leaves)
all_left c leaves order_is are rising =
    let own : List Held = entries_of c in
    record {
      own = own;
      parted = refl;
      held = all_weaker (λ e. value_at e.0 own ≡ Some e.1) (λ e. holds c e.0 ≡ Some e.1) (λ e h. sym (value_at-entries_of c e.0 order_is) ∙ h) own (each_found own (rising-entries_of c order_is));
      others = all_weaker (λ e. value_at e.0 own ≡ None) (λ e. holds c e.0 ≡ None) (λ e h. sym (value_at-entries_of c e.0 order_is) ∙ h) (rest_of leaves) (none_found own (rest_of leaves) rising);
      in_order = order_is;
      are_leaves = are;
      rising = rising;
    }

found_by : (c : Layers (List ℕ)) (leaves : List PageOfKind) (k v w : List ℕ) (es own : List Held) → HasLeft c leaves ((k, v) ∷ es) → (k, v) ∷ es ≡ own ++ rest_of leaves → AllByRecursion (λ e. holds c e.0 ≡ Some e.1) own → holds c k ≡ Some w
    → (w ≡ v) × ((b : List ℕ) → HasLeft (exchanged c k b) leaves es)
found_by c leaves k v w es [] h parted held f =
    let none : holds c k ≡ None = (subst (λ (xs : List Held). AllByRecursion (λ e. holds c e.0 ≡ None) xs) (sym parted) h.others).0 in absurd (cc)
found_by c leaves k v w es (o ∷ own) h parted held f =
    let first : (k, v) ≡ o = cc in
    let rest : es ≡ own ++ rest_of leaves = cc in
    let key : k ≡ o.0 = ap (λ (x : Held). x.0) first in
    let here : Some w ≡ Some o.1 = sym f ∙ ap (λ (q : List ℕ). holds c q) key ∙ held.0 in
    let value : w ≡ o.1 = cc in
    let apart = all_apart (λ e. e.0 ≢ k) own (rest_of leaves) (subst (λ (xs : List Held). AllByRecursion (λ e. e.0 ≢ k) xs) rest (later_apart (k, v) es h.rising)) in (
      value ∙ sym (ap (λ (x : Held). x.1) first),
      λ b. record {
        own = own;
        parted = rest;
        held = all_zip (λ e. e.0 ≢ k) (λ e. holds c e.0 ≡ Some e.1) (λ e. holds (exchanged c k b) e.0 ≡ Some e.1) (λ e n g. holds-exchanged_elsewhere c k e.0 b h.in_order n ∙ g) own apart.0 held.1;
        others = all_zip (λ e. e.0 ≢ k) (λ e. holds c e.0 ≡ None) (λ e. holds (exchanged c k b) e.0 ≡ None) (λ e n g. holds-exchanged_elsewhere c k e.0 b h.in_order n ∙ g) (rest_of leaves) apart.1 h.others;
        in_order = rising-exchanged c k b h.in_order;
        are_leaves = h.are_leaves;
        rising = sorted_tail order k (keys_of es) h.rising;
      },
    )

-- what the chain holds at the next key is the next value, and after it was moved the other entries are left
pub found : (c : Layers (List ℕ)) (leaves : List PageOfKind) (k v w : List ℕ) (es : List Held) → HasLeft c leaves ((k, v) ∷ es) → holds c k ≡ Some w → (w ≡ v) × ((b : List ℕ) → HasLeft (exchanged c k b) leaves es)
found c leaves k v w es h f = found_by c leaves k v w es h.own h h.parted h.held f

missed_by : (c : Layers (List ℕ)) (leaves : List PageOfKind) (k v : List ℕ) (es own : List Held) → (k, v) ∷ es ≡ own ++ rest_of leaves → AllByRecursion (λ e. holds c e.0 ≡ Some e.1) own → holds c k ≡ None → (k, v) ∷ es ≡ rest_of leaves
missed_by c leaves k v es [] parted held f = parted
missed_by c leaves k v es (o ∷ own) parted held f =
    let first : (k, v) ≡ o = cc in
    let here : holds c k ≡ Some o.1 = ap (λ (x : Held). holds c x.0) first ∙ held.0 in absurd (cc)

-- if it holds nothing there, all that is left is in the leaves
pub missed : (c : Layers (List ℕ)) (leaves : List PageOfKind) (k v : List ℕ) (es : List Held) → HasLeft c leaves ((k, v) ∷ es) → holds c k ≡ None → (k, v) ∷ es ≡ rest_of leaves
missed c leaves k v es h f = missed_by c leaves k v es h.own h.parted h.held f

-- ---- the steps of the code

-- the next leaf has all that is left
pub next_leaf : (c : Layers (List ℕ)) (leaves rest : List PageOfKind) (leaf : PageOfKind) → leaves ≡ leaf ∷ rest → AllByRecursion IsLeaf leaves → IsRising (rest_of leaves) → entries_of c ≡ entries (leaf_of leaf) → IsInOrder c → HasLeft c rest (rest_of leaves)
next_leaf c leaves rest leaf e are rising h order_is =
    let same : entries_of c ++ rest_of rest ≡ rest_of leaves = ap (λ (es : List Held). es ++ rest_of rest) h ∙ ap (λ (ps : List PageOfKind). rest_of ps) (sym e) in
    let later = (subst (λ (ps : List PageOfKind). AllByRecursion IsLeaf ps) e are).1 in
    subst (λ (es : List Held). HasLeft c rest es) same (all_left c rest order_is later (subst (λ (es : List Held). IsRising es) (sym same) rising))

pub not_here : (c : Layers (List ℕ)) (k : List ℕ) (said : Bool) → said ≡ is_some (holds c k) → said ≡ false → holds c k ≡ None
not_here c k said e n = by (holds c k) refl (sym e ∙ n)
  where
    by : (o : Option (List ℕ)) → holds c k ≡ o → is_some o ≡ false → holds c k ≡ None
    by None h f = h
    by (Some w) h f = absurd (cc)

-- if it isn't in the chain, there is a next leaf
pub goes_on : (c : Layers (List ℕ)) (leaves : List PageOfKind) (k v : List ℕ) (es : List Held) → HasLeft c leaves ((k, v) ∷ es) → holds c k ≡ None → (0 < length leaves) × AllByRecursion IsLeaf leaves × IsRising (rest_of leaves)
goes_on c leaves k v es h f =
    let all = missed c leaves k v es h f in
    (some leaves all, h.are_leaves, subst (λ (xs : List Held). IsRising xs) all h.rising)
  where
    some : (ps : List PageOfKind) → (k, v) ∷ es ≡ rest_of ps → 0 < length ps
    some [] e = absurd (cc)
    some (p ∷ ps) e = omega arith

pub moved : (c new : Layers (List ℕ)) (leaves : List PageOfKind) (k v old value : List ℕ) (es : List Held) (said : Bool) → HasLeft c leaves ((k, v) ∷ es) → said ≡ is_some (holds c k) → said ≡ true → value ≡ unwrap_or (holds c k) old → new ≡ exchanged c k old → (value ≡ v) × HasLeft new leaves es
moved c new leaves k v old value es said h e y a n = by (holds c k) refl (sym e ∙ y)
  where
    by : (o : Option (List ℕ)) → holds c k ≡ o → is_some o ≡ true → (value ≡ v) × HasLeft new leaves es
    by None g f = absurd (cc)
    by (Some w) g f =
        let is = found c leaves k v w es h g in
        (a ∙ ap (λ (o : Option (List ℕ)). unwrap_or o old) g ∙ is.0, subst (λ (d : Layers (List ℕ)). HasLeft d leaves es) (sym n) (is.1 old))

-- ---- a base whose cells are filled

abbrev SameKey : Held → Held → Type 0
SameKey b e = b.0 ≡ e.0

abbrev Same : Held → Held → Type 0
Same b e = b ≡ e

-- the cells before the place are filled
abbrev pub AreFilled : List (List ℕ × List ℕ) → List (List ℕ × List ℕ) → ℕ → Type 0
AreFilled bs es n = AreDone SameKey Same bs es n

pub length_keys : (bs es : List (List ℕ × List ℕ)) → keys_of bs ≡ keys_of es → length bs ≡ length es
length_keys [] [] h = refl
length_keys [] (e ∷ es) h = absurd (cc)
length_keys (b ∷ bs) [] h = absurd (cc)
length_keys (b ∷ bs) (e ∷ es) h = let rest : keys_of bs ≡ keys_of es = cc in ap suc (length_keys bs es rest)

pub none_filled : (bs es : List (List ℕ × List ℕ)) → keys_of bs ≡ keys_of es → AreFilled bs es 0
none_filled [] [] h = tt
none_filled [] (e ∷ es) h = absurd (cc)
none_filled (b ∷ bs) [] h = absurd (cc)
none_filled (b ∷ bs) (e ∷ es) h =
    let first : b.0 ≡ e.0 = cc in
    let rest : keys_of bs ≡ keys_of es = cc in
    (first, none_filled bs es rest)

pub one_filled : (bs es rest : List (List ℕ × List ℕ)) (n : ℕ) (k v : List ℕ) → AreFilled bs es n → n < length bs → drop n es ≡ (k, v) ∷ rest → AreFilled (exchanged_at bs n v) es (suc n)
one_filled [] es rest n k v d l h = absurd (omega arith)
one_filled (b ∷ bs) [] rest n k v d l h = absurd d
one_filled (b ∷ bs) (e ∷ es) rest zero k v d l h =
    let value : e.1 ≡ v = ap (λ (x : Held). x.1) (let same : e ≡ (k, v) = cc in same) in
    let pair : List ℕ → List ℕ → Held = λ x y. (x, y) in
    (ap (λ (x : List ℕ). pair x v) d.0 ∙ ap (λ (y : List ℕ). pair e.0 y) (sym value), d.1)
one_filled (b ∷ bs) (e ∷ es) rest (suc n) k v d l h = let m : n < length bs = omega arith in (d.0, one_filled bs es rest n k v d.1 m h)

pub all_filled : (bs es : List (List ℕ × List ℕ)) (n : ℕ) → AreFilled bs es n → length bs ≤ n → bs ≡ es
all_filled [] [] n d l = refl
all_filled [] (e ∷ es) n d l = absurd d
all_filled (b ∷ bs) [] n d l = absurd d
all_filled (b ∷ bs) (e ∷ es) zero d l = absurd (omega arith)
all_filled (b ∷ bs) (e ∷ es) (suc n) d l =
    let m : length bs ≤ n = omega arith in
    ap (λ (x : Held). x ∷ bs) d.0 ∙ ap (λ (xs : List Held). e ∷ xs) (all_filled bs es n d.1 m)

-- what is left after the last place
pub past_end : (c : Layers (List ℕ)) (leaves : List PageOfKind) (base es : List (List ℕ × List ℕ)) (n : ℕ) → length base ≤ n → HasLeft c leaves (drop n base ++ es) → HasLeft c leaves es
past_end c leaves base es n l h = subst (λ (xs : List Held). HasLeft c leaves (xs ++ es)) (drop_all n base l) h

-- the next key is that of the place
pub next_left : (c : Layers (List ℕ)) (leaves : List PageOfKind) (bs base es : List (List ℕ × List ℕ)) (n : ℕ) (k : List ℕ) → keys_of bs ≡ keys_of base → slice_get (keys_of bs) n ≡ Some k → HasLeft c leaves (drop n base ++ es)
    → (v : List ℕ) × (drop n base ≡ (k, v) ∷ drop (suc n) base) × HasLeft c leaves ((k, v) ∷ (drop (suc n) base ++ es))
next_left c leaves bs base es n k same at h =
    let front = front_under base n k (ap (λ (ks : List (List ℕ)). slice_get ks n) (sym same) ∙ at) in
    (front.0, front.1, subst (λ (xs : List Held). HasLeft c leaves (xs ++ es)) front.1 h)

-- ---- new leaves that are filled

pub is_leaf_by : (m : InMemory) (low : List ℕ) (runs : List (List (List ℕ × Option (List ℕ)))) (ks : List (List ℕ)) → frame_in m ≡ LeafFrame low runs ks → IsLeaf (page_shown m)
is_leaf_by (LeafInMemory low lazy) l runs ks h = tt
is_leaf_by (IndexInMemory low chain) l runs ks h = absurd (cc)

pub low_by : (m : InMemory) (l low : List ℕ) (lazy : Lazy (List ℕ)) (runs : List (List (List ℕ × Option (List ℕ)))) (ks : List (List ℕ)) → m ≡ LeafInMemory l lazy → frame_in m ≡ LeafFrame low runs ks → l ≡ low
low_by m l low lazy runs ks e h = let frame : frame_in (LeafInMemory l lazy) ≡ LeafFrame low runs ks = ap frame_in (sym e) ∙ h in cc

pub runs_by : (m : InMemory) (l low : List ℕ) (lazy : Lazy (List ℕ)) (runs : List (List (List ℕ × Option (List ℕ)))) (ks : List (List ℕ)) → m ≡ LeafInMemory l lazy → frame_in m ≡ LeafFrame low runs ks → lazy.chain.runs ≡ runs
runs_by m l low lazy runs ks e h = let frame : frame_in (LeafInMemory l lazy) ≡ LeafFrame low runs ks = ap frame_in (sym e) ∙ h in cc

pub keys_by : (m : InMemory) (l low : List ℕ) (lazy : Lazy (List ℕ)) (runs : List (List (List ℕ × Option (List ℕ)))) (ks : List (List ℕ)) → m ≡ LeafInMemory l lazy → frame_in m ≡ LeafFrame low runs ks → keys_of lazy.chain.base ≡ ks
keys_by m l low lazy runs ks e h = let frame : frame_in (LeafInMemory l lazy) ≡ LeafFrame low runs ks = ap frame_in (sym e) ∙ h in cc

pub leaf_shown : (m : InMemory) (l low : List ℕ) (lazy : Lazy (List ℕ)) (chain : Layers (List ℕ)) (held base : List (List ℕ × List ℕ)) → m ≡ LeafInMemory l lazy → lazy ≡ record { chain = chain; merged_runs = 0 } → chain ≡ record { runs = []; base = held } → l ≡ low → held ≡ base → page_shown m ≡ Leaf (bare low base)
leaf_shown m l low lazy chain held base e a b f g =
    let leaf : List ℕ → Layers (List ℕ) → PageOfKind = λ x p. Leaf (record { low = x; layers = p }) in
    ap page_shown e
    ∙ ap (λ (x : Lazy (List ℕ)). leaf l (seen x)) a
    ∙ ap (λ (p : Layers (List ℕ)). leaf l p) (seen-early chain ∙ b)
    ∙ ap (λ (x : List ℕ). leaf x (record { runs = []; base = held })) f
    ∙ ap (λ (es : List Held). Leaf (bare low es)) g

abbrev Part : Type 0
Part = List ℕ × List (List ℕ × List ℕ)

module _ {Z : Type 0} where
  abbrev IsBlank : Box InMemory Z → Part → Type 0
  IsBlank m b = frame_in m.value ≡ LeafFrame b.0 [] (keys_of b.1)

  abbrev IsShown : Box InMemory Z → Part → Type 0
  IsShown m b = page_shown m.value ≡ Leaf (bare b.0 b.1)

  -- the leaves before the place are filled
  abbrev pub AreComplete : List (Box InMemory Z) → List (List ℕ × List (List ℕ × List ℕ)) → ℕ → Type 0
  AreComplete ms bs n = AreDone IsBlank IsShown ms bs n

  pub none_complete : (ms : List (Box InMemory Z)) (bs : List (List ℕ × List (List ℕ × List ℕ))) → map (λ m. frame_in m.value) ms ≡ map (λ b. LeafFrame b.0 [] (keys_of b.1)) bs → AreComplete ms bs 0
  none_complete ms bs h = none_done IsBlank IsShown (λ (m : Box InMemory Z). frame_in m.value) (λ (b : Part). LeafFrame b.0 [] (keys_of b.1)) (λ m b e. e) ms bs h

  pub all_complete : (ms : List (Box InMemory Z)) (bs : List (List ℕ × List (List ℕ × List ℕ))) (n : ℕ) → AreComplete ms bs n → length ms ≤ n → map (λ m. page_shown m.value) ms ≡ map (λ b. Leaf (bare b.0 b.1)) bs
  all_complete ms bs n d l = all_done IsBlank IsShown (λ (m : Box InMemory Z). page_shown m.value) (λ (b : Part). Leaf (bare b.0 b.1)) (λ m b e. e) ms bs n d l

  -- the next leaf is blank, and what is left are its entries and those of the later leaves
  pub next_blank : (c : Layers (List ℕ)) (leaves : List PageOfKind) (ms : List (Box InMemory Z)) (bs : List (List ℕ × List (List ℕ × List ℕ))) (n : ℕ) (m : Box InMemory Z) → AreComplete ms bs n → n < length ms → m ≡ get_or ms n m → HasLeft c leaves (flat_map (λ b. b.1) (drop n bs))
      → (b : List ℕ × List (List ℕ × List ℕ)) × (drop n bs ≡ b ∷ drop (suc n) bs) × (frame_in m.value ≡ LeafFrame b.0 [] (keys_of b.1)) × HasLeft c leaves (b.1 ++ flat_map (λ b. b.1) (drop (suc n) bs))
  next_blank c leaves ms bs n m d l e h =
      let next = next_is IsBlank IsShown ms bs n m d l e in
      (next.0, next.1, next.2, subst (λ (xs : List Part). HasLeft c leaves (flat_map (λ b. b.1) xs)) next.1 h)

  pub one_complete : (ms : List (Box InMemory Z)) (bs : List (List ℕ × List (List ℕ × List ℕ))) (n : ℕ) (m : Box InMemory Z) (b : List ℕ × List (List ℕ × List ℕ)) → AreComplete ms bs n → n < length ms → drop n bs ≡ b ∷ drop (suc n) bs → page_shown m.value ≡ Leaf (bare b.0 b.1) → AreComplete (set ms n m) bs (suc n)
  one_complete ms bs n m b d l h a = one_done IsBlank IsShown ms bs (drop (suc n) bs) n m b d l h a
