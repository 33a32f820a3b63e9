-- The rows from the keys of a page and its changes: for the proofs of this crate.
use Rattle.std.specs.Prelude.{◌≡◌, ℕ, zero, suc, ◌+◌, ◌-◌, ◌<◌, ◌≤◌, Bool, true, false, not, cond, ◌&&◌, List, [], ◌∷◌, ◌++◌, length, take, is_some, Option, Some, None, flat_map}
use Rattle.std.proofs.Common.{refl, sym, ap, ◌∙◌, arith, append_assoc, append-nil, length-append, Less, Equal, Greater, Ordering}
use Rattle.std.specs.Borrow.{Bor}
use Rattle.std.specs.List.{AllByRecursion, filter}
use Rattle.std.specs.List.Sorted.{IsStrictlySortedBy}
use Rattle.std.specs.Map.{keys_of}
use Rattle.std.specs.Option.{option_copied}
use Rattle.std.specs.Ordering.{is_eq, is_lt}
use Rattle.std.proofs.lemmas.Map.Entries.{lookup-filter-keys}
use Rattle.keys.specs.Order.{order, IsRising}
use Rattle.keys.specs.OrderedMap.{value_at}
use Rattle.keys.specs.Range.{is_below, is_before, is_within, in_range, rows}
use Rattle.keys.proofs.MapLemmas.{total, passes_same, same_map, value_at_rest}
use Rattle.delta_chain.specs.Layers.{change_or, with_run}
use Rattle.delta_chain.specs.Merging.{asserted, pair_if}
use Rattle.delta_chain.proofs.LayerLemmas.{value_at-with_run, rising-with_run}
use Rattle.delta_chain.proofs.Overlays.{said_over, rising-asserted}
use Rattle.index_page.specs.Page.{as_changes}
use Rattle.scan.specs.Leaf.{from}
use Rattle.page_runs.specs.PageRows.{named_by_either}
use Rattle.page_runs.proofs.PageRows.{rising-as_changes, rising-in_range, rising-named_by_either}

-- those that have a value
abbrev pub present_ones : {V : Type 0} → List (List ℕ × Option V) → List (List ℕ × V)
present_ones changes = flat_map (λ c. pair_if c.0 c.1) changes

-- the rows that they give: those below the end, as many as the limit at most
abbrev pub rows_of_changes : {V : Type 0} → Option (List ℕ) → ℕ → List (List ℕ × Option V) → List (List ℕ × V)
rows_of_changes end limit changes = take limit (filter (λ e. is_before end e.0) (present_ones changes))

with_true : (b : Bool) → (b && true) ≡ b
with_true true = refl
with_true false = refl

not_before : (end : Option (List ℕ)) (k j : List ℕ) → order k j ≡ Less → is_before end k ≡ false → is_before end j ≡ false
not_before None k j l h = absurd (cc)
not_before (Some end) k j l h = by (order j end) refl
  where
    by : (o : Ordering) → order j end ≡ o → is_lt o ≡ false
    by Less e = absurd (let below : is_before (Some end) k ≡ true = rw (total.trans k j end l e) refl in cc)
    by Equal e = refl
    by Greater e = refl

module _ {V : Type 0} where
  -- ---- lookups

  -- what is kept of a map has what the map has, at a key that is kept
  pub value_at-kept : (keeps : List ℕ → Bool) (es : List (List ℕ × V)) (k : List ℕ) → value_at k (filter (λ e. keeps e.0) es) ≡ cond (keeps k) (value_at k es) None
  value_at-kept keeps es k = lookup-filter-keys (λ j. is_eq (order k j)) keeps (keeps k) (λ j p. ap keeps (sym (passes_same k j p))) es

  value_at-as_changes : (ps : List (List ℕ × V)) (q : List ℕ) → change_or (value_at q (as_changes ps)) None ≡ value_at q ps
  value_at-as_changes [] q = refl
  value_at-as_changes (p ∷ ps) q = by (is_eq (order q p.0)) (value_at-as_changes ps q)
    where
      by : (b : Bool) → change_or (value_at q (as_changes ps)) None ≡ value_at q ps → change_or (cond b (Some (Some p.1)) (value_at q (as_changes ps))) None ≡ cond b (Some p.1) (value_at q ps)
      by true h = refl
      by false h = h

  -- ---- those that have a value

  absent_by : (b : Bool) (rest : Option (Option V)) (whole : Option (Option V)) (o : Option V) → rest ≡ cond b None whole → o ≡ change_or rest None → o ≡ change_or (cond b (Some None) rest) None
  absent_by true rest whole o r h = h ∙ ap (λ (t : Option (Option V)). change_or t None) r
  absent_by false rest whole o r h = h

  there_by : (b : Bool) (v : V) (rest : Option (Option V)) (o : Option V) → o ≡ change_or rest None → cond b (Some v) o ≡ change_or (cond b (Some (Some v)) rest) None
  there_by true v rest o h = refl
  there_by false v rest o h = h

  value_at-present : (cs : List (List ℕ × Option V)) (q : List ℕ) → IsRising cs → value_at q (present_ones cs) ≡ change_or (value_at q cs) None
  unfolding IsStrictlySortedBy
  value_at-present [] q r = refl
  value_at-present ((k, None) ∷ cs) q r = absent_by (is_eq (order q k)) (value_at q cs) (value_at q ((k, None) ∷ cs)) (value_at q (present_ones cs)) (value_at_rest (k, None) cs q r) (value_at-present cs q r.1)
  value_at-present ((k, Some v) ∷ cs) q r = there_by (is_eq (order q k)) v (value_at q cs) (value_at q (present_ones cs)) (value_at-present cs q r.1)

  all_present : (P : List ℕ → Type 0) (cs : List (List ℕ × Option V)) → AllByRecursion P (keys_of cs) → AllByRecursion P (keys_of (present_ones cs))
  all_present P [] a = tt
  all_present P ((k, None) ∷ cs) a = all_present P cs a.1
  all_present P ((k, Some v) ∷ cs) a = (a.0, all_present P cs a.1)

  rising-present : (cs : List (List ℕ × Option V)) → IsRising cs → IsRising (present_ones cs)
  unfolding IsStrictlySortedBy
  rising-present [] r = tt
  rising-present ((k, None) ∷ cs) r = rising-present cs r.1
  rising-present ((k, Some v) ∷ cs) r = (all_present (λ j. order k j ≡ Less) cs r.0, rising-present cs r.1)

  -- of the keys of pairs and changes, those that have a value are the pairs under the changes
  present-named_by_either : (ps : List (List ℕ × V)) (cs : List (List ℕ × Option V)) → IsRising ps → IsRising cs → present_ones (named_by_either ps cs) ≡ with_run ps cs
  present-named_by_either ps cs r s =
      let n = rising-named_by_either ps cs r in
      same_map (present_ones (named_by_either ps cs)) (with_run ps cs) (rising-present (named_by_either ps cs) n) (rising-with_run ps cs r)
      (λ q. value_at-present (named_by_either ps cs) q n
      ∙ ap (λ (t : Option (Option V)). change_or t None) (value_at-with_run (as_changes ps) (asserted cs) q (rising-as_changes ps r) (rising-asserted cs s))
      ∙ said_over cs q (value_at q (as_changes ps)) None
      ∙ ap (λ (t : Option V). change_or (value_at q cs) t) (value_at-as_changes ps q)
      ∙ sym (value_at-with_run ps cs q r s))

  -- ---- a part of a map under changes

  said_in_part : (b : Bool) (said : Option (Option V)) (below : Option V) → change_or (cond b said None) (cond b below None) ≡ cond b (change_or said below) None
  said_in_part true said below = refl
  said_in_part false said below = refl

  -- it is that part of the map, under that part of the changes
  pub in_range-with_run : (low : List ℕ) (end : Option (List ℕ)) (m : List (List ℕ × V)) (cs : List (List ℕ × Option V)) → IsRising m → IsRising cs → with_run (in_range low end m) (in_range low end cs) ≡ in_range low end (with_run m cs)
  in_range-with_run low end m cs r s =
      let part = rising-in_range low end m r in
      same_map (with_run (in_range low end m) (in_range low end cs)) (in_range low end (with_run m cs)) (rising-with_run (in_range low end m) (in_range low end cs) part) (rising-in_range low end (with_run m cs) (rising-with_run m cs r))
      (λ q. value_at-with_run (in_range low end m) (in_range low end cs) q part (rising-in_range low end cs s)
      ∙ ap (λ (t : Option V). change_or (value_at q (in_range low end cs)) t) (value_at-kept (is_within low end) m q)
      ∙ ap (λ (t : Option (Option V)). change_or t (cond (is_within low end q) (value_at q m) None)) (lookup-filter-keys (λ j. is_eq (order q j)) (is_within low end) (is_within low end q) (λ j p. ap (is_within low end) (sym (passes_same q j p))) cs)
      ∙ said_in_part (is_within low end q) (value_at q cs) (value_at q m)
      ∙ ap (λ (t : Option V). cond (is_within low end q) t None) (sym (value_at-with_run m cs q r s))
      ∙ sym (value_at-kept (is_within low end) (with_run m cs) q))

  -- the same tests keep the same
  pub kept-same : (f g : List ℕ → Bool) (es : List (List ℕ × V)) → ((k : List ℕ) → f k ≡ g k) → filter (λ e. f e.0) es ≡ filter (λ e. g e.0) es
  kept-same f g [] h = refl
  kept-same f g (e ∷ es) h =
      ap (λ (b : Bool). cond b (e ∷ filter (λ d. f d.0) es) (filter (λ d. f d.0) es)) (h e.0)
      ∙ ap (λ (ds : List (List ℕ × V)). cond (g e.0) (e ∷ ds) ds) (kept-same f g es h)

  -- what two tests keep, one after the other
  pub kept-both : (f g : List ℕ → Bool) (es : List (List ℕ × V)) → filter (λ e. g e.0) (filter (λ e. f e.0) es) ≡ filter (λ e. f e.0 && g e.0) es
  kept-both f g [] = refl
  kept-both f g (e ∷ es) = by (f e.0) (g e.0) refl (kept-both f g es)
    where
      by : (a b : Bool) → g e.0 ≡ b → filter (λ d. g d.0) (filter (λ d. f d.0) es) ≡ filter (λ d. f d.0 && g d.0) es
          → filter (λ d. g d.0) (cond a (e ∷ filter (λ d. f d.0) es) (filter (λ d. f d.0) es)) ≡ cond (a && g e.0) (e ∷ filter (λ d. f d.0 && g d.0) es) (filter (λ d. f d.0 && g d.0) es)
      by true b h ih = ap (λ (ds : List (List ℕ × V)). cond (g e.0) (e ∷ ds) ds) ih
      by false b h ih = ih

  from-in_range : (low : List ℕ) (es : List (List ℕ × V)) → from low es ≡ in_range low None es
  from-in_range low es = kept-same (λ k. not (is_below k low)) (is_within low None) es (λ k. sym (with_true (not (is_below k low))))

  before-in_range : (low : List ℕ) (end : Option (List ℕ)) (es : List (List ℕ × V)) → filter (λ e. is_before end e.0) (in_range low None es) ≡ in_range low end es
  before-in_range low end es =
      kept-both (is_within low None) (is_before end) es
      ∙ kept-same (λ k. is_within low None k && is_before end k) (is_within low end) es (λ k. ap (λ (b : Bool). b && is_before end k) (with_true (not (is_below k low))))

  -- the rows of a page under changes are those that the keys from the low key on give
  pub rows-start : (low : List ℕ) (end : Option (List ℕ)) (limit : ℕ) (m : List (List ℕ × V)) (cs : List (List ℕ × Option V)) → IsRising m → IsRising cs → rows_of_changes end (limit - 0) (named_by_either (from low m) (in_range low None cs)) ≡ rows low end limit (with_run m cs)
  rows-start low end limit m cs r s =
      let whole : limit - 0 ≡ limit = omega arith in
      ap (λ (n : ℕ). rows_of_changes end n (named_by_either (from low m) (in_range low None cs))) whole
      ∙ ap (λ (es : List (List ℕ × V)). rows_of_changes end limit (named_by_either es (in_range low None cs))) (from-in_range low m)
      ∙ ap (λ (es : List (List ℕ × V)). take limit (filter (λ e. is_before end e.0) es))
      (present-named_by_either (in_range low None m) (in_range low None cs) (rising-in_range low None m r) (rising-in_range low None cs s) ∙ in_range-with_run low None m cs r s)
      ∙ ap (λ (es : List (List ℕ × V)). take limit es) (before-in_range low end (with_run m cs))

  -- ---- a step

  pub row-added : (end : Option (List ℕ)) (limit : ℕ) (out all : List (List ℕ × V)) (k : List ℕ) (v : V) (rest : List (List ℕ × Option V)) → length out < limit → is_before end k ≡ true
      → out ++ rows_of_changes end (limit - length out) ((k, Some v) ∷ rest) ≡ all → (out ++ (k, v) ∷ []) ++ rows_of_changes end (limit - length (out ++ (k, v) ∷ [])) rest ≡ all
  row-added end limit out all k v rest few before h =
      let longer : length (out ++ (k, v) ∷ []) ≡ length out + 1 = length-append out ((k, v) ∷ []) in
      let one_more : limit - length out ≡ suc (limit - length (out ++ (k, v) ∷ [])) = omega arith in
      let whole : out ++ (k, v) ∷ rows_of_changes end (limit - length (out ++ (k, v) ∷ [])) rest ≡ all = rw (before, one_more) at h in
      append_assoc out ((k, v) ∷ []) (rows_of_changes end (limit - length (out ++ (k, v) ∷ [])) rest) ∙ whole

  -- at the limit there are no more rows
  pub rows-full : (end : Option (List ℕ)) (limit : ℕ) (out all : List (List ℕ × V)) (rest : List (List ℕ × Option V)) → limit ≤ length out → out ++ rows_of_changes end (limit - length out) rest ≡ all → out ≡ all
  rows-full end limit out all rest full h =
      let none : limit - length out ≡ 0 = omega arith in
      let whole : out ++ [] ≡ all = rw none at h in
      sym (append-nil out) ∙ whole

  pub taken_none : (n : ℕ) → take {A = List ℕ × V} n [] ≡ []
  taken_none zero = refl
  taken_none (suc n) = refl

  -- nor after the last key
  pub rows-none : (end : Option (List ℕ)) (n : ℕ) (out all : List (List ℕ × V)) (rest : List (List ℕ × Option V)) → rest ≡ [] → out ++ rows_of_changes end n rest ≡ all → out ≡ all
  rows-none end n out all rest e h =
      let whole : out ++ take n [] ≡ all = rw e at h in
      sym (append-nil out) ∙ ap (λ (es : List (List ℕ × V)). out ++ es) (sym (taken_none n)) ∙ whole

  none_kept : (end : Option (List ℕ)) (k : List ℕ) (es : List (List ℕ × V)) → is_before end k ≡ false → AllByRecursion (λ j. order k j ≡ Less) (keys_of es) → filter (λ e. is_before end e.0) es ≡ []
  none_kept end k [] h a = refl
  none_kept end k (e ∷ es) h a = rw (not_before end k e.0 a.0 h) (none_kept end k es h a.1)

  none_after : (end : Option (List ℕ)) (k : List ℕ) (o : Option V) (rest : List (List ℕ × Option V)) → IsRising ((k, o) ∷ rest) → is_before end k ≡ false → filter (λ e. is_before end e.0) (present_ones ((k, o) ∷ rest)) ≡ []
  unfolding IsStrictlySortedBy
  none_after end k None rest r h = none_kept end k (present_ones rest) h (all_present (λ j. order k j ≡ Less) rest r.0)
  none_after end k (Some v) rest r h = rw h (none_kept end k (present_ones rest) h (all_present (λ j. order k j ≡ Less) rest r.0))

  -- nor from a key on that isn't below the end
  pub rows-past : (end : Option (List ℕ)) (n : ℕ) (out all : List (List ℕ × V)) (k : List ℕ) (o : Option V) (rest : List (List ℕ × Option V)) → IsRising ((k, o) ∷ rest) → is_before end k ≡ false
      → out ++ rows_of_changes end n ((k, o) ∷ rest) ≡ all → out ≡ all
  rows-past end n out all k o rest r h t =
      sym (append-nil out) ∙ ap (λ (es : List (List ℕ × V)). out ++ es) (sym (ap (λ (es : List (List ℕ × V)). take n es) (none_after end k o rest r h) ∙ taken_none n)) ∙ t

  -- an absent key gives no row
  pub row-absent : (end : Option (List ℕ)) (n : ℕ) (out all : List (List ℕ × V)) (k : List ℕ) (o : Option (Bor V)) (rest : List (List ℕ × Option V)) → ((x : Bor V) → o ≡ Some x → ⊥)
      → out ++ rows_of_changes end n ((k, option_copied o) ∷ rest) ≡ all → out ++ rows_of_changes end n rest ≡ all
  row-absent end n out all k None rest a h = h
  row-absent end n out all k (Some x) rest a h = absurd (a x refl)

-- ---- the keys of a range

-- those of the pairs that changes give below an end
abbrev pub keys_of_changes : {V : Type 0} → Option (List ℕ) → List (List ℕ × Option V) → List (List ℕ)
keys_of_changes end changes = keys_of (filter (λ e. is_before end e.0) (present_ones changes))

module _ {V : Type 0} where
  pub keys-start : (low : List ℕ) (end : Option (List ℕ)) (m : List (List ℕ × V)) (cs : List (List ℕ × Option V)) → IsRising m → IsRising cs → keys_of_changes end (named_by_either (from low m) (in_range low None cs)) ≡ keys_of (in_range low end (with_run m cs))
  keys-start low end m cs r s =
      ap (λ (es : List (List ℕ × V)). keys_of_changes end (named_by_either es (in_range low None cs))) (from-in_range low m)
      ∙ ap (λ (es : List (List ℕ × V)). keys_of (filter (λ e. is_before end e.0) es))
      (present-named_by_either (in_range low None m) (in_range low None cs) (rising-in_range low None m r) (rising-in_range low None cs s) ∙ in_range-with_run low None m cs r s)
      ∙ ap (λ (es : List (List ℕ × V)). keys_of es) (before-in_range low end (with_run m cs))

  pub key-added : (end : Option (List ℕ)) (out all : List (List ℕ)) (k : List ℕ) (v : V) (rest : List (List ℕ × Option V)) → is_before end k ≡ true → out ++ keys_of_changes end ((k, Some v) ∷ rest) ≡ all → (out ++ k ∷ []) ++ keys_of_changes end rest ≡ all
  key-added end out all k v rest before h =
      let whole : out ++ k ∷ keys_of_changes end rest ≡ all = rw before at h in
      append_assoc out (k ∷ []) (keys_of_changes end rest) ∙ whole

  pub keys-none : (end : Option (List ℕ)) (out all : List (List ℕ)) (rest : List (List ℕ × Option V)) → rest ≡ [] → out ++ keys_of_changes end rest ≡ all → out ≡ all
  keys-none end out all rest e h =
      let whole : out ++ [] ≡ all = rw e at h in
      sym (append-nil out) ∙ whole

  pub keys-past : (end : Option (List ℕ)) (out all : List (List ℕ)) (k : List ℕ) (o : Option V) (rest : List (List ℕ × Option V)) → IsRising ((k, o) ∷ rest) → is_before end k ≡ false → out ++ keys_of_changes end ((k, o) ∷ rest) ≡ all → out ≡ all
  keys-past end out all k o rest r h t =
      sym (append-nil out) ∙ ap (λ (es : List (List ℕ × V)). out ++ keys_of es) (sym (none_after end k o rest r h)) ∙ t

  pub key-absent : (end : Option (List ℕ)) (out all : List (List ℕ)) (k : List ℕ) (o : Option (Bor V)) (rest : List (List ℕ × Option V)) → is_some o ≡ false → out ++ keys_of_changes end ((k, option_copied o) ∷ rest) ≡ all → out ++ keys_of_changes end rest ≡ all
  key-absent end out all k None rest a h = h
  key-absent end out all k (Some x) rest a h = absurd (cc)

  pub key-present : (end : Option (List ℕ)) (out all : List (List ℕ)) (k : List ℕ) (o : Option (Bor V)) (rest : List (List ℕ × Option V)) → is_some o ≡ true → is_before end k ≡ true → out ++ keys_of_changes end ((k, option_copied o) ∷ rest) ≡ all → (out ++ k ∷ []) ++ keys_of_changes end rest ≡ all
  key-present end out all k None rest a b h = absurd (cc)
  key-present end out all k (Some x) rest a b h = key-added end out all k x.now rest b h
