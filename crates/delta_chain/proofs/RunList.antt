-- The list of a chain's runs, oldest first, and the page that they form.
use Rattle.std.specs.Prelude.{◌≡◌, ℕ, zero, suc, ◌+◌, ◌-◌, ◌<◌, ◌≤◌, ◌^◌, List, [], ◌∷◌, ◌++◌, length, min, get_or, take, drop, reverse, slice_get, Some}
use Rattle.std.proofs.Common.{refl, sym, ap, ◌∙◌, arith}
use Rattle.std.specs.List.{sum_by}
use Rattle.std.proofs.lemmas.List.{reverse-append, length-reverse, take_all, take_at, take_rest}
use Rattle.std.proofs.lemmas.List.Sums.{sum_by-cons, sum_by_push, sum_by_more}
use Rattle.keys.specs.Bytes.{Changes}
use Rattle.keys.specs.Order.{IsRising}
use Rattle.delta_chain.specs.Exchange.{exchanged}
use Rattle.delta_chain.specs.Layers.{Layers, entries_under, AllRise}
use Rattle.delta_chain.specs.Merging.{joined_changes, overlaid}
use Rattle.delta_chain.specs.Counted.{IsCounted}
use Rattle.delta_chain.proofs.Counts.{least_with_run, still_fewest, still_most, most_before}
use Rattle.delta_chain.proofs.LazyLemmas.{reverse-oldest, reverse-newer}
use Rattle.delta_chain.proofs.Exchanging.{counted_exchanged}

more_by : (named n more top sum all run : ℕ) → named ≡ min sum top → n ≡ run → more ≡ min (named + n) top → all ≡ sum + run → more ≡ min all top
more_by named n more top sum all run e s t h = omega (arith, e, s, t, h)

module _ {T : Type 0} where
  -- what is appended is the first in reverse
  pub reverse-following : (xs : List T) (x : T) → reverse (xs ++ x ∷ []) ≡ x ∷ reverse xs
  reverse-following xs x = reverse-append xs (x ∷ [])

  take-following : (xs : List T) (at : ℕ) (x : T) → slice_get xs at ≡ Some x → take (suc at) xs ≡ take at xs ++ x ∷ []
  take-following [] at x h = absurd (cc)
  take-following (y ∷ xs) zero x h = let s : y ≡ x = cc in ap (λ (z : T). z ∷ []) s
  take-following (y ∷ xs) (suc at) x h = ap (λ (zs : List T). y ∷ zs) (take-following xs at x h)

  -- one more of the first ones
  reverse-take : (xs : List T) (at : ℕ) (x : T) → slice_get xs at ≡ Some x → reverse (take (suc at) xs) ≡ x ∷ reverse (take at xs)
  reverse-take xs at x h = ap reverse (take-following xs at x h) ∙ reverse-following (take at xs) x

  -- a slice that is borrowed from the list and has its length is the whole list
  pub all_of : (len : ℕ) (items lent now rest : List T) → len ≡ length items → lent ≡ items → length now ≡ length lent → take len (now ++ rest) ≡ now
  all_of len items lent now rest e s n = take_at now rest len (n ∙ ap length s ∙ sym e)

module _ {V : Type 0} where
  abbrev Page : List (Changes V) → List (List ℕ × V) → Layers V
  Page runs base = record { runs = reverse runs; base = base }

  -- ---- a run more, and one less

  pub counted-push : (runs now : List (Changes V)) (run : Changes V) (base : List (List ℕ × V)) (n fewest left most more : ℕ) → now ≡ runs ++ run ∷ [] → IsRising run → n ≡ length run → left ≡ fewest - n → more ≡ min (most + n) (2 ^ 64 - 1)
      → IsCounted (Page runs base) fewest most → IsCounted (Page now base) left more
  counted-push runs now run base n fewest left most more i r e s t h =
      rw (i, reverse-following runs run) (record {
        rising = (r, h.rising);
        entries = still_fewest n fewest left (entries_under (reverse runs) base) run h.entries e s;
        no_more = still_most n most more (2 ^ 64 - 1) (entries_under (reverse runs) base) run h.no_more e t;
      })

  pub page-push : (runs now : List (Changes V)) (run : Changes V) (base : List (List ℕ × V)) → now ≡ runs ++ run ∷ [] → Page now base ≡ record { runs = run ∷ reverse runs; base = base }
  page-push runs now run base i = rw (i, reverse-following runs run) refl

  pub counted-pop : (runs older : List (Changes V)) (run : Changes V) (base : List (List ℕ × V)) (n fewest left most more : ℕ) → runs ≡ older ++ run ∷ [] → n ≡ length run → left ≡ fewest - n → more ≡ min (most + n) (2 ^ 64 - 1)
      → IsCounted (Page runs base) fewest most → IsCounted (Page older base) left more
  counted-pop runs older run base n fewest left most more i e s t h =
      let is : reverse runs ≡ run ∷ reverse older = ap reverse i ∙ reverse-following older run in
      let rising = rw is at h.rising in
      let entries = rw is at h.entries in
      let no_more = rw is at h.no_more in
      let least = least_with_run (entries_under (reverse older) base) run in
      record {
        rising = rising.1;
        entries = omega (arith, entries, least);
        no_more = most_before n most more (2 ^ 64 - 1) (entries_under (reverse older) base) run no_more e t;
      }

  -- ---- the oldest of them, and the others

  pub page-oldest : (items : List (Changes V)) (base : List (List ℕ × V)) (count : ℕ) → count ≤ length (reverse items) → Page (take count items) base ≡ record { runs = drop (length (reverse items) - count) (reverse items); base = base }
  page-oldest items base count l =
      let long = length-reverse items in
      ap (λ (runs : List (Changes V)). record { runs = runs; base = base }) (reverse-oldest items count (omega (arith, l, long)))

  pub page-newer : (items : List (Changes V)) (base : List (List ℕ × V)) (count : ℕ) → Page (take (length items - count) (drop count items)) base ≡ record { runs = take (length (reverse items) - count) (reverse items); base = base }
  page-newer items base count = rw (take_rest items count) (ap (λ (runs : List (Changes V)). record { runs = runs; base = base }) (reverse-newer items count))

  -- ---- how many changes they have

  pub changes-reversed : (runs : List (Changes V)) → sum_by (λ run. length run) (reverse runs) ≡ sum_by (λ run. length run) runs
  changes-reversed [] = refl
  changes-reversed (run ∷ runs) =
      let last = sum_by_push (λ (r : Changes V). length r) (reverse runs) run in
      let first = sum_by-cons (λ (r : Changes V). length r) run runs in
      let rest = changes-reversed runs in
      let sum : sum_by (λ r. length r) (reverse runs ++ run ∷ []) ≡ sum_by (λ r. length r) (run ∷ runs) = omega (arith, last, first, rest) in
      rw (reverse-append (run ∷ []) runs) sum

  -- one more of them, and all
  pub changes-next : (runs : List (Changes V)) (at : ℕ) (run : Changes V) (named n more top : ℕ) → at < length runs → run ≡ get_or runs at run → named ≡ min (sum_by (λ run. length run) (take at runs)) top → n ≡ length run → more ≡ min (named + n) top
      → more ≡ min (sum_by (λ run. length run) (take (at + 1) runs)) top
  changes-next runs at run named n more top l h e s t =
      let last = sum_by_more (λ (r : Changes V). length r) runs at run l in
      let same : length (get_or runs at run) ≡ length run = ap (λ (r : Changes V). length r) (sym h) in
      more_by named n more top (sum_by (λ r. length r) (take at runs)) (sum_by (λ r. length r) (take (at + 1) runs)) (length run) e s t (rw same at last)

  pub changes-all : (runs : List (Changes V)) (at named top : ℕ) → length runs ≤ at → named ≡ min (sum_by (λ run. length run) (take at runs)) top → named ≡ min (sum_by (λ run. length run) (reverse runs)) top
  changes-all runs at named top l e =
      let all = rw (take_all at runs l) at e in
      rw (changes-reversed runs) all

  -- ---- that the keys of all of them rise

  pub all_rise-over : (runs : List (Changes V)) (base : List (List ℕ × V)) → AllRise {V = V} runs [] → IsRising base → AllRise runs base
  all_rise-over [] base a r = r
  all_rise-over (run ∷ runs) base a r = (a.0, all_rise-over runs base a.1 r)

  -- ---- what the first ones say together

  pub said-next : (runs : List (Changes V)) (at : ℕ) (run older : Changes V) → slice_get runs at ≡ Some run → older ≡ joined_changes (reverse (take at runs)) → overlaid older run ≡ joined_changes (reverse (take (at + 1) runs))
  said-next runs at run older h e =
      let step : at + 1 ≡ suc at = omega arith in
      rw (step, reverse-take runs at run h) (ap (λ (m : Changes V). overlaid m run) e)

  pub said-all : (runs : List (Changes V)) (at : ℕ) (changes : Changes V) → length runs ≤ at → changes ≡ joined_changes (reverse (take at runs)) → changes ≡ joined_changes (reverse runs)
  said-all runs at changes l h = h ∙ ap (λ (m : List (Changes V)). joined_changes (reverse m)) (take_all at runs l)

  -- ---- a cell exchanged

  pub still_counted : (old now : Layers V) (k : List ℕ) (v : V) (fewest most : ℕ) → now ≡ exchanged old k v → IsCounted old fewest most → IsCounted now fewest most
  still_counted old now k v fewest most e h = rw e (counted_exchanged old k v fewest most h)
