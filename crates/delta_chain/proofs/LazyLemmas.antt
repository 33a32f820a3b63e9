-- A page whose oldest runs count as merged into its base has the entries of its chain. For the proofs of this crate and of those above it.
use Rattle.std.specs.Prelude.{◌≡◌, ℕ, suc, ◌-◌, ◌≤◌, List, [], ◌∷◌, ◌++◌, length, take, drop, reverse, Option}
use Rattle.std.proofs.Common.{refl, sym, ap, ◌∙◌, arith}
use Rattle.std.proofs.Math.Seq.{take-length, drop-length, drop-append_seam, take-append_seam}
use Rattle.std.proofs.lemmas.List.{take-append-drop, length-take-le, length-drop, length-reverse, reverse-append}
use Rattle.keys.specs.Bytes.{Bytes, Pairs, Changes}
use Rattle.keys.specs.OrderedMap.{value_at}
use Rattle.delta_chain.specs.Lazy.{Lazy, open_runs, seen}
use Rattle.delta_chain.specs.Layers.{Layers, change_or, held_under, holds, with_run, entries_under, entries_of, AllRise, IsInOrder}
use Rattle.delta_chain.proofs.LayerLemmas.{rising-entries_under, value_at-entries_under}

-- the oldest ones of a list that grows at its end are the last ones of it reversed
pub reverse-oldest : {T : Type 0} (xs : List T) (count : ℕ) → count ≤ length xs → reverse (take count xs) ≡ drop (length (reverse xs) - count) (reverse xs)
reverse-oldest xs count l =
    let parts : reverse xs ≡ reverse (drop count xs) ++ reverse (take count xs) = ap reverse (sym (take-append-drop count xs)) ∙ reverse-append (take count xs) (drop count xs) in
    let long = length-reverse xs in
    let newer = length-reverse (drop count xs) in
    let left = length-drop count xs in
    let many : length (reverse xs) - count ≡ length (reverse (drop count xs)) = omega (arith, long, newer, left) in
    rw (many, parts) (sym (drop-append_seam (reverse (drop count xs)) (reverse (take count xs))))

-- and the others are the first ones
pub reverse-newer : {T : Type 0} (xs : List T) (count : ℕ) → reverse (drop count xs) ≡ take (length (reverse xs) - count) (reverse xs)
reverse-newer xs count =
    let parts : reverse xs ≡ reverse (drop count xs) ++ reverse (take count xs) = ap reverse (sym (take-append-drop count xs)) ∙ reverse-append (take count xs) (drop count xs) in
    let long = length-reverse xs in
    let newer = length-reverse (drop count xs) in
    let left = length-drop count xs in
    let many : length (reverse xs) - count ≡ length (reverse (drop count xs)) = omega (arith, long, newer, left) in
    rw (many, parts) (sym (take-append_seam (reverse (drop count xs)) (reverse (take count xs))))

module _ {V : Type 0} where
  -- ---- runs over a base of what older ones make

  entries-parts : (newer older : List (Changes V)) (base : Pairs V) → entries_under newer (entries_under older base) ≡ entries_under (newer ++ older) base
  entries-parts [] older base = refl
  entries-parts (run ∷ newer) older base = ap (λ (m : Pairs V). with_run m run) (entries-parts newer older base)

  rising-parts : (newer older : List (Changes V)) (base : Pairs V) → AllRise (newer ++ older) base → AllRise newer (entries_under older base)
  rising-parts [] older base a = rising-entries_under older base a
  rising-parts (run ∷ newer) older base a = (a.0, rising-parts newer older base a.1)

  held-parts : (newer older : List (Changes V)) (base : Pairs V) (k : Bytes) → AllRise (newer ++ older) base → held_under k newer (entries_under older base) ≡ held_under k (newer ++ older) base
  held-parts [] older base k a = value_at-entries_under older base k a
  held-parts (run ∷ newer) older base k a = ap (λ (t : Option V). change_or (value_at k run) t) (held-parts newer older base k a.1)

  -- ---- the page

  all_runs : (c : Lazy V) → take (open_runs c) c.chain.runs ++ drop (open_runs c) c.chain.runs ≡ c.chain.runs
  all_runs c = take-append-drop (open_runs c) c.chain.runs

  pub entries-seen : (c : Lazy V) → entries_of (seen c) ≡ entries_of c.chain
  entries-seen c =
      entries-parts (take (open_runs c) c.chain.runs) (drop (open_runs c) c.chain.runs) c.chain.base
      ∙ ap (λ (runs : List (Changes V)). entries_under runs c.chain.base) (all_runs c)

  pub rising-seen : (c : Lazy V) → IsInOrder c.chain → IsInOrder (seen c)
  rising-seen c a = rising-parts (take (open_runs c) c.chain.runs) (drop (open_runs c) c.chain.runs) c.chain.base (rw (all_runs c) a)

  pub holds-seen : (c : Lazy V) (k : Bytes) → IsInOrder c.chain → holds (seen c) k ≡ holds c.chain k
  holds-seen c k a =
      held-parts (take (open_runs c) c.chain.runs) (drop (open_runs c) c.chain.runs) c.chain.base k (rw (all_runs c) a)
      ∙ ap (λ (runs : List (Changes V)). held_under k runs c.chain.base) (all_runs c)

  -- as many runs as are open
  pub depth-seen : (c : Lazy V) → length (seen c).runs ≡ length c.chain.runs - c.merged_runs
  depth-seen c = length-take-le (open_runs c) c.chain.runs (omega arith)

  -- none of the runs counts as merged
  pub seen-early : (p : Layers V) → seen (record { chain = p; merged_runs = 0 }) ≡ p
  seen-early p =
      let all : length p.runs - 0 ≡ length p.runs = omega arith in
      rw (all, take-length p.runs, drop-length p.runs) refl

  -- all of them do
  pub seen-merged_runs : (p : Layers V) → seen (record { chain = p; merged_runs = length p.runs }) ≡ record { runs = []; base = entries_of p }
  seen-merged_runs p =
      let none : length p.runs - length p.runs ≡ 0 = omega arith in
      rw none refl

  -- a run more
  pub seen-in_front : (c : Lazy V) (run : Changes V) → c.merged_runs ≤ length c.chain.runs
      → seen (record { chain = record { runs = run ∷ c.chain.runs; base = c.chain.base }; merged_runs = c.merged_runs }) ≡ record { runs = run ∷ (seen c).runs; base = (seen c).base }
  seen-in_front c run l =
      let more : suc (length c.chain.runs) - c.merged_runs ≡ suc (length c.chain.runs - c.merged_runs) = omega (arith, l) in
      rw more refl
