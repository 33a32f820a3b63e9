-- How many entries there are after a command, as its reply shows.
use Rattle.std.specs.Prelude.{◌≡◌, ℕ, suc, ◌+◌, ◌≤◌, ◌==◌, min, Bool, true, false, cond, is_some, List, [], ◌∷◌, length, Option, Some, None, if◌then◌else◌}
use Rattle.std.proofs.Common.{arith, refl, ap, Ordering, Less, Equal, Greater}
use Rattle.std.specs.Ordering.{is_eq, match_ordering}
use Rattle.std.specs.List.Sorted.{IsStrictlySortedBy}
use Rattle.std.proofs.lemmas.Bool.{eqb-false}
use Rattle.std.proofs.lemmas.List.{nil_from_length}
use Rattle.std.proofs.lemmas.Map.{lookup-none}
use Rattle.std.proofs.lemmas.Map.Entries.{none_below_head}
use Rattle.keys.specs.Order.{order, IsRising}
use Rattle.keys.proofs.MapLemmas.{total}
use Rattle.keys.specs.OrderedMap.{value_at, with_pair, without}
use Rattle.keys.specs.Step.{found, reply_to, map_after}
use Rattle.keys.specs.declared.command.Command.{Command}
use Rattle.keys.specs.declared.command.Command.TheVariants.{Get, Put, Add, Del, Scan, Wipe}
use Rattle.keys.specs.declared.command.Reply.{Reply}
use Rattle.keys.specs.declared.command.Reply.TheVariants.{Missing, New, Replaced, Added, Exists, Deleted}
use Rattle.keys.proofs.RangeLemmas.{both_parts}
use Rattle.keys.specs.declared.settings.Settings.{Settings}
use Rattle.delta_chain.specs.Layers.{Layers, with_run, entries_of}
use Rattle.delta_chain.proofs.Counts.{most_without, most_with_pair, least_with_run}
use Rattle.page_runs.specs.AfterRun.{after_run}
use Rattle.page_runs.specs.Replay.{entries_after, most_after}
use Rattle.page_runs.proofs.AfterLemmas.{entries_of-after_run}

module _ {V : Type 0} where
  -- a pair that is put at a key which was absent is one more
  added_by : (o : Ordering) (k : List ℕ) (v : V) (e : List ℕ × V) (es rest : List (List ℕ × V)) (held : Option V) → is_some (cond (is_eq o) (Some e.1) held) ≡ false
      → (is_some held ≡ false → length es + 1 ≤ length rest) → suc (length es) + 1 ≤ length (match_ordering o ((k, v) ∷ e ∷ es) ((e.0, v) ∷ es) (e ∷ rest))
  added_by Less k v e es rest held a h = omega arith
  added_by Equal k v e es rest held a h = absurd (cc)
  added_by Greater k v e es rest held a h = let more = h a in omega (arith, more)

  one_more : (m : List (List ℕ × V)) (k : List ℕ) (v : V) → is_some (value_at k m) ≡ false → length m + 1 ≤ length (with_pair m k v)
  one_more [] k v a = omega arith
  one_more (e ∷ es) k v a = added_by (order k e.0) k v e es (with_pair es k v) (value_at k es) a (one_more es k v)

  -- an absent key deletes no entry
  kept_by : (b : Bool) (e : List ℕ × V) (es rest : List (List ℕ × V)) (held : Option V) → is_some (cond b (Some e.1) held) ≡ false
      → (is_some held ≡ false → length es ≤ length rest) → suc (length es) ≤ length (cond b es (e ∷ rest))
  kept_by true e es rest held a h = absurd (cc)
  kept_by false e es rest held a h = let same = h a in omega (arith, same)

  none_less : (m : List (List ℕ × V)) (k : List ℕ) → is_some (value_at k m) ≡ false → length m ≤ length (without m k)
  none_less [] k a = omega arith
  none_less (e ∷ es) k a = kept_by (is_eq (order k e.0)) e es (without es k) (value_at k es) a (none_less es k)

  -- ---- how many at most

  no_more_by : (o : Ordering) (k : List ℕ) (v : V) (e : List ℕ × V) (es rest : List (List ℕ × V)) (held : Option V) → is_some (cond (is_eq o) (Some e.1) held) ≡ true
      → (o ≡ Less → is_some (cond (is_eq o) (Some e.1) held) ≡ false) → (is_some held ≡ true → length rest ≤ length es) → length (match_ordering o ((k, v) ∷ e ∷ es) ((e.0, v) ∷ es) (e ∷ rest)) ≤ suc (length es)
  no_more_by Less k v e es rest held a n h = let none = n refl in absurd (cc)
  no_more_by Equal k v e es rest held a n h = omega arith
  no_more_by Greater k v e es rest held a n h = let same = h a in omega (arith, same)

  -- a pair that is put at a key which was there is no more
  no_more : (m : List (List ℕ × V)) (k : List ℕ) (v : V) → IsRising m → is_some (value_at k m) ≡ true → length (with_pair m k v) ≤ length m
  unfolding IsStrictlySortedBy
  no_more [] k v r a = absurd (cc)
  no_more (e ∷ es) k v r a =
      no_more_by (order k e.0) k v e es (with_pair es k v) (value_at k es) a
      (λ o. ap is_some (lookup-none (λ j. is_eq (order k j)) (e ∷ es) (none_below_head total k e es r o)))
      (no_more es k v r.1)

  -- nor is any other more than one more
  one_more_at_most : (m : List (List ℕ × V)) (k : List ℕ) (v : V) → length (with_pair m k v) ≤ length m + 1
  one_more_at_most m k v = least_with_run m ((k, Some v) ∷ [])

  gone_by : (b : Bool) (e : List ℕ × V) (es rest : List (List ℕ × V)) (held : Option V) → is_some (cond b (Some e.1) held) ≡ true
      → (is_some held ≡ true → length rest + 1 ≤ length es) → length (cond b es (e ∷ rest)) + 1 ≤ suc (length es)
  gone_by true e es rest held a h = omega arith
  gone_by false e es rest held a h = let one = h a in omega (arith, one)

  -- a key that was there is one less
  one_less : (m : List (List ℕ × V)) (k : List ℕ) → is_some (value_at k m) ≡ true → length (without m k) + 1 ≤ length m
  one_less [] k a = absurd (cc)
  one_less (e ∷ es) k a = gone_by (is_eq (order k e.0)) e es (without es k) (value_at k es) a (one_less es k)

  stay_by : (b : Bool) (e : List ℕ × V) (es rest : List (List ℕ × V)) → length rest ≤ length es → length (cond b es (e ∷ rest)) ≤ suc (length es)
  stay_by true e es rest h = omega arith
  stay_by false e es rest h = omega arith

  none_come : (m : List (List ℕ × V)) (k : List ℕ) → length (without m k) ≤ length m
  none_come [] k = omega arith
  none_come (e ∷ es) k = stay_by (is_eq (order k e.0)) e es (without es k) (none_come es k)

-- after each kind of command on a key, by whether the key was there
module _ (A : Type 0) where
  abbrev reported : ℕ → Reply A → ℕ
  reported n r = entries_after n r

  after_get : (n l : ℕ) (o : Option (List ℕ)) → n ≤ l → reported n (found o) ≤ l
  after_get n l None h = h
  after_get n l (Some v) h = h

  after_put : (b : Bool) (n l more : ℕ) → n ≤ l → l ≤ more → (b ≡ false → l + 1 ≤ more) → reported n (if b then Replaced else New) ≤ more
  after_put true n l more h a s = omega arith
  after_put false n l more h a s = let one = s refl in omega (arith, one)

  after_add : (b : Bool) (n : ℕ) (m more : List (List ℕ × List ℕ)) → n ≤ length m → (b ≡ false → length m + 1 ≤ length more)
      → reported n (if b then Exists else Added) ≤ length (if b then m else more)
  after_add true n m more h s = h
  after_add false n m more h s = let one = s refl in omega (arith, one)

  after_del : (b : Bool) (n l left : ℕ) → n ≤ l → l ≤ left + 1 → (b ≡ false → l ≤ left) → reported n (if b then Deleted else Missing) ≤ left
  after_del true n l left h a s = omega arith
  after_del false n l left h a s = let same = s refl in omega (arith, same)

  most_get : (n l : ℕ) (o : Option (List ℕ)) → l ≤ n → l ≤ reported n (found o)
  most_get n l None h = h
  most_get n l (Some v) h = h

  most_put : (b : Bool) (n l more : ℕ) → l ≤ n → more ≤ l + 1 → (b ≡ true → more ≤ l) → more ≤ reported n (if b then Replaced else New)
  most_put true n l more h a s = let same = s refl in omega (arith, same)
  most_put false n l more h a s = omega arith

  most_add : (b : Bool) (n : ℕ) (m more : List (List ℕ × List ℕ)) → length m ≤ n → length more ≤ length m + 1 → length (if b then m else more) ≤ reported n (if b then Exists else Added)
  most_add true n m more h a = h
  most_add false n m more h a = omega arith

  most_del : (b : Bool) (n l left : ℕ) → l ≤ n → left ≤ l → (b ≡ true → left + 1 ≤ l) → left ≤ reported n (if b then Deleted else Missing)
  most_del true n l left h a s = let less = s refl in omega (arith, less)
  most_del false n l left h a s = omega arith

-- if at least n were there before a command, at least as many as its reply shows are there after it
pub fewest_after : {A : Type 0} → (n : ℕ) (m : List (List ℕ × List ℕ)) (c : Command A) → n ≤ length m → entries_after n (reply_to m c) ≤ length (map_after m c)
fewest_after {A} n m (Get k) h = after_get A n (length m) (value_at k m) h
fewest_after {A} n m (Put k v) h = after_put A (is_some (value_at k m)) n (length m) (length (with_pair m k v)) h (most_with_pair m k v) (one_more m k v)
fewest_after {A} n m (Add k v) h = after_add A (is_some (value_at k m)) n m (with_pair m k v) h (one_more m k v)
fewest_after {A} n m (Del k) h = after_del A (is_some (value_at k m)) n (length m) (length (without m k)) h (most_without m k) (none_less m k)
fewest_after n m (Scan lo hi limit) h = h
fewest_after n m (Wipe lo hi) h = let parts = both_parts m lo hi in omega (arith, h, parts)

-- if there were no more before a command, there are no more after it than its reply shows
most_counted : {A : Type 0} → (n : ℕ) (m : List (List ℕ × List ℕ)) (c : Command A) → IsRising m → length m ≤ n → length (map_after m c) ≤ entries_after n (reply_to m c)
most_counted {A} n m (Get k) r h = most_get A n (length m) (value_at k m) h
most_counted {A} n m (Put k v) r h = most_put A (is_some (value_at k m)) n (length m) (length (with_pair m k v)) h (one_more_at_most m k v) (no_more m k v r)
most_counted {A} n m (Add k v) r h = most_add A (is_some (value_at k m)) n m (with_pair m k v) h (one_more_at_most m k v)
most_counted {A} n m (Del k) r h = most_del A (is_some (value_at k m)) n (length m) (length (without m k)) h (none_come m k) (one_less m k)
most_counted n m (Scan lo hi limit) r h = h
most_counted n m (Wipe lo hi) r h = let parts = both_parts m lo hi in omega (arith, h, parts)

most_by : (b : Bool) (top n l after reported : ℕ) → (n == top) ≡ b → n ≤ top → min l top ≤ n → (l ≤ n → after ≤ reported) → min after top ≤ (if b then top else min reported top)
most_by true top n l after reported e w h s = omega arith
most_by false top n l after reported e w h s = let other = eqb-false n top e in let more = s (omega (arith, other, w, h)) in omega (arith, more)

-- the same up to a greatest number, which says nothing
pub most_after_command : {A : Type 0} → (top n : ℕ) (m : List (List ℕ × List ℕ)) (c : Command A) → IsRising m → n ≤ top → min (length m) top ≤ n → min (length (map_after m c)) top ≤ most_after top n (reply_to m c)
most_after_command top n m c r w h = most_by (n == top) top n (length m) (length (map_after m c)) (entries_after n (reply_to m c)) refl w h (most_counted n m c r)

-- a page that has no more than none is empty
pub none_held : {V : Type 0} → (top n : ℕ) (m : List (List ℕ × V)) → min (length m) (suc top) ≤ n → n ≡ 0 → m ≡ []
none_held top n m h e = nil_from_length m (omega (arith, h, e))

-- a page after a run has as many entries as its entries with the run applied
pub counted_after_run : {V : Type 0} → (s : Settings) (p after : Layers V) (run : List (List ℕ × Option V)) (n : ℕ) → after ≡ after_run s p run → n ≤ length (with_run (entries_of p) run) → n ≤ length (entries_of after)
counted_after_run {V} s p after run n e h = rw (e, entries_of-after_run s p run) h
