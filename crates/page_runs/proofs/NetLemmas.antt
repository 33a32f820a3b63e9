-- Lemmas on net runs, for the proofs of this crate and of those above it.
use Rattle.std.specs.Prelude.{◌≡◌, ℕ, Bool, true, false, cond, not, ◌&&◌, ◌||◌, List, [], ◌∷◌, ◌++◌, Option, Some, None, is_some, if◌then◌else◌}
use Rattle.std.proofs.Common.{refl, sym, ap, ◌∙◌}
use Rattle.std.specs.Ordering.{is_eq}
use Rattle.std.specs.List.Sorted.{IsStrictlySortedBy}
use Rattle.std.specs.Map.{keys_of}
use Rattle.std.proofs.lemmas.Map.Entries.{lookup-filter-keys}
use Rattle.keys.specs.Order.{order, IsRising}
use Rattle.keys.specs.OrderedMap.{value_at, with_pair, without}
use Rattle.keys.specs.Range.{is_within, in_range}
use Rattle.keys.specs.Step.{map_after, map_after_all}
use Rattle.keys.proofs.MapLemmas.{alike, passes_same, value_at-with_pair_here, value_at-with_pair_apart, value_at-without, rising-with_pair, same_map}
use Rattle.keys.proofs.RangeLemmas.{value_at-out_of_range}
use Rattle.keys.proofs.RunLemmas.{rising-map_after, rising-map_after_all, map_after_all-append}
use Rattle.keys.specs.declared.command.Command.{Command}
use Rattle.keys.specs.declared.command.Command.TheVariants.{Get, Put, Add, Del, Scan, Wipe}
use Rattle.delta_chain.specs.Layers.{change_or, with_run}
use Rattle.delta_chain.proofs.LayerLemmas.{value_at-with_run, rising-with_run}
use Rattle.page_runs.specs.NetRun.{noted, noted_all, noted_by, touched, net_run}
use Rattle.page_runs.proofs.Touching.{touches, is_touched}

abbrev pub Pairs : Type 0
Pairs = List (List ℕ × List ℕ)

abbrev pub Changes : Type 0
Changes = List (List ℕ × Option (List ℕ))

-- ---- tests

first_false : (a b : Bool) → (a || b) ≡ false → a ≡ false
first_false true b h = h
first_false false b h = refl

second_false : (a b : Bool) → (a || b) ≡ false → b ≡ false
second_false true b h = absurd (cc)
second_false false b h = h

turned : (a b c : Bool) → (a || (b || c)) ≡ (b || (a || c))
turned true true c = refl
turned true false c = refl
turned false b c = refl

-- ---- a key added to a run

-- what a run of the keys that pass a test says of a key: its value in this map
abbrev pub said_if : Bool → List ℕ → Pairs → Option (Option (List ℕ))
said_if b q m = cond b (Some (value_at q m)) None

noted_by_test : (b : Bool) (after : Pairs) (run : Changes) (k q : List ℕ) → is_eq (order q k) ≡ b → value_at q (noted after run k) ≡ cond b (Some (value_at q after)) (value_at q run)
noted_by_test true after run k q h =
    let s : q ≡ k = passes_same q k h in
    ap (λ (j : List ℕ). value_at j (noted after run k)) s ∙ value_at-with_pair_here run k (value_at k after) ∙ ap (λ (j : List ℕ). Some (value_at j after)) (sym s)
noted_by_test false after run k q h = value_at-with_pair_apart run k q (value_at k after) h

value_at-noted : (after : Pairs) (run : Changes) (k q : List ℕ) → value_at q (noted after run k) ≡ cond (is_eq (order q k)) (Some (value_at q after)) (value_at q run)
value_at-noted after run k q = noted_by_test (is_eq (order q k)) after run k q refl

noted_where : (b : Bool) (after : Pairs) (run : Changes) (k q : List ℕ) → value_at q (if b then noted after run k else run) ≡ cond (b && is_eq (order q k)) (Some (value_at q after)) (value_at q run)
noted_where true after run k q = value_at-noted after run k q
noted_where false after run k q = refl

noted_unless : (b : Bool) (after : Pairs) (run : Changes) (k q : List ℕ) → value_at q (if b then run else noted after run k) ≡ cond (not b && is_eq (order q k)) (Some (value_at q after)) (value_at q run)
noted_unless true after run k q = refl
noted_unless false after run k q = value_at-noted after run k q

-- ---- keys added to a run

has_key : List ℕ → List (List ℕ) → Bool
has_key q [] = false
has_key q (k ∷ ks) = is_eq (order q k) || has_key q ks

said_once : {X : Type 0} (a b : Bool) (said rest : Option X) → cond b said (cond a said rest) ≡ cond (a || b) said rest
said_once true true said rest = refl
said_once true false said rest = refl
said_once false b said rest = refl

value_at-noted_all : (after : Pairs) (run : Changes) (ks : List (List ℕ)) (q : List ℕ) → value_at q (noted_all after run ks) ≡ cond (has_key q ks) (Some (value_at q after)) (value_at q run)
unfolding has_key
value_at-noted_all after run [] q = refl
value_at-noted_all after run (k ∷ ks) q =
    value_at-noted_all after (noted after run k) ks q
    ∙ ap (λ (o : Option (Option (List ℕ))). cond (has_key q ks) (Some (value_at q after)) o) (value_at-noted after run k q)
    ∙ said_once (is_eq (order q k)) (has_key q ks) (Some (value_at q after)) (value_at q run)

found_first : {X : Type 0} (b h : Bool) (v : X) (o : Option X) → h ≡ is_some o → (b || h) ≡ is_some (cond b (Some v) o)
found_first true h v o e = refl
found_first false h v o e = e

has_key-keys : (q : List ℕ) (m : Pairs) → has_key q (keys_of m) ≡ is_some (value_at q m)
unfolding has_key
has_key-keys q [] = refl
has_key-keys q (e ∷ es) = found_first (is_eq (order q e.0)) (has_key q (keys_of es)) e.1 (value_at q es) (has_key-keys q es)

found_if : {X : Type 0} (b : Bool) (o : Option X) → is_some (cond b o None) ≡ (b && is_some o)
found_if true o = refl
found_if false o = refl

-- the keys of a map that lie in a range
has_key-in_range : (q lo : List ℕ) (hi : Option (List ℕ)) (m : Pairs) → has_key q (keys_of (in_range lo hi m)) ≡ (is_within lo hi q && is_some (value_at q m))
has_key-in_range q lo hi m =
    has_key-keys q (in_range lo hi m)
    ∙ ap (λ (o : Option (List ℕ)). is_some o) (lookup-filter-keys (λ j. is_eq (order q j)) (is_within lo hi) (is_within lo hi q) (λ j p. ap (is_within lo hi) (sym (passes_same q j p))) m)
    ∙ found_if (is_within lo hi q) (value_at q m)

value_at-wiped : (after before : Pairs) (run : Changes) (lo : List ℕ) (hi : Option (List ℕ)) (q : List ℕ)
    → value_at q (noted_all after run (keys_of (in_range lo hi before))) ≡ cond (is_within lo hi q && is_some (value_at q before)) (Some (value_at q after)) (value_at q run)
value_at-wiped after before run lo hi q =
    value_at-noted_all after run (keys_of (in_range lo hi before)) q ∙ ap (λ (b : Bool). cond b (Some (value_at q after)) (value_at q run)) (has_key-in_range q lo hi before)

rising-noted_all : (after : Pairs) (run : Changes) (ks : List (List ℕ)) → IsRising run → IsRising (noted_all after run ks)
rising-noted_all after run [] r = r
rising-noted_all after run (k ∷ ks) r = rising-noted_all after (noted after run k) ks (rising-with_pair run k (value_at k after) r)

wiped_same : (w : Bool) (o : Option (List ℕ)) → (w && is_some o) ≡ false → cond (not w) o None ≡ o
wiped_same true None h = refl
wiped_same true (Some v) h = absurd (cc)
wiped_same false o h = refl

rising_either : (b : Bool) (run more : Changes) → IsRising run → IsRising more → IsRising (if b then run else more)
rising_either true run more r s = r
rising_either false run more r s = s

joined_tests : (a b : Bool) (q : List ℕ) (m : Pairs) → cond a (Some (value_at q m)) (said_if b q m) ≡ said_if (a || b) q m
joined_tests true b q m = refl
joined_tests false b q m = refl

later_map : (a b : Bool) (q : List ℕ) (before after : Pairs) → (a ≡ false → value_at q after ≡ value_at q before) → cond a (Some (value_at q after)) (said_if b q before) ≡ said_if (a || b) q after
later_map true b q before after h = refl
later_map false true q before after h = ap (λ (o : Option (List ℕ)). Some o) (sym (h refl))
later_map false false q before after h = refl

joined_changes : (t : Bool) (m after : Pairs) (q : List ℕ) → (t ≡ false → value_at q after ≡ value_at q m) → change_or (said_if t q after) (value_at q m) ≡ value_at q after
joined_changes true m after q h = refl
joined_changes false m after q h = sym (h refl)

-- ---- a command that leaves a key

added_by : (b : Bool) (m : Pairs) (k q v : List ℕ) → (not b && is_eq (order q k)) ≡ false → value_at q (if b then m else with_pair m k v) ≡ value_at q m
added_by true m k q v h = refl
added_by false m k q v h = value_at-with_pair_apart m k q v h

none_by : (o : Option (List ℕ)) → is_some o ≡ false → o ≡ None
none_by None h = refl
none_by (Some v) h = absurd (cc)

absent_by : (t : Bool) (m : Pairs) (k q : List ℕ) → is_eq (order k q) ≡ t → is_some (value_at k m) ≡ false → cond t None (value_at q m) ≡ value_at q m
absent_by true m k q h n = sym (ap (λ (j : List ℕ). value_at j m) (sym (passes_same k q h)) ∙ none_by (value_at k m) n)
absent_by false m k q h n = refl

deleted_by : (b : Bool) (m : Pairs) (k q : List ℕ) → IsRising m → is_some (value_at k m) ≡ b → (b && is_eq (order q k)) ≡ false → value_at q (without m k) ≡ value_at q m
deleted_by true m k q r n h = value_at-without m k q r ∙ ap (λ (t : Bool). cond t None (value_at q m)) (alike.symm k q ∙ h)
deleted_by false m k q r n h = value_at-without m k q r ∙ absent_by (is_eq (order k q)) m k q refl n

module _ {A : Type 0} where
  -- ---- the net run at a key

  value_at-noted_by : (after before : Pairs) (c : Command A) (run : Changes) (q : List ℕ) → value_at q (noted_by after before c run) ≡ cond (touches q before c) (Some (value_at q after)) (value_at q run)
  value_at-noted_by after before (Get k) run q = refl
  value_at-noted_by after before (Put k v) run q = value_at-noted after run k q
  value_at-noted_by after before (Add k v) run q = noted_unless (is_some (value_at k before)) after run k q
  value_at-noted_by after before (Del k) run q = noted_where (is_some (value_at k before)) after run k q
  value_at-noted_by after before (Scan lo hi limit) run q = refl
  value_at-noted_by after before (Wipe lo hi) run q = value_at-wiped after before run lo hi q

  -- the touched keys have their values in the last map, and no other key is named
  pub value_at-touched : (after before : Pairs) (cs : List (Command A)) (q : List ℕ) → value_at q (touched after before cs) ≡ said_if (is_touched q before cs) q after
  value_at-touched after before [] q = refl
  value_at-touched after before (c ∷ cs) q =
      value_at-noted_by after before c (touched after (map_after before c) cs) q
      ∙ ap (λ (t : Option (Option (List ℕ))). cond (touches q before c) (Some (value_at q after)) t) (value_at-touched after (map_after before c) cs q)
      ∙ joined_tests (touches q before c) (is_touched q (map_after before c) cs) q after

  rising-noted_by : (after before : Pairs) (c : Command A) (run : Changes) → IsRising run → IsRising (noted_by after before c run)
  rising-noted_by after before (Get k) run r = r
  rising-noted_by after before (Put k v) run r = rising-with_pair run k (value_at k after) r
  rising-noted_by after before (Add k v) run r = rising_either (is_some (value_at k before)) run (noted after run k) r (rising-with_pair run k (value_at k after) r)
  rising-noted_by after before (Del k) run r = rising_either (is_some (value_at k before)) (noted after run k) run (rising-with_pair run k (value_at k after) r) r
  rising-noted_by after before (Scan lo hi limit) run r = r
  rising-noted_by after before (Wipe lo hi) run r = rising-noted_all after run (keys_of (in_range lo hi before)) r

  rising-touched : (after before : Pairs) (cs : List (Command A)) → IsRising (touched after before cs)
  unfolding IsStrictlySortedBy
  rising-touched after before [] = tt
  rising-touched after before (c ∷ cs) = rising-noted_by after before c (touched after (map_after before c) cs) (rising-touched after (map_after before c) cs)

  -- the keys of a net run rise
  pub rising-net_run : (m : Pairs) (cs : List (Command A)) → IsRising (net_run m cs)
  rising-net_run m cs = rising-touched (map_after_all m cs) m cs

  -- ---- a key that is not touched keeps its value

  pub untouched_once : (m : Pairs) (c : Command A) (q : List ℕ) → IsRising m → touches q m c ≡ false → value_at q (map_after m c) ≡ value_at q m
  untouched_once m (Get k) q r h = refl
  untouched_once m (Put k v) q r h = value_at-with_pair_apart m k q v h
  untouched_once m (Add k v) q r h = added_by (is_some (value_at k m)) m k q v h
  untouched_once m (Del k) q r h = deleted_by (is_some (value_at k m)) m k q r refl h
  untouched_once m (Scan lo hi limit) q r h = refl
  untouched_once m (Wipe lo hi) q r h = value_at-out_of_range m lo hi q ∙ wiped_same (is_within lo hi q) (value_at q m) h

  untouched_by_all : (m : Pairs) (cs : List (Command A)) (q : List ℕ) → IsRising m → is_touched q m cs ≡ false → value_at q (map_after_all m cs) ≡ value_at q m
  untouched_by_all m [] q r h = refl
  untouched_by_all m (c ∷ cs) q r h =
      untouched_by_all (map_after m c) cs q (rising-map_after m c r) (second_false (touches q m c) (is_touched q (map_after m c) cs) h)
      ∙ untouched_once m c q r (first_false (touches q m c) (is_touched q (map_after m c) cs) h)

  -- ---- the map after the commands is the map with the net run

  pub with_run-net_run : (m : Pairs) (cs : List (Command A)) → IsRising m → with_run m (net_run m cs) ≡ map_after_all m cs
  with_run-net_run m cs r =
      same_map (with_run m (net_run m cs)) (map_after_all m cs) (rising-with_run m (net_run m cs) r) (rising-map_after_all m cs r)
      (λ q. value_at-with_run m (net_run m cs) q r (rising-net_run m cs)
      ∙ ap (λ (t : Option (Option (List ℕ))). change_or t (value_at q m)) (value_at-touched (map_after_all m cs) m cs q)
      ∙ joined_changes (is_touched q m cs) m (map_after_all m cs) q (untouched_by_all m cs q r))

  -- ---- one more command

  is_touched-push : (m : Pairs) (cs : List (Command A)) (c : Command A) (q : List ℕ) → is_touched q m (cs ++ c ∷ []) ≡ (touches q (map_after_all m cs) c || is_touched q m cs)
  is_touched-push m [] c q = refl
  is_touched-push m (d ∷ ds) c q =
      ap (λ (t : Bool). touches q m d || t) (is_touched-push (map_after m d) ds c q)
      ∙ turned (touches q m d) (touches q (map_after_all (map_after m d) ds) c) (is_touched q (map_after m d) ds)

  -- the net run of one more command: its key is added, if the command changes it
  pub net_run-push : (m : Pairs) (cs : List (Command A)) (c : Command A) → IsRising m → net_run m (cs ++ c ∷ []) ≡ noted_by (map_after (map_after_all m cs) c) (map_after_all m cs) c (net_run m cs)
  net_run-push m cs c r =
      let before : Pairs = map_after_all m cs in
      let after : Pairs = map_after before c in
      same_map (net_run m (cs ++ c ∷ [])) (noted_by after before c (net_run m cs)) (rising-net_run m (cs ++ c ∷ [])) (rising-noted_by after before c (net_run m cs) (rising-net_run m cs))
      (λ q. value_at-touched (map_after_all m (cs ++ c ∷ [])) m (cs ++ c ∷ []) q
      ∙ ap (λ (n : Pairs). said_if (is_touched q m (cs ++ c ∷ [])) q n) (map_after_all-append m cs (c ∷ []))
      ∙ ap (λ (t : Bool). said_if t q after) (is_touched-push m cs c q)
      ∙ sym (later_map (touches q before c) (is_touched q m cs) q before after (untouched_once before c q (rising-map_after_all m cs r)))
      ∙ ap (λ (t : Option (Option (List ℕ))). cond (touches q before c) (Some (value_at q after)) t) (sym (value_at-touched before m cs q))
      ∙ sym (value_at-noted_by after before c (net_run m cs) q))
