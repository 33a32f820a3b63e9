-- Commands on one key each, which change what the commands of a batch change: they have its net run, and so its plan.
use Rattle.std.specs.Prelude.{◌≡◌, ℕ, ◌≤◌, ◌<◌, ◌⊎◌, Bool, true, false, cond, not, ◌&&◌, ◌||◌, is_some, if◌then◌else◌, List, [], ◌∷◌, ◌++◌, length, Option, None}
use Rattle.std.proofs.Common.{refl, sym, ap, ◌∙◌, subst, Ordering, Less}
use Rattle.std.specs.List.{AllByRecursion}
use Rattle.std.specs.List.Sorted.{IsStrictlySortedBy}
use Rattle.std.specs.Map.{keys_of}
use Rattle.std.specs.Ordering.{is_eq}
use Rattle.std.proofs.lemmas.Bool.{and_parts}
use Rattle.keys.specs.Order.{order, IsRising, AreRisingKeys}
use Rattle.keys.specs.OrderedMap.{value_at, with_pair, without}
use Rattle.keys.specs.Range.{is_within, in_range}
use Rattle.keys.specs.Step.{map_after, map_after_all}
use Rattle.keys.specs.declared.command.Command.{Command}
use Rattle.keys.specs.declared.command.Command.TheVariants.{Get, Put, Add, Del, Scan, Wipe}
use Rattle.keys.specs.declared.fault.Fault.{Fault}
use Rattle.keys.specs.declared.fault.Fault.TheVariants.{NoMemory, Spent}
use Rattle.keys.specs.declared.settings.Settings.{Settings}
use Rattle.keys.proofs.MapLemmas.{is_itself, value_at-without, rising-without, all_keys-with_pair, all_keys-without, same_map}
use Rattle.keys.proofs.RangeLemmas.{rising-filtered, all_keys-filtered}
use Rattle.keys.proofs.RunLemmas.{rising-map_after, map_after_all-append}
use Rattle.index_page.specs.Page.{entries, said}
use Rattle.index_page.specs.Rules.{Fits, IsShortChange, IsShortValue}
use Rattle.index_page.proofs.PageLemmas.{all_keys_entries}
use Rattle.mapping.specs.Levels.{Placed, joined, levels_of, contents}
use Rattle.mapping.specs.Proper.{IsProper}
use Rattle.mapping.specs.Tree.{Tree, most_levels}
use Rattle.mapping.proofs.TileLemmas.{rising-joined}
use Rattle.page_runs.specs.NetRun.{net_run}
use Rattle.page_runs.proofs.Touching.{touches, is_touched}
use Rattle.page_runs.proofs.NetLemmas.{said_if, value_at-touched, rising-net_run}
use Rattle.climb_plan.specs.Limits.{IsShortCommand, AreShort}
use Rattle.climb_plan.specs.Plan.{planned_tree}
use Rattle.replies.specs.InTurn.{dels_of, points_by, points_of}
use Rattle.replies.proofs.Points.{has_key, has_key-in_range, wiped_by_dels}
use Rattle.engine.specs.Batch.{IsLaterFault}
use Rattle.engine.proofs.EndedRoutes.{tree_by}

abbrev Pairs : Type 0
Pairs = List (List ℕ × List ℕ)

abbrev Changes : Type 0
Changes = List (List ℕ × Option (List ℕ))

-- ---- tests

or_false : (b : Bool) → (b || false) ≡ b
or_false true = refl
or_false false = refl

or_assoc : (a b c : Bool) → ((a || b) || c) ≡ (a || (b || c))
or_assoc true b c = refl
or_assoc false b c = refl

or_first : (a b : Bool) → a ≡ true → (a || b) ≡ true
or_first true b h = refl
or_first false b h = absurd (cc)

or_second : (a b : Bool) → b ≡ true → (a || b) ≡ true
or_second true b h = refl
or_second false b h = h

-- ---- keys that a map has

-- a map has this key
abbrev Has : Pairs → List ℕ → Type 0
Has m k = is_some (value_at k m) ≡ true

each_in : (ks js : List (List ℕ)) → ((q : List ℕ) → has_key q js ≡ true → has_key q ks ≡ true) → AllByRecursion (λ k. has_key k ks ≡ true) js
each_in ks [] h = tt
each_in ks (j ∷ js) h = (h j (or_first (is_eq (order j j)) (has_key j js) (is_itself j)), each_in ks js (λ q p. h q (or_second (is_eq (order q j)) (has_key q js) p)))

has_each : (m : Pairs) (ks js : List (List ℕ)) → ((q : List ℕ) → has_key q ks ≡ true → Has m q) → AllByRecursion (λ k. has_key k ks ≡ true) js → AllByRecursion (Has m) js
has_each m ks [] h a = tt
has_each m ks (j ∷ js) h a = (h j a.0, has_each m ks js h a.1)

-- a map has the keys of its ranges
range_has : (lo : List ℕ) (hi : Option (List ℕ)) (m : Pairs) → AllByRecursion (Has m) (keys_of (in_range lo hi m))
range_has lo hi m =
    let ks = keys_of (in_range lo hi m) in
    has_each m ks ks (λ q p. (and_parts (is_within lo hi q) (is_some (value_at q m)) (sym (has_key-in_range q lo hi m) ∙ p)).1) (each_in ks ks (λ q p. p))

still_has : (m : Pairs) (k : List ℕ) (js : List (List ℕ)) → IsRising m → AllByRecursion (λ j. order k j ≡ Less) js → AllByRecursion (Has m) js → AllByRecursion (Has (without m k)) js
still_has m k [] r a h = tt
still_has m k (j ∷ js) r a h =
    (ap (λ (o : Option (List ℕ)). is_some o) (value_at-without m k j r ∙ ap (λ (x : Ordering). cond (is_eq x) None (value_at j m)) a.0) ∙ h.0, still_has m k js r a.1 h.1)

module _ (A : Type 0) where
  -- ---- the keys that points touch

  touched-dels : (q : List ℕ) (m : Pairs) (ks : List (List ℕ)) → IsRising m → AreRisingKeys ks → AllByRecursion (Has m) ks → is_touched q m (dels_of {A = A} ks) ≡ has_key q ks
  unfolding IsStrictlySortedBy
  touched-dels q m [] r s h = refl
  touched-dels q m (k ∷ ks) r s h =
      ap (λ (b : Bool). (b && is_eq (order q k)) || is_touched q (without m k) (dels_of {A = A} ks)) h.0
      ∙ ap (λ (b : Bool). is_eq (order q k) || b) (touched-dels q (without m k) ks (rising-without m k r) s.1 (still_has m k ks r s.0 h.1))

module _ {A : Type 0} where
  touched-append : (q : List ℕ) (m : Pairs) (cs ds : List (Command A)) → is_touched q m (cs ++ ds) ≡ (is_touched q m cs || is_touched q (map_after_all m cs) ds)
  touched-append q m [] ds = refl
  touched-append q m (c ∷ cs) ds =
      ap (λ (b : Bool). touches q m c || b) (touched-append q (map_after m c) cs ds)
      ∙ sym (or_assoc (touches q m c) (is_touched q (map_after m c) cs) (is_touched q (map_after_all (map_after m c) cs) ds))

  touched-points_by : (q : List ℕ) (m : Pairs) (c : Command A) → IsRising m → is_touched q m (points_by m c) ≡ touches q m c
  touched-points_by q m (Get k) r = refl
  touched-points_by q m (Put k v) r = or_false (touches {A = A} q m (Put k v))
  touched-points_by q m (Add k v) r = or_false (touches {A = A} q m (Add k v))
  touched-points_by q m (Del k) r = or_false (touches {A = A} q m (Del k))
  touched-points_by q m (Scan lo hi limit) r = refl
  touched-points_by q m (Wipe lo hi) r = touched-dels A q m (keys_of (in_range lo hi m)) r (rising-filtered (λ e. is_within lo hi e.0) m r) (range_has lo hi m) ∙ has_key-in_range q lo hi m

  -- ---- the map after them

  after-points_by : (m : Pairs) (c : Command A) → IsRising m → map_after_all m (points_by m c) ≡ map_after m c
  after-points_by m (Get k) r = refl
  after-points_by m (Put k v) r = refl
  after-points_by m (Add k v) r = refl
  after-points_by m (Del k) r = refl
  after-points_by m (Scan lo hi limit) r = refl
  after-points_by m (Wipe lo hi) r = wiped_by_dels A m lo hi r

  after-points : (m : Pairs) (cs : List (Command A)) → IsRising m → map_after_all m (points_of m cs) ≡ map_after_all m cs
  after-points m [] r = refl
  after-points m (c ∷ cs) r =
      map_after_all-append m (points_by m c) (points_of (map_after m c) cs)
      ∙ ap (λ (n : Pairs). map_after_all n (points_of (map_after m c) cs)) (after-points_by m c r)
      ∙ after-points (map_after m c) cs (rising-map_after m c r)

  touched-points : (q : List ℕ) (m : Pairs) (cs : List (Command A)) → IsRising m → is_touched q m (points_of m cs) ≡ is_touched q m cs
  touched-points q m [] r = refl
  touched-points q m (c ∷ cs) r =
      touched-append q m (points_by m c) (points_of (map_after m c) cs)
      ∙ ap (λ (b : Bool). b || is_touched q (map_after_all m (points_by m c)) (points_of (map_after m c) cs)) (touched-points_by q m c r)
      ∙ ap (λ (n : Pairs). touches q m c || is_touched q n (points_of (map_after m c) cs)) (after-points_by m c r)
      ∙ ap (λ (b : Bool). touches q m c || b) (touched-points q (map_after m c) cs (rising-map_after m c r))

  -- ---- the net run

  net_run-points : (m : Pairs) (cs : List (Command A)) → IsRising m → net_run m (points_of m cs) ≡ net_run m cs
  net_run-points m cs r =
      same_map (net_run m (points_of m cs)) (net_run m cs) (rising-net_run m (points_of m cs)) (rising-net_run m cs)
      (λ q. value_at-touched (map_after_all m (points_of m cs)) m (points_of m cs) q
      ∙ ap (λ (b : Bool). said_if b q (map_after_all m (points_of m cs))) (touched-points q m cs r)
      ∙ ap (λ (n : Pairs). said_if (is_touched q m cs) q n) (after-points m cs r)
      ∙ sym (value_at-touched (map_after_all m cs) m cs q))

-- ---- they are within the settings

-- keys that are within the settings
abbrev AreShortKeys : Settings → List (List ℕ) → Type 0
AreShortKeys s ks = AllByRecursion (λ k. length k ≤ s.max_key) ks

short_named : (s : Settings) (IsShort : List ℕ → Type 0) (cs : Changes) → AllByRecursion (IsShortChange s IsShort) cs → AreShortKeys s (keys_of cs)
short_named s IsShort [] a = tt
short_named s IsShort (c ∷ cs) a = (a.0.key, short_named s IsShort cs a.1)

short_both : (s : Settings) (xs ys : Pairs) → AreShortKeys s (keys_of xs) → AreShortKeys s (keys_of ys) → AreShortKeys s (keys_of (xs ++ ys))
short_both s [] ys a b = b
short_both s (x ∷ xs) ys a b = (a.0, short_both s xs ys a.1 b)

short_joined : (s : Settings) (ps : List (Placed (List ℕ))) → AllByRecursion (λ p. Fits s (IsShortValue s) p.page) ps → AreShortKeys s (keys_of (joined ps))
short_joined s [] a = tt
short_joined s (p ∷ ps) a =
    short_both s (entries p.page) (joined ps) (all_keys_entries (λ k. length k ≤ s.max_key) p.page (short_named s (IsShortValue s) (said p.page) a.0.changes)) (short_joined s ps a.1)

short_either : (s : Settings) (b : Bool) (m n : Pairs) → AreShortKeys s (keys_of m) → AreShortKeys s (keys_of n) → AreShortKeys s (keys_of (if b then m else n))
short_either s true m n a h = a
short_either s false m n a h = h

module _ {A : Type 0} where
  short_after : (s : Settings) (m : Pairs) (c : Command A) → AreShortKeys s (keys_of m) → IsShortCommand s c → AreShortKeys s (keys_of (map_after m c))
  short_after s m (Get k) a h = a
  short_after s m (Put k v) a h = all_keys-with_pair (λ j. length j ≤ s.max_key) m k v h.0 a
  short_after s m (Add k v) a h = short_either s (is_some (value_at k m)) m (with_pair m k v) a (all_keys-with_pair (λ j. length j ≤ s.max_key) m k v h.0 a)
  short_after s m (Del k) a h = all_keys-without (λ j. length j ≤ s.max_key) m k a
  short_after s m (Scan lo hi limit) a h = a
  short_after s m (Wipe lo hi) a h = all_keys-filtered (λ j. length j ≤ s.max_key) (λ e. not (is_within lo hi e.0)) m a

  short_append : (s : Settings) (cs ds : List (Command A)) → AreShort s cs → AreShort s ds → AreShort s (cs ++ ds)
  short_append s [] ds a b = b
  short_append s (c ∷ cs) ds a b = (a.0, short_append s cs ds a.1 b)

module _ (A : Type 0) where
  short_dels : (s : Settings) (ks : List (List ℕ)) → AreShortKeys s ks → AreShort s (dels_of {A = A} ks)
  short_dels s [] a = tt
  short_dels s (k ∷ ks) a = (a.0, short_dels s ks a.1)

module _ {A : Type 0} where
  short_points_by : (s : Settings) (m : Pairs) (c : Command A) → AreShortKeys s (keys_of m) → IsShortCommand s c → AreShort s (points_by m c)
  short_points_by s m (Get k) a h = tt
  short_points_by s m (Put k v) a h = (h, tt)
  short_points_by s m (Add k v) a h = (h, tt)
  short_points_by s m (Del k) a h = (h, tt)
  short_points_by s m (Scan lo hi limit) a h = tt
  short_points_by s m (Wipe lo hi) a h = short_dels A s (keys_of (in_range lo hi m)) (all_keys-filtered (λ j. length j ≤ s.max_key) (λ e. is_within lo hi e.0) m a)

  short_points_of : (s : Settings) (m : Pairs) (cs : List (Command A)) → AreShortKeys s (keys_of m) → AreShort s cs → AreShort s (points_of m cs)
  short_points_of s m [] a h = tt
  short_points_of s m (c ∷ cs) a h =
      short_append s (points_by m c) (points_of (map_after m c) cs) (short_points_by s m c a h.0) (short_points_of s (map_after m c) cs (short_after s m c a h.0) h.1)

-- ---- the points of a batch on a proper tree

module _ {A : Type 0} (s : Settings) (t : Tree) (cs points : List (Command A)) (proper : IsProper s t) (same : points ≡ points_of (contents t) cs) where
  rising : IsRising (contents t)
  rising = rising-joined (levels_of t).level None proper.levels.tiled

  pub points_are_short : AreShort s cs → AreShort s points
  points_are_short h =
      subst (λ (ps : List (Command A)). AreShort s ps) (sym same) (short_points_of s (contents t) cs (short_joined s (levels_of t).level proper.fit.leaves) h)

  pub points_leave_the_map : map_after_all (contents t) points ≡ map_after_all (contents t) cs
  points_leave_the_map = ap (λ (ps : List (Command A)). map_after_all (contents t) ps) same ∙ after-points (contents t) cs rising

  pub points_have_the_plan : planned_tree s t points ≡ planned_tree s t cs
  points_have_the_plan =
      ap (λ (ps : List (Command A)). planned_tree s t ps) same ∙ ap (tree_by s t) (net_run-points (contents t) cs rising)

  pub points_have_the_fault : (fault : Fault) → IsLaterFault s t points fault → IsLaterFault s t cs fault
  points_have_the_fault fault h = subst (λ (planned : Tree). (fault ≡ NoMemory) ⊎ ((fault ≡ Spent) × (most_levels < planned.height))) points_have_the_plan h
