-- The number of pairs after commands, counted by the replies to them.
use Rattle.std.proofs.Common.{◌≡◌, ◌+◌, ◌-◌, ◌^◌, ◌<◌, ◌≤◌, ℕ, suc, Bool, true, false, not, is_some, if◌then◌else◌, List, [], ◌∷◌, length, Option, Some, None, cond, Less, Equal, Greater, refl, sym, ap, ◌∙◌, arith}
use Rattle.std.specs.List.Sorted.{IsStrictlySortedBy}
use Rattle.std.specs.Map.{keys_of}
use Rattle.std.specs.Ordering.{is_eq, match_ordering}
use Rattle.std.specs.declared.cmp.Ordering.{Ordering}
use Rattle.std.specs.declared.alloc.Global.{Global}
use Rattle.std.proofs.lemmas.List.Filters.{length-filter_both}
use Rattle.keys.specs.Order.{IsRising, order}
use Rattle.keys.specs.OrderedMap.{value_at, with_pair, without}
use Rattle.keys.specs.Range.{is_within}
use Rattle.keys.specs.Step.{found, reply_to, map_after, replies_to, map_after_all}
use Rattle.keys.specs.declared.command.Command.{Command}
use Rattle.keys.specs.declared.command.Command.TheVariants.{Get, Put, Add, Del, Scan, Wipe}
use Rattle.keys.specs.declared.command.Reply.{Reply}
use Rattle.keys.specs.declared.command.Reply.TheVariants.{New, Replaced, Added, Exists, Deleted, Missing}
use Rattle.keys.proofs.MapLemmas.{IsBelowAll, below_all}
use Rattle.keys.proofs.RunLemmas.{rising-map_after}
use Rattle.engine.specs.PairCount.{pairs_after, pairs_after_all}

abbrev Pairs : Type 0
Pairs = List (List ℕ × List ℕ)

-- a key that is below all keys is not there
not_there : (k : List ℕ) (m : Pairs) → IsBelowAll k (keys_of m) → value_at k m ≡ None
not_there k [] a = refl
not_there k (e ∷ es) a = rw a.0 (not_there k es a.1)

-- a map of n pairs has this many after a key was set
abbrev with_one : Bool → ℕ → ℕ
with_one there n = if there then n else n + 1

one_longer : (b : Bool) (n x : ℕ) → n ≡ with_one b x → suc n ≡ with_one b (suc x)
one_longer true n x e = ap suc e
one_longer false n x e = omega (arith, e)

put_by : (o : Ordering) (k v : List ℕ) (e : List ℕ × List ℕ) (es : Pairs) → order k e.0 ≡ o → IsRising (e ∷ es) → length (with_pair es k v) ≡ with_one (is_some (value_at k es)) (length es)
    → length (match_ordering o ((k, v) ∷ e ∷ es) ((e.0, v) ∷ es) (e ∷ with_pair es k v)) ≡ with_one (is_some (value_at k (e ∷ es))) (length (e ∷ es))
unfolding IsStrictlySortedBy
put_by Less k v e es h r ih = rw (h, not_there k es (below_all k e.0 (keys_of es) h r.0)) (omega arith)
put_by Equal k v e es h r ih = rw h refl
put_by Greater k v e es h r ih = rw h (one_longer (is_some (value_at k es)) (length (with_pair es k v)) (length es) ih)

pub length-with_pair : (m : Pairs) (k v : List ℕ) → IsRising m → length (with_pair m k v) ≡ with_one (is_some (value_at k m)) (length m)
unfolding IsStrictlySortedBy
length-with_pair [] k v r = omega arith
length-with_pair (e ∷ es) k v r = put_by (order k e.0) k v e es refl r (length-with_pair es k v r.1)

abbrev without_one : Bool → ℕ → ℕ
without_one there n = if there then n - 1 else n

there_is_some : (m : Pairs) (k : List ℕ) → is_some (value_at k m) ≡ true → 0 < length m
there_is_some [] k h = absurd (cc)
there_is_some (e ∷ es) k h = omega arith

one_longer_without : (b : Bool) (n x : ℕ) → (b ≡ true → 0 < x) → n ≡ without_one b x → suc n ≡ without_one b (suc x)
one_longer_without true n x some e = omega (arith, some refl, e)
one_longer_without false n x some e = ap suc e

del_by : (b : Bool) (k : List ℕ) (e : List ℕ × List ℕ) (es : Pairs) → is_eq (order k e.0) ≡ b → length (without es k) ≡ without_one (is_some (value_at k es)) (length es)
    → length (cond b es (e ∷ without es k)) ≡ without_one (is_some (value_at k (e ∷ es))) (length (e ∷ es))
del_by true k e es h ih = rw h (omega arith)
del_by false k e es h ih = rw h (one_longer_without (is_some (value_at k es)) (length (without es k)) (length es) (there_is_some es k) ih)

pub length-without : (m : Pairs) (k : List ℕ) → length (without m k) ≡ without_one (is_some (value_at k m)) (length m)
length-without [] k = refl
length-without (e ∷ es) k = del_by (is_eq (order k e.0)) k e es refl (length-without es k)

get_by : (n : ℕ) (o : Option (List ℕ)) → pairs_after n (found o) ≡ n
get_by n None = refl
get_by n (Some v) = refl

put_count : (b : Bool) (n after : ℕ) → n + 1 ≤ 2 ^ 128 - 1 → after ≡ with_one b n → pairs_after n (if b then Replaced else New) ≡ after
put_count true n after small e = sym e
put_count false n after small e = omega (arith, small, e)

add_count : (b : Bool) (m put : Pairs) → length m + 1 ≤ 2 ^ 128 - 1 → length put ≡ with_one b (length m) → pairs_after (length m) (if b then Exists else Added) ≡ length (if b then m else put)
add_count true m put small e = refl
add_count false m put small e = omega (arith, small, e)

del_count : (b : Bool) (n after : ℕ) → after ≡ without_one b n → pairs_after n (if b then Deleted else Missing) ≡ after
del_count true n after e = sym e
del_count false n after e = sym e

pub pairs_after-reply : (m : Pairs) (c : Command Global) → IsRising m → length m + 1 ≤ 2 ^ 128 - 1 → pairs_after (length m) (reply_to m c) ≡ length (map_after m c)
pairs_after-reply m (Get k) r small = get_by (length m) (value_at k m)
pairs_after-reply m (Put k v) r small = put_count (is_some (value_at k m)) (length m) (length (with_pair m k v)) small (length-with_pair m k v r)
pairs_after-reply m (Add k v) r small = add_count (is_some (value_at k m)) m (with_pair m k v) small (length-with_pair m k v r)
pairs_after-reply m (Del k) r small = del_count (is_some (value_at k m)) (length m) (length (without m k)) (length-without m k)
pairs_after-reply m (Scan lo hi limit) r small = refl
pairs_after-reply m (Wipe lo hi) r small =
    omega (arith, length-filter_both (λ (e : List ℕ × List ℕ). is_within lo hi e.0) (λ e. not (is_within lo hi e.0)) (λ e. refl) m)

-- a command adds one pair at most
with_one-le : (b : Bool) (n : ℕ) → with_one b n ≤ n + 1
with_one-le true n = omega arith
with_one-le false n = omega arith

without_one-le : (b : Bool) (n : ℕ) → without_one b n ≤ n + 1
without_one-le true n = omega arith
without_one-le false n = omega arith

either-le : (b : Bool) (m put : Pairs) (n : ℕ) → length m ≤ n → length put ≤ n → length (if b then m else put) ≤ n
either-le true m put n p q = p
either-le false m put n p q = q

pub length-map_after-le : (m : Pairs) (c : Command Global) → IsRising m → length (map_after m c) ≤ length m + 1
length-map_after-le m (Get k) r = omega arith
length-map_after-le m (Put k v) r = omega (arith, length-with_pair m k v r, with_one-le (is_some (value_at k m)) (length m))
length-map_after-le m (Add k v) r =
    either-le (is_some (value_at k m)) m (with_pair m k v) (length m + 1) (omega arith) (omega (arith, length-with_pair m k v r, with_one-le (is_some (value_at k m)) (length m)))
length-map_after-le m (Del k) r = omega (arith, length-without m k, without_one-le (is_some (value_at k m)) (length m))
length-map_after-le m (Scan lo hi limit) r = omega arith
length-map_after-le m (Wipe lo hi) r =
    omega (arith, length-filter_both (λ (e : List ℕ × List ℕ). is_within lo hi e.0) (λ e. not (is_within lo hi e.0)) (λ e. refl) m)

pub pairs_after-replies : (m : Pairs) (cs : List (Command Global)) → IsRising m → length m + length cs ≤ 2 ^ 128 - 1 → pairs_after_all (length m) (replies_to m cs) ≡ length (map_after_all m cs)
pairs_after-replies m [] r small = refl
pairs_after-replies m (c ∷ cs) r small =
    ap (λ (n : ℕ). pairs_after_all n (replies_to (map_after m c) cs)) (pairs_after-reply m c r (omega (arith, small)))
    ∙ pairs_after-replies (map_after m c) cs (rising-map_after m c r) (omega (arith, small, length-map_after-le m c r))

-- the count after a batch with these replies
pub counted : (m after : Pairs) (cs : List (Command Global)) (rs : List (Reply Global)) (pairs count : ℕ) → IsRising m → length m + length cs ≤ 2 ^ 128 - 1 → pairs ≡ length m → rs ≡ replies_to m cs → after ≡ map_after_all m cs
    → count ≡ pairs_after_all pairs rs → count ≡ length after
counted m after cs rs pairs count rising fit before replies map is =
    is ∙ ap (λ (n : ℕ). pairs_after_all n rs) before ∙ ap (λ (l : List (Reply Global)). pairs_after_all (length m) l) replies ∙ pairs_after-replies m cs rising fit ∙ ap length (sym map)
