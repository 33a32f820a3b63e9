-- The undo commands of an admitted batch are admitted, if they are not too many for one batch.
use Rattle.std.specs.Prelude.{◌≡◌, ◌≤◌, ◌<◌, ◌⊎◌, ℕ, zero, suc, ◌+◌, Bool, true, false, nat_lt, cond, if◌then◌else◌, List, [], ◌∷◌, ◌++◌, length, take, drop, Option, Some, None}
use Rattle.std.proofs.Common.{refl, sym, ap, ◌∙◌, subst, arith, append_assoc, get_or, length-append, inl, inr}
use Rattle.std.specs.List.{AllByRecursion, filter}
use Rattle.std.specs.Option.{option_or}
use Rattle.std.specs.Ordering.{is_eq}
use Rattle.std.specs.declared.alloc.Global.{Global}
use Rattle.std.proofs.lemmas.Bool.{le-ltb}
use Rattle.std.proofs.lemmas.List.{append-nil, drop_all, length-map}
use Rattle.keys.specs.Bytes.{Bytes, Pairs}
use Rattle.keys.specs.Order.{order}
use Rattle.keys.specs.OrderedMap.{value_at}
use Rattle.keys.specs.Range.{is_within, in_range}
use Rattle.keys.specs.declared.settings.Settings.{Settings}
use Rattle.keys.specs.declared.command.Command.{Command}
use Rattle.keys.specs.declared.command.Command.TheVariants.{Get, Put, Add, Del, Scan, Wipe}
use Rattle.keys.specs.declared.fault.Fault.{Fault}
use Rattle.keys.specs.declared.fault.Fault.TheVariants.{BatchTooLong, KeyTooLong, ValueTooLong}
use Rattle.keys.proofs.MapLemmas.{passes_same}
use Rattle.flush_log.proofs.ReachLemmas.{front_item}
use Rattle.climb_plan.specs.Limits.{IsShortPair, AreShort}
use Rattle.engine.specs.Copies.{put_of, puts_of}
use Rattle.engine.specs.Refusal.{first_fault, longest_batch, refusal}
use Rattle.engine.specs.Undo.{most_restored, restore, undo_of, undo_of_all, undo_within}

module _ (s : Settings) where
  -- ---- puts and deletes of short keys and values have no fault

  -- the command is a put or a delete
  abbrev IsWrite : Command Global → Type 0
  IsWrite (Get k) = ⊥
  IsWrite (Put k v) = IsShortPair s k v
  IsWrite (Add k v) = ⊥
  IsWrite (Del k) = length k ≤ s.max_key
  IsWrite (Scan lo hi limit) = ⊥
  IsWrite (Wipe lo hi) = ⊥

  none_if : (max n : ℕ) (fault : Fault) → n ≤ max → (if nat_lt max n then Some fault else None) ≡ None
  none_if max n fault few = ap (λ (b : Bool). cond b (Some fault) None) (le-ltb max n few)

  neither_fault : (o p : Option Fault) → o ≡ None → p ≡ None → option_or o p ≡ None
  neither_fault None p h g = g
  neither_fault (Some f) p h g = absurd (cc)

  no_first_fault : (place : ℕ) (ds : List (Command Global)) → AllByRecursion IsWrite ds → first_fault s place ds ≡ None
  no_first_fault place [] a = refl
  no_first_fault place (Get k ∷ ds) a = absurd a.0
  no_first_fault place (Put k v ∷ ds) a =
      neither_fault _ (first_fault s (place + 1) ds)
      (neither_fault _ _ (none_if s.max_key (length k) (KeyTooLong place) a.0.0) (none_if s.max_value (length v) (ValueTooLong place) a.0.1))
      (no_first_fault (place + 1) ds a.1)
  no_first_fault place (Add k v ∷ ds) a = absurd a.0
  no_first_fault place (Del k ∷ ds) a = neither_fault _ (first_fault s (place + 1) ds) (none_if s.max_key (length k) (KeyTooLong place) a.0) (no_first_fault (place + 1) ds a.1)
  no_first_fault place (Scan lo hi limit ∷ ds) a = absurd a.0
  no_first_fault place (Wipe lo hi ∷ ds) a = absurd a.0

  not_refused : (ds : List (Command Global)) → AllByRecursion IsWrite ds → length ds ≤ longest_batch → refusal s ds ≡ None
  not_refused ds a few = ap (λ (b : Bool). cond b (Some BatchTooLong) (first_fault s 0 ds)) (le-ltb longest_batch (length ds) few) ∙ no_first_fault 0 ds a

  -- ---- the undo commands are such commands

  short_by : (b : Bool) (k v : Bytes) (e : Bytes × Bytes) (rest : Option Bytes) → is_eq (order k e.0) ≡ b → IsShortPair s e.0 e.1 → (rest ≡ Some v → IsShortPair s k v) → cond b (Some e.1) rest ≡ Some v → IsShortPair s k v
  short_by true k v e rest same short later h =
      let value : e.1 ≡ v = cc in
      (rw (passes_same k e.0 same) short.0, subst (λ (x : Bytes). length x ≤ s.max_value) value short.1)
  short_by false k v e rest same short later h = later h

  -- a pair of a map whose pairs are short
  short_found : (m : Pairs Bytes) (k v : Bytes) → AreShort {A = Global} s (puts_of m) → value_at k m ≡ Some v → IsShortPair s k v
  short_found [] k v a h = absurd (cc)
  short_found (e ∷ es) k v a h = short_by (is_eq (order k e.0)) k v e (value_at k es) refl a.0 (short_found es k v a.1) h

  write_if : (b : Bool) (e : Bytes × Bytes) (es : Pairs Bytes) → IsShortPair s e.0 e.1 → AllByRecursion IsWrite (puts_of es) → AllByRecursion IsWrite (puts_of (cond b (e ∷ es) es))
  write_if true e es short a = (short, a)
  write_if false e es short a = a

  writes_filtered : (passes : Bytes × Bytes → Bool) (m : Pairs Bytes) → AreShort {A = Global} s (puts_of m) → AllByRecursion IsWrite (puts_of (filter passes m))
  writes_filtered passes [] a = tt
  writes_filtered passes (e ∷ es) a = write_if (passes e) e (filter passes es) a.0 (writes_filtered passes es a.1)

  write_by : (m : Pairs Bytes) (k : Bytes) (o : Option Bytes) → AreShort {A = Global} s (puts_of m) → length k ≤ s.max_key → value_at k m ≡ o → IsWrite (restore k o)
  write_by m k None a short h = short
  write_by m k (Some v) a short h = short_found m k v a h

  writes_of : (m : Pairs Bytes) (c : Command Global) → AreShort {A = Global} s (puts_of m) → AreShort s (c ∷ []) → AllByRecursion IsWrite (undo_of m c)
  writes_of m (Get k) a short = tt
  writes_of m (Put k v) a short = (write_by m k (value_at k m) a short.0.0 refl, tt)
  writes_of m (Add k v) a short = (write_by m k (value_at k m) a short.0.0 refl, tt)
  writes_of m (Del k) a short = (write_by m k (value_at k m) a short.0 refl, tt)
  writes_of m (Scan lo hi limit) a short = tt
  writes_of m (Wipe lo hi) a short = writes_filtered (λ e. is_within lo hi e.0) m a

  writes_both : (cs ds : List (Command Global)) → AllByRecursion IsWrite cs → AllByRecursion IsWrite ds → AllByRecursion IsWrite (cs ++ ds)
  writes_both [] ds a b = b
  writes_both (c ∷ cs) ds a b = (a.0, writes_both cs ds a.1 b)

  writes_of_all : (m : Pairs Bytes) (cs : List (Command Global)) → AreShort {A = Global} s (puts_of m) → AreShort s cs → AllByRecursion IsWrite (undo_of_all m cs)
  writes_of_all m [] a short = tt
  writes_of_all m (c ∷ cs) a short = writes_both (undo_of m c) (undo_of_all m cs) (writes_of m c a (short.0, tt)) (writes_of_all m cs a short.1)

  pub undo_not_refused : (m : Pairs Bytes) (cs : List (Command Global)) → AreShort {A = Global} s (puts_of m) → AreShort s cs → length (undo_of_all m cs) ≤ longest_batch → refusal s (undo_of_all m cs) ≡ None
  undo_not_refused m cs a short few = not_refused (undo_of_all m cs) (writes_of_all m cs a short) few

-- ---- the limit on the pairs of a wipe

same_or_long : {X : Type 0} (n : ℕ) (xs : List X) → (take n xs ≡ xs) ⊎ (n ≤ length (take n xs))
same_or_long zero xs = inr (omega arith)
same_or_long (suc n) [] = inl refl
same_or_long {X} (suc n) (x ∷ xs) = elim (same_or_long n xs) [
  | inl same ↦ inl (ap (λ (ys : List X). x ∷ ys) same)
  | inr long ↦ inr (omega (arith, long))
]

take_less : {X : Type 0} (n : ℕ) (xs : List X) → length (take n xs) ≤ length xs
take_less zero xs = omega arith
take_less (suc n) [] = omega arith
take_less (suc n) (x ∷ xs) = (let few = take_less n xs in omega (arith, few))

-- with the commands before it, a command that is undone within the limit has all its undo commands
pub all_undone : (m : Pairs Bytes) (c : Command Global) (old : List (Command Global)) → length (old ++ undo_within m c) ≤ longest_batch → old ++ undo_within m c ≡ old ++ undo_of m c
all_undone m (Get k) old few = refl
all_undone m (Put k v) old few = refl
all_undone m (Add k v) old few = refl
all_undone m (Del k) old few = refl
all_undone m (Scan lo hi limit) old few = refl
all_undone m (Wipe lo hi) old few = elim (same_or_long most_restored (in_range lo hi m)) [
  | inl same ↦ ap (λ (es : Pairs Bytes). old ++ puts_of es) same
  | inr long ↦ (
      let both = length-append old (puts_of (take most_restored (in_range lo hi m))) in
      let count = length-map (take most_restored (in_range lo hi m)) put_of in
      absurd (omega (arith, few, both, count, long)))
]

-- a command that has too many undo commands within the limit has too many
pub too_many : (m : Pairs Bytes) (c : Command Global) (old : List (Command Global)) → longest_batch < length (old ++ undo_within m c) → longest_batch < length (old ++ undo_of m c)
too_many m (Get k) old many = many
too_many m (Put k v) old many = many
too_many m (Add k v) old many = many
too_many m (Del k) old many = many
too_many m (Scan lo hi limit) old many = many
too_many m (Wipe lo hi) old many =
    let some = length-append old (puts_of (take most_restored (in_range lo hi m))) in
    let all = length-append old (puts_of (in_range lo hi m)) in
    let count = length-map (take most_restored (in_range lo hi m)) put_of in
    let total = length-map (in_range lo hi m) put_of in
    let fewer = take_less most_restored (in_range lo hi m) in
    omega (arith, many, some, all, count, total, fewer)

-- ---- the undo commands of a batch, one command after the other

module _ (m : Pairs Bytes) (cs : List (Command Global)) (at : ℕ) (c : Command Global) (old : List (Command Global)) (within : at < length cs) (is : c ≡ get_or cs at c) (so_far : old ++ undo_of_all m (drop at cs) ≡ undo_of_all m cs) where
  with_next : (old ++ undo_of m c) ++ undo_of_all m (drop (at + 1) cs) ≡ undo_of_all m cs
  with_next =
      append_assoc old (undo_of m c) (undo_of_all m (drop (at + 1) cs))
      ∙ sym (ap (λ (ds : List (Command Global)). old ++ undo_of_all m ds) (front_item cs at c within is))
      ∙ so_far

  pub next_undo : (now : List (Command Global)) → now ≡ old ++ undo_of m c → now ++ undo_of_all m (drop (at + 1) cs) ≡ undo_of_all m cs
  next_undo now added = ap (λ (ds : List (Command Global)). ds ++ undo_of_all m (drop (at + 1) cs)) added ∙ with_next

  pub too_long : longest_batch < length (old ++ undo_of m c) → longest_batch < length (undo_of_all m cs)
  too_long many =
      let both = length-append (old ++ undo_of m c) (undo_of_all m (drop (at + 1) cs)) in
      let all = ap length with_next in
      omega (arith, many, both, all)

pub all_undo : (m : Pairs Bytes) (cs : List (Command Global)) (at : ℕ) (now : List (Command Global)) → length cs ≤ at → now ++ undo_of_all m (drop at cs) ≡ undo_of_all m cs → now ≡ undo_of_all m cs
all_undo m cs at now end all = sym (append-nil now) ∙ sym (ap (λ (ds : List (Command Global)). now ++ undo_of_all m ds) (drop_all at cs end)) ∙ all
