-- The undo commands of a batch make again the map that was there before the batch.
use Rattle.std.specs.Prelude.{◌≡◌, Bool, true, false, cond, ◌||◌, List, [], ◌∷◌, ◌++◌, Option, Some, None, is_some}
use Rattle.std.proofs.Common.{refl, sym, ap, ◌∙◌}
use Rattle.std.specs.List.{AllByRecursion}
use Rattle.std.specs.List.Sorted.{IsStrictlySortedBy}
use Rattle.std.specs.Ordering.{is_eq}
use Rattle.std.specs.declared.alloc.Global.{Global}
use Rattle.std.proofs.lemmas.Map.Entries.{lookup-filter-keys}
use Rattle.keys.specs.Bytes.{Bytes, Pairs}
use Rattle.keys.specs.CommandKey.{key_of}
use Rattle.keys.specs.Order.{order, IsRising}
use Rattle.keys.specs.OrderedMap.{value_at, with_pair}
use Rattle.keys.specs.Range.{is_within, in_range, out_of_range}
use Rattle.keys.specs.Step.{map_after, map_after_all}
use Rattle.keys.specs.declared.command.Command.{Command}
use Rattle.keys.specs.declared.command.Command.TheVariants.{Get, Put, Add, Del, Scan, Wipe}
use Rattle.keys.proofs.MapLemmas.{alike, is_itself, passes_same, same_map, value_at_rest, value_at-with_pair_here, value_at-with_pair_apart, value_at-without}
use Rattle.keys.proofs.RangeLemmas.{rising-filtered, kept_outside, wiped_within}
use Rattle.keys.proofs.RunLemmas.{rising-map_after, rising-map_after_all}
use Rattle.engine.specs.Copies.{puts_of}
use Rattle.engine.specs.Undo.{restore, undo_of, undo_of_all}

-- ---- commands that restore the values of a map

-- the command gives its key the value that the map has there, or deletes it if the map has none
abbrev IsRestoring : Pairs Bytes → Command Global → Type 0
IsRestoring m (Get k) = ⊥
IsRestoring m (Put k v) = value_at k m ≡ Some v
IsRestoring m (Add k v) = ⊥
IsRestoring m (Del k) = value_at k m ≡ None
IsRestoring m (Scan lo hi limit) = ⊥
IsRestoring m (Wipe lo hi) = ⊥

-- whether one of the commands has this key
abbrev is_named : Bytes → List (Command Global) → Bool
is_named q [] = false
is_named q (d ∷ ds) = is_eq (order q (key_of d)) || is_named q ds

restored_by : (m n : Pairs Bytes) (d : Command Global) (q : Bytes) → IsRestoring m d → IsRising n → (b : Bool) → is_eq (order q (key_of d)) ≡ b → value_at q (map_after n d) ≡ cond b (value_at q m) (value_at q n)
restored_by m n (Get k) q is r b e = absurd is
restored_by m n (Put k v) q is r true e = rw (passes_same q k e) (value_at-with_pair_here n k v ∙ sym is)
restored_by m n (Put k v) q is r false e = value_at-with_pair_apart n k q v e
restored_by m n (Add k v) q is r b e = absurd is
restored_by m n (Del k) q is r true e =
    value_at-without n k q r ∙ ap (λ (x : Bool). cond x None (value_at q n)) (alike.symm k q ∙ e) ∙ sym (ap (λ (x : Bytes). value_at x m) (passes_same q k e) ∙ is)
restored_by m n (Del k) q is r false e = value_at-without n k q r ∙ ap (λ (x : Bool). cond x None (value_at q n)) (alike.symm k q ∙ e)
restored_by m n (Scan lo hi limit) q is r b e = absurd is
restored_by m n (Wipe lo hi) q is r b e = absurd is

named_or_kept : (b : Bool) (v o w : Option Bytes) (later : Bool) → w ≡ cond b v o → ((b || later) ≡ false → o ≡ v) → later ≡ false → w ≡ v
named_or_kept true v o w later is kept none = is
named_or_kept false v o w later is kept none = is ∙ kept none

-- Such commands give a key the value that the map has there, if one of them has the key or if it had that value before.
restored_all : (m n : Pairs Bytes) (ds : List (Command Global)) (q : Bytes) → AllByRecursion (IsRestoring m) ds → IsRising n → (is_named q ds ≡ false → value_at q n ≡ value_at q m) → value_at q (map_after_all n ds) ≡ value_at q m
restored_all m n [] q a r kept = kept refl
restored_all m n (d ∷ ds) q a r kept =
    restored_all m (map_after n d) ds q a.1 (rising-map_after n d r)
    (named_or_kept (is_eq (order q (key_of d))) (value_at q m) (value_at q n) (value_at q (map_after n d)) (is_named q ds) (restored_by m n d q a.0 r (is_eq (order q (key_of d))) refl) kept)

-- ---- the undo commands restore

some_if : (b : Bool) (o : Option Bytes) (v : Bytes) → cond b None o ≡ Some v → o ≡ Some v
some_if true o v h = absurd (cc)
some_if false o v h = h

some_unless : (b : Bool) (o : Option Bytes) (v : Bytes) → cond b o None ≡ Some v → o ≡ Some v
some_unless true o v h = h
some_unless false o v h = absurd (cc)

puts_restore : (m es : Pairs Bytes) → IsRising es → ((k v : Bytes) → value_at k es ≡ Some v → value_at k m ≡ Some v) → AllByRecursion (IsRestoring m) (puts_of es)
unfolding IsStrictlySortedBy
puts_restore m [] r within = tt
puts_restore m (e ∷ es) r within = (
  within e.0 e.1 (ap (λ (b : Bool). cond b (Some e.1) (value_at e.0 es)) (is_itself e.0)),
  puts_restore m es r.1 (λ k v h. within k v (some_if (is_eq (order k e.0)) (value_at k (e ∷ es)) v (sym (value_at_rest e es k r) ∙ h))),
)

value_at-in_range : (m : Pairs Bytes) (lo : Bytes) (hi : Option Bytes) (k : Bytes) → value_at k (in_range lo hi m) ≡ cond (is_within lo hi k) (value_at k m) None
value_at-in_range m lo hi k = lookup-filter-keys (λ j. is_eq (order k j)) (is_within lo hi) (is_within lo hi k) (λ j p. ap (is_within lo hi) (sym (passes_same k j p))) m

restore_restores : (m : Pairs Bytes) (k : Bytes) (o : Option Bytes) → value_at k m ≡ o → IsRestoring m (restore k o)
restore_restores m k None h = h
restore_restores m k (Some v) h = h

undo_restores : (m : Pairs Bytes) (c : Command Global) → IsRising m → AllByRecursion (IsRestoring m) (undo_of m c)
undo_restores m (Get k) r = tt
undo_restores m (Put k v) r = (restore_restores m k (value_at k m) refl, tt)
undo_restores m (Add k v) r = (restore_restores m k (value_at k m) refl, tt)
undo_restores m (Del k) r = (restore_restores m k (value_at k m) refl, tt)
undo_restores m (Scan lo hi limit) r = tt
undo_restores m (Wipe lo hi) r =
    puts_restore m (in_range lo hi m) (rising-filtered (λ e. is_within lo hi e.0) m r)
    (λ k v h. some_unless (is_within lo hi k) (value_at k m) v (sym (value_at-in_range m lo hi k) ∙ h))

all_both : (P : Command Global → Type 0) (cs ds : List (Command Global)) → AllByRecursion P cs → AllByRecursion P ds → AllByRecursion P (cs ++ ds)
all_both P [] ds a b = b
all_both P (c ∷ cs) ds a b = (a.0, all_both P cs ds a.1 b)

undo_all_restores : (m : Pairs Bytes) (cs : List (Command Global)) → IsRising m → AllByRecursion (IsRestoring m) (undo_of_all m cs)
undo_all_restores m [] r = tt
undo_all_restores m (c ∷ cs) r = all_both (IsRestoring m) (undo_of m c) (undo_of_all m cs) (undo_restores m c r) (undo_all_restores m cs r)

-- ---- a batch changes only keys of its undo commands

named_first : (b h : Bool) (v : Bytes) (o : Option Bytes) → h ≡ is_some o → (b || h) ≡ is_some (cond b (Some v) o)
named_first true h v o e = refl
named_first false h v o e = e

named_puts : (q : Bytes) (es : Pairs Bytes) → is_named q (puts_of es) ≡ is_some (value_at q es)
named_puts q [] = refl
named_puts q (e ∷ es) = named_first (is_eq (order q e.0)) (is_named q (puts_of es)) e.1 (value_at q es) (named_puts q es)

key_of_restore : (k : Bytes) (o : Option Bytes) → key_of (restore k o) ≡ k
key_of_restore k None = refl
key_of_restore k (Some v) = refl

or_left : (a b : Bool) → (a || b) ≡ false → a ≡ false
or_left true b h = h
or_left false b h = refl

-- a command that restores one key has no other
apart : (m : Pairs Bytes) (k q : Bytes) → is_named q (restore k (value_at k m) ∷ []) ≡ false → is_eq (order q k) ≡ false
apart m k q none = ap (λ (x : Bytes). is_eq (order q x)) (sym (key_of_restore k (value_at k m))) ∙ or_left (is_eq (order q (key_of (restore k (value_at k m))))) false none

none_there : (o : Option Bytes) → is_some o ≡ false → o ≡ None
none_there None h = refl
none_there (Some v) h = absurd (cc)

either_kept : (b : Bool) (q : Bytes) (n p : Pairs Bytes) (v : Option Bytes) → value_at q n ≡ v → value_at q p ≡ v → value_at q (cond b n p) ≡ v
either_kept true q n p v h g = h
either_kept false q n p v h g = g

wiped_by : (b : Bool) (m n : Pairs Bytes) (lo : Bytes) (hi : Option Bytes) (q : Bytes) → is_within lo hi q ≡ b → is_some (cond b (value_at q m) None) ≡ false → value_at q n ≡ value_at q m → value_at q (out_of_range lo hi n) ≡ value_at q m
wiped_by true m n lo hi q e none h = wiped_within n lo hi q e ∙ sym (none_there (value_at q m) none)
wiped_by false m n lo hi q e none h = kept_outside n lo hi q e ∙ h

kept_by_one : (m n : Pairs Bytes) (c : Command Global) (q : Bytes) → IsRising n → is_named q (undo_of m c) ≡ false → value_at q n ≡ value_at q m → value_at q (map_after n c) ≡ value_at q m
kept_by_one m n (Get k) q r none h = h
kept_by_one m n (Put k v) q r none h = value_at-with_pair_apart n k q v (apart m k q none) ∙ h
kept_by_one m n (Add k v) q r none h = either_kept (is_some (value_at k n)) q n (with_pair n k v) (value_at q m) h (value_at-with_pair_apart n k q v (apart m k q none) ∙ h)
kept_by_one m n (Del k) q r none h = value_at-without n k q r ∙ ap (λ (x : Bool). cond x None (value_at q n)) (alike.symm k q ∙ apart m k q none) ∙ h
kept_by_one m n (Scan lo hi limit) q r none h = h
kept_by_one m n (Wipe lo hi) q r none h =
    wiped_by (is_within lo hi q) m n lo hi q refl (ap (λ (o : Option Bytes). is_some o) (sym (value_at-in_range m lo hi q)) ∙ sym (named_puts q (in_range lo hi m)) ∙ none) h

named_later : (b x y z : Bool) → (b || x) ≡ false → (x ≡ false → (y ≡ false) × (z ≡ false)) → ((b || y) ≡ false) × (z ≡ false)
named_later true x y z none both = absurd (cc)
named_later false x y z none both = both none

named_both : (q : Bytes) (cs ds : List (Command Global)) → is_named q (cs ++ ds) ≡ false → (is_named q cs ≡ false) × (is_named q ds ≡ false)
named_both q [] ds none = (refl, none)
named_both q (c ∷ cs) ds none = named_later (is_eq (order q (key_of c))) (is_named q (cs ++ ds)) (is_named q cs) (is_named q ds) none (named_both q cs ds)

kept_by_all : (m n : Pairs Bytes) (cs : List (Command Global)) (q : Bytes) → IsRising n → is_named q (undo_of_all m cs) ≡ false → value_at q n ≡ value_at q m → value_at q (map_after_all n cs) ≡ value_at q m
kept_by_all m n [] q r none h = h
kept_by_all m n (c ∷ cs) q r none h =
    let (here, later) = named_both q (undo_of m c) (undo_of_all m cs) none in
    kept_by_all m (map_after n c) cs q (rising-map_after n c r) later (kept_by_one m n c q r here h)

-- ---- the batch is undone

pub undone : (m : Pairs Bytes) (cs : List (Command Global)) → IsRising m → map_after_all (map_after_all m cs) (undo_of_all m cs) ≡ m
undone m cs r =
    let n = map_after_all m cs in
    let rises = rising-map_after_all m cs r in
    same_map (map_after_all n (undo_of_all m cs)) m (rising-map_after_all n (undo_of_all m cs) rises) r
    (λ q. restored_all m n (undo_of_all m cs) q (undo_all_restores m cs r) rises (λ none. kept_by_all m m cs q r none refl))
