-- Terms, taken from the fronts of the lists of freed and of new entries.
use Rattle.std.specs.Prelude.{◌≡◌, ℕ, List, [], ◌∷◌, drop, Option, Some, None}
use Rattle.std.proofs.Common.{refl, sym, ap, ◌∙◌, arith, length, Less, Equal, Greater}
use Rattle.std.specs.List.Sorted.{IsStrictlySortedBy}
use Rattle.std.specs.Map.{keys_of}
use Rattle.keys.specs.Order.{order, IsRising}
use Rattle.keys.proofs.MapLemmas.{IsBelowAll, below_all, same_key, order_itself, flipped_less, flipped_greater}
use Rattle.index_page.proofs.RangeLemmas.{rising_rest}
use Rattle.delta_chain.specs.Layers.{with_change, with_run}
use Rattle.split_plan.specs.Terms.{absent, present, front_order}

abbrev Separators : Type 0
Separators = List (List ℕ × ℕ)

abbrev Changes : Type 0
Changes = List (List ℕ × Option ℕ)

-- ---- a change at the front of a run: past a key below it, before one above it, and in the place of its own

past : (k j : List ℕ) (o v : Option ℕ) (run : Changes) → order k j ≡ Less → with_change ((k, o) ∷ run) j (Some v) ≡ (k, o) ∷ with_change run j (Some v)
past k j o v run h = rw (flipped_less k j h) refl

before : (k j : List ℕ) (o v : Option ℕ) (run : Changes) → order k j ≡ Greater → with_change ((k, o) ∷ run) j (Some v) ≡ (j, v) ∷ (k, o) ∷ run
before k j o v run h = rw (flipped_greater k j h) refl

in_place : (k : List ℕ) (o v : Option ℕ) (run : Changes) → with_change ((k, o) ∷ run) k (Some v) ≡ (k, v) ∷ run
in_place k o v run = rw (order_itself k) refl

-- present keys above the first key of a run leave its change
stays_in_front : (k : List ℕ) (o : Option ℕ) (run : Changes) (fresh : Separators) → IsBelowAll k (keys_of fresh) → with_run ((k, o) ∷ run) (present fresh) ≡ (k, o) ∷ with_run run (present fresh)
stays_in_front k o run [] a = refl
stays_in_front k o run (n ∷ ns) a =
    ap (λ (cs : Changes). with_run cs (present ns)) (past k n.0 o (Some n.1) run a.0) ∙ stays_in_front k o (with_change run n.0 (Some (Some n.1))) ns a.1

-- ---- the three ways to take the first term

-- the first freed separator is below every fresh one
pub freed_first : (freed fresh ns : Separators) (n : List ℕ × ℕ) → IsRising fresh → freed ≡ n ∷ ns → Less ≡ front_order freed fresh → with_run (absent freed) (present fresh) ≡ (n.0, None) ∷ with_run (absent ns) (present fresh)
unfolding IsStrictlySortedBy
freed_first [] fresh ns n r e h = absurd (cc)
freed_first (f ∷ fs) [] ns n r e h = let s : f ≡ n = cc in let t : fs ≡ ns = cc in rw (s, t) refl
freed_first (f ∷ fs) (m ∷ ms) ns n r e h =
    let s : f ≡ n = cc in
    let t : fs ≡ ns = cc in
    rw (← s, ← t) (stays_in_front f.0 None (absent fs) (m ∷ ms) (sym h, below_all f.0 m.0 (keys_of ms) (sym h) r.0))

-- the first fresh separator is below every freed one
fresh_alone : (freed ms : Separators) (m : List ℕ × ℕ) → IsRising (m ∷ ms) → Greater ≡ front_order freed (m ∷ ms) → with_run (absent freed) (present (m ∷ ms)) ≡ (m.0, Some m.1) ∷ with_run (absent freed) (present ms)
unfolding IsStrictlySortedBy
fresh_alone [] ms m r h = stays_in_front m.0 (Some m.1) [] ms r.0
fresh_alone (f ∷ fs) ms m r h =
    ap (λ (cs : Changes). with_run cs (present ms)) (before f.0 m.0 None (Some m.1) (absent fs) (sym h)) ∙ stays_in_front m.0 (Some m.1) (absent (f ∷ fs)) ms r.0

pub fresh_first : (freed fresh ms : Separators) (m : List ℕ × ℕ) → IsRising fresh → fresh ≡ m ∷ ms → Greater ≡ front_order freed fresh → with_run (absent freed) (present fresh) ≡ (m.0, Some m.1) ∷ with_run (absent freed) (present ms)
fresh_first freed [] ms m r e h = absurd (cc)
fresh_first freed (c ∷ cs) ms m r e h = let s : c ≡ m = cc in let t : cs ≡ ms = cc in rw (← s, ← t) (fresh_alone freed cs c r h)

-- both lists begin with one key
both_first : (f m : List ℕ × ℕ) (fs ms : Separators) → IsRising (m ∷ ms) → order f.0 m.0 ≡ Equal → with_run (absent (f ∷ fs)) (present (m ∷ ms)) ≡ (m.0, Some m.1) ∷ with_run (absent fs) (present ms)
unfolding IsStrictlySortedBy
both_first f m fs ms r h =
    let here : with_change ((f.0, None) ∷ absent fs) m.0 (Some (Some m.1)) ≡ (m.0, Some m.1) ∷ absent fs = rw (same_key f.0 m.0 h) (in_place m.0 None (Some m.1) (absent fs)) in
    ap (λ (cs : Changes). with_run cs (present ms)) here ∙ stays_in_front m.0 (Some m.1) (absent fs) ms r.0

pub fresh_replaces : (freed fresh ms : Separators) (m : List ℕ × ℕ) → IsRising fresh → fresh ≡ m ∷ ms → Equal ≡ front_order freed fresh → with_run (absent freed) (present fresh) ≡ (m.0, Some m.1) ∷ with_run (absent (drop 1 freed)) (present ms)
fresh_replaces [] fresh ms m r e h = absurd (cc)
fresh_replaces (f ∷ fs) [] ms m r e h = absurd (cc)
fresh_replaces (f ∷ fs) (c ∷ cs) ms m r e h = let s : c ≡ m = cc in let t : cs ≡ ms = cc in rw (← s, ← t) (both_first f c fs cs r (sym h))

-- the first separator, by its parts
pub front_is : (ns rest : Separators) (n m : List ℕ × ℕ) → n ≡ m → ns ≡ m ∷ rest → ns ≡ n ∷ rest
front_is ns rest n m e h = rw e h

-- the rest of rising entries rises
pub rising_left : (ns : Separators) → IsRising ns → IsRising (drop 1 ns)
rising_left [] r = r
rising_left (n ∷ ns) r = rising_rest n ns r

-- ---- the consequences of the order of the first separators for the lists

pub some_freed : (freed fresh : Separators) → length freed ≡ 0 → Less ≡ front_order freed fresh → ⊥
some_freed [] fresh e h = absurd (cc)
some_freed (f ∷ fs) fresh e h = absurd (omega (arith, e))

pub some_fresh : (freed fresh : Separators) → length fresh ≡ 0 → Equal ≡ front_order freed fresh → ⊥
some_fresh [] [] e h = absurd (cc)
some_fresh (f ∷ fs) [] e h = absurd (cc)
some_fresh freed (m ∷ ms) e h = absurd (omega (arith, e))

pub none_left : (freed fresh : Separators) → length fresh ≡ 0 → Greater ≡ front_order freed fresh → with_run (absent freed) (present fresh) ≡ []
none_left [] [] e h = refl
none_left (f ∷ fs) [] e h = absurd (cc)
none_left freed (m ∷ ms) e h = absurd (omega (arith, e))
