-- A tree has no more pairs than a reply can count.
use Rattle.std.specs.Prelude.{◌≡◌, ◌≢◌, ℕ, ◌+◌, ◌-◌, ◌*◌, ◌^◌, ◌≤◌, Bool, true, false, ◌||◌, cond, nat_le, List, [], ◌∷◌, length, Option, Some, None, IsSome}
use Rattle.std.proofs.Common.{refl, sym, arith, length-append, leb-true, Ordering, Less, Equal, Greater}
use Rattle.std.specs.List.{AllByRecursion, IsDistinct, list_any}
use Rattle.std.specs.Ordering.{nat_cmp, is_eq, eq_by_cmp}
use Rattle.std.proofs.lemmas.Bool.{and_parts}
use Rattle.std.proofs.lemmas.Cmp.{nat_cmp_total, eq_by_cmp_equiv}
use Rattle.std.proofs.lemmas.List.{length-map}
use Rattle.std.proofs.lemmas.Map.Steps.{length-le_from_keys}
use Rattle.keys.specs.Limits.{is_in_limits, first_bad_field}
use Rattle.keys.specs.declared.settings.Field.{Field}
use Rattle.keys.specs.declared.settings.Field.TheVariants.{Fan, Chain}
use Rattle.keys.specs.declared.settings.Settings.{Settings}
use Rattle.delta_chain.specs.Layers.{with_change, with_run, entries_under}
use Rattle.index_page.specs.Page.{PageOfKind}
use Rattle.index_page.specs.Page.PageOfKind.{Leaf}
use Rattle.index_page.specs.Rules.{Fits, IsRunSized, IsShortValue}
use Rattle.mapping.specs.Levels.{Placed, entries, joined, pids, levels_of, contents}
use Rattle.mapping.specs.Proper.{Distinct, HasLeaves}
use Rattle.mapping.specs.Tree.{Tree, page_at}
use Rattle.routing.proofs.SortLemmas.{same_number}
use Rattle.climb_plan.proofs.Installing.{distinct_first}
use Rattle.replies.specs.ByPlace.{most_counted}
use Rattle.engine.specs.SoundTree.{IsSoundTree}
use Rattle.engine.proofs.PartAnswers.{most_added, most_left}

abbrev Pairs : Type 0
Pairs = List (List ℕ × List ℕ)

-- ---- a page

most_changed : (m : Pairs) (k : List ℕ) (o : Option (List ℕ)) → length (with_change m k o) ≤ length m + 1
most_changed m k None = let h = most_left m k in omega (arith, h)
most_changed m k (Some v) = most_added m k v

-- a run adds at most as many pairs as it has keys
most_run : (m : Pairs) (run : List (List ℕ × Option (List ℕ))) → length (with_run m run) ≤ length m + length run
most_run m [] = omega arith
most_run m (c ∷ cs) =
    let one = most_changed m c.0 c.1 in
    let rest = most_run (with_change m c.0 c.1) cs in
    omega (arith, one, rest)

most_layers : (runs : List (List (List ℕ × Option (List ℕ)))) (base : Pairs) → AllByRecursion (λ run. length run ≤ 64) runs → length (entries_under runs base) ≤ length base + 64 * length runs
most_layers [] base a = omega arith
most_layers (run ∷ runs) base a =
    let rest = most_layers runs base a.1 in
    let here = most_run (entries_under runs base) run in
    let few = a.0 in
    omega (arith, rest, here, few)

-- ---- settings

-- upper bounds on settings that pass the check
record AreFew (s : Settings) : Type 0 where
  pub fan : s.fan ≤ 64
  pub chain : s.chain ≤ 16

chain_by : (b : Bool) (chain : ℕ) (rest : Option Field) → is_in_limits 1 16 chain ≡ b → cond b rest (Some Chain) ≡ None → chain ≤ 16
chain_by true chain rest e h = leb-true chain 16 (and_parts (nat_le 1 chain) (nat_le chain 16) e).1
chain_by false chain rest e h = absurd (cc)

few_by : (b : Bool) (s : Settings) (rest : Option Field) → is_in_limits 4 64 s.fan ≡ b → cond b (cond (is_in_limits 1 16 s.chain) rest (Some Chain)) (Some Fan) ≡ None → AreFew s
few_by true s rest e h = record {
  fan = leb-true s.fan 64 (and_parts (nat_le 4 s.fan) (nat_le s.fan 64) e).1;
  chain = chain_by (is_in_limits 1 16 s.chain) s.chain rest refl h;
}
few_by false s rest e h = absurd (cc)

few : (s : Settings) → first_bad_field s ≡ None → AreFew s
few s h = few_by (is_in_limits 4 64 s.fan) s _ refl h

-- ---- a level

short_runs : (s : Settings) (runs : List (List (List ℕ × Option (List ℕ)))) → s.fan ≤ 64 → AllByRecursion (IsRunSized s) runs → AllByRecursion (λ run. length run ≤ 64) runs
short_runs s [] f a = tt
short_runs s (run ∷ runs) f a = let most = a.0.most in (omega (arith, f, most), short_runs s runs f a.1)

most_entries : (s : Settings) (p : Placed (List ℕ)) → AreFew s → Fits s (IsShortValue s) p.page → length (entries p) ≤ 1088
most_entries s p f fit =
    let all = most_layers p.page.layers.runs p.page.layers.base (short_runs s p.page.layers.runs f.fan fit.runs) in
    let base = fit.base in
    let depth = fit.depth in
    let fan = f.fan in
    let chain = f.chain in
    omega (arith, all, base, depth, fan, chain)

most_joined : (s : Settings) (ps : List (Placed (List ℕ))) → AreFew s → AllByRecursion (λ p. Fits s (IsShortValue s) p.page) ps → length (joined ps) ≤ 1088 * length ps
most_joined s [] f a = omega arith
most_joined s (p ∷ ps) f a =
    let here = most_entries s p f a.0 in
    let rest = most_joined s ps f a.1 in
    let sum = length-append (entries p) (joined ps) in
    omega (arith, here, rest, sum)

-- ---- its pages are those of the table

abbrev same : ℕ → ℕ → Bool
same = eq_by_cmp nat_cmp

same_pid_by : (o : Ordering) (m n : ℕ) → nat_cmp m n ≡ o → is_eq o ≡ true → m ≡ n
same_pid_by Less m n e h = absurd (cc)
same_pid_by Equal m n e h = same_number m n e
same_pid_by Greater m n e h = absurd (cc)

same_pid : (m n : ℕ) → same m n ≡ true → m ≡ n
same_pid m n h = same_pid_by (nat_cmp m n) m n refl h

apart_by : (b : Bool) (m n : ℕ) → same n m ≡ b → m ≢ n → b ≡ false
apart_by true m n e other = absurd (other (sym (same_pid n m e)))
apart_by false m n e other = refl

apart_all : (n : ℕ) (ms : List ℕ) → AllByRecursion (λ m. m ≢ n) ms → AllByRecursion (λ m. same n m ≡ false) ms
apart_all n [] a = tt
apart_all n (m ∷ ms) a = (apart_by (same n m) m n refl a.0, apart_all n ms a.1)

each_once : (ns : List ℕ) → Distinct ns → IsDistinct same ns
unfolding IsDistinct
each_once [] d = tt
each_once (n ∷ ns) d = (apart_all n ns d.0, each_once ns d.1)

there_by : (b : Bool) (ps : List (ℕ × PageOfKind)) (q : ℕ) (p : Placed (List ℕ)) (rest : Bool) → same q p.pid ≡ b → page_at ps p.pid ≡ Some (Leaf p.page) → (rest ≡ true → IsSome (page_at ps q)) → (b || rest) ≡ true → IsSome (page_at ps q)
there_by true ps q p rest e here ih h = rw (same_pid q p.pid e, here) refl
there_by false ps q p rest e here ih h = ih h

each_there : (ps : List (ℕ × PageOfKind)) (level : List (Placed (List ℕ))) (q : ℕ) → HasLeaves ps level → list_any (same q) (pids level) ≡ true → IsSome (page_at ps q)
each_there ps [] q a h = absurd (cc)
each_there ps (p ∷ level) q a h = there_by (same q p.pid) ps q p (list_any (same q) (pids level)) refl a.0 (each_there ps level q a.1) h

most_leaves : (ps : List (ℕ × PageOfKind)) (level : List (Placed (List ℕ))) → Distinct (pids level) → HasLeaves ps level → length level ≤ length ps
most_leaves ps level d a =
    let all = length-le_from_keys (eq_by_cmp_equiv nat_cmp_total) (pids level) ps (each_once (pids level) d) (λ q h. each_there ps level q a h) in
    let count = length-map level (λ p. p.pid) in
    omega (arith, all, count)

-- ---- a tree

-- a tree whose number of pages fits in 64 bits has, with this many more commands, no more pairs than a reply can count
pub contents_fit : (s : Settings) (t : Tree) (commands : ℕ) → IsSoundTree s t → length t.pages ≤ 2 ^ 64 - 1 → commands ≤ 2 ^ 64 - 1 → length (contents t) + commands ≤ most_counted
contents_fit s t commands sound most more =
    let l = levels_of t in
    let pairs = most_joined s l.level (few s sound.settings) sound.proper.fit.leaves in
    let leaves = most_leaves t.pages l.level (distinct_first (pids l.level) _ sound.proper.levels.distinct) sound.proper.held.leaves in
    omega (arith, pairs, leaves, most, more)
