-- Compacted trees: the outdated tree that they start from, the puts, and the log states.
use Rattle.std.specs.Prelude.{◌≡◌, ℕ, Bool, true, false, if◌then◌else◌, List, [], ◌∷◌, ◌++◌, Option, Some, None, is_some}
use Rattle.std.proofs.Common.{refl, sym, ap, ◌∙◌, subst}
use Rattle.std.specs.List.{AllByRecursion}
use Rattle.std.specs.Map.{keys_of}
use Rattle.std.specs.declared.alloc.Global.{Global}
use Rattle.keys.specs.Bytes.{Bytes, Pairs}
use Rattle.keys.specs.Order.{IsRising}
use Rattle.keys.specs.Step.{map_after_all}
use Rattle.keys.specs.declared.settings.Settings.{Settings}
use Rattle.index_page.specs.Page.{PageOfKind}
use Rattle.index_page.specs.Rules.{Fits, IsShortChange, IsShortValue}
use Rattle.index_page.proofs.PageLemmas.{all_entries}
use Rattle.mapping.specs.FreshPids.{is_among}
use Rattle.mapping.specs.Levels.{Placed, entries, joined, levels_of}
use Rattle.mapping.specs.Outdate.{outdate, outdate_all}
use Rattle.mapping.specs.Proper.{AreLogsTrue, AreRisingPids, IsProper, IsTrueOf}
use Rattle.mapping.specs.Tree.{Logged, Tree, first_tree, listed_at, logged_of, or_no, page_at}
use Rattle.mapping.specs.Tree.Logged.{No, Old, Upto}
use Rattle.mapping.proofs.InUse.{among-lookup}
use Rattle.mapping.proofs.PidLemmas.{all_among}
use Rattle.scan.specs.Prefix.{with_prefix}
use Rattle.climb_plan.specs.Limits.{AreShort}
use Rattle.recovery.specs.InStep.{KeepsLogged}
use Rattle.engine.specs.Compacted.{all_puts, outdated_tree}
use Rattle.engine.specs.Copies.{puts_of}
use Rattle.engine.proofs.CopyLemmas.{put_in_order}
use Rattle.engine.proofs.OutdatedTables.{keys-outdated, outdate_if, outdated_listed}

-- ---- the puts

-- every key begins with the empty prefix
pub all_begin : (m : Pairs Bytes) → with_prefix [] m ≡ m
all_begin [] = refl
all_begin (e ∷ es) = ap (λ (x : Pairs Bytes). e ∷ x) (all_begin es)

abbrev AreShortPairs : Settings → Pairs Bytes → Type 0
AreShortPairs s es = AllByRecursion (λ e. IsShortChange s (IsShortValue s) (e.0, Some e.1)) es

short_puts : (s : Settings) (es more : Pairs Bytes) → AreShortPairs s es → AreShort {A = Global} s (puts_of more) → AreShort {A = Global} s (puts_of (es ++ more))
short_puts s [] more a b = b
short_puts s (e ∷ es) more a b = ((a.0.key, a.0.cell), short_puts s es more a.1 b)

short_joined : (s : Settings) (ps : List (Placed Bytes)) → AllByRecursion (λ p. Fits s (IsShortValue s) p.page) ps → AreShort {A = Global} s (puts_of (joined ps))
short_joined s [] a = tt
short_joined s (p ∷ ps) a = short_puts s (entries p) (joined ps) (all_entries (IsShortChange s (IsShortValue s)) p.page a.0.changes) (short_joined s ps a.1)

pub puts_are_short : (s : Settings) (t : Tree) → IsProper s t → AreShort s (all_puts t)
puts_are_short s t p = short_joined s (levels_of t).level p.fit.leaves

pub puts_make_all : (m : Pairs Bytes) → IsRising m → map_after_all [] (puts_of m) ≡ m
puts_make_all m rises = put_in_order [] m rises

-- ---- the outdated tree

pub outdated_is_proper : (s : Settings) (t : Tree) → IsProper s first_tree → IsProper s (outdated_tree t)
outdated_is_proper s t p = record { tree = record { rising = p.tree.rising; some = p.tree.some }; held = p.held; levels = p.levels; fit = p.fit }

old_by : (b : Bool) (l : Logged) (page now : Option PageOfKind) → b ≡ true → IsTrueOf page l → IsTrueOf now (if b then outdate l else l)
old_by true No page now e h = absurd h
old_by true Old page now e h = tt
old_by true (Upto k) page now e h = tt
old_by false l page now e h = absurd (cc)

all_old : (was pages : List (ℕ × PageOfKind)) (gone : List ℕ) (ls : List (ℕ × Logged)) → AllByRecursion (λ l. IsTrueOf (page_at was l.0) l.1) ls → AllByRecursion (λ n. is_among n gone ≡ true) (keys_of ls)
    → AllByRecursion (λ l. IsTrueOf (page_at pages l.0) l.1) (outdate_all gone ls)
all_old was pages gone [] a b = tt
all_old was pages gone (l ∷ ls) a b = (old_by (is_among l.0 gone) l.1 (page_at was l.0) (page_at pages l.0) b.0 a.0, all_old was pages gone ls a.1 b.1)

pub outdated_logs_are_true : (t : Tree) → AreLogsTrue t → AreLogsTrue (outdated_tree t)
outdated_logs_are_true t logs = record {
  rising = subst (λ (ns : List ℕ). AreRisingPids ns) (sym (keys-outdated (keys_of t.logged) t.logged)) logs.rising;
  each = all_old t.pages first_tree.pages (keys_of t.logged) t.logged logs.each (all_among (keys_of t.logged));
}

outdated_if_some : (o : Option Logged) → or_no (outdate_if (is_some o) o) ≡ outdate (or_no o)
outdated_if_some None = refl
outdated_if_some (Some l) = refl

outdated_of : (t : Tree) (pid : ℕ) → logged_of (outdated_tree t) pid ≡ outdate (logged_of t pid)
outdated_of t pid =
    ap (λ (o : Option Logged). or_no o) (outdated_listed (keys_of t.logged) t.logged pid)
    ∙ ap (λ (b : Bool). or_no (outdate_if b (listed_at t.logged pid))) (sym (among-lookup pid t.logged))
    ∙ outdated_if_some (listed_at t.logged pid)

no_back : (l : Logged) → outdate l ≡ No → l ≡ No
no_back No e = refl
no_back Old e = absurd (cc)
no_back (Upto k) e = absurd (cc)

never_upto : (l : Logged) (k : ℕ) → outdate l ≡ Upto k → ⊥
never_upto No k e = absurd (cc)
never_upto Old k e = absurd (cc)
never_upto (Upto j) k e = absurd (cc)

-- the log has something of the same page ids, and nothing counts as written
pub outdated_keeps : (t : Tree) → KeepsLogged t (outdated_tree t)
outdated_keeps t = record {
  none = λ pid. ((λ e. outdated_of t pid ∙ ap outdate e), (λ e. no_back (logged_of t pid) (sym (outdated_of t pid) ∙ e)));
  upto = λ pid k e. absurd (never_upto (logged_of t pid) k (sym (outdated_of t pid) ∙ e));
  over = λ pid k p e f. absurd (never_upto (logged_of t pid) k (sym (outdated_of t pid) ∙ e));
}
