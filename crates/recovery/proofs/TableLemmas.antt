-- A flush on the table that holds a tree in memory.
use Rattle.std.specs.Prelude.{◌≡◌, ◌↔◌, ℕ, ◌≤◌, List, [], ◌∷◌, ◌++◌, map, flat_map, Option, Some, None, IsSome}
use Rattle.std.proofs.Common.{refl, ap, ◌∙◌, arith}
use Rattle.std.specs.List.{AllByRecursion, filter}
use Rattle.std.specs.Map.{keys_of}
use Rattle.keys.specs.Limits.{first_bad_field}
use Rattle.keys.specs.declared.settings.Settings.{Settings}
use Rattle.keys.specs.declared.version.Version.{Version}
use Rattle.keys.proofs.LimitLemmas.{checked}
use Rattle.index_page.specs.Page.{PageOfKind}
use Rattle.index_page.specs.Page.PageOfKind.{Leaf, Index}
use Rattle.mapping.specs.Flushed.{page_depth, depth_counted, marked_as_written}
use Rattle.mapping.specs.Proper.{IsProper}
use Rattle.mapping.specs.Table.{is_old, with_numbers, pids_in_use_or_old}
use Rattle.mapping.specs.Tree.{Logged, Tree, page_at, logged_of}
use Rattle.mapping.specs.Tree.Logged.{Upto}
use Rattle.mapping.specs.TreeInMemory.{TreeInMemory, AreAllHome, home_pages, tree_of}
use Rattle.frame_codec.specs.Frame.{Content}
use Rattle.flush_log.specs.FlushText.{encoding_of, lacking, frames_of, pid_frames, pids_to_write, flush_frames, logged_whole, flushed}
use Rattle.flush_log.specs.declared.text.CommitKind.TheVariants.{Flush}
use Rattle.recovery.proofs.NothingDue.{each_has}
use Rattle.flush_log.proofs.ProperPages.{IsGoodOfKind, page-is_good}

-- ---- pids

module _ {P : Type 0} where
  keys_by : (pid : ℕ) (o : Option P) (es : List (ℕ × Option P)) → IsSome o → keys_of (home_pages es) ≡ keys_of es → keys_of (home_pages ((pid, o) ∷ es)) ≡ pid ∷ keys_of es
  keys_by pid None es h e = absurd (cc)
  keys_by pid (Some p) es h e = ap (λ (ns : List ℕ). pid ∷ ns) e

  keys-home : (es : List (ℕ × Option P)) → AllByRecursion (λ e. IsSome e.1) es → keys_of (home_pages es) ≡ keys_of es
  keys-home [] a = refl
  keys-home (e ∷ es) a = keys_by e.0 e.1 es a.0 (keys-home es a.1)

pub pids-known : (t : TreeInMemory) → AreAllHome t → pids_to_write (tree_of t) ≡ pids_in_use_or_old t.table
pids-known t home = ap (λ (ns : List ℕ). with_numbers (keys_of (filter (λ l. is_old l.1) t.table.logged)) ns) (keys-home t.table.places home)

-- ---- nothing to write

both_empty : {X : Type 0} → (xs ys : List X) → xs ++ ys ≡ [] → (xs ≡ []) × (ys ≡ [])
both_empty [] ys e = (refl, e)
both_empty (x ∷ xs) ys e = absurd (cc)

no_frames : (pid : ℕ) (cs : List Content) → frames_of pid cs ≡ [] → cs ≡ []
no_frames pid [] e = refl
no_frames pid (c ∷ cs) e = absurd (cc)

module _ (version : Version) (t : Tree) where
  abbrev LacksNothing : ℕ → Type 0
  LacksNothing pid = lacking (encoding_of version) (page_at t.pages pid) (logged_of t pid) ≡ []

  none_lacks : (pids : List ℕ) → flat_map (pid_frames (Flush version) t) pids ≡ [] → AllByRecursion LacksNothing pids
  none_lacks [] e = tt
  none_lacks (pid ∷ pids) e = let (here, rest) = both_empty (pid_frames (Flush version) t pid) (flat_map (pid_frames (Flush version) t) pids) e in (no_frames pid (lacking (encoding_of version) (page_at t.pages pid) (logged_of t pid)) here, none_lacks pids rest)

  nothing_written : (pids : List ℕ) → AllByRecursion LacksNothing pids → flat_map (pid_frames (Flush version) t) pids ≡ []
  nothing_written [] a = refl
  nothing_written (pid ∷ pids) a = ap (λ (cs : List Content). frames_of pid cs ++ flat_map (pid_frames (Flush version) t) pids) a.0 ∙ nothing_written pids a.1

  pub empty-text : (flush_frames version t ≡ []) ↔ AllByRecursion LacksNothing (pids_to_write t)
  empty-text = (none_lacks (pids_to_write t), nothing_written (pids_to_write t))

-- ---- log states

few_runs : (s : Settings) (p : PageOfKind) → IsGoodOfKind s p → page_depth p ≤ s.chain
few_runs s (Leaf p) good = good.fits.depth
few_runs s (Index p) good = good.fits.depth

counted : (s : Settings) (p : PageOfKind) → s.chain ≤ 16 → IsGoodOfKind s p → depth_counted p ≡ page_depth p
counted s p few good = let depth = few_runs s p good in omega arith

all_counted : (s : Settings) (t : Tree) (ps : List (ℕ × PageOfKind)) → s.chain ≤ 16 → IsProper s t → AllByRecursion (λ p. page_at t.pages p.0 ≡ Some p.1) ps
    → map (λ p. (let l : ℕ × Logged = (p.0, Upto (depth_counted p.1)) in l)) ps ≡ logged_whole ps
all_counted s t [] few proper a = refl
all_counted s t (p ∷ ps) few proper a =
    let one : ℕ → ℕ × Logged = λ n. (p.0, Upto n) in
    ap (λ (n : ℕ). one n ∷ map (λ q. (let l : ℕ × Logged = (q.0, Upto (depth_counted q.1)) in l)) ps) (counted s p.1 few (page-is_good s t proper p.0 p.1 a.0))
    ∙ ap (λ (ls : List (ℕ × Logged)). one (page_depth p.1) ∷ ls) (all_counted s t ps few proper a.1)

pub table-marked : (s : Settings) (t : TreeInMemory) → first_bad_field s ≡ None → IsProper s (tree_of t) → tree_of (record { table = marked_as_written t.table; root = t.root; height = t.height }) ≡ flushed (tree_of t)
table-marked s t good proper =
    let few : s.chain ≤ 16 = (checked s good).chain in
    let pages : List (ℕ × PageOfKind) = home_pages t.table.places in
    ap (λ (ls : List (ℕ × Logged)). (let u : Tree = record { pages = pages; root = t.root; height = t.height; logged = ls } in u)) (all_counted s (tree_of t) pages few proper (each_has pages proper.tree.rising))
