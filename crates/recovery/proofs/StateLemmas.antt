-- The page that contents determine: those that a flush writes, after those in the log.
use Rattle.std.specs.Prelude.{◌≡◌, ℕ, Bool, true, false, ◌||◌, List, [], ◌∷◌, ◌++◌, map, reverse, length, drop, zero, suc, fold, Option, Some}
use Rattle.std.proofs.Common.{refl, sym, ap, ◌∙◌}
use Rattle.std.specs.List.{list_any}
use Rattle.std.proofs.lemmas.Bool.{or_parts}
use Rattle.std.proofs.lemmas.List.{reverse-append, reverse-reverse, length-reverse, append_assoc, append-nil, drop-map, drop_at}
use Rattle.std.proofs.lemmas.List.Sums.{fold-append}
use Rattle.index_page.specs.Over.{IsOver}
use Rattle.index_page.specs.Page.{Page, PageOfKind}
use Rattle.index_page.specs.Page.PageOfKind.{Leaf, Index}
use Rattle.frame_codec.specs.declared.format.KeyEncoding.{KeyEncoding}
use Rattle.frame_codec.specs.Frame.{Content}
use Rattle.frame_codec.specs.Frame.Content.{DeltaLeaf, DeltaIndex, Free}
use Rattle.flush_log.specs.FlushText.{base_content, run_contents, whole_page}
use Rattle.recovery.specs.PageByLog.{is_start, from_last, InLog, with_newer_run, begun_page, continued, page_from_start, page_by_log}
use Rattle.recovery.specs.PageByLog.InLog.{Missing, Present}
use Rattle.recovery.specs.InStep.{IsLogged}
use Rattle.recovery.proofs.PartLemmas.{from_last-at, from_last-more, from_last-none}

-- ---- runs after a page

reverse_step : {X : Type 0} (x : X) (xs ys : List X) → reverse (x ∷ xs) ++ ys ≡ reverse xs ++ x ∷ ys
reverse_step x xs ys = ap (λ zs. zs ++ ys) (reverse-append (x ∷ []) xs) ∙ append_assoc (reverse xs) (x ∷ []) ys

none-drop : {X : Type 0} (test : X → Bool) (k : ℕ) (xs : List X) → list_any test xs ≡ false → list_any test (drop k xs) ≡ false
none-drop test zero xs e = e
none-drop test (suc k) [] e = e
none-drop test (suc k) (x ∷ xs) e = none-drop test k xs (or_parts (test x) (list_any test xs) e).1

-- of one kind of page: how its pages and its deltas are made, and that a delta puts a run in front
module _ {V : Type 0} (made : Page V → PageOfKind) (delta : List (List ℕ × Option V) → Content)
    (step : (p : Page V) (run : List (List ℕ × Option V)) → continued (Present (made p)) (delta run) ≡ Present (made (with_newer_run p run)))
    (no_start : (run : List (List ℕ × Option V)) → is_start (delta run) ≡ false) where
  -- the page of these
  abbrev page : List ℕ → List (List ℕ × V) → List (List (List ℕ × Option V)) → InLog
  page low base runs = Present (made (record { low = low; layers = record { runs = runs; base = base } }))

  fold_runs : (low : List ℕ) (base : List (List ℕ × V)) (old runs : List (List (List ℕ × Option V))) → fold continued (page low base old) (map delta runs) ≡ page low base (reverse runs ++ old)
  fold_runs low base old [] = refl
  fold_runs low base old (run ∷ runs) =
      ap (λ t. fold continued t (map delta runs)) (step (record { low = low; layers = record { runs = old; base = base } }) run)
      ∙ fold_runs low base (run ∷ old) runs ∙ ap (λ rs. page low base rs) (sym (reverse_step run runs old))

  -- all runs of a page, after its base
  fold_all : (low : List ℕ) (base : List (List ℕ × V)) (runs : List (List (List ℕ × Option V))) → fold continued (page low base []) (map delta (reverse runs)) ≡ page low base runs
  fold_all low base runs = fold_runs low base [] (reverse runs) ∙ ap (λ rs. page low base rs) (append-nil (reverse (reverse runs)) ∙ reverse-reverse runs)

  newer_runs : (k : ℕ) (runs newer old : List (List (List ℕ × Option V))) → runs ≡ newer ++ old → length old ≡ k → drop k (map delta (reverse runs)) ≡ map delta (reverse newer)
  newer_runs k runs newer old e l =
      drop-map delta k (reverse runs)
      ∙ ap (λ rs. map delta (drop k rs)) (ap reverse e ∙ reverse-append newer old)
      ∙ ap (map delta) (drop_at (reverse old) (reverse newer) k (length-reverse old ∙ l))

  -- the newer runs of a page, after its older ones
  fold_newer : (k : ℕ) (logged now : Page V) → length logged.layers.runs ≡ k → IsOver logged now → fold continued (Present (made logged)) (drop k (map delta (reverse now.layers.runs))) ≡ Present (made now)
  fold_newer k logged now d h =
      let newer = h.runs.0 in
      ap (λ ds. fold continued (Present (made logged)) ds) (newer_runs k now.layers.runs newer logged.layers.runs h.runs.1 d)
      ∙ fold_runs logged.low logged.layers.base logged.layers.runs (reverse newer)
      ∙ ap (λ rs. page logged.low logged.layers.base rs) (ap (λ rs. rs ++ logged.layers.runs) (reverse-reverse newer) ∙ sym h.runs.1)
      ∙ ap (λ low. page low logged.layers.base now.layers.runs) (sym h.low)
      ∙ ap (λ base. page now.low base now.layers.runs) (sym h.base)

  none_starts : (runs : List (List (List ℕ × Option V))) → list_any is_start (map delta runs) ≡ false
  none_starts [] = refl
  none_starts (run ∷ runs) = ap (λ (b : Bool). b || list_any is_start (map delta runs)) (no_start run) ∙ none_starts runs

-- ---- pages of either kind

leaf_step : (p : Page (List ℕ)) (run : List (List ℕ × Option (List ℕ))) → continued (Present (Leaf p)) (DeltaLeaf run) ≡ Present (Leaf (with_newer_run p run))
leaf_step p run = refl

index_step : (p : Page ℕ) (run : List (List ℕ × Option ℕ)) → continued (Present (Index p)) (DeltaIndex run) ≡ Present (Index (with_newer_run p run))
index_step p run = refl

no_runs_start : (p : PageOfKind) → list_any is_start (run_contents p) ≡ false
no_runs_start (Leaf p) = none_starts (λ q. Leaf q) (λ run. DeltaLeaf run) leaf_step (λ run. refl) (reverse p.layers.runs)
no_runs_start (Index p) = none_starts (λ q. Index q) (λ run. DeltaIndex run) index_step (λ run. refl) (reverse p.layers.runs)

base_starts : (encoding : KeyEncoding) (p : PageOfKind) → is_start (base_content encoding p) ≡ true
base_starts encoding (Leaf p) = refl
base_starts encoding (Index p) = refl

pub state-whole : (encoding : KeyEncoding) (p : PageOfKind) → page_from_start (whole_page encoding p) ≡ Present p
state-whole encoding (Leaf p) = fold_all (λ q. Leaf q) (λ run. DeltaLeaf run) leaf_step (λ run. refl) p.low p.layers.base p.layers.runs
state-whole encoding (Index p) = fold_all (λ q. Index q) (λ run. DeltaIndex run) index_step (λ run. refl) p.low p.layers.base p.layers.runs

fold-newer : (k : ℕ) (logged now : PageOfKind) → IsLogged k (Some logged) (Some now) → fold continued (Present logged) (drop k (run_contents now)) ≡ Present now
fold-newer k (Leaf x) (Leaf p) h = fold_newer (λ q. Leaf q) (λ run. DeltaLeaf run) leaf_step (λ run. refl) k x p h.0 h.1
fold-newer k (Index x) (Index p) h = fold_newer (λ q. Index q) (λ run. DeltaIndex run) index_step (λ run. refl) k x p h.0 h.1
fold-newer k (Leaf x) (Index p) h = absurd h.1
fold-newer k (Index x) (Leaf p) h = absurd h.1

-- ---- the page after the new frames of a commit follow those in the log

-- the whole page, whatever comes before it
pub page-whole : (encoding : KeyEncoding) (cs : List Content) (p : PageOfKind) → page_by_log (cs ++ whole_page encoding p) ≡ Present p
page-whole encoding cs p = ap page_from_start (from_last-at is_start cs (base_content encoding p) (run_contents p) (base_starts encoding p) (no_runs_start p)) ∙ state-whole encoding p

-- that there is no page
pub page-free : (cs : List Content) → page_by_log (cs ++ Free ∷ []) ≡ Missing
page-free cs = ap page_from_start (from_last-at is_start cs Free [] refl refl)

pub state-more : (part ds : List Content) (p : PageOfKind) → page_from_start part ≡ Present p → page_from_start (part ++ ds) ≡ fold continued (Present p) ds
state-more [] ds p e = absurd (cc)
state-more (c ∷ cs) ds p e = fold-append continued (begun_page c) cs ds ∙ ap (λ t. fold continued t ds) e

starts_by : (b : Bool) (cs : List Content) (p : PageOfKind) → list_any is_start cs ≡ b → page_by_log cs ≡ Present p → b ≡ true
starts_by true cs p s e = refl
starts_by false cs p s e = let none : Missing ≡ Present p = ap page_from_start (sym (from_last-none is_start cs s)) ∙ e in absurd (cc)

-- the newer runs, after the base and the older ones
pub page-newer : (cs : List Content) (k : ℕ) (logged now : PageOfKind) → page_by_log cs ≡ Present logged → IsLogged k (Some logged) (Some now) → page_by_log (cs ++ drop k (run_contents now)) ≡ Present now
page-newer cs k logged now e h =
    let newer = drop k (run_contents now) in
    let starts = starts_by (list_any is_start cs) cs logged refl e in
    ap page_from_start (from_last-more is_start cs newer starts (none-drop is_start k (run_contents now) (no_runs_start now)))
    ∙ state-more (from_last is_start cs) newer logged e
    ∙ fold-newer k logged now h
