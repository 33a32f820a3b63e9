-- A leaf, some of whose runs may count as merged, after a run that replaces it.
use Rattle.std.specs.Prelude.{◌≡◌, ◌<◌, true, [], ◌∷◌, length}
use Rattle.std.proofs.Common.{refl, sym, ap, ◌∙◌, arith}
use Rattle.keys.specs.Bytes.{Bytes, Pairs, Changes}
use Rattle.keys.specs.declared.settings.Settings.{Settings}
use Rattle.delta_chain.specs.Lazy.{Lazy, seen}
use Rattle.delta_chain.specs.Layers.{Layers, with_run, entries_of}
use Rattle.delta_chain.proofs.LazyLemmas.{entries-seen}
use Rattle.index_page.specs.InMemory.{InMemory, lazy_of}
use Rattle.index_page.specs.InMemory.InMemory.{LeafInMemory}
use Rattle.page_runs.specs.AfterRun.{must_replace, replaced, after_run, class_after, class_of_size}
use Rattle.page_runs.proofs.Overlays.{class_of_replaced}

module _ {V : Type 0} where
  -- a run that has the page replaced
  stands_replaced : (s : Settings) (p : Layers V) (run : Changes V) → 0 < length run → true ≡ must_replace s p run → replaced p run ≡ after_run s p run
  stands_replaced s p [] l e = absurd (omega arith)
  stands_replaced s p (c ∷ cs) l e = rw (← e) refl

  -- the leaf's entries are what they are in memory
  pub page_replaced : (s : Settings) (c : Lazy V) (run : Changes V) → 0 < length run → true ≡ must_replace s (seen c) run → record { runs = []; base = with_run (entries_of c.chain) run } ≡ after_run s (seen c) run
  page_replaced s c run l e = ap (λ (m : Pairs V). record { runs = []; base = with_run m run }) (sym (entries-seen c)) ∙ stands_replaced s (seen c) run l e

  pub class_replaced : (s : Settings) (c : Lazy V) (run : Changes V) → 0 < length run → true ≡ must_replace s (seen c) run → class_of_size s (length (with_run (entries_of c.chain) run)) ≡ class_after s (seen c) run
  class_replaced s c run l e = ap (λ (m : Pairs V). class_of_size s (length (with_run m run))) (sym (entries-seen c)) ∙ class_of_replaced s (seen c) run l e

-- the values of a leaf in memory
pub values_of_leaf : (p : InMemory) (low : Bytes) (c : Lazy Bytes) → p ≡ LeafInMemory low c → lazy_of p ≡ c
values_of_leaf p low c is = ap (λ (m : InMemory). lazy_of m) is
