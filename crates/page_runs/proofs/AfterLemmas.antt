-- Lemmas on a page after a run, for the proofs of this crate and of those above it.
use Rattle.std.specs.Prelude.{◌≡◌, ◌<◌, ℕ, Bool, true, false, List, [], ◌∷◌, length, Option, if◌then◌else◌}
use Rattle.std.proofs.Common.{refl, arith}
use Rattle.keys.specs.Order.{IsRising}
use Rattle.keys.specs.declared.settings.Settings.{Settings}
use Rattle.delta_chain.specs.Layers.{Layers, with_run, entries_of, IsInOrder}
use Rattle.delta_chain.proofs.LayerLemmas.{rising-with_run, rising-entries_of}
use Rattle.page_runs.specs.AfterRun.{must_replace, replaced, in_front, after_run, class_after, is_replaced}
use Rattle.page_runs.specs.declared.class.Class.TheVariants.{Changed}

module _ {V : Type 0} where
  entries_by : (b : Bool) (p : Layers V) (run : List (List ℕ × Option V)) → entries_of (if b then replaced p run else in_front p run) ≡ with_run (entries_of p) run
  entries_by true p run = refl
  entries_by false p run = refl

  -- a page's entries after a run are its entries with the run applied
  pub entries_of-after_run : (s : Settings) (p : Layers V) (run : List (List ℕ × Option V)) → entries_of (after_run s p run) ≡ with_run (entries_of p) run
  entries_of-after_run s p [] = refl
  entries_of-after_run s p (c ∷ cs) = entries_by (must_replace s p (c ∷ cs)) p (c ∷ cs)

  order_by : (b : Bool) (p : Layers V) (run : List (List ℕ × Option V)) → IsInOrder p → IsRising run → IsInOrder (if b then replaced p run else in_front p run)
  order_by true p run a r = rising-with_run (entries_of p) run (rising-entries_of p a)
  order_by false p run a r = (r, a)

  pub in_order-after_run : (s : Settings) (p : Layers V) (run : List (List ℕ × Option V)) → IsInOrder p → IsRising run → IsInOrder (after_run s p run)
  in_order-after_run s p [] a r = a
  in_order-after_run s p (c ∷ cs) a r = order_by (must_replace s p (c ∷ cs)) p (c ∷ cs) a r

  -- a run that does not cause the page to be replaced is prepended
  pub stands_in_front : (s : Settings) (p : Layers V) (run : List (List ℕ × Option V)) → 0 < length run → must_replace s p run ≡ false → after_run s p run ≡ in_front p run
  stands_in_front s p [] l e = absurd (omega arith)
  stands_in_front s p (c ∷ cs) l e = rw e refl

  pub class_in_front : (s : Settings) (p : Layers V) (run : List (List ℕ × Option V)) → 0 < length run → must_replace s p run ≡ false → class_after s p run ≡ Changed
  class_in_front s p [] l e = absurd (omega arith)
  class_in_front s p (c ∷ cs) l e = rw e refl

  pub stays_in_front : (s : Settings) (p : Layers V) (run : List (List ℕ × Option V)) → must_replace s p run ≡ false → is_replaced s p run ≡ false
  stays_in_front s p [] e = refl
  stays_in_front s p (c ∷ cs) e = e
