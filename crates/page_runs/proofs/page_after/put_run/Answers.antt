use Rattle.std.proofs.Common.{◌≡◌, ◌<◌, ◌∙◌, ap, refl, sym, arith, ℕ, List, [], ◌∷◌, Option, true, false, length, IfOk, IfErr}
use Rattle.std.specs.Prelude.{Result, Ok, Err}
use Rattle.keys.specs.declared.settings.Settings.{Settings}
use Rattle.delta_chain.specs.Layers.{Layers, entries_of}
use Rattle.page_runs.specs.AfterRun.{must_replace, in_front, after_run, class_of_size, class_after, is_replaced}
use Rattle.page_runs.specs.Outcome.{popped, newest, page_before, run_before, class_now, is_replaced_now}
use Rattle.page_runs.specs.declared.class.Class.TheVariants.{Same}
use Rattle.page_runs.proofs.AfterLemmas.{stands_in_front, class_in_front, stays_in_front}
use Rattle.page_runs.proofs.Overlays.{class_of_replaced}
use Rattle.page_runs.proofs.page_after.put_run.Goals as goal

-- what follows from a fact on what is in an `Ok`, or in an `Err`
from_ok : {T E : Type 0} (r : Result T E) (P Q : T → Type 0) → ((x : T) → P x → Q x) → IfOk r P → IfOk r Q
from_ok (Ok x) P Q f h = f x h
from_ok (Err e) P Q f h = tt

from_err : {T E : Type 0} (r : Result T E) (P Q : E → Type 0) → ((x : E) → P x → Q x) → IfErr r P → IfErr r Q
from_err (Ok x) P Q f h = tt
from_err (Err e) P Q f h = f e h

module _ {V : Type 0} where
  -- a run without changes leaves the page
  page_kept : (s : Settings) (p : Layers V) (run : List (List ℕ × Option V)) → length run ≡ 0 → p ≡ after_run s p run
  page_kept s p [] e = refl
  page_kept s p (c ∷ cs) e = absurd (omega (arith, e))

  class_kept : (s : Settings) (p : Layers V) (run : List (List ℕ × Option V)) → length run ≡ 0 → Same ≡ class_after s p run
  class_kept s p [] e = refl
  class_kept s p (c ∷ cs) e = absurd (omega (arith, e))

  not_replaced : (s : Settings) (p : Layers V) (run : List (List ℕ × Option V)) → length run ≡ 0 → false ≡ is_replaced s p run
  not_replaced s p [] e = refl
  not_replaced s p (c ∷ cs) e = absurd (omega (arith, e))

  -- with the run in front, the page is replaced by a base of its entries
  replaced_page : (s : Settings) (p front : Layers V) (run : List (List ℕ × Option V)) → 0 < length run → true ≡ must_replace s p run → front ≡ in_front p run → record { runs = []; base = entries_of front } ≡ after_run s p run
  replaced_page s p front [] n h e = absurd (omega arith)
  replaced_page s p front (c ∷ cs) n h e = rw (e, ← h) refl

  page_replaced : (s : Settings) (p : Layers V) (run : List (List ℕ × Option V)) → 0 < length run → true ≡ must_replace s p run → true ≡ is_replaced s p run
  page_replaced s p [] n h = absurd (omega arith)
  page_replaced s p (c ∷ cs) n h = h

  -- what the page with the run in front is made of
  page_of : (p front : Layers V) (run : List (List ℕ × Option V)) → front ≡ in_front p run → popped front ≡ p
  page_of p front run e = rw e refl

  run_of : (p front : Layers V) (run : List (List ℕ × Option V)) → front ≡ in_front p run → newest front.runs ≡ run
  run_of p front run e = rw e refl

  has_run : (p front : Layers V) (run : List (List ℕ × Option V)) → front ≡ in_front p run → 0 < length front.runs
  has_run p front run e = rw e (omega arith)

-- ---- the run has no change

pub returns-then-len-eq0-clause-page : goal.returns-then-len-eq0-clause-page
returns-then-len-eq0-clause-page g c = page_kept c.args.settings.now c.args.page c.args.run (omega (arith, c.len.ensures.count))

pub returns-then-len-eq0-clause-class : goal.returns-then-len-eq0-clause-class
returns-then-len-eq0-clause-class g c = class_kept c.args.settings.now c.args.page c.args.run (omega (arith, c.len.ensures.count))

pub returns-then-len-eq0-clause-replaced : goal.returns-then-len-eq0-clause-replaced
returns-then-len-eq0-clause-replaced g c = not_replaced c.args.settings.now c.args.page c.args.run (omega (arith, c.len.ensures.count))

-- ---- the page is replaced

pub returns-in-Ok-clause-page : goal.returns-in-Ok-clause-page
returns-in-Ok-clause-page g c =
    let some : 0 < length c.args.run = omega (arith, c.len.ensures.count) in
    let e = replaced_page c.args.settings.now c.args.page _ c.args.run some c.if-must_replace.ensures c.in-Ok.ensures.ok in
    from_ok c.replace.result _ (λ after. after.0 ≡ after_run c.args.settings.now c.args.page c.args.run) (λ after h. h ∙ e) c.replace.ensures.page

pub returns-in-Ok-clause-class : goal.returns-in-Ok-clause-class
returns-in-Ok-clause-class g c =
    let some : 0 < length c.args.run = omega (arith, c.len.ensures.count) in
    let e = ap (λ (p : Layers _). class_of_size c.args.settings.now (length (entries_of p))) c.in-Ok.ensures.ok
    ∙ class_of_replaced c.args.settings.now c.args.page c.args.run some c.if-must_replace.ensures in
    from_ok c.replace.result _ (λ after. class_now after.1 ≡ class_after c.args.settings.now c.args.page c.args.run)
    (λ after h. h ∙ e) c.replace.ensures.class

pub returns-in-Ok-clause-replaced : goal.returns-in-Ok-clause-replaced
returns-in-Ok-clause-replaced g c =
    let some : 0 < length c.args.run = omega (arith, c.len.ensures.count) in
    let e = page_replaced c.args.settings.now c.args.page c.args.run some c.if-must_replace.ensures in
    from_ok c.replace.result _ (λ after. is_replaced_now after.1 ≡ is_replaced c.args.settings.now c.args.page c.args.run) (λ after h. h ∙ e) c.replace.ensures.replaced

pub returns-in-Ok-clause-can_undo : goal.returns-in-Ok-clause-can_undo
returns-in-Ok-clause-can_undo g c = c.replace.ensures.can_undo

pub returns-in-Ok-clause-page_before : goal.returns-in-Ok-clause-page_before
returns-in-Ok-clause-page_before g c =
    from_ok c.replace.result _ (λ after. page_before after.0 after.1 ≡ c.args.page) (λ after h. h ∙ page_of c.args.page _ c.args.run c.in-Ok.ensures.ok) c.replace.ensures.page_before

pub returns-in-Ok-clause-run_before : goal.returns-in-Ok-clause-run_before
returns-in-Ok-clause-run_before g c =
    from_ok c.replace.result _ (λ after. run_before after.0 after.1 ≡ c.args.run) (λ after h. h ∙ run_of c.args.page _ c.args.run c.in-Ok.ensures.ok) c.replace.ensures.run_before

pub returns-in-Ok-clause-page_back : goal.returns-in-Ok-clause-page_back
returns-in-Ok-clause-page_back g c =
    from_err c.replace.result _ (λ again. again.0 ≡ c.args.page) (λ again h. sym (page_of again.0 _ again.1 h) ∙ page_of c.args.page _ c.args.run c.in-Ok.ensures.ok) c.replace.ensures.back

pub returns-in-Ok-clause-run_back : goal.returns-in-Ok-clause-run_back
returns-in-Ok-clause-run_back g c =
    from_err c.replace.result _ (λ again. again.1 ≡ c.args.run) (λ again h. sym (run_of again.0 _ again.1 h) ∙ run_of c.args.page _ c.args.run c.in-Ok.ensures.ok) c.replace.ensures.back

-- ---- the run is prepended

pub returns-in-Ok-2-clause-page : goal.returns-in-Ok-2-clause-page
returns-in-Ok-2-clause-page g c =
    let some : 0 < length c.args.run = omega (arith, c.len.ensures.count) in
    c.in-Ok-2.ensures.ok ∙ sym (stands_in_front c.args.settings.now c.args.page c.args.run some (sym c.if-must_replace.ensures))

pub returns-in-Ok-2-clause-class : goal.returns-in-Ok-2-clause-class
returns-in-Ok-2-clause-class g c =
    let some : 0 < length c.args.run = omega (arith, c.len.ensures.count) in
    sym (class_in_front c.args.settings.now c.args.page c.args.run some (sym c.if-must_replace.ensures))

pub returns-in-Ok-2-clause-replaced : goal.returns-in-Ok-2-clause-replaced
returns-in-Ok-2-clause-replaced g c =
    sym (stays_in_front c.args.settings.now c.args.page c.args.run (sym c.if-must_replace.ensures))

pub returns-in-Ok-2-clause-can_undo : goal.returns-in-Ok-2-clause-can_undo
returns-in-Ok-2-clause-can_undo g c = has_run c.args.page _ c.args.run c.in-Ok-2.ensures.ok

pub returns-in-Ok-2-clause-page_before : goal.returns-in-Ok-2-clause-page_before
returns-in-Ok-2-clause-page_before g c = page_of c.args.page _ c.args.run c.in-Ok-2.ensures.ok

pub returns-in-Ok-2-clause-run_before : goal.returns-in-Ok-2-clause-run_before
returns-in-Ok-2-clause-run_before g c = run_of c.args.page _ c.args.run c.in-Ok-2.ensures.ok
