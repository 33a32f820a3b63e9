-- Changes over a page: the value of a key after them, and the effect of one more command on them.
use Rattle.std.specs.Prelude.{◌≡◌, ◌<◌, ℕ, Bool, true, false, List, [], ◌∷◌, Option, Some, None, if◌then◌else◌, length, Result, Ok, Err, OnOk}
use Rattle.std.proofs.Common.{refl, sym, ap, ◌∙◌, arith, cond}
use Rattle.std.specs.List.{AllByRecursion}
use Rattle.std.specs.Map.{keys_of}
use Rattle.keys.specs.Order.{IsRising}
use Rattle.keys.specs.OrderedMap.{value_at, with_pair, without}
use Rattle.keys.specs.Range.{is_within, in_range, out_of_range}
use Rattle.keys.proofs.RangeLemmas.{wiped_within}
use Rattle.keys.proofs.MapLemmas.{value_at-with_pair_here, value_at-without_here}
use Rattle.keys.specs.declared.settings.Settings.{Settings}
use Rattle.delta_chain.specs.Layers.{Layers, change_or, holds, with_run, entries_of, IsInOrder}
use Rattle.delta_chain.proofs.LayerLemmas.{value_at-with_run, value_at-entries_of, rising-entries_of}
use Rattle.page_runs.specs.AfterRun.{must_replace, class_after, class_of_size}
use Rattle.page_runs.specs.NetRun.{noted, noted_all}
use Rattle.page_runs.specs.Replay.{with_absent}

module _ {V : Type 0} where
  -- a key in the changes has their value
  pub named_now : (p : Layers V) (run : List (List ℕ × Option V)) (k : List ℕ) (o : Option V) → IsInOrder p → IsRising run → Some o ≡ value_at k run → o ≡ value_at k (with_run (entries_of p) run)
  named_now p run k o a r h =
      let said = value_at-with_run (entries_of p) run k (rising-entries_of p a) r in
      rw said (ap (λ (t : Option (Option V)). change_or t (value_at k (entries_of p))) h)

  -- a key that is not in the changes has the page's value
  pub unnamed_now : (p : Layers V) (run : List (List ℕ × Option V)) (k : List ℕ) → IsInOrder p → IsRising run → None ≡ value_at k run → holds p k ≡ value_at k (with_run (entries_of p) run)
  unnamed_now p run k a r h =
      let said = value_at-with_run (entries_of p) run k (rising-entries_of p a) r in
      let held = value_at-entries_of p k a in
      rw (said, ← held) (ap (λ (t : Option (Option V)). change_or t (value_at k (entries_of p))) h)

  -- without changes, the page has the value
  pub unnamed_without : (p : Layers V) (run : List (List ℕ × Option V)) (k : List ℕ) → IsInOrder p → IsRising run → length run ≡ 0 → holds p k ≡ value_at k (with_run (entries_of p) run)
  unnamed_without p [] k a r h = unnamed_now p [] k a r refl
  unnamed_without p (c ∷ cs) k a r h = absurd (omega arith)

  -- the recorded change of a key that was put, added or deleted, if no allocation failed
  noted_put : (m : List (List ℕ × V)) (run : List (List ℕ × Option V)) (k : List ℕ) (v : V) → with_pair run k (Some v) ≡ noted (with_pair m k v) run k
  noted_put m run k v = rw (value_at-with_pair_here m k v) refl

  noted_add : (b : Bool) (m : List (List ℕ × V)) (run : List (List ℕ × Option V)) (k : List ℕ) (v : V) → (if b then run else with_pair run k (Some v)) ≡ (if b then run else noted (if b then m else with_pair m k v) run k)
  noted_add true m run k v = refl
  noted_add false m run k v = noted_put m run k v

  noted_del : (b : Bool) (m : List (List ℕ × V)) (run : List (List ℕ × Option V)) (k : List ℕ) → IsRising m → (if b then with_pair run k None else run) ≡ (if b then noted (without m k) run k else run)
  noted_del true m run k r = rw (value_at-without_here m k r) refl
  noted_del false m run k r = refl

  -- keys that a map lacks are recorded as deleted
  noted_absent : (after : List (List ℕ × V)) (run : List (List ℕ × Option V)) (ks : List (List ℕ)) → AllByRecursion (λ k. value_at k after ≡ None) ks → with_absent run ks ≡ noted_all after run ks
  noted_absent after run [] a = refl
  noted_absent after run (k ∷ ks) a =
      ap (λ (o : Option V). with_absent (with_pair run k o) ks) (sym a.0) ∙ noted_absent after (noted after run k) ks a.1

  lacking_by : (b : Bool) (e : List ℕ × V) (lo : List ℕ) (hi : Option (List ℕ)) (m es : List (List ℕ × V)) → is_within lo hi e.0 ≡ b → AllByRecursion (λ k. value_at k (out_of_range lo hi m) ≡ None) (keys_of es)
      → AllByRecursion (λ k. value_at k (out_of_range lo hi m) ≡ None) (keys_of (cond b (e ∷ es) es))
  lacking_by true e lo hi m es h a = (wiped_within m lo hi e.0 h, a)
  lacking_by false e lo hi m es h a = a

  -- the keys in a range are lacking after they are wiped
  all_lacking : (lo : List ℕ) (hi : Option (List ℕ)) (m es : List (List ℕ × V)) → AllByRecursion (λ k. value_at k (out_of_range lo hi m) ≡ None) (keys_of (in_range lo hi es))
  all_lacking lo hi m [] = tt
  all_lacking lo hi m (e ∷ es) = lacking_by (is_within lo hi e.0) e lo hi m (in_range lo hi es) refl (all_lacking lo hi m es)

  noted_wipe : (m : List (List ℕ × V)) (run : List (List ℕ × Option V)) (lo : List ℕ) (hi : Option (List ℕ)) → with_absent run (keys_of (in_range lo hi m)) ≡ noted_all (out_of_range lo hi m) run (keys_of (in_range lo hi m))
  noted_wipe m run lo hi = noted_absent (out_of_range lo hi m) run (keys_of (in_range lo hi m)) (all_lacking lo hi m m)

  module _ {R E : Type 0} where
    pub put_noted : (r : Result R E) (m : List (List ℕ × V)) (run new : List (List ℕ × Option V)) (k : List ℕ) (v : V) → OnOk r (new ≡ with_pair run k (Some v)) → OnOk r (new ≡ noted (with_pair m k v) run k)
    put_noted (Ok x) m run new k v h = h ∙ noted_put m run k v
    put_noted (Err e) m run new k v h = tt

    pub add_noted : (r : Result R E) (b : Bool) (m : List (List ℕ × V)) (run new : List (List ℕ × Option V)) (k : List ℕ) (v : V) → OnOk r (new ≡ (if b then run else with_pair run k (Some v))) → OnOk r (new ≡ (if b then run else noted (if b then m else with_pair m k v) run k))
    add_noted (Ok x) b m run new k v h = h ∙ noted_add b m run k v
    add_noted (Err e) b m run new k v h = tt

    pub del_noted : (r : Result R E) (b : Bool) (m : List (List ℕ × V)) (run new : List (List ℕ × Option V)) (k : List ℕ) → IsRising m → OnOk r (new ≡ (if b then with_pair run k None else run)) → OnOk r (new ≡ (if b then noted (without m k) run k else run))
    del_noted (Ok x) b m run new k s h = h ∙ noted_del b m run k s
    del_noted (Err e) b m run new k s h = tt

    pub wipe_noted : (r : Result R E) (m : List (List ℕ × V)) (run new : List (List ℕ × Option V)) (lo : List ℕ) (hi : Option (List ℕ)) → OnOk r (new ≡ with_absent run (keys_of (in_range lo hi m)))
        → OnOk r (new ≡ noted_all (out_of_range lo hi m) run (keys_of (in_range lo hi m)))
    wipe_noted (Ok x) m run new lo hi h = h ∙ noted_wipe m run lo hi
    wipe_noted (Err e) m run new lo hi h = tt

  -- the class of a page that a run replaces
  pub class_of_replaced : (s : Settings) (p : Layers V) (run : List (List ℕ × Option V)) → 0 < length run → true ≡ must_replace s p run → class_of_size s (length (with_run (entries_of p) run)) ≡ class_after s p run
  class_of_replaced s p [] n h = absurd (omega arith)
  class_of_replaced s p (c ∷ cs) n h = rw (← h) refl
