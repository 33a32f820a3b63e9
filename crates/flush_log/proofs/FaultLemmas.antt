-- The effects of failed calls of the test disks.
use Rattle.std.proofs.Common.{◌≡◌, ◌⊎◌, inl, inr, ℕ, min, List, length, take, sym, ap, subst, ◌∙◌, arith, take_all, Result, Ok, Err, OnOk, OnErr}
use Rattle.std.proofs.lemmas.Bool.{cases_lt}
use Rattle.flush_log.specs.Overlay.{overlay}
use Rattle.flush_log.specs.Disk.{View, Same, CountsFailure, HasFailed}
use Rattle.flush_log.specs.Faults.{IsCutShort}
use Rattle.flush_log.proofs.ViewLemmas.{counted_failed}

module _ {T E : Type 0} (cut reason : Type 0) (left : List ℕ) (old new : View) (before after : ℕ) (so : HasFailed before after → reason) where
  -- a write that was to be cut short
  pub cut_short : (result : Result T E) → cut → OnOk result (new.seen ≡ left) → OnErr result (Same old new) → CountsFailure result before after → IsCutShort cut left reason old new
  cut_short (Ok t) is seen none failed = inl (is, seen)
  cut_short (Err e) is seen none failed = inr (so (counted_failed before after failed), none)

  -- one that was not
  pub not_cut : (result answer : Result T E) → answer ≡ result → OnErr result (Same old new) → CountsFailure result before after → OnErr answer (IsCutShort cut left reason old new)
  not_cut result answer is none failed = subst (λ (r : Result T E). OnErr r (IsCutShort cut left reason old new)) (sym is) (of result none failed)
    where
      of : (r : Result T E) → OnErr r (Same old new) → CountsFailure r before after → OnErr r (IsCutShort cut left reason old new)
      of (Ok t) none failed = tt
      of (Err e) none failed = inr (so (counted_failed before after failed), none)

  -- a sync
  pub not_synced : (result answer : Result T E) → answer ≡ result → OnErr result (Same old new) → CountsFailure result before after → OnErr answer ((cut ⊎ reason) × Same old new)
  not_synced result answer is none failed = subst (λ (r : Result T E). OnErr r ((cut ⊎ reason) × Same old new)) (sym is) (of result none failed)
    where
      of : (r : Result T E) → OnErr r (Same old new) → CountsFailure r before after → OnErr r ((cut ⊎ reason) × Same old new)
      of (Ok t) none failed = tt
      of (Err e) none failed = (inr (so (counted_failed before after failed)), none)

-- the first of these bytes, which may be all, are written
pub part_written : {T E : Type 0} (result : Result T E) (now seen : List ℕ) (at written k : ℕ) (bytes : List ℕ) → k ≡ min written (length bytes)
    → OnOk result (now ≡ overlay seen at (take k bytes)) → OnOk result (now ≡ overlay seen at (take written bytes))
part_written (Ok t) now seen at written k bytes least is = is ∙ ap (λ (xs : List ℕ). overlay seen at xs) first
  where
    first : take k bytes ≡ take written bytes
    first = elim (cases_lt written (length bytes)) [
      | inl less ↦ ap (λ (n : ℕ). take n bytes) (let n : k ≡ written = omega (arith, least, less) in n)
      | inr all ↦ take_all k bytes (omega (arith, least, all)) ∙ sym (take_all written bytes all)
    ]
part_written (Err e) now seen at written k bytes least is = tt
