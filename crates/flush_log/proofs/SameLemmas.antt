-- Calls that change nothing of a disk, and later calls.
use Rattle.std.proofs.Common.{inl, inr, ⊎_elim, ℕ, ◌≤◌, List, IsTrue, sym, subst, ◌∙◌, arith}
use Rattle.flush_log.specs.Disk.{View, Lawful, IsSynced, Kept, Same, LeavesOnly}

pub settled_still : (old new : View) → Kept old new → Same old new → IsSynced old → IsSynced new
settled_still old new kept same is_synced = record {
  honest = subst IsTrue (sym kept.honest) is_synced.honest;
  only = λ c left. is_synced.only c ((same.may_leave c).0 left) ∙ sym same.seen;
}

pub left_after : (a b c : View) (P : List ℕ → Type 0) → Same a b → LeavesOnly b c P → LeavesOnly a c P
left_after a b c P same run = record {
  later = subst (λ (m : ℕ). m ≤ c.moment) same.moment run.later;
  each = λ x left. run.each x (subst (λ (m : ℕ). c.left_since m x) (sym same.moment) left);
  before = λ t x le left. ⊎_elim (λ was. inl ((same.left_since t x).0 was)) (λ now. inr now) (run.before t x (subst (λ (m : ℕ). t ≤ m) (sym same.moment) le) left);
}

-- and what comes before them
pub left_still : (a b c : View) (P : List ℕ → Type 0) → LeavesOnly a b P → Same b c → LeavesOnly a c P
left_still a b c P run same = record {
  later = subst (λ (m : ℕ). a.moment ≤ m) (sym same.moment) run.later;
  each = λ x left. run.each x ((same.left_since a.moment x).0 left);
  before = λ t x le left. run.before t x le ((same.left_since t x).0 left);
}

-- a crash leaves the readable contents of a synced disk, if no call was made
pub leaves_itself : (v : View) (P : List ℕ → Type 0) → Lawful v → IsSynced v → P v.seen → LeavesOnly v v P
leaves_itself v P law is_synced p = record {
  later = omega arith;
  each = λ c left. subst P (sym (is_synced.only c (law.only_now c left))) p;
  before = λ t c le left. inl left;
}

-- and after calls that change nothing
pub leaves_the_same : (old new : View) (P : List ℕ → Type 0) → Lawful old → Same old new → IsSynced old → P old.seen → LeavesOnly old new P
leaves_the_same old new P law same is_synced p = record {
  later = subst (λ (m : ℕ). old.moment ≤ m) (sym same.moment) (omega arith);
  each = λ c left. subst P (sym (is_synced.only c (law.only_now c ((same.left_since old.moment c).0 left)))) p;
  before = λ t c le left. inl ((same.left_since t c).0 left);
}
