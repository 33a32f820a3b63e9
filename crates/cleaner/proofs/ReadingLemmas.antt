-- The pages of a reading, under the number of their segment.
use Rattle.std.specs.Prelude.{◌≡◌, ◌≢◌, ℕ, Bool, true, false, cond, nat_eq, List, [], ◌∷◌, map, Vec, Option, Some}
use Rattle.std.proofs.Common.{refl, sym, ap, ◌∙◌}
use Rattle.std.specs.BTreeMap.{BTreeMap, get}
use Rattle.std.specs.Map.{lookup}
use Rattle.std.specs.Ordering.{nat_cmp, is_eq}
use Rattle.std.proofs.lemmas.Bool.{ne_eqb}
use Rattle.recovery.proofs.GatherLemmas.{same_at, lookup-same}
use Rattle.cleaner.specs.Chosen.{held, entries_held}
use Rattle.cleaner.specs.PagesRead.{or_none}

module _ {A B : Type 0} where
  held_by : (b : Bool) (pages : List (List ℕ)) (v : Vec (Vec ℕ A) B) (o : Option (List (List ℕ))) (p : Option (Vec (Vec ℕ A) B)) → pages ≡ map (λ (q : Vec ℕ A). q.items) v.items → or_none o ≡ held p
      → or_none (cond b (Some pages) o) ≡ held (cond b (Some v) p)
  held_by true pages v o p e h = e
  held_by false pages v o p e h = h

  entries-held : (n : ℕ) (es : List (ℕ × Vec (Vec ℕ A) B)) → or_none (lookup (nat_eq n) (entries_held es)) ≡ held (lookup (nat_eq n) es)
  entries-held n [] = refl
  entries-held n ((k, v) ∷ es) = held_by (nat_eq n k) (map (λ (q : Vec ℕ A). q.items) v.items) v (lookup (nat_eq n) (entries_held es)) (lookup (nat_eq n) es) refl (entries-held n es)

  -- what a map has of a segment is what is seen of it
  pub pages-held : (m : BTreeMap ℕ (Vec (Vec ℕ A) B)) (n : ℕ) → or_none (lookup (nat_eq n) (entries_held m.entries)) ≡ held (get nat_cmp m n)
  pages-held m n = entries-held n m.entries ∙ ap held (sym (lookup-same n m.entries))

-- numbers that differ
pub differ : (m n : ℕ) → n ≢ m → is_eq (nat_cmp m n) ≡ false
differ m n other = same_at m n ∙ ne_eqb m n (λ e. other (sym e))
