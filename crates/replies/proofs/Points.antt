-- Deleting the keys that a wipe finds gives the same map as the wipe. For the proofs of this crate and of those above it.
use Rattle.std.specs.Prelude.{◌≡◌, ℕ, Bool, true, false, cond, not, ◌&&◌, ◌||◌, List, [], ◌∷◌, Option, Some, None, is_some}
use Rattle.std.proofs.Common.{refl, sym, ap, ◌∙◌}
use Rattle.std.specs.Map.{keys_of}
use Rattle.std.specs.Ordering.{is_eq}
use Rattle.std.proofs.lemmas.Map.Entries.{lookup-filter-keys}
use Rattle.keys.specs.Order.{order, IsRising}
use Rattle.keys.specs.OrderedMap.{value_at, without}
use Rattle.keys.specs.Range.{is_within, in_range, out_of_range}
use Rattle.keys.specs.Step.{map_after_all}
use Rattle.keys.proofs.MapLemmas.{alike, passes_same, value_at-without, rising-without, same_map}
use Rattle.keys.proofs.RangeLemmas.{rising-filtered, value_at-out_of_range}
use Rattle.keys.proofs.RunLemmas.{rising-map_after_all}
use Rattle.replies.specs.InTurn.{dels_of}

abbrev Pairs : Type 0
Pairs = List (List ℕ × List ℕ)

-- whether a key is one of these
abbrev pub has_key : List ℕ → List (List ℕ) → Bool
has_key q [] = false
has_key q (k ∷ ks) = is_eq (order q k) || has_key q ks

found_first : (b h : Bool) (v : List ℕ) (o : Option (List ℕ)) → h ≡ is_some o → (b || h) ≡ is_some (cond b (Some v) o)
found_first true h v o e = refl
found_first false h v o e = e

has_key-keys : (q : List ℕ) (m : Pairs) → has_key q (keys_of m) ≡ is_some (value_at q m)
has_key-keys q [] = refl
has_key-keys q (e ∷ es) = found_first (is_eq (order q e.0)) (has_key q (keys_of es)) e.1 (value_at q es) (has_key-keys q es)

found_if : (b : Bool) (o : Option (List ℕ)) → is_some (cond b o None) ≡ (b && is_some o)
found_if true o = refl
found_if false o = refl

-- the keys of a map that lie in a range
pub has_key-in_range : (q lo : List ℕ) (hi : Option (List ℕ)) (m : Pairs) → has_key q (keys_of (in_range lo hi m)) ≡ (is_within lo hi q && is_some (value_at q m))
has_key-in_range q lo hi m =
    has_key-keys q (in_range lo hi m)
    ∙ ap (λ (o : Option (List ℕ)). is_some o) (lookup-filter-keys (λ j. is_eq (order q j)) (is_within lo hi) (is_within lo hi q) (λ j p. ap (is_within lo hi) (sym (passes_same q j p))) m)
    ∙ found_if (is_within lo hi q) (value_at q m)

gone_by : (a b : Bool) (o : Option (List ℕ)) → cond b None (cond a None o) ≡ cond (a || b) None o
gone_by true true o = refl
gone_by true false o = refl
gone_by false b o = refl

left_by : (w : Bool) (o : Option (List ℕ)) → cond (w && is_some o) None o ≡ cond (not w) o None
left_by true None = refl
left_by true (Some v) = refl
left_by false o = refl

module _ (A : Type 0) where
  -- the map after deletes
  value_at-dels : (m : Pairs) (ks : List (List ℕ)) (q : List ℕ) → IsRising m → value_at q (map_after_all m (dels_of {A = A} ks)) ≡ cond (has_key q ks) None (value_at q m)
  value_at-dels m [] q r = refl
  value_at-dels m (k ∷ ks) q r =
      value_at-dels (without m k) ks q (rising-without m k r)
      ∙ ap (λ (o : Option (List ℕ)). cond (has_key q ks) None o) (value_at-without m k q r ∙ ap (λ (b : Bool). cond b None (value_at q m)) (alike.symm k q))
      ∙ gone_by (is_eq (order q k)) (has_key q ks) (value_at q m)

  -- deleting the keys that a wipe finds gives the same map as the wipe
  pub wiped_by_dels : (m : Pairs) (lo : List ℕ) (hi : Option (List ℕ)) → IsRising m → map_after_all m (dels_of {A = A} (keys_of (in_range lo hi m))) ≡ out_of_range lo hi m
  wiped_by_dels m lo hi r =
      same_map (map_after_all m (dels_of {A = A} (keys_of (in_range lo hi m)))) (out_of_range lo hi m) (rising-map_after_all m (dels_of {A = A} (keys_of (in_range lo hi m))) r) (rising-filtered (λ e. not (is_within lo hi e.0)) m r)
      (λ q. value_at-dels m (keys_of (in_range lo hi m)) q r
      ∙ ap (λ (b : Bool). cond b None (value_at q m)) (has_key-in_range q lo hi m)
      ∙ left_by (is_within lo hi q) (value_at q m)
      ∙ sym (value_at-out_of_range m lo hi q))
