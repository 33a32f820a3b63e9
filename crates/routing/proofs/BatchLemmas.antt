-- Lemmas on commands with closer ends, looked up by place.
use Rattle.std.specs.Prelude.{◌≡◌, ℕ, zero, suc, ◌<◌, ◌≤◌, List, [], ◌∷◌, map, drop, length, slice_get, Option, Some, None}
use Rattle.std.proofs.Common.{refl, sym, ap, ◌∙◌, get_or}
use Rattle.std.proofs.lemmas.Option.{same_Some, slice_get_read, slice_get_past}
use Rattle.std.specs.List.{list_any}
use Rattle.std.specs.Option.{option_map}
use Rattle.keys.specs.CommandKey.{key_of, is_ranged}
use Rattle.keys.specs.Narrowed.{with_end, first_end, with_ends}
use Rattle.keys.specs.Places.{is_ranged_at}
use Rattle.keys.specs.declared.command.Command.{Command}
use Rattle.keys.specs.declared.command.Command.TheVariants.{Scan}
use Rattle.keys.proofs.NarrowedLemmas.{key-with_end, ranged-with_end, length-with_ends, get-with_ends}
use Rattle.routing.specs.BatchKeys.{key_at}
use Rattle.routing.specs.Idle.{gives, gives_at, empties, empties_at}
use Rattle.routing.specs.SortedPlaces.{reaches, reaches_at}

first_after : {X : Type 0} (end_of : X → Option (List ℕ)) (xs : List X) (place : ℕ) (x : X) → slice_get xs place ≡ Some x → end_of x ≡ first_end (drop place (map end_of xs))
first_after end_of [] place x h = absurd (cc)
first_after end_of (y ∷ ys) zero x h = ap end_of (sym (same_Some y x h))
first_after end_of (y ∷ ys) (suc place) x h = first_after end_of ys place x h

-- the end at a place, if the list has one there
pub end_there : {X : Type 0} (end_of : X → Option (List ℕ)) (xs : List X) (place : ℕ) (x : X) → place < length xs → x ≡ get_or xs place x → end_of x ≡ first_end (drop place (map end_of xs))
end_there end_of xs place x h e = first_after end_of xs place x (slice_get_read xs (length xs) place x refl h e)

any_with_ends : {A : Type 0} (cs : List (Command A)) (ends : List (Option (List ℕ))) → list_any is_ranged cs ≡ list_any is_ranged (with_ends cs ends)
any_with_ends [] ends = refl
any_with_ends (c ∷ cs) ends = rw (ranged-with_end (first_end ends) c, any_with_ends cs (drop 1 ends)) refl

-- what a command gives or takes it gives or takes with any end
gives-with_end : {A : Type 0} (end : Option (List ℕ)) (c : Command A) → gives (with_end end c) ≡ gives c
gives-with_end None c = refl
gives-with_end (Some end) (Scan lo hi limit) = refl
gives-with_end (Some end) _ = refl

empties-with_end : {A : Type 0} (upto end : Option (List ℕ)) (c : Command A) → empties upto (with_end end c) ≡ empties upto c
empties-with_end upto None c = refl
empties-with_end upto (Some end) (Scan lo hi limit) = refl
empties-with_end upto (Some end) _ = refl

-- a batch of these commands with these ends
module _ {A : Type 0} (cs : List (Command A)) (ends : List (Option (List ℕ))) (batch : List (Command A)) (same : with_ends cs ends ≡ batch) where
  pub length_same : length cs ≡ length batch
  length_same = sym (length-with_ends cs ends) ∙ ap (λ (ds : List (Command A)). length ds) same

  -- a scan is one with any end
  pub any_same : list_any is_ranged cs ≡ list_any is_ranged batch
  any_same = any_with_ends cs ends ∙ ap (λ (ds : List (Command A)). list_any is_ranged ds) same

  -- after the commands there is nothing
  pub past : (place : ℕ) → length cs ≤ place → slice_get batch place ≡ None
  past place h = slice_get_past batch place (rw length_same at h)

  -- the command at a place of the batch has the end at that place
  there : (place : ℕ) (c : Command A) → place < length cs → c ≡ get_or cs place c → slice_get batch place ≡ Some (with_end (first_end (drop place ends)) c)
  there place c h e =
      ap (λ (ds : List (Command A)). slice_get ds place) (sym same) ∙ get-with_ends cs ends place
      ∙ ap (λ (found : Option (Command A)). option_map (with_end (first_end (drop place ends))) found) (slice_get_read cs (length cs) place c refl h e)

  -- its key is the command's
  pub key_there : (place : ℕ) (c : Command A) → place < length cs → c ≡ get_or cs place c → key_of c ≡ key_at batch place
  key_there place c h e = rw (there place c h e) (sym (key-with_end (first_end (drop place ends)) c))

  pub ranged_there : (place : ℕ) (c : Command A) → place < length cs → c ≡ get_or cs place c → is_ranged c ≡ is_ranged_at batch place
  ranged_there place c h e = rw (there place c h e) (sym (ranged-with_end (first_end (drop place ends)) c))

  pub gives_there : (place : ℕ) (c : Command A) → place < length cs → c ≡ get_or cs place c → gives c ≡ gives_at batch place
  gives_there place c h e = rw (there place c h e) (sym (gives-with_end (first_end (drop place ends)) c))

  pub empties_there : (upto : Option (List ℕ)) (place : ℕ) (c : Command A) → place < length cs → c ≡ get_or cs place c → empties upto c ≡ empties_at batch upto place
  empties_there upto place c h e = rw (there place c h e) (sym (empties-with_end upto (first_end (drop place ends)) c))

  -- it reaches a page where the command does with this end
  pub reaches_there : (low : List ℕ) (end : Option (List ℕ)) (place : ℕ) (c : Command A) → end ≡ first_end (drop place ends) → place < length cs → c ≡ get_or cs place c → reaches low (with_end end c) ≡ reaches_at batch low place
  reaches_there low end place c n h e = rw (there place c h e) (ap (λ (last : Option (List ℕ)). reaches low (with_end last c)) n)
