-- Executing one more command: the changes are the net run of one more command, and the pieces those of one more place.
use Rattle.std.specs.Prelude.{◌≡◌, ◌<◌, ℕ, zero, suc, List, [], ◌∷◌, ◌++◌, Some, option_to_list, length, take, drop, slice_get}
use Rattle.std.proofs.Common.{refl, sym, ap, ◌∙◌, append_assoc, get_or}
use Rattle.std.proofs.lemmas.Option.{slice_get-get_or}
use Rattle.std.specs.declared.alloc.Global.{Global}
use Rattle.keys.specs.Order.{IsRising}
use Rattle.keys.specs.PlacedPieces.{with_piece, with_each}
use Rattle.keys.specs.Step.{reply_to, map_after, map_after_all, replies_to}
use Rattle.keys.proofs.RunLemmas.{map_after_all-append}
use Rattle.keys.specs.declared.command.Command.{Command}
use Rattle.delta_chain.specs.Layers.{with_run}
use Rattle.page_runs.proofs.NetLemmas.{Pairs, Changes, with_run-net_run, net_run-push}
use Rattle.page_runs.specs.NetRun.{noted_by, net_run}
use Rattle.page_runs.specs.Replies.{commands_at, pieces_of, ArePlacesOf}
use Rattle.keys.specs.declared.piece.Piece.{Piece}

-- ---- places

-- each place of a list of places is a place of the batch
pub place_within : {A : Type 0} → (batch : List (Command A)) (places : List ℕ) (i p : ℕ) → ArePlacesOf batch places → slice_get places i ≡ Some p → p < length batch
place_within batch [] i p a h = absurd (cc)
place_within batch (q ∷ qs) zero p a h = let s : q ≡ p = cc in rw (← s) a.0
place_within batch (q ∷ qs) (suc i) p a h = place_within batch qs i p a.1 h

-- and so is the one that is read there
pub read_place_within : {A : Type 0} → (batch : List (Command A)) (places : List ℕ) (i : ℕ) → ArePlacesOf batch places → i < length places → get_or places i 0 < length batch
read_place_within batch places i a l = place_within batch places i (get_or places i 0) a (slice_get-get_or places i 0 l)

-- the commands at the places up to and with one more
pub commands_at-take : {A : Type 0} → (batch : List (Command A)) (places : List ℕ) (i p : ℕ) (c : Command A) → slice_get places i ≡ Some p → slice_get batch p ≡ Some c → commands_at batch (take (suc i) places) ≡ commands_at batch (take i places) ++ c ∷ []
commands_at-take batch [] i p c h k = absurd (cc)
commands_at-take batch (q ∷ qs) zero p c h k = let s : q ≡ p = cc in rw (s, k) refl
commands_at-take {A} batch (q ∷ qs) (suc i) p c h k =
    ap (λ (cs : List (Command A)). option_to_list (slice_get batch q) ++ cs) (commands_at-take batch qs i p c h k)
    ∙ sym (append_assoc (option_to_list (slice_get batch q)) (commands_at batch (take i qs)) (c ∷ []))

-- ---- the changes

module _ (m : Pairs) (rising : IsRising m) (cs : List (Command Global)) (c : Command Global) (changes after : Changes) where
  map_so_far : changes ≡ net_run m cs → with_run m changes ≡ map_after_all m cs
  map_so_far h = ap (λ (r : Changes). with_run m r) h ∙ with_run-net_run m cs rising

  pub changes_step : changes ≡ net_run m cs → after ≡ noted_by (map_after (with_run m changes) c) (with_run m changes) c changes → after ≡ net_run m (cs ++ c ∷ [])
  changes_step h k =
      k ∙ ap (λ (b : Pairs). noted_by (map_after b c) b c changes) (map_so_far h)
      ∙ ap (λ (r : Changes). noted_by (map_after (map_after_all m cs) c) (map_after_all m cs) c r) h
      ∙ sym (net_run-push m cs c rising)

  pub map_step : changes ≡ net_run m cs → after ≡ net_run m (cs ++ c ∷ []) → with_run m after ≡ map_after (with_run m changes) c
  map_step h k =
      ap (λ (r : Changes). with_run m r) k ∙ with_run-net_run m (cs ++ c ∷ []) rising ∙ map_after_all-append m cs (c ∷ [])
      ∙ ap (λ (b : Pairs). map_after b c) (sym (map_so_far h))

-- ---- the pieces

pub pieces_step : (batch : List (Command Global)) (places : List ℕ) (i p : ℕ) (c : Command Global) (before : Pairs) (pieces all : List (Piece Global)) → slice_get places i ≡ Some p → slice_get batch p ≡ Some c → with_each pieces (pieces_of (drop i places) (replies_to before (commands_at batch (drop i places)))) ≡ all → with_each (with_piece pieces (record { place = p; reply = reply_to before c })) (pieces_of (drop (suc i) places) (replies_to (map_after before c) (commands_at batch (drop (suc i) places)))) ≡ all
pieces_step batch [] i p c before pieces all h k t = absurd (cc)
pieces_step batch (q ∷ qs) zero p c before pieces all h k t =
    let s : q ≡ p = cc in
    rw (s, k) at t
pieces_step batch (q ∷ qs) (suc i) p c before pieces all h k t = pieces_step batch qs i p c before pieces all h k t
