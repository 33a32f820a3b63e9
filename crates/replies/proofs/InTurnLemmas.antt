-- One more command, executed in turn: for the proofs of this crate and of those above it.
use Rattle.std.specs.Prelude.{◌≡◌, ℕ, ◌+◌, ◌<◌, List, [], ◌∷◌, ◌++◌, length, take}
use Rattle.std.proofs.Common.{refl, sym, ap, ◌∙◌, append_assoc, append-nil, get_or}
use Rattle.std.proofs.lemmas.List.{take_more}
use Rattle.keys.specs.Step.{reply_to, map_after, replies_to, map_after_all}
use Rattle.keys.specs.declared.command.Command.{Command}
use Rattle.keys.specs.declared.command.Reply.{Reply}
use Rattle.keys.proofs.RunLemmas.{replies_to-append, map_after_all-append}
use Rattle.replies.specs.InTurn.{points_by, points_of}

abbrev Pairs : Type 0
Pairs = List (List ℕ × List ℕ)

module _ {A : Type 0} where
  pub points_of-append : (m : Pairs) (cs ds : List (Command A)) → points_of m (cs ++ ds) ≡ points_of m cs ++ points_of (map_after_all m cs) ds
  points_of-append m [] ds = refl
  points_of-append m (c ∷ cs) ds =
      ap (λ (x : List (Command A)). points_by m c ++ x) (points_of-append (map_after m c) cs ds)
      ∙ sym (append_assoc (points_by m c) (points_of (map_after m c) cs) (points_of (map_after_all (map_after m c) cs) ds))

  -- the commands so far, with one more
  more : (cs : List (Command A)) (at : ℕ) (c : Command A) → at < length cs → c ≡ get_or cs at c → take (at + 1) cs ≡ take at cs ++ c ∷ []
  more cs at c l is = take_more cs at c l ∙ ap (λ (d : Command A). take at cs ++ d ∷ []) (sym is)

  pub map_on : (m : Pairs) (cs : List (Command A)) (at : ℕ) (c : Command A) (now after : Pairs) → at < length cs → c ≡ get_or cs at c → now ≡ map_after_all m (take at cs) → after ≡ map_after now c → after ≡ map_after_all m (take (at + 1) cs)
  map_on m cs at c now after l is n a =
      a ∙ ap (λ (x : Pairs). map_after x c) n ∙ sym (ap (λ (ds : List (Command A)). map_after_all m ds) (more cs at c l is) ∙ map_after_all-append m (take at cs) (c ∷ []))

  pub replies_on : (m : Pairs) (cs : List (Command A)) (at : ℕ) (c : Command A) (now : Pairs) (old new : List (Reply A)) → at < length cs → c ≡ get_or cs at c → now ≡ map_after_all m (take at cs) → old ≡ replies_to m (take at cs) → new ≡ old ++ reply_to now c ∷ [] → new ≡ replies_to m (take (at + 1) cs)
  replies_on m cs at c now old new l is n o a =
      a
      ∙ ap (λ (x : Pairs). old ++ reply_to x c ∷ []) n
      ∙ ap (λ (rs : List (Reply A)). rs ++ reply_to (map_after_all m (take at cs)) c ∷ []) o
      ∙ sym (ap (λ (ds : List (Command A)). replies_to m ds) (more cs at c l is) ∙ replies_to-append m (take at cs) (c ∷ []))

  pub points_on : (m : Pairs) (cs : List (Command A)) (at : ℕ) (c : Command A) (now : Pairs) (old new : List (Command A)) → at < length cs → c ≡ get_or cs at c → now ≡ map_after_all m (take at cs) → old ≡ points_of m (take at cs) → new ≡ old ++ points_by now c → new ≡ points_of m (take (at + 1) cs)
  points_on m cs at c now old new l is n o a =
      a
      ∙ ap (λ (x : Pairs). old ++ points_by x c) n
      ∙ ap (λ (ps : List (Command A)). ps ++ points_by (map_after_all m (take at cs)) c) o
      ∙ ap (λ (ps : List (Command A)). points_of m (take at cs) ++ ps) (sym (append-nil (points_by (map_after_all m (take at cs)) c)))
      ∙ sym (ap (λ (ds : List (Command A)). points_of m ds) (more cs at c l is) ∙ points_of-append m (take at cs) (c ∷ []))
