-- A text is answered as a stream that was read to its end, up to the first refusal.
use Rattle.std.proofs.Common.{◌≡◌, ◌∙◌, ◌++◌, List, [], ◌∷◌, Option, Some, None, ap, append_assoc, refl, sym, true, false}
use Rattle.std.specs.Prelude.{is_some, if◌then◌else◌}
use Rattle.std.specs.Option.{option_or}
use Rattle.keys.specs.Bytes.{Bytes, Pairs}
use Rattle.keys.specs.declared.fault.Fault.{Fault}
use Rattle.keys.specs.declared.settings.Settings.{Settings}
use Rattle.mapping.specs.Tree.{Store}
use Rattle.bwsh.specs.declared.order.Order.{Order}
use Rattle.bwsh.specs.Session.{Reads, accepted, after_order, answer_lines, answer_then, answered, first_refusal, front_lines, front_of_refused, later, map_after, map_unless, own_lines, refusal_of}

none_of_both : (o p : Option Fault) → option_or o p ≡ None → (o ≡ None) × (p ≡ None)
none_of_both None p e = (refl, e)
none_of_both (Some fault) p e = absurd (let some : Some fault ≡ None = e in cc)

-- if nothing is refused, a stream answers all
pub answered-all : (settings : Settings) (st : Store) (shown : Reads) (m : Pairs Bytes) (orders : List Order) → first_refusal settings st shown orders ≡ None
    → answered true settings st shown m orders ≡ answer_lines settings st shown m orders
answered-all settings st shown m [] e = refl
answered-all settings st shown m (order ∷ rest) e =
    let next = (after_order settings st (shown 0) order).0 in
    let front = front_lines st (shown 0) order in
    let own = own_lines settings st (shown 0) m order in
    let none = none_of_both (refusal_of settings st (shown 0) order) (first_refusal settings next (later shown) rest) e in
    ap (λ (o : Option Fault). answer_then true o (shown 0).told front own (answered true settings next (later shown) (map_unless o m order) rest)) none.0
    ∙ ap (λ (lines : List Bytes). front ++ own ++ lines) (answered-all settings next (later shown) (map_after m order) rest none.1)

-- and a text all before the first refusal, with the lines of the cleans before that order
pub answered-accepted : (settings : Settings) (st : Store) (shown : Reads) (m : Pairs Bytes) (orders : List Order)
    → answered false settings st shown m orders ≡ answer_lines settings st shown m (accepted settings st shown orders) ++ front_of_refused settings st shown orders
answered-accepted settings st shown m [] = refl
answered-accepted settings st shown m (order ∷ rest) =
    go (refusal_of settings st (shown 0) order) (answered-accepted settings (after_order settings st (shown 0) order).0 (later shown) (map_after m order) rest)
  where
    next : Store
    next = (after_order settings st (shown 0) order).0

    front : List Bytes
    front = front_lines st (shown 0) order

    own : List Bytes
    own = own_lines settings st (shown 0) m order

    -- the answers to the others that are accepted, and the lines before one that is not
    further : List Bytes
    further = answer_lines settings next (later shown) (map_after m order) (accepted settings next (later shown) rest)

    last : List Bytes
    last = front_of_refused settings next (later shown) rest

    go : (o : Option Fault) → answered false settings next (later shown) (map_after m order) rest ≡ further ++ last
        → answer_then false o (shown 0).told front own (answered false settings next (later shown) (map_unless o m order) rest)
        ≡ answer_lines settings st shown m (if is_some o then [] else order ∷ accepted settings next (later shown) rest) ++ (if is_some o then front else last)
    go None same = ap (λ (lines : List Bytes). front ++ own ++ lines) same ∙ sym (append_assoc (front ++ own) further last)
    go (Some fault) same = refl
