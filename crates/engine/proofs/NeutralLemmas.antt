-- Commands that do not change a map.
use Rattle.std.specs.Prelude.{cond}
use Rattle.std.proofs.Common.{◌≡◌, ◌∙◌, Bool, List, [], ◌∷◌, ◌++◌, Some, None, true, false, refl, sym, ap}
use Rattle.std.specs.Ordering.{is_eq}
use Rattle.std.specs.declared.alloc.Global.{Global}
use Rattle.keys.specs.Bytes.{Bytes, Pairs}
use Rattle.keys.specs.Order.{order, IsRising}
use Rattle.keys.specs.OrderedMap.{value_at, with_pair, without}
use Rattle.keys.specs.Step.{map_after_all}
use Rattle.keys.specs.declared.command.Command.{Command}
use Rattle.keys.specs.declared.command.Command.TheVariants.{Put, Del}
use Rattle.keys.proofs.MapLemmas.{is_itself, passes_same, same_map, rising-with_pair, rising-without, value_at-with_pair_here, value_at-with_pair_elsewhere, value_at-without}
use Rattle.keys.proofs.RunLemmas.{map_after_all-append}

-- ---- a put of the present value

put_same : (m : Pairs Bytes) (k v : Bytes) → value_at k m ≡ Some v → (b : Bool) (q : Bytes) → is_eq (order q k) ≡ b → value_at q (with_pair m k v) ≡ value_at q m
put_same m k v here true q same = rw (passes_same q k same) (value_at-with_pair_here m k v ∙ sym here)
put_same m k v here false q apart = value_at-with_pair_elsewhere m k q v (λ e. (let itself : is_eq (order q k) ≡ true = rw e (is_itself k) in absurd (cc)))

neutral_put : (m : Pairs Bytes) (k v : Bytes) → IsRising m → value_at k m ≡ Some v → with_pair m k v ≡ m
neutral_put m k v r here = same_map (with_pair m k v) m (rising-with_pair m k v r) r (λ q. put_same m k v here (is_eq (order q k)) q refl)

-- ---- a put and a delete of an absent key

deleted_by : (m : Pairs Bytes) (k v : Bytes) → value_at k m ≡ None → (b : Bool) (q : Bytes) → is_eq (order k q) ≡ b → cond b None (value_at q (with_pair m k v)) ≡ value_at q m
deleted_by m k v none true q same = sym (ap (λ (x : Bytes). value_at x m) (sym (passes_same k q same)) ∙ none)
deleted_by m k v none false q apart = value_at-with_pair_elsewhere m k q v (λ e. (let itself : is_eq (order k q) ≡ true = rw e (is_itself k) in absurd (cc)))

neutral_put_del : (m : Pairs Bytes) (k v : Bytes) → IsRising m → value_at k m ≡ None → without (with_pair m k v) k ≡ m
neutral_put_del m k v r none =
    let put : IsRising (with_pair m k v) = rising-with_pair m k v r in
    same_map (without (with_pair m k v) k) m (rising-without (with_pair m k v) k put) r
    (λ q. value_at-without (with_pair m k v) k q put ∙ deleted_by m k v none (is_eq (order k q)) q refl)

-- ---- by the value that was looked up

-- after commands that change nothing
pub neutral_after_put : (m : Pairs Bytes) (k v : Bytes) (cs ds : List (Command Global)) → IsRising m → value_at k m ≡ Some v → map_after_all m cs ≡ m → ds ≡ cs ++ Put k v ∷ [] → map_after_all m ds ≡ m
neutral_after_put m k v cs ds r here neutral is =
    ap (λ (x : List (Command Global)). map_after_all m x) is ∙ map_after_all-append m cs (Put k v ∷ []) ∙ ap (λ (x : Pairs Bytes). with_pair x k v) neutral ∙ neutral_put m k v r here

pub neutral_after_put_del : (m : Pairs Bytes) (k v : Bytes) (cs put ds : List (Command Global)) → IsRising m → value_at k m ≡ None → map_after_all m cs ≡ m → put ≡ cs ++ Put k v ∷ [] → ds ≡ put ++ Del k ∷ [] → map_after_all m ds ≡ m
neutral_after_put_del m k v cs put ds r none neutral first then =
    ap (λ (x : List (Command Global)). map_after_all m x) then
    ∙ map_after_all-append m put (Del k ∷ [])
    ∙ ap (λ (x : Pairs Bytes). without x k) (ap (λ (x : List (Command Global)). map_after_all m x) first ∙ map_after_all-append m cs (Put k v ∷ []) ∙ ap (λ (x : Pairs Bytes). with_pair x k v) neutral)
    ∙ neutral_put_del m k v r none
