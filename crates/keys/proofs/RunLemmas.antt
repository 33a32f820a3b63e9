-- Lemmas on lists of commands.
use Rattle.std.specs.Prelude.{◌≡◌, ℕ, Bool, true, false, if◌then◌else◌, not, is_some, List, [], ◌∷◌, ◌++◌}
use Rattle.std.proofs.Common.{refl, ap}
use Rattle.keys.specs.Order.{IsRising}
use Rattle.keys.specs.OrderedMap.{value_at, with_pair}
use Rattle.keys.specs.Range.{is_within}
use Rattle.keys.proofs.MapLemmas.{rising-with_pair, rising-without}
use Rattle.keys.proofs.RangeLemmas.{rising-filtered}
use Rattle.keys.specs.Step.{reply_to, map_after, replies_to, map_after_all}
use Rattle.keys.specs.declared.command.Command.{Command}
use Rattle.keys.specs.declared.command.Command.TheVariants.{Get, Put, Add, Del, Scan, Wipe}
use Rattle.keys.specs.declared.command.Reply.{Reply}

rising_either : (b : Bool) (m n : List (List ℕ × List ℕ)) → IsRising m → IsRising n → IsRising (if b then m else n)
rising_either true m n r s = r
rising_either false m n r s = s

pub rising-map_after : {A : Type 0} → (m : List (List ℕ × List ℕ)) (c : Command A) → IsRising m → IsRising (map_after m c)
rising-map_after m (Get k) r = r
rising-map_after m (Put k v) r = rising-with_pair m k v r
rising-map_after m (Add k v) r = rising_either (is_some (value_at k m)) m (with_pair m k v) r (rising-with_pair m k v r)
rising-map_after m (Del k) r = rising-without m k r
rising-map_after m (Scan lo hi limit) r = r
rising-map_after m (Wipe lo hi) r = rising-filtered (λ e. not (is_within lo hi e.0)) m r

pub rising-map_after_all : {A : Type 0} → (m : List (List ℕ × List ℕ)) (cs : List (Command A)) → IsRising m → IsRising (map_after_all m cs)
rising-map_after_all m [] r = r
rising-map_after_all m (c ∷ cs) r = rising-map_after_all (map_after m c) cs (rising-map_after m c r)

pub replies_to-append : {A : Type 0} → (m : List (List ℕ × List ℕ)) (cs ds : List (Command A)) → replies_to m (cs ++ ds) ≡ replies_to m cs ++ replies_to (map_after_all m cs) ds
replies_to-append m [] ds = refl
replies_to-append {A} m (c ∷ cs) ds = ap (λ (rs : List (Reply A)). reply_to m c ∷ rs) (replies_to-append (map_after m c) cs ds)

pub map_after_all-append : {A : Type 0} → (m : List (List ℕ × List ℕ)) (cs ds : List (Command A)) → map_after_all m (cs ++ ds) ≡ map_after_all (map_after_all m cs) ds
map_after_all-append m [] ds = refl
map_after_all-append m (c ∷ cs) ds = map_after_all-append (map_after m c) cs ds
