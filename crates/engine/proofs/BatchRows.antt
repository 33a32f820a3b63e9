-- The rows that the scans of a batch may return together, and the rows of the replies to it.
use Rattle.std.specs.Prelude.{◌≡◌, ◌+◌, ◌-◌, ◌^◌, ◌<◌, ◌≤◌, ℕ, min, Bool, true, false, is_some, if◌then◌else◌, List, [], ◌∷◌, ◌++◌, Option, Some, None}
use Rattle.std.proofs.Common.{refl, sym, subst, arith}
use Rattle.std.proofs.lemmas.List.{length-take}
use Rattle.std.specs.declared.alloc.Global.{Global}
use Rattle.keys.specs.Bytes.{Bytes, Pairs}
use Rattle.keys.specs.OrderedMap.{value_at}
use Rattle.keys.specs.Range.{in_range}
use Rattle.keys.specs.Step.{found, reply_to, map_after, replies_to}
use Rattle.keys.specs.declared.command.Command.{Command}
use Rattle.keys.specs.declared.command.Command.TheVariants.{Get, Put, Add, Del, Scan, Wipe}
use Rattle.keys.specs.declared.command.Reply.TheVariants.{New, Replaced, Added, Exists, Deleted, Missing}
use Rattle.engine.specs.Tokens.{most_rows, row_count, row_counts, row_limit}

-- ---- the count that a batch keeps

abbrev most : ℕ
most = 2 ^ 64 - 1

most_rows-push : (cs : List (Command Global)) (c : Command Global) → most_rows (cs ++ c ∷ []) ≡ most_rows cs + row_limit c
most_rows-push [] c = omega arith
most_rows-push (d ∷ cs) c = let more = most_rows-push cs c in omega (arith, more)

-- after a command was added
pub counted_more : (cs now : List (Command Global)) (c : Command Global) (rows limit sum : ℕ) → rows ≡ min (most_rows cs) most → limit ≡ row_limit c → sum ≡ min (rows + limit) most → now ≡ cs ++ c ∷ []
    → sum ≡ min (most_rows now) most
counted_more cs now c rows limit sum before is summed pushed =
    let more = most_rows-push cs c in
    let all : sum ≡ min (most_rows (cs ++ c ∷ [])) most = omega (arith, more, before, is, summed) in
    subst (λ (ds : List (Command Global)). sum ≡ min (most_rows ds) most) (sym pushed) all

-- after a scan was added within the budget
pub in_budget : (cs now : List (Command Global)) (lo : Bytes) (hi : Option Bytes) (rows limit sum budget : ℕ) → rows ≡ min (most_rows cs) most → sum ≡ min (rows + limit) most → sum ≤ budget → budget < 2 ^ 32
    → now ≡ cs ++ Scan lo hi limit ∷ [] → most_rows now ≤ budget
in_budget cs now lo hi rows limit sum budget before summed fit small pushed =
    let more = most_rows-push cs (Scan lo hi limit) in
    let all : most_rows (cs ++ Scan lo hi limit ∷ []) ≤ budget = omega (arith, more, before, summed, fit, small) in
    subst (λ (ds : List (Command Global)). most_rows ds ≤ budget) (sym pushed) all

-- ---- the replies

found_rows : (A : Type 0) (o : Option Bytes) → row_count {A = A} (found o) ≡ 0
found_rows A None = refl
found_rows A (Some v) = refl

put_rows : (A : Type 0) (b : Bool) → row_count {A = A} (if b then Replaced else New) ≡ 0
put_rows A true = refl
put_rows A false = refl

add_rows : (A : Type 0) (b : Bool) → row_count {A = A} (if b then Exists else Added) ≡ 0
add_rows A true = refl
add_rows A false = refl

del_rows : (A : Type 0) (b : Bool) → row_count {A = A} (if b then Deleted else Missing) ≡ 0
del_rows A true = refl
del_rows A false = refl

few_of_one : {A : Type 0} (m : Pairs Bytes) (c : Command A) → row_count (reply_to m c) ≤ row_limit c
few_of_one {A = A} m (Get k) = (let none = found_rows A (value_at k m) in omega (arith, none))
few_of_one {A = A} m (Put k v) = (let none = put_rows A (is_some (value_at k m)) in omega (arith, none))
few_of_one {A = A} m (Add k v) = (let none = add_rows A (is_some (value_at k m)) in omega (arith, none))
few_of_one {A = A} m (Del k) = (let none = del_rows A (is_some (value_at k m)) in omega (arith, none))
few_of_one m (Scan lo hi limit) = (let e = length-take limit (in_range lo hi m) in omega (arith, e))
few_of_one m (Wipe lo hi) = omega arith

pub few_of_all : {A : Type 0} (m : Pairs Bytes) (cs : List (Command A)) → row_counts (replies_to m cs) ≤ most_rows cs
few_of_all m [] = omega arith
few_of_all m (c ∷ cs) = (let one = few_of_one m c in let rest = few_of_all (map_after m c) cs in omega (arith, one, rest))
