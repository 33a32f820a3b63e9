-- The number of pairs, counted by the replies to commands.
use Rattle.std.specs.Prelude.{◌+◌, ◌-◌, ◌^◌, ℕ, min, List, [], ◌∷◌}
use Rattle.std.specs.declared.alloc.Global.{Global}
use Rattle.keys.specs.declared.command.Reply.{Reply}
use Rattle.keys.specs.declared.command.Reply.TheVariants.{New, Added, Deleted, Wiped}

-- the number of pairs after a command with this reply, as a number of 128 bits
abbrev pub pairs_after : ℕ → Reply Global → ℕ
pairs_after n New = min (n + 1) (2 ^ 128 - 1)
pairs_after n Added = min (n + 1) (2 ^ 128 - 1)
pairs_after n Deleted = n - 1
pairs_after n (Wiped count) = n - count
pairs_after n _ = n

-- the same after commands with these replies
abbrev pub pairs_after_all : ℕ → List (Reply Global) → ℕ
pairs_after_all n [] = n
pairs_after_all n (r ∷ rs) = pairs_after_all (pairs_after n r) rs
