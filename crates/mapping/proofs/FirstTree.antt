-- The tree of a new store is proper, and its log states are true.
use Rattle.std.specs.Prelude.{ℕ, List, []}
use Rattle.std.proofs.Common.{refl, arith}
use Rattle.std.specs.List.Sorted.{IsStrictlySortedBy}
use Rattle.keys.specs.Order.{IsRising}
use Rattle.keys.specs.declared.settings.Settings.{Settings}
use Rattle.mapping.specs.Tree.{first_tree}
use Rattle.mapping.specs.Proper.{AreLogsTrue, IsProper}

nothing_rises : IsRising {V = List ℕ} []
unfolding IsStrictlySortedBy
nothing_rises = tt

pub first_is_proper : (s : Settings) → IsProper s first_tree
first_is_proper s = record {
  tree = record { rising = (tt, tt); some = omega arith };
  held = record { leaves = (refl, tt); above = tt; no_other = (refl, tt) };
  levels = record {
    first = refl;
    tiled = (record { keys = record { rising = nothing_rises; from = tt; before = tt }; low = tt }, tt);
    stacked = refl;
    top = tt;
    distinct = (tt, tt);
  };
  fit = record { leaves = (record { base = omega arith; runs = tt; changes = tt; depth = omega arith }, tt); above = tt };
}

pub first_logs_are_true : AreLogsTrue first_tree
first_logs_are_true = record { rising = (tt, tt); each = (omega arith, tt) }
