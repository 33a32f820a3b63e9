use Rattle.std.proofs.Common.{◌≡◌, ◌++◌, drop, map}
use Rattle.delta_chain.specs.Lent.{pairs_lent}
use Rattle.split_plan.specs.Pieces.{pages_lent, joined_pages}
use Rattle.split_plan.proofs.cutting.joined.Given as goal

-- the entries so far, and those of the members from the place on, are all of them
abbrev pub invariant-loop-member : goal.invariant-loop-member
invariant-loop-member g l =
    pairs_lent l.entries.items ++ joined_pages (map g.V.Kind.taken (pages_lent (drop l.member-index l.members))) ≡ joined_pages (map g.V.Kind.taken (pages_lent l.members))
