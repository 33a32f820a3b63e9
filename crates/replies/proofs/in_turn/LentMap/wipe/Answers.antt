use Rattle.std.proofs.Common.{◌∙◌, ap}
use Rattle.std.proofs.Common.{List, ℕ}
use Rattle.std.specs.declared.alloc.Global.{Global}
use Rattle.keys.specs.Step.{map_after_all}
use Rattle.replies.specs.InTurn.{dels_of}
use Rattle.replies.proofs.Points.{wiped_by_dels}
use Rattle.replies.proofs.in_turn.LentMap.wipe.Goals as goal

pub returns-clause-map : goal.returns-clause-map
returns-clause-map c =
    c.in_ok-remove_all.ensures.map
    ∙ ap (λ (ks : List (List ℕ)). map_after_all c.args.self.now (dels_of {A = Global} ks)) c.in_ok-keys.ensures.keys
    ∙ wiped_by_dels Global c.args.self.now c.args.lo.now c.args.hi.now c.in_ok-keys.ensures.rising
