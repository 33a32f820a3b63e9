use Rattle.std.proofs.Common.{ℕ, List, Option, ap, sym, ◌∙◌}
use Rattle.bwsh.specs.Token.{with_front}
use Rattle.bwsh.proofs.TokenLemmas.{with_front_more}
use Rattle.bwsh.proofs.token.push_unescaped.Goals as goal

pub loop-rest-preserved : goal.loop-rest-preserved
loop-rest-preserved c =
    rw c.in_ok-push.ensures.items (with_front_more c.loop-rest.bytes.items c.in-Some.byte _ ∙ ap (λ (bs : Option (List ℕ)). with_front c.loop-rest.bytes.items bs) (sym c.in-Some.ensures.value) ∙ c.loop-rest.invariant)
