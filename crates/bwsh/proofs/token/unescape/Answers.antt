use Rattle.std.proofs.Common.{◌≡◌, Some, refl, ap, sym, ◌∙◌}
use Rattle.bwsh.proofs.TokenLemmas.{with_front_nothing, token_bytes-unescaped}
use Rattle.bwsh.proofs.TokensReadBack.{unescaped-plain}
use Rattle.bwsh.proofs.token.unescape.Goals as goal

pub returns-then-are_plain : goal.returns-then-are_plain
returns-then-are_plain c =
    let text = c.args.token.now in
    let whole : c.extend_from_slice.new.self.items ≡ text = rw c.clear.ensures.items at c.in_ok-extend_from_slice.ensures.items in
    ap Some whole ∙ sym (unescaped-plain text (sym c.are_plain.ensures ∙ c.if-are_plain.true))
    ∙ sym (token_bytes-unescaped text (rw c.as_slice.ensures at (sym c.eq.ensures ∙ c.if-eq.false)) (sym c.is_empty.ensures ∙ c.if-is_empty.false))

pub returns : goal.returns
returns c =
    rw (token_bytes-unescaped c.args.token.now (rw c.as_slice.ensures at (sym c.eq.ensures ∙ c.if-eq.false)) (sym c.is_empty.ensures ∙ c.if-is_empty.false))
    (rw (c.clear.ensures.items, with_front_nothing) at c.push_unescaped.ensures)

pub returns-then-eq : goal.returns-then-eq
returns-then-eq c =
    let same = rw c.as_slice.ensures at (sym c.eq.ensures ∙ c.if-eq.true) in
    rw (same, c.clear.ensures.items) refl

pub returns-then-is_empty : goal.returns-then-is_empty
returns-then-is_empty c =
    let no_percent = rw c.as_slice.ensures at (sym c.eq.ensures ∙ c.if-eq.false) in
    let empty = sym c.is_empty.ensures ∙ c.if-is_empty.true in
    rw (no_percent, empty) refl
