use Rattle.std.proofs.Common.{length-take-le, subst, sym}
use Rattle.std.specs.Io.BufRead.{FillKeeps}
use Rattle.bwsh.proofs.SourceLemmas.{IsPushed-shown, extended_by, line_len-within}
use Rattle.bwsh.proofs.source.push_shown.Goals as goal

pub slice_bounds-part-end : goal.slice_bounds-part-end
slice_bounds-part-end g c =
    let shown = c.in-Ok.shown.now in
    let within = rw (← c.line_len-len.ensures) at (line_len-within shown) in
    sym (length-take-le c.line_len-len.result shown within)

pub returns : goal.returns
returns g c =
    let rested = c.fill_buf.follows.lender-at-none in
    let filled = subst (FillKeeps _ (g.I.Read.remaining rested) (g.I.BufRead.consumable_len rested)) c.in-Ok.is c.fill_buf.follows.holds-at-none in
    let old = c.args.text.now.items in
    let new = c.extend_from_slice.new.self.items in
    let extended = extended_by c.extend_from_slice.result c.is_err.result old _ new c.is_err.ensures.value c.if-is_err.false c.extend_from_slice.ensures.items in
    IsPushed-shown (g.I.Read.remaining c.args.input.now) (g.I.Read.remaining rested) (g.I.Read.remaining c.consume.new.self) (g.I.BufRead.consumable_len rested) c.in-Ok.shown.now
    old new c.line_len-len.result c.last_byte-last.result extended c.line_len-len.ensures c.in-Ok.ensures.front c.in-Ok.ensures.end filled.0 filled.1 c.consume.ensures.bytes c.last_byte-last.ensures
