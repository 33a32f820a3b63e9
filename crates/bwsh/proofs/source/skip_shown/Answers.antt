use Rattle.std.proofs.Common.{length-take-le, subst, sym}
use Rattle.std.specs.Io.BufRead.{FillKeeps}
use Rattle.bwsh.proofs.SourceLemmas.{IsSkipped-shown, line_len-within}
use Rattle.bwsh.proofs.source.skip_shown.Goals as goal

pub slice_bounds-skipped-end : goal.slice_bounds-skipped-end
slice_bounds-skipped-end g c =
    let shown = c.in-Ok.shown.now in
    let within = rw (← c.line_len-len.ensures) at (line_len-within shown) in
    sym (length-take-le c.line_len-len.result shown within)

pub returns : goal.returns
returns g c =
    let rested = c.fill_buf.follows.lender-at-none in
    let filled = subst (FillKeeps _ (g.I.Read.remaining rested) (g.I.BufRead.consumable_len rested)) c.in-Ok.is c.fill_buf.follows.holds-at-none in
    IsSkipped-shown (g.I.Read.remaining c.args.input.now) (g.I.Read.remaining rested) (g.I.Read.remaining c.consume.new.self) (g.I.BufRead.consumable_len rested) c.in-Ok.shown.now
    c.line_len-len.result c.last_byte-last.result c.line_len-len.ensures c.in-Ok.ensures.front c.in-Ok.ensures.end filled.0 filled.1 c.consume.ensures.bytes c.last_byte-last.ensures
