use Rattle.std.proofs.Common.{◌∙◌, Some, rules}
use Rattle.std.specs.Fmt.InlineText.{inline_text, IsIntact}
use Rattle.bwsh.specs.Shown.{number_line}
use Rattle.bwsh.proofs.ErrorLemmas.{line_made}
use Rattle.bwsh.proofs.ShowLemmas.{Puts-as}
use Rattle.bwsh.proofs.output.Buffer.put_numbers.Goals as goal

pub returns : goal.returns
returns g c =
    let text = number_line c.args.line in
    let bytes = c.as_bytes.result.now in
    let is = line_made inline_text IsIntact c.new-text.result c.write.new.self c.write.result (Some text) bytes c.new-text.ensures.text c.new-text.ensures.intact
    c.write.ensures.writes (search rules) (c.as_bytes.ensures.value ∙ c.as_str.ensures.value) in
    Puts-as g.O.Write.contents c.args.self.now c.args.out.now c.put.new.self c.put.new.out bytes text c.put.result is c.put.ensures
