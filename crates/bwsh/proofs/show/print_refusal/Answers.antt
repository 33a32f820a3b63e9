use Rattle.std.proofs.Common.{◌∙◌, Some, rules}
use Rattle.std.specs.Fmt.InlineText.{inline_text, IsIntact}
use Rattle.bwsh.specs.Session.{fault_line}
use Rattle.bwsh.proofs.ErrorLemmas.{line_made}
use Rattle.bwsh.proofs.ShowLemmas.{Writes-one}
use Rattle.bwsh.proofs.show.print_refusal.Goals as goal

pub returns : goal.returns
returns g c =
    let told = c.as_str.result.now in
    let text = fault_line told in
    let bytes = c.as_bytes.result.now in
    let is = line_made inline_text IsIntact c.new-line.result c.writeln.new.self c.writeln.result (Some text) bytes c.new-line.ensures.text c.new-line.ensures.intact
    c.writeln.ensures.writes (search rules) (c.as_bytes.ensures.value ∙ c.as_str-2.ensures.value) in
    (told, Writes-one _ _ text bytes _ is c.write_bytes.ensures.ok c.write_bytes.ensures.err c.write_bytes.ensures.device)
