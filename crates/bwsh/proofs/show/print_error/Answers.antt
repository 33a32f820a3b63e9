use Rattle.std.proofs.Common.{rules, ◌∙◌}
use Rattle.std.specs.Fmt.InlineText.{inline_text, IsIntact}
use Rattle.bwsh.specs.Session.{error_text}
use Rattle.bwsh.proofs.ErrorLemmas.{line_made, line_ok, line_err}
use Rattle.bwsh.proofs.show.print_error.Goals as goal

pub returns : goal.returns
returns g c =
    let known = error_text c.args.error.now in
    let bytes = c.as_bytes.result.now in
    let line = line_made inline_text IsIntact c.new-line.result c.write.new.self c.write.result known bytes c.new-line.ensures.text c.new-line.ensures.intact
    c.write.ensures.writes (search rules) (c.as_bytes.ensures.value ∙ c.as_str.ensures.value) in
    record {
      ok = line_ok known bytes c.write_bytes.result _ _ line c.write_bytes.ensures.ok;
      err = line_err known bytes c.write_bytes.result _ _ line c.write_bytes.ensures.err;
      device = c.write_bytes.ensures.device;
    }
