use Rattle.std.proofs.Common.{◌≡◌, ◌∙◌, ap}
use Rattle.std.proofs.lemmas.Result.{IfOk-weaker}
use Rattle.clap.specs.Words.{app_of}
use Rattle.clap.specs.Simple.{app_of_fields}
use Rattle.bwsh.specs.CommandLine.{plain_bwsh, with_flags, with_settings, with_work}
use Rattle.bwsh.proofs.ClapLemmas.{unnamed}
use Rattle.bwsh.proofs.options.command.Goals as goal

pub returns : goal.returns
returns c =
    let plain : app_of c.no_binary_name-plain.result ≡ plain_bwsh = unnamed _ _ _ (ap app_of_fields c.no_binary_name-plain.ensures) (ap app_of_fields c.after_help.ensures ∙ ap app_of_fields c.about.ensures) c.new.ensures.app in
    let worked = c.in_ok-command.ensures ∙ ap with_work (c.in_ok-add_numbers.ensures ∙ ap with_settings plain) in
    IfOk-weaker c.add_flags.result _ _ (λ _ added. added ∙ ap with_flags worked) c.add_flags.ensures
