use Rattle.bwsh.proofs.ClapLemmas.{exact_matches, exact_kinds}
use Rattle.bwsh.proofs.options.parse.Goals as goal

pub returns : goal.returns
returns c =
    let parse = c.try_get_matches_from in
    record {
      ok = exact_matches _ _ parse.result c.in_ok-command.ensures parse.ensures.matches;
      err = exact_kinds _ _ parse.result c.in_ok-command.ensures parse.ensures.kinds;
    }
