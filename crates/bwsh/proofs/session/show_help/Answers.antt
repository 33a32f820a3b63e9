use Rattle.bwsh.proofs.CopiedLemmas.{PrintsOneText-written}
use Rattle.bwsh.proofs.session.show_help.Goals as goal

pub returns : goal.returns
returns g c =
    let written = c.write_bytes-done.ensures in
    PrintsOneText-written _ _ _ _ _ _ written.ok written.err written.device c.flush.ensures.bytes c.flush.ensures.end
