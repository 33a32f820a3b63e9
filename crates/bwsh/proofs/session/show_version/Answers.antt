use Rattle.bwsh.specs.Session.{version_text}
use Rattle.bwsh.proofs.CopiedLemmas.{Prints-written}
use Rattle.bwsh.proofs.session.show_version.Goals as goal

pub returns : goal.returns
returns g c =
    let written = c.write_bytes-done.ensures in
    Prints-written _ _ _ version_text _ _ written.ok written.err written.device c.flush.ensures.bytes c.flush.ensures.end
