use Rattle.frame_codec.proofs.VersionLemmas.{frame-known, read-known}
use Rattle.frame_codec.proofs.laws.version_two_knows_what_version_one_knows.Goals as goal

pub returns : goal.returns
returns c = record { frame = frame-known; read = read-known }
