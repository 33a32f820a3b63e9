use Rattle.std.proofs.Common.{rules}
use Rattle.flush_log.proofs.ImageLemmas.{length-cut}
use Rattle.flush_log.proofs.image.Image.len.Goals as goal

pub returns : goal.returns
returns c = rw (← c.self.view_is, length-cut 0 c.self.inside.bytes.items c.self.inside.ends.items) (search rules)
