use Rattle.flush_log.proofs.GatherLemmas.{begun_is}
use Rattle.flush_log.proofs.write.begin_segment.Goals as goal

pub returns-clause-same : goal.returns-clause-same
returns-clause-same c =
    begun_is c.args.segment c.put.new.buffer.items c.clear.new.self.items c.segment_header.result c.clear.ensures.items c.segment_header.ensures c.put.ensures.items
