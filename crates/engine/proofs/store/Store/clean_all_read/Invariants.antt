use Rattle.std.proofs.Common.{◌≡◌, ◌<◌, ◌+◌, ◌-◌, false}
use Rattle.engine.specs.Cleans.{IsReadFor, IsCleanedOn}
use Rattle.engine.proofs.store.Store.clean_all_read.Given as goal

-- some cleans are done, and the reading has one more segment
abbrev pub invariant-each : goal.invariant-each
invariant-each g l = record {
  few : l.done < l.most;
  fine : l.self.has_failed ≡ false;
  read : IsReadFor g.D.Disk.view l.self l.reading;
  next : l.self.store.head < l.reading.limit;
  limit : l.reading.limit ≡ l.fn.reading.limit;
  head : l.self.store.head ≡ l.fn.self.store.head + l.done;
  same : l.done ≡ 0 → l.self.store ≡ l.fn.self.store;
  on : IsCleanedOn g.D.Disk.view g.D.Disk.failed l.fn.self l.done l.self;
}

abbrev pub decreases-each : goal.decreases-each
decreases-each g l = l.most - l.done
