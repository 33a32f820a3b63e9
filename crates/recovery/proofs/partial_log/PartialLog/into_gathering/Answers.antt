use Rattle.recovery.proofs.SoFarLemmas.{found-none, fault-some}
use Rattle.recovery.proofs.partial_log.PartialLog.into_gathering.Goals as goal

pub returns-in-Some : goal.returns-in-Some
returns-in-Some c w state h = fault-some w c.args.self.gathering c.args.self.fault state c.in-Some.fault c.in-Some.is h

pub returns-in-None : goal.returns-in-None
returns-in-None c w state h = found-none w c.args.self.gathering c.args.self.fault state c.in-None.is h
