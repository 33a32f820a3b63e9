use Rattle.mapping.proofs.KnownPids.{rising-in_use_or_old, among-in_use_or_old}
use Rattle.mapping.proofs.laws.a_table_knows_the_pids_in_use_and_the_old_ones.Goals as goal

pub returns : goal.returns
returns g c = record {
  rising = rising-in_use_or_old;
  among = among-in_use_or_old;
}
