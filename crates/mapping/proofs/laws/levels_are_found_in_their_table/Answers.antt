use Rattle.mapping.specs.Levels.{all_pages}
use Rattle.mapping.proofs.LevelLemmas.{levels_of_tree}
use Rattle.mapping.proofs.TableLemmas.{rising-by_pid, by_pid-holds}
use Rattle.mapping.proofs.TableOfLevels.{by_pid-unique}
use Rattle.mapping.proofs.laws.levels_are_found_in_their_table.Goals as goal

pub returns : goal.returns
returns c = record {
  holds = by_pid-holds;
  rising = λ l. rising-by_pid (all_pages l);
  only = by_pid-unique;
  found = levels_of_tree;
}
