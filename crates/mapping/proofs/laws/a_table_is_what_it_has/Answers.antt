use Rattle.mapping.proofs.SameTable.{same_table, same_logged}
use Rattle.mapping.proofs.laws.a_table_is_what_it_has.Goals as goal

pub returns : goal.returns
returns g c = record {
  listed = same_table;
  logged = same_logged;
}
