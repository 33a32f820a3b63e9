use Rattle.mapping.proofs.TileLemmas.{range-names, one_page, no_page, page_for, value_at-joined}
use Rattle.mapping.proofs.laws.each_key_of_a_level_is_in_one_page.Goals as goal

pub returns : goal.returns
returns g c = record {
  range = range-names;
  one = one_page;
  none = no_page;
  found = page_for;
  held = value_at-joined;
}
