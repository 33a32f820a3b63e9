use Rattle.index_page.proofs.RuleLemmas.{decides-keeps_range, decides-fits_of_leaf, decides-fits_of_index, decides-is_headed}
use Rattle.index_page.proofs.laws.a_page_passes_a_test_where_the_fact_holds.Goals as goal

pub returns : goal.returns
returns g c = record {
  keys = decides-keeps_range;
  sizes_of_a_leaf = decides-fits_of_leaf;
  sizes_of_an_index_page = decides-fits_of_index;
  children = decides-is_headed;
}
