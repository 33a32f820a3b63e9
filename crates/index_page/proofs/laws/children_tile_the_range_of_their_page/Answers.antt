use Rattle.index_page.proofs.ChildLemmas.{pids-children, lows-children, one_child, no_child}
use Rattle.index_page.proofs.laws.children_tile_the_range_of_their_page.Goals as goal

pub returns : goal.returns
returns c = record {
  pids = pids-children;
  lows = lows-children;
  one = one_child;
  none = no_child;
}
