use Rattle.page_runs.proofs.PageParts.{map_after-part, reply_to-part, rows-parts, counts-parts}
use Rattle.page_runs.proofs.laws.each_page_answers_its_part.Goals as goal

pub returns : goal.returns
returns g c = record {
  map = λ low end m c r. map_after-part low end m r c;
  reply = λ low end m c r. reply_to-part low end m r c;
  rows = rows-parts g.row.A.Denot;
  counts = counts-parts g.row.A.Denot;
}
