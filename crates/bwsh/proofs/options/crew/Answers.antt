use Rattle.std.proofs.Common.{refl, codes}
use Rattle.bwsh.proofs.FoundLemmas.{field_read, crews_equal}
use Rattle.bwsh.proofs.options.crew.Goals as goal

pub returns : goal.returns
returns c = λ given all rows.
    crews_equal
    (field_read (codes "workers") (codes "1") 1 given _ _ refl refl refl refl all rows c.number_at.ensures)
    (field_read (codes "grain") (codes "64") 64 given _ _ refl refl refl refl all rows c.number_at-2.ensures)
