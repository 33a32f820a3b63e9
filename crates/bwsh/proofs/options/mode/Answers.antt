use Rattle.std.proofs.Common.{refl, codes}
use Rattle.bwsh.proofs.FoundLemmas.{field_read, ways_equal}
use Rattle.bwsh.proofs.options.mode.Goals as goal

pub returns : goal.returns
returns c = λ given all rows.
    ways_equal
    (c.flag_at.ensures refl given all rows)
    (c.flag_at-2.ensures refl given all rows)
    (c.flag_at-3.ensures refl given all rows)
    (c.flag_at-4.ensures refl given all rows)
    (c.flag_at-5.ensures refl given all rows)
    (field_read (codes "tidy") (codes "0") 0 given _ _ refl refl refl refl all rows c.number_at.ensures)
    (field_read (codes "wait") (codes "0") 0 given _ _ refl refl refl refl all rows c.number_at-2.ensures)
    (field_read (codes "max-rows") (codes "0") 0 given _ _ refl refl refl refl all rows c.number_at-3.ensures)
    (c.flag_at-6.ensures refl given all rows)
