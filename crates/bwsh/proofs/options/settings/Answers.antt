use Rattle.std.proofs.Common.{refl, codes}
use Rattle.bwsh.proofs.FoundLemmas.{field_read, settings_equal}
use Rattle.bwsh.proofs.options.settings.Goals as goal

pub returns : goal.returns
returns c = λ given all rows.
    settings_equal
    (field_read (codes "fan") (codes "16") 16 given _ _ refl refl refl refl all rows c.number_at.ensures)
    (field_read (codes "chain") (codes "4") 4 given _ _ refl refl refl refl all rows c.number_at-2.ensures)
    (field_read (codes "max-key") (codes "64") 64 given _ _ refl refl refl refl all rows c.number_at-3.ensures)
    (field_read (codes "max-value") (codes "256") 256 given _ _ refl refl refl refl all rows c.number_at-4.ensures)
    (field_read (codes "seg-size") (codes "65536") 65536 given _ _ refl refl refl refl all rows c.number_at-5.ensures)
    (field_read (codes "segments") (codes "64") 64 given _ _ refl refl refl refl all rows c.number_at-6.ensures)
