use Rattle.std.proofs.Common.{[], ◌∷◌, rules}
use Rattle.std.specs.Prelude.{codes}
use Rattle.std.specs.Fmt.{decimal}
use Rattle.std.proofs.lemmas.Grind.{put_two}
use Rattle.bwsh.proofs.ShowLemmas.{six_joined}
use Rattle.bwsh.proofs.show.write_settings.Goals as goal

pub returns : goal.returns
returns g c = λ plain ok.
    let s = c.args.settings.now in
    let first = c.in_ok-write.ensures.writes plain (search rules) in
    put_two g.W.Write.write_str_gives _ _ _ _ _ _ first (c.writeln.ensures.writes first.plain ok)
    (six_joined (codes "settings fan ") (decimal s.fan) (codes " chain ") (decimal s.chain) (codes " max-key ") (decimal s.max_key) (codes " max-value ") (decimal s.max_value)
    (codes " seg-size ") (decimal s.seg_size) (codes " segments ") (decimal s.segments) (10 ∷ []))
