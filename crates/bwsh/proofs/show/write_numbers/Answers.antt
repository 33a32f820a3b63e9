use Rattle.std.proofs.Common.{[], ◌∷◌, rules}
use Rattle.std.specs.Prelude.{codes}
use Rattle.std.specs.Fmt.{decimal}
use Rattle.std.proofs.lemmas.Grind.{put_two}
use Rattle.bwsh.proofs.ShowLemmas.{seven_joined}
use Rattle.bwsh.proofs.show.write_numbers.Goals as goal

pub returns : goal.returns
returns g c = λ plain ok.
    let n = c.args.numbers.now in
    let first = c.in_ok-write.ensures.writes plain (search rules) in
    put_two g.W.Write.write_str_gives _ _ _ _ _ _ first (c.writeln.ensures.writes first.plain ok)
    (seven_joined (codes "stat sequence ") (decimal n.sequence) (codes " head ") (decimal n.head) (codes " tail ") (decimal n.tail) (codes " segments ") (decimal n.in_use)
    (codes " of ") (decimal n.segments) (codes " pages ") (decimal n.pages) (codes " pairs ") (decimal n.pairs) (10 ∷ []))
