use Rattle.std.proofs.Common.{inl, inr, map, drop}
use Rattle.std.specs.String.{string_bytes}
use Rattle.bwsh.proofs.ErrorLemmas.{of_either}
use Rattle.bwsh.proofs.ErrorLemmas.{both_ok}
use Rattle.bwsh.proofs.program.run_program.Goals as goal

pub returns : goal.returns
returns g c = record {
  ends =
      of_either c.all_words.result _ _ _ (λ all p. inl (map string_bytes (drop 1 all.items), p.0, p.1)) (λ error p. inr (p.0, p.2, p.3))
      (both_ok c.all_words.result _ _ c.run_words.ensures.read c.run_words.ensures.quiet) c.run_words.ensures.unread;
}
