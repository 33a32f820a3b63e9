use Rattle.std.proofs.Common.{◌≡◌, ◌∙◌, ℕ, List, ap, map, drop}
use Rattle.std.specs.String.{string_bytes}
use Rattle.bwsh.specs.Session.{IsQuiet}
use Rattle.bwsh.proofs.ErrorLemmas.{request_at}
use Rattle.bwsh.proofs.ErrorLemmas.{at_words}
use Rattle.bwsh.proofs.program.run_words.Goals as goal

pub returns-in-Ok-clause-read : goal.returns-in-Ok-clause-read
returns-in-Ok-clause-read g c =
    request_at c.args.words c.in-Ok.words (λ all. map string_bytes (drop 1 all.items)) (map string_bytes c.words_after_name.result.now) (g.I.Read.remaining c.args.input.now)
    (g.O.Write.contents c.args.out.now) (g.O.Write.contents c.session.new.out) (g.E.Write.contents c.args.err.now) (g.E.Write.contents c.session.new.err)
    (c.session.new.input ≡ c.args.input.now) (c.session.new.out ≡ c.args.out.now) c.session.result c.in-Ok.is
    (ap (map string_bytes) (c.words_after_name.ensures ∙ ap (drop 1) c.deref.ensures.value)) c.session.ensures.ends

pub returns-in-Ok-clause-quiet : goal.returns-in-Ok-clause-quiet
returns-in-Ok-clause-quiet g c =
    at_words c.args.words c.in-Ok.words (λ all. map string_bytes (drop 1 all.items)) (map string_bytes c.words_after_name.result.now)
    (λ (words : List (List ℕ)). c.session.result ≡ 0 → IsQuiet g.E.Write.contents words c.args.err.now c.session.new.err) c.in-Ok.is
    (ap (map string_bytes) (c.words_after_name.ensures ∙ ap (drop 1) c.deref.ensures.value)) c.session.ensures.quiet
