use Rattle.std.proofs.Common.{◌≡◌, map, refl}
use Rattle.std.specs.String.{string_bytes}
use Rattle.clap.specs.Words.{kind_of}
use Rattle.bwsh.specs.Options.{request_of}
use Rattle.bwsh.proofs.EndLemmas.{EndsBy-request, EndsBy-words}
use Rattle.bwsh.proofs.ErrorLemmas.{more_if_asked, reports_if_asked}
use Rattle.bwsh.proofs.session.execute.Goals as goal

pub returns-in-Ok-clause-ends : goal.returns-in-Ok-clause-ends
returns-in-Ok-clause-ends g c =
    EndsBy-request (map string_bytes c.args.words.now) _ _ _ (c.execute_options.new.input ≡ c.args.input.now) (c.execute_options.new.out ≡ c.args.out.now) c.execute_options.result
    (request_of c.in-Ok.request) c.in-Ok.ensures.ok c.execute_options.ensures.version c.execute_options.ensures.answers

pub returns-in-Ok-clause-more : goal.returns-in-Ok-clause-more
returns-in-Ok-clause-more g c = more_if_asked (map string_bytes c.args.words.now) (request_of c.in-Ok.request) c.execute_options.new.more.items c.in-Ok.ensures.ok c.execute_options.ensures.more

pub returns-in-Ok-clause-quiet : goal.returns-in-Ok-clause-quiet
returns-in-Ok-clause-quiet g c = reports_if_asked (map string_bytes c.args.words.now) (request_of c.in-Ok.request) c.args.err.now c.execute_options.new.err c.in-Ok.ensures.ok c.execute_options.ensures.quiet

pub returns-in-Err-clause-ends : goal.returns-in-Err-clause-ends
returns-in-Err-clause-ends g c =
    let answered = c.answer_words.ensures in
    EndsBy-words (map string_bytes c.args.words.now) _ _ _ (c.args.input.now ≡ c.args.input.now) (c.answer_words.new.out ≡ c.args.out.now) c.answer_words.result (kind_of c.in-Err.error)
    c.in-Err.ensures.err answered.help answered.memory answered.refused refl
