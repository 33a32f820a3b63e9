use Rattle.std.proofs.Common.{◌≡◌, ◌∙◌, rules, ◌∷◌, [], ◌++◌, ap}
use Rattle.std.specs.Option.{option_copied}
use Rattle.keys.specs.declared.command.Command.TheVariants.{Del}
use Rattle.engine.proofs.NeutralLemmas.{neutral_after_put, neutral_after_put_del}
use Rattle.engine.proofs.store.tidy.push_neutral.Goals as goal

pub returns-in_ok-push_put-in-Some : goal.returns-in_ok-push_put-in-Some
returns-in_ok-push_put-in-Some c = λ m rises here neutral.
    neutral_after_put m c.args.key.now c.in-Some.bytes.now c.args.commands.now.items c.push_put.new.puts.items rises (here ∙ ap option_copied c.in-Some.is) neutral c.in_ok-push_put-in-Some.ensures

pub returns-in_ok-push-in-None : goal.returns-in_ok-push-in-None
returns-in_ok-push-in-None c = λ m rises here neutral.
    let deleted : c.push.new.self.items ≡ c.push_put-in-None.new.puts.items ++ Del c.args.key.now ∷ [] = search rules in
    neutral_after_put_del m c.args.key.now [] c.args.commands.now.items c.push_put-in-None.new.puts.items c.push.new.self.items rises (here ∙ ap option_copied c.in-None.is) neutral c.in_ok-push_put-in-None.ensures deleted
