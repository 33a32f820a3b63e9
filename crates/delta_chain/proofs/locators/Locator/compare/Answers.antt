use Rattle.keys.proofs.WordLemmas.{less_by_words, greater_by_words}
use Rattle.delta_chain.specs.Located.{keys_of_runs, key_at}
use Rattle.delta_chain.proofs.locators.Locator.compare.Goals as goal

pub returns-then-self-word : goal.returns-then-self-word
returns-then-self-word g c =
    less_by_words c.args.self.word c.word.result (key_at (keys_of_runs c.args.runs.now) c.args.self) c.args.key.now c.requires.word (c.word.ensures.word, c.word.ensures.bytes) c.if-self-word.true

pub returns-then-self-word-2 : goal.returns-then-self-word-2
returns-then-self-word-2 g c =
    greater_by_words c.args.self.word c.word-2.result (key_at (keys_of_runs c.args.runs.now) c.args.self) c.args.key.now c.requires.word (c.word-2.ensures.word, c.word-2.ensures.bytes) c.if-self-word-2.true
