use Rattle.std.proofs.Common.{sym, ◌∙◌}
use Rattle.delta_chain.proofs.Setting.{value_at-found}
use Rattle.delta_chain.proofs.base.Base.get.Goals as goal

pub returns-in-Some : goal.returns-in-Some
returns-in-Some g c = sym (value_at-found c.args.self.now c.in-Some.at c.args.key.now c.len-rising.ensures.rising c.in-Some.ensures.place ∙ c.cell.ensures)
