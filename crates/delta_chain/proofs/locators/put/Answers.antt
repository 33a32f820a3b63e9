use Rattle.delta_chain.proofs.Putting.{put_over}
use Rattle.delta_chain.proofs.locators.put.Goals as goal

pub returns-then-from-until-clause-items : goal.returns-then-from-until-clause-items
returns-then-from-until-clause-items g c = put_over c.args.locators.now.items c.args.from c.args.until c.args.locator c.if-from-until.true c.requires.order.1 c.requires.until
