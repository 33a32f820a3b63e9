use Rattle.std.proofs.lemmas.Result.{err_from_is_err_and}
use Rattle.engine.proofs.ordered_store.callers.put_twice_then_get.Goals as goal

pub returns-in_err-store : goal.returns-in_err-store
returns-in_err-store g c honest = rw (err_from_is_err_and c.from_residual.result c.from_residual.ensures.1).1 tt

pub returns-in_err-batch : goal.returns-in_err-batch
returns-in_err-batch g c honest = rw (err_from_is_err_and c.from_residual-in_err-batch.result c.from_residual-in_err-batch.ensures.1).1 tt

pub returns-in_err-flush : goal.returns-in_err-flush
returns-in_err-flush g c honest = rw (err_from_is_err_and c.from_residual-in_err-flush.result c.from_residual-in_err-flush.ensures.1).1 tt

pub returns-in_err-batch-2 : goal.returns-in_err-batch-2
returns-in_err-batch-2 g c honest = rw (err_from_is_err_and c.from_residual-in_err-batch-2.result c.from_residual-in_err-batch-2.ensures.1).1 tt

pub returns-in_err-left : goal.returns-in_err-left
returns-in_err-left g c honest = rw (err_from_is_err_and c.from_residual-in_err-left.result c.from_residual-in_err-left.ensures.1).1 tt

pub returns-in_err-again : goal.returns-in_err-again
returns-in_err-again g c honest = rw (err_from_is_err_and c.from_residual-in_err-again.result c.from_residual-in_err-again.ensures.1).1 tt

pub returns-in_err-replies : goal.returns-in_err-replies
returns-in_err-replies g c honest = rw (err_from_is_err_and c.from_residual-in_err-replies.result c.from_residual-in_err-replies.ensures.1).1 tt
