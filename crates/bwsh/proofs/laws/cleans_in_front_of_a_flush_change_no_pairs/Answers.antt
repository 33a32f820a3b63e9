use Rattle.bwsh.proofs.RowLemmas.{bare, rows_few, rows_head}
use Rattle.bwsh.proofs.RunLemmas.{none_in_front}
use Rattle.bwsh.proofs.TidiedLemmas.{holds-cleaned}
use Rattle.bwsh.proofs.laws.cleans_in_front_of_a_flush_change_no_pairs.Goals as goal

pub returns : goal.returns
returns c = record {
  holds = holds-cleaned;
  heads = λ honest may_be_cut settings st left rows now last are.
      (rows_head honest may_be_cut settings st left rows now last are, rows_few honest may_be_cut settings st left rows now last are);
  none = λ honest cleans settings st order plain seen are.
      (let none = bare honest cleans settings st order plain seen are in (none, none_in_front st seen order none));
}
