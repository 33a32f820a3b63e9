use Rattle.bwsh.proofs.BytesLemmas.{lines-left, answered-left, accepted-left, end-left, some_left}
use Rattle.bwsh.proofs.laws.what_was_left_decides_the_answers.Goals as goal

pub returns : goal.returns
returns c = record {
  alike = λ settings st file shown other alike orders p q.
      (record {
        lines = λ m. lines-left settings st shown other alike file orders p q m;
        output = λ on m. answered-left settings st shown other alike file orders p q on m;
        accepts = accepted-left settings st shown other alike file orders p q;
        end = λ on. end-left settings st shown other alike file orders p q on;
      });
  some = some_left;
}
