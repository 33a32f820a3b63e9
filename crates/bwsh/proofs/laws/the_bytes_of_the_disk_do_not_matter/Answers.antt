use Rattle.bwsh.proofs.BytesLemmas.{lines-same, answered-same, accepted-same, end-same}
use Rattle.bwsh.proofs.laws.the_bytes_of_the_disk_do_not_matter.Goals as goal

pub returns : goal.returns
returns c settings st shown other alike orders only = record {
  lines = λ m. lines-same settings st shown other alike orders only m;
  output = λ on m. answered-same settings st shown other alike orders only on m;
  accepts = accepted-same settings st shown other alike orders only;
  end = λ on. end-same settings st shown other alike orders only on;
}
