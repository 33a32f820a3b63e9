use Rattle.bwsh.proofs.TokensReadBack.{token_bytes-shown_token, shown_token-printable, words_of-shown_token}
use Rattle.bwsh.proofs.laws.what_is_printed_is_read_back.Goals as goal

pub returns : goal.returns
returns c = record {
  bytes = token_bytes-shown_token;
  printable = shown_token-printable;
  one_word = words_of-shown_token;
}
