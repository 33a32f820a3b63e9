use Rattle.routing.proofs.RunLemmas.{runs-in_order, runs-some, runs-once}
use Rattle.routing.proofs.laws.each_command_is_in_the_runs_of_its_pages.Goals as goal

pub returns : goal.returns
returns g c = record {
  order = λ level cs rs a. runs-in_order cs a;
  some = λ level cs rs place a f t l. runs-some cs level rs place a f t l;
  once = λ level cs rs place a f t l p. runs-once cs level rs place a f t l p;
}
