use Rattle.std.proofs.Common.{◌≡◌, ◌⊎◌, ℕ, List, [], map, subst, sym}
use Rattle.std.specs.String.{string_bytes}
use Rattle.bwsh.specs.Options.{AsksToExplain}
use Rattle.bwsh.proofs.EndLemmas.{all_follows, Appends-same}
use Rattle.bwsh.proofs.ErrorLemmas.{quiet_after, quiet_end, reported_after}
use Rattle.bwsh.proofs.session.session.Goals as goal

pub returns : goal.returns
returns g c =
    let words = map string_bytes c.args.words.now in
    let known = g.I.Read.remaining c.args.input.now in
    let old = g.O.Write.contents c.args.out.now in
    let new = g.O.Write.contents c.execute-done.new.out in
    let ends = c.execute-done.ensures.ends in
    let more = c.deref.result.now in
    let asked = subst (λ (m : List ℕ). AsksToExplain words ⊎ (m ≡ [])) (sym c.deref.ensures.value) c.execute-done.ensures.more in
    let follows = all_follows words known old new (c.execute-done.new.input ≡ c.args.input.now) (c.execute-done.new.out ≡ c.args.out.now) c.end.result c.execute-done.result c.end.ensures.status
    (Appends-same g.O.Write.contents c.args.out.now c.execute-done.new.out) ends in
    record {
      status = follows.status_is;
      refused = follows.refused;
      untouched = follows.untouched_is;
      done = follows.done;
      bad = follows.bad;
      beginning = follows.beginning;
      ends = (
        c.execute-done.result,
        c.end.ensures.status,
        ends,
        reported_after g.E.Write.contents words c.args.err.now c.execute-done.new.err c.end.new.err more c.execute-done.ensures.quiet asked c.execute-done.result c.end.ensures.reported,
      );
      quiet = λ zero.
          quiet_after g.E.Write.contents words c.args.err.now c.execute-done.new.err c.end.new.err more c.execute-done.ensures.quiet asked
          (quiet_end c.execute-done.result c.end.result _ c.end.ensures.status c.end.ensures.quiet zero) (quiet_end c.execute-done.result c.end.result _ c.end.ensures.status c.end.ensures.told zero);
    }
