use Rattle.std.proofs.Common.{◌≡◌, ◌+◌, [], ◌∷◌, arith, refl, sym, ap, ◌∙◌, add-one}
use Rattle.std.proofs.lemmas.List.{map-append}
use Rattle.std.specs.List.{range_with_len}
use Rattle.index_page.proofs.ListLemmas.{all-append}
use Rattle.routing.specs.BatchKeys.{key_at}
use Rattle.routing.specs.Keyed.{Keyed}
use Rattle.routing.proofs.PlaceLemmas.{range_push}
use Rattle.routing.proofs.sort.keyed_in_turn.Goals as goal

pub loop-at-preserved : goal.loop-at-preserved
loop-at-preserved c =
    let old = c.loop-at.keyed.items in
    let at = c.loop-at.at in
    let next = c.args.from + at in
    let place = λ (entry : Keyed). entry.1 in
    let IsKeyed = λ (entry : Keyed). entry.0 ≡ key_at c.args.batch.now entry.1 in
    let new : Keyed = (c.new.result, next) in
    rw c.in_ok-push.ensures.items (record {
      places = map-append place old (new ∷ []) ∙ rw (c.loop-at.invariant.places, add-one) (sym (range_push c.args.from at next refl));
      keys = all-append IsKeyed old (new ∷ []) c.loop-at.invariant.keys (c.new.ensures ∙ c.key_at.ensures, tt);
    })

pub returns-clause-places : goal.returns-clause-places
returns-clause-places c =
    let all : c.loop-at.at ≡ c.args.count = omega arith in
    c.loop-at.invariant.places ∙ ap (λ n. range_with_len c.args.from n) all
