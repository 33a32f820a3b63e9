use Rattle.std.proofs.Common.{◌≡◌, ◌+◌, ◌-◌, ◌/◌, arith}
use Rattle.std.proofs.lemmas.Result.{IfOk-at_ok}
use Rattle.std.specs.List.{range_with_len}
use Rattle.index_page.proofs.ListLemmas.{all-append}
use Rattle.routing.specs.BatchKeys.{key_at}
use Rattle.routing.specs.Keyed.{Keyed, places_of, AreKeyed}
use Rattle.routing.proofs.PlaceLemmas.{places_joined}
use Rattle.routing.proofs.sort.+keyed.Goals as goal

pub returns-clause-places : goal.returns-clause-places
returns-clause-places g t c =
    let low = c.args.count / 2 in
    let high = c.args.count - low in
    let mid = c.args.from + low in
    let first = IfOk-at_ok (λ keyed. places_of keyed.items ≡ range_with_len c.args.from low) c.in_ok-keyed.was c.join-low.ensures.first.0 in
    let second = IfOk-at_ok (λ keyed. places_of keyed.items ≡ range_with_len mid high) c.in_ok-rest.was c.join-low.ensures.second.0 in
    places_joined c.in_ok-keyed.keyed.items c.in_ok-rest.rest.items c.append.new.self.items c.args.from low high mid c.args.count c.in_ok-append.ensures.items first second (omega arith) (omega arith)

pub returns-clause-keys : goal.returns-clause-keys
returns-clause-keys g t c =
    let cs = c.args.batch.now in
    let first = IfOk-at_ok (λ keyed. AreKeyed cs keyed.items) c.in_ok-keyed.was c.join-low.ensures.first.1 in
    let second = IfOk-at_ok (λ keyed. AreKeyed cs keyed.items) c.in_ok-rest.was c.join-low.ensures.second.1 in
    rw c.in_ok-append.ensures.items (all-append (λ (entry : Keyed). entry.0 ≡ key_at cs entry.1) c.in_ok-keyed.keyed.items c.in_ok-rest.rest.items first second)
