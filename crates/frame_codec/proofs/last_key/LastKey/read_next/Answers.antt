use Rattle.std.proofs.Common.{refl}
use Rattle.frame_codec.proofs.ShareLemmas.{shared-within, sharing-refused}
use Rattle.frame_codec.proofs.last_key.LastKey.read_next.Goals as goal

pub returns-then-shared-rest : goal.returns-then-shared-rest
returns-then-shared-rest c =
    let reported = rw c.as_bytes.ensures at c.in_ok-stands.ensures in (
      sharing-refused c.args.settings.now c.args.self.now c.args.bytes.now c.in_ok-shared.shared c.in_ok-shared.bytes.now c.in_ok-rest.rest.now c.in_ok-rest.following.now
          c.in_ok-shared.ensures c.in_ok-rest.ensures.bytes reported.0 c.if-shared-rest.true,
      refl,
    )

pub go_on-requires-clause-shared : goal.go_on-requires-clause-shared
go_on-requires-clause-shared c =
    let reported = rw c.as_bytes.ensures at c.in_ok-stands.ensures in
    shared-within c.args.self.now c.in_ok-shared.shared c.in_ok-rest.rest.now reported.0
