use Rattle.std.proofs.Common.{◌≡◌, arith, refl}
use Rattle.frame_codec.specs.Frame.{Content}
use Rattle.frame_codec.specs.Skimmed.{kind_of}
use Rattle.frame_codec.proofs.FoundLemmas.{IsReadOf, bytes-fit, length-wrong}
use Rattle.frame_codec.proofs.SkimLemmas.{body-within, with_content, skim-none, skim-found, skim-reported, frame-taken}
use Rattle.frame_codec.proofs.skim.skim_frame.Goals as goal

pub returns-in_err-kind-clause-found : goal.returns-in_err-kind-clause-found
returns-in_err-kind-clause-found c =
    rw c.from_residual-in_err-kind.ensures (skim-none c.args.format.now c.args.bytes.now c.in_ok-number.number c.in_ok-number.len c.in_ok-number.pid c.in_ok-number.content.now
    (bytes-fit c.args.bytes.now c.type_inv.bytes) c.in_ok-number.ensures.header c.in_err-kind.ensures)

pub frame_size-requires-clause-following : goal.frame_size-requires-clause-following
frame_size-requires-clause-following c =
    let (content, is, kind) = c.in_ok-kind.ensures in
    let found = skim-found c.args.format.now c.args.bytes.now c.in_ok-number.number c.in_ok-number.len c.in_ok-number.pid c.in_ok-number.content.now
    (bytes-fit c.args.bytes.now c.type_inv.bytes) c.in_ok-number.ensures.header content c.in_ok-kind.rest.now is in
    let long = found.long in omega arith

pub frame_size-requires-clause-within : goal.frame_size-requires-clause-within
frame_size-requires-clause-within c =
    body-within c.args.format.now c.args.bytes.now c.in_ok-number.number c.in_ok-number.len c.in_ok-number.pid c.in_ok-number.content.now
    (bytes-fit c.args.bytes.now c.type_inv.bytes) c.in_ok-number.ensures.header

pub returns-in_err-size-clause-found : goal.returns-in_err-size-clause-found
returns-in_err-size-clause-found c =
    let (content, is, kind) = c.in_ok-kind.ensures in
    let bytes = bytes-fit c.args.bytes.now c.type_inv.bytes in
    let found = skim-found c.args.format.now c.args.bytes.now c.in_ok-number.number c.in_ok-number.len c.in_ok-number.pid c.in_ok-number.content.now
    bytes c.in_ok-number.ensures.header content c.in_ok-kind.rest.now is in
    rw c.from_residual-in_err-size.ensures (length-wrong c.args.format.now c.args.bytes.now c.in_ok-number.number c.in_ok-number.len c.in_ok-number.pid c.in_ok-number.content.now
    bytes c.in_ok-number.ensures.header (with_content c.in_ok-number.pid content) c.in_ok-kind.rest.now found c.in_err-size.ensures)

read : (c : goal.In_ok-size) → (content : Content) × IsReadOf c.args.format.now c.args.bytes.now (with_content c.in_ok-number.pid content) c.in_ok-size.size × (kind_of content ≡ c.in_ok-kind.kind)
read c =
    let (content, is, kind) = c.in_ok-kind.ensures in (
      content,
      skim-reported c.args.format.now c.args.bytes.now c.in_ok-number.number c.in_ok-number.len c.in_ok-number.pid c.in_ok-number.content.now
          (bytes-fit c.args.bytes.now c.type_inv.bytes) c.in_ok-number.ensures.header content c.in_ok-kind.rest.now is c.in_ok-size.size c.in_ok-size.ensures c.in_ok-number.ensures.word,
      kind,
    )

pub returns-clause-found : goal.returns-clause-found
returns-clause-found c =
    let (content, is, kind) = read c in
    let frame = with_content c.in_ok-number.pid content in
    (frame, is.found, (refl, kind), frame-taken c.args.format.now c.args.bytes.now frame c.in_ok-size.size (bytes-fit c.args.bytes.now c.type_inv.bytes) is)

pub returns-clause-within : goal.returns-clause-within
returns-clause-within c = let (content, is, kind) = read c in is.within
