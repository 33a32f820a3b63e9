use Rattle.std.proofs.Common.{arith}
use Rattle.frame_codec.specs.Shown.{frame_of}
use Rattle.frame_codec.proofs.FoundLemmas.{IsReadOf, bytes-fit, header-none, content-none, content-found, length-wrong, frame-answered}
use Rattle.frame_codec.proofs.SkimLemmas.{body-within}
use Rattle.frame_codec.proofs.read.read_frame.Goals as goal

pub returns-in_default-clause-found : goal.returns-in_default-clause-found
returns-in_default-clause-found c = header-none c.args.format.now c.args.bytes.now c.in_default.ensures.header

pub returns-in_default-2-clause-found : goal.returns-in_default-2-clause-found
returns-in_default-2-clause-found c =
    content-none c.args.format.now c.args.bytes.now c.in-Some.kind c.in-Some.len c.in-Some.pid c.in-Some.content.now
    (bytes-fit c.args.bytes.now c.type_inv.bytes) c.in-Some.ensures.header (rw c.in_default-2.is at c.in_ok-frame.ensures)

pub frame_size-requires-clause-following : goal.frame_size-requires-clause-following
frame_size-requires-clause-following c =
    let found = content-found c.args.format.now c.args.bytes.now c.in-Some.kind c.in-Some.len c.in-Some.pid c.in-Some.content.now
    (bytes-fit c.args.bytes.now c.type_inv.bytes) c.in-Some.ensures.header
    (frame_of c.in-Some-2.frame) c.in-Some-2.rest.now (rw c.in-Some-2.is at c.in_ok-frame.ensures) in
    let long = found.long in
    omega arith

pub frame_size-requires-clause-within : goal.frame_size-requires-clause-within
frame_size-requires-clause-within c =
    body-within c.args.format.now c.args.bytes.now c.in-Some.kind c.in-Some.len c.in-Some.pid c.in-Some.content.now
    (bytes-fit c.args.bytes.now c.type_inv.bytes) c.in-Some.ensures.header

pub returns-in_default-frame_size-clause-found : goal.returns-in_default-frame_size-clause-found
returns-in_default-frame_size-clause-found c =
    let bytes = bytes-fit c.args.bytes.now c.type_inv.bytes in
    let found = content-found c.args.format.now c.args.bytes.now c.in-Some.kind c.in-Some.len c.in-Some.pid c.in-Some.content.now
    bytes c.in-Some.ensures.header (frame_of c.in-Some-2.frame) c.in-Some-2.rest.now (rw c.in-Some-2.is at c.in_ok-frame.ensures) in
    length-wrong c.args.format.now c.args.bytes.now c.in-Some.kind c.in-Some.len c.in-Some.pid c.in-Some.content.now
    bytes c.in-Some.ensures.header (frame_of c.in-Some-2.frame) c.in-Some-2.rest.now found (rw c.in_default-frame_size.is at c.frame_size.ensures)

read : (c : goal.In-Some-frame_size) → IsReadOf c.args.format.now c.args.bytes.now (frame_of c.in-Some-2.frame) c.in-Some-frame_size.size
read c =
    rw c.in-Some-frame_size.ensures.1 (frame-answered c.args.format.now c.args.bytes.now c.in-Some.kind c.in-Some.len c.in-Some.pid c.in-Some.content.now
    (bytes-fit c.args.bytes.now c.type_inv.bytes) c.in-Some.ensures.header
    (frame_of c.in-Some-2.frame) c.in-Some-2.rest.now (rw c.in-Some-2.is at c.in_ok-frame.ensures) c.in-Some-frame_size.ensures.0 c.in-Some.ensures.word).0

pub returns-clause-found : goal.returns-clause-found
returns-clause-found c = (read c).found

pub returns-clause-size : goal.returns-clause-size
returns-clause-size c = (read c).size

pub returns-clause-within : goal.returns-clause-within
returns-clause-within c = (read c).within
