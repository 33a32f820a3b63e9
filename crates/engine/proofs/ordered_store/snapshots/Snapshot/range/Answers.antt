use Rattle.std.proofs.Common.{◌≡◌, ◌∙◌, ℕ, ◌-◌, ◌<◌, List, [], ◌∷◌, ◌++◌, map, length, length-append, true, sym, ap, arith, Bor}
use Rattle.std.proofs.lemmas.List.{map-append}
use Rattle.std.specs.Option.{option_copied}
use Rattle.keys.specs.Bytes.{Bytes, Pairs}
use Rattle.keys.specs.Range.{is_within, rows}
use Rattle.engine.proofs.SnapshotLemmas.{row-added}
use Rattle.engine.proofs.ordered_store.snapshots.Snapshot.range.Goals as goal

pub loop-row-preserved-then-is_within : goal.loop-row-preserved-then-is_within
loop-row-preserved-then-is_within c =
    let lo = c.args.lo.now in
    let hi = option_copied c.args.hi in
    let row = c.in-Some.row in
    let items = c.loop-row.found.items in
    let pushed = c.in_ok-push.ensures.items in
    let pair : Bor (List ℕ) × Bor (List ℕ) → Bytes × Bytes = λ row. (row.0.now, row.1.now) in
    let few : length items < c.args.limit = omega (arith, c.len.ensures, c.if-len-limit.true) in
    let within : is_within lo hi row.0.now ≡ true = sym c.is_within.ensures ∙ c.if-is_within.true in
    ap (λ (out : Pairs Bytes). out ++ rows lo hi (c.args.limit - length c.push.new.self.items) c.next.new.self) (ap (λ xs. map pair xs) pushed ∙ map-append pair items (row ∷ []))
    ∙ row-added lo hi c.args.limit (length items) (length c.push.new.self.items) (map pair items) _ row.0.now row.1.now c.next.new.self few
    (ap length pushed ∙ length-append items (row ∷ [])) within (rw c.in-Some.ensures.steps at c.loop-row.invariant)
