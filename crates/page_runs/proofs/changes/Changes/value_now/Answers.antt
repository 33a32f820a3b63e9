use Rattle.std.proofs.Common.{◌≡◌, ◌∙◌, sym, arith}
use Rattle.keys.specs.OrderedMap.{value_at}
use Rattle.delta_chain.specs.Layers.{holds}
use Rattle.page_runs.specs.Replay.{map_by_now}
use Rattle.page_runs.proofs.Overlays.{named_now, unnamed_now, unnamed_without}
use Rattle.page_runs.proofs.changes.Changes.value_now.Goals.{in-Few+else-len-gt0, in-Few+then-len-gt0+in_default, in-Many+in_default-get}
use Rattle.page_runs.proofs.changes.Changes.value_now.Goals as goal

pub returns-in-Some : goal.returns-in-Some
returns-in-Some c =
    let said = sym (c.in-Some.ensures.change ∙ c.change.ensures) in
    rw (← c.self.view_is, c.in-Few.is) (rw c.as_bytes.ensures at (named_now c.args.page.now c.in-Few.run' _ _ c.requires c.len.ensures.rising said))

pub returns-in-Some-get : goal.returns-in-Some-get
returns-in-Some-get c =
    c.as_ref.ensures.value
    ∙ rw (← c.self.view_is, c.in-Many.is) (named_now c.args.page.now c.in-Many.map.entries c.args.key.now c.in-Some-get.change.now c.requires c.len-rising.ensures.ordered c.in-Some-get.ensures.value)

pub returns : goal.returns
returns c =
    let unnamed : holds c.args.page.now c.args.key.now ≡ value_at c.args.key.now (map_by_now c.args.page.now c.args.self.now) =
    elim c.match-self.branch [
      | in-Few+else-len-gt0 w ↦
          rw (← c.self.view_is, w.in-Few.is) (unnamed_without c.args.page.now w.in-Few.run' c.args.key.now c.requires w.len.ensures.rising (omega (arith, w.len.ensures.count, w.if-len-gt0.false)))
      | in-Few+then-len-gt0+in_default w ↦
          rw (← c.self.view_is, w.in-Few.is) (unnamed_now c.args.page.now w.in-Few.run' c.args.key.now c.requires w.len.ensures.rising (rw w.as_bytes.ensures at (sym w.in_default.ensures.place)))
      | in-Many+in_default-get w ↦
          rw (← c.self.view_is, w.in-Many.is) (unnamed_now c.args.page.now w.in-Many.map.entries c.args.key.now c.requires w.len-rising.ensures.ordered w.in_default-get.ensures.value)
    ] in
    rw c.as_bytes-2.ensures at c.get-2.ensures ∙ unnamed
