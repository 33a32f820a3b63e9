use Rattle.std.proofs.Common.{inl, refl}
use Rattle.mapping.specs.Levels.{contents}
use Rattle.recovery.proofs.ReadBytes.{kept_self}
use Rattle.engine.specs.Late.{create_refusal}
use Rattle.engine.specs.Copies.{IsLeftCopying}
use Rattle.engine.proofs.HiddenCopies.{begun_copying, begun_leaves}
use Rattle.engine.proofs.HiddenStores.{none_leaves}
use Rattle.engine.proofs.CopyDone.{made_refused, create_refused, made_back, made_left, made_ok, made_bytes, made_exact, made_written}
use Rattle.engine.proofs.store.Store.copy_to.Goals as goal

-- ---- the crew is out of range

pub returns-in-Err-clause-left : goal.returns-in-Err-clause-left
returns-in-Err-clause-left g c = λ other. inl refl

pub returns-in-Err-clause-copy : goal.returns-in-Err-clause-copy
returns-in-Err-clause-copy g c =
    let old = g.E.Disk.view c.args.disk in
    record {
      made = tt;
      holds = tt;
      exact = tt;
      kept = tt;
      back = kept_self old;
      sound = tt;
      written = λ _. tt;
      bytes = λ _. tt;
      crash = λ is_synced. none_leaves old (IsLeftCopying c.args.settings (contents c.args.self.now.store.tree) old.seen) (g.met.E.Disk.lawful c.args.disk is_synced.honest) is_synced (inl refl);
    }

-- ---- no store was made

pub returns-in-Err-create_hidden-clause-refused : goal.returns-in-Err-create_hidden-clause-refused
returns-in-Err-create_hidden-clause-refused g c able =
    create_refused g.E.Disk.failed (create_refusal c.args.settings (g.E.Disk.view c.args.disk).size) c.create_hidden.result c.in-Err-create_hidden.refused c.args.settings (contents c.args.self.now.store.tree)
    (g.E.Disk.failed c.args.disk) c.create_hidden.ensures.created.refused c.in-Err-create_hidden.is

pub returns-in-Err-create_hidden-clause-left : goal.returns-in-Err-create_hidden-clause-left
returns-in-Err-create_hidden-clause-left g c = λ other. inl (c.in-Err-create_hidden.ensures.created.back.1 other)

pub returns-in-Err-create_hidden-clause-copy : goal.returns-in-Err-create_hidden-clause-copy
returns-in-Err-create_hidden-clause-copy g c =
    let made = c.in-Err-create_hidden.ensures.created in
    record {
      made = tt;
      holds = tt;
      exact = tt;
      kept = tt;
      back = made.back.0;
      sound = tt;
      written = λ _. tt;
      bytes = λ _. tt;
      crash = λ is_synced.
          begun_leaves (g.E.Disk.view c.args.disk) (g.E.Disk.view c.in-Err-create_hidden.refused.1) c.args.settings (contents c.args.self.now.store.tree) (made.crash is_synced);
    }

-- ---- a store was made

pub fill_hidden-requires-clause-fresh : goal.fill_hidden-requires-clause-fresh
fill_hidden-requires-clause-fresh g c κs within = (let made = c.in-Ok.ensures.created in record { first = made.made.1; empty = made.contents; fine = made.made.2; sound = made.sound })

pub returns-in-Ok-clause-refused : goal.returns-in-Ok-clause-refused
returns-in-Ok-clause-refused g c able =
    let made = c.in-Ok.ensures.created in
    made_refused g.E.Disk.failed (create_refusal c.args.settings (g.E.Disk.view c.args.disk).size) c.create_hidden.result c.in-Ok.fresh c.fill_hidden.result c.args.disk c.in-Ok.fresh.disk.disk c.in-Ok.fresh.settings c.args.settings
    (contents c.args.self.now.store.tree) c.create_hidden.ensures.created.refused c.in-Ok.is made.made.0 made.kept.1 c.fill_hidden.ensures.refused

pub returns-in-Ok-clause-left : goal.returns-in-Ok-clause-left
returns-in-Ok-clause-left g c =
    let made = c.in-Ok.ensures.created in
    made_left g.E.Disk.view c.fill_hidden.result c.args.disk c.in-Ok.fresh.disk.disk _ (λ honest. c.in-Ok.ensures.hidden honest) (λ honest. (made.bytes honest).1) c.fill_hidden.ensures.unchanged

pub returns-in-Ok-clause-is_synced : goal.returns-in-Ok-clause-is_synced
returns-in-Ok-clause-is_synced g c honest = c.fill_hidden.ensures.is_synced (c.in-Ok.ensures.created.bytes honest).1

pub returns-in-Ok-clause-copy : goal.returns-in-Ok-clause-copy
returns-in-Ok-clause-copy g c =
    let view = g.E.Disk.view in
    let failed = g.E.Disk.failed in
    let all = contents c.args.self.now.store.tree in
    let disk = c.args.disk in
    let mid = c.in-Ok.fresh.disk.disk in
    let s = c.in-Ok.fresh.settings in
    let t = c.args.settings in
    let r = c.fill_hidden.result in
    let made = c.in-Ok.ensures.created in
    let filled = c.fill_hidden.ensures.copy in
    let ok = made_ok view failed r disk mid s t made.made.0 made.kept.0 made.kept.1 filled.made filled.kept in
    record {
      made = ok.0;
      holds = filled.holds;
      exact = made_exact r s t all made.made.0 filled.exact;
      kept = ok.1;
      back = made_back view r disk mid made.kept.0 filled.back;
      sound = filled.sound;
      written = λ honest. (
          let (created, is_synced) = made.bytes honest in
          made_written view r s t all _ (view disk).seen _ made.made.0 created (filled.written is_synced.honest));
      bytes = λ honest. made_bytes view r s t made.made.0 (filled.bytes (made.bytes honest).1.honest);
      crash = λ is_synced. begun_copying view r disk mid s t all made.made.0 (made.crash is_synced) (filled.crash (made.bytes is_synced.honest).1);
    }
