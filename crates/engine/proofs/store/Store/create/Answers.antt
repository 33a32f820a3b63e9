use Rattle.engine.specs.Late.{create_refusal}
use Rattle.engine.proofs.HiddenMade.{revealed_back, revealed_bytes, revealed_contents, revealed_kept, revealed_leaves, revealed_made, revealed_refused}
use Rattle.engine.proofs.HiddenStores.{hiding_leaves}
use Rattle.engine.proofs.store.Store.create.Goals as goal

pub returns-in-Ok : goal.returns-in-Ok
returns-in-Ok g c =
    let view = g.D.Disk.view in
    let failed = g.D.Disk.failed in
    let s = c.in-Ok.hidden.settings in
    let store = c.in-Ok.hidden.store in
    let fails = c.in-Ok.hidden.has_failed in
    let disk = c.args.disk in
    let mid = c.in-Ok.hidden.disk.disk in
    let r = c.reveal_store.result in
    let created = c.in-Ok.ensures.created in
    let shown = c.reveal_store.ensures in
    record {
      refused = revealed_refused view failed s store fails disk mid r (create_refusal c.args.settings (view disk).size) c.create_hidden.result c.in-Ok.hidden c.create_hidden.ensures.created.refused c.in-Ok.is created.kept.1 shown.refused;
      back = revealed_back view failed s store fails disk mid r created.kept.0 shown.refused;
      made = revealed_made view failed s store fails disk mid r c.args.settings created.made.0 created.made.1 created.made.2 shown.same;
      contents = revealed_contents view failed s store fails disk mid r created.contents shown.same;
      kept = revealed_kept view failed s store fails disk mid r created.kept.0 created.kept.1 shown.kept;
      bytes = λ honest. (
          let made = created.bytes honest in
          revealed_bytes view failed s store fails disk mid r c.args.settings made.0 shown.same (shown.bytes made.1.honest));
      crash = λ is_synced. (
          let made = created.bytes is_synced.honest in
          revealed_leaves view failed s store fails disk mid r c.args.settings made.0 (created.crash is_synced) (shown.crash made.1));
      sound = shown.sound;
    }

pub returns-in-Err : goal.returns-in-Err
returns-in-Err g c =
    let refused = c.in-Err.ensures.created in
    record {
      refused = refused.refused;
      back = refused.back;
      made = tt;
      contents = tt;
      kept = tt;
      bytes = λ _. tt;
      crash = λ is_synced. hiding_leaves (g.D.Disk.view c.args.disk) (g.D.Disk.view c.in-Err.refused.1) c.args.settings (refused.crash is_synced);
      sound = tt;
    }
