use Rattle.std.proofs.Common.{List, ℕ, get_or, length, refl, sym, ap, ◌∙◌}
use Rattle.mapping.specs.Levels.{contents}
use Rattle.mapping.specs.Tree.{Store}
use Rattle.engine.specs.Hidden.{exchanged_view}
use Rattle.engine.specs.Late.{create_refusal}
use Rattle.engine.proofs.CreateLemmas.{not_refused, first-is, made-bytes, made-sound, refused_with}
use Rattle.engine.proofs.HiddenStores.{below_first, new_first}
use Rattle.engine.proofs.SoundStores.{with_count}
use Rattle.engine.proofs.store.creation.create_hidden.Goals as goal

pub invariant_of-result : goal.invariant_of-result
invariant_of-result g c =
    let view = g.D.Disk.view in
    let old = c.args.disk in
    let free = not_refused (λ fault. fault) (create_refusal c.args.settings (view old).size) c.make.result _ _ c.make.ensures.refused c.in-Ok.is in
    let is = first-is c.in-Ok.tree c.first_slot-first.result c.first.inside.ends _ _ c.first.inside.version c.in-Ok.ensures.tree c.first_slot-first.ensures c.first.view_is in
    with_count 0 (made-sound _ c.args.settings c.in-Ok.tree c.first.inside.ends c.first.inside.version (view old) _ is free (λ honest. g.met.D.Disk.lawful old honest) (λ honest. (c.in-Ok.ensures.bytes honest).0)
    c.in-Ok.ensures.tree c.make.ensures.kept.honest c.make.ensures.kept.size c.a_new_disk_stands_for_the_first_store.ensures)
    (sym (ap length (ap (λ (st : Store). contents st.tree) is ∙ c.the_first_tree_is_proper_and_empty.ensures.empty)))

pub returns-in-Ok-clause-created : goal.returns-in-Ok-clause-created
returns-in-Ok-clause-created g c =
    let view = g.D.Disk.view in
    let old = c.args.disk in
    let free = not_refused (λ fault. fault) (create_refusal c.args.settings (view old).size) c.make.result _ _ c.make.ensures.refused c.in-Ok.is in
    let is = first-is c.in-Ok.tree c.first_slot-first.result c.first.inside.ends _ _ c.first.inside.version c.in-Ok.ensures.tree c.first_slot-first.ensures c.first.view_is in
    record {
      refused = rw free tt;
      back = tt;
      made = (refl, is, refl);
      contents = ap (λ (st : Store). contents st.tree) is ∙ c.the_first_tree_is_proper_and_empty.ensures.empty;
      kept = (c.make.ensures.kept, c.in-Ok.ensures.counted);
      bytes = λ honest. (
        made-bytes (λ (d : g.row.D.Denot). exchanged_view (view d)) c.args.settings c.in-Ok.tree c.first.inside.ends c.first.inside.version (view old) c.make.new.disk is free (λ h. g.met.D.Disk.lawful old h) (λ h. (c.in-Ok.ensures.bytes h).0) honest,
        (c.in-Ok.ensures.bytes honest).1,
      );
      crash = λ is_synced. c.make.ensures.crash is_synced;
      sound = (invariant_of-result g c).sound;
    }

pub returns-in-Ok-clause-hidden : goal.returns-in-Ok-clause-hidden
returns-in-Ok-clause-hidden g c honest =
    below_first (g.D.Disk.view c.make.new.disk).seen
    (ap (λ (f : List ℕ). get_or f 0 0) (c.in-Ok.ensures.bytes honest).0 ∙ new_first c.args.settings (g.D.Disk.view c.args.disk).seen)

pub returns-in-Err-clause-created : goal.returns-in-Err-clause-created
returns-in-Err-clause-created g c = record {
  refused = refused_with _ (create_refusal c.args.settings (g.D.Disk.view c.args.disk).size) _ c.in-Err.fault c.in-Err.ensures.refused;
  back = (c.make.ensures.kept, c.in-Err.ensures.back);
  made = tt;
  contents = tt;
  kept = tt;
  bytes = λ _. tt;
  crash = λ is_synced. c.make.ensures.crash is_synced;
  sound = tt;
}
