use Rattle.std.proofs.Common.{◌≡◌, IsTrue, Ok, ap, subst, sym}
use Rattle.mapping.specs.Levels.{contents}
use Rattle.recovery.specs.StoreOfDisk.{store_of_disk}
use Rattle.engine.specs.Hidden.{exchanged}
use Rattle.engine.specs.declared.hidden_disk.Hidden.{Hidden}
use Rattle.engine.proofs.HiddenCopies.{filled_leaves, shown_made, shown_contents, shown_exact, shown_kept, shown_bytes, shown_synced, shown_written, shown_refused, shown_back, shown_unchanged, shown_leaves}
use Rattle.engine.proofs.HiddenLemmas.{settled_back, settled_exchanged}
use Rattle.engine.proofs.HiddenStores.{kept_below}
use Rattle.engine.proofs.store.Store.fill_hidden.Goals as goal

pub returns-in-Ok : goal.returns-in-Ok
returns-in-Ok g c =
    let view = g.E.Disk.view in
    let failed = g.E.Disk.failed in
    let s = c.args.fresh.settings in
    let all = contents c.args.self.now.store.tree in
    let copy = c.in-Ok.copy in
    let old = c.args.fresh.disk.disk in
    let mid = copy.disk.disk in
    let r = c.reveal_store.result in
    let filled = c.in-Ok.ensures in
    let is = filled.copy.made.0 in
    let shown = c.reveal_store.ensures in
    let stands : IsTrue (view old).is_honest → store_of_disk (exchanged (view mid).seen) ≡ Ok (copy.settings, copy.store) =
    λ honest. subst (λ s. store_of_disk (exchanged (view mid).seen) ≡ Ok (s, copy.store)) (sym is) (filled.copy.bytes honest) in
    let still : IsTrue (view old).is_honest → IsTrue (view mid).is_honest = λ honest. subst IsTrue (sym filled.copy.kept.0.honest) honest in
    record {
      copy = record {
        made = shown_made view failed s all copy.settings copy.store copy.has_failed old mid r is filled.copy.made.1 shown.same;
        holds = shown_contents view failed s all copy.settings copy.store copy.has_failed old mid r filled.copy.holds shown.same;
        exact = shown_exact view failed s all copy.settings copy.store copy.has_failed old mid r filled.copy.exact shown.same;
        kept = shown_kept view failed s all copy.settings copy.store copy.has_failed old mid r filled.copy.kept.0 filled.copy.kept.1 shown.kept;
        back = shown_back view failed s all copy.settings copy.store copy.has_failed old mid r filled.copy.kept.0 shown.refused;
        sound = shown.sound;
        written = λ honest. shown_written view failed s all copy.settings copy.store copy.has_failed old mid r (filled.copy.written honest) (stands honest) shown.same (shown.bytes (still honest));
        bytes = λ honest. shown_bytes view failed s all copy.settings copy.store copy.has_failed old mid r is (stands honest) shown.same (shown.bytes (still honest));
        crash = λ is_synced. (
            let hidden = settled_exchanged (view old) is_synced in
            shown_leaves view failed s all copy.settings copy.store copy.has_failed old mid r is filled.copy.holds (stands is_synced.honest)
            (filled.copy.crash hidden) (shown.crash (settled_back (view mid) (filled.is_synced hidden))));
      };
      is_synced = λ is_synced. shown_synced view failed s all copy.settings copy.store copy.has_failed old mid r shown.same (shown.bytes (still is_synced.honest));
      refused = shown_refused view failed s all copy.settings copy.store copy.has_failed old mid r filled.copy.kept.1 shown.refused;
      unchanged = shown_unchanged view failed s all copy.settings copy.store copy.has_failed old mid r shown.refused;
    }

pub returns-in-Err : goal.returns-in-Err
returns-in-Err g c =
    let below = g.E.Disk.view c.args.fresh.disk.disk in
    let filled = c.in-Err.ensures in
    record {
      copy = record {
        made = tt;
        holds = tt;
        exact = tt;
        kept = tt;
        back = kept_below below _ filled.copy.back;
        sound = tt;
        written = λ _. tt;
        bytes = λ _. tt;
        crash = λ is_synced. filled_leaves below _ c.args.fresh.settings (contents c.args.self.now.store.tree) (filled.copy.crash (settled_exchanged below is_synced));
      };
      is_synced = λ _. tt;
      refused = filled.refused;
      unchanged = λ other. ap (λ (h : Hidden g.row.E.Denot). h.disk) (filled.unchanged other);
    }
