use Rattle.engine.proofs.store.Store.compacted_after_cleans.Goals as goal

pub can_make_room-requires-clause-proper : goal.can_make_room-requires-clause-proper
can_make_room-requires-clause-proper g c = λ κs within. (
    let sound = c.requires.sound.sound in
    (_, sound.settings, sound.proper))
