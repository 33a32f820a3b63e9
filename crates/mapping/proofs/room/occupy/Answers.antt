use Rattle.std.proofs.Common.{refl, rules}
use Rattle.mapping.proofs.RoomLemmas.{room_vacant, room_kept, room_new}
use Rattle.mapping.proofs.TableSlots.{stands_within, goes_within}
use Rattle.mapping.proofs.room.occupy.Goals as goal

pub returns-in-Vacant-clause-rising : goal.returns-in-Vacant-clause-rising
returns-in-Vacant-clause-rising g c =
    let stands = rw c.deref.ensures.value at c.in-Ok.ensures in
    (room_vacant c.args.slots.now.items c.requires c.in-Ok.at c.args.pid c.index_mut-slot.result.now _ stands c.index_mut-slot.ensures.value c.in-Vacant.is refl refl refl).0

pub returns-in-Vacant-clause-ok : goal.returns-in-Vacant-clause-ok
returns-in-Vacant-clause-ok g c =
    let stands = rw c.deref.ensures.value at c.in-Ok.ensures in
    (room_vacant c.args.slots.now.items c.requires c.in-Ok.at c.args.pid c.index_mut-slot.result.now _ stands c.index_mut-slot.ensures.value c.in-Vacant.is refl refl refl).1

pub returns-in_default : goal.returns-in_default
returns-in_default g c =
    let stands = rw c.deref.ensures.value at c.in-Ok.ensures in
    let kept = room_kept c.args.slots.now.items c.requires c.in-Ok.at c.args.pid c.index_mut-slot.result.now stands c.index_mut-slot.ensures.value c.in_default.not-Vacant in
    record {
      rising = kept.0;
      ok = kept.1;
      err = tt;
      succeeds = λ h. refl;
      len = search rules;
      capacity = search rules;
    }

pub returns-in_ok-insert-in-Err-clause-rising : goal.returns-in_ok-insert-in-Err-clause-rising
returns-in_ok-insert-in-Err-clause-rising g c =
    let goes = rw c.deref.ensures.value at c.in-Err.ensures in
    rw c.in_ok-insert-in-Err.ensures.items (room_new c.args.slots.now.items c.requires c.in-Err.at c.args.pid _ goes refl refl refl).0

pub returns-in_ok-insert-in-Err-clause-ok : goal.returns-in_ok-insert-in-Err-clause-ok
returns-in_ok-insert-in-Err-clause-ok g c =
    let goes = rw c.deref.ensures.value at c.in-Err.ensures in
    rw c.in_ok-insert-in-Err.ensures.items (room_new c.args.slots.now.items c.requires c.in-Err.at c.args.pid _ goes refl refl refl).1

pub slot_of-requires : goal.slot_of-requires
slot_of-requires g c = rw c.deref.ensures.value c.requires

pub index_mut-slot-requires : goal.index_mut-slot-requires
index_mut-slot-requires g c = rw (← c.deref.ensures.len) (stands_within c.deref.result.now c.in-Ok.at c.args.pid c.in-Ok.ensures)

pub insert-requires : goal.insert-requires
insert-requires g c = rw (← c.deref.ensures.len) (goes_within c.deref.result.now c.in-Err.at c.args.pid c.in-Err.ensures)
