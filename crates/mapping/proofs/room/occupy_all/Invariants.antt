use Rattle.std.proofs.Common.{◌≡◌, ◌+◌, ◌-◌, ◌≤◌, vec_len, vec_capacity, length, take}
use Rattle.mapping.specs.Proper.{AreRisingPids}
use Rattle.mapping.specs.Table.{with_rooms}
use Rattle.mapping.specs.Slots.{slot_pids, table_of}
use Rattle.mapping.proofs.room.occupy_all.Given as goal

-- there is a place for each pid so far, and room for those that are still to come
abbrev pub invariant-loop-pid : goal.invariant-loop-pid
invariant-loop-pid g l = record {
  rising : AreRisingPids (slot_pids l.slots.items);
  made : table_of l.slots.items ≡ with_rooms (table_of l.initial.slots.items) (take l.pid-index l.pids);
  room : vec_len l.slots + (length l.pids - l.pid-index) ≤ vec_capacity l.slots;
}
