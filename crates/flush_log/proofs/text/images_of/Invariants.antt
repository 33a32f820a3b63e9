use Rattle.std.proofs.Common.{◌≡◌, ◌++◌, ◌+◌, ◌≤◌, length, map, flat_map, vec_len}
use Rattle.std.specs.Prelude.{vec_capacity}
use Rattle.std.specs.List.{AllByRecursion}
use Rattle.std.specs.Vec.Iter.{into_iter_items}
use Rattle.frame_codec.specs.Sized.{FitsU64}
use Rattle.flush_log.specs.ImageWork.{held_text, image_made}
use Rattle.flush_log.proofs.text.images_of.Given as goal

-- the images so far and those of the remaining jobs are all, there is room for the rest, and the remaining ones show that all page ids have 64 bits
abbrev pub invariant-loop-done : goal.invariant-loop-done
invariant-loop-done l = record {
  made : l.images.items ++ map image_made (into_iter_items l.done-iterator) ≡ map image_made l.fn.dones.items;
  room : vec_len l.images + length (into_iter_items l.done-iterator) ≤ vec_capacity l.images;
  words : AllByRecursion FitsU64 (flat_map held_text (into_iter_items l.done-iterator)) → AllByRecursion FitsU64 (flat_map held_text l.fn.dones.items);
}
