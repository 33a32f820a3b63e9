use Rattle.std.proofs.Common.{◌∙◌, replicate, refl, ap, arith}
use Rattle.keys.specs.Bytes.{Bytes}
use Rattle.frame_codec.specs.Frame.{bytes_of}
use Rattle.flush_log.specs.NewStore.{first_frame, first_slot}
use Rattle.flush_log.specs.Segments.{segment_header}
use Rattle.flush_log.specs.SettingsBlock.{settings_block}
use Rattle.flush_log.specs.Slot.{slot_bytes}
use Rattle.flush_log.proofs.PutTogether.{put_in_zeros, same_parts}
use Rattle.flush_log.proofs.new_store.new_bytes.Goals as goal

pub returns : goal.returns
returns c =
    let a = c.copy_from_slice.new.self in
    let b = c.copy_from_slice-2.new.self in
    let h = c.copy_from_slice-3.new.self in
    let f = c.copy_from_slice-4.new.self in
    let y : Bytes = replicate 128 0 in
    let z : Bytes = replicate 256 0 in
    let block = c.copy_from_slice.ensures.after ∙ c.settings_block.ensures in
    let slot = c.copy_from_slice-2.ensures.after ∙ c.slot_bytes.ensures ∙ ap slot_bytes c.first_slot.ensures in
    let header = c.copy_from_slice-3.ensures.after ∙ c.segment_header.ensures in
    let frame = c.copy_from_slice-4.ensures.after ∙ c.first_frame.ensures in
    put_in_zeros a y b z h f (replicate 64 0) (replicate 16 0) (replicate 17 0) 192 64 512 16 528 17
    (omega (arith, c.copy_from_slice.ensures.len)) refl
    (omega (arith, c.copy_from_slice-2.ensures.len)) refl
    (omega (arith, c.copy_from_slice-3.ensures.len)) refl
    ∙ same_parts a (settings_block c.args.settings.now) y b (slot_bytes first_slot) z h (segment_header 0) f (bytes_of first_frame) block slot header frame
