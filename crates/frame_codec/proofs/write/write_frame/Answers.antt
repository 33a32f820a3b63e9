use Rattle.frame_codec.specs.Shown.{frame_of}
use Rattle.frame_codec.proofs.SizedLemmas.{sized-frame}
use Rattle.frame_codec.proofs.write.write_frame.Goals as goal

pub write_full_index-requires : goal.write_full_index-requires
write_full_index-requires c =
    rw c.as_bytes-in-FullIndex.ensures (rw c.in-FullIndex.is at (sized-frame (frame_of c.args.frame.now) c.requires))

pub write_delta_index-requires : goal.write_delta_index-requires
write_delta_index-requires c = rw c.in-DeltaIndex.is at (sized-frame (frame_of c.args.frame.now) c.requires)
