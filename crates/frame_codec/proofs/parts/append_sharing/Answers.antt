use Rattle.std.proofs.Common.{refl}
use Rattle.frame_codec.proofs.ShareLemmas.{all_after}
use Rattle.frame_codec.proofs.WriteLemmas.{sharing-appended}
use Rattle.frame_codec.proofs.parts.append_sharing.Goals as goal

pub returns : goal.returns
returns c =
    sharing-appended c.args.before.now c.args.key.now c.args.out.now c.append_byte.new.out c.append_byte-2.new.out c.append.new.out
    c.common_len-shared.result _ _ c.requires.small c.common_len-shared.ensures.same (all_after c.common_len-shared.result c.args.key.now) refl
    c.append_byte.ensures c.append_byte-2.ensures c.append.ensures
