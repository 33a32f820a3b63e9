use Rattle.std.proofs.Common.{◌∙◌, ap, take}
use Rattle.std.proofs.lemmas.List.{take_min}
use Rattle.frame_codec.proofs.last_key.LastKey.of_low.Goals as goal

pub returns : goal.returns
returns c = c.of_bytes.ensures ∙ ap (λ n. take n c.args.low.now) c.min.ensures ∙ take_min 510 c.args.low.now
