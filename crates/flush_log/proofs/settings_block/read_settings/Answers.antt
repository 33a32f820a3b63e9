use Rattle.std.proofs.Common.{◌∙◌, true, false, bytes_eq, sym, ap}
use Rattle.keys.specs.Bytes.{Bytes}
use Rattle.keys.specs.Limits.{first_bad_field}
use Rattle.flush_log.proofs.BlockReading.{passes, no_block, block_read, refused}
use Rattle.flush_log.proofs.settings_block.read_settings.Goals as goal
use Rattle.flush_log.proofs.settings_block.read_settings.Goals.{else-is_ok-via-then-is_ok+else-eq, else-is_ok-via-else-is_ok}

pub returns-then-bytes-ne64 : goal.returns-then-bytes-ne64
returns-then-bytes-ne64 c = no_block c.args.bytes.now c.if-bytes-ne64.true

pub returns-then-eq : goal.returns-then-eq
returns-then-eq c =
    let settings = c.settings_in-settings.result in
    let same = sym c.if-eq.true ∙ c.eq.ensures ∙ ap (λ (bs : Bytes). bytes_eq bs c.args.bytes.now) (c.as_slice.ensures ∙ c.settings_block.ensures) in
    let passed = passes (first_bad_field settings) c.check.result c.check.ensures in
    let good = sym c.if-is_ok.true ∙ c.is_ok.ensures.value ∙ passed in
    block_read c.args.bytes.now settings true true c.settings_in-settings.ensures same good

pub returns-else-is_ok : goal.returns-else-is_ok
returns-else-is_ok c =
    let settings = c.settings_in-settings.result in
    let bytes = c.args.bytes.now in
    let passed = passes (first_bad_field settings) c.check.result c.check.ensures in
    elim c.else-is_ok.branch [
      | else-is_ok-via-then-is_ok+else-eq w ↦
          (let same = sym w.if-eq.false ∙ w.eq.ensures ∙ ap (λ (bs : Bytes). bytes_eq bs bytes) (w.as_slice.ensures ∙ w.settings_block.ensures) in
          let good = sym w.if-is_ok.true ∙ c.is_ok.ensures.value ∙ passed in
          block_read bytes settings false true c.settings_in-settings.ensures same good)
      | else-is_ok-via-else-is_ok w ↦
          (let good = sym w.if-is_ok.false ∙ c.is_ok.ensures.value ∙ passed in
          refused bytes settings c.settings_in-settings.ensures good)
    ]
