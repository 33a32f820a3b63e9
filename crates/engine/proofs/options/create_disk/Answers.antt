use Rattle.keys.specs.Limits.{first_bad_field}
use Rattle.engine.proofs.OpeningLemmas.{same_field, same_if_ok}
use Rattle.engine.proofs.options.create_disk.Goals as goal

pub returns : goal.returns
returns g c =
    let opened = c.new_disk.result in
    let named = c.with_path.result in
    let same = c.with_path.ensures.same in
    record {
      refused = same_field (first_bad_field c.args.settings.now) opened named same c.new_disk.ensures.refused;
      size = same_if_ok opened named _ same c.new_disk.ensures.size;
      path = c.with_path.ensures.path;
    }
