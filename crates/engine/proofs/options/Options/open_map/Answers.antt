use Rattle.engine.specs.Opening.{IsOpenedBy, IsRefusedBy, bad_field}
use Rattle.engine.proofs.OpeningLemmas.{same_fault, same_if_ok, same_unless}
use Rattle.engine.proofs.options.Options.open_map.Goals as goal

pub returns : goal.returns
returns g c =
    let access = c.args.self.access in
    let opened = c.map_at.result in
    let named = c.with_path.result in
    let same = c.with_path.ensures.same in
    record {
      bad_crew = λ bad. same_fault opened named _ same (c.map_at.ensures.bad_crew bad);
      opened = λ able. same_unless (bad_field access) opened named (IsOpenedBy access) (IsRefusedBy access) same (c.map_at.ensures.opened able);
      fine = same_if_ok opened named _ same c.map_at.ensures.fine;
      path = c.with_path.ensures.path;
    }
