use Rattle.std.proofs.Common.{ap, replicate}
use Rattle.std.specs.Option.{option_map}
use Rattle.std.specs.Prelude.{string_bytes}
use Rattle.flush_log.specs.Segments.{disk_size}
use Rattle.bwsh.specs.Options.{Request, request_of}
use Rattle.bwsh.specs.Session.{new_start}
use Rattle.bwsh.proofs.StoreLemmas.{IsStartBy-memory}
use Rattle.bwsh.proofs.context.Session.open_store.Goals as goal

pub returns-in_default : goal.returns-in_default
returns-in_default g c =
    let request : Request = request_of c.args.self.now.asked.now in (
      new_start request.settings (replicate (disk_size request.settings) 0),
      IsStartBy-memory request (ap (option_map string_bytes) c.in_default.is),
      c.store_in_memory.ensures.opens,
      λ none. c.store_in_memory.ensures.honest,
    )
