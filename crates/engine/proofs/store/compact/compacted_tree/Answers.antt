use Rattle.std.proofs.Common.{inl, refl, ◌∙◌}
use Rattle.std.proofs.lemmas.Result.{err_from_is_err_and}
use Rattle.mapping.specs.TreeInMemory.{tree_of}
use Rattle.engine.proofs.CompactedStores.{fault_as, outdated_sound, planned_as, short_as}
use Rattle.engine.proofs.store.compact.compacted_tree.Goals as goal

pub returns-in_err-new : goal.returns-in_err-new
returns-in_err-new g c =
    let p = err_from_is_err_and c.from_residual.result c.from_residual.ensures.1 in
    rw (p.1, p.2) (record { sound = tt; tree = tt; fault = inl refl })

pub returns-in_err-puts : goal.returns-in_err-puts
returns-in_err-puts g c =
    let p = err_from_is_err_and c.from_residual-in_err-puts.result c.from_residual-in_err-puts.ensures.1 in
    rw (p.1, p.2) (record { sound = tt; tree = tt; fault = inl refl })

pub all_puts-requires-clause-readable : goal.all_puts-requires-clause-readable
all_puts-requires-clause-readable g c = (let proper = c.requires.sound.proper in record { home = c.requires.home; held = proper.held; levels = proper.levels })

pub execute-requires-clause-sound : goal.execute-requires-clause-sound
execute-requires-clause-sound g c κs within =
    outdated_sound c.args.settings.now c.args.tree.now c.in_ok-new.new c.requires (c.the_first_tree_is_proper_and_empty.ensures.proper c.args.settings.now) c.in_ok-new.ensures

pub execute-requires-clause-short : goal.execute-requires-clause-short
execute-requires-clause-short g c κs within =
    short_as c.args.settings.now (tree_of c.args.tree.now) c.deref.result.now c.requires.sound.proper (c.deref.ensures.value ∙ c.in_ok-puts.ensures)

pub returns-in_err-execute : goal.returns-in_err-execute
returns-in_err-execute g c =
    let p = err_from_is_err_and c.from_residual-in_err-execute.result c.from_residual-in_err-execute.ensures.1 in
    rw (p.1, p.2) (record {
      sound = tt;
      tree = tt;
      fault = fault_as c.args.settings.now (tree_of c.args.tree.now) (tree_of c.in_ok-new.new) c.deref.result.now _ c.in_ok-new.ensures.1 (c.deref.ensures.value ∙ c.in_ok-puts.ensures) c.in_err-execute.ensures.fault;
    })

pub returns : goal.returns
returns g c = record {
  sound = c.execute.ensures.sound;
  tree = c.in_ok-execute.ensures.tree ∙ planned_as c.args.settings.now (tree_of c.args.tree.now) (tree_of c.in_ok-new.new) c.deref.result.now c.in_ok-new.ensures.1 (c.deref.ensures.value ∙ c.in_ok-puts.ensures);
  fault = tt;
}
