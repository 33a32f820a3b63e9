use Rattle.std.proofs.Common.{◌≡◌, ◌∙◌, ◌∷◌, ◌&&◌, [], Some, ap, ℕ, List}
use Rattle.mapping.specs.FreshPids.{is_among}
use Rattle.mapping.specs.Table.{log_of, pids_in_use_or_old}
use Rattle.mapping.specs.TreeInMemory.{AreAllHome, TreeInMemory, tree_of}
use Rattle.engine.specs.Compacted.{is_logged, no_pairs, outdated_tree}
use Rattle.engine.proofs.OutdatedTables.{no_places_left, ok_then, outdated-is}
use Rattle.engine.proofs.store.compact.outdated_tree.Goals as goal

pub first_tree_of-requires : goal.first_tree_of-requires
first_tree_of-requires c = no_places_left c.deref.result.now c.in_ok-table.table c.in_ok-table.ensures.freed

pub returns : goal.returns
returns c =
    let t = c.args.tree.now in
    let table = c.in_ok-table.table in
    let known : (q : ℕ) → is_among q c.deref.result.now ≡ (is_among q (pids_in_use_or_old t.table) && is_logged (log_of t.table q)) =
    (λ q. ap (λ (ns : List ℕ). is_among q ns) c.deref.ensures.value ∙ c.in_ok-pids.ensures q) in
    ok_then (λ (new : TreeInMemory). new ≡ record { table = record { places = (0, Some no_pairs) ∷ []; logged = table.logged }; root = 0; height = 1 })
    (λ (new : TreeInMemory). AreAllHome new × (tree_of new ≡ outdated_tree (tree_of t)))
    c.first_tree_of.result
    (λ new e. outdated-is t c.deref.result.now table c.requires.home c.requires.logs known c.in_ok-table.ensures.freed new c.in_ok-table.ensures.rising e)
    c.first_tree_of.ensures
