use Rattle.engine.proofs.ClaimCreated.{create-crash, create-durable, create-state}
use Rattle.engine.proofs.ordered_store.by_pages.StoreOrderedStore.create.Goals as goal

pub returns-clause-durable : goal.returns-clause-durable
returns-clause-durable g c honest =
    let e = c.create.ensures in
    create-durable g.D.Disk.view g.D.Disk.failed c.a_new_disk_stands_for_the_first_store.ensures c.args.chosen c.args.disk (g.met.D.Disk.lawful c.args.disk honest)
    c.create.result e.made e.contents e.kept e.sound (e.bytes honest)

pub returns-clause-crash : goal.returns-clause-crash
returns-clause-crash g c is_synced =
    let e = c.create.ensures in
    create-crash g.D.Disk.view g.D.Disk.failed c.a_new_disk_stands_for_the_first_store.ensures c.args.chosen c.args.disk (g.met.D.Disk.lawful c.args.disk is_synced.honest)
    c.the_first_tree_is_proper_and_empty.ensures.empty is_synced c.create.result e.refused e.back (e.crash is_synced)

pub returns-clause-state : goal.returns-clause-state
returns-clause-state g c honest =
    create-state g.D.Disk.view g.D.Disk.failed c.a_new_disk_stands_for_the_first_store.ensures c.args.chosen c.args.disk (g.met.D.Disk.lawful c.args.disk honest)
    c.create.result (c.create.ensures.bytes honest)
