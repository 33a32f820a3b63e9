use Rattle.engine.specs.Refusal.{is_crew}
use Rattle.engine.proofs.AsBefore.{clean_as_before, on_err}
use Rattle.engine.proofs.ClaimCleaned.{clean-contents, clean-crash, clean-durable, clean-fails, clean-state, clean-unwritten}
use Rattle.engine.proofs.ordered_store.by_pages.StoreOrderedStore.clean.Goals as goal

pub returns-clause-contents : goal.returns-clause-contents
returns-clause-contents g c =
    let e = clean_as_before g.D.Disk.view g.D.Disk.failed (is_crew c.args.crew) c.args.self.now c.clean.new.self c.clean.result c.clean.ensures.step in
    clean-contents g.D.Disk.view g.D.Disk.failed c.args.self.now c.clean.new.self c.args.crew c.a_clean_keeps_the_store.ensures.memory
    c.clean.result e.failed e.bad_crew e.read e.unchanged

pub returns-clause-durable : goal.returns-clause-durable
returns-clause-durable g c fine honest =
    let e = clean_as_before g.D.Disk.view g.D.Disk.failed (is_crew c.args.crew) c.args.self.now c.clean.new.self c.clean.result c.clean.ensures.step in
    clean-durable g.D.Disk.view g.D.Disk.failed c.args.self.now c.clean.new.self c.args.crew c.a_clean_keeps_the_store.ensures.disk e.sound.0 fine honest
    c.clean.result (e.bytes honest)

pub returns-clause-crash : goal.returns-clause-crash
returns-clause-crash g c fine is_synced =
    let e = clean_as_before g.D.Disk.view g.D.Disk.failed (is_crew c.args.crew) c.args.self.now c.clean.new.self c.clean.result c.clean.ensures.step in
    clean-crash g.D.Disk.view g.D.Disk.failed c.args.self.now c.clean.new.self c.args.crew c.a_clean_keeps_the_store.ensures.disk e.sound.0 fine is_synced
    (e.crash fine is_synced)

pub returns-clause-state : goal.returns-clause-state
returns-clause-state g c honest =
    let e = clean_as_before g.D.Disk.view g.D.Disk.failed (is_crew c.args.crew) c.args.self.now c.clean.new.self c.clean.result c.clean.ensures.step in
    clean-state g.D.Disk.view g.D.Disk.failed c.args.self.now c.clean.new.self c.args.crew
    c.clean.result e.failed e.bad_crew e.read (e.bytes honest)

pub returns-clause-fails : goal.returns-clause-fails
returns-clause-fails g c =
    let e = clean_as_before g.D.Disk.view g.D.Disk.failed (is_crew c.args.crew) c.args.self.now c.clean.new.self c.clean.result c.clean.ensures.step in
    clean-fails g.D.Disk.view g.D.Disk.failed c.args.self.now c.clean.new.self c.args.crew c.clean.result e.counted e.device e.fine

pub returns-clause-unwritten : goal.returns-clause-unwritten
returns-clause-unwritten g c honest =
    let e = clean_as_before g.D.Disk.view g.D.Disk.failed (is_crew c.args.crew) c.args.self.now c.clean.new.self c.clean.result c.clean.ensures.step in
    clean-unwritten g.D.Disk.view g.D.Disk.failed c.args.self.now c.clean.new.self c.args.crew honest c.clean.result e.failed c.clean.ensures.unwritten

pub returns-clause-is_synced : goal.returns-clause-is_synced
returns-clause-is_synced g c =
    let e = clean_as_before g.D.Disk.view g.D.Disk.failed (is_crew c.args.crew) c.args.self.now c.clean.new.self c.clean.result c.clean.ensures.step in
    e.is_synced

pub returns-clause-rest : goal.returns-clause-rest
returns-clause-rest g c =
    let e = clean_as_before g.D.Disk.view g.D.Disk.failed (is_crew c.args.crew) c.args.self.now c.clean.new.self c.clean.result c.clean.ensures.step in
    e.rest

pub returns-clause-failed : goal.returns-clause-failed
returns-clause-failed g c =
    let e = clean_as_before g.D.Disk.view g.D.Disk.failed (is_crew c.args.crew) c.args.self.now c.clean.new.self c.clean.result c.clean.ensures.step in
    λ bad. (e.failed bad).0

pub returns-clause-refused : goal.returns-clause-refused
returns-clause-refused g c =
    let e = clean_as_before g.D.Disk.view g.D.Disk.failed (is_crew c.args.crew) c.args.self.now c.clean.new.self c.clean.result c.clean.ensures.step in
    on_err c.clean.result _ e.unchanged
