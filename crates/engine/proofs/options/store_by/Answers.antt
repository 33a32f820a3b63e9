use Rattle.std.specs.Prelude.{MatchResult}
use Rattle.std.proofs.Common.{[], rules}
use Rattle.recovery.proofs.ReadBytes.{first_read}
use Rattle.engine.specs.FileStore.{IsFaultOfFile, IsNewStore}
use Rattle.engine.proofs.OpeningLemmas.{of_created}
use Rattle.engine.proofs.options.store_by.Goals as goal

pub returns-in-Create-New-default-clause-opened : goal.returns-in-Create-New-default-clause-opened
returns-in-Create-New-default-clause-opened g c =
    let settings = c.in-Create-New-default.settings in
    let result = c.new_store.result in
    let (file, read) = first_read (g.D.Disk.view c.args.disk) (g.met.D.Disk.lawful c.args.disk) in
    let made : MatchResult result (IsNewStore settings) (IsFaultOfFile []) = of_created settings result c.new_store.ensures.made c.new_store.ensures.refused in
    (file, read, search (rules, made))
