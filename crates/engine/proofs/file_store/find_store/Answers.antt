use Rattle.std.proofs.Common.{rules}
use Rattle.engine.proofs.FileStoreLemmas.{decided, kept_found, none_found, none_stored}
use Rattle.engine.proofs.file_store.find_store.Goals as goal

pub returns-then-len-eq0-clause-read : goal.returns-then-len-eq0-clause-read
returns-then-len-eq0-clause-read g c = none_found (g.D.Disk.view c.args.disk) (g.met.D.Disk.lawful c.args.disk) (search rules)

pub returns-in-Err-clause-read : goal.returns-in-Err-clause-read
returns-in-Err-clause-read g c =
    let refused = c.in-Err.refused in
    let (file, read, reported) = c.in-Err.ensures.read c.requires.crew in
    decided g.D.Disk.view g.D.Disk.failed c.args.disk refused.1 (g.met.D.Disk.lawful c.args.disk) c.in-Err.ensures.kept c.in-Err.ensures.seen file read
    refused.0 c.find_unfinished.result (search rules) reported c.in-Err.ensures.uncounted c.find_unfinished.ensures.cases c.find_unfinished.ensures.exact

pub returns-in-Err-clause-kept : goal.returns-in-Err-clause-kept
returns-in-Err-clause-kept g c =
    let refused = c.in-Err.refused in
    let (file, read, reported) = c.in-Err.ensures.read c.requires.crew in
    kept_found g.D.Disk.view g.D.Disk.failed c.args.disk refused.1 (g.met.D.Disk.lawful c.args.disk) c.in-Err.ensures.kept c.in-Err.ensures.seen file read
    c.find_unfinished.result c.find_unfinished.ensures.kept

pub returns-in-Err-clause-is_synced : goal.returns-in-Err-clause-is_synced
returns-in-Err-clause-is_synced g c honest =
    let refused = c.in-Err.refused in
    let (file, read, reported) = c.in-Err.ensures.read c.requires.crew in
    none_stored g.D.Disk.view g.D.Disk.failed c.args.disk refused.1 (g.met.D.Disk.lawful c.args.disk) c.in-Err.ensures.kept c.in-Err.ensures.seen file read
    refused.0 c.find_unfinished.result _ c.find_unfinished.ensures.cases

pub returns-in-Err-clause-fine : goal.returns-in-Err-clause-fine
returns-in-Err-clause-fine g c =
    let refused = c.in-Err.refused in
    let (file, read, reported) = c.in-Err.ensures.read c.requires.crew in
    none_stored g.D.Disk.view g.D.Disk.failed c.args.disk refused.1 (g.met.D.Disk.lawful c.args.disk) c.in-Err.ensures.kept c.in-Err.ensures.seen file read
    refused.0 c.find_unfinished.result _ c.find_unfinished.ensures.cases
