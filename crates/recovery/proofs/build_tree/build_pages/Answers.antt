use Rattle.std.proofs.Common.{◌++◌, List, ℕ, map, sym, ap, subst, ◌∙◌}
use denote.Exit.{no}
use denote.Param.Send.{param_send, arg_send}
use Rattle.std.specs.Map.{keys_of}
use Rattle.index_page.specs.Page.{PageOfKind}
use Rattle.mapping.specs.Proper.{AreRisingPids}
use Rattle.recovery.specs.BuiltTree.{log_pids, filled}
use Rattle.recovery.specs.Rebuild.{HeldLog, held_log}
use Rattle.recovery.proofs.BuildLemmas.{pages-made}
use Rattle.recovery.proofs.Crossing.{rebuilt_send}
use Rattle.recovery.proofs.build_tree.build_pages.Goals as goal

pub run_round-requires-send-W-Done : goal.run_round-requires-send-W-Done
run_round-requires-send-W-Done g c κs within = param_send _ _ (arg_send _ no _ rebuilt_send)

pub put_all-requires : goal.put_all-requires
put_all-requires g c = subst (λ (hs : List HeldLog). AreRisingPids (keys_of c.args.table.now.places ++ log_pids hs)) (sym c.in-Ok.ensures.origin) c.requires

pub returns-in_ok-put_all-in-Ok-clause-ok : goal.returns-in_ok-put_all-in-Ok-clause-ok
returns-in_ok-put_all-in-Ok-clause-ok g c =
    c.in_ok-put_all-in-Ok.ensures
    ∙ ap (λ (ps : List (ℕ × PageOfKind)). filled c.args.table.now ps) (pages-made c.args.work.now.format c.in-Ok.made.items (map held_log c.args.logs.items) c.in-Ok.ensures.origin c.in-Ok.ensures.made)
