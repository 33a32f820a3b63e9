use Rattle.std.proofs.Common.{◌≡◌, ◌∙◌, subst}
use Rattle.std.specs.Prelude.{IfOk}
use Rattle.std.specs.List.{AllZip}
use Rattle.rayon.proofs.ToStd.{slice-AllZip}
use denote.Exit.{no}
use denote.Param.Send.{copied_send, copied_sync, arg_send, arg_sync, param_send}
use Rattle.mapping.specs.TreeInMemory.{AreAllHome, tree_of}
use Rattle.verify.specs.Seen.{seen_at}
use Rattle.verify.proofs.Crossing.{closure-send, closure-sync, looks-send}
use Rattle.verify.proofs.LevelLemmas.{zip_ok, ok_of_match}
use Rattle.verify.proofs.level.look_at_all.Goals as goal

pub map-requires-send-F : goal.map-requires-send-F
map-requires-send-F g c κs within = copied_send 3 _ (arg_send _ no _ (closure-send _ _ _ _ _))

pub map-requires-sync-F : goal.map-requires-sync-F
map-requires-sync-F g c κs within = copied_sync 3 _ (arg_sync _ no _ (closure-sync _ _ _ _ _))

pub collect-requires-send-Self : goal.collect-requires-send-Self
collect-requires-send-Self g c κs within = param_send 0 _ (arg_send _ no _ (looks-send _ _ _ _ _ _ _))

pub returns : goal.returns
returns g c =
    let home = AreAllHome c.args.tree.now in
    let f = seen_at c.args.settings.now c.args.level (tree_of c.args.tree.now).pages in
    let h = c.in_ok-collect.ensures in
    let chain = rw (c.map.ensures.base, c.map.ensures.f) at h.1 in
    ok_of_match c.in_ok-collect.field-0 _ _ _ h.2 (λ v made. made.2 ∙ zip_ok _ home f c.requires c.args.places.now made.0
    (subst (λ rs. AllZip (λ at r. home → IfOk r (λ seen. seen ≡ f at)) c.args.places.now rs) made.1
    (slice-AllZip chain.0 c.args.places.now (chain.1 ∙ c.par_iter.ensures) (λ at r. home → IfOk r (λ seen. seen ≡ f at)) h.0 chain.2)))
