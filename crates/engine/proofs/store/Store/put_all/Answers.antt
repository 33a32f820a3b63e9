use Rattle.std.proofs.Common.{◌∙◌, refl, sym, ap, subst, arith}
use Rattle.std.proofs.lemmas.Result.{err_from_is_err_and}
use Rattle.keys.specs.declared.settings.Settings.{Settings}
use Rattle.mapping.specs.Levels.{contents}
use Rattle.mapping.specs.Tree.{Store, with_tree}
use Rattle.engine.specs.Copies.{IsPutOn, IsPutRefused}
use Rattle.engine.proofs.CopyChunks.{all_put, more_put, none_put, stopped_put}
use Rattle.engine.proofs.CopyLemmas.{begun_empty, begun_within, at_some, at_none}
use Rattle.engine.proofs.store.Store.put_all.Goals as goal

pub batches-init : goal.batches-init
batches-init g c = record { begun = begun_empty _ _ c.requires.empty; on = none_put c.args.copy.now.settings c.args.copy.now.store.tree (contents c.args.self.now.store.tree) c.requires.empty; log = refl; settings = refl; disk = refl; fine = refl }

pub put_next-requires-clause-begun : goal.put_next-requires-clause-begun
put_next-requires-clause-begun g c κs within = c.batches.invariant.begun

pub put_next-requires-clause-fine : goal.put_next-requires-clause-fine
put_next-requires-clause-fine g c κs within = c.batches.invariant.fine ∙ c.requires.fine

pub returns-in_err-key : goal.returns-in_err-key
returns-in_err-key g c =
    let inv = c.batches.invariant in
    let start = c.args.copy.now in
    let all = contents c.args.self.now.store.tree in
    let rest = c.put_next.ensures.rest in
    let why = c.in_err-key.ensures.refused inv.on.left inv.on.whole in
    let p = err_from_is_err_and c.from_residual.result c.from_residual.ensures.1 in
    rw (p.1, p.2) (record {
      holds = tt;
      log = tt;
      rest = (rest.0 ∙ inv.settings, rest.1 ∙ inv.disk, rest.2 ∙ inv.fine);
      tree = tt;
      refused = stopped_put start.settings start.store.tree c.batches.copy.store.tree all inv.on _
          (subst (λ (s : Settings). IsPutRefused s c.batches.copy.store.tree inv.on.left c.in_err-key.field-0.0) inv.settings why);
    })

pub returns-in-None : goal.returns-in-None
returns-in-None g c =
    let inv = c.batches.invariant in
    let start = c.args.copy.now in
    let all = contents c.args.self.now.store.tree in
    let rest = c.put_next.ensures.rest in
    let same = at_none _ _ _ (c.in_ok-key.ensures.tree inv.on.left inv.on.whole) c.in-None.is in
    let holds = at_none _ _ _ c.in_ok-key.ensures.further c.in-None.is in
    let there = ap (λ x. x.store.tree) same in
    let (tree, none) = all_put start.settings start.store.tree c.batches.copy.store.tree all inv.on (ap contents (sym there) ∙ holds) in
    record {
      holds = holds;
      log = c.in_ok-key.ensures.log ∙ ap (λ (st : Store). with_tree st c.put_next.new.copy.store.tree) inv.log;
      rest = (rest.0 ∙ inv.settings, rest.1 ∙ inv.disk, rest.2 ∙ inv.fine);
      tree = (there ∙ tree, none);
      refused = tt;
    }

pub batches-preserved : goal.batches-preserved
batches-preserved g c =
    let inv = c.batches.invariant in
    let rest = c.put_next.ensures.rest in
    record {
      begun = (at_some _ _ _ _ c.in_ok-key.ensures.further c.in-Some.is).0;
      on = more_put c.args.copy.now.settings c.args.copy.now.store.tree c.batches.copy.store.tree (contents c.args.self.now.store.tree) inv.on c.put_next.new.copy.store.tree
          (subst (λ (s : Settings). IsPutOn s c.batches.copy.store.tree inv.on.left c.put_next.new.copy.store.tree) inv.settings (at_some _ _ _ _ (c.in_ok-key.ensures.tree inv.on.left inv.on.whole) c.in-Some.is));
      log = c.in_ok-key.ensures.log ∙ ap (λ (st : Store). with_tree st c.put_next.new.copy.store.tree) inv.log;
      settings = rest.0 ∙ inv.settings;
      disk = rest.1 ∙ inv.disk;
      fine = rest.2 ∙ inv.fine;
    }

pub batches-smaller : goal.batches-smaller
batches-smaller g c =
    let (begun, more) = at_some _ _ _ _ c.in_ok-key.ensures.further c.in-Some.is in
    let within = begun_within _ _ _ begun in
    omega (arith, more, within)
