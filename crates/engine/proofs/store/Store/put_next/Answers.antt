use Rattle.std.proofs.Common.{◌≡◌, ◌∙◌, rules, ◌++◌, List, Some, None, inl, refl, sym, ap, subst, Global}
use Rattle.std.proofs.lemmas.Result.{err_from_is_err_and}
use Rattle.std.specs.Option.{option_copied}
use Rattle.keys.specs.Step.{map_after_all}
use Rattle.keys.specs.declared.command.Command.{Command}
use Rattle.mapping.specs.Levels.{contents}
use Rattle.mapping.specs.Tree.{Store, Tree, with_tree}
use Rattle.mapping.specs.TreeInMemory.{tree_of}
use Rattle.engine.specs.Copies.{IsBegun, last_key, puts_of}
use Rattle.engine.proofs.CopyLemmas.{put_further, put_all_there}
use Rattle.engine.proofs.CopyChunks.{piece_refused, piece_put}
use Rattle.engine.proofs.store.Store.put_next.Goals as goal

pub rows_after-rows-requires-clause-readable : goal.rows_after-rows-requires-clause-readable
rows_after-rows-requires-clause-readable g c = (let proper = c.self.invariant.sound.is.proper in record { home = c.self.invariant.home; held = proper.held; levels = proper.levels })

pub rows_after-rows-requires-clause-rising : goal.rows_after-rows-requires-clause-rising
rows_after-rows-requires-clause-rising g c = c.the_contents_of_a_proper_tree_rise.ensures c.self.inside.settings (tree_of c.self.inside.tree) c.self.invariant.sound.is.proper

pub returns-in_err-key : goal.returns-in_err-key
returns-in_err-key g c =
    let p = err_from_is_err_and c.from_residual.result c.from_residual.ensures.1 in
    rw (p.1, p.2) (record {
      further = tt;
      log = tt;
      rest = (refl, refl, refl);
      tree = λ _ _. tt;
      refused = λ _ _. inl refl;
    })

pub returns-in_err-batch-in-Some : goal.returns-in_err-batch-in-Some
returns-in_err-batch-in-Some g c =
    let copy = c.args.copy.now in
    let p = err_from_is_err_and c.from_residual-in_err-batch-in-Some.result c.from_residual-in_err-batch-in-Some.ensures.1 in
    rw (p.1, p.2) (record {
      further = tt;
      log = tt;
      rest = c.batch.ensures.rest;
      tree = λ _ _. tt;
      refused = λ left whole. (
          let there = subst (λ x. contents copy.store.tree ++ left ≡ contents x.store.tree) (sym c.self.view_is) whole in
          let begun = subst (λ x. IsBegun (contents x.store.tree) (contents copy.store.tree) (option_copied c.args.last)) (sym c.self.view_is) c.requires.begun in
          let rows = c.rows_after-rows.ensures (contents copy.store.tree) left there begun.last in
          let put : c.puts_of.new.puts.items ≡ puts_of c.rows_after-rows.result = search rules in
          let ended : last_key None c.rows_after-rows.result ≡ Some c.in-Some.key.now = sym c.in_ok-key.ensures.last ∙ ap option_copied c.in-Some.is in
          piece_refused copy.settings copy.store left c.rows_after-rows.result c.puts_of.new.puts.items c.deref.result.now c.in-Some.key.now rows ended put c.deref.ensures.value
          c.batch.result _ c.in_err-batch-in-Some.was (c.batch.ensures.refused c.requires.fine c.requires.crew));
    })

pub returns-in-Some : goal.returns-in-Some
returns-in-Some g c =
    let all = contents (tree_of c.self.inside.tree) in
    let copy = c.args.copy.now in
    let begun = subst (λ x. IsBegun (contents x.store.tree) (contents copy.store.tree) (option_copied c.args.last)) (sym c.self.view_is) c.requires.begun in
    let put : c.puts_of.new.puts.items ≡ puts_of c.rows_after-rows.result = search rules in
    let ended : last_key None c.rows_after-rows.result ≡ Some c.in-Some.key.now = sym c.in_ok-key.ensures.last ∙ ap option_copied c.in-Some.is in
    let rises = c.the_contents_of_a_proper_tree_rise.ensures c.self.inside.settings (tree_of c.self.inside.tree) c.self.invariant.sound.is.proper in
    let ok = c.in_ok-batch-in-Some.ensures in
    record {
      further = rw (← c.self.view_is) (put_further all (contents copy.store.tree) c.rows_after-rows.result (option_copied c.args.last) (contents c.batch.new.self.store.tree) c.in-Some.key.now rises begun
          (c.rows_after-rows.ensures (contents copy.store.tree) begun.left begun.whole begun.last) ended
          (ok.contents ∙ ap (λ (x : List (Command Global)). map_after_all (contents copy.store.tree) x) (c.deref.ensures.value ∙ put)));
      log = ok.store ∙ ap (λ (t : Tree). with_tree copy.store t) (sym (ap (λ (st : Store). st.tree) ok.store));
      rest = c.batch.ensures.rest;
      tree = λ left whole. (
          let there = subst (λ x. contents copy.store.tree ++ left ≡ contents x.store.tree) (sym c.self.view_is) whole in
          let rows = c.rows_after-rows.ensures (contents copy.store.tree) left there begun.last in
          piece_put copy.settings copy.store left c.rows_after-rows.result c.puts_of.new.puts.items c.deref.result.now c.in-Some.key.now rows ended put c.deref.ensures.value
          all c.batch.new.self.store rises there ok.store ok.allowed.0 ok.contents);
      refused = λ _ _. tt;
    }

pub returns : goal.returns
returns g c =
    let all = contents (tree_of c.self.inside.tree) in
    let copy = c.args.copy.now in
    let begun = subst (λ x. IsBegun (contents x.store.tree) (contents copy.store.tree) (option_copied c.args.last)) (sym c.self.view_is) c.requires.begun in
    let rows = c.rows_after-rows.ensures (contents copy.store.tree) begun.left begun.whole begun.last in
    let ended : last_key None c.rows_after-rows.result ≡ None = sym c.in_ok-key.ensures.last ∙ ap option_copied c.in-None.is in
    record {
      further = rw (← c.self.view_is) (put_all_there all (contents copy.store.tree) c.rows_after-rows.result (option_copied c.args.last) begun rows ended);
      log = refl;
      rest = (refl, refl, refl);
      tree = λ _ _. refl;
      refused = λ _ _. tt;
    }
