use Rattle.std.proofs.Common.{◌≡◌, ◌<◌, ◌∙◌, sym, ap, arith, length, true, IfOk, OnOk}
use Rattle.std.specs.Prelude.{Result, Ok, Err}
use Rattle.keys.specs.Bytes.{Bytes}
use Rattle.delta_chain.specs.Lazy.{Lazy, seen}
use Rattle.index_page.specs.InMemory.{lazy_of}
use Rattle.page_runs.specs.AfterRun.{must_replace, after_run, class_after}
use Rattle.page_runs.specs.LeafOutcome.{leaf_class_now}
use Rattle.page_runs.proofs.LeafAfter.{page_replaced, class_replaced, values_of_leaf}
use Rattle.page_runs.proofs.leaf_after.put_leaf_run.Goals as goal

-- what follows from a fact at an `Ok`, and from one on what is in it
at_ok : {T E : Type 0} (r : Result T E) (P Q : Type 0) → (P → Q) → OnOk r P → OnOk r Q
at_ok (Ok x) P Q f h = f h
at_ok (Err e) P Q f h = tt

from_ok : {T E : Type 0} (r : Result T E) (P Q : T → Type 0) → ((x : T) → P x → Q x) → IfOk r P → IfOk r Q
from_ok (Ok x) P Q f h = f x h
from_ok (Err e) P Q f h = tt

pub returns-then-must_replace_leaf-clause-page : goal.returns-then-must_replace_leaf-clause-page
returns-then-must_replace_leaf-clause-page c =
    let some : 0 < length c.args.run = omega (arith, c.len.ensures.count, c.if-len-eq0.false) in
    let values = sym (values_of_leaf c.args.page.now _ c.in-Some.leaf.now c.in-Some.ensures) in
    let must : true ≡ must_replace c.args.settings.now (seen (lazy_of c.args.page.now)) c.args.run = c.if-must_replace_leaf.ensures ∙ ap (λ (l : Lazy Bytes). must_replace c.args.settings.now (seen l) c.args.run) values in
    let e = page_replaced c.args.settings.now (lazy_of c.args.page.now) c.args.run some must in
    at_ok c.replace_page.result _ (seen (lazy_of c.replace_page.new.page) ≡ after_run c.args.settings.now (seen (lazy_of c.args.page.now)) c.args.run) (λ h. h ∙ e) c.replace_page.ensures.page

pub returns-then-must_replace_leaf-clause-class : goal.returns-then-must_replace_leaf-clause-class
returns-then-must_replace_leaf-clause-class c =
    let some : 0 < length c.args.run = omega (arith, c.len.ensures.count, c.if-len-eq0.false) in
    let values = sym (values_of_leaf c.args.page.now _ c.in-Some.leaf.now c.in-Some.ensures) in
    let must : true ≡ must_replace c.args.settings.now (seen (lazy_of c.args.page.now)) c.args.run = c.if-must_replace_leaf.ensures ∙ ap (λ (l : Lazy Bytes). must_replace c.args.settings.now (seen l) c.args.run) values in
    let e = class_replaced c.args.settings.now (lazy_of c.args.page.now) c.args.run some must in
    from_ok c.replace_page.result _ (λ way_back. leaf_class_now way_back ≡ class_after c.args.settings.now (seen (lazy_of c.args.page.now)) c.args.run) (λ way_back h. h ∙ e) c.replace_page.ensures.class
