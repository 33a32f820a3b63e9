use Rattle.std.proofs.Common.{List, ℕ, Some, sym, ap, ◌∙◌}
use Rattle.std.specs.Option.{option_copied}
use Rattle.rayon.proofs.ListFacts.{IfOk-then}
use Rattle.routing.specs.Idle.{gives_at}
use Rattle.routing.specs.Keyed.{places_of}
use Rattle.routing.specs.Shares.{first_emptying, upto}
use Rattle.routing.proofs.IdleLemmas.{any_of_places, all_stay, stay_upto}
use Rattle.routing.proofs.reaching.without_idle.Goals as goal

pub returns-then-gives_any : goal.returns-then-gives_any
returns-then-gives_any c =
    let cs = c.args.batch.now in
    all_stay cs (option_copied c.args.end) (places_of c.args.keyed.now) c.args.reaching.items (sym (any_of_places (gives_at cs) c.args.keyed.now) ∙ sym c.gives_any.ensures ∙ c.if-gives_any.true)

pub returns : goal.returns
returns c =
    let cs = c.args.batch.now in
    let end = option_copied c.args.end in
    let rs = c.args.reaching.items in
    let none = sym (any_of_places (gives_at cs) c.args.keyed.now) ∙ sym c.gives_any.ensures ∙ c.if-gives_any.false in
    let first = ap (λ (xs : List ℕ). first_emptying cs end xs) (sym c.deref.ensures.value) ∙ sym c.first_emptying.ensures ∙ c.in-Some.is in
    IfOk-then c.upto.result _ _ c.upto.ensures
    (λ kept h. h ∙ ap (λ (xs : List ℕ). upto (Some c.in-Some.last) xs) c.deref-2.ensures.value ∙ sym (stay_upto cs end (places_of c.args.keyed.now) rs c.in-Some.last none first))
