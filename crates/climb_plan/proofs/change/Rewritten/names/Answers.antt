use Rattle.std.proofs.Common.{◌≡◌, ℕ, List, ◌∙◌, ◌++◌, ap, map, take, IfOk}
use Rattle.std.specs.Prelude.{Result, Ok, Err}
use Rattle.split_plan.specs.Frames.{frame_of}
use Rattle.climb_plan.specs.Rewriting.{Remade, named_pages}
use Rattle.climb_plan.proofs.ChangedNames.{named_blank}
use Rattle.climb_plan.proofs.change.Rewritten.names.Goals as goal

from_ok : {T E : Type 0} (r : Result T E) (P Q : T → Type 0) → ((x : T) → P x → Q x) → IfOk r P → IfOk r Q
from_ok (Ok x) P Q f h = f x h
from_ok (Err e) P Q f h = tt

pub returns : goal.returns
returns c =
    let r = c.args.self.now in
    let pieces = ap (λ (x : Remade). x.pieces) c.self.view_is in
    let members = c.deref.ensures.value ∙ ap (λ (x : Remade). x.members) c.self.view_is in
    let fresh = c.deref-2.ensures.value ∙ ap (λ (x : Remade). x.fresh) c.self.view_is in
    let named =
    named_blank c.blanks.result.now r.pieces (take 1 c.deref.result.now ++ c.deref-2.result.now) (c.blanks.ensures ∙ ap (map frame_of) pieces)
    ∙ ap (λ (ms : List ℕ). named_pages r.pieces (take 1 ms ++ c.deref-2.result.now)) members
    ∙ ap (λ (ns : List ℕ). named_pages r.pieces (take 1 r.members ++ ns)) fresh in
    from_ok c.names_in.result _ (λ names. names.items ≡ named_pages r.pieces (take 1 r.members ++ r.fresh)) (λ names h. h ∙ named) c.names_in.ensures
