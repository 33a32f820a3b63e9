use Rattle.std.proofs.Common.{◌≡◌, ◌∙◌, refl, ap, sym, map, drop}
use Rattle.index_page.specs.InMemory.{page_shown}
use Rattle.climb_plan.specs.Rewriting.{Remade}
use Rattle.climb_plan.proofs.Installing.{first_member, fresh_away, group_done}
use Rattle.climb_plan.proofs.InstallingGroup.{members_at_home, pieces_of_taken, first_is_empty, first_is_put}
use Rattle.climb_plan.proofs.install.install.Goals as goal

pub take_members-pages-requires-clause-home : goal.take_members-pages-requires-clause-home
take_members-pages-requires-clause-home c =
    let r = c.args.group in
    let members : c.into_parts-members.result.0.items ≡ r.members = ap (λ (x : Remade). x.members) (sym c.into_parts-members.ensures.parts) in
    members_at_home c.args.tree.now.table r _ (c.deref.ensures.value ∙ members) c.requires

pub filled-requires : goal.filled-requires
filled-requires c =
    let r = c.args.group in
    let members : c.into_parts-members.result.0.items ≡ r.members = ap (λ (x : Remade). x.members) (sym c.into_parts-members.ensures.parts) in
    let pieces : c.into_parts-members.result.1 ≡ r.pieces = ap (λ (x : Remade). x.pieces) (sym c.into_parts-members.ensures.parts) in
    pieces_of_taken c.args.tree.now.table r c.deref.result.now _ _ (c.deref.ensures.value ∙ members) pieces c.take_members-pages.ensures.pages c.requires

pub put-requires : goal.put-requires
put-requires c =
    let r = c.args.group in
    let k = c.in-Some-Some.first.now in
    let members : c.into_parts-members.result.0.items ≡ r.members = ap (λ (x : Remade). x.members) (sym c.into_parts-members.ensures.parts) in
    let first = first_member _ r.members k (c.deref-2.ensures.value ∙ members) c.in-Some-Some.ensures.value in
    first_is_empty c.args.tree.now r k (drop 1 r.members) c.requires first _ c.deref.result.now (c.deref.ensures.value ∙ members) c.take_members-pages.ensures.tree

pub put_pieces-requires : goal.put_pieces-requires
put_pieces-requires c =
    let r = c.args.group in
    let k = c.in-Some-Some.first.now in
    let p = page_shown c.in-Some-Some.piece.value in
    let members : c.into_parts-members.result.0.items ≡ r.members = ap (λ (x : Remade). x.members) (sym c.into_parts-members.ensures.parts) in
    let fresh : c.into_parts-members.result.2.items ≡ r.fresh = ap (λ (x : Remade). x.fresh) (sym c.into_parts-members.ensures.parts) in
    let first = first_member _ r.members k (c.deref-2.ensures.value ∙ members) c.in-Some-Some.ensures.value in
    let put = first_is_put c.args.tree.now r k (drop 1 r.members) c.requires first _ c.deref.result.now (c.deref.ensures.value ∙ members) c.take_members-pages.ensures.tree _ p (rw c.of_memory.ensures at c.put.ensures) in
    fresh_away c.args.tree.now r k (drop 1 r.members) p c.requires first _ refl _ _ _ refl (c.deref-3.ensures.value ∙ fresh) put

pub returns : goal.returns
returns c =
    let r = c.args.group in
    let k = c.in-Some-Some.first.now in
    let p = page_shown c.in-Some-Some.piece.value in
    let members : c.into_parts-members.result.0.items ≡ r.members = ap (λ (x : Remade). x.members) (sym c.into_parts-members.ensures.parts) in
    let pieces : c.into_parts-members.result.1 ≡ r.pieces = ap (λ (x : Remade). x.pieces) (sym c.into_parts-members.ensures.parts) in
    let fresh : c.into_parts-members.result.2.items ≡ r.fresh = ap (λ (x : Remade). x.fresh) (sym c.into_parts-members.ensures.parts) in
    let first = first_member _ r.members k (c.deref-2.ensures.value ∙ members) c.in-Some-Some.ensures.value in
    let put = first_is_put c.args.tree.now r k (drop 1 r.members) c.requires first _ c.deref.result.now (c.deref.ensures.value ∙ members) c.take_members-pages.ensures.tree _ p (rw c.of_memory.ensures at c.put.ensures) in
    let all = sym pieces ∙ sym c.filled.ensures ∙ ap (map (λ page. page_shown page.value)) (sym c.into_iter-rest.ensures.rest ∙ c.in-Some-Some.ensures'.items) in
    group_done c.args.tree.now r k (drop 1 r.members) p c.requires first _ refl _ _ _ _ _ refl (c.deref-3.ensures.value ∙ fresh) all put c.put_pieces.ensures
