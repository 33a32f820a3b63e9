use Rattle.std.proofs.Common.{◌≡◌, ℕ, List, true, false, map, sym, ap, ◌∙◌, subst}
use Rattle.split_plan.specs.Frames.{begins_with_leaf, frame_of}
use Rattle.split_plan.specs.Moving.{HasLeft}
use Rattle.split_plan.proofs.NewPagesLemmas.{parts_of, made_of_parts, joined_of_parts, frames_of_parts, indexes_complete}
use Rattle.split_plan.proofs.new_pages.NewPages.filled.Goals as goal

pub fill_all-requires : goal.fill_all-requires
fill_all-requires c =
    let s = c.requires.0 in
    let ms = c.args.members.items in
    let b : begins_with_leaf ms ≡ true = ap begins_with_leaf (sym c.deref.ensures.value) ∙ sym c.begins_with_leaf.ensures ∙ c.if-begins_with_leaf.true in
    let frames = c.self.invariant ∙ ap (map frame_of) (c.self.view_is ∙ c.requires.2) ∙ frames_of_parts s ms b in
    (parts_of s ms, frames, subst (λ (es : List (List ℕ × List ℕ)). HasLeft c.new.result.chain c.new.result.leaves.items es) (sym (joined_of_parts s ms b)) c.new.ensures)

pub returns-then-begins_with_leaf : goal.returns-then-begins_with_leaf
returns-then-begins_with_leaf c =
    let s = c.requires.0 in
    let ms = c.args.members.items in
    let b : begins_with_leaf ms ≡ true = ap begins_with_leaf (sym c.deref.ensures.value) ∙ sym c.begins_with_leaf.ensures ∙ c.if-begins_with_leaf.true in
    let frames = c.self.invariant ∙ ap (map frame_of) (c.self.view_is ∙ c.requires.2) ∙ frames_of_parts s ms b in
    let left = subst (λ (es : List (List ℕ × List ℕ)). HasLeft c.new.result.chain c.new.result.leaves.items es) (sym (joined_of_parts s ms b)) c.new.ensures in
    c.fill_all.ensures (parts_of s ms) frames left ∙ sym (made_of_parts s ms b) ∙ sym c.requires.2

pub returns-else-begins_with_leaf : goal.returns-else-begins_with_leaf
returns-else-begins_with_leaf c =
    let s = c.requires.0 in
    let ms = c.args.members.items in
    let b : begins_with_leaf ms ≡ false = ap begins_with_leaf (sym c.deref.ensures.value) ∙ sym c.begins_with_leaf.ensures ∙ c.if-begins_with_leaf.false in
    indexes_complete s ms c.self.inside.blanks.items b c.requires.1 (c.self.invariant ∙ ap (map frame_of) (c.self.view_is ∙ c.requires.2)) ∙ sym c.requires.2
