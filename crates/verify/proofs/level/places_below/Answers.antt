use Rattle.std.proofs.Common.{◌≡◌, ◌++◌, ◌+◌, ◌<◌, ◌≤◌, ℕ, List, length, get_or, drop, flat_map, append_assoc, refl, sym, ap, ◌∙◌}
use Rattle.std.proofs.lemmas.List.{append-nil, drop_all, at_drop_more}
use Rattle.mapping.specs.Finding.{children_at}
use Rattle.mapping.specs.TreeInMemory.{tree_of}
use Rattle.verify.proofs.level.places_below.Goals as goal

-- the lists that f makes of the first i, and then of the others, are those of all
module _ {X Y : Type 0} (f : X → List Y) (xs : List X) (i : ℕ) (built : List Y) (so_far : built ++ flat_map f (drop i xs) ≡ flat_map f xs) where
  one_more : (x : X) (now : List Y) → i < length xs → x ≡ get_or xs i x → now ≡ built ++ f x → now ++ flat_map f (drop (i + 1) xs) ≡ flat_map f xs
  one_more x now more is same =
      let left : flat_map f (drop i xs) ≡ f x ++ flat_map f (drop (i + 1) xs) =
      at_drop_more (flat_map f) xs i x more ∙ ap (λ (y : X). f y ++ flat_map f (drop (i + 1) xs)) (sym is) in
      rw (same, append_assoc) (rw left at so_far)

  no_more : length xs ≤ i → built ≡ flat_map f xs
  no_more done = sym (append-nil built) ∙ (rw (drop_all i xs done) at so_far)

pub loop-place-init : goal.loop-place-init
loop-place-init c = rw c.new-below.ensures.items refl

pub loop-place-preserved : goal.loop-place-preserved
loop-place-preserved c =
    one_more (children_at (tree_of c.args.tree.now).pages) c.args.places.now c.loop-place.place-index c.loop-place.below.items c.loop-place.invariant
    c.place-item.result c.push_children.new.below.items c.loop-place-test.true c.place-item.is c.in_ok-push_children.ensures

pub returns : goal.returns
returns c =
    no_more (children_at (tree_of c.args.tree.now).pages) c.args.places.now c.loop-place.place-index c.loop-place.below.items c.loop-place.invariant c.loop-place-test.false
