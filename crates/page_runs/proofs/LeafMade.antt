-- The output for a leaf in memory: its run and its replies are those of its entries.
use Rattle.std.specs.Prelude.{◌≡◌, Bool, List}
use Rattle.std.proofs.Common.{sym, ap, ◌∙◌}
use Rattle.std.specs.declared.alloc.Global.{Global}
use Rattle.keys.specs.Bytes.{Bytes, Pairs, Changes}
use Rattle.keys.specs.Step.{replies_to}
use Rattle.keys.specs.declared.command.Command.{Command}
use Rattle.keys.specs.declared.piece.Piece.{Piece}
use Rattle.keys.specs.declared.settings.Settings.{Settings}
use Rattle.delta_chain.specs.Lazy.{Lazy, seen}
use Rattle.delta_chain.specs.Layers.{Layers, entries_of}
use Rattle.delta_chain.proofs.LazyLemmas.{entries-seen}
use Rattle.index_page.specs.InMemory.{InMemory, page_shown, lazy_of}
use Rattle.index_page.specs.InMemory.InMemory.{LeafInMemory}
use Rattle.index_page.specs.Page.{PageOfKind}
use Rattle.index_page.specs.Page.PageOfKind.{Leaf}
use Rattle.routing.specs.Routes.{Route}
use Rattle.page_runs.specs.AfterRun.{after_run, class_after, is_replaced}
use Rattle.page_runs.specs.LeafOutcome.{leaf_class_now, is_leaf_replaced_now}
use Rattle.page_runs.specs.LeafWork.{LeafMade, leaf_made, leaf_updated}
use Rattle.page_runs.specs.NetRun.{net_run}
use Rattle.page_runs.specs.Replies.{commands_at, pieces_of}
use Rattle.page_runs.specs.declared.class.Class.{Class}
use Rattle.page_runs.specs.declared.leaf_after.LeafWayBack.{LeafWayBack}

-- the output for a leaf, from the page and the facts about it
abbrev Made : Route → Bytes → Layers Bytes → Class → Bool → List (Piece Global) → LeafMade
Made route low layers class replaced pieces = record {
  updated = record { placed = record { pid = route.pid; page = record { low = low; layers = layers } }; class = class; replaced = replaced };
  pieces = pieces;
}

module _ (s : Settings) (batch : List (Command Global)) (route : Route) (low : Bytes) (c after : Lazy Bytes) (way_back : LeafWayBack) where
  abbrev Run : Changes Bytes
  Run = net_run (entries_of (seen c)) (commands_at batch route.places)

  abbrev After : Changes Bytes → List (Piece Global) → LeafMade
  After run pieces = Made route low (after_run s (seen c) run) (class_after s (seen c) run) (is_replaced s (seen c) run) pieces

  -- the leaf, its class and whether it was replaced
  made_by : (run : Changes Bytes) (pieces : List (Piece Global)) → seen after ≡ after_run s (seen c) run → leaf_class_now way_back ≡ class_after s (seen c) run → is_leaf_replaced_now way_back ≡ is_replaced s (seen c) run
      → (leaf_updated (LeafInMemory low after) way_back route pieces).made ≡ After run pieces
  made_by run pieces page class replaced =
      ap (λ (l : Layers Bytes). Made route low l (leaf_class_now way_back) (is_leaf_replaced_now way_back) pieces) page
      ∙ ap (λ (k : Class). Made route low (after_run s (seen c) run) k (is_leaf_replaced_now way_back) pieces) class
      ∙ ap (λ (b : Bool). Made route low (after_run s (seen c) run) (class_after s (seen c) run) b pieces) replaced

  -- with its run and its replies, which were had of the chain in memory
  pub made_in_memory : (job : PageOfKind) (whole : Layers Bytes) (run : Changes Bytes) (pieces : List (Piece Global))
      → job ≡ Leaf (record { low = low; layers = seen c }) → whole ≡ c.chain
      → run ≡ net_run (entries_of whole) (commands_at batch route.places) → pieces ≡ pieces_of route.places (replies_to (entries_of whole) (commands_at batch route.places))
      → seen after ≡ after_run s (seen c) run → leaf_class_now way_back ≡ class_after s (seen c) run → is_leaf_replaced_now way_back ≡ is_replaced s (seen c) run
      → (leaf_updated (LeafInMemory low after) way_back route pieces).made ≡ leaf_made s batch (record { page = job; route = route })
  made_in_memory job whole run pieces is memory ran said page class replaced =
      let same : entries_of whole ≡ entries_of (seen c) = ap (λ (p : Layers Bytes). entries_of p) memory ∙ sym (entries-seen c) in
      made_by run pieces page class replaced
      ∙ ap (λ (r : Changes Bytes). After r pieces)
      (ran ∙ ap (λ (es : Pairs Bytes). net_run es (commands_at batch route.places)) same)
      ∙ ap (λ (ps : List (Piece Global)). After Run ps)
      (said ∙ ap (λ (es : Pairs Bytes). pieces_of route.places (replies_to es (commands_at batch route.places))) same)
      ∙ sym (ap (λ (p : PageOfKind). leaf_made s batch (record { page = p; route = route })) is)

-- the same where the run was put on the leaf in place: old and new are the leaf in memory before and after
module _ (s : Settings) (batch : List (Command Global)) (route : Route) (low : Bytes) (leaf : Lazy Bytes) (old new : InMemory) (way_back : LeafWayBack) (job : PageOfKind) where
  pub made_in_place : (whole : Layers Bytes) (run : Changes Bytes) (pieces : List (Piece Global))
      → page_shown old ≡ job → old ≡ LeafInMemory low leaf → whole ≡ leaf.chain
      → run ≡ net_run (entries_of whole) (commands_at batch route.places) → pieces ≡ pieces_of route.places (replies_to (entries_of whole) (commands_at batch route.places))
      → new ≡ LeafInMemory low (lazy_of new) → seen (lazy_of new) ≡ after_run s (seen (lazy_of old)) run
      → leaf_class_now way_back ≡ class_after s (seen (lazy_of old)) run → is_leaf_replaced_now way_back ≡ is_replaced s (seen (lazy_of old)) run
      → (leaf_updated new way_back route pieces).made ≡ leaf_made s batch (record { page = job; route = route })
  made_in_place whole run pieces shown is memory ran said now page class replaced =
      let same : lazy_of old ≡ leaf = ap (λ (m : InMemory). lazy_of m) is in
      ap (λ (m : InMemory). (leaf_updated m way_back route pieces).made) now
      ∙ made_in_memory s batch route low leaf (lazy_of new) way_back job whole run pieces
      (sym shown ∙ ap (λ (m : InMemory). page_shown m) is) memory ran said
      (page ∙ ap (λ (c : Lazy Bytes). after_run s (seen c) run) same)
      (class ∙ ap (λ (c : Lazy Bytes). class_after s (seen c) run) same)
      (replaced ∙ ap (λ (c : Lazy Bytes). is_replaced s (seen c) run) same)
