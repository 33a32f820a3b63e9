-- Commands that only read: how they are recognised, and that their net run is empty.
use Rattle.std.specs.Prelude.{◌≡◌, ℕ, ◌+◌, Bool, true, false, ◌&&◌, List, [], ◌∷◌, drop, length, slice_get}
use Rattle.std.proofs.Common.{refl, sym, ap, ◌∙◌}
use Rattle.std.specs.Prelude.{Option, Some, None}
use Rattle.std.specs.Borrow.{Bor}
use Rattle.std.specs.Slice.{IsItemAt}
use Rattle.std.specs.declared.alloc.Global.{Global}
use Rattle.std.proofs.lemmas.List.Folds.{list_all-append}
use Rattle.std.proofs.lemmas.Option.{slice_get_past, slice_get_read}
use Rattle.std.specs.List.{list_all}
use Rattle.std.specs.Option.{option_copied, option_to_list}
use Rattle.keys.specs.Bytes.{Bytes}
use Rattle.keys.specs.declared.command.Command.{Command}
use Rattle.keys.specs.declared.piece.Piece.{Piece}
use Rattle.delta_chain.specs.Lazy.{Lazy, seen}
use Rattle.delta_chain.specs.Layers.{Layers, entries_of}
use Rattle.delta_chain.proofs.LazyLemmas.{entries-seen}
use Rattle.index_page.specs.Page.{PageOfKind}
use Rattle.index_page.specs.Page.PageOfKind.{Leaf}
use Rattle.mapping.specs.Table.{page_of}
use Rattle.mapping.specs.TreeInMemory.{TreeInMemory}
use Rattle.routing.specs.Routes.{Route}
use Rattle.keys.specs.declared.command.Command.TheVariants.{Get, Put, Add, Del, Scan, Wipe}
use Rattle.page_runs.specs.NetRun.{touched, net_run}
use Rattle.page_runs.specs.Reads.{is_read_only, answers_at, route_answers}
use Rattle.page_runs.specs.Replies.{commands_at, pieces_of}
use Rattle.page_runs.proofs.NetLemmas.{Pairs}
use Rattle.keys.specs.Step.{map_after_all, replies_to}

module _ {A : Type 0} where
  touched-looks : (after before : Pairs) (cs : List (Command A)) → list_all is_read_only cs ≡ true → touched after before cs ≡ []
  touched-looks after before [] h = refl
  touched-looks after before (Get k ∷ cs) h = touched-looks after before cs h
  touched-looks after before (Put k v ∷ cs) h = absurd (cc)
  touched-looks after before (Add k v ∷ cs) h = absurd (cc)
  touched-looks after before (Del k ∷ cs) h = absurd (cc)
  touched-looks after before (Scan lo hi limit ∷ cs) h = touched-looks after before cs h
  touched-looks after before (Wipe lo hi ∷ cs) h = absurd (cc)

  -- the net run of commands that only read is empty, whatever the map
  pub net_run-looks : (m : Pairs) (cs : List (Command A)) → list_all is_read_only cs ≡ true → net_run m cs ≡ []
  net_run-looks m cs h = touched-looks (map_after_all m cs) m cs h

  -- the next place, for all remaining ones
  pub looks_from : (batch : List (Command A)) (places : List ℕ) (i place : ℕ) → drop i places ≡ place ∷ drop (i + 1) places
      → list_all is_read_only (commands_at batch (drop i places)) ≡ (list_all is_read_only (option_to_list (slice_get batch place)) && list_all is_read_only (commands_at batch (drop (i + 1) places)))
  looks_from batch places i place e =
      ap (λ (ps : List ℕ). list_all is_read_only (commands_at batch ps)) e ∙ list_all-append is_read_only (option_to_list (slice_get batch place)) (commands_at batch (drop (i + 1) places))

  module _ (batch : List (Command A)) (places : List ℕ) (i place : ℕ) (next : drop i places ≡ place ∷ drop (i + 1) places) (said : Bool)
      (here : said ≡ list_all is_read_only (option_to_list (slice_get batch place))) (so_far : list_all is_read_only (commands_at batch (drop i places)) ≡ list_all is_read_only (commands_at batch places)) where
    -- if the next command changes something, not all only read
    pub one_changes : said ≡ false → false ≡ list_all is_read_only (commands_at batch places)
    one_changes h = sym (ap (λ (b : Bool). b && list_all is_read_only (commands_at batch (drop (i + 1) places))) (sym here ∙ h)) ∙ sym (looks_from batch places i place next) ∙ so_far

    -- if it only reads, the later ones decide
    pub one_looks : said ≡ true → list_all is_read_only (commands_at batch (drop (i + 1) places)) ≡ list_all is_read_only (commands_at batch places)
    one_looks h = sym (ap (λ (b : Bool). b && list_all is_read_only (commands_at batch (drop (i + 1) places))) (sym here ∙ h)) ∙ sym (looks_from batch places i place next) ∙ so_far

-- what `get` returns
pub looked_up : {X : Type 0} (xs : List X) (i : ℕ) (r : Option (Bor X)) → IsItemAt xs i r → option_copied r ≡ slice_get xs i
looked_up xs i None h = sym (slice_get_past xs i h.3)
looked_up xs i (Some x) h = sym (slice_get_read xs (length xs) i x.now refl h.3.0 h.1)

-- the replies of commands on the chain in memory of a leaf in the table are the answers of the route's page
pub late_answers : (t : TreeInMemory) (batch : List (Command Global)) (r : Route) (pid : ℕ) (page : PageOfKind) (low : Bytes) (leaf : Lazy Bytes) (chain : Layers Bytes) (pieces : List (Piece Global))
    → pid ≡ r.pid → page_of t.table pid ≡ Some page → page ≡ Leaf (record { low = low; layers = seen leaf }) → chain ≡ leaf.chain
    → pieces ≡ pieces_of r.places (replies_to (entries_of chain) (commands_at batch r.places)) → pieces ≡ route_answers t batch r
late_answers t batch r pid page low leaf chain pieces same home is memory made =
    made
    ∙ ap (λ (es : Pairs). pieces_of r.places (replies_to es (commands_at batch r.places))) (ap (λ (p : Layers Bytes). entries_of p) memory ∙ sym (entries-seen leaf))
    ∙ sym (ap (λ (o : Option PageOfKind). answers_at batch o r) (ap (λ (n : ℕ). page_of t.table n) (sym same) ∙ home ∙ ap (λ (q : PageOfKind). Some q) is))
