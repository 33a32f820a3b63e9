-- The runs of a batch's leaves, which lack some commands that find nothing there: the results of the leaves are the same as for all commands that go
-- to them, except for blank answers.
use Rattle.std.specs.Prelude.{◌≡◌, ℕ, Bool, true, false, not, cond, ⊤, List, [], ◌∷◌, map, Option}
use Rattle.std.proofs.Common.{refl, sym, ap, ◌∙◌, subst}
use Rattle.std.specs.List.{AllByRecursion, filter}
use Rattle.std.specs.declared.alloc.Global.{Global}
use Rattle.keys.specs.Narrowed.{with_ends}
use Rattle.keys.specs.Order.{IsRising}
use Rattle.keys.specs.Range.{in_range}
use Rattle.keys.specs.Step.{replies_to}
use Rattle.keys.specs.declared.command.Command.{Command}
use Rattle.keys.specs.declared.command.Reply.{Reply}
use Rattle.keys.specs.declared.settings.Settings.{Settings}
use Rattle.index_page.specs.Children.{Place}
use Rattle.index_page.specs.Page.{PageOfKind, entries, leaf_of}
use Rattle.index_page.specs.Page.PageOfKind.{Leaf}
use Rattle.index_page.proofs.ListLemmas.{all-filter}
use Rattle.mapping.specs.Table.{Mapping, page_of}
use Rattle.routing.specs.Routes.{Route, route_to, has_some, goes_at, places_within}
use Rattle.routing.specs.Runs.{IsRunOf, AreRunsOf}
use Rattle.routing.proofs.RouteLemmas.{kept, own_places}
use Rattle.routing.proofs.RunLemmas.{below_run}
use Rattle.page_runs.specs.LeafWork.{LeafMade, leaf_made, placed_leaf}
use Rattle.page_runs.specs.NetRun.{net_run}
use Rattle.page_runs.specs.Reads.{is_only_read}
use Rattle.page_runs.specs.Replies.{ArePlacesOf, commands_at, pieces_of}
use Rattle.page_runs.specs.Updated.{Updated, updated}
use Rattle.page_runs.proofs.EndedBatch.{AreNear, EndsBefore, AllEndBefore, replies-ended, net_run-ended}
use Rattle.page_runs.proofs.IdleBatch.{AreButBlank, AreQuiet, net_run-kept, pieces-kept, page_quiet, looks-kept}
use Rattle.climb_plan.specs.Changing.{SeenPage, page_seen}
use Rattle.climb_plan.specs.Installing.{page_or_none}
use Rattle.engine.specs.Leaves.{leaf_held, leaves_made, answers, route_pids, is_written, written_routes}
use Rattle.engine.proofs.BlankAnswers.{but_append}
use Rattle.engine.proofs.LeafRoutes.{HoldsPart}

abbrev Pairs : Type 0
Pairs = List (List ℕ × List ℕ)

abbrev Changes : Type 0
Changes = List (List ℕ × Option (List ℕ))

some_of_part : (keeps : ℕ → Bool) (ps : List ℕ) → has_some (filter keeps ps) ≡ true → has_some ps ≡ true
some_of_part keeps [] h = absurd (cc)
some_of_part keeps (p ∷ ps) h = refl

module _ (s : Settings) (cs : List (Command Global)) (ends : List (Option (List ℕ))) (t : Mapping PageOfKind) where
  abbrev ended : List (Command Global)
  ended = with_ends cs ends

  -- the result of a leaf's job for a route's commands
  abbrev made_by : List (Command Global) → Route → LeafMade
  made_by ds r = leaf_made s ds (leaf_held t r)

  -- the results of a leaf for the commands of both routes are the same, except for blank answers, with closer ends or without
  pub record IsSameWork (r w : Route) : Type 0 where
    pub pid : r.pid ≡ w.pid
    pub reads : is_only_read cs r ≡ is_only_read cs w
    pub nearer : made_by cs r ≡ made_by ended r
    pub updated : (made_by ended r).updated ≡ (made_by ended w).updated
    pub pieces : AreButBlank ended (made_by ended r).pieces (made_by ended w).pieces
    pub places : ArePlacesOf ended r.places

  -- the same of each
  abbrev pub AreSameWork : List Route → List Route → Type 0
  AreSameWork [] [] = ⊤
  AreSameWork [] (w ∷ ws) = ⊥
  AreSameWork (r ∷ rs) [] = ⊥
  AreSameWork (r ∷ rs) (w ∷ ws) = IsSameWork r w × AreSameWork rs ws

  module _ (m : Pairs) (rises : IsRising m) (keys : List (List ℕ)) (near : AreNear cs ends keys) where
    module _ (at : Place) (h : HoldsPart t m at) (f : EndsBefore keys at.low at.end) where
      abbrev own : Pairs
      own = entries (leaf_of (page_or_none (page_of t at.pid)))

      part : own ≡ in_range at.low at.end m
      part = let home = h.home in let leaf : own ≡ entries h.leaf = rw home refl in leaf ∙ h.part

      abbrev run_with : List ℕ → Route
      run_with ps = record { pid = at.pid; places = ps }

      -- with closer ends the result of a leaf is the same for commands that go to it
      same_ended : (ps : List ℕ) → AllByRecursion (λ place. goes_at ended at.low at.end place ≡ true) ps → made_by cs (run_with ps) ≡ made_by ended (run_with ps)
      same_ended ps goes =
          let held = leaf_held t (run_with ps) in
          let answers : replies_to own (commands_at cs ps) ≡ replies_to own (commands_at ended ps) =
          ap (λ (x : Pairs). replies_to x (commands_at cs ps)) part
          ∙ sym (replies-ended cs ends keys near at.low at.end f ps m rises goes)
          ∙ sym (ap (λ (x : Pairs). replies_to x (commands_at ended ps)) part) in
          let make : Changes → List (Reply Global) → LeafMade = λ run rs. record { updated = updated s (placed_leaf held) run; pieces = pieces_of ps rs } in
          ap (λ (run : Changes). make run (replies_to own (commands_at cs ps))) (sym (net_run-ended cs ends ps own))
          ∙ ap (λ (rs : List (Reply Global)). make (net_run own (commands_at ended ps)) rs) answers

      module _ (r : Route) (run : IsRunOf ended at r) where
        abbrev whole : List ℕ
        whole = places_within at.low at.end ended

        abbrev some : List ℕ
        some = filter run.keeps whole

        quiet : AreQuiet ended run.keeps own whole
        quiet = subst (λ (x : Pairs). AreQuiet ended run.keeps x whole) (sym part) (page_quiet ended at.low at.end run.keeps run.idle m rises)

        of_some : IsSameWork (run_with some) (route_to ended at)
        of_some = record {
          pid = refl;
          reads = looks-kept at.low at.end cs ends run.keeps run.idle;
          nearer = same_ended some (all-filter (λ place. goes_at ended at.low at.end place ≡ true) run.keeps whole (own_places at.low at.end ended));
          updated = ap (λ (x : Changes). updated s (placed_leaf (leaf_held t (run_with some))) x) (net_run-kept ended run.keeps whole own quiet);
          pieces = pieces-kept ended run.keeps whole own quiet;
          places = subst (λ (ps : List ℕ). ArePlacesOf ended ps) run.places (below_run ended at r run);
        }

        run_is : run_with some ≡ r
        run_is = let made : ℕ → List ℕ → Route = λ pid ps. record { pid = pid; places = ps } in ap (λ (ps : List ℕ). made at.pid ps) (sym run.places) ∙ ap (λ (pid : ℕ). made pid r.places) (sym run.pid)

        of_run : IsSameWork r (route_to ended at)
        of_run = subst (λ (x : Route). IsSameWork x (route_to ended at)) run_is of_some

        -- and some command goes to the page
        some_go : has_some whole ≡ true
        some_go = some_of_part run.keeps whole (ap has_some (sym run.places) ∙ run.some)

    -- the leaves of a level
    pub runs_same : {ats : List Place} {rs : List Route} → AreRunsOf ended ats rs → AllByRecursion (HoldsPart t m) ats → AllEndBefore keys ats → AreSameWork rs (kept ended ats)
    runs_same (AreRunsOf.none) h f = tt
    runs_same (AreRunsOf.next {ats = ats} {rs = rs} at r run a) h f =
        subst (λ (ws : List Route). AreSameWork (r ∷ rs) ws) (ap (λ (b : Bool). cond b (route_to ended at ∷ kept ended ats) (kept ended ats)) (sym (some_go at h.0 f.0 r run)))
        (of_run at h.0 f.0 r run, runs_same a h.1 f.1)
    runs_same (AreRunsOf.left_out {ats = ats} {rs = rs} at e a) h f =
        subst (λ (ws : List Route). AreSameWork rs ws) (ap (λ (b : Bool). cond b (route_to ended at ∷ kept ended ats) (kept ended ats)) (sym e)) (runs_same a h.1 f.1)

  -- ---- the consequences for all leaves

  pub same_pids : (rs ws : List Route) → AreSameWork rs ws → route_pids rs ≡ route_pids ws
  same_pids [] [] a = refl
  same_pids [] (w ∷ ws) a = absurd a
  same_pids (r ∷ rs) [] a = absurd a
  same_pids (r ∷ rs) (w ∷ ws) a = ap (λ (n : ℕ). n ∷ route_pids rs) a.0.pid ∙ ap (λ (ns : List ℕ). w.pid ∷ ns) (same_pids rs ws a.1)

  pub all_places : (rs ws : List Route) → AreSameWork rs ws → AllByRecursion (λ r. ArePlacesOf ended r.places) rs
  all_places [] [] a = tt
  all_places [] (w ∷ ws) a = absurd a
  all_places (r ∷ rs) [] a = absurd a
  all_places (r ∷ rs) (w ∷ ws) a = (a.0.places, all_places rs ws a.1)

  pub all_ended : (rs ws : List Route) → AreSameWork rs ws → leaves_made s cs t rs ≡ leaves_made s ended t rs
  all_ended [] [] a = refl
  all_ended [] (w ∷ ws) a = absurd a
  all_ended (r ∷ rs) [] a = absurd a
  all_ended (r ∷ rs) (w ∷ ws) a = ap (λ (x : LeafMade). x ∷ leaves_made s cs t rs) a.0.nearer ∙ ap (λ (xs : List LeafMade). made_by ended r ∷ xs) (all_ended rs ws a.1)

  -- all answers, except for blank ones
  pub all_but_blank : (rs ws : List Route) → AreSameWork rs ws → AreButBlank ended (answers (leaves_made s ended t rs)) (answers (leaves_made s ended t ws))
  all_but_blank [] [] a = AreButBlank.none
  all_but_blank [] (w ∷ ws) a = absurd a
  all_but_blank (r ∷ rs) [] a = absurd a
  all_but_blank (r ∷ rs) (w ∷ ws) a = but_append ended a.0.pieces (all_but_blank rs ws a.1)

  pass_by : (b c : Bool) (r w : Route) (rs ws : List Route) → b ≡ c → IsSameWork r w → AreSameWork rs ws → AreSameWork (cond b (r ∷ rs) rs) (cond c (w ∷ ws) ws)
  pass_by true true r w rs ws e h a = (h, a)
  pass_by true false r w rs ws e h a = absurd (cc)
  pass_by false true r w rs ws e h a = absurd (cc)
  pass_by false false r w rs ws e h a = a

  -- the same leaves are changed
  pub changed_same : (rs ws : List Route) → AreSameWork rs ws → AreSameWork (written_routes cs rs) (filter (is_written cs) ws)
  changed_same [] [] a = tt
  changed_same [] (w ∷ ws) a = absurd a
  changed_same (r ∷ rs) [] a = absurd a
  changed_same (r ∷ rs) (w ∷ ws) a = pass_by (is_written cs r) (is_written cs w) r w (written_routes cs rs) (filter (is_written cs) ws) (ap not a.0.reads) a.0 (changed_same rs ws a.1)

  abbrev seen_by : List (Command Global) → List Route → List SeenPage
  seen_by ds rs = map (λ x. page_seen Leaf x.updated) (leaves_made s ds t rs)

  -- and their views are the same
  pub same_seen : (rs ws : List Route) → AreSameWork rs ws → seen_by cs rs ≡ seen_by ended ws
  same_seen [] [] a = refl
  same_seen [] (w ∷ ws) a = absurd a
  same_seen (r ∷ rs) [] a = absurd a
  same_seen (r ∷ rs) (w ∷ ws) a =
      let seen : Updated (List ℕ) → SeenPage = λ x. page_seen Leaf x in
      ap (λ (x : SeenPage). x ∷ seen_by cs rs) (ap (λ (x : LeafMade). seen x.updated) a.0.nearer ∙ ap seen a.0.updated) ∙ ap (λ (xs : List SeenPage). seen (made_by ended w).updated ∷ xs) (same_seen rs ws a.1)
