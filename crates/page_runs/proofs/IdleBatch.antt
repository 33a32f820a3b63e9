-- Commands that find nothing left in a page: without them the page's other commands come to the same run, and of the answers only blank
-- ones are missing.
use Rattle.std.specs.Prelude.{◌≡◌, ◌⊎◌, ℕ, zero, suc, Bool, true, false, cond, ◌&&◌, ◌||◌, ⊤, List, [], ◌∷◌, ◌++◌, length, take, drop, nat_eq, option_to_list, slice_get, Option, Some, None}
use Rattle.std.proofs.Common.{refl, sym, ap, ◌∙◌, subst, append_assoc, inl, inr, eqb-true}
use Rattle.std.specs.List.{filter, list_any, list_all}
use Rattle.std.specs.Option.{option_map}
use Rattle.std.proofs.lemmas.Bool.{and_parts}
use Rattle.std.proofs.lemmas.List.Folds.{list_all-append}
use Rattle.keys.specs.CommandKey.{is_ranged}
use Rattle.keys.specs.Order.{IsRising}
use Rattle.keys.specs.Places.{is_some_that, is_ranged_at}
use Rattle.keys.specs.Narrowed.{with_end, first_end, with_ends}
use Rattle.keys.specs.Range.{is_below, is_before, is_within, in_range, out_of_range}
use Rattle.keys.specs.Step.{reply_to, map_after, replies_to, map_after_all}
use Rattle.keys.specs.declared.command.Command.{Command}
use Rattle.keys.specs.declared.command.Command.TheVariants.{Get, Put, Add, Del, Scan, Wipe}
use Rattle.keys.specs.declared.command.Reply.{Reply}
use Rattle.keys.specs.declared.command.Reply.TheVariants.{Rows, Wiped}
use Rattle.keys.specs.declared.piece.Piece.{Piece}
use Rattle.keys.proofs.NarrowedLemmas.{get-with_ends}
use Rattle.keys.proofs.RunLemmas.{rising-map_after}
use Rattle.index_page.specs.Children.{is_between}
use Rattle.mapping.specs.FreshPids.{is_among}
use Rattle.routing.specs.Idle.{covers, empties, gives_within, takes_page, is_idle}
use Rattle.routing.specs.Routes.{goes_to, places_from, places_within}
use Rattle.routing.specs.SortedPlaces.{begins_in, reaches}
use Rattle.routing.proofs.RouteLemmas.{among-places, goes_as, or_true}
use Rattle.routing.proofs.RunLemmas.{in_wipe, reaching_ranged, IsFirst, first_found, idle_parts, first_not_idle}
use Rattle.routing.proofs.SliceLemmas.{among-filter}
use Rattle.routing.proofs.SortLemmas.{among_itself}
use Rattle.page_runs.specs.NetRun.{noted_by, touched, net_run}
use Rattle.page_runs.specs.Reads.{is_read_only}
use Rattle.page_runs.specs.Replies.{commands_at, pieces_of}
use Rattle.page_runs.proofs.PageParts.{Pairs, map_after-part}

abbrev Changes : Type 0
Changes = List (List ℕ × Option (List ℕ))

-- ---- lists

or_none : (a b : Bool) → (a || b) ≡ false → (a ≡ false) × (b ≡ false)
or_none true b h = absurd (cc)
or_none false b h = (refl, h)

module _ {X : Type 0} (f : X → Bool) where
  none_by : (b : Bool) (n : ℕ) (xs : List X) → (b || list_any f xs) ≡ false → (list_any f xs ≡ false → list_any f (take n xs) ≡ false) → (b || list_any f (take n xs)) ≡ false
  none_by true n xs h g = absurd (cc)
  none_by false n xs h g = g h

  -- what is found nowhere isn't found at the beginning
  none_first : (n : ℕ) (xs : List X) → list_any f xs ≡ false → list_any f (take n xs) ≡ false
  none_first zero [] h = refl
  none_first zero (x ∷ xs) h = refl
  none_first (suc n) [] h = refl
  none_first (suc n) (x ∷ xs) h = none_by (f x) n xs h (none_first n xs)

module _ {X : Type 0} where
  stands_there : (done : List X) (x : X) (rest : List X) → slice_get (done ++ x ∷ rest) (length done) ≡ Some x
  stands_there [] x rest = refl
  stands_there (y ∷ done) x rest = stands_there done x rest

  take_done : (done rest : List X) → take (length done) (done ++ rest) ≡ done
  take_done [] [] = refl
  take_done [] (x ∷ rest) = refl
  take_done (y ∷ done) rest = ap (λ (xs : List X). y ∷ xs) (take_done done rest)

  one_more : (done : List X) (x : X) → length (done ++ x ∷ []) ≡ suc (length done)
  one_more [] x = refl
  one_more (y ∷ done) x = ap suc (one_more done x)

  take_none : (n : ℕ) → (let none : List X = [] in take n none ≡ none)
  take_none zero = refl
  take_none (suc n) = refl

-- ---- a page that is taken whole

given_by : (b : Bool) (xs : Pairs) → (b && true) ≡ false → b ≡ true → xs ≡ []
given_by true xs g e = absurd (cc)
given_by false xs g e = absurd (cc)

module _ (low : List ℕ) (end : Option (List ℕ)) where
  cleared_by : (b : Bool) (lo : List ℕ) (hi : Option (List ℕ)) (e : List ℕ × List ℕ) (rest : Pairs) → (b ≡ true → is_within lo hi e.0 ≡ true) → out_of_range lo hi rest ≡ [] → out_of_range lo hi (cond b (e ∷ rest) rest) ≡ []
  cleared_by true lo hi e rest f ih = rw (f refl) ih
  cleared_by false lo hi e rest f ih = ih

  cleared : (lo : List ℕ) (hi : Option (List ℕ)) (m : Pairs) → is_below lo low ≡ true → covers end hi ≡ true → out_of_range lo hi (in_range low end m) ≡ []
  cleared lo hi [] l c = refl
  cleared lo hi (e ∷ m) l c = cleared_by (is_within low end e.0) lo hi e (in_range low end m) (in_wipe low end lo hi e.0 l c) (cleared lo hi m l c)

  empty_by : (b : Bool) (xs es : Pairs) → es ≡ [] → (b ≡ true → xs ≡ []) → cond b xs es ≡ []
  empty_by true xs es e f = f refl
  empty_by false xs es e f = e

  module _ {A : Type 0} where
    -- what takes all of the page leaves it empty
    taken : (m : Pairs) (c : Command A) → IsRising m → takes_page low end c ≡ true → in_range low end (map_after m c) ≡ []
    taken m (Get k) r h = absurd (cc)
    taken m (Put k v) r h = absurd (cc)
    taken m (Add k v) r h = absurd (cc)
    taken m (Del k) r h = absurd (cc)
    taken m (Scan lo hi limit) r h = absurd (let n = (and_parts (is_between lo hi low) false h).1 in cc)
    taken m (Wipe lo hi) r h =
        let parts = and_parts (is_between lo hi low) (covers end hi) h in
        let begins = (and_parts (is_below lo low) (is_before hi low) parts.0).0 in
        let goes : goes_to {A = A} low end (Wipe lo hi) ≡ true = ap (λ (b : Bool). is_within low end lo || b) parts.0 ∙ or_true (is_within low end lo) in
        let c : Command A = Wipe lo hi in
        map_after-part low end m r c ∙ ap (λ (b : Bool). cond b (out_of_range lo hi (in_range low end m)) (in_range low end m)) goes ∙ cleared lo hi m begins parts.1

    -- what gives no value there leaves it so
    stays : (m : Pairs) (c : Command A) → IsRising m → gives_within low end c ≡ false → in_range low end m ≡ [] → in_range low end (map_after m c) ≡ []
    stays m (Get k) r g e = e
    stays m (Put k v) r g e = let c : Command A = Put k v in map_after-part low end m r c ∙ empty_by (is_within low end k) (map_after (in_range low end m) c) (in_range low end m) e (given_by (is_within low end k) (map_after (in_range low end m) c) g)
    stays m (Add k v) r g e = let c : Command A = Add k v in map_after-part low end m r c ∙ empty_by (is_within low end k) (map_after (in_range low end m) c) (in_range low end m) e (given_by (is_within low end k) (map_after (in_range low end m) c) g)
    stays m (Del k) r g e = let c : Command A = Del k in map_after-part low end m r c ∙ empty_by (is_within low end k) (map_after (in_range low end m) c) (in_range low end m) e (λ b. ap (λ (x : Pairs). map_after x c) e)
    stays m (Scan lo hi limit) r g e = e
    stays m (Wipe lo hi) r g e =
        let c : Command A = Wipe lo hi in
        map_after-part low end m r c ∙ empty_by (goes_to low end c) (map_after (in_range low end m) c) (in_range low end m) e (λ b. ap (λ (x : Pairs). map_after x c) e)

    stays_all : (m : Pairs) (cs : List (Command A)) → IsRising m → list_any (gives_within low end) cs ≡ false → in_range low end m ≡ [] → in_range low end (map_after_all m cs) ≡ []
    stays_all m [] r g e = e
    stays_all m (c ∷ cs) r g e =
        let none = or_none (gives_within low end c) (list_any (gives_within low end) cs) g in
        stays_all (map_after m c) cs (rising-map_after m c r) none.1 (stays m c r none.0 e)

    taken_by : (b : Bool) (m : Pairs) (c : Command A) (cs : List (Command A)) (p : ℕ) → IsRising m → takes_page low end c ≡ b → list_any (gives_within low end) cs ≡ false → (b || list_any (takes_page low end) (take p cs)) ≡ true
        → (list_any (takes_page low end) (take p cs) ≡ true → in_range low end (map_after_all (map_after m c) (take p cs)) ≡ []) → in_range low end (map_after_all (map_after m c) (take p cs)) ≡ []
    taken_by true m c cs p r e g t ih = stays_all (map_after m c) (take p cs) (rising-map_after m c r) (none_first (gives_within low end) p cs g) (taken m c r e)
    taken_by false m c cs p r e g t ih = ih t

    -- after a command that deletes all of it, the page is empty, if no command sets a value there
    pub empty_after : (m : Pairs) (cs : List (Command A)) (p : ℕ) → IsRising m → list_any (gives_within low end) cs ≡ false → list_any (takes_page low end) (take p cs) ≡ true → in_range low end (map_after_all m (take p cs)) ≡ []
    empty_after m cs zero r g t = absurd (by cs t)
      where
        by : (ds : List (Command A)) → list_any (takes_page low end) (take 0 ds) ≡ true → ⊥
        by [] h = cc
        by (d ∷ ds) h = cc
    empty_after m [] (suc p) r g t = absurd (cc)
    empty_after m (c ∷ cs) (suc p) r g t =
        let none = or_none (gives_within low end c) (list_any (gives_within low end) cs) g in
        taken_by (takes_page low end c) m c cs p r refl none.1 t (empty_after (map_after m c) cs p (rising-map_after m c r) none.1)

-- ---- a page's commands without some

-- what a page answers to a command that finds nothing there
abbrev pub IsBlank : {A : Type 0} → Reply A → Type 0
IsBlank r = (r ≡ Rows []) ⊎ (r ≡ Wiped 0)

-- these answers differ from those of the second list only by blank answers to commands on ranges
pub data AreButBlank {A : Type 0} (cs : List (Command A)) : List (Piece A) → List (Piece A) → Type 0 where
  none : AreButBlank cs [] []
  next : {qs ps : List (Piece A)} → (p : Piece A) → AreButBlank cs qs ps → AreButBlank cs (p ∷ qs) (p ∷ ps)
  left_out : {qs ps : List (Piece A)} → (p : Piece A) → is_ranged_at cs p.place ≡ true → IsBlank p.reply → AreButBlank cs qs ps → AreButBlank cs qs (p ∷ ps)

module _ {A : Type 0} (cs : List (Command A)) (keeps : ℕ → Bool) where
  -- if a place is left out nothing is there, and its command is on a range
  abbrev pub AreQuiet : Pairs → List ℕ → Type 0
  AreQuiet x [] = ⊤
  AreQuiet x (p ∷ ps) = (c : Command A) × (slice_get cs p ≡ Some c) × (keeps p ≡ false → (x ≡ []) × (is_ranged c ≡ true)) × AreQuiet (map_after x c) ps

  -- such a command changes nothing, records nothing, and gets an empty answer
  still_empty : (x : Pairs) (c : Command A) → x ≡ [] → is_ranged c ≡ true → map_after x c ≡ x
  still_empty x (Get k) e r = refl
  still_empty x (Put k v) e r = absurd (cc)
  still_empty x (Add k v) e r = absurd (cc)
  still_empty x (Del k) e r = absurd (cc)
  still_empty x (Scan lo hi limit) e r = refl
  still_empty x (Wipe lo hi) e r = ap (λ (y : Pairs). out_of_range lo hi y) e ∙ sym e

  notes_nothing : (after x : Pairs) (c : Command A) (run : Changes) → x ≡ [] → is_ranged c ≡ true → noted_by after x c run ≡ run
  notes_nothing after x (Get k) run e r = refl
  notes_nothing after x (Put k v) run e r = absurd (cc)
  notes_nothing after x (Add k v) run e r = absurd (cc)
  notes_nothing after x (Del k) run e r = absurd (cc)
  notes_nothing after x (Scan lo hi limit) run e r = refl
  notes_nothing after x (Wipe lo hi) run e r = let c : Command A = Wipe lo hi in ap (λ (y : Pairs). noted_by after y c run) e

  answers_nothing : (x : Pairs) (c : Command A) → x ≡ [] → is_ranged c ≡ true → IsBlank (reply_to x c)
  answers_nothing x (Get k) e r = absurd (cc)
  answers_nothing x (Put k v) e r = absurd (cc)
  answers_nothing x (Add k v) e r = absurd (cc)
  answers_nothing x (Del k) e r = absurd (cc)
  answers_nothing x (Scan lo hi limit) e r = let c : Command A = Scan lo hi limit in let rows : Pairs → Reply A = λ y. Rows y in inl (ap (λ (y : Pairs). reply_to y c) e ∙ ap rows (take_none limit))
  answers_nothing x (Wipe lo hi) e r = let c : Command A = Wipe lo hi in inr (ap (λ (y : Pairs). reply_to y c) e)

  first_there : (p : ℕ) (ps : List ℕ) (c : Command A) → slice_get cs p ≡ Some c → commands_at cs (p ∷ ps) ≡ c ∷ commands_at cs ps
  first_there p ps c e = ap (λ (o : Option (Command A)). option_to_list o ++ commands_at cs ps) e

  abbrev kept : List ℕ → List (Command A)
  kept ps = commands_at cs (filter keeps ps)

  map_by : (b : Bool) (p : ℕ) (ps : List ℕ) (c : Command A) (x : Pairs) → slice_get cs p ≡ Some c → (b ≡ false → (x ≡ []) × (is_ranged c ≡ true)) → map_after_all (map_after x c) (kept ps) ≡ map_after_all (map_after x c) (commands_at cs ps)
      → map_after_all x (commands_at cs (cond b (p ∷ filter keeps ps) (filter keeps ps))) ≡ map_after_all x (commands_at cs (p ∷ ps))
  map_by true p ps c x e f ih = ap (λ (ds : List (Command A)). map_after_all x ds) (first_there p (filter keeps ps) c e) ∙ ih ∙ ap (λ (ds : List (Command A)). map_after_all x ds) (sym (first_there p ps c e))
  map_by false p ps c x e f ih =
      let q = f refl in
      ap (λ (y : Pairs). map_after_all y (kept ps)) (sym (still_empty x c q.0 q.1)) ∙ ih ∙ ap (λ (ds : List (Command A)). map_after_all x ds) (sym (first_there p ps c e))

  map_kept : (ps : List ℕ) (x : Pairs) → AreQuiet x ps → map_after_all x (kept ps) ≡ map_after_all x (commands_at cs ps)
  map_kept [] x q = refl
  map_kept (p ∷ ps) x q = map_by (keeps p) p ps q.0 x q.1 q.2 (map_kept ps (map_after x q.0) q.3)

  touched_by : (b : Bool) (p : ℕ) (ps : List ℕ) (c : Command A) (after x : Pairs) → slice_get cs p ≡ Some c → (b ≡ false → (x ≡ []) × (is_ranged c ≡ true)) → touched after (map_after x c) (kept ps) ≡ touched after (map_after x c) (commands_at cs ps)
      → touched after x (commands_at cs (cond b (p ∷ filter keeps ps) (filter keeps ps))) ≡ touched after x (commands_at cs (p ∷ ps))
  touched_by true p ps c after x e f ih =
      ap (λ (ds : List (Command A)). touched after x ds) (first_there p (filter keeps ps) c e) ∙ ap (λ (run : Changes). noted_by after x c run) ih ∙ ap (λ (ds : List (Command A)). touched after x ds) (sym (first_there p ps c e))
  touched_by false p ps c after x e f ih =
      let q = f refl in
      ap (λ (y : Pairs). touched after y (kept ps)) (sym (still_empty x c q.0 q.1)) ∙ ih ∙ sym (notes_nothing after x c (touched after (map_after x c) (commands_at cs ps)) q.0 q.1)
      ∙ ap (λ (ds : List (Command A)). touched after x ds) (sym (first_there p ps c e))

  touched_kept : (ps : List ℕ) (after x : Pairs) → AreQuiet x ps → touched after x (kept ps) ≡ touched after x (commands_at cs ps)
  touched_kept [] after x q = refl
  touched_kept (p ∷ ps) after x q = touched_by (keeps p) p ps q.0 after x q.1 q.2 (touched_kept ps after (map_after x q.0) q.3)

  -- the others come to the same run
  pub net_run-kept : (ps : List ℕ) (x : Pairs) → AreQuiet x ps → net_run x (kept ps) ≡ net_run x (commands_at cs ps)
  net_run-kept ps x q = ap (λ (after : Pairs). touched after x (kept ps)) (map_kept ps x q) ∙ touched_kept ps (map_after_all x (commands_at cs ps)) x q

  abbrev answered : List ℕ → Pairs → List (Command A) → List (Piece A)
  answered ps x ds = pieces_of ps (replies_to x ds)

  pieces_by : (b : Bool) (p : ℕ) (ps : List ℕ) (c : Command A) (x : Pairs) → slice_get cs p ≡ Some c → (b ≡ false → (x ≡ []) × (is_ranged c ≡ true))
      → AreButBlank cs (answered (filter keeps ps) (map_after x c) (kept ps)) (answered ps (map_after x c) (commands_at cs ps))
      → (let qs : List ℕ = cond b (p ∷ filter keeps ps) (filter keeps ps) in AreButBlank cs (answered qs x (commands_at cs qs)) (answered (p ∷ ps) x (commands_at cs (p ∷ ps))))
  pieces_by true p ps c x e f ih =
      let here : Piece A = record { place = p; reply = reply_to x c } in
      subst (λ (ds : List (Command A)). AreButBlank cs (answered (p ∷ filter keeps ps) x ds) (answered (p ∷ ps) x (commands_at cs (p ∷ ps)))) (sym (first_there p (filter keeps ps) c e))
      (subst (λ (ds : List (Command A)). AreButBlank cs (answered (p ∷ filter keeps ps) x (c ∷ kept ps)) (answered (p ∷ ps) x ds)) (sym (first_there p ps c e)) (AreButBlank.next here ih))
  pieces_by false p ps c x e f ih =
      let q = f refl in
      let here : Piece A = record { place = p; reply = reply_to x c } in
      let ranged : is_ranged_at cs p ≡ true = ap (λ (o : Option (Command A)). is_some_that is_ranged o) e ∙ q.1 in
      let same = subst (λ (y : Pairs). AreButBlank cs (answered (filter keeps ps) y (kept ps)) (answered ps (map_after x c) (commands_at cs ps))) (still_empty x c q.0 q.1) ih in
      subst (λ (ds : List (Command A)). AreButBlank cs (answered (filter keeps ps) x (kept ps)) (answered (p ∷ ps) x ds)) (sym (first_there p ps c e)) (AreButBlank.left_out here ranged (answers_nothing x c q.0 q.1) same)

  -- and answer the same, except for blank answers
  pub pieces-kept : (ps : List ℕ) (x : Pairs) → AreQuiet x ps → AreButBlank cs (answered (filter keeps ps) x (kept ps)) (answered ps x (commands_at cs ps))
  pieces-kept [] x q = AreButBlank.none
  pieces-kept (p ∷ ps) x q = pieces_by (keeps p) p ps q.0 x q.1 q.2 (pieces-kept ps (map_after x q.0) q.3)

-- ---- the commands of a page

module _ {A : Type 0} (cs : List (Command A)) (low : List ℕ) (end : Option (List ℕ)) (keeps : ℕ → Bool) (idle : (place : ℕ) → keeps place ≡ false → is_idle cs low end place ≡ true) (m : Pairs) (rises : IsRising m) where
  after-append : (x : Pairs) (ds : List (Command A)) (c : Command A) → map_after_all x (ds ++ c ∷ []) ≡ map_after (map_after_all x ds) c
  after-append x [] c = refl
  after-append x (d ∷ ds) c = after-append (map_after x d) ds c

  rising_all : (x : Pairs) (ds : List (Command A)) → IsRising x → IsRising (map_after_all x ds)
  rising_all x [] r = r
  rising_all x (d ∷ ds) r = rising_all (map_after x d) ds (rising-map_after x d r)

  -- the commands that are left out find nothing
  finds_nothing : (done : List (Command A)) (c : Command A) (rest : List (Command A)) → done ++ c ∷ rest ≡ cs → is_idle cs low end (length done) ≡ true → (in_range low end (map_after_all m done) ≡ []) × (is_ranged c ≡ true)
  finds_nothing done c rest e h =
      let there : slice_get cs (length done) ≡ Some c = ap (λ (ds : List (Command A)). slice_get ds (length done)) (sym e) ∙ stands_there done c rest in
      let first : take (length done) cs ≡ done = ap (λ (ds : List (Command A)). take (length done) ds) (sym e) ∙ take_done done (c ∷ rest) in
      let idles = idle_parts cs low end (length done) h in
      let reach : reaches low c ≡ true = sym (ap (λ (o : Option (Command A)). is_some_that (reaches low) o) there) ∙ idles.reaches in (
        ap (λ (ds : List (Command A)). in_range low end (map_after_all m ds)) (sym first) ∙ empty_after low end m cs (length done) rises idles.none idles.taken,
        reaching_ranged low c reach,
      )

  quiet_by : (b : Bool) (done : List (Command A)) (c : Command A) (rest : List (Command A)) (ps : List ℕ) → done ++ c ∷ rest ≡ cs → goes_to low end c ≡ b → AreQuiet cs keeps (in_range low end (map_after_all m (done ++ c ∷ []))) ps
      → AreQuiet cs keeps (in_range low end (map_after_all m done)) (cond b (length done ∷ ps) ps)
  quiet_by true done c rest ps e g ih =
      let there : slice_get cs (length done) ≡ Some c = ap (λ (ds : List (Command A)). slice_get ds (length done)) (sym e) ∙ stands_there done c rest in
      let x : Pairs = map_after_all m done in
      let next : in_range low end (map_after_all m (done ++ c ∷ [])) ≡ map_after (in_range low end x) c =
      ap (λ (y : Pairs). in_range low end y) (after-append m done c) ∙ map_after-part low end x (rising_all m done rises) c ∙ ap (λ (t : Bool). cond t (map_after (in_range low end x) c) (in_range low end x)) g in
      (c, there, (λ k. finds_nothing done c rest e (idle (length done) k)), subst (λ (y : Pairs). AreQuiet cs keeps y ps) next ih)
  quiet_by false done c rest ps e g ih =
      let x : Pairs = map_after_all m done in
      let same : in_range low end (map_after_all m (done ++ c ∷ [])) ≡ in_range low end x =
      ap (λ (y : Pairs). in_range low end y) (after-append m done c) ∙ map_after-part low end x (rising_all m done rises) c ∙ ap (λ (t : Bool). cond t (map_after (in_range low end x) c) (in_range low end x)) g in
      subst (λ (y : Pairs). AreQuiet cs keeps y ps) same ih

  quiet_from : (done left : List (Command A)) (n : ℕ) → done ++ left ≡ cs → n ≡ length done → AreQuiet cs keeps (in_range low end (map_after_all m done)) (places_from n (goes_to low end) left)
  quiet_from done [] n e l = tt
  quiet_from done (c ∷ left) n e l =
      let later = quiet_from (done ++ c ∷ []) left (suc n) (append_assoc done (c ∷ []) left ∙ e) (ap suc l ∙ sym (one_more done c)) in
      subst (λ (i : ℕ). AreQuiet cs keeps (in_range low end (map_after_all m done)) (cond (goes_to low end c) (i ∷ places_from (suc n) (goes_to low end) left) (places_from (suc n) (goes_to low end) left))) (sym l)
      (quiet_by (goes_to low end c) done c left (places_from (suc n) (goes_to low end) left) e refl later)

  -- of a page's commands those that are left out find nothing
  pub page_quiet : AreQuiet cs keeps (in_range low end m) (places_within low end cs)
  page_quiet = quiet_from [] cs 0 refl refl

-- ---- whether the other commands only read

-- a list without some, which is all of it, or lacks one
kept_or_not : (keeps : ℕ → Bool) (ps : List ℕ) → (filter keeps ps ≡ ps) ⊎ ((p : ℕ) × (is_among p ps ≡ true) × (keeps p ≡ false))
kept_or_not keeps [] = inl refl
kept_or_not keeps (p ∷ ps) = by (keeps p) refl (kept_or_not keeps ps)
  where
    by : (b : Bool) → keeps p ≡ b → (filter keeps ps ≡ ps) ⊎ ((q : ℕ) × (is_among q ps ≡ true) × (keeps q ≡ false)) → (cond b (p ∷ filter keeps ps) (filter keeps ps) ≡ p ∷ ps) ⊎ ((q : ℕ) × (is_among q (p ∷ ps) ≡ true) × (keeps q ≡ false))
    by false e h = inr (p, among_itself p ps, e)
    by true e (inl h) = inl (ap (λ (xs : List ℕ). p ∷ xs) h)
    by true e (inr h) = inr (h.0, ap (λ (b : Bool). nat_eq h.0 p || b) h.1 ∙ or_true (nat_eq h.0 p), h.2)

module _ {A : Type 0} (cs : List (Command A)) where
  and_false : (b : Bool) → (b && false) ≡ false
  and_false true = refl
  and_false false = refl

  -- if one of the commands doesn't only read, they don't all only read
  not_all_look : (w : ℕ) (d : Command A) → slice_get cs w ≡ Some d → is_read_only d ≡ false → (ps : List ℕ) → is_among w ps ≡ true → list_all is_read_only (commands_at cs ps) ≡ false
  not_all_look w d e l [] h = absurd (cc)
  not_all_look w d e l (p ∷ ps) h = by (nat_eq w p) refl h (not_all_look w d e l ps)
    where
      by : (b : Bool) → nat_eq w p ≡ b → (b || is_among w ps) ≡ true → (is_among w ps ≡ true → list_all is_read_only (commands_at cs ps) ≡ false) → list_all is_read_only (commands_at cs (p ∷ ps)) ≡ false
      by true f h g =
          let same : w ≡ p = eqb-true w p f in
          let there : slice_get cs p ≡ Some d = subst (λ (i : ℕ). slice_get cs i ≡ Some d) same e in
          ap (λ (o : Option (Command A)). list_all is_read_only (option_to_list o ++ commands_at cs ps)) there ∙ rw l refl
      by false f h g =
          list_all-append is_read_only (option_to_list (slice_get cs p)) (commands_at cs ps) ∙ ap (λ (b : Bool). list_all is_read_only (option_to_list (slice_get cs p)) && b) (g h) ∙ and_false (list_all is_read_only (option_to_list (slice_get cs p)))

module _ {A : Type 0} (low : List ℕ) (end : Option (List ℕ)) where
  -- a command that deletes all of a page doesn't only read
  taking : (c : Command A) → takes_page low end c ≡ true → is_read_only c ≡ false
  taking (Get k) h = absurd (cc)
  taking (Put k v) h = absurd (cc)
  taking (Add k v) h = absurd (cc)
  taking (Del k) h = refl
  taking (Scan lo hi limit) h = absurd (let n = (and_parts (is_between lo hi low) false h).1 in cc)
  taking (Wipe lo hi) h = refl

  taking_with_end : (e : Option (List ℕ)) (d : Command A) → takes_page low end (with_end e d) ≡ true → is_read_only d ≡ false
  taking_with_end None d h = taking d h
  taking_with_end (Some x) (Get k) h = taking (Get k) h
  taking_with_end (Some x) (Put k v) h = taking (Put k v) h
  taking_with_end (Some x) (Add k v) h = taking (Add k v) h
  taking_with_end (Some x) (Del k) h = refl
  taking_with_end (Some x) (Scan lo hi limit) h = absurd (let n = (and_parts (is_between lo (Some x) low) false h).1 in cc)
  taking_with_end (Some x) (Wipe lo hi) h = refl

  taking_by : (e : Option (List ℕ)) (o : Option (Command A)) (c : Command A) → option_map (with_end e) o ≡ Some c → takes_page low end c ≡ true → (d : Command A) × (o ≡ Some d) × (is_read_only d ≡ false)
  taking_by e None c h t = absurd (cc)
  taking_by e (Some d) c h t = let same : with_end e d ≡ c = cc in (d, refl, taking_with_end e d (ap (λ (x : Command A). takes_page low end x) same ∙ t))

  module _ (cs : List (Command A)) (ends : List (Option (List ℕ))) (keeps : ℕ → Bool) (idle : (place : ℕ) → keeps place ≡ false → is_idle (with_ends cs ends) low end place ≡ true) where
    abbrev ended : List (Command A)
    ended = with_ends cs ends

    stays_by : (b : Bool) (w : ℕ) → keeps w ≡ b → is_idle ended low end w ≡ false → b ≡ true
    stays_by true w e n = refl
    stays_by false w e n = absurd (let t = idle w e in cc)

    looks_by : (ps : List ℕ) → ps ≡ places_within low end ended → (filter keeps ps ≡ ps) ⊎ ((p : ℕ) × (is_among p ps ≡ true) × (keeps p ≡ false)) → list_all is_read_only (commands_at cs (filter keeps ps)) ≡ list_all is_read_only (commands_at cs ps)
    looks_by ps same (inl h) = ap (λ (qs : List ℕ). list_all is_read_only (commands_at cs qs)) h
    looks_by ps same (inr h) =
        let first : IsFirst (takes_page low end) ended h.0 = first_found (takes_page low end) ended h.0 (idle_parts ended low end h.0 (idle h.0 h.2)).taken in
        let w : ℕ = first.at in
        let reach = (and_parts (reaches low first.item) (empties end first.item) first.passes).0 in
        let goes : is_some_that (goes_to low end) (slice_get ended w) ≡ true = ap (λ (o : Option (Command A)). is_some_that (goes_to low end) o) first.there ∙ goes_as low end first.item ∙ rw reach (or_true (begins_in low end first.item)) in
        let there : is_among w ps ≡ true = ap (λ (qs : List ℕ). is_among w qs) same ∙ among-places w (goes_to low end) ended ∙ goes in
        let stays : is_among w (filter keeps ps) ≡ true = among-filter keeps w ps ∙ rw (there, stays_by (keeps w) w refl (first_not_idle ended low end w first.none)) refl in
        let own = taking_by (first_end (drop w ends)) (slice_get cs w) first.item (sym (get-with_ends cs ends w) ∙ first.there) first.passes in
        not_all_look cs w own.0 own.1 own.2 (filter keeps ps) stays ∙ sym (not_all_look cs w own.0 own.1 own.2 ps there)

    -- a page's commands without the idle ones all only read if all commands do
    pub looks-kept : list_all is_read_only (commands_at cs (filter keeps (places_within low end ended))) ≡ list_all is_read_only (commands_at cs (places_within low end ended))
    looks-kept = looks_by (places_within low end ended) refl (kept_or_not keeps (places_within low end ended))
