-- The answers of the pages of a level to a batch, each to its own commands on its own part of the map, and the replies that they make at each place
-- of the batch.
use Rattle.std.specs.Prelude.{◌≡◌, ℕ, zero, suc, ◌+◌, ◌<◌, ◌≤◌, ◌==◌, Bool, true, false, cond, if◌then◌else◌, List, [], ◌∷◌, ◌++◌, flat_map, take, drop, length, min, slice_get, is_some, Option, Some, None}
use Rattle.std.proofs.Common.{refl, sym, ap, ◌∙◌, replicate, arith, eq-eqb, Ordering, Less, Equal, Greater}
use Rattle.std.specs.Ordering.{is_eq, match_ordering}
use Rattle.std.specs.List.{AllByRecursion, filter, sum_by}
use Rattle.std.proofs.lemmas.Bool.{ne_eqb}
use Rattle.std.proofs.lemmas.Grind.{flat_map-append}
use Rattle.std.proofs.lemmas.List.{map-append, length-map, append-nil}
use Rattle.std.proofs.lemmas.List.Elements.{filter-append, All-from_recursion}
use Rattle.std.proofs.lemmas.List.Sums.{length-filter, sum_by-cons, sum_by-append}
use Rattle.keys.specs.CommandKey.{key_of, is_ranged, is_scan, is_wipe}
use Rattle.keys.specs.Order.{order, IsRising}
use Rattle.keys.specs.OrderedMap.{value_at, with_pair, without}
use Rattle.keys.specs.Places.{is_some_that, is_scan_at, is_wipe_at, is_ranged_at}
use Rattle.keys.specs.Range.{in_range}
use Rattle.keys.specs.Step.{found, reply_to, map_after, replies_to}
use Rattle.keys.specs.declared.command.Command.{Command}
use Rattle.keys.specs.declared.command.Command.TheVariants.{Get, Put, Add, Del, Scan, Wipe}
use Rattle.keys.specs.declared.command.Reply.{Reply}
use Rattle.keys.specs.declared.command.Reply.TheVariants.{Missing, New, Replaced, Added, Exists, Deleted, Rows, Wiped}
use Rattle.keys.specs.declared.piece.Piece.{Piece}
use Rattle.keys.proofs.RangeLemmas.{both_parts}
use Rattle.keys.proofs.RunLemmas.{rising-map_after}
use Rattle.index_page.specs.Children.{Place, is_place_for}
use Rattle.index_page.proofs.ListLemmas.{all-append}
use Rattle.mapping.specs.Levels.{Placed}
use Rattle.mapping.specs.Proper.{next_low, Tiled}
use Rattle.mapping.proofs.TileLemmas.{one_page}
use Rattle.routing.specs.Routes.{goes_to, places_from, places_within, ranges}
use Rattle.routing.proofs.RouteLemmas.{goes_by_key, within_all}
use Rattle.page_runs.specs.Replies.{commands_at, pieces_of}
use Rattle.page_runs.proofs.PageParts.{map_after-part, reply_to-part, rows-parts, counts-parts}
use Rattle.replies.specs.ByPlace.{pieces_at, rows_of, is_rows, count_of, is_count, most_counted, lone, joined_replies, joined_replies_at, reply_at, IsPlaceOf, AreAnswers}
use Rattle.replies.proofs.Placing.{same_at_each, replies_of, joined_replies-lone}
use Rattle.engine.proofs.CommandsWithin.{commands_within}

abbrev Pairs : Type 0
Pairs = List (List ℕ × List ℕ)

-- a page's answers: to each of the commands that go to it, the answer of the map's part in its range; the first command has this place
abbrev pub answers_from : {A : Type 0} → ℕ → List ℕ → Option (List ℕ) → Pairs → List (Command A) → List (Piece A)
answers_from n low end m [] = []
answers_from n low end m (c ∷ cs) =
    if goes_to low end c then record { place = n; reply = reply_to (in_range low end m) c } ∷ answers_from (suc n) low end (map_after m c) cs else answers_from (suc n) low end (map_after m c) cs

-- ---- replies

no_rows_found : (A : Type 0) (o : Option (List ℕ)) → is_rows {A = A} (found o) ≡ false
no_rows_found A None = refl
no_rows_found A (Some v) = refl

no_count_found : (A : Type 0) (o : Option (List ℕ)) → is_count {A = A} (found o) ≡ false
no_count_found A None = refl
no_count_found A (Some v) = refl

-- ---- how many pairs a command leaves at most

most_added_by : (o : Ordering) (k v : List ℕ) (e : List ℕ × List ℕ) (es rest : Pairs) → length rest ≤ length es + 1 → length (match_ordering o ((k, v) ∷ e ∷ es) ((e.0, v) ∷ es) (e ∷ rest)) ≤ suc (length es) + 1
most_added_by Less k v e es rest h = omega arith
most_added_by Equal k v e es rest h = omega arith
most_added_by Greater k v e es rest h = omega (arith, h)

pub most_added : (m : Pairs) (k v : List ℕ) → length (with_pair m k v) ≤ length m + 1
most_added [] k v = omega arith
most_added (e ∷ es) k v = most_added_by (order k e.0) k v e es (with_pair es k v) (most_added es k v)

either_added : (b : Bool) (m : Pairs) (k v : List ℕ) → length (if b then m else with_pair m k v) ≤ length m + 1
either_added true m k v = omega arith
either_added false m k v = most_added m k v

most_left_by : (b : Bool) (e : List ℕ × List ℕ) (es rest : Pairs) → length rest ≤ length es → length (cond b es (e ∷ rest)) ≤ suc (length es)
most_left_by true e es rest h = omega arith
most_left_by false e es rest h = omega (arith, h)

pub most_left : (m : Pairs) (k : List ℕ) → length (without m k) ≤ length m
most_left [] k = omega arith
most_left (e ∷ es) k = most_left_by (is_eq (order k e.0)) e es (without es k) (most_left es k)

-- ---- lists

module _ {X : Type 0} where
  -- the first element after a number of elements is the element at that place
  stands_first : (n : ℕ) (xs : List X) (y : X) (ys : List X) → drop n xs ≡ y ∷ ys → (slice_get xs n ≡ Some y) × (drop (suc n) xs ≡ ys)
  stands_first zero [] y ys h = absurd (cc)
  stands_first (suc n) [] y ys h = absurd (cc)
  stands_first zero (x ∷ xs) y ys h = let first : x ≡ y = cc in let rest : xs ≡ ys = cc in (ap (λ (z : X). Some z) first, rest)
  stands_first (suc n) (x ∷ xs) y ys h = stands_first n xs y ys h

module _ {A : Type 0} where
  -- ---- one page

  module _ (low : List ℕ) (end : Option (List ℕ)) where
    page_by : (b : Bool) (n : ℕ) (m : Pairs) (c : Command A) (ns : List ℕ) (ds : List (Command A)) (rest : List (Piece A)) → IsRising m → goes_to low end c ≡ b
        → pieces_of ns (replies_to (in_range low end (map_after m c)) ds) ≡ rest
        → pieces_of (cond b (n ∷ ns) ns) (replies_to (in_range low end m) (cond b (c ∷ ds) ds)) ≡ cond b (record { place = n; reply = reply_to (in_range low end m) c } ∷ rest) rest
    page_by true n m c ns ds rest r goes ih =
        let part : in_range low end (map_after m c) ≡ map_after (in_range low end m) c = map_after-part low end m r c ∙ ap (λ (b : Bool). if b then map_after (in_range low end m) c else in_range low end m) goes in
        let first : Piece A = record { place = n; reply = reply_to (in_range low end m) c } in
        ap (λ (x : Pairs). first ∷ pieces_of ns (replies_to x ds)) (sym part) ∙ ap (λ (ps : List (Piece A)). first ∷ ps) ih
    page_by false n m c ns ds rest r goes ih =
        let part : in_range low end (map_after m c) ≡ in_range low end m = map_after-part low end m r c ∙ ap (λ (b : Bool). if b then map_after (in_range low end m) c else in_range low end m) goes in
        ap (λ (x : Pairs). pieces_of ns (replies_to x ds)) (sym part) ∙ ih

    page_from : (n : ℕ) (m : Pairs) (cs : List (Command A)) → IsRising m → pieces_of (places_from n (goes_to low end) cs) (replies_to (in_range low end m) (filter (goes_to low end) cs)) ≡ answers_from n low end m cs
    page_from n m [] r = refl
    page_from n m (c ∷ cs) r =
        page_by (goes_to low end c) n m c (places_from (suc n) (goes_to low end) cs) (filter (goes_to low end) cs) (answers_from (suc n) low end (map_after m c) cs) r refl
        (page_from (suc n) (map_after m c) cs (rising-map_after m c r))

    -- the answers of a page that has the part of a map in its range
    pub page_answers : (m : Pairs) (cs : List (Command A)) → IsRising m → (let ps = places_within low end cs in pieces_of ps (replies_to (in_range low end m) (commands_at cs ps)) ≡ answers_from 0 low end m cs)
    page_answers m cs r =
        let ps = places_within low end cs in
        ap (λ (ds : List (Command A)). pieces_of ps (replies_to (in_range low end m) ds)) (commands_within low end cs) ∙ page_from 0 m cs r

  -- ---- the places that are answered, and the kinds of answers

  module _ (low : List ℕ) (end : Option (List ℕ)) where
    all_if : (P : Piece A → Type 0) (b : Bool) (p : Piece A) (ps : List (Piece A)) → P p → AllByRecursion P ps → AllByRecursion P (cond b (p ∷ ps) ps)
    all_if P true p ps h a = (h, a)
    all_if P false p ps h a = a

    pub within-answers : (most n : ℕ) (m : Pairs) (cs : List (Command A)) → n + length cs ≤ most → AllByRecursion (λ p. p.place < most) (answers_from n low end m cs)
    within-answers most n m [] h = tt
    within-answers most n m (c ∷ cs) h = all_if (λ p. p.place < most) (goes_to low end c) _ _ (omega arith) (within-answers most (suc n) (map_after m c) cs (omega arith))

    -- rows answer scans, and nothing else
    no_rows_if : (b : Bool) (r s : Reply A) → is_rows r ≡ false → is_rows s ≡ false → is_rows (if b then r else s) ≡ false
    no_rows_if true r s h k = h
    no_rows_if false r s h k = k

    kind-reply_to : (m : Pairs) (c : Command A) → is_rows (reply_to m c) ≡ is_scan c
    kind-reply_to m (Get k) = no_rows_found A (value_at k m)
    kind-reply_to m (Put k v) = no_rows_if (is_some (value_at k m)) Replaced New refl refl
    kind-reply_to m (Add k v) = no_rows_if (is_some (value_at k m)) Exists Added refl refl
    kind-reply_to m (Del k) = no_rows_if (is_some (value_at k m)) Deleted Missing refl refl
    kind-reply_to m (Scan lo hi limit) = refl
    kind-reply_to m (Wipe lo hi) = refl

    -- and counts answer wipes
    no_count_if : (b : Bool) (r s : Reply A) → is_count r ≡ false → is_count s ≡ false → is_count (if b then r else s) ≡ false
    no_count_if true r s h k = h
    no_count_if false r s h k = k

    count-reply_to : (m : Pairs) (c : Command A) → is_count (reply_to m c) ≡ is_wipe c
    count-reply_to m (Get k) = no_count_found A (value_at k m)
    count-reply_to m (Put k v) = no_count_if (is_some (value_at k m)) Replaced New refl refl
    count-reply_to m (Add k v) = no_count_if (is_some (value_at k m)) Exists Added refl refl
    count-reply_to m (Del k) = no_count_if (is_some (value_at k m)) Deleted Missing refl refl
    count-reply_to m (Scan lo hi limit) = refl
    count-reply_to m (Wipe lo hi) = refl

    -- a property of each reply to its own command holds for each answer and the command at its place
    pub kinds-answers : (test : Reply A → Bool) (kind : Command A → Bool) → ((m : Pairs) (c : Command A) → test (reply_to m c) ≡ kind c) → (all : List (Command A)) (n : ℕ) (m : Pairs) (left : List (Command A)) → drop n all ≡ left
        → AllByRecursion (λ p. test p.reply ≡ is_some_that kind (slice_get all p.place)) (answers_from n low end m left)
    kinds-answers test kind is all n m [] h = tt
    kinds-answers test kind is all n m (c ∷ left) h =
        let s = stands_first n all c left h in
        all_if (λ p. test p.reply ≡ is_some_that kind (slice_get all p.place)) (goes_to low end c) _ _ (is (in_range low end m) c ∙ sym (ap (is_some_that kind) s.0)) (kinds-answers test kind is all (suc n) (map_after m c) left s.1)

    -- ---- the answer of a page at a place

    -- to a command, of the map before it
    abbrev pub own_reply : Pairs → Command A → List (Reply A)
    own_reply m c = if goes_to low end c then reply_to (in_range low end m) c ∷ [] else []

    -- to the command at a place of the batch
    abbrev pub own_at : Pairs → List (Command A) → ℕ → List (Reply A)
    own_at m [] i = []
    own_at m (c ∷ cs) zero = own_reply m c
    own_at m (c ∷ cs) (suc i) = own_at (map_after m c) cs i

    later_by : (b : Bool) (p : Piece A) (ps : List (Piece A)) (i : ℕ) → (p.place == i) ≡ false → pieces_at (cond b (p ∷ ps) ps) i ≡ pieces_at ps i
    later_by true p ps i h = rw h refl
    later_by false p ps i h = refl

    here_by : (b : Bool) (p : Piece A) (ps : List (Piece A)) (i : ℕ) → (p.place == i) ≡ true → pieces_at ps i ≡ [] → replies_of (pieces_at (cond b (p ∷ ps) ps) i) ≡ cond b (p.reply ∷ []) []
    here_by true p ps i h e = rw (h, e) refl
    here_by false p ps i h e = rw e refl

    none_before : (i n : ℕ) (m : Pairs) (cs : List (Command A)) → i < n → pieces_at (answers_from n low end m cs) i ≡ []
    none_before i n m [] h = refl
    none_before i n m (c ∷ cs) h =
        later_by (goes_to low end c) _ (answers_from (suc n) low end (map_after m c) cs) i (ne_eqb n i (λ (e : n ≡ i). omega arith)) ∙ none_before i (suc n) (map_after m c) cs (omega arith)

    answers_at : (i n j : ℕ) (m : Pairs) (cs : List (Command A)) → i ≡ n + j → replies_of (pieces_at (answers_from n low end m cs) i) ≡ own_at m cs j
    answers_at i n j m [] e = refl
    answers_at i n zero m (c ∷ cs) e =
        let same : n ≡ i = omega arith in
        here_by (goes_to low end c) _ (answers_from (suc n) low end (map_after m c) cs) i (eq-eqb n i same) (none_before i (suc n) (map_after m c) cs (omega arith))
    answers_at i n (suc j) m (c ∷ cs) e =
        ap (λ (ps : List (Piece A)). replies_of ps) (later_by (goes_to low end c) _ (answers_from (suc n) low end (map_after m c) cs) i (ne_eqb n i (λ (s : n ≡ i). omega arith)))
        ∙ answers_at i (suc n) j (map_after m c) cs (omega arith)

  -- ---- all pages

  -- the answers of the pages of these places, in sequence
  abbrev pub all_answers_from : Pairs → List (Command A) → List Place → List (Piece A)
  all_answers_from m cs ats = flat_map (λ at. answers_from 0 at.low at.end m cs) ats

  -- their answers to the command at a place of the batch
  abbrev all_at : Pairs → List (Command A) → ℕ → List Place → List (Reply A)
  all_at m cs i ats = flat_map (λ at. own_at at.low at.end m cs i) ats

  -- and to a command
  abbrev all_own : Pairs → Command A → List Place → List (Reply A)
  all_own m c ats = flat_map (λ at. own_reply at.low at.end m c) ats

  pub within-all : (m : Pairs) (cs : List (Command A)) (ats : List Place) → AllByRecursion (λ p. p.place < length cs) (all_answers_from m cs ats)
  within-all m cs [] = tt
  within-all m cs (at ∷ ats) = all-append (λ p. p.place < length cs) (answers_from 0 at.low at.end m cs) (all_answers_from m cs ats) (within-answers at.low at.end (length cs) 0 m cs (omega arith)) (within-all m cs ats)

  pub kinds-all : (test : Reply A → Bool) (kind : Command A → Bool) → ((m : Pairs) (c : Command A) → test (reply_to m c) ≡ kind c) → (m : Pairs) (cs : List (Command A)) (ats : List Place)
      → AllByRecursion (λ p. test p.reply ≡ is_some_that kind (slice_get cs p.place)) (all_answers_from m cs ats)
  kinds-all test kind is m cs [] = tt
  kinds-all test kind is m cs (at ∷ ats) =
      all-append (λ p. test p.reply ≡ is_some_that kind (slice_get cs p.place)) (answers_from 0 at.low at.end m cs) (all_answers_from m cs ats) (kinds-answers at.low at.end test kind is cs 0 m cs refl) (kinds-all test kind is m cs ats)

  all_answers_at : (m : Pairs) (cs : List (Command A)) (i : ℕ) (ats : List Place) → replies_of (pieces_at (all_answers_from m cs ats) i) ≡ all_at m cs i ats
  all_answers_at m cs i [] = refl
  all_answers_at m cs i (at ∷ ats) =
      let here = answers_from 0 at.low at.end m cs in
      let rest = all_answers_from m cs ats in
      ap (λ (ps : List (Piece A)). replies_of ps) (filter-append (λ p. p.place == i) here rest)
      ∙ map-append (λ (p : Piece A). p.reply) (pieces_at here i) (pieces_at rest i)
      ∙ ap (λ (rs : List (Reply A)). rs ++ replies_of (pieces_at rest i)) (answers_at at.low at.end i 0 i m cs (omega arith))
      ∙ ap (λ (rs : List (Reply A)). own_at at.low at.end m cs i ++ rs) (all_answers_at m cs i ats)

  -- ---- a command that goes to one page

  module _ (m : Pairs) (c : Command A) (rising : IsRising m) (plain : is_ranged c ≡ false) where
    own_by : (b : Bool) (at : Place) → goes_to at.low at.end c ≡ b → cond b (reply_to (in_range at.low at.end m) c ∷ []) [] ≡ cond b (reply_to m c ∷ []) []
    own_by true at h = ap (λ (r : Reply A). r ∷ []) (reply_to-part at.low at.end m rising c plain h)
    own_by false at h = refl

    replicated_by : (b : Bool) (at : Place) (rs : List (Reply A)) (ps : List Place) → is_place_for (key_of c) at ≡ b → rs ≡ replicate (length ps) (reply_to m c)
        → own_reply at.low at.end m c ++ rs ≡ replicate (length (cond b (at ∷ ps) ps)) (reply_to m c)
    replicated_by b at rs ps h ih = of b (own_by (goes_to at.low at.end c) at refl ∙ ap (λ (t : Bool). cond t (reply_to m c ∷ []) []) (goes_by_key at.low at.end c plain ∙ h))
      where
        of : (b : Bool) → own_reply at.low at.end m c ≡ cond b (reply_to m c ∷ []) [] → own_reply at.low at.end m c ++ rs ≡ replicate (length (cond b (at ∷ ps) ps)) (reply_to m c)
        of true e = ap (λ (xs : List (Reply A)). xs ++ rs) e ∙ ap (λ (xs : List (Reply A)). reply_to m c ∷ xs) ih
        of false e = ap (λ (xs : List (Reply A)). xs ++ rs) e ∙ ih

    -- each page that it goes to gives the reply of the whole map
    replicated : (ats : List Place) → all_own m c ats ≡ replicate (length (filter (is_place_for (key_of c)) ats)) (reply_to m c)
    replicated [] = refl
    replicated (at ∷ ats) = replicated_by (is_place_for (key_of c) at) at (all_own m c ats) (filter (is_place_for (key_of c)) ats) refl (replicated ats)

    -- so the pages of a level give just this reply
    one_reply : {V : Type 0} (level : List (Placed V)) → next_low level None ≡ Some [] → Tiled level None → all_own m c (ranges level) ≡ reply_to m c ∷ []
    one_reply level first tiled =
        replicated (ranges level) ∙ ap (λ (n : ℕ). replicate n (reply_to m c)) (length-filter (is_place_for (key_of c)) (ranges level) ∙ one_page level None [] (key_of c) tiled first (within_all (key_of c)))

  -- ---- the answers of a level

  -- a command adds one pair at most
  one_more_at_most : (m : Pairs) (c : Command A) → length (map_after m c) ≤ length m + 1
  one_more_at_most m (Get k) = omega arith
  one_more_at_most m (Put k v) = most_added m k v
  one_more_at_most m (Add k v) = either_added (is_some (value_at k m)) m k v
  one_more_at_most m (Del k) = let h = most_left m k in omega (arith, h)
  one_more_at_most m (Scan lo hi limit) = omega arith
  one_more_at_most m (Wipe lo hi) = let parts = both_parts m lo hi in omega (arith, parts)

  count_by : (b : Bool) (m : Pairs) (c : Command A) (lo : List ℕ) (hi : Option (List ℕ)) → c ≡ Wipe lo hi → sum_by count_of (if b then reply_to m c ∷ [] else []) ≡ (if b then length (in_range lo hi m) else 0)
  count_by true m c lo hi e =
      let one : count_of (reply_to m c) ≡ length (in_range lo hi m) = ap (λ (d : Command A). count_of (reply_to m d)) e in
      let sum = sum_by-cons (count_of {A = A}) (reply_to m c) [] in
      omega (arith, one, sum)
  count_by false m c lo hi e = refl

  -- the counts in the answers of pages to a wipe
  counts_joined : (m : Pairs) (c : Command A) (lo : List ℕ) (hi : Option (List ℕ)) (ats : List Place) → c ≡ Wipe lo hi
      → sum_by count_of (all_own m c ats) ≡ sum_by (λ at. if goes_to at.low at.end c then length (in_range lo hi (in_range at.low at.end m)) else 0) ats
  counts_joined m c lo hi [] e = refl
  counts_joined m c lo hi (at ∷ ats) e =
      let here : ℕ = if goes_to at.low at.end c then length (in_range lo hi (in_range at.low at.end m)) else 0 in
      sum_by-append count_of (own_reply at.low at.end m c) (all_own m c ats)
      ∙ ap (λ (n : ℕ). n + sum_by count_of (all_own m c ats)) (count_by (goes_to at.low at.end c) (in_range at.low at.end m) c lo hi e)
      ∙ ap (λ (n : ℕ). here + n) (counts_joined m c lo hi ats e)
      ∙ sym (sum_by-cons (λ (at : Place). if goes_to at.low at.end c then length (in_range lo hi (in_range at.low at.end m)) else 0) at ats)

  rows_by : (b : Bool) (m : Pairs) (c : Command A) → flat_map rows_of (if b then reply_to m c ∷ [] else []) ≡ (if b then rows_of (reply_to m c) else [])
  rows_by true m c = append-nil (rows_of (reply_to m c))
  rows_by false m c = refl

  rows_joined : (m : Pairs) (c : Command A) (ats : List Place) → flat_map rows_of (all_own m c ats) ≡ flat_map (λ at. if goes_to at.low at.end c then rows_of (reply_to (in_range at.low at.end m) c) else []) ats
  rows_joined m c [] = refl
  rows_joined m c (at ∷ ats) =
      flat_map-append rows_of (own_reply at.low at.end m c) (all_own m c ats)
      ∙ ap (λ (xs : Pairs). xs ++ flat_map rows_of (all_own m c ats)) (rows_by (goes_to at.low at.end c) (in_range at.low at.end m) c)
      ∙ ap (λ (xs : Pairs). (if goes_to at.low at.end c then rows_of (reply_to (in_range at.low at.end m) c) else []) ++ xs) (rows_joined m c ats)

  module _ {V : Type 0} (level : List (Placed V)) (first : next_low level None ≡ Some []) (tiled : Tiled level None) where
    plain_joined : (m : Pairs) (c : Command A) → IsRising m → is_ranged c ≡ false → joined_replies c (all_own m c (ranges level)) ≡ Some (reply_to m c)
    plain_joined m c rising plain = joined_replies-lone c (all_own m c (ranges level)) plain ∙ ap (λ (rs : List (Reply A)). lone rs) (one_reply m c rising plain level first tiled)

    -- the answers of the pages to a command make the reply of the whole map, if the number of pairs fits in a reply
    joined_own : (m : Pairs) (c : Command A) → IsRising m → length m ≤ most_counted → joined_replies c (all_own m c (ranges level)) ≡ Some (reply_to m c)
    joined_own m (Get k) r few = plain_joined m (Get k) r refl
    joined_own m (Put k v) r few = plain_joined m (Put k v) r refl
    joined_own m (Add k v) r few = plain_joined m (Add k v) r refl
    joined_own m (Del k) r few = plain_joined m (Del k) r refl
    joined_own m (Scan lo hi limit) r few =
        ap (λ (xs : Pairs). Some (Rows (take limit xs))) (rows_joined m (Scan lo hi limit) (ranges level)) ∙ ap (λ (xs : Pairs). Some (Rows xs)) (rows-parts A level m lo hi limit first tiled r)
    joined_own m (Wipe lo hi) r few =
        let sum : sum_by count_of (all_own m (Wipe lo hi) (ranges level)) ≡ length (in_range lo hi m) = counts_joined m (Wipe lo hi) lo hi (ranges level) refl ∙ counts-parts A level m lo hi first tiled r in
        let part = both_parts m lo hi in
        let fits : min (length (in_range lo hi m)) most_counted ≡ length (in_range lo hi m) = omega (arith, few, part) in
        ap (λ (n : ℕ). Some (Wiped (min n most_counted))) sum ∙ ap (λ (n : ℕ). Some (Wiped n)) fits

    joined_all : (m : Pairs) (cs : List (Command A)) (i : ℕ) → IsRising m → length m + length cs ≤ most_counted → joined_replies_at (slice_get cs i) (all_at m cs i (ranges level)) ≡ slice_get (replies_to m cs) i
    joined_all m [] i r few = refl
    joined_all m (c ∷ cs) zero r few = joined_own m c r (omega (arith, few))
    joined_all m (c ∷ cs) (suc i) r few = let more = one_more_at_most m c in joined_all (map_after m c) cs i (rising-map_after m c r) (omega (arith, few, more))

    one_at : (m : Pairs) (cs : List (Command A)) (i : ℕ) → IsRising m → i < length cs → is_ranged_at cs i ≡ false → length (all_at m cs i (ranges level)) ≡ 1
    one_at m [] i r h plain = absurd (omega arith)
    one_at m (c ∷ cs) zero r h plain = ap (λ (rs : List (Reply A)). length rs) (one_reply m c r plain level first tiled)
    one_at m (c ∷ cs) (suc i) r h plain = one_at (map_after m c) cs i (rising-map_after m c r) (omega arith) plain

    module _ (m : Pairs) (cs : List (Command A)) (rising : IsRising m) where
      abbrev answers : List (Piece A)
      answers = all_answers_from m cs (ranges level)

      -- the pages of a level that tiles all keys give correct answers
      pub answers_are_right : AreAnswers cs answers
      answers_are_right = record {
        within = All-from_recursion (IsPlaceOf cs) answers (within-all m cs (ranges level));
        kind = All-from_recursion (λ p. is_rows p.reply ≡ is_scan_at cs p.place) answers (kinds-all is_rows is_scan (λ x c. kind-reply_to [] None x c) m cs (ranges level));
        counts = All-from_recursion (λ p. is_count p.reply ≡ is_wipe_at cs p.place) answers (kinds-all is_count is_wipe (λ x c. count-reply_to [] None x c) m cs (ranges level));
        once = λ i h plain. sym (length-map (pieces_at answers i) (λ p. p.reply)) ∙ ap (λ (rs : List (Reply A)). length rs) (all_answers_at m cs i (ranges level)) ∙ one_at m cs i rising h plain;
      }

      -- and the replies that their answers make are those of the whole map, if every number of pairs fits in a reply
      pub answers_make_the_replies : length m + length cs ≤ most_counted → (rs : List (Reply A)) → ((i : ℕ) → slice_get rs i ≡ reply_at cs answers i) → rs ≡ replies_to m cs
      answers_make_the_replies few rs made = same_at_each rs (replies_to m cs) (λ i. made i ∙ ap (joined_replies_at (slice_get cs i)) (all_answers_at m cs i (ranges level)) ∙ joined_all m cs i rising few)
