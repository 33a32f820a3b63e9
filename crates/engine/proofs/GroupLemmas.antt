-- The answers of leaves that are read in groups.
use Rattle.std.specs.Prelude.{◌≡◌, ℕ, zero, suc, ◌+◌, ◌<◌, ◌==◌, ◌&&◌, Bool, true, false, cond, List, [], ◌∷◌, ◌++◌, map, take, drop, replicate, length, slice_get, min, Some}
use Rattle.std.proofs.Common.{refl, sym, ap, subst, ◌∙◌, arith, append_assoc, get_or, inl, inr}
use Rattle.std.specs.List.{filter, list_all, sum_by}
use Rattle.std.specs.List.Sorted.{IsPermutation}
use Rattle.std.specs.Option.{option_copied}
use Rattle.std.specs.declared.alloc.Global.{Global}
use Rattle.std.proofs.lemmas.Bool.{eqb-true}
use Rattle.std.proofs.lemmas.Grind.{flat_map-append}
use Rattle.std.proofs.lemmas.List.{map_push, map_more, map-append, flat_map_more, take_all, take_min}
use Rattle.std.proofs.lemmas.List.Elements.{All-from_recursion, All-get_or, filter-append}
use Rattle.std.proofs.lemmas.List.Sorted.{All-permutation, IsPermutation-sym, IsPermutation-trans, sum_by-IsPermutation}
use Rattle.std.proofs.lemmas.List.Sums.{sum_by-cons}
use Rattle.std.proofs.lemmas.Option.{slice_get_cases}
use Rattle.keys.specs.Bytes.{Bytes, Pairs}
use Rattle.keys.specs.CommandKey.{key_of}
use Rattle.keys.specs.Lists.{flat}
use Rattle.keys.specs.OrderedMap.{value_at}
use Rattle.keys.specs.PlacedPieces.{with_piece, by_place}
use Rattle.keys.specs.Places.{is_scan_at, is_wipe_at}
use Rattle.keys.specs.Step.{found, replies_to}
use Rattle.keys.specs.declared.command.Command.{Command}
use Rattle.keys.specs.declared.command.Command.TheVariants.{Get, Put, Add, Del, Scan, Wipe}
use Rattle.keys.specs.declared.piece.Piece.{Piece}
use Rattle.keys.proofs.PlacedPieces.{at-by_place, by_place-push, same-by_place, same_by_place}
use Rattle.delta_chain.specs.Layers.{Layers, entries_of, holds, IsInOrder}
use Rattle.delta_chain.proofs.LayerLemmas.{value_at-entries_of}
use Rattle.mapping.specs.TreeInMemory.{TreeInMemory}
use Rattle.routing.specs.BatchKeys.{key_or_empty, key_at}
use Rattle.routing.specs.Routes.{Route}
use Rattle.page_runs.specs.Reads.{route_answers}
use Rattle.page_runs.specs.Replies.{commands_at, pieces_of, ArePlacesOf}
use Rattle.replies.specs.ByPlace.{AreAnswers, IsPlaceOf, is_count, is_rows, pieces_at}
use Rattle.engine.specs.GroupReads.{group_at, group_answers, is_get, chain_answers, group_leaf_answers, piece_of}
use Rattle.engine.specs.declared.group_reads.Found.{Found}
use Rattle.engine.specs.declared.group_reads.GroupLeaf.{GroupLeaf}

-- ---- lists

flat-push : {X : Type 0} (xss : List (List X)) (xs : List X) → flat (xss ++ xs ∷ []) ≡ flat xss ++ xs
flat-push xss xs = sym (flat_map_more (λ ys. ys) [] xss xs)

-- ---- gets

-- the answer of a page to the Get at a place
abbrev pub get_answer : List (Command Global) → Pairs Bytes → ℕ → Piece Global
get_answer cs m place = record { place = place; reply = found (value_at (key_at cs place) m) }

both : (a b : Bool) → (a && b) ≡ true → (a ≡ true) × (b ≡ true)
both true true h = (refl, refl)
both true false h = absurd (cc)
both false b h = absurd (cc)

module _ (cs : List (Command Global)) where
  get_there : (ds : List (Command Global)) (i : ℕ) (c : Command Global) → list_all is_get ds ≡ true → slice_get ds i ≡ Some c → is_get c ≡ true
  get_there [] i c g e = absurd (cc)
  get_there (d ∷ ds) zero c g e = let same : d ≡ c = cc in ap is_get (sym same) ∙ (both (is_get d) (list_all is_get ds) g).0
  get_there (d ∷ ds) (suc i) c g e = get_there ds i c (both (is_get d) (list_all is_get ds) g).1 e

  first_answer : (m : Pairs Bytes) (p : ℕ) (ps : List ℕ) (c : Command Global) → slice_get cs p ≡ Some c → is_get c ≡ true
      → pieces_of (p ∷ ps) (replies_to m (commands_at cs (p ∷ ps))) ≡ get_answer cs m p ∷ pieces_of ps (replies_to m (commands_at cs ps))
  first_answer m p ps (Get k) e g = rw e refl
  first_answer m p ps (Put k v) e g = absurd (cc)
  first_answer m p ps (Add k v) e g = absurd (cc)
  first_answer m p ps (Del k) e g = absurd (cc)
  first_answer m p ps (Scan lo hi limit) e g = absurd (cc)
  first_answer m p ps (Wipe lo hi) e g = absurd (cc)

  -- the answers of a page to gets, one by one
  answers_to_gets : (m : Pairs Bytes) (ps : List ℕ) → list_all is_get cs ≡ true → ArePlacesOf cs ps → pieces_of ps (replies_to m (commands_at cs ps)) ≡ map (get_answer cs m) ps
  answers_to_gets m [] g a = refl
  answers_to_gets m (p ∷ ps) g a = elim ((slice_get_cases cs p).1) [
    | inl w ↦ first_answer m p ps w.0 w.2 (get_there cs p w.0 g w.2) ∙ ap (λ (qs : List (Piece Global)). get_answer cs m p ∷ qs) (answers_to_gets m ps g a.1)
    | inr w ↦ absurd (let past = w.0 in let l = a.0 in omega (arith, l, past))
  ]

-- ---- the answers at a place do not depend on the order of the places

module _ (n : ℕ) where
  abbrev counted : ℕ → ℕ
  counted q = cond (q == n) 1 0

  one_more : (q : ℕ) (ps : List ℕ) (b : Bool) → (q == n) ≡ b → filter (λ p. p == n) ps ≡ replicate (sum_by counted ps) n → cond b (q ∷ filter (λ p. p == n) ps) (filter (λ p. p == n) ps) ≡ replicate (cond b 1 0 + sum_by counted ps) n
  one_more q ps true e h =
      let same : q ≡ n = eqb-true q n e in
      let more : 1 + sum_by counted ps ≡ suc (sum_by counted ps) = omega arith in
      rw (more, same) (ap (λ (xs : List ℕ). n ∷ xs) h)
  one_more q ps false e h = let more : 0 + sum_by counted ps ≡ sum_by counted ps = omega arith in rw more h

  filter_counts : (ps : List ℕ) → filter (λ p. p == n) ps ≡ replicate (sum_by counted ps) n
  filter_counts [] = refl
  filter_counts (q ∷ ps) = one_more q ps (q == n) refl (filter_counts ps) ∙ ap (λ (k : ℕ). replicate k n) (sym (sum_by-cons counted q ps))

  same_filter : (ps qs : List ℕ) → IsPermutation ps qs → filter (λ p. p == n) qs ≡ filter (λ p. p == n) ps
  same_filter ps qs h = filter_counts qs ∙ ap (λ (k : ℕ). replicate k n) (sum_by-IsPermutation counted ps qs h) ∙ sym (filter_counts ps)

  module _ (cs : List (Command Global)) (m : Pairs Bytes) where
    at_by : (q : ℕ) (ps : List ℕ) (b : Bool) → (q == n) ≡ b → pieces_at (map (get_answer cs m) ps) n ≡ map (get_answer cs m) (filter (λ p. p == n) ps)
        → pieces_at (map (get_answer cs m) (q ∷ ps)) n ≡ map (get_answer cs m) (filter (λ p. p == n) (q ∷ ps))
    at_by q ps true e h = rw e (ap (λ (xs : List (Piece Global)). get_answer cs m q ∷ xs) h)
    at_by q ps false e h = rw e h

    at_map : (ps : List ℕ) → pieces_at (map (get_answer cs m) ps) n ≡ map (get_answer cs m) (filter (λ p. p == n) ps)
    at_map [] = refl
    at_map (q ∷ ps) = at_by q ps (q == n) refl (at_map ps)

    same_at : (ps qs : List ℕ) → IsPermutation ps qs → pieces_at (map (get_answer cs m) qs) n ≡ pieces_at (map (get_answer cs m) ps) n
    same_at ps qs h = at_map qs ∙ ap (map (get_answer cs m)) (same_filter ps qs h) ∙ sym (at_map ps)

-- ---- the values that a leaf's gets find

pub place_within : (cs : List (Command Global)) (ps qs : List ℕ) (i : ℕ) → ArePlacesOf cs ps → IsPermutation ps qs → i < length qs → get_or qs i 0 < length cs
place_within cs ps qs i within same l =
    let Is : ℕ → Type 0 = (λ p. p < length cs) in
    All-get_or Is qs i 0 l (All-permutation Is ps qs same (All-from_recursion Is ps within))

-- one more value
pub one_found : (cs : List (Command Global)) (page : Layers Bytes) (c : Command Global) (f : Found) (before now next : List Found) (qs : List ℕ) (i : ℕ)
    → IsInOrder page → i < length qs → slice_get cs (get_or qs i 0) ≡ Some c → f.place ≡ get_or qs i 0 → option_copied f.value ≡ holds page (key_of c) → next ≡ now ++ f ∷ []
    → map piece_of now ≡ map piece_of before ++ map (get_answer cs (entries_of page)) (take i qs)
    → map piece_of next ≡ map piece_of before ++ map (get_answer cs (entries_of page)) (take (i + 1) qs)
one_found cs page c f before now next qs i order l at place value e h =
    let m : Pairs Bytes = entries_of page in
    let key : key_at cs (get_or qs i 0) ≡ key_of c = ap key_or_empty at in
    let held : value_at (key_at cs (get_or qs i 0)) m ≡ option_copied f.value = ap (λ (k : Bytes). value_at k m) key ∙ value_at-entries_of page (key_of c) order ∙ sym value in
    let same : piece_of f ≡ get_answer cs m (get_or qs i 0) = rw (held, place) refl in
    ap (map piece_of) e ∙ map_push piece_of now f
    ∙ ap (λ (xs : List (Piece Global)). xs ++ piece_of f ∷ []) h
    ∙ append_assoc (map piece_of before) (map (get_answer cs m) (take i qs)) (piece_of f ∷ [])
    ∙ ap (λ (p : Piece Global). map piece_of before ++ (map (get_answer cs m) (take i qs) ++ p ∷ [])) same
    ∙ ap (λ (xs : List (Piece Global)). map piece_of before ++ xs) (sym (map_more (get_answer cs m) qs i 0 l))

-- all of them
pub all_found : (cs : List (Command Global)) (r : Route) (page : Layers Bytes) (before now : List Found) (qs : List ℕ) (n : ℕ) → list_all is_get cs ≡ true → ArePlacesOf cs r.places → IsPermutation r.places qs
    → map piece_of now ≡ map piece_of before ++ map (get_answer cs (entries_of page)) qs
    → pieces_at (map piece_of now) n ≡ pieces_at (map piece_of before) n ++ pieces_at (chain_answers cs r page) n
all_found cs r page before now qs n g within same h =
    let m : Pairs Bytes = entries_of page in
    ap (λ (xs : List (Piece Global)). pieces_at xs n) h
    ∙ filter-append (λ p. p.place == n) (map piece_of before) (map (get_answer cs m) qs)
    ∙ ap (λ (xs : List (Piece Global)). pieces_at (map piece_of before) n ++ xs) (same_at n cs m r.places qs same ∙ sym (ap (λ (xs : List (Piece Global)). pieces_at xs n) (answers_to_gets cs m r.places g within)))

-- ---- the answers of a group

-- one more answer
pub next_piece : (founds : List Found) (i : ℕ) (d : Found) (before after : List (Piece Global)) (p : Piece Global) → i < length founds → before ≡ by_place (map piece_of (take i founds)) → p ≡ piece_of (get_or founds i d) → after ≡ with_piece before p
    → after ≡ by_place (map piece_of (take (i + 1) founds))
next_piece founds i d before after p l h e k =
    k ∙ ap (λ (qs : List (Piece Global)). with_piece qs p) h ∙ ap (λ (q : Piece Global). with_piece (by_place (map piece_of (take i founds))) q) e
    ∙ sym (ap by_place (map_more piece_of founds i d l) ∙ by_place-push (map piece_of (take i founds)) (piece_of (get_or founds i d)))

-- the answers of a group
pub group_read : (t : TreeInMemory) (cs : List (Command Global)) (rs : List Route) (leaves : List GroupLeaf) (founds now : List Found) (pieces : List (Piece Global))
    → map (group_leaf_answers cs) leaves ≡ map (route_answers t cs) rs → ((n : ℕ) → pieces_at (map piece_of founds) n ≡ pieces_at (flat (map (group_leaf_answers cs) leaves)) n) → now ≡ founds
    → pieces ≡ by_place (map piece_of now) → pieces ≡ group_answers t cs rs
group_read t cs rs leaves founds now pieces same at e made =
    made ∙ ap (λ (fs : List Found). by_place (map piece_of fs)) e
    ∙ same_by_place (map piece_of founds) (flat (map (group_leaf_answers cs) leaves)) at
    ∙ ap (λ (xs : List (List (Piece Global))). by_place (flat xs)) same

-- ---- the groups of a list

take_sum : {X : Type 0} (n m : ℕ) (xs : List X) → take (n + m) xs ≡ take n xs ++ take m (drop n xs)
take_sum zero m xs = let none : zero + m ≡ m = omega arith in ap (λ (k : ℕ). take k xs) none
take_sum (suc n) m [] = take_all (suc n + m) [] (omega arith) ∙ sym (take_all m [] (omega arith))
take_sum (suc n) m (x ∷ xs) = let more : suc n + m ≡ suc (n + m) = omega arith in ap (λ (k : ℕ). take k (x ∷ xs)) more ∙ ap (λ ys. x ∷ ys) (take_sum n m xs)

-- with one more group, the routes before the group after it
pub next_group : (rs : List Route) (starts items : List ℕ) (start most : ℕ) → most ≡ length (drop start rs) → items ≡ starts ++ start ∷ [] → flat (map (group_at rs) starts) ≡ take start rs → flat (map (group_at rs) items) ≡ take (start + min 16 most) rs
next_group rs starts items start most e more h =
    let group = drop start rs in
    ap (λ (is : List ℕ). flat (map (group_at rs) is)) more
    ∙ ap flat (map_push (group_at rs) starts start)
    ∙ flat-push (map (group_at rs) starts) (group_at rs start)
    ∙ ap (λ (xs : List Route). xs ++ take 16 group) h
    ∙ ap (λ (xs : List Route). take start rs ++ xs) (sym (take_min 16 group) ∙ ap (λ (n : ℕ). take (min 16 n) group) (sym e))
    ∙ sym (take_sum start (min 16 most) rs)

-- the answers of all groups have at each place the answers of all leaves
pub all_groups : (t : TreeInMemory) (cs : List (Command Global)) (rs : List Route) (starts : List ℕ) (n : ℕ)
    → pieces_at (flat (map (λ start. group_answers t cs (group_at rs start)) starts)) n ≡ pieces_at (flat (map (route_answers t cs) (flat (map (group_at rs) starts)))) n
all_groups t cs rs [] n = refl
all_groups t cs rs (start ∷ starts) n =
    let answers = (λ (qs : List Route). flat (map (route_answers t cs) qs)) in
    let group = group_at rs start in
    let rest = flat (map (group_at rs) starts) in
    let apart : answers (group ++ rest) ≡ answers group ++ answers rest =
    ap flat (map-append (route_answers t cs) group rest) ∙ flat_map-append (λ ps. ps) (map (route_answers t cs) group) (map (route_answers t cs) rest) in
    filter-append (λ p. p.place == n) (by_place (answers group)) (flat (map (λ start. group_answers t cs (group_at rs start)) starts))
    ∙ ap (λ (ps : List (Piece Global)). ps ++ pieces_at (flat (map (λ start. group_answers t cs (group_at rs start)) starts)) n) (at-by_place n (answers group))
    ∙ ap (λ (ps : List (Piece Global)). pieces_at (answers group) n ++ ps) (all_groups t cs rs starts n)
    ∙ sym (filter-append (λ p. p.place == n) (answers group) (answers rest))
    ∙ sym (ap (λ (ps : List (Piece Global)). pieces_at ps n) apart)

-- ---- answers in another order

module _ (cs : List (Command Global)) (ps qs : List (Piece Global)) (same : (n : ℕ) → pieces_at ps n ≡ pieces_at qs n) where
  same_pieces : IsPermutation qs ps
  same_pieces =
      let sorted : by_place qs ≡ by_place ps = sym (same_by_place ps qs same) in
      IsPermutation-trans qs (by_place qs) ps (same-by_place qs) (IsPermutation-sym ps (by_place qs) (subst (λ xs. IsPermutation ps xs) (sym sorted) (same-by_place ps)))

  pub answers_as : AreAnswers cs qs → AreAnswers cs ps
  answers_as a = record {
    within = All-permutation (IsPlaceOf cs) qs ps same_pieces a.within;
    kind = All-permutation (λ p. is_rows p.reply ≡ is_scan_at cs p.place) qs ps same_pieces a.kind;
    counts = All-permutation (λ p. is_count p.reply ≡ is_wipe_at cs p.place) qs ps same_pieces a.counts;
    once = λ place l r. ap length (same place) ∙ a.once place l r;
  }
