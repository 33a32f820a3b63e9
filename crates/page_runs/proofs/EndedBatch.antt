-- A scan that ends at the low key of a page gets the same answers from the pages before that key as the scan itself, and no command leaves anything
-- else; so a page's part of a batch is the same, whichever of its scans end so.
use Rattle.std.specs.Prelude.{◌≡◌, ℕ, zero, suc, Bool, true, false, not, cond, ◌&&◌, ◌||◌, ⊤, List, [], ◌∷◌, ◌++◌, take, drop, option_to_list, slice_get, Option, Some, None}
use Rattle.std.proofs.Common.{refl, sym, ap, ◌∙◌, subst, Ordering, Less, Equal, Greater}
use Rattle.std.specs.List.{AllByRecursion}
use Rattle.std.specs.List.Sorted.{IsStrictlySortedBy}
use Rattle.std.specs.Map.{keys_of}
use Rattle.std.specs.Option.{option_map}
use Rattle.keys.specs.Narrowed.{with_end, first_end, with_ends, MayEndAt, MayEndAtAll}
use Rattle.keys.specs.Order.{order, IsRising}
use Rattle.keys.specs.Places.{is_some_that}
use Rattle.keys.specs.Range.{is_below, is_before, is_within, in_range}
use Rattle.keys.specs.Step.{reply_to, map_after, replies_to, map_after_all}
use Rattle.keys.specs.declared.command.Command.{Command}
use Rattle.keys.specs.declared.command.Command.TheVariants.{Scan}
use Rattle.keys.specs.declared.command.Reply.{Reply}
use Rattle.keys.specs.declared.command.Reply.TheVariants.{Rows}
use Rattle.keys.proofs.MapLemmas.{total, same_key, flipped_greater, IsBelowAll}
use Rattle.keys.proofs.NarrowedLemmas.{before_through, map-with_end, map_all-with_ends, get-with_ends}
use Rattle.keys.proofs.RunLemmas.{rising-map_after}
use Rattle.index_page.specs.Children.{Place, children, is_between}
use Rattle.index_page.proofs.ChildLemmas.{next_key, children-cons}
use Rattle.index_page.proofs.RangeLemmas.{below_is_less, less_is_below, not_below_lower, not_below_itself, low_through}
use Rattle.routing.specs.Routes.{goes_to, goes_at}
use Rattle.page_runs.specs.NetRun.{noted_by, touched, net_run}
use Rattle.page_runs.specs.Replies.{commands_at}
use Rattle.page_runs.proofs.PageParts.{Pairs, map_after-part}

-- ---- which keys lie in a page

-- the page ends at this key or before it
abbrev pub EndsBy : Option (List ℕ) → List ℕ → Type 0
EndsBy None end = ⊥
EndsBy (Some e) end = is_below end e ≡ false

-- of a page with this range: it ends at or before each of the keys that lies after its low key
abbrev pub EndsBefore : List (List ℕ) → List ℕ → Option (List ℕ) → Type 0
EndsBefore keys low page_end = (at : ℕ) (end : List ℕ) → slice_get keys at ≡ Some end → is_below low end ≡ true → EndsBy page_end end

upto_by : (o : Ordering) (k e end : List ℕ) → order end e ≡ o → is_below k e ≡ true → is_below end e ≡ false → is_below k end ≡ true
upto_by Less k e end p h l = absurd (let t : is_below end e ≡ true = rw p refl in cc)
upto_by Equal k e end p h l = rw (same_key end e p) h
upto_by Greater k e end p h l = less_is_below k end (total.trans k e end (below_is_less k e h) (flipped_greater end e p))

-- a key before the end of such a page is below it
below_end : (page_end : Option (List ℕ)) (k end : List ℕ) → is_before page_end k ≡ true → EndsBy page_end end → is_below k end ≡ true
below_end None k end h e = absurd e
below_end (Some e) k end h l = upto_by (order end e) k e end refl h l

and_parts : (a b : Bool) → (a && b) ≡ true → (a ≡ true) × (b ≡ true)
and_parts true b h = (refl, h)
and_parts false b h = absurd (cc)

-- ---- one command

-- an end of a command: the key of a page, after the scan's lower bound and before its upper one
abbrev pub IsNear : {A : Type 0} → List (List ℕ) → Command A → Option (List ℕ) → Type 0
IsNear keys c None = ⊤
IsNear keys (Scan lo hi limit) (Some end) = ((at : ℕ) × (slice_get keys at ≡ Some end)) × (is_below lo end ≡ true) × (is_before hi end ≡ true)
IsNear keys c (Some end) = ⊤

module _ {A : Type 0} (keys : List (List ℕ)) where
  near_one : (m : Pairs) (c : Command A) (end : Option (List ℕ)) → MayEndAt keys m c end → IsNear keys c end
  near_one m c None h = tt
  near_one m (Scan lo hi limit) (Some end) h = (h.known, h.following, h.before)
  near_one m _ (Some end) h = tt

  drop-one : (ends : List (Option (List ℕ))) (place : ℕ) → A → first_end (drop place (drop 1 ends)) ≡ first_end (drop (suc place) ends)
  drop-one [] zero a = refl
  drop-one [] (suc place) a = refl
  drop-one (end ∷ ends) place a = refl

abbrev rows_reply : (A : Type 0) → Pairs → Reply A
rows_reply A xs = Rows xs

module _ (low : List ℕ) (page_end : Option (List ℕ)) where
  -- the pairs of a page's range that lie before an end beyond the page lie before the bound, and all do
  same_test : (lo : List ℕ) (hi : Option (List ℕ)) (end k : List ℕ) → is_before hi end ≡ true → EndsBy page_end end → is_within low page_end k ≡ true → is_within lo (Some end) k ≡ is_within lo hi k
  same_test lo hi end k b e h =
      let below : is_below k end ≡ true = below_end page_end k end (and_parts (not (is_below k low)) (is_before page_end k) h).1 e in
      let before : is_before hi k ≡ true = before_through hi k end b below in
      rw (below, before) refl

  same_by : (b : Bool) (lo : List ℕ) (hi : Option (List ℕ)) (end : List ℕ) (p : List ℕ × List ℕ) (rest : Pairs) → is_before hi end ≡ true → EndsBy page_end end → is_within low page_end p.0 ≡ b
      → in_range lo (Some end) rest ≡ in_range lo hi rest → in_range lo (Some end) (cond b (p ∷ rest) rest) ≡ in_range lo hi (cond b (p ∷ rest) rest)
  same_by true lo hi end p rest b e h ih =
      ap (λ (t : Bool). cond t (p ∷ in_range lo (Some end) rest) (in_range lo (Some end) rest)) (same_test lo hi end p.0 b e h) ∙ ap (λ (xs : Pairs). cond (is_within lo hi p.0) (p ∷ xs) xs) ih
  same_by false lo hi end p rest b e h ih = ih

  same_part : (lo : List ℕ) (hi : Option (List ℕ)) (end : List ℕ) (m : Pairs) → is_before hi end ≡ true → EndsBy page_end end → in_range lo (Some end) (in_range low page_end m) ≡ in_range lo hi (in_range low page_end m)
  same_part lo hi end [] b e = refl
  same_part lo hi end (p ∷ m) b e = same_by (is_within low page_end p.0) lo hi end p (in_range low page_end m) b e refl (same_part lo hi end m b e)

  -- a scan that goes to the page with its end begins before that end
  reaches_by : (lo end : List ℕ) (s t : Bool) → is_within low page_end lo ≡ s → is_between lo (Some end) low ≡ t → (s || t) ≡ true → is_below lo end ≡ true → is_below low end ≡ true
  reaches_by lo end true t p q h b =
      let from : is_below lo low ≡ false = not_low (is_below lo low) (and_parts (not (is_below lo low)) (is_before page_end lo) p).0 in
      less_is_below low end (low_through low lo end from (below_is_less lo end b))
    where
      not_low : (b : Bool) → not b ≡ true → b ≡ false
      not_low true h = absurd (cc)
      not_low false h = refl
  reaches_by lo end false true p q h b = (and_parts (is_below lo low) (is_below low end) q).1
  reaches_by lo end false false p q h b = absurd (cc)

  -- such a page gives the same answer as to the scan itself
  pub reply-near : {A : Type 0} (keys : List (List ℕ)) (m : Pairs) (c : Command A) (end : Option (List ℕ)) → EndsBefore keys low page_end → IsNear keys c end → goes_to low page_end (with_end end c) ≡ true
      → reply_to (in_range low page_end m) (with_end end c) ≡ reply_to (in_range low page_end m) c
  reply-near {A} keys m c None f n g = refl
  reply-near {A} keys m (Scan lo hi limit) (Some end) f n g =
      let low_below : is_below low end ≡ true = reaches_by lo end (is_within low page_end lo) (is_between lo (Some end) low) refl refl g n.1 in
      let ends : EndsBy page_end end = f n.0.0 end n.0.1 low_below in
      ap (λ (xs : Pairs). rows_reply A (take limit xs)) (same_part lo hi end m n.2 ends)
  reply-near {A} keys m _ (Some end) f n g = refl

-- ---- the commands of a page

module _ {A : Type 0} (cs : List (Command A)) (ends : List (Option (List ℕ))) where
  -- the end at a place
  abbrev end_of : ℕ → Option (List ℕ)
  end_of place = first_end (drop place ends)

  -- the ends of all commands are near
  abbrev pub AreNear : List (List ℕ) → Type 0
  AreNear keys = (place : ℕ) (c : Command A) → slice_get cs place ≡ Some c → IsNear keys c (end_of place)

  -- the command at a place, with its end and as it is
  abbrev ended_at : ℕ → Option (Command A) → List (Command A)
  ended_at place o = option_to_list (option_map (with_end (end_of place)) o)

  commands-ended : (places : List ℕ) (rest : List (Command A)) (place : ℕ) → option_to_list (slice_get (with_ends cs ends) place) ++ rest ≡ ended_at place (slice_get cs place) ++ rest
  commands-ended places rest place = ap (λ (o : Option (Command A)). option_to_list o ++ rest) (get-with_ends cs ends place)

  module _ (keys : List (List ℕ)) (near : AreNear keys) (low : List ℕ) (page_end : Option (List ℕ)) (before : EndsBefore keys low page_end) where
    replies_by : (place : ℕ) (o : Option (Command A)) (m : Pairs) (ds es : List (Command A)) → slice_get cs place ≡ o → IsRising m → is_some_that (goes_to low page_end) (option_map (with_end (end_of place)) o) ≡ true
        → ((x : Pairs) → IsRising x → replies_to (in_range low page_end x) ds ≡ replies_to (in_range low page_end x) es)
        → replies_to (in_range low page_end m) (ended_at place o ++ ds) ≡ replies_to (in_range low page_end m) (option_to_list o ++ es)
    replies_by place None m ds es h r g ih = absurd (cc)
    replies_by place (Some c) m ds es h r g ih =
        let d : Command A = with_end (end_of place) c in
        let x : Pairs = in_range low page_end m in
        let here : reply_to x d ≡ reply_to x c = reply-near low page_end keys m c (end_of place) before (near place c h) g in
        let part : in_range low page_end (map_after m d) ≡ map_after x d = map_after-part low page_end m r d ∙ ap (λ (b : Bool). cond b (map_after x d) x) g in
        let same : map_after x d ≡ map_after x c = map-with_end x (end_of place) c in
        ap (λ (a : Reply A). a ∷ replies_to (map_after x d) ds) here
        ∙ ap (λ (y : Pairs). reply_to x c ∷ replies_to y ds) (sym part)
        ∙ ap (λ (rest : List (Reply A)). reply_to x c ∷ rest) (ih (map_after m d) (rising-map_after m d r))
        ∙ ap (λ (y : Pairs). reply_to x c ∷ replies_to y es) (part ∙ same)

    -- a page's commands get the same replies with their ends, where they go to it with these
    pub replies-ended : (places : List ℕ) (m : Pairs) → IsRising m → AllByRecursion (λ place. goes_at (with_ends cs ends) low page_end place ≡ true) places
        → replies_to (in_range low page_end m) (commands_at (with_ends cs ends) places) ≡ replies_to (in_range low page_end m) (commands_at cs places)
    replies-ended [] m r a = refl
    replies-ended (place ∷ places) m r a =
        let goes : is_some_that (goes_to low page_end) (option_map (with_end (end_of place)) (slice_get cs place)) ≡ true =
        sym (ap (is_some_that (goes_to low page_end)) (get-with_ends cs ends place)) ∙ a.0 in
        ap (λ (ds : List (Command A)). replies_to (in_range low page_end m) ds) (commands-ended places (commands_at (with_ends cs ends) places) place)
        ∙ replies_by place (slice_get cs place) m (commands_at (with_ends cs ends) places) (commands_at cs places) refl r goes (λ x rx. replies-ended places x rx a.1)

  -- ---- and leave the same

  map_by : (place : ℕ) (o : Option (Command A)) (m : Pairs) (ds es : List (Command A)) → ((x : Pairs) → map_after_all x ds ≡ map_after_all x es) → map_after_all m (ended_at place o ++ ds) ≡ map_after_all m (option_to_list o ++ es)
  map_by place None m ds es ih = ih m
  map_by place (Some c) m ds es ih = ap (λ (x : Pairs). map_after_all x ds) (map-with_end m (end_of place) c) ∙ ih (map_after m c)

  map-ended : (places : List ℕ) (m : Pairs) → map_after_all m (commands_at (with_ends cs ends) places) ≡ map_after_all m (commands_at cs places)
  map-ended [] m = refl
  map-ended (place ∷ places) m =
      ap (λ (ds : List (Command A)). map_after_all m ds) (commands-ended places (commands_at (with_ends cs ends) places) place)
      ∙ map_by place (slice_get cs place) m (commands_at (with_ends cs ends) places) (commands_at cs places) (λ x. map-ended places x)

  noted-with_end : (after before : Pairs) (end : Option (List ℕ)) (c : Command A) (run : List (List ℕ × Option (List ℕ))) → noted_by after before (with_end end c) run ≡ noted_by after before c run
  noted-with_end after before None c run = refl
  noted-with_end after before (Some end) (Scan lo hi limit) run = refl
  noted-with_end after before (Some end) _ run = refl

  touched_by : (place : ℕ) (o : Option (Command A)) (after m : Pairs) (ds es : List (Command A)) → ((x : Pairs) → touched after x ds ≡ touched after x es) → touched after m (ended_at place o ++ ds) ≡ touched after m (option_to_list o ++ es)
  touched_by place None after m ds es ih = ih m
  touched_by place (Some c) after m ds es ih =
      ap (λ (x : Pairs). noted_by after m (with_end (end_of place) c) (touched after x ds)) (map-with_end m (end_of place) c)
      ∙ ap (λ (run : List (List ℕ × Option (List ℕ))). noted_by after m (with_end (end_of place) c) run) (ih (map_after m c))
      ∙ noted-with_end after m (end_of place) c (touched after (map_after m c) es)

  touched-ended : (places : List ℕ) (after m : Pairs) → touched after m (commands_at (with_ends cs ends) places) ≡ touched after m (commands_at cs places)
  touched-ended [] after m = refl
  touched-ended (place ∷ places) after m =
      ap (λ (ds : List (Command A)). touched after m ds) (commands-ended places (commands_at (with_ends cs ends) places) place)
      ∙ touched_by place (slice_get cs place) after m (commands_at (with_ends cs ends) places) (commands_at cs places) (λ x. touched-ended places after x)

  -- the net run of a page's commands is the same
  pub net_run-ended : (places : List ℕ) (m : Pairs) → net_run m (commands_at (with_ends cs ends) places) ≡ net_run m (commands_at cs places)
  net_run-ended places m =
      ap (λ (after : Pairs). touched after m (commands_at (with_ends cs ends) places)) (map-ended places m) ∙ touched-ended places (map_after_all m (commands_at cs places)) m

-- ---- the whole batch

module _ {A : Type 0} where
  noted-end : (after before : Pairs) (end : Option (List ℕ)) (c : Command A) (run : List (List ℕ × Option (List ℕ))) → noted_by after before (with_end end c) run ≡ noted_by after before c run
  noted-end after before None c run = refl
  noted-end after before (Some end) (Scan lo hi limit) run = refl
  noted-end after before (Some end) _ run = refl

  touched-with_ends : (after m : Pairs) (cs : List (Command A)) (ends : List (Option (List ℕ))) → touched after m (with_ends cs ends) ≡ touched after m cs
  touched-with_ends after m [] ends = refl
  touched-with_ends after m (c ∷ cs) ends =
      ap (λ (x : Pairs). noted_by after m (with_end (first_end ends) c) (touched after x (with_ends cs (drop 1 ends)))) (map-with_end m (first_end ends) c)
      ∙ ap (λ (run : List (List ℕ × Option (List ℕ))). noted_by after m (with_end (first_end ends) c) run) (touched-with_ends after (map_after m c) cs (drop 1 ends))
      ∙ noted-end after m (first_end ends) c (touched after (map_after m c) cs)

  -- so is that of all commands
  pub net_run-with_ends : (m : Pairs) (cs : List (Command A)) (ends : List (Option (List ℕ))) → net_run m (with_ends cs ends) ≡ net_run m cs
  net_run-with_ends m cs ends = ap (λ (after : Pairs). touched after m (with_ends cs ends)) (map_all-with_ends m cs ends) ∙ touched-with_ends (map_after_all m cs) m cs ends

  -- the ends that scans may have are near
  pub near_ends : (keys : List (List ℕ)) (m : Pairs) (cs : List (Command A)) (ends : List (Option (List ℕ))) → MayEndAtAll keys m cs ends → AreNear cs ends keys
  near_ends keys m [] ends h place c e = absurd (cc)
  near_ends keys m (d ∷ cs) ends h zero c e = let same : d ≡ c = cc in subst (λ (x : Command A). IsNear keys x (first_end ends)) same (near_one keys m d (first_end ends) h.0)
  near_ends keys m (d ∷ cs) ends h (suc place) c e =
      subst (λ (end : Option (List ℕ)). IsNear keys c end) (drop-one keys ends place c) (near_ends keys (map_after m d) cs (drop 1 ends) h.1 place c e)

-- ---- the pages of a level

-- each page ends at or before the low keys that lie after its own
abbrev pub AllEndBefore : List (List ℕ) → List Place → Type 0
AllEndBefore keys ats = AllByRecursion (λ at. EndsBefore keys at.low at.end) ats

module _ (keys : List (List ℕ)) (k : List ℕ) where
  least_one : (low : List ℕ) (page_end : Option (List ℕ)) → order k low ≡ Less → EndsBefore keys low page_end → EndsBefore (k ∷ keys) low page_end
  least_one low page_end l f zero end h b = absurd (let same : k ≡ end = cc in let not : is_below low k ≡ false = not_below_lower k low l in let yes : is_below low k ≡ true = ap (is_below low) same ∙ b in cc)
  least_one low page_end l f (suc at) end h b = f at end h b

  -- one key more, which is the least, lies after no page's low key
  least_more : (es : List (List ℕ × ℕ)) → IsBelowAll k (keys_of es) → AllEndBefore keys (children es None) → AllEndBefore (k ∷ keys) (children es None)
  least_more [] b a = tt
  least_more (e ∷ es) b a =
      let c = subst (λ (ats : List Place). AllEndBefore keys ats) (children-cons e es None) a in
      subst (λ (ats : List Place). AllEndBefore (k ∷ keys) ats) (sym (children-cons e es None)) (least_one e.0 (next_key es None) b.0 c.0, least_more es b.1 c.1)

-- the first page ends where the next one begins
first_ends : (e : List ℕ × ℕ) (es : List (List ℕ × ℕ)) → IsRising (e ∷ es) → EndsBefore (keys_of (e ∷ es)) e.0 (next_key es None)
unfolding IsStrictlySortedBy
first_ends e es r zero end h b = absurd (let same : e.0 ≡ end = cc in let not : is_below e.0 e.0 ≡ false = not_below_itself e.0 in let yes : is_below e.0 e.0 ≡ true = ap (is_below e.0) same ∙ b in cc)
first_ends e [] r (suc at) end h b = absurd (cc)
first_ends e (f ∷ es) r (suc zero) end h b = let same : f.0 ≡ end = cc in ap (λ (k : List ℕ). is_below k f.0) (sym same) ∙ not_below_itself f.0
first_ends e (f ∷ es) r (suc (suc at)) end h b = not_below_lower f.0 end (below_at at es end (r.1).0 h)
  where
    below_at : (at : ℕ) (es : List (List ℕ × ℕ)) (end : List ℕ) → IsBelowAll f.0 (keys_of es) → slice_get (keys_of es) at ≡ Some end → order f.0 end ≡ Less
    below_at at [] end a h = absurd (cc)
    below_at zero (g ∷ es) end a h = let same : g.0 ≡ end = cc in rw (← same) a.0
    below_at (suc at) (g ∷ es) end a h = below_at at es end a.1 h

-- the pages of a level end so before the low keys of all
pub all_end_before : (es : List (List ℕ × ℕ)) → IsRising es → AllEndBefore (keys_of es) (children es None)
unfolding IsStrictlySortedBy
all_end_before [] r = tt
all_end_before (e ∷ es) r =
    subst (λ (ats : List Place). AllEndBefore (keys_of (e ∷ es)) ats) (sym (children-cons e es None)) (first_ends e es r, least_more (keys_of es) e.0 es r.0 (all_end_before es r.1))
