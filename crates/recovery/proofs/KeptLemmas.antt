-- What is retained of each page, after one more frame at a time.
use Rattle.std.specs.Prelude.{◌≡◌, ◌≢◌, ℕ, suc, ◌+◌, ◌-◌, ◌^◌, ◌≤◌, min, Bool, true, false, cond, ◌&&◌, ◌||◌, nat_eq, List, [], ◌∷◌, ◌++◌, length, map, Option, Some, None, is_some}
use Rattle.std.proofs.Common.{refl, sym, ap, ◌∙◌, subst, arith, length-append, append_assoc}
use Rattle.std.specs.BTreeMap.{BTreeMap, get}
use Rattle.std.specs.List.{filter, list_any}
use Rattle.std.specs.Ordering.{nat_cmp, is_eq}
use Rattle.std.proofs.lemmas.Bool.{eqb-true, ne_eqb}
use Rattle.std.proofs.lemmas.List.{map-append, append-nil}
use Rattle.std.proofs.lemmas.List.Folds.{list_any-append}
use Rattle.std.proofs.lemmas.List.Sums.{fold-append}
use Rattle.index_page.specs.Page.{bare}
use Rattle.index_page.specs.Page.PageOfKind.{Leaf, Index}
use Rattle.mapping.specs.FreshPids.{is_among}
use Rattle.frame_codec.specs.Frame.{Content, Frame, bytes_of}
use Rattle.frame_codec.specs.Frame.Content.{FullLeaf, DeltaLeaf, FullIndex, DeltaIndex, Free}
use Rattle.frame_codec.specs.Skimmed.{kind_of}
use Rattle.frame_codec.specs.declared.skim.FrameKind.{FrameKind}
use Rattle.frame_codec.specs.declared.skim.FrameKind.TheVariants as kinds
use Rattle.flush_log.specs.Reading.{Found}
use Rattle.recovery.specs.Gathered.{live_frames, contents_in, is_wanted_in, wanted_of, encoded, live_size, IsStateOf, IsKept, with_leaf_run, with_index_run, state_after, segment_after, run_size, size_after, with_base, with_run, kept_with, IsKeptOf, AreKept, first_segment}
use Rattle.recovery.specs.LogPages.{contents_of}
use Rattle.recovery.specs.PageByLog.{is_base, is_start, from_last, InLog, with_newer_run, begun_page, continued, page_from_start}
use Rattle.recovery.specs.PageByLog.InLog.{Missing, Present, Broken}
use Rattle.recovery.specs.StoreOfDisk.{frames_in}
use Rattle.recovery.specs.declared.gather.Kept.{Kept}
use Rattle.recovery.specs.declared.gather.PageState.{PageState}
use Rattle.recovery.specs.declared.gather.PageState.TheVariants as state
use Rattle.recovery.specs.declared.gather.Wanted.{Wanted}
use Rattle.recovery.specs.declared.gather.Wanted.TheVariants.{Every}
use Rattle.recovery.proofs.GatherLemmas.{same_at, among_more, same_turned}
use Rattle.recovery.proofs.PartLemmas.{from_last-none, from_last-at, from_last-more, from_last-some}

-- ---- what was found of a pid

-- the content of what was found
abbrev pub said : Found → Content
said f = f.frame.content

abbrev pub starts : Found → Bool
starts f = is_start f.frame.content

abbrev pub of_pid : ℕ → List Found → List Found
of_pid pid found = filter (λ f. nat_eq f.frame.pid pid) found

joined_changes : (b : Bool) (f : Found) (fs : List Frame) (gs : List Found) → map (λ (g : Frame). g.content) fs ≡ contents_in gs → map (λ (g : Frame). g.content) (cond b (f.frame ∷ fs) fs) ≡ contents_in (cond b (f ∷ gs) gs)
joined_changes true f fs gs e = ap (λ (cs : List Content). f.frame.content ∷ cs) e
joined_changes false f fs gs e = e

pub contents-found : (pid : ℕ) (found : List Found) → contents_of pid (frames_in found) ≡ contents_in (of_pid pid found)
contents-found pid [] = refl
contents-found pid (f ∷ fs) = joined_changes (nat_eq f.frame.pid pid) f (filter (λ g. nat_eq g.pid pid) (frames_in fs)) (of_pid pid fs) (contents-found pid fs)

filter_by : (b : Bool) (f : Found) (xs ys zs : List Found) → xs ≡ ys ++ zs → cond b (f ∷ xs) xs ≡ cond b (f ∷ ys) ys ++ zs
filter_by true f xs ys zs e = ap (λ (x : List Found). f ∷ x) e
filter_by false f xs ys zs e = e

pub of_pid-append : (pid : ℕ) (xs ys : List Found) → of_pid pid (xs ++ ys) ≡ of_pid pid xs ++ of_pid pid ys
of_pid-append pid [] ys = refl
of_pid-append pid (x ∷ xs) ys = filter_by (nat_eq x.frame.pid pid) x (of_pid pid (xs ++ ys)) (of_pid pid xs) (of_pid pid ys) (of_pid-append pid xs ys)

-- ---- the part from the last start on, with one more after it

-- one more after some, unless there are none
abbrev pub after_some : {X : Type 0} → List X → X → List X
after_some [] x = []
after_some (y ∷ ys) x = y ∷ (ys ++ x ∷ [])

module _ {X : Type 0} (test : X → Bool) where
  after_any : (xs : List X) (x : X) → list_any test xs ≡ true → after_some xs x ≡ xs ++ x ∷ []
  after_any [] x e = absurd (cc)
  after_any (y ∷ ys) x e = refl

  not_one : (x : X) → test x ≡ false → list_any test (x ∷ []) ≡ false
  not_one x e = rw e refl

  run_after : (b : Bool) (xs : List X) (x : X) → list_any test xs ≡ b → test x ≡ false → from_last test (xs ++ x ∷ []) ≡ after_some (from_last test xs) x
  run_after true xs x some e = from_last-more test xs (x ∷ []) some (not_one x e) ∙ sym (after_any (from_last test xs) x (from_last-some test xs some))
  run_after false xs x none e =
      from_last-none test (xs ++ x ∷ []) (list_any-append test xs (x ∷ []) ∙ ap (λ (b : Bool). b || list_any test (x ∷ [])) none ∙ not_one x e)
      ∙ ap (λ (ys : List X). after_some ys x) (sym (from_last-none test xs none))

  part_by : (b : Bool) (xs : List X) (x : X) → test x ≡ b → from_last test (xs ++ x ∷ []) ≡ cond b (x ∷ []) (after_some (from_last test xs) x)
  part_by true xs x e = from_last-at test xs x [] e refl
  part_by false xs x e = run_after (list_any test xs) xs x refl e

  pub part-more : (xs : List X) (x : X) → from_last test (xs ++ x ∷ []) ≡ cond (test x) (x ∷ []) (after_some (from_last test xs) x)
  part-more xs x = part_by (test x) xs x refl

-- a page's live frames, with one more of it
abbrev pub part_with : List Found → Found → List Found
part_with fs f = cond (starts f) (f ∷ []) (after_some fs f)

one_by : (b : Bool) (f : Found) (pid : ℕ) → nat_eq f.frame.pid pid ≡ b → of_pid pid (f ∷ []) ≡ cond b (f ∷ []) []
one_by true f pid e = rw e refl
one_by false f pid e = rw e refl

pub live_frames-own : (pid : ℕ) (found : List Found) (f : Found) → nat_eq f.frame.pid pid ≡ true → live_frames pid (found ++ f ∷ []) ≡ part_with (live_frames pid found) f
live_frames-own pid found f e =
    ap (λ (fs : List Found). from_last starts fs) (of_pid-append pid found (f ∷ []) ∙ ap (λ (fs : List Found). of_pid pid found ++ fs) (one_by true f pid e))
    ∙ part-more starts (of_pid pid found) f

pub live_frames-other : (pid : ℕ) (found : List Found) (f : Found) → nat_eq f.frame.pid pid ≡ false → live_frames pid (found ++ f ∷ []) ≡ live_frames pid found
live_frames-other pid found f e =
    ap (λ (fs : List Found). from_last starts fs) (of_pid-append pid found (f ∷ []) ∙ ap (λ (fs : List Found). of_pid pid found ++ fs) (one_by false f pid e) ∙ append-nil (of_pid pid found))

-- ---- the state of a page

with_some : (cs : List Content) (c : Content) → cs ≢ [] → page_from_start (after_some cs c) ≡ continued (page_from_start cs) c
with_some [] c some = absurd (some refl)
with_some (d ∷ ds) c some = fold-append continued (begun_page d) ds (c ∷ [])

some_state : (cs : List Content) (q : InLog) → page_from_start cs ≡ q → q ≢ Missing → cs ≢ []
some_state cs q e other none = other (sym e ∙ ap page_from_start none)

continued_after : (cs : List Content) (c : Content) (q : InLog) → page_from_start cs ≡ q → q ≢ Missing → page_from_start (after_some cs c) ≡ continued q c
continued_after cs c q e other = with_some cs c (some_state cs q e other) ∙ ap (λ (r : InLog). continued r c) e

leaf_run : (t : PageState) (cs : List Content) (run : List (List ℕ × Option (List ℕ))) → IsStateOf t cs → IsStateOf (with_leaf_run t) (after_some cs (DeltaLeaf run))
leaf_run state.Nothing cs run h = ap (λ (ds : List Content). after_some ds (DeltaLeaf run)) h
leaf_run state.Leaf cs run (p, h) = (with_newer_run p run, continued_after cs (DeltaLeaf run) (Present (Leaf p)) h (λ e. absurd (cc)))
leaf_run state.Index cs run (p, h) = continued_after cs (DeltaLeaf run) (Present (Index p)) h (λ e. absurd (cc))
leaf_run state.Free cs run h = ap (λ (ds : List Content). page_from_start (after_some ds (DeltaLeaf run))) h
leaf_run state.Unfit cs run h = continued_after cs (DeltaLeaf run) Broken h (λ e. absurd (cc))

index_run : (t : PageState) (cs : List Content) (run : List (List ℕ × Option ℕ)) → IsStateOf t cs → IsStateOf (with_index_run t) (after_some cs (DeltaIndex run))
index_run state.Nothing cs run h = ap (λ (ds : List Content). after_some ds (DeltaIndex run)) h
index_run state.Leaf cs run (p, h) = continued_after cs (DeltaIndex run) (Present (Leaf p)) h (λ e. absurd (cc))
index_run state.Index cs run (p, h) = (with_newer_run p run, continued_after cs (DeltaIndex run) (Present (Index p)) h (λ e. absurd (cc)))
index_run state.Free cs run h = ap (λ (ds : List Content). page_from_start (after_some ds (DeltaIndex run))) h
index_run state.Unfit cs run h = continued_after cs (DeltaIndex run) Broken h (λ e. absurd (cc))

state-more : (t : PageState) (cs : List Content) (c : Content) → IsStateOf t cs → IsStateOf (state_after t (kind_of c)) (cond (is_start c) (c ∷ []) (after_some cs c))
state-more t cs (FullLeaf encoding low base) h = (bare low base, refl)
state-more t cs (DeltaLeaf run) h = leaf_run t cs run h
state-more t cs (FullIndex encoding low base) h = (bare low base, refl)
state-more t cs (DeltaIndex run) h = index_run t cs run h
state-more t cs Free h = refl

contents_after_some : (fs : List Found) (f : Found) → contents_in (after_some fs f) ≡ after_some (contents_in fs) f.frame.content
contents_after_some [] f = refl
contents_after_some (g ∷ gs) f = ap (λ (cs : List Content). g.frame.content ∷ cs) (map-append (λ (g : Found). g.frame.content) gs (f ∷ []))

contents_by : (b : Bool) (fs : List Found) (f : Found) → contents_in (cond b (f ∷ []) (after_some fs f)) ≡ cond b (f.frame.content ∷ []) (after_some (contents_in fs) f.frame.content)
contents_by true fs f = refl
contents_by false fs f = contents_after_some fs f

-- ---- the segment of its last base or free frame

run_segment : (fs : List Found) (f : Found) → first_segment fs ≡ first_segment (after_some fs f)
run_segment [] f = refl
run_segment (g ∷ gs) f = refl

segment-more : (c : Content) (n pid : ℕ) (fs : List Found) → segment_after (first_segment fs) (kind_of c) n ≡ first_segment (part_with fs (record { segment = n; frame = record { pid = pid; content = c } }))
segment-more (FullLeaf encoding low base) n pid fs = refl
segment-more (DeltaLeaf run) n pid fs = run_segment fs (record { segment = n; frame = record { pid = pid; content = DeltaLeaf run } })
segment-more (FullIndex encoding low base) n pid fs = refl
segment-more (DeltaIndex run) n pid fs = run_segment fs (record { segment = n; frame = record { pid = pid; content = DeltaIndex run } })
segment-more Free n pid fs = refl

-- ---- which of its frames are kept

pub some_bytes : (f : Frame) → 1 ≤ length (bytes_of f)
some_bytes f = omega arith

-- a run after some bytes
run_some : (xs frame : List ℕ) → 1 ≤ length xs → with_run xs frame ≡ xs ++ frame
run_some [] frame h = absurd (omega (arith, h))
run_some (x ∷ xs) frame h = refl

pub encoded-append : (fs gs : List Frame) → encoded (fs ++ gs) ≡ encoded fs ++ encoded gs
encoded-append [] gs = refl
encoded-append (f ∷ fs) gs = ap (λ (bs : List ℕ). bytes_of f ++ bs) (encoded-append fs gs) ∙ sym (append_assoc (bytes_of f) (encoded fs) (encoded gs))

base_kept : (b : Bool) (f : Frame) → with_base b (bytes_of f) ≡ encoded (cond (b && true) (f ∷ []) [])
base_kept true f = sym (append-nil (bytes_of f))
base_kept false f = refl

free_kept : (b : Bool) (f : Frame) → [] ≡ encoded (cond (b && false) (f ∷ []) [])
free_kept true f = refl
free_kept false f = refl

follows_by : (b : Bool) (g f : Found) (gs : List Found) (bytes : List ℕ) → bytes ≡ encoded (cond b (frames_in (g ∷ gs)) []) → with_run bytes (bytes_of f.frame) ≡ encoded (cond b (frames_in (g ∷ (gs ++ f ∷ []))) [])
follows_by true g f gs bytes e =
    let some = some_bytes g.frame in
    let long = length-append (bytes_of g.frame) (encoded (frames_in gs)) in
    ap (λ (bs : List ℕ). with_run bs (bytes_of f.frame)) e
    ∙ run_some (encoded (frames_in (g ∷ gs))) (bytes_of f.frame) (omega (arith, some, long))
    ∙ ap (λ (bs : List ℕ). encoded (frames_in (g ∷ gs)) ++ bs) (sym (append-nil (bytes_of f.frame)))
    ∙ sym (encoded-append (frames_in (g ∷ gs)) (f.frame ∷ []))
    ∙ ap (λ (fs : List Frame). encoded (g.frame ∷ fs)) (sym (map-append (λ (h : Found). h.frame) gs (f ∷ [])))
follows_by false g f gs bytes e = ap (λ (bs : List ℕ). with_run bs (bytes_of f.frame)) e

module _ (w : Wanted) where
  run_kept : (fs : List Found) (f : Found) (bytes : List ℕ) → bytes ≡ encoded (wanted_of w fs) → with_run bytes (bytes_of f.frame) ≡ encoded (wanted_of w (after_some fs f))
  run_kept [] f bytes e = ap (λ (bs : List ℕ). with_run bs (bytes_of f.frame)) e
  run_kept (g ∷ gs) f bytes e = follows_by (is_wanted_in w g.segment && is_base g.frame.content) g f gs bytes e

  kept_as : (c : Content) (n pid : ℕ) (fs : List Found) (bytes : List ℕ) → bytes ≡ encoded (wanted_of w fs)
      → (let f : Found = record { segment = n; frame = record { pid = pid; content = c } } in kept_with bytes (kind_of c) (is_wanted_in w n) (bytes_of f.frame) ≡ encoded (wanted_of w (part_with fs f)))
  kept_as (FullLeaf encoding low base) n pid fs bytes e = base_kept (is_wanted_in w n) (record { pid = pid; content = FullLeaf encoding low base })
  kept_as (DeltaLeaf run) n pid fs bytes e = run_kept fs (record { segment = n; frame = record { pid = pid; content = DeltaLeaf run } }) bytes e
  kept_as (FullIndex encoding low base) n pid fs bytes e = base_kept (is_wanted_in w n) (record { pid = pid; content = FullIndex encoding low base })
  kept_as (DeltaIndex run) n pid fs bytes e = run_kept fs (record { segment = n; frame = record { pid = pid; content = DeltaIndex run } }) bytes e
  kept_as Free n pid fs bytes e = free_kept (is_wanted_in w n) (record { pid = pid; content = Free })

-- ---- how many bytes they have

abbrev as_size : List ℕ → ℕ
as_size bytes = min (length bytes) (2 ^ 64 - 1)

sum_of : (m n more : ℕ) → n ≡ min (suc m) (2 ^ 64 - 1) → run_size n more ≡ min (suc m + more) (2 ^ 64 - 1)
sum_of m n more e =
    ap (λ (b : Bool). cond b 0 (min (n + more) (2 ^ 64 - 1))) (ne_eqb n 0 (λ none. omega (arith, none, e)))
    ∙ omega (arith, e)

run_sized : (bytes frame : List ℕ) (n : ℕ) → n ≡ as_size bytes → run_size n (length frame) ≡ as_size (with_run bytes frame)
run_sized [] frame n e = ap (λ (m : ℕ). run_size m (length frame)) e
run_sized (b ∷ bytes) frame n e = sum_of (length bytes) n (length frame) e ∙ ap (λ (m : ℕ). min m (2 ^ 64 - 1)) (sym (length-append (b ∷ bytes) frame))

sized : (kind : FrameKind) (bytes frame : List ℕ) (n : ℕ) → n ≡ as_size bytes → size_after n kind (length frame) ≡ as_size (kept_with bytes kind true frame)
sized kinds.FullLeaf bytes frame n e = refl
sized kinds.DeltaLeaf bytes frame n e = run_sized bytes frame n e
sized kinds.FullIndex bytes frame n e = refl
sized kinds.DeltaIndex bytes frame n e = run_sized bytes frame n e
sized kinds.Free bytes frame n e = refl

size-more : (fs : List Found) (f : Found) (n : ℕ) → n ≡ live_size fs → size_after n (kind_of f.frame.content) (length (bytes_of f.frame)) ≡ live_size (part_with fs f)
size-more fs f n e =
    let bytes = encoded (wanted_of Every fs) in
    sized (kind_of f.frame.content) bytes (bytes_of f.frame) n e ∙ ap as_size (kept_as Every f.frame.content f.segment f.frame.pid fs bytes refl)

-- ---- what is retained of a page

module _ (w : Wanted) where
  -- what is retained of it, with one more of its frames
  pub kept-more : (k now : Kept) (fs : List Found) (f : Found) → IsKept w k fs → now.state ≡ state_after k.state (kind_of f.frame.content) → now.segment ≡ segment_after k.segment (kind_of f.frame.content) f.segment
      → now.size ≡ size_after k.size (kind_of f.frame.content) (length (bytes_of f.frame))
      → now.frames.items ≡ kept_with k.frames.items (kind_of f.frame.content) (is_wanted_in w f.segment) (bytes_of f.frame) → IsKept w now (part_with fs f)
  kept-more k now fs f h t s z i =
      let state' : IsStateOf (state_after k.state (kind_of f.frame.content)) (contents_in (part_with fs f)) =
      subst (λ (cs : List Content). IsStateOf (state_after k.state (kind_of f.frame.content)) cs) (sym (contents_by (starts f) fs f)) (state-more k.state (contents_in fs) f.frame.content h.state) in
      record {
        state = subst (λ (u : PageState). IsStateOf u (contents_in (part_with fs f))) (sym t) state';
        segment = s ∙ ap (λ (n : ℕ). segment_after n (kind_of f.frame.content) f.segment) h.segment ∙ segment-more f.frame.content f.segment f.frame.pid fs;
        size = z ∙ size-more fs f k.size h.size;
        frames = i ∙ kept_as w f.frame.content f.segment f.frame.pid fs k.frames.items h.frames;
      }

  -- of a page without a frame so far
  pub kept-none : (k : Kept) (fs : List Found) → k.state ≡ state.Nothing → k.segment ≡ 0 → k.size ≡ 0 → k.frames.items ≡ [] → fs ≡ [] → IsKept w k fs
  kept-none k fs t s z i none = record {
    state = subst (λ (u : PageState). IsStateOf u (contents_in fs)) (sym t) (ap contents_in none);
    segment = s ∙ ap first_segment (sym none);
    size = z ∙ ap live_size (sym none);
    frames = i ∙ ap (λ (gs : List Found). encoded (wanted_of w gs)) (sym none);
  }

  -- what came out of the map, or nothing
  pub kept-some : (o : Option Kept) (k : Kept) (fs : List Found) → o ≡ Some k → IsKeptOf w o fs → IsKept w k fs
  kept-some None k fs e h = absurd (cc)
  kept-some (Some j) k fs e h = let same : j ≡ k = cc in subst (λ (i : Kept). IsKept w i fs) same h

  pub none-kept : (o : Option Kept) (fs : List Found) → o ≡ None → IsKeptOf w o fs → fs ≡ []
  none-kept None fs e h = h
  none-kept (Some j) fs e h = absurd (cc)

-- ---- all pages

abbrev no_page : Option Kept
no_page = None

-- one more frame: the entry of its pid is taken out, and the updated one is put in
module _ (w : Wanted) (old mid now : BTreeMap ℕ Kept) (f : Found) (kept : Kept)
    (out : (n : ℕ) → get nat_cmp mid n ≡ cond (is_eq (nat_cmp f.frame.pid n)) None (get nat_cmp old n))
    (into : (n : ℕ) → get nat_cmp now n ≡ cond (is_eq (nat_cmp f.frame.pid n)) (Some kept) (get nat_cmp mid n)) where
  in_by : (b : Bool) (n : ℕ) → nat_eq f.frame.pid n ≡ b → get nat_cmp now n ≡ cond b (Some kept) (get nat_cmp old n)
  in_by true n e = into n ∙ ap (λ (b : Bool). cond b (Some kept) (get nat_cmp mid n)) (same_at f.frame.pid n ∙ e)
  in_by false n e =
      into n ∙ ap (λ (b : Bool). cond b (Some kept) (get nat_cmp mid n)) (same_at f.frame.pid n ∙ e)
      ∙ (out n ∙ ap (λ (b : Bool). cond b no_page (get nat_cmp old n)) (same_at f.frame.pid n ∙ e))

  each_by : (b : Bool) (found : List Found) (n : ℕ) → nat_eq f.frame.pid n ≡ b → AreKept w old found → IsKept w kept (part_with (live_frames f.frame.pid found) f)
      → IsKeptOf w (get nat_cmp now n) (live_frames n (found ++ f ∷ []))
  each_by true found n e h k =
      let own : live_frames n (found ++ f ∷ []) ≡ part_with (live_frames f.frame.pid found) f = live_frames-own n found f e ∙ ap (λ (m : ℕ). part_with (live_frames m found) f) (sym (eqb-true f.frame.pid n e)) in
      subst (λ (o : Option Kept). IsKeptOf w o (live_frames n (found ++ f ∷ []))) (sym (in_by true n e)) (subst (λ (fs : List Found). IsKept w kept fs) (sym own) k)
  each_by false found n e h k =
      subst (λ (o : Option Kept). IsKeptOf w o (live_frames n (found ++ f ∷ []))) (sym (in_by false n e))
      (subst (λ (fs : List Found). IsKeptOf w (get nat_cmp old n) fs) (sym (live_frames-other n found f e)) (h.each n))

  pids_by : (b : Bool) (found : List Found) (n : ℕ) → nat_eq f.frame.pid n ≡ b → AreKept w old found → is_some (get nat_cmp now n) ≡ (is_among n (map (λ (g : Found). g.frame.pid) found) || b)
  pids_by true found n e h = ap (λ o. is_some o) (in_by true n e) ∙ sym (or_true (is_among n (map (λ (g : Found). g.frame.pid) found)))
    where
      or_true : (b : Bool) → (b || true) ≡ true
      or_true true = refl
      or_true false = refl
  pids_by false found n e h = ap (λ o. is_some o) (in_by false n e) ∙ h.pids n ∙ sym (or_none (is_among n (map (λ (g : Found). g.frame.pid) found)))
    where
      or_none : (b : Bool) → (b || false) ≡ b
      or_none true = refl
      or_none false = refl

  pub pages-more : (found : List Found) → AreKept w old found → IsKept w kept (part_with (live_frames f.frame.pid found) f) → AreKept w now (found ++ f ∷ [])
  pages-more found h k = record {
    each = λ n. each_by (nat_eq f.frame.pid n) found n refl h k;
    pids = λ n. pids_by (nat_eq f.frame.pid n) found n refl h
        ∙ ap (λ (b : Bool). is_among n (map (λ (g : Found). g.frame.pid) found) || b) (same_turned (nat_eq f.frame.pid n) (nat_eq n f.frame.pid) f.frame.pid n refl refl)
        ∙ sym (ap (λ (ns : List ℕ). is_among n ns) (map-append (λ (g : Found). g.frame.pid) found (f ∷ [])) ∙ among_more n f.frame.pid (map (λ (g : Found). g.frame.pid) found));
  }

-- whether a base is wanted, as the code tests it
pub wanted-same : (w v : Wanted) (n m : ℕ) (b : Bool) → v ≡ w → m ≡ n → b ≡ is_wanted_in v m → b ≡ is_wanted_in w n
wanted-same w v n m b e same is = is ∙ ap (λ (u : Wanted). is_wanted_in u m) e ∙ ap (λ (k : ℕ). is_wanted_in w k) same
