-- What is retained of each page while a log is read: the state after its frames, and the bytes of the wanted frames.
use Rattle.std.specs.Prelude.{◌≡◌, ℕ, ◌+◌, ◌-◌, ◌^◌, min, Bool, true, false, ◌&&◌, nat_eq, nat_lt, if◌then◌else◌, List, [], ◌∷◌, ◌++◌, length, map, flat_map, Option, Some, None, is_some, Result, Ok, Err}
use Rattle.std.specs.BTreeMap.{BTreeMap, get}
use Rattle.std.specs.List.{AllByRecursion, filter}
use Rattle.std.specs.Ordering.{nat_cmp}
use Rattle.keys.specs.Bytes.{Bytes}
use Rattle.keys.specs.declared.fault.Fault.{Fault}
use Rattle.index_page.specs.Page.{Page}
use Rattle.index_page.specs.Page.PageOfKind.{Leaf, Index}
use Rattle.mapping.specs.Finding.{Finding}
use Rattle.mapping.specs.FreshPids.{is_among}
use Rattle.frame_codec.specs.declared.format.Format.{Format}
use Rattle.frame_codec.specs.Frame.{Content, Frame, bytes_of, is_frame}
use Rattle.frame_codec.specs.Frame.Content.{Free}
use Rattle.frame_codec.specs.declared.skim.FrameKind.{FrameKind}
use Rattle.frame_codec.specs.declared.skim.FrameKind.TheVariants as kinds
use Rattle.flush_log.specs.Reading.{Found}
use Rattle.recovery.specs.PageByLog.{is_base, is_start, from_last, page_from_start}
use Rattle.recovery.specs.PageByLog.InLog.{Present, Broken}
use Rattle.recovery.specs.StoreOfDisk.{frames_in}
use Rattle.recovery.specs.declared.gather.Gathering.{Gathering}
use Rattle.recovery.specs.declared.gather.Kept.{Kept}
use Rattle.recovery.specs.declared.gather.PageState.{PageState}
use Rattle.recovery.specs.declared.gather.PageState.TheVariants as state
use Rattle.recovery.specs.declared.gather.Wanted.{Wanted}
use Rattle.recovery.specs.declared.gather.Wanted.TheVariants.{Every, Before}

-- ---- the frames of a page

-- the live frames of a pid, which determine its page: those from the last base or free frame on
abbrev pub live_frames : ℕ → List Found → List Found
live_frames pid found = from_last (λ f. is_start f.frame.content) (filter (λ f. nat_eq f.frame.pid pid) found)

-- their contents
abbrev pub contents_in : List Found → List Content
contents_in fs = map (λ f. f.frame.content) fs

-- the segment of the first of these frames, or 0 if there are none
abbrev pub first_segment : List Found → ℕ
first_segment [] = 0
first_segment (f ∷ fs) = f.segment

-- whether frames are wanted of a page whose base is in this segment
abbrev pub is_wanted_in : Wanted → ℕ → Bool
is_wanted_in Every n = true
is_wanted_in (Before end) n = nat_lt n end

-- the retained frames of a page with these live frames: all of them, if the first one is a base that is wanted
abbrev pub wanted_of : Wanted → List Found → List Frame
wanted_of w [] = []
wanted_of w (f ∷ fs) = if is_wanted_in w f.segment && is_base f.frame.content then frames_in (f ∷ fs) else []

-- the concatenated encodings of frames
abbrev pub encoded : List Frame → Bytes
encoded fs = flat_map bytes_of fs

-- the size in bytes of a page's live frames if the first is a base, else 0; capped at the greatest 64-bit number
abbrev pub live_size : List Found → ℕ
live_size fs = min (length (encoded (wanted_of Every fs))) (2 ^ 64 - 1)

-- ---- one page

-- the state of a page with these contents, from its last base or free frame on
abbrev pub IsStateOf : PageState → List Content → Type 0
IsStateOf state.Nothing cs = cs ≡ []
IsStateOf state.Leaf cs = (p : Page Bytes) × (page_from_start cs ≡ Present (Leaf p))
IsStateOf state.Index cs = (p : Page ℕ) × (page_from_start cs ≡ Present (Index p))
IsStateOf state.Free cs = cs ≡ Free ∷ []
IsStateOf state.Unfit cs = page_from_start cs ≡ Broken

-- what is retained of a page with these live frames
pub record IsKept (w : Wanted) (k : Kept) (fs : List Found) : Type 0 where
  pub state : IsStateOf k.state (contents_in fs)
  pub segment : k.segment ≡ first_segment fs
  pub size : k.size ≡ live_size fs
  pub frames : k.frames.items ≡ encoded (wanted_of w fs)

-- ---- one more frame

-- the state of a page after a run of a leaf
abbrev pub with_leaf_run : PageState → PageState
with_leaf_run state.Nothing = state.Nothing
with_leaf_run state.Leaf = state.Leaf
with_leaf_run state.Index = state.Unfit
with_leaf_run state.Free = state.Unfit
with_leaf_run state.Unfit = state.Unfit

-- the state after a run of an index page
abbrev pub with_index_run : PageState → PageState
with_index_run state.Nothing = state.Nothing
with_index_run state.Leaf = state.Unfit
with_index_run state.Index = state.Index
with_index_run state.Free = state.Unfit
with_index_run state.Unfit = state.Unfit

-- the state after a frame of any kind
abbrev pub state_after : PageState → FrameKind → PageState
state_after t kinds.FullLeaf = state.Leaf
state_after t kinds.DeltaLeaf = with_leaf_run t
state_after t kinds.FullIndex = state.Index
state_after t kinds.DeltaIndex = with_index_run t
state_after t kinds.Free = state.Free

-- the segment of the page's last base or free frame after one more frame
abbrev pub segment_after : ℕ → FrameKind → ℕ → ℕ
segment_after last kinds.FullLeaf n = n
segment_after last kinds.DeltaLeaf n = last
segment_after last kinds.FullIndex n = n
segment_after last kinds.DeltaIndex n = last
segment_after last kinds.Free n = n

-- the size of a page's frames after one more run, which does not count if there is no base
abbrev pub run_size : ℕ → ℕ → ℕ
run_size n more = if nat_eq n 0 then 0 else min (n + more) (2 ^ 64 - 1)

-- the size after a frame of any kind
abbrev pub size_after : ℕ → FrameKind → ℕ → ℕ
size_after n kinds.FullLeaf more = min more (2 ^ 64 - 1)
size_after n kinds.DeltaLeaf more = run_size n more
size_after n kinds.FullIndex more = min more (2 ^ 64 - 1)
size_after n kinds.DeltaIndex more = run_size n more
size_after n kinds.Free more = 0

-- the retained frames after a base: only the base, if it is wanted
abbrev pub with_base : Bool → Bytes → Bytes
with_base is_wanted frame = if is_wanted then frame else []

-- the retained frames after a run, which is not retained if there are none
abbrev pub with_run : Bytes → Bytes → Bytes
with_run [] frame = []
with_run (b ∷ bytes) frame = (b ∷ bytes) ++ frame

-- the retained frames after a frame of any kind
abbrev pub kept_with : Bytes → FrameKind → Bool → Bytes → Bytes
kept_with frames kinds.FullLeaf is_wanted frame = with_base is_wanted frame
kept_with frames kinds.DeltaLeaf is_wanted frame = with_run frames frame
kept_with frames kinds.FullIndex is_wanted frame = with_base is_wanted frame
kept_with frames kinds.DeltaIndex is_wanted frame = with_run frames frame
kept_with frames kinds.Free is_wanted frame = []

-- ---- all pages

-- what is retained under a pid with these live frames
abbrev pub IsKeptOf : Wanted → Option Kept → List Found → Type 0
IsKeptOf w None fs = fs ≡ []
IsKeptOf w (Some k) fs = IsKept w k fs

-- under each pid, what is retained of its page after the frames so far; and each pid of a frame so far has an entry
pub record AreKept (w : Wanted) (by_pid : BTreeMap ℕ Kept) (found : List Found) : Type 0 where
  pub each : (pid : ℕ) → IsKeptOf w (get nat_cmp by_pid pid) (live_frames pid found)
  pub pids : (pid : ℕ) → is_some (get nat_cmp by_pid pid) ≡ is_among pid (map (λ f. f.frame.pid) found)

-- the gathering has the states and the retained frames after these frames
pub record AreLive (w : Wanted) (g : Gathering) (found : List Found) : Type 0 where
  pub wanted : g.wanted ≡ w
  pub kept : AreKept w g.by_pid found

-- the same, and a log of this format may contain these frames
pub record AreGathered (s : Format) (w : Wanted) (g : Gathering) (found : List Found) : Type 0 where
  pub live : AreLive w g found
  pub within : AllByRecursion (λ f. is_frame s f.frame ≡ true) found

-- what is retained of a log whose segments so far have these contents: a gathering, as long as there is no fault; else the fault
abbrev pub IsPartialLog : Wanted → Gathering → Option Fault → Result (List Found) Fault → Type 0
IsPartialLog w g None t = (found : List Found) × (t ≡ Ok found) × AreLive w g found
IsPartialLog w g (Some fault) t = t ≡ Err fault

-- ---- frames that do not fit together

-- whether the frames of a page do not fit together
abbrev pub is_unfit : PageState → Bool
is_unfit state.Unfit = true
is_unfit _ = false

-- the first of these pages whose frames do not fit together
abbrev pub first_unfit : List (ℕ × Kept) → Option Finding
first_unfit [] = None
first_unfit (e ∷ es) = if is_unfit e.1.state then Some (record { rule = 1; pid = e.0 }) else first_unfit es
