-- The input and the output of the work on images.
use Rattle.std.specs.Prelude.{◌≡◌, ◌≢◌, ℕ, ◌^◌, ◌<◌, ⊤, List, [], ◌∷◌, ◌++◌, map, drop, Option, Some, None}
use Rattle.std.specs.Borrow.{Bor}
use Rattle.std.specs.List.{AllByRecursion}
use Rattle.std.specs.Option.{option_copied}
use Rattle.keys.specs.Bytes.{Bytes}
use Rattle.keys.specs.Limits.{first_bad_field}
use Rattle.keys.specs.declared.settings.Settings.{Settings}
use Rattle.index_page.specs.Page.{PageOfKind}
use Rattle.mapping.specs.Flushed.{page_depth}
use Rattle.mapping.specs.LogState.{log_state}
use Rattle.mapping.specs.Proper.{IsProper}
use Rattle.mapping.specs.Tree.{Logged, Tree, page_at, logged_of}
use Rattle.mapping.specs.Tree.Logged.{No, Old, Upto}
use Rattle.mapping.specs.declared.logged.Logged as of_code
use Rattle.frame_codec.specs.declared.format.KeyEncoding.{KeyEncoding}
use Rattle.frame_codec.specs.Frame.{Content, Frame, bytes_of}
use Rattle.frame_codec.specs.Sized.{IsSized, FitsU64}
use Rattle.flush_log.specs.FlushText.{encoding_of, lacking, frames_of, version_with, taken}
use Rattle.flush_log.specs.declared.image_work.ImageJob.{ImageJob}
use Rattle.flush_log.specs.declared.text.CommitKind.{CommitKind}

-- a pid, the key encoding for its base, its page if it has one, and its log state
pub record ImageHeld : Type 0 where
  pub pid : ℕ
  pub encoding : KeyEncoding
  pub page : Option PageOfKind
  pub logged : Logged

-- the input in a job: from its parts, and as a job
abbrev pub image_held : ℕ → KeyEncoding → Option (Bor PageOfKind) → of_code.Logged → ImageHeld
image_held pid encoding page logged = record { pid = pid; encoding = encoding; page = option_copied page; logged = log_state logged }

abbrev pub job_held : ImageJob → ImageHeld
job_held j = image_held j.pid j.encoding j.page j.logged

-- the input for a pid of a tree
abbrev pub held_of_pid : CommitKind → Tree → ℕ → ImageHeld
held_of_pid text t pid =
    record { pid = pid; encoding = encoding_of (version_with text); page = page_at t.pages pid; logged = taken text (logged_of t pid) }

-- the frames that must be written for it
abbrev pub held_text : ImageHeld → List Frame
held_text h = frames_of h.pid (lacking h.encoding h.page h.logged)

-- the encodings of these frames
abbrev pub image_made : ImageHeld → List Bytes
image_made h = map (λ f. bytes_of f) (held_text h)

-- the page has fewer than 2^31 runs, so that counts of runs do not overflow
abbrev pub HasFewRuns : Option PageOfKind → Type 0
HasFewRuns None = ⊤
HasFewRuns (Some p) = page_depth p < 2 ^ 31

-- a valid input: a store may have the contents to be written, by their sizes, and the page has few runs
pub record CanBeWritten (h : ImageHeld) : Type 0 where
  pub sized : AllByRecursion IsSized (lacking h.encoding h.page h.logged)
  pub few : HasFewRuns h.page

-- a valid input with something to write
abbrev pub IsDue : ImageHeld → Type 0
IsDue h = CanBeWritten h × (held_text h ≢ [])

-- the contents to be written for a page with this base and these runs, which are given oldest first
abbrev pub lacking_by : Logged → Content → List Content → List Content
lacking_by No base runs = base ∷ runs
lacking_by Old base runs = base ∷ runs
lacking_by (Upto k) base runs = drop k runs

-- these contents were appended as frames of one pid, and each page id in them has 64 bits
pub record AreWritten (pid : ℕ) (cs : List Content) (old new : List Bytes) : Type 0 where
  pub bytes : new ≡ old ++ map (λ f. bytes_of f) (frames_of pid cs)
  pub words : AllByRecursion FitsU64 (frames_of pid cs)

-- this is the image for the input
abbrev pub IsImageOf : ImageHeld → List Bytes → Type 0
IsImageOf h image = AreWritten h.pid (lacking h.encoding h.page h.logged) [] image

-- the tree of a store: it is proper under valid settings
abbrev pub IsOfStore : Tree → Type 0
IsOfStore t = (s : Settings) × (first_bad_field s ≡ None) × IsProper s t
