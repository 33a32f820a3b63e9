-- The page of a page's live frames, as they are in the log.
use Rattle.std.specs.Prelude.{◌≡◌, ℕ, List, [], map, length, Option, Some, None, Result, Ok, Err}
use Rattle.keys.specs.Bytes.{Bytes}
use Rattle.index_page.specs.Page.{PageOfKind}
use Rattle.index_page.specs.Page.PageOfKind.{Leaf as LeafPage, Index as IndexPage}
use Rattle.frame_codec.specs.declared.format.Format.{Format}
use Rattle.frame_codec.specs.Frame.{Content, Frame}
use Rattle.frame_codec.specs.Shown.{frame_of}
use Rattle.frame_codec.specs.declared.frame.Frame as code
use Rattle.flush_log.specs.Reading.{is_at_tail, read_frames}
use Rattle.recovery.specs.PageByLog.{InLog, continued, page_from_start}
use Rattle.recovery.specs.PageByLog.InLog.{Present, Broken}
use Rattle.recovery.specs.declared.page_parts.PageParts.{PageParts}
use Rattle.recovery.specs.declared.page_parts.PageParts.TheVariants.{Leaf, Index}
use Rattle.recovery.specs.declared.rebuild.PageLog.{PageLog}

-- ---- frames in bytes

-- all frames that were read, if the bytes contain nothing else
abbrev pub all_or_none : Result (List Frame) ℕ → List Frame
all_or_none (Ok fs) = fs
all_or_none (Err left) = []

-- the frames whose concatenated encodings these bytes are, or none if they contain anything else
abbrev pub frames_of_bytes : Format → Bytes → List Frame
frames_of_bytes s bytes = all_or_none (read_frames s is_at_tail (length bytes) bytes)

-- the page that these frames determine
abbrev pub page_of_frames : Format → Bytes → InLog
page_of_frames s bytes = page_from_start (map (λ f. f.content) (frames_of_bytes s bytes))

-- ---- the work

-- a pid, and its frames
pub record HeldLog : Type 0 where
  pub pid : ℕ
  pub frames : Bytes

abbrev pub held_log : PageLog → HeldLog
held_log log = record { pid = log.pid; frames = log.frames.items }

-- ---- intermediate states

-- the content of a frame in the code's form
abbrev pub content_of : code.Frame → Content
content_of f = (frame_of f).content

-- the page of these parts
abbrev pub page_of_parts : PageParts → PageOfKind
page_of_parts (Leaf low chain) = LeafPage (record { low = low; layers = chain })
page_of_parts (Index low chain) = IndexPage (record { low = low; layers = chain })

-- a page after this content: it has one more run, or the content does not fit
abbrev pub IsPushed : PageOfKind → Content → Option PageParts → Type 0
IsPushed p c None = continued (Present p) c ≡ Broken
IsPushed p c (Some now) = continued (Present p) c ≡ Present (page_of_parts now)
