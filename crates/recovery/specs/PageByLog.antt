-- The page that the frames of one pid determine, in the order of the log.
use Rattle.std.specs.Prelude.{Bool, true, false, not, ◌&&◌, ◌||◌, if◌then◌else◌, List, [], ◌∷◌, fold, Option, Some, None, is_some}
use Rattle.std.specs.List.{list_any}
use Rattle.keys.specs.Bytes.{Changes}
use Rattle.index_page.specs.Page.{Page, PageOfKind, bare}
use Rattle.index_page.specs.Page.PageOfKind.{Leaf, Index}
use Rattle.frame_codec.specs.Frame.{Content}
use Rattle.frame_codec.specs.Frame.Content.{FullLeaf, DeltaLeaf, FullIndex, DeltaIndex, Free}

-- the page of a base by itself; a new kind of base needs a new case
abbrev pub base_in : Content → Option PageOfKind
base_in (FullLeaf encoding low base) = Some (Leaf (bare low base))
base_in (DeltaLeaf run) = None
base_in (FullIndex encoding low base) = Some (Index (bare low base))
base_in (DeltaIndex run) = None
base_in Free = None

-- whether a content is a base
abbrev pub is_base : Content → Bool
is_base c = is_some (base_in c)

-- whether it records that the page was freed
abbrev pub is_free : Content → Bool
is_free Free = true
is_free _ = false

-- whether it is a base or a free frame: earlier contents no longer count
abbrev pub is_start : Content → Bool
is_start c = is_base c || is_free c

-- the list from the last item that passes the test on; empty if none does
abbrev pub from_last : {X : Type 0} → (X → Bool) → List X → List X
from_last test [] = []
from_last test (x ∷ xs) = if test x && not (list_any test xs) then x ∷ xs else from_last test xs

-- what a log determines about a page: there is none; it is this one; or a run does not fit, which is finding 1
pub data InLog : Type 0 where
  Missing : InLog
  Present : PageOfKind → InLog
  Broken : InLog

-- a page, or none
abbrev pub present_or_missing : Option PageOfKind → InLog
present_or_missing None = Missing
present_or_missing (Some p) = Present p

-- a page with one more run
abbrev pub with_newer_run : {V : Type 0} → Page V → Changes V → Page V
with_newer_run p run = record { low = p.low; layers = record { runs = run ∷ p.layers.runs; base = p.layers.base } }

-- the page after the first content
abbrev pub begun_page : Content → InLog
begun_page c = present_or_missing (base_in c)

-- the page after one more content, which must be a run for the page's kind
abbrev pub continued : InLog → Content → InLog
continued (Present (Leaf p)) (DeltaLeaf run) = Present (Leaf (with_newer_run p run))
continued (Present (Index p)) (DeltaIndex run) = Present (Index (with_newer_run p run))
continued _ _ = Broken

-- the page after contents that begin with a base or a free frame
abbrev pub page_from_start : List Content → InLog
page_from_start [] = Missing
page_from_start (c ∷ cs) = fold continued (begun_page c) cs

-- the page of a pid after all its contents: only those from the last base or free frame on count
abbrev pub page_by_log : List Content → InLog
page_by_log cs = page_from_start (from_last is_start cs)

-- the page, if there is one
abbrev pub page_in : InLog → Option PageOfKind
page_in Missing = None
page_in (Present p) = Some p
page_in Broken = None

-- whether it is finding 1
abbrev pub is_broken : InLog → Bool
is_broken Missing = false
is_broken (Present p) = false
is_broken Broken = true
