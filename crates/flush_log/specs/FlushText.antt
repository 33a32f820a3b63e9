-- The frames of a flush: those that the log lacks, in the order of their pids. And the frames of an upgrade: all pages.
use Rattle.std.specs.Prelude.{◌≡◌, ℕ, true, List, [], ◌∷◌, map, flat_map, reverse, drop, Option, Some, None}
use Rattle.std.specs.List.{AllByRecursion, filter}
use Rattle.std.specs.Map.{keys_of}
use Rattle.keys.specs.declared.settings.Settings.{Settings}
use Rattle.keys.specs.declared.version.Version.{Version}
use Rattle.keys.specs.declared.version.Version.TheVariants.{One, Two}
use Rattle.index_page.specs.Page.{PageOfKind}
use Rattle.index_page.specs.Page.PageOfKind.{Leaf, Index}
use Rattle.mapping.specs.Tree.{Logged, Tree, page_at, logged_of}
use Rattle.mapping.specs.Tree.Logged.{No, Old, Upto}
use Rattle.mapping.specs.Table.{is_old, with_numbers}
use Rattle.mapping.specs.Flushed.{page_depth}
use Rattle.mapping.specs.Outdate.{outdate}
use Rattle.frame_codec.specs.declared.format.Format.{Format}
use Rattle.frame_codec.specs.declared.format.KeyEncoding.{KeyEncoding}
use Rattle.frame_codec.specs.declared.format.KeyEncoding.TheVariants.{Whole, PrefixCompressed}
use Rattle.frame_codec.specs.Frame.{Content, Frame, is_frame}
use Rattle.frame_codec.specs.Frame.Content.{FullLeaf, DeltaLeaf, FullIndex, DeltaIndex, Free}
use Rattle.flush_log.specs.declared.text.CommitKind.{CommitKind}
use Rattle.flush_log.specs.declared.text.CommitKind.TheVariants.{Flush, Upgrade}

-- ---- contents

-- the key encoding for bases in a log of this version
abbrev pub encoding_of : Version → KeyEncoding
encoding_of One = Whole
encoding_of Two = PrefixCompressed

-- a page's base, with its low key
abbrev pub base_content : KeyEncoding → PageOfKind → Content
base_content encoding (Leaf p) = FullLeaf encoding p.low p.layers.base
base_content encoding (Index p) = FullIndex encoding p.low p.layers.base

-- a page's runs, oldest first
abbrev pub run_contents : PageOfKind → List Content
run_contents (Leaf p) = map (λ run. DeltaLeaf run) (reverse p.layers.runs)
run_contents (Index p) = map (λ run. DeltaIndex run) (reverse p.layers.runs)

-- the whole page: its base, and then its runs
abbrev pub whole_page : KeyEncoding → PageOfKind → List Content
whole_page encoding p = base_content encoding p ∷ run_contents p

-- what must be written for a pid, by its page and its log state: the whole page, if the log has another page or none; the newer runs, if it has the
-- base and the oldest k runs; that the page was freed, if there is no page but the log has one
abbrev pub lacking : KeyEncoding → Option PageOfKind → Logged → List Content
lacking encoding (Some p) No = whole_page encoding p
lacking encoding (Some p) Old = whole_page encoding p
lacking encoding (Some p) (Upto k) = drop k (run_contents p)
lacking encoding None Old = Free ∷ []
lacking encoding None _ = []

-- contents as frames of one pid
abbrev pub frames_of : ℕ → List Content → List Frame
frames_of pid cs = map (λ c. record { pid = pid; content = c }) cs

-- ---- commits

-- the version of the log after this commit: an upgrade leads to the second one
abbrev pub version_with : CommitKind → Version
version_with (Flush version) = version
version_with Upgrade = Two

-- the log state of a pid, as this kind of commit treats it: an upgrade treats each page in the log as outdated
abbrev pub taken : CommitKind → Logged → Logged
taken (Flush version) l = l
taken Upgrade l = outdate l

-- the frames that must be written for a pid of a tree
abbrev pub pid_frames : CommitKind → Tree → ℕ → List Frame
pid_frames text t pid = frames_of pid (lacking (encoding_of (version_with text)) (page_at t.pages pid) (taken text (logged_of t pid)))

-- in rising order, the pids that are in use or `Old` in the log
abbrev pub pids_to_write : Tree → List ℕ
pids_to_write t = with_numbers (keys_of (filter (λ l. is_old l.1) t.logged)) (keys_of t.pages)

-- the frames of a commit
abbrev pub commit_frames : CommitKind → Tree → List Frame
commit_frames text t = flat_map (pid_frames text t) (pids_to_write t)

-- the frames of a flush, for a log of this version
abbrev pub flush_frames : Version → Tree → List Frame
flush_frames version t = commit_frames (Flush version) t

-- the frames of an upgrade: those of a flush of version 2, as if every page in the log were outdated
abbrev pub upgrade_frames : Tree → List Frame
upgrade_frames t = commit_frames Upgrade t

-- the log states as if each page in the log were outdated, and the tree with these
abbrev pub all_outdated : List (ℕ × Logged) → List (ℕ × Logged)
all_outdated ls = map (λ l. (l.0, outdate l.1)) ls

abbrev pub outdated : Tree → Tree
outdated t = record { pages = t.pages; root = t.root; height = t.height; logged = all_outdated t.logged }

-- the format of the log after this commit
abbrev pub format_with : Settings → CommitKind → Format
format_with s text = record { settings = s; version = version_with text }

-- the log of a store with these settings may contain all frames of this commit, which is so if all page ids have 64 bits
abbrev pub HasFrames : Settings → CommitKind → Tree → Type 0
HasFrames s text t = AllByRecursion (λ f. is_frame (format_with s text) f ≡ true) (commit_frames text t)

-- ---- the tree after a commit

-- the log states in which each page is there with all its runs
abbrev pub logged_whole : List (ℕ × PageOfKind) → List (ℕ × Logged)
logged_whole ps = map (λ p. (p.0, Upto (page_depth p.1))) ps

-- the tree of these pages, where the log contains each page with all its runs, and nothing of any other pid
abbrev pub tree_in_log : List (ℕ × PageOfKind) → ℕ → ℕ → Tree
tree_in_log ps root height = record { pages = ps; root = root; height = height; logged = logged_whole ps }

-- the tree after its frames are committed
abbrev pub flushed : Tree → Tree
flushed t = tree_in_log t.pages t.root t.height
