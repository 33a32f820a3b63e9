-- The verdicts on the pages of a level, each by itself, and the first finding among them.
use Rattle.std.specs.Prelude.{ℕ, ◌+◌, if◌then◌else◌, List, [], ◌∷◌, Option, Some, None, length}
use Rattle.keys.specs.declared.settings.Settings.{Settings}
use Rattle.index_page.specs.Page.{PageOfKind, entries}
use Rattle.index_page.specs.Children.{Place}
use Rattle.mapping.specs.Tree.{page_at}
use Rattle.mapping.specs.Levels.{as_leaf}
use Rattle.mapping.specs.FreshPids.{is_among}
use Rattle.mapping.specs.Finding.{Finding, broken_leaf, broken_index, or_else}
use Rattle.verify.specs.declared.look.Level.{Level}
use Rattle.verify.specs.declared.look.Level.TheVariants.{Leaves, Above}
use Rattle.verify.specs.declared.look.Verdict.{Verdict}
use Rattle.verify.specs.declared.look.Verdict.TheVariants.{Broken, Sound}

-- the least rule that fails at a place of the level
abbrev pub broken_at : Settings → Level → List (ℕ × PageOfKind) → List ℕ → Place → Option ℕ
broken_at s Leaves ps met at = broken_leaf s met at (page_at ps at.pid)
broken_at s (Above least) ps met at = broken_index s least met at (page_at ps at.pid)

-- a broken rule, or else a number of pairs
abbrev pub seen_as : Option ℕ → ℕ → Verdict
seen_as None pairs = Sound pairs
seen_as (Some rule) pairs = Broken rule

-- the verdict on the page at a place by itself, as if no other page had been visited
abbrev pub seen_at : Settings → Level → List (ℕ × PageOfKind) → Place → Verdict
seen_at s level ps at = seen_as (broken_at s level ps [] at) (length (entries (as_leaf (page_at ps at.pid))))

-- the finding at a page with this verdict, where these pids have been visited
abbrev pub found_by : List ℕ → ℕ → Verdict → Option Finding
found_by met pid (Broken rule) = Some (record { rule = rule; pid = pid })
found_by met pid (Sound pairs) = if is_among pid met then Some (record { rule = 9; pid = pid }) else None

-- the first finding at places with these verdicts
abbrev pub first_found : List ℕ → List Place → List Verdict → Option Finding
first_found met [] seen = None
first_found met (at ∷ ats) [] = None
first_found met (at ∷ ats) (s ∷ seen) = or_else (found_by met at.pid s) (first_found (at.pid ∷ met) ats seen)

-- the number of pairs of a page with this verdict
abbrev pub pairs_of : Verdict → ℕ
pairs_of (Broken rule) = 0
pairs_of (Sound pairs) = pairs

abbrev pub all_pairs : List Verdict → ℕ
all_pairs [] = 0
all_pairs (s ∷ seen) = pairs_of s + all_pairs seen
