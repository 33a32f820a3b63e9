-- A page's part of the whole net run is the net run of its own commands on its own entries.
use Rattle.std.specs.Prelude.{◌≡◌, ℕ, Bool, true, false, not, ◌&&◌, cond, List, [], ◌∷◌, Option, Some, None}
use Rattle.std.proofs.Common.{refl, sym, ap, ◌∙◌}
use Rattle.std.specs.List.{filter}
use Rattle.std.specs.Ordering.{is_eq}
use Rattle.std.proofs.lemmas.Map.Entries.{lookup-filter-keys}
use Rattle.keys.specs.Order.{order, IsRising}
use Rattle.keys.specs.OrderedMap.{value_at}
use Rattle.keys.specs.declared.command.Command.{Command}
use Rattle.keys.specs.declared.command.Command.TheVariants.{Get, Put, Add, Del, Scan, Wipe}
use Rattle.keys.proofs.MapLemmas.{total, passes_same, same_map}
use Rattle.index_page.specs.Range.{is_below, is_before, is_within}
use Rattle.index_page.proofs.PageLemmas.{all_keys_entries}
use Rattle.index_page.proofs.MeetingLemmas.{not_met}
use Rattle.index_page.proofs.RangeLemmas.{below_is_less, less_is_below, rising-filter, value_at-following}
use Rattle.mapping.specs.Levels.{Placed, entries, joined}
use Rattle.mapping.specs.Proper.{next_low, Tiled}
use Rattle.mapping.proofs.TileLemmas.{rising-tile, value_at-joined}
use Rattle.routing.specs.Routes.{goes_to}
use Rattle.page_runs.specs.NetRun.{net_run}
use Rattle.page_runs.specs.Apart.{TakesAll, GivesNoOther, HasNoOther, AgreeOn}
use Rattle.page_runs.proofs.NetLemmas.{Pairs, Changes, rising-net_run}
use Rattle.page_runs.proofs.ApartLemmas.{within_by_key, off_by_key, net_run-apart, net_run-no_other_there}
use Rattle.scan.proofs.Parts.{value_at-passing, part_of_level}
use Rattle.split_plan.specs.UpdatedLevel.{part_below, part_from}

-- ---- the commands of a range

-- a command that does not go to a page is on none of its keys; a scan is on none anyway
module _ {A : Type 0} (low : List ℕ) (end : Option (List ℕ)) where
  takes_all : TakesAll {A = A} (is_within low end) (goes_to low end)
  takes_all (Get k) h = off_by_key {A = A} (is_within low end) (Get k) k refl h
  takes_all (Put k v) h = off_by_key {A = A} (is_within low end) (Put k v) k refl h
  takes_all (Add k v) h = off_by_key {A = A} (is_within low end) (Add k v) k refl h
  takes_all (Del k) h = off_by_key {A = A} (is_within low end) (Del k) k refl h
  takes_all (Scan lo hi limit) h = λ q own. refl
  takes_all (Wipe lo hi) h = λ q own. not_met low end lo hi q h own

  -- a command that gives a key a value goes to the page whose range has the key
  gives_no_other : GivesNoOther {A = A} (is_within low end) (goes_to low end)
  gives_no_other (Put k v) h = within_by_key {A = A} (is_within low end) (Put k v) k refl h
  gives_no_other (Add k v) h = within_by_key {A = A} (is_within low end) (Add k v) k refl h
  gives_no_other _ h = λ q other. refl

  own_by : (b : Bool) (m es : Pairs) (cs : List (Command A)) (k : List ℕ) → is_within low end k ≡ b → IsRising m → IsRising es → AgreeOn (is_within low end) m es → HasNoOther (is_within low end) es
      → cond b (value_at k (net_run m cs)) None ≡ value_at k (net_run es (filter (goes_to low end) cs))
  own_by true m es cs k h r e a n = net_run-apart (is_within low end) (goes_to low end) m es cs k takes_all r e a h
  own_by false m es cs k h r e a n = sym (net_run-no_other_there (is_within low end) (goes_to low end) es cs k gives_no_other n e h)

  -- the part of the whole net run within the range is the net run of the range's commands on entries that agree there, and have no key outside
  pub part_is_own : (m es : Pairs) (cs : List (Command A)) (part : Changes) → IsRising m → IsRising es → AgreeOn (is_within low end) m es → HasNoOther (is_within low end) es → IsRising part
      → ((k : List ℕ) → value_at k part ≡ cond (is_within low end k) (value_at k (net_run m cs)) None) → part ≡ net_run es (filter (goes_to low end) cs)
  part_is_own m es cs part r e a n p says =
      same_map part (net_run es (filter (goes_to low end) cs)) p (rising-net_run es (filter (goes_to low end) cs)) (λ k. says k ∙ own_by (is_within low end k) m es cs k refl r e a n)

-- ---- the rest of the whole net run for the pages from one on

-- from a page on: the part of a run from its low key on; and a map has there the entries of these pages
pub record IsLeft (m : Pairs) (run : Changes) (p : Placed (List ℕ)) (ps : List (Placed (List ℕ))) (left : Changes) : Type 0 where
  pub rising : IsRising left
  pub says : (k : List ℕ) → value_at k left ≡ cond (is_below k p.page.low) None (value_at k run)
  pub has : (k : List ℕ) → is_below k p.page.low ≡ false → value_at k m ≡ value_at k (joined (p ∷ ps))

first_part_by : {X : Type 0} (low upper : Bool) (o : Option X) → cond upper (cond low None o) None ≡ cond (not low && upper) o None
first_part_by true true o = refl
first_part_by true false o = refl
first_part_by false upper o = refl

later_part_by : {X : Type 0} (low upper : Bool) (o : Option X) → (low ≡ true → upper ≡ true) → cond (not upper) (cond low None o) None ≡ cond upper None o
later_part_by true true o h = refl
later_part_by true false o h = absurd (let f = h refl in cc)
later_part_by false true o h = refl
later_part_by false false o h = refl

last_part_by : {X : Type 0} (low : Bool) (o : Option X) → cond low None o ≡ cond (not low && true) o None
last_part_by true o = refl
last_part_by false o = refl

not_by : (a b : Bool) → (a ≡ true → b ≡ true) → b ≡ false → a ≡ false
not_by true b h e = absurd (let f = h refl in cc)
not_by false b h e = refl

low_by : (a b : Bool) → (not a && b) ≡ true → a ≡ false
low_by true b h = absurd (cc)
low_by false b h = refl

below_later : (p q : Placed (List ℕ)) (qs : List (Placed (List ℕ))) → Tiled (p ∷ q ∷ qs) None → (k : List ℕ) → is_below k p.page.low ≡ true → is_below k q.page.low ≡ true
below_later p q qs t k h = less_is_below k q.page.low (total.trans k p.page.low q.page.low (below_is_less k p.page.low h) t.0.low)

-- the entries of a page lie in its range
holds_own : (p : Placed (List ℕ)) (ps : List (Placed (List ℕ))) → Tiled (p ∷ ps) None → HasNoOther (is_within p.page.low (next_low ps None)) (entries p)
holds_own p ps t = λ q other.
    ap (λ (es : Pairs). value_at q es) (part_of_level [] ps p t)
    ∙ lookup-filter-keys (λ j. is_eq (order q j)) (is_within p.page.low (next_low ps None)) (is_within p.page.low (next_low ps None) q) (λ j h. ap (is_within p.page.low (next_low ps None)) (sym (passes_same q j h))) (joined (p ∷ ps))
    ∙ ap (λ (b : Bool). cond b (value_at q (joined (p ∷ ps))) None) other

module _ {A : Type 0} (m : Pairs) (cs : List (Command A)) (rising : IsRising m) where
  -- on the range of the page, the map has the page's entries
  agrees : (p : Placed (List ℕ)) (ps : List (Placed (List ℕ))) (left : Changes) → Tiled (p ∷ ps) None → IsLeft m (net_run m cs) p ps left → AgreeOn (is_within p.page.low (next_low ps None)) m (entries p)
  agrees p ps left t l k h =
      l.has k (low_by (is_below k p.page.low) (is_before (next_low ps None) k) h) ∙ sym (value_at-joined [] ps p None k t h)

  -- the last page gets the rest
  pub last_part : (p : Placed (List ℕ)) (left : Changes) → Tiled (p ∷ []) None → IsLeft m (net_run m cs) p [] left → left ≡ net_run (entries p) (filter (goes_to p.page.low None) cs)
  last_part p left t l =
      part_is_own p.page.low None m (entries p) cs left rising (rising-tile None p t.0) (agrees p [] left t l) (holds_own p [] t) l.rising
      (λ k. l.says k ∙ last_part_by (is_below k p.page.low) (value_at k (net_run m cs)))

  -- and any other page gets the part below the next page's low key
  pub first_part : (p q : Placed (List ℕ)) (qs : List (Placed (List ℕ))) (left : Changes) → Tiled (p ∷ q ∷ qs) None → IsLeft m (net_run m cs) p (q ∷ qs) left
      → part_below q.page.low left ≡ net_run (entries p) (filter (goes_to p.page.low (Some q.page.low)) cs)
  first_part p q qs left t l =
      part_is_own p.page.low (Some q.page.low) m (entries p) cs (part_below q.page.low left) rising (rising-tile (Some q.page.low) p t.0) (agrees p (q ∷ qs) left t l) (holds_own p (q ∷ qs) t)
      (rising-filter (λ c. is_below c.0 q.page.low) left l.rising)
      (λ k. value_at-passing (λ j. is_below j q.page.low) left k
      ∙ ap (λ (o : Option (Option (List ℕ))). cond (is_below k q.page.low) o None) (l.says k)
      ∙ first_part_by (is_below k p.page.low) (is_below k q.page.low) (value_at k (net_run m cs)))

-- the rest after the first page is the rest for the pages from the next one on
pub later_part : (m : Pairs) (run : Changes) (p q : Placed (List ℕ)) (qs : List (Placed (List ℕ))) (left : Changes) → Tiled (p ∷ q ∷ qs) None → IsLeft m run p (q ∷ qs) left → IsLeft m run q qs (part_from q.page.low left)
later_part m run p q qs left t l = record {
  rising = rising-filter (λ c. not (is_below c.0 q.page.low)) left l.rising;
  says = λ k. value_at-passing (λ j. not (is_below j q.page.low)) left k
      ∙ ap (λ (o : Option (Option (List ℕ))). cond (not (is_below k q.page.low)) o None) (l.says k)
      ∙ later_part_by (is_below k p.page.low) (is_below k q.page.low) (value_at k run) (below_later p q qs t k);
  has = λ k h. l.has k (not_by (is_below k p.page.low) (is_below k q.page.low) (below_later p q qs t k) h)
      ∙ value_at-following q.page.low k (entries p) (joined (q ∷ qs)) h (all_keys_entries (λ j. is_below j q.page.low ≡ true) p.page t.0.keys.before);
}

not_below_nothing : (k : List ℕ) → is_below k [] ≡ false
not_below_nothing [] = refl
not_below_nothing (x ∷ xs) = refl

from_start_by : {X : Type 0} (b : Bool) (o : Option X) → b ≡ false → o ≡ cond b None o
from_start_by true o h = absurd (cc)
from_start_by false o h = refl

-- for the first page, whose low key is the empty one, the rest is the whole run
pub all_left : {A : Type 0} (cs : List (Command A)) (p : Placed (List ℕ)) (ps : List (Placed (List ℕ))) → p.page.low ≡ [] → IsLeft (joined (p ∷ ps)) (net_run (joined (p ∷ ps)) cs) p ps (net_run (joined (p ∷ ps)) cs)
all_left cs p ps e = record {
  rising = rising-net_run (joined (p ∷ ps)) cs;
  says = λ k. from_start_by (is_below k p.page.low) (value_at k (net_run (joined (p ∷ ps)) cs)) (ap (λ (low : List ℕ). is_below k low) e ∙ not_below_nothing k);
  has = λ k h. refl;
}
