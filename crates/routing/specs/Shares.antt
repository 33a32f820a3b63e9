-- Routing down the tree: each page's share of a batch, as places in key order.
use Rattle.std.specs.Prelude.{◌≡◌, ℕ, zero, suc, ◌<◌, Bool, true, false, ◌||◌, ⊤, List, [], ◌∷◌, ◌++◌, map, flat_map, length, nat_eq, nat_le, min, if◌then◌else◌, Option, Some, None}
use Rattle.std.specs.List.{AllByRecursion, IsDistinct, filter, list_any, reduce}
use Rattle.std.specs.List.Sorted.{IsPermutation, IsNonDecreasing}
use Rattle.keys.specs.Bytes.{Bytes}
use Rattle.keys.specs.Order.{IsRising}
use Rattle.keys.specs.Places.{is_ranged_at}
use Rattle.keys.specs.declared.command.Command.{Command}
use Rattle.index_page.specs.Page.{PageOfKind, first_key, low_of}
use Rattle.index_page.specs.Page.PageOfKind.{Index}
use Rattle.index_page.specs.Range.{is_within}
use Rattle.index_page.specs.Children.{Place, children, child_entries, HasChildFor}
use Rattle.mapping.specs.Tree.{page_at}
use Rattle.mapping.specs.Levels.{as_index}
use Rattle.routing.specs.BatchKeys.{key_at}
use Rattle.routing.specs.Idle.{gives_at, empties_at}
use Rattle.routing.specs.Keyed.{Keyed, places_of, AreKeyed}
use Rattle.routing.specs.Routes.{Route, has_some}
use Rattle.routing.specs.SortedPlaces.{AreInKeyOrder, reaches_at}

-- a page's pid, the places of the commands that begin in the page, and the places of the scans and wipes that reach it from the left
pub record Share : Type 0 where
  pub pid : ℕ
  pub own : List ℕ
  pub reaching : List ℕ

-- the places of both kinds; those that reach the page begin before it
abbrev pub all_of : Share → List ℕ
all_of s = s.reaching ++ s.own

abbrev pub has_any : Share → Bool
has_any s = has_some s.own || has_some s.reaching

-- a share in the code's representation: the commands that begin in the page are a slice of the sorted places, each beside its key
pub record Lent : Type 0 where
  pub pid : ℕ
  pub keyed : List Keyed
  pub reaching : List ℕ

-- the share without the keys
abbrev pub share_of_lent : Lent → Share
share_of_lent share = record { pid = share.pid; own = places_of share.keyed; reaching = share.reaching }

abbrev pub lent_shares : List Lent → List Share
lent_shares shares = map share_of_lent shares

-- the keys in the shares are those of the commands at the places beside them
abbrev pub AreKeyedShares : {A : Type 0} → List (Command A) → List Lent → Type 0
AreKeyedShares cs shares = AllByRecursion (λ share. AreKeyed cs share.keyed) shares

-- no place occurs twice in the share
abbrev pub HasEachPlaceOnce : Share → Type 0
HasEachPlaceOnce s = IsDistinct nat_eq (all_of s)

-- whether the key of the command at this place lies in the range
abbrev pub is_in_range : {A : Type 0} → List (Command A) → Bytes → Option Bytes → ℕ → Bool
is_in_range cs low end place = is_within low end (key_at cs place)

-- the first of these places whose command wipes everything up to this end
abbrev pub first_emptying : {A : Type 0} → List (Command A) → Option Bytes → List ℕ → Option ℕ
first_emptying cs end rs = reduce min (filter (empties_at cs end) rs)

-- the places up to and including this one
abbrev pub upto : Option ℕ → List ℕ → List ℕ
upto None rs = rs
upto (Some last) rs = filter (λ place. nat_le place last) rs

-- the places `reaching` a page with this end, where `own` places begin in it: those up to the first wipe of the whole page, if nothing is put into it
abbrev pub without_idle : {A : Type 0} → List (Command A) → Option Bytes → List ℕ → List ℕ → List ℕ
without_idle cs end own rs = if list_any (gives_at cs) own then rs else upto (first_emptying cs end rs) rs

-- a page's pid, the places whose commands begin in it, and the places whose commands reach it and are not idle there
abbrev pub share_of : {A : Type 0} → List (Command A) → List ℕ → Place → Share
share_of cs ps at =
    let own : List ℕ = filter (is_in_range cs at.low at.end) ps in
    record { pid = at.pid; own = own; reaching = without_idle cs at.end own (filter (reaches_at cs at.low) ps) }

-- the shares of those pages that have commands
abbrev pub shares : {A : Type 0} → List (Command A) → List ℕ → List Place → List Share
shares cs ps ats = filter has_any (map (share_of cs ps) ats)

-- the shares of the root: all places, if there are any
abbrev pub root_shares : ℕ → List ℕ → List Share
root_shares root ps = filter has_any (record { pid = root; own = ps; reaching = [] } ∷ [])

-- the shares of an index page's children, from these places; the last child gets all places that remain
abbrev pub shares_below : {A : Type 0} → List (Command A) → PageOfKind → List ℕ → List Share
shares_below cs page ps = shares cs ps (children (child_entries page) None)

-- a key of the next child with commands, among the children from this low key on: the low key if scans or wipes reach that child, else the first key
-- of the commands that begin in children, if there is one
abbrev pub next_key : Bytes → List ℕ → List Keyed → Option Bytes
next_key low (r ∷ rs) entries = Some low
next_key low [] [] = None
next_key low [] (e ∷ es) = Some e.0

-- the commands at all of these places have single keys
abbrev pub ArePoints : {A : Type 0} → List (Command A) → List ℕ → Type 0
ArePoints cs ps = AllByRecursion (λ place. is_ranged_at cs place ≡ false) ps

-- whether a scan or a wipe reaches the share's page, or begins in it
abbrev pub is_met : {A : Type 0} → List (Command A) → Lent → Bool
is_met cs share = has_some share.reaching || list_any (λ entry. is_ranged_at cs entry.1) share.keyed

-- the places are in the order of their keys, and there is a child for each of them
pub record CanHandDown {A : Type 0} (cs : List (Command A)) (page : PageOfKind) (ps : List ℕ) : Type 0 where
  pub in_order : AreInKeyOrder cs ps
  pub rising : IsRising (child_entries page)
  pub each : AllByRecursion (λ place. HasChildFor page (key_at cs place)) ps

-- the same for places beside their keys
pub record CanHandDownKeyed {A : Type 0} (cs : List (Command A)) (page : PageOfKind) (entries : List Keyed) : Type 0 where
  pub places : CanHandDown cs page (places_of entries)
  pub keys : AreKeyed cs entries

-- the share's own places can be distributed, and its scans and wipes reach the page's first child, which begins where the page does
pub record CanHandDownShare {A : Type 0} (cs : List (Command A)) (page : PageOfKind) (s : Share) : Type 0 where
  pub own : CanHandDown cs page s.own
  pub some : 0 < length (child_entries page)
  pub first : first_key (child_entries page) ≡ low_of page
  pub reach : AllByRecursion (λ place. reaches_at cs (low_of page) place ≡ true) s.reaching

-- the index page under a pid, or an empty one if there is none
abbrev pub index_under : List (ℕ × PageOfKind) → ℕ → PageOfKind
index_under pages pid = Index (as_index (page_at pages pid))

-- a share of an index page that can be distributed
pub record IsReadyShare {A : Type 0} (pages : List (ℕ × PageOfKind)) (cs : List (Command A)) (s : Share) : Type 0 where
  pub held : page_at pages s.pid ≡ Some (index_under pages s.pid)
  pub share : CanHandDownShare cs (index_under pages s.pid) s

-- shares of index pages that can be distributed, with their keys
pub record AreReadyShares {A : Type 0} (pages : List (ℕ × PageOfKind)) (cs : List (Command A)) (shares : List Lent) : Type 0 where
  pub each : AllByRecursion (IsReadyShare pages cs) (lent_shares shares)
  pub keys : AreKeyedShares cs shares

-- the shares of the children of a share's page
abbrev pub share_below : {A : Type 0} → List (ℕ × PageOfKind) → List (Command A) → Share → List Share
share_below pages cs s = shares_below cs (index_under pages s.pid) (all_of s)

-- the shares n levels further down
abbrev pub shares_down : {A : Type 0} → List (ℕ × PageOfKind) → List (Command A) → ℕ → List Share → List Share
shares_down pages cs zero ss = ss
shares_down pages cs (suc n) ss = shares_down pages cs n (flat_map (share_below pages cs) ss)

-- shares that can be distributed, level by level, until n levels further down no share has a place twice
abbrev pub CanGoDown : {A : Type 0} → List (ℕ × PageOfKind) → List (Command A) → ℕ → List Share → Type 0
CanGoDown pages cs zero ss = AllByRecursion HasEachPlaceOnce ss
CanGoDown pages cs (suc n) ss = AllByRecursion (IsReadyShare pages cs) ss × CanGoDown pages cs n (flat_map (share_below pages cs) ss)

-- the same page, and its places in batch order
pub record IsInBatchOrder (s : Share) (o : Route) : Type 0 where
  pub pid : o.pid ≡ s.pid
  pub same : IsPermutation (all_of s) o.places
  pub rising : IsNonDecreasing o.places

-- this holds for each share
abbrev pub AreInBatchOrder : List Share → List Route → Type 0
AreInBatchOrder [] [] = ⊤
AreInBatchOrder [] (o ∷ os) = ⊥
AreInBatchOrder (s ∷ ss) [] = ⊥
AreInBatchOrder (s ∷ ss) (o ∷ os) = IsInBatchOrder s o × AreInBatchOrder ss os
