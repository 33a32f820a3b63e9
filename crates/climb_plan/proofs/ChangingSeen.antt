-- What the views of some pages determine about all pages of a level.
use Rattle.std.specs.Prelude.{◌≡◌, ℕ, Bool, true, false, cond, List, ◌∷◌, map}
use Rattle.std.proofs.Common.{refl}
use Rattle.std.specs.List.{filter}
use Rattle.index_page.specs.Page.{Page, PageOfKind}
use Rattle.mapping.specs.Table.{Mapping}
use Rattle.page_runs.specs.Updated.{Updated}
use Rattle.climb_plan.specs.Changing.{SeenPage, page_seen, AreSeen}
use Rattle.climb_plan.specs.Changing.AreSeen.{updated, at_home}
use Rattle.climb_plan.proofs.Installed.{updated_pids, replaced_among}

-- the pids of those that were replaced
abbrev pub replaced_seen : List SeenPage → List ℕ
replaced_seen xs = map (λ x. x.pid) (filter (λ x. x.replaced) xs)

module _ {V : Type 0} where
  replaced_by : (b : Bool) (x : SeenPage) (w : Updated V) (xs : List SeenPage) (ws : List (Updated V)) → w.placed.pid ≡ x.pid → updated_pids ws ≡ map (λ y. y.pid) xs → updated_pids (cond b (w ∷ ws) ws) ≡ map (λ y. y.pid) (cond b (x ∷ xs) xs)
  replaced_by true x w xs ws e h = cc
  replaced_by false x w xs ws e h = h

  -- the pages that were replaced are among those that were seen
  pub seen_replaced : (of : Page V → PageOfKind) (t : Mapping PageOfKind) {xs : List SeenPage} {ws : List (Updated V)} → AreSeen of t xs ws → updated_pids (replaced_among ws) ≡ replaced_seen xs
  seen_replaced of t (AreSeen.none) = refl
  seen_replaced of t (updated {xs = xs} {ws = ws} w e r) = replaced_by w.replaced (page_seen of w) w (filter (λ x. x.replaced) xs) (replaced_among ws) refl (seen_replaced of t r)
  seen_replaced of t (at_home p e r) = seen_replaced of t r
