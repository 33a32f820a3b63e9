-- Lemmas on one step of a descent, for the proofs of this crate.
use Rattle.std.specs.Prelude.{◌≡◌, ℕ, suc, List, Option, Some, None}
use Rattle.std.proofs.Common.{refl, sym, ◌∙◌, subst}
use Rattle.index_page.specs.Page.{PageOfKind}
use Rattle.index_page.specs.Children.{HasChildFor}
use Rattle.mapping.specs.Descent.{IsChildFor, HasWay, LeadsTo}

-- with `left` of n levels to go, the rest of the way is there, and wherever it leads, the whole way leads
pub record IsDescent (at : ℕ → Option PageOfKind) (k : List ℕ) (n root left pid : ℕ) : Type 0 where
  pub way : HasWay at k left pid
  pub leads : (to : ℕ) → LeadsTo at k left pid to → LeadsTo at k n root to

module _ (at : ℕ → Option PageOfKind) (k : List ℕ) where
  way_page : (n m pid : ℕ) → suc m ≡ n → HasWay at k n pid → HasWay at k (suc m) pid
  way_page n m pid e w = subst (λ (j : ℕ). HasWay at k j pid) (sym e) w

  -- the page is there, and has a child for the key
  pub not_missing : (n m pid : ℕ) → suc m ≡ n → HasWay at k n pid → None ≡ at pid → ⊥
  not_missing n m pid s h e = let w = way_page n m pid s h in let both : None ≡ Some w.0 = e ∙ w.1 in absurd (cc)

  pub has_child : (n m pid : ℕ) (page : PageOfKind) → suc m ≡ n → HasWay at k n pid → Some page ≡ at pid → HasChildFor page k
  has_child n m pid page s h e =
      let w = way_page n m pid s h in
      let both : Some page ≡ Some w.0 = e ∙ w.1 in
      let same : w.0 ≡ page = cc in
      subst (λ (p : PageOfKind). HasChildFor p k) same w.2

  way_on : (m pid child : ℕ) (page : PageOfKind) → HasWay at k (suc m) pid → Some page ≡ at pid → IsChildFor k page child → HasWay at k m child
  way_on m pid child page w e c =
      let both : Some page ≡ Some w.0 = e ∙ w.1 in
      let same : page ≡ w.0 = cc in
      w.3 child (subst (λ (p : PageOfKind). IsChildFor k p child) same c)

  leads_on : (m pid child to : ℕ) (page : PageOfKind) → Some page ≡ at pid → IsChildFor k page child → LeadsTo at k m child to → LeadsTo at k (suc m) pid to
  leads_on m pid child to page e c l = (page, sym e, child, c, l)

  -- one step down
  pub step_down : (n root left m pid child : ℕ) (page : PageOfKind) → suc m ≡ left → IsDescent at k n root left pid → Some page ≡ at pid → IsChildFor k page child → IsDescent at k n root m child
  step_down n root left m pid child page s d e c = record {
    way = way_on m pid child page (way_page left m pid s d.way) e c;
    leads = λ to l. d.leads to (subst (λ (j : ℕ). LeadsTo at k j pid to) s (leads_on m pid child to page e c l));
  }

  pub begun : (n root left pid : ℕ) → left ≡ n → pid ≡ root → HasWay at k n root → IsDescent at k n root left pid
  begun n root left pid e r h = record {
    way = subst (λ (j : ℕ). HasWay at k j pid) (sym e) (subst (λ (q : ℕ). HasWay at k n q) (sym r) h);
    leads = λ to l. subst (λ (j : ℕ). LeadsTo at k j root to) e (subst (λ (q : ℕ). LeadsTo at k left q to) r l);
  }

  pub ended : (n root left pid : ℕ) → left ≡ 0 → IsDescent at k n root left pid → LeadsTo at k n root pid
  ended n root left pid e d = d.leads pid (subst (λ (j : ℕ). LeadsTo at k j pid pid) (sym e) (let own : LeadsTo at k 0 pid pid = refl in own))
