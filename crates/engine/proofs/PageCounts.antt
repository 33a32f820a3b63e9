-- The pages of a proper tree's table are those of its levels, so there are as many.
use Rattle.std.specs.Prelude.{◌≡◌, ◌≢◌, ℕ, ◌<◌, ◌≤◌, Bool, true, false, ◌||◌, nat_eq, List, [], ◌∷◌, length}
use Rattle.std.specs.List.{AllByRecursion, IsDistinct, list_any}
use Rattle.std.specs.Map.{keys_of}
use Rattle.std.proofs.Common.{refl, sym, ap, subst, ◌∙◌, arith}
use Rattle.std.proofs.lemmas.Bool.{eqb-true}
use Rattle.std.proofs.lemmas.Cmp.{nat_eq_equiv}
use Rattle.std.proofs.lemmas.List.{length-map}
use Rattle.std.proofs.lemmas.Map.Made.{length-le_from_is_member}
use Rattle.keys.specs.declared.settings.Settings.{Settings}
use Rattle.index_page.specs.Page.{PageOfKind}
use Rattle.mapping.specs.FreshPids.{is_among}
use Rattle.mapping.specs.Levels.{all_pids, levels_of}
use Rattle.mapping.specs.Proper.{AreRisingPids, Distinct, IsProper}
use Rattle.mapping.specs.Tree.{Tree}
use Rattle.mapping.proofs.PidLemmas.{all_among}
use Rattle.mapping.proofs.TableLemmas.{all_pids_hold}

member_is : (q : ℕ) (ns : List ℕ) → is_among q ns ≡ list_any (nat_eq q) ns
member_is q [] = refl
member_is q (n ∷ ns) = ap (λ (b : Bool). nat_eq q n || b) (member_is q ns)

apart_by : (b : Bool) (m n : ℕ) → nat_eq n m ≡ b → m ≢ n → b ≡ false
apart_by true m n e other = absurd (other (sym (eqb-true n m e)))
apart_by false m n e other = refl

apart_all : (n : ℕ) (ms : List ℕ) → AllByRecursion (λ m. m ≢ n) ms → AllByRecursion (λ m. nat_eq n m ≡ false) ms
apart_all n [] a = tt
apart_all n (m ∷ ms) a = (apart_by (nat_eq n m) m n refl a.0, apart_all n ms a.1)

each_once : (ns : List ℕ) → Distinct ns → IsDistinct nat_eq ns
unfolding IsDistinct
each_once [] d = tt
each_once (n ∷ ns) d = (apart_all n ns d.0, each_once ns d.1)

above_apart : (b : Bool) (m n : ℕ) → nat_eq n m ≡ b → n < m → b ≡ false
above_apart true m n e less = (let same = eqb-true n m e in absurd (omega (arith, same, less)))
above_apart false m n e less = refl

above_all : (n : ℕ) (ms : List ℕ) → AllByRecursion (λ m. n < m) ms → AllByRecursion (λ m. nat_eq n m ≡ false) ms
above_all n [] a = tt
above_all n (m ∷ ms) a = (above_apart (nat_eq n m) m n refl a.0, above_all n ms a.1)

rising_once : (ns : List ℕ) → AreRisingPids ns → IsDistinct nat_eq ns
unfolding IsDistinct
rising_once [] r = tt
rising_once (n ∷ ns) r = (above_all n ns r.0, rising_once ns r.1)

first_or_later : (P : ℕ → Type 0) (b : Bool) (q n : ℕ) (rest : Bool) → nat_eq q n ≡ b → P n → (rest ≡ true → P q) → (b || rest) ≡ true → P q
first_or_later P true q n rest e here later h = subst P (sym (eqb-true q n e)) here
first_or_later P false q n rest e here later h = later h

of_each : (P : ℕ → Type 0) (ns : List ℕ) (q : ℕ) → AllByRecursion P ns → list_any (nat_eq q) ns ≡ true → P q
of_each P [] q a h = absurd (cc)
of_each P (n ∷ ns) q a h = first_or_later P (nat_eq q n) q n (list_any (nat_eq q) ns) refl a.0 (of_each P ns q a.1) h

-- numbers of which none occurs twice, each of them among others, are at most as many
at_most : (ms ns : List ℕ) → IsDistinct nat_eq ms → AllByRecursion (λ m. is_among m ns ≡ true) ms → length ms ≤ length ns
at_most ms ns d a = length-le_from_is_member nat_eq_equiv ms ns d (λ q h. sym (member_is q ns) ∙ of_each (λ m. is_among m ns ≡ true) ms q a h)

pub page_count : (s : Settings) (t : Tree) → IsProper s t → length (all_pids (levels_of t).level (levels_of t).above) ≡ length t.pages
page_count s t proper =
    let l = levels_of t in
    let pids : List ℕ = all_pids l.level l.above in
    let keys : List ℕ = keys_of t.pages in
    let one = at_most pids keys (each_once pids proper.levels.distinct) (all_pids_hold (λ n. is_among n keys ≡ true) t.pages (all_among keys) l proper.held) in
    let two = at_most keys pids (rising_once keys proper.tree.rising) proper.held.no_other in
    let same : length keys ≡ length t.pages = length-map t.pages (λ (p : ℕ × PageOfKind). p.0) in
    omega (arith, one, two, same)
