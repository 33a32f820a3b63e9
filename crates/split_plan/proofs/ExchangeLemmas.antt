-- Lemmas on removed and new entries of a parent, for the proofs of this crate and of those above it.
use Rattle.std.specs.Prelude.{◌≡◌, ℕ, zero, Bool, true, false, cond, List, [], ◌∷◌, ◌++◌, map, Option, Some, None}
use Rattle.std.proofs.Common.{option_map, refl, sym, ap, ◌∙◌, Less}
use Rattle.std.specs.Ordering.{is_eq}
use Rattle.std.specs.List.{AllByRecursion}
use Rattle.std.specs.List.Sorted.{IsStrictlySortedBy}
use Rattle.std.specs.Map.{keys_of}
use Rattle.std.proofs.lemmas.Map.Made.{lookup-map_values, keys_of-map_values}
use Rattle.keys.specs.Order.{order, IsRising}
use Rattle.keys.specs.OrderedMap.{value_at}
use Rattle.keys.proofs.MapLemmas.{value_at_rest, same_map}
use Rattle.delta_chain.specs.Layers.{change_or, with_run}
use Rattle.delta_chain.proofs.LayerLemmas.{value_at-with_run, rising-with_run}
use Rattle.index_page.specs.Range.{is_below, AreBefore}
use Rattle.index_page.proofs.ListLemmas.{all_keys-append, all_keys_apart}
use Rattle.index_page.proofs.RangeLemmas.{rising_rest, rising_right}
use Rattle.index_page.proofs.PageLemmas.{all_keys-with_run}
use Rattle.mapping.proofs.TileLemmas.{Separators}
use Rattle.split_plan.specs.Terms.{absent, present, term_at}
use Rattle.split_plan.proofs.Exchange.{Exchange, whole, others, terms_of}

-- ---- a part of rising separators rises

pub all_others : (P : List ℕ → Type 0) (part : Exchange → Separators) (xs : List Exchange) → AllByRecursion P (keys_of (whole part xs)) → AllByRecursion P (keys_of (others part xs))
all_others P part [] a = tt
all_others P part (x ∷ xs) a =
    let b = all_keys_apart P (part x) (whole part xs) a.1 in
    all_keys-append P (part x) (others part xs) b.0 (all_others P part xs b.1)

rising_others_by : (part : Exchange → Separators) (xs : List Exchange) (ns : Separators) → (IsRising (whole part xs) → IsRising (others part xs)) → IsRising (ns ++ whole part xs) → IsRising (ns ++ others part xs)
unfolding IsStrictlySortedBy
rising_others_by part xs [] ih r = ih r
rising_others_by part xs (n ∷ ns) ih r =
    let b = all_keys_apart (λ j. order n.0 j ≡ Less) ns (whole part xs) r.0 in
    (all_keys-append (λ j. order n.0 j ≡ Less) ns (others part xs) b.0 (all_others (λ j. order n.0 j ≡ Less) part xs b.1), rising_others_by part xs ns ih r.1)

pub rising-others : (part : Exchange → Separators) (xs : List Exchange) → IsRising (whole part xs) → IsRising (others part xs)
unfolding IsStrictlySortedBy
rising-others part [] r = tt
rising-others part (x ∷ xs) r = rising_others_by part xs (part x) (rising-others part xs) r.1

-- the first separator, and the others without those that stay
rising_kept : (part : Exchange → Separators) (x : Exchange) (xs : List Exchange) → IsRising (whole part (x ∷ xs)) → IsRising (x.kept ∷ others part (x ∷ xs))
unfolding IsStrictlySortedBy
rising_kept part x xs r =
    let b = all_keys_apart (λ j. order x.kept.0 j ≡ Less) (part x) (whole part xs) r.0 in
    (all_keys-append (λ j. order x.kept.0 j ≡ Less) (part x) (others part xs) b.0 (all_others (λ j. order x.kept.0 j ≡ Less) part xs b.1), rising-others part (x ∷ xs) r)

-- ---- the entry of concatenated separators at a key

abbrev first_of : Option ℕ → Option ℕ → Option ℕ
first_of None b = b
first_of (Some v) b = Some v

at_append_by : (b : Bool) (v : ℕ) (m n : Option ℕ) → cond b (Some v) (first_of m n) ≡ first_of (cond b (Some v) m) n
at_append_by true v m n = refl
at_append_by false v m n = refl

value_at-append : (q : List ℕ) (xs ys : Separators) → value_at q (xs ++ ys) ≡ first_of (value_at q xs) (value_at q ys)
value_at-append q [] ys = refl
value_at-append q (x ∷ xs) ys =
    ap (λ (o : Option ℕ). cond (is_eq (order q x.0)) (Some x.1) o) (value_at-append q xs ys) ∙ at_append_by (is_eq (order q x.0)) x.1 (value_at q xs) (value_at q ys)

first_none : (m n : Option ℕ) → first_of m n ≡ None → n ≡ None
first_none None n h = h
first_none (Some v) n h = absurd (cc)

-- the key of the first separator does not occur after it
none_after : (x : List ℕ × ℕ) (ns : Separators) (q : List ℕ) → is_eq (order q x.0) ≡ true → IsRising (x ∷ ns) → value_at q ns ≡ None
none_after x ns q e r = value_at_rest x ns q r ∙ ap (λ (b : Bool). cond b None (value_at q (x ∷ ns))) e

-- and a key of the first part does not occur in the second
not_in_both_by : (b : Bool) (x : List ℕ × ℕ) (xs ys : Separators) (q : List ℕ) (v : ℕ) → is_eq (order q x.0) ≡ b → IsRising (x ∷ (xs ++ ys)) → (IsRising (xs ++ ys) → value_at q xs ≡ Some v → value_at q ys ≡ None) → cond b (Some x.1) (value_at q xs) ≡ Some v → value_at q ys ≡ None
not_in_both_by true x xs ys q v e r ih h = first_none (value_at q xs) (value_at q ys) (sym (value_at-append q xs ys) ∙ none_after x (xs ++ ys) q e r)
not_in_both_by false x xs ys q v e r ih h = ih (rising_rest x (xs ++ ys) r) h

not_in_both : (xs ys : Separators) (q : List ℕ) (v : ℕ) → IsRising (xs ++ ys) → value_at q xs ≡ Some v → value_at q ys ≡ None
not_in_both [] ys q v r h = absurd (cc)
not_in_both (x ∷ xs) ys q v r h = not_in_both_by (is_eq (order q x.0)) x xs ys q v refl r (λ s g. not_in_both xs ys q v s g) h

-- ---- the entry of the separators after at a key

-- the new one; else nothing, if one was removed; else the old one
abbrev exchanged : Option ℕ → Option ℕ → Option ℕ → Option ℕ
exchanged (Some v) went old = Some v
exchanged None (Some v) old = None
exchanged None None old = old

kept_here : (come went old : Option ℕ) (v : ℕ) → come ≡ None → went ≡ None → old ≡ Some v → Some v ≡ exchanged come went old
kept_here None None old v p q r = sym r
kept_here None (Some g) old v p q r = absurd (cc)
kept_here (Some c) went old v p q r = absurd (cc)

gone_only : (come went old new : Option ℕ) → old ≡ None → new ≡ exchanged come went old → new ≡ exchanged come (Some zero) (Some zero)
gone_only (Some v) went old new p ih = ih
gone_only None (Some v) old new p ih = ih
gone_only None None old new p ih = ih ∙ p

any_gone : (come : Option ℕ) (v w : ℕ) → exchanged come (Some zero) (Some zero) ≡ exchanged come (Some v) (Some w)
any_gone (Some c) v w = refl
any_gone None v w = refl

exchanged_first : (come went come' went' old' new' : Option ℕ) → new' ≡ exchanged come' went' old' → ((v : ℕ) → went ≡ Some v → old' ≡ None) → first_of come new' ≡ exchanged (first_of come come') (first_of went went') (first_of went old')
exchanged_first (Some v) went come' went' old' new' ih h = refl
exchanged_first None None come' went' old' new' ih h = ih
exchanged_first None (Some v) come' went' old' new' ih h = gone_only come' went' old' new' (h v refl) ih ∙ any_gone come' v v

after_by : (b : Bool) (q : List ℕ) (x : Exchange) (xs : List Exchange) → is_eq (order q x.kept.0) ≡ b → IsRising (whole (λ x. x.gone) (x ∷ xs)) → IsRising (whole (λ x. x.come) (x ∷ xs))
    → value_at q (whole (λ x. x.come) xs) ≡ exchanged (value_at q (others (λ x. x.come) xs)) (value_at q (others (λ x. x.gone) xs)) (value_at q (whole (λ x. x.gone) xs))
    → cond b (Some x.kept.1) (value_at q (x.come ++ whole (λ x. x.come) xs)) ≡ exchanged (value_at q (others (λ x. x.come) (x ∷ xs))) (value_at q (others (λ x. x.gone) (x ∷ xs))) (cond b (Some x.kept.1) (value_at q (x.gone ++ whole (λ x. x.gone) xs)))
after_by true q x xs e r s ih =
    kept_here (value_at q (others (λ x. x.come) (x ∷ xs))) (value_at q (others (λ x. x.gone) (x ∷ xs))) (Some x.kept.1) x.kept.1
    (none_after x.kept (others (λ x. x.come) (x ∷ xs)) q e (rising_kept (λ x. x.come) x xs s))
    (none_after x.kept (others (λ x. x.gone) (x ∷ xs)) q e (rising_kept (λ x. x.gone) x xs r)) refl
after_by false q x xs e r s ih =
    let old : Separators = whole (λ x. x.gone) xs in
    rw (value_at-append q x.come (whole (λ x. x.come) xs), value_at-append q x.come (others (λ x. x.come) xs), value_at-append q x.gone (others (λ x. x.gone) xs), value_at-append q x.gone (whole (λ x. x.gone) xs))
    (exchanged_first (value_at q x.come) (value_at q x.gone) (value_at q (others (λ x. x.come) xs)) (value_at q (others (λ x. x.gone) xs)) (value_at q old) (value_at q (whole (λ x. x.come) xs)) ih
    (λ v g. not_in_both x.gone old q v (rising_rest x.kept (x.gone ++ old) r) g))

following : (part : Exchange → Separators) (x : Exchange) (xs : List Exchange) → IsRising (whole part (x ∷ xs)) → IsRising (whole part xs)
following part x xs r = rising_right (part x) (whole part xs) (rising_rest x.kept (part x ++ whole part xs) r)

after_at : (q : List ℕ) (xs : List Exchange) → IsRising (whole (λ x. x.gone) xs) → IsRising (whole (λ x. x.come) xs) → value_at q (whole (λ x. x.come) xs) ≡ exchanged (value_at q (others (λ x. x.come) xs)) (value_at q (others (λ x. x.gone) xs)) (value_at q (whole (λ x. x.gone) xs))
after_at q [] r s = refl
after_at q (x ∷ xs) r s =
    after_by (is_eq (order q x.kept.0)) q x xs refl r s (after_at q xs (following (λ x. x.gone) x xs r) (following (λ x. x.come) x xs s))

-- ---- the terms

said_as_exchanged : (come went old : Option ℕ) → change_or (term_at come went) old ≡ exchanged come went old
said_as_exchanged (Some v) went old = refl
said_as_exchanged None (Some v) old = refl
said_as_exchanged None None old = refl

rising-cells : {Y : Type 0} (cell : ℕ → Y) (ns : Separators) → IsRising ns → IsRising (map (λ n. (n.0, cell n.1)) ns)
rising-cells cell ns r = rw (keys_of-map_values cell ns) r

pub all_keys-cells : {Y : Type 0} (P : List ℕ → Type 0) (cell : ℕ → Y) (ns : Separators) → AllByRecursion P (keys_of ns) → AllByRecursion P (keys_of (map (λ n. (n.0, cell n.1)) ns))
all_keys-cells P cell ns a = rw (keys_of-map_values cell ns) a

-- absences overlaid with new separators rise
pub rising-with_present : (gone come : Separators) → IsRising gone → IsRising (with_run (absent gone) (present come))
rising-with_present gone come r = rising-with_run (absent gone) (present come) (rising-cells (λ v. None) gone r)

-- and have no other keys
pub all_keys-with_present : (P : List ℕ → Type 0) (gone come : Separators) → AllByRecursion P (keys_of gone) → AllByRecursion P (keys_of come) → AllByRecursion P (keys_of (with_run (absent gone) (present come)))
all_keys-with_present P gone come a b =
    all_keys-with_run P (absent gone) (present come) (all_keys-cells {Y = Option ℕ} P (λ v. None) gone a) (all_keys-cells {Y = Option (Option ℕ)} P (λ v. Some (Some v)) come b)

same_said : {a b : Option (Option (Option ℕ))} {c d : Option (Option ℕ)} → a ≡ b → c ≡ d → change_or a c ≡ change_or b d
same_said e f = cc

term_by : (come went : Option ℕ) → change_or (option_map (λ v. Some (Some v)) come) (option_map (λ v. None) went) ≡ term_at come went
term_by (Some v) went = refl
term_by None (Some v) = refl
term_by None None = refl

-- the change of a key in absences overlaid with new separators
pub value_at-with_present : (q : List ℕ) (gone come : Separators) → IsRising gone → IsRising come → value_at q (with_run (absent gone) (present come)) ≡ term_at (value_at q come) (value_at q gone)
value_at-with_present q gone come r s =
    value_at-with_run (absent gone) (present come) q (rising-cells (λ v. None) gone r) (rising-cells (λ v. Some (Some v)) come s)
    ∙ same_said (lookup-map_values (λ v. Some (Some v)) (λ j. is_eq (order q j)) come) (lookup-map_values (λ v. None) (λ j. is_eq (order q j)) gone)
    ∙ term_by (value_at q come) (value_at q gone)

-- the terms turn the separators before into the separators after
pub terms_exchange : (xs : List Exchange) → IsRising (whole (λ x. x.gone) xs) → IsRising (whole (λ x. x.come) xs) → with_run (whole (λ x. x.gone) xs) (terms_of xs) ≡ whole (λ x. x.come) xs
terms_exchange xs r s =
    let old : Separators = whole (λ x. x.gone) xs in
    let gone : Separators = others (λ x. x.gone) xs in
    let come : Separators = others (λ x. x.come) xs in
    let gone_rises : IsRising gone = rising-others (λ x. x.gone) xs r in
    same_map (with_run old (terms_of xs)) (whole (λ x. x.come) xs) (rising-with_run old (terms_of xs) r) s
    (λ q. value_at-with_run old (terms_of xs) q r (rising-with_present gone come gone_rises)
    ∙ ap (λ (o : Option (Option ℕ)). change_or o (value_at q old)) (value_at-with_present q gone come gone_rises (rising-others (λ x. x.come) xs s))
    ∙ said_as_exchanged (value_at q come) (value_at q gone) (value_at q old)
    ∙ sym (after_at q xs r s))

pub all_keys-terms_of : (P : List ℕ → Type 0) (xs : List Exchange) → AllByRecursion P (keys_of (whole (λ x. x.gone) xs)) → AllByRecursion P (keys_of (whole (λ x. x.come) xs)) → AllByRecursion P (keys_of (terms_of xs))
all_keys-terms_of P xs a b = all_keys-with_present P (others (λ x. x.gone) xs) (others (λ x. x.come) xs) (all_others P (λ x. x.gone) xs a) (all_others P (λ x. x.come) xs b)

pub before-terms_of : (end : Option (List ℕ)) (xs : List Exchange) → AreBefore end (keys_of (whole (λ x. x.gone) xs)) → AreBefore end (keys_of (whole (λ x. x.come) xs)) → AreBefore end (keys_of (terms_of xs))
before-terms_of None xs a b = tt
before-terms_of (Some hi) xs a b = all_keys-terms_of (λ j. is_below j hi ≡ true) xs a b
