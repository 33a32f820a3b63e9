-- Two lists by rising pid with the same entry under each pid are equal, for the proofs of this crate and of those above it.
use Rattle.std.specs.Prelude.{◌≡◌, ◌≢◌, ℕ, ◌<◌, Bool, true, false, cond, List, [], ◌∷◌, Option, Some, None}
use Rattle.std.proofs.Common.{refl, sym, ap, ◌∙◌, arith, Ordering, Less, Equal, Greater}
use Rattle.std.specs.Ordering.{nat_cmp, is_eq}
use Rattle.std.specs.List.{AllByRecursion}
use Rattle.std.specs.Map.{keys_of}
use Rattle.std.proofs.lemmas.Cmp.{tied_itself, ranked}
use Rattle.keys.proofs.Basics.{equal_by}
use Rattle.index_page.specs.Page.{PageOfKind}
use Rattle.mapping.specs.Tree.{Logged, Tree, listed_at, page_at, or_no, logged_of}
use Rattle.mapping.specs.Tree.Logged.{No, Old, Upto}
use Rattle.mapping.specs.Proper.{AreRisingPids, IsTrueOf, AreLogsTrue}
use Rattle.mapping.proofs.PidLemmas.{below_later}
use Rattle.mapping.proofs.TableLemmas.{total, same_pid, differ}

module _ {V : Type 0} where
  first_listed : (e : ℕ × V) (es : List (ℕ × V)) → listed_at (e ∷ es) e.0 ≡ Some e.1
  first_listed e es = rw (tied_itself total e.0) refl

  -- nothing, if it is below all pids that are listed
  none_below : (n : ℕ) (es : List (ℕ × V)) → AllByRecursion (λ m. n < m) (keys_of es) → listed_at es n ≡ None
  none_below n [] a = refl
  none_below n (e ∷ es) a =
      let apart : n ≢ e.0 = (λ h. let l : n < e.0 = a.0 in omega arith) in
      rw (differ n e.0 apart) (none_below n es a.1)

  nothing_below : (n : ℕ) (e : ℕ × V) (es : List (ℕ × V)) → n < e.0 → AreRisingPids (keys_of (e ∷ es)) → listed_at (e ∷ es) n ≡ None
  nothing_below n e es l r = none_below n (e ∷ es) (l, below_later n e.0 (keys_of es) l r.0)

  rest_by : (b : Bool) (n : ℕ) (e : ℕ × V) (es : List (ℕ × V)) → is_eq (nat_cmp n e.0) ≡ b → listed_at es e.0 ≡ None → listed_at es n ≡ cond b None (listed_at (e ∷ es) n)
  rest_by true n e es h z = ap (λ (m : ℕ). listed_at es m) (same_pid n e.0 (equal_by (nat_cmp n e.0) h)) ∙ z
  rest_by false n e es h z = rw h refl

  -- after the first, a list says what it says, but nothing of the first pid
  pub rest_listed : (n : ℕ) (e : ℕ × V) (es : List (ℕ × V)) → AreRisingPids (keys_of (e ∷ es)) → listed_at es n ≡ cond (is_eq (nat_cmp n e.0)) None (listed_at (e ∷ es) n)
  rest_listed n e es r = rest_by (is_eq (nat_cmp n e.0)) n e es refl (none_below e.0 es r.0)

  same_by : (o : Ordering) (d e : ℕ × V) (ds es : List (ℕ × V)) → nat_cmp d.0 e.0 ≡ o → AreRisingPids (keys_of (d ∷ ds)) → AreRisingPids (keys_of (e ∷ es)) → ((n : ℕ) → listed_at (d ∷ ds) n ≡ listed_at (e ∷ es) n)
      → (((n : ℕ) → listed_at ds n ≡ listed_at es n) → ds ≡ es) → d ∷ ds ≡ e ∷ es
  same_by Less d e ds es o r s h ih =
      let l : d.0 < e.0 = ranked d.0 e.0 Less (sym o) in
      let f : Some d.1 ≡ None = sym (first_listed d ds) ∙ h d.0 ∙ nothing_below d.0 e es l s in
      absurd (cc)
  same_by Greater d e ds es o r s h ih =
      let l : e.0 < d.0 = ranked d.0 e.0 Greater (sym o) in
      let f : Some e.1 ≡ None = sym (first_listed e es) ∙ sym (h e.0) ∙ nothing_below e.0 d ds l r in
      absurd (cc)
  same_by Equal d e ds es o r s h ih =
      let k : d.0 ≡ e.0 = same_pid d.0 e.0 o in
      let f : Some d.1 ≡ Some e.1 = sym (first_listed d ds) ∙ h d.0 ∙ ap (λ (n : ℕ). listed_at (e ∷ es) n) k ∙ first_listed e es in
      let v : d.1 ≡ e.1 = cc in
      let pair : ℕ → V → ℕ × V = λ a b. (a, b) in
      let rest : (n : ℕ) → listed_at ds n ≡ listed_at es n =
      (λ n. rest_listed n d ds r
      ∙ ap (λ (m : ℕ). cond (is_eq (nat_cmp n m)) None (listed_at (d ∷ ds) n)) k
      ∙ ap (λ (t : Option V). cond (is_eq (nat_cmp n e.0)) None t) (h n)
      ∙ sym (rest_listed n e es s)) in
      ap (λ (a : ℕ). pair a d.1 ∷ ds) k ∙ ap (λ (b : V). pair e.0 b ∷ ds) v ∙ ap (λ (t : List (ℕ × V)). e ∷ t) (ih rest)

  -- two lists by rising pid that list the same under each pid are one list
  pub same_table : (ds es : List (ℕ × V)) → AreRisingPids (keys_of ds) → AreRisingPids (keys_of es) → ((n : ℕ) → listed_at ds n ≡ listed_at es n) → ds ≡ es
  same_table [] [] r s h = refl
  same_table [] (e ∷ es) r s h = let f : None ≡ Some e.1 = h e.0 ∙ first_listed e es in absurd (cc)
  same_table (d ∷ ds) [] r s h = let f : Some d.1 ≡ None = sym (first_listed d ds) ∙ h d.0 in absurd (cc)
  same_table (d ∷ ds) (e ∷ es) r s h = same_by (nat_cmp d.0 e.0) d e ds es refl r s h (λ rest. same_table ds es r.1 s.1 rest)

-- ---- the log state of each pid

found_true : (b : Bool) (page : Option PageOfKind) (what : Logged) (later : Option Logged) → IsTrueOf page what → later ≢ Some No → cond b (Some what) later ≢ Some No
found_true true page No later t h e = t
found_true true page Old later t h e = absurd (cc)
found_true true page (Upto k) later t h e = absurd (cc)
found_true false page what later t h e = h e

-- `No` is never listed
never_no : (pages : List (ℕ × PageOfKind)) (ls : List (ℕ × Logged)) (n : ℕ) → AllByRecursion (λ l. IsTrueOf (page_at pages l.0) l.1) ls → listed_at ls n ≢ Some No
never_no pages [] n a e = absurd (cc)
never_no pages (l ∷ ls) n a e = found_true (is_eq (nat_cmp n l.0)) (page_at pages l.0) l.1 (listed_at ls n) a.0 (never_no pages ls n a.1) e

same_listed : (x y : Option Logged) → x ≢ Some No → y ≢ Some No → or_no x ≡ or_no y → x ≡ y
same_listed None None p q h = refl
same_listed None (Some l) p q h = absurd (q (ap (λ (z : Logged). Some z) (sym h)))
same_listed (Some l) None p q h = absurd (p (ap (λ (z : Logged). Some z) h))
same_listed (Some l) (Some m) p q h = ap (λ (z : Logged). Some z) h

-- trees whose logs are true, and have the same of each pid, list the same
pub same_logged : (t u : Tree) → AreLogsTrue t → AreLogsTrue u → ((n : ℕ) → logged_of t n ≡ logged_of u n) → t.logged ≡ u.logged
same_logged t u a b h =
    same_table t.logged u.logged a.rising b.rising (λ n. same_listed (listed_at t.logged n) (listed_at u.logged n) (never_no t.pages t.logged n a.each) (never_no u.pages u.logged n b.each) (h n))
