-- The frames that a flush or an upgrade writes for each pid, and the page that the log then determines.
use Rattle.std.specs.Prelude.{◌≡◌, ℕ, Bool, true, false, cond, ◌||◌, nat_eq, List, [], ◌∷◌, ◌++◌, flat_map, Option, Some, None, is_some}
use Rattle.std.proofs.Common.{refl, sym, ap, ◌∙◌, subst}
use Rattle.std.specs.List.{AllByRecursion, filter}
use Rattle.std.specs.Map.{keys_of}
use Rattle.std.specs.Ordering.{nat_cmp, is_eq}
use Rattle.std.proofs.lemmas.Bool.{eqb-true, eq-eqb, or_parts}
use Rattle.std.proofs.lemmas.List.{append-nil}
use Rattle.keys.proofs.Basics.{equal_by}
use Rattle.index_page.specs.Page.{PageOfKind}
use Rattle.mapping.specs.FreshPids.{is_among}
use Rattle.mapping.specs.Proper.{AreRisingPids, IsTrueOf, AreLogsTrue}
use Rattle.mapping.specs.Table.{is_old}
use Rattle.mapping.specs.Tree.{Logged, Tree, listed_at, page_at, or_no, logged_of}
use Rattle.mapping.specs.Tree.Logged.{No, Old, Upto}
use Rattle.mapping.proofs.InUse.{among-lookup}
use Rattle.mapping.proofs.KnownPids.{none_above, among-with_numbers, rising-with_numbers, among-old}
use Rattle.mapping.proofs.SameTable.{same_table}
use Rattle.mapping.proofs.TableLemmas.{same_pid}
use Rattle.frame_codec.specs.declared.format.KeyEncoding.{KeyEncoding}
use Rattle.frame_codec.specs.Frame.{Content, Frame}
use Rattle.flush_log.specs.FlushText.{encoding_of, lacking, frames_of, version_with, taken, pid_frames, pids_to_write, commit_frames}
use Rattle.flush_log.specs.declared.text.CommitKind.{CommitKind}
use Rattle.flush_log.specs.declared.text.CommitKind.TheVariants.{Flush, Upgrade}
use Rattle.recovery.specs.InStep.{IsLogged}
use Rattle.recovery.specs.LogPages.{contents_of, in_log, pages_of, broken_in}
use Rattle.recovery.specs.PageByLog.{InLog, page_by_log, page_in, is_broken}
use Rattle.recovery.specs.PageByLog.InLog.{Missing, Present, Broken}
use Rattle.recovery.proofs.PagesLemmas.{contents-append, page_at-pages_of, rising-pages_of, none_broken, not_broken}
use Rattle.recovery.proofs.StateLemmas.{page-whole, page-free, page-newer}

-- ---- the frames of each pid

own_by : (b : Bool) (n pid : ℕ) (cs : List Content) → nat_eq n pid ≡ b → contents_of pid (frames_of n cs) ≡ cond b cs []
own_by true n pid [] e = refl
own_by false n pid [] e = refl
own_by true n pid (c ∷ cs) e = rw e (ap (λ (x : List Content). c ∷ x) (own_by true n pid cs e))
own_by false n pid (c ∷ cs) e = rw e (own_by false n pid cs e)

pub turned : (b : Bool) (m n : ℕ) → nat_eq m n ≡ b → nat_eq n m ≡ b
turned b m n e = turned_by b (nat_eq n m) e refl
  where
    turned_by : (b c : Bool) → nat_eq m n ≡ b → nat_eq n m ≡ c → c ≡ b
    turned_by true true e h = refl
    turned_by false false e h = refl
    turned_by true false e h = let x = eq-eqb n m (sym (eqb-true m n e)) in absurd (cc)
    turned_by false true e h = let x = eq-eqb m n (sym (eqb-true n m h)) in absurd (cc)

-- frames that are made of each of some rising pids
module _ (g : ℕ → List Frame) (due : ℕ → List Content) (own : (n pid : ℕ) → contents_of pid (g n) ≡ cond (nat_eq pid n) (due n) []) where
  text_by : (b : Bool) (n pid : ℕ) (ns : List ℕ) → nat_eq pid n ≡ b → is_among n ns ≡ false → contents_of pid (flat_map g ns) ≡ cond (is_among pid ns) (due pid) []
      → cond b (due n) [] ++ contents_of pid (flat_map g ns) ≡ cond (b || is_among pid ns) (due pid) []
  text_by true n pid ns e later ih =
      let same : n ≡ pid = sym (eqb-true pid n e) in
      let none : is_among pid ns ≡ false = ap (λ (m : ℕ). is_among m ns) (sym same) ∙ later in
      ap (λ (x : List Content). due n ++ x) (ih ∙ ap (λ (b : Bool). cond b (due pid) []) none) ∙ append-nil (due n) ∙ ap due same
  text_by false n pid ns e later ih = ih

  -- the contents of each pid are those made of it
  pub made-under : (ns : List ℕ) (pid : ℕ) → AreRisingPids ns → contents_of pid (flat_map g ns) ≡ cond (is_among pid ns) (due pid) []
  made-under [] pid r = refl
  made-under (n ∷ ns) pid r =
      contents-append pid (g n) (flat_map g ns)
      ∙ ap (λ (cs : List Content). cs ++ contents_of pid (flat_map g ns)) (own n pid)
      ∙ text_by (nat_eq pid n) n pid ns refl (none_above n ns r.0) (made-under ns pid r.1)

-- ---- the log states, as a commit treats them

pub true_by : (b : Bool) (pages : List (ℕ × PageOfKind)) (n pid : ℕ) (here : Logged) (rest : Option Logged) (l : Logged) → is_eq (nat_cmp pid n) ≡ b → IsTrueOf (page_at pages n) here → (rest ≡ Some l → IsTrueOf (page_at pages pid) l)
    → cond b (Some here) rest ≡ Some l → IsTrueOf (page_at pages pid) l
true_by true pages n pid here rest l e t f h =
    let same : here ≡ l = cc in
    let at : n ≡ pid = sym (same_pid pid n (equal_by (nat_cmp pid n) e)) in
    subst (λ (m : ℕ). IsTrueOf (page_at pages m) l) at (subst (λ (x : Logged). IsTrueOf (page_at pages n) x) same t)
true_by false pages n pid here rest l e t f h = f h

-- the log state of a pid is true for its page
pub true_at : (pages : List (ℕ × PageOfKind)) (ls : List (ℕ × Logged)) (pid : ℕ) (l : Logged) → AllByRecursion (λ e. IsTrueOf (page_at pages e.0) e.1) ls → listed_at ls pid ≡ Some l → IsTrueOf (page_at pages pid) l
true_at pages [] pid l a h = absurd (cc)
true_at pages (e ∷ es) pid l a h = true_by (is_eq (nat_cmp pid e.0)) pages e.0 pid e.1 (listed_at es pid) l refl a.0 (λ r. true_at pages es pid l a.1 r) h

taken-no : (text : CommitKind) (l : Logged) → taken text l ≡ No → l ≡ No
taken-no (Flush version) l e = e
taken-no Upgrade No e = refl
taken-no Upgrade Old e = absurd (cc)
taken-no Upgrade (Upto k) e = absurd (cc)

taken-upto : (text : CommitKind) (l : Logged) (k : ℕ) → taken text l ≡ Upto k → l ≡ Upto k
taken-upto (Flush version) l k e = e
taken-upto Upgrade No k e = absurd (cc)
taken-upto Upgrade Old k e = absurd (cc)
taken-upto Upgrade (Upto n) k e = absurd (cc)

-- ---- the frames of a tree

module _ (text : CommitKind) (t : Tree) where
  abbrev own : KeyEncoding
  own = encoding_of (version_with text)

  abbrev due : ℕ → List Content
  due pid = lacking own (page_at t.pages pid) (taken text (logged_of t pid))

  text-under : (ns : List ℕ) (pid : ℕ) → AreRisingPids ns → contents_of pid (flat_map (pid_frames text t) ns) ≡ cond (is_among pid ns) (due pid) []
  text-under ns pid r = made-under (pid_frames text t) due (λ n q. own_by (nat_eq q n) n q (due n) (turned (nat_eq q n) q n refl)) ns pid r

  none_by : {V : Type 0} (o : Option V) → is_some o ≡ false → o ≡ None
  none_by None e = refl
  none_by (Some v) e = absurd (cc)

  -- of a pid without a page nothing is due, if the log has none either
  nothing_due : (taker : CommitKind) (listed : Option Logged) → ((l : Logged) → listed ≡ Some l → IsTrueOf None l) → is_old (or_no listed) ≡ false → lacking own None (taken taker (or_no listed)) ≡ []
  nothing_due (Flush version) None true_of e = refl
  nothing_due Upgrade None true_of e = refl
  nothing_due taker (Some No) true_of e = absurd (true_of No refl)
  nothing_due taker (Some Old) true_of e = absurd (cc)
  nothing_due taker (Some (Upto k)) true_of e = absurd (true_of (Upto k) refl)

  module _ (pages : AreRisingPids (keys_of t.pages)) (logs : AreLogsTrue t) where
    else_due : (b : Bool) (pid : ℕ) → is_among pid (pids_to_write t) ≡ b → cond b (due pid) [] ≡ due pid
    else_due true pid e = refl
    else_due false pid e =
        let olds : List ℕ = keys_of (filter (λ l. is_old l.1) t.logged) in
        let apart = or_parts (is_among pid olds) (is_among pid (keys_of t.pages)) (sym (among-with_numbers pid olds (keys_of t.pages)) ∙ e) in
        let old : is_old (logged_of t pid) ≡ false = sym (among-old pid t.logged logs.rising) ∙ apart.0 in
        let none : page_at t.pages pid ≡ None = none_by (page_at t.pages pid) (among-lookup pid t.pages ∙ apart.1) in
        let true_of : (l : Logged) → listed_at t.logged pid ≡ Some l → IsTrueOf None l = λ l h. subst (λ (o : Option PageOfKind). IsTrueOf o l) none (true_at t.pages t.logged pid l logs.each h) in
        sym (ap (λ (o : Option PageOfKind). lacking own o (taken text (logged_of t pid))) none ∙ nothing_due text (listed_at t.logged pid) true_of old)

    -- for each pid, a commit has the frames that the log lacks
    pub text-of_pid : (pid : ℕ) → contents_of pid (commit_frames text t) ≡ due pid
    text-of_pid pid =
        text-under (pids_to_write t) pid (rising-with_numbers (keys_of (filter (λ l. is_old l.1) t.logged)) (keys_of t.pages) pages)
        ∙ else_due (is_among pid (pids_to_write t)) pid refl

-- ---- the log with the new frames after it

-- a page, or none, as a log determines it
abbrev pub as_read : Option PageOfKind → InLog
as_read None = Missing
as_read (Some p) = Present p

state-back : (o : Option PageOfKind) → page_in (as_read o) ≡ o
state-back None = refl
state-back (Some p) = refl

state-sound : (o : Option PageOfKind) → is_broken (as_read o) ≡ false
state-sound None = refl
state-sound (Some p) = refl

missing : (state : InLog) → page_in state ≡ None → is_broken state ≡ false → state ≡ Missing
missing Missing e f = refl
missing (Present p) e f = absurd (cc)
missing Broken e f = absurd (cc)

newer_by : (encoding : KeyEncoding) (cs : List Content) (k : ℕ) (state : InLog) (now : Option PageOfKind) → page_by_log cs ≡ state → IsLogged k (page_in state) now → page_by_log (cs ++ lacking encoding now (Upto k)) ≡ as_read now
newer_by encoding cs k Missing now e h = absurd h
newer_by encoding cs k Broken now e h = absurd h
newer_by encoding cs k (Present x) None e h = absurd h
newer_by encoding cs k (Present x) (Some p) e h = page-newer cs k x p e h

-- the contents in the log, followed by the written ones, determine exactly the present page
after_by : (encoding : KeyEncoding) (cs : List Content) (now : Option PageOfKind) (l : Logged) → is_broken (page_by_log cs) ≡ false → (l ≡ No → page_in (page_by_log cs) ≡ None) → ((k : ℕ) → l ≡ Upto k → IsLogged k (page_in (page_by_log cs)) now)
    → page_by_log (cs ++ lacking encoding now l) ≡ as_read now
after_by encoding cs (Some p) No sound none upto = page-whole encoding cs p
after_by encoding cs (Some p) Old sound none upto = page-whole encoding cs p
after_by encoding cs None No sound none upto = ap page_by_log (append-nil cs) ∙ missing (page_by_log cs) (none refl) sound
after_by encoding cs None Old sound none upto = page-free cs
after_by encoding cs now (Upto k) sound none upto = newer_by encoding cs k (page_by_log cs) now refl (upto k refl)

-- a tree whose log states are true of the pages that frames make
pub record IsKnown (t : Tree) (fs : List Frame) : Type 0 where
  pub pages : AreRisingPids (keys_of t.pages)
  pub logs : AreLogsTrue t
  pub sound : broken_in fs ≡ None
  pub none : (pid : ℕ) → logged_of t pid ≡ No → page_at (pages_of fs) pid ≡ None
  pub upto : (pid k : ℕ) → logged_of t pid ≡ Upto k → IsLogged k (page_at (pages_of fs) pid) (page_at t.pages pid)

module _ (text : CommitKind) (t : Tree) (fs : List Frame) (known : IsKnown t fs) where
  -- the page that the log then determines for each pid
  pub state-after : (pid : ℕ) → in_log (fs ++ commit_frames text t) pid ≡ as_read (page_at t.pages pid)
  state-after pid =
      let here : page_at (pages_of fs) pid ≡ page_in (in_log fs pid) = page_at-pages_of fs pid in
      ap page_by_log (contents-append pid fs (commit_frames text t) ∙ ap (λ (cs : List Content). contents_of pid fs ++ cs) (text-of_pid text t known.pages known.logs pid))
      ∙ after_by (encoding_of (version_with text)) (contents_of pid fs) (page_at t.pages pid) (taken text (logged_of t pid)) (none_broken fs pid known.sound)
      (λ e. sym here ∙ known.none pid (taken-no text (logged_of t pid) e))
      (λ k e. rw (sym here) (known.upto pid k (taken-upto text (logged_of t pid) k e)))

  -- so its pages are those of the tree
  pub pages-after : pages_of (fs ++ commit_frames text t) ≡ t.pages
  pages-after =
      same_table (pages_of (fs ++ commit_frames text t)) t.pages (rising-pages_of (fs ++ commit_frames text t)) known.pages
      (λ pid. page_at-pages_of (fs ++ commit_frames text t) pid ∙ ap page_in (state-after pid) ∙ state-back (page_at t.pages pid))

  pub sound-after : broken_in (fs ++ commit_frames text t) ≡ None
  sound-after = not_broken (fs ++ commit_frames text t) (λ pid. ap is_broken (state-after pid) ∙ state-sound (page_at t.pages pid))
