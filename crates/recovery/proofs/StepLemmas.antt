-- A store whose log contains every page with all its runs; and trees that keep the log states.
use Rattle.std.specs.Prelude.{◌≡◌, ◌↔◌, ℕ, Bool, true, false, cond, List, [], ◌∷◌, ◌++◌, Option, Some, None}
use Rattle.std.proofs.Common.{refl, sym, ap, ◌∙◌, append_assoc}
use Rattle.std.specs.Ordering.{nat_cmp, is_eq}
use Rattle.index_page.specs.Over.{IsOver, IsPageOver}
use Rattle.index_page.specs.Page.{Page, PageOfKind}
use Rattle.index_page.specs.Page.PageOfKind.{Leaf, Index}
use Rattle.mapping.specs.Flushed.{page_depth}
use Rattle.mapping.specs.Tree.{Logged, Tree, Store, with_tree, listed_at, page_at, or_no}
use Rattle.mapping.specs.Tree.Logged.{No, Upto}
use Rattle.flush_log.specs.AfterFlush.{store_after}
use Rattle.flush_log.specs.FlushText.{logged_whole, tree_in_log}
use Rattle.flush_log.specs.Slot.{Slot}
use Rattle.recovery.specs.InStep.{IsLogged, AreInStep, KeepsLogged}

-- ---- a store that equals the one that its disk encodes

-- the log state of a page that the log has unchanged
abbrev pub whole_of : Option PageOfKind → Logged
whole_of None = No
whole_of (Some p) = Upto (page_depth p)

listed_by : (b : Bool) (p : PageOfKind) (later : Option Logged) (rest : Option PageOfKind) → or_no later ≡ whole_of rest → or_no (cond b (Some (Upto (page_depth p))) later) ≡ whole_of (cond b (Some p) rest)
listed_by true p later rest ih = refl
listed_by false p later rest ih = ih

pub logged-whole : (ps : List (ℕ × PageOfKind)) (pid : ℕ) → or_no (listed_at (logged_whole ps) pid) ≡ whole_of (page_at ps pid)
logged-whole [] pid = refl
logged-whole (p ∷ ps) pid = listed_by (is_eq (nat_cmp pid p.0)) p.1 (listed_at (logged_whole ps) pid) (page_at ps pid) (logged-whole ps pid)

none_whole : (o : Option PageOfKind) → (whole_of o ≡ No) ↔ (o ≡ None)
none_whole None = (λ e. refl, λ e. refl)
none_whole (Some p) = (λ e. absurd (cc), λ e. absurd (cc))

over_itself : (p : PageOfKind) → IsPageOver p p
over_itself (Leaf p) = record { low = refl; base = refl; runs = ([], refl) }
over_itself (Index p) = record { low = refl; base = refl; runs = ([], refl) }

upto_whole : (o : Option PageOfKind) (k : ℕ) → whole_of o ≡ Upto k → IsLogged k o o
upto_whole None k e = absurd (cc)
upto_whole (Some p) k e = (cc, over_itself p)

-- a store that a disk encodes is in step with itself
pub itself-in_step : (ps : List (ℕ × PageOfKind)) (root height : ℕ) (t : Slot) → AreInStep (store_after (tree_in_log ps root height) t) (store_after (tree_in_log ps root height) t)
itself-in_step ps root height t = record {
  head = refl;
  tail = refl;
  sequence = refl;
  version = refl;
  none = λ pid.
      let w = none_whole (page_at ps pid) in
      let e = logged-whole ps pid in
      (λ h. w.0 (sym e ∙ h), λ h. e ∙ w.1 h);
  upto = λ pid k h. upto_whole (page_at ps pid) k (sym (logged-whole ps pid) ∙ h);
}

-- ---- a tree that was made from one in step

over_over : {V : Type 0} (a b c : Page V) → IsOver a b → IsOver b c → IsOver a c
over_over a b c f g = record {
  low = g.low ∙ f.low;
  base = g.base ∙ f.base;
  runs = (g.runs.0 ++ f.runs.0, g.runs.1 ∙ ap (λ rs. g.runs.0 ++ rs) f.runs.1 ∙ sym (append_assoc g.runs.0 f.runs.0 a.layers.runs));
}

page_over : (a b c : PageOfKind) → IsPageOver a b → IsPageOver b c → IsPageOver a c
page_over (Leaf a) (Leaf b) (Leaf c) f g = over_over a b c f g
page_over (Index a) (Index b) (Index c) f g = over_over a b c f g
page_over (Leaf a) (Leaf b) (Index c) f g = absurd g
page_over (Leaf a) (Index b) c f g = absurd f
page_over (Index a) (Leaf b) c f g = absurd f
page_over (Index a) (Index b) (Leaf c) f g = absurd g

logged_later : (k : ℕ) (logged now : Option PageOfKind) (later : Option PageOfKind) → IsLogged k logged now → ((p : PageOfKind) → now ≡ Some p → (q : PageOfKind) × (later ≡ Some q) × IsPageOver p q) → IsLogged k logged later
logged_later k None now later h f = absurd h
logged_later k (Some x) None later h f = absurd h
logged_later k (Some x) (Some p) later h f =
    let (q, e, over) = f p refl in
    rw e (h.0, page_over x p q h.1 over)

-- a store with such a tree is in step where that one was
pub kept-in_step : (st : Store) (new : Tree) (on_disk : Store) → KeepsLogged st.tree new → AreInStep st on_disk → AreInStep (with_tree st new) on_disk
kept-in_step st new on_disk keeps h = record {
  head = h.head;
  tail = h.tail;
  sequence = h.sequence;
  version = h.version;
  none = λ pid. (λ e. (h.none pid).0 ((keeps.none pid).1 e), λ e. (keeps.none pid).0 ((h.none pid).1 e));
  upto = λ pid k e. logged_later k (page_at on_disk.tree.pages pid) (page_at st.tree.pages pid) (page_at new.pages pid) (h.upto pid k (keeps.upto pid k e)) (λ p f. keeps.over pid k p e f);
}
