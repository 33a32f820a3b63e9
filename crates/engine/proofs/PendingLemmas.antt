-- The bytes that a flush would add to the log.
use Rattle.std.specs.Prelude.{◌≡◌, ◌≢◌, ◌⊎◌, ◌↔◌, ◌+◌, ◌≤◌, ℕ, Bool, true, false, IsTrue, List, [], length, None, Err}
use Rattle.std.specs.List.{sum_by}
use Rattle.std.proofs.Common.{refl, sym, ap, ◌∙◌, inl, inr, arith}
use Rattle.keys.specs.Limits.{first_bad_field}
use Rattle.keys.specs.declared.fault.Fault.{Fault}
use Rattle.keys.specs.declared.fault.Fault.TheVariants.{NoMemory}
use Rattle.keys.specs.declared.settings.Settings.{Settings}
use Rattle.mapping.specs.Tree.{Store}
use Rattle.frame_codec.specs.Frame.{Frame, bytes_of}
use Rattle.flush_log.specs.AfterFlush.{slot_of}
use Rattle.flush_log.specs.CommitPlan.{CommitPlan, next_tail}
use Rattle.flush_log.specs.FlushText.{flush_frames}
use Rattle.flush_log.specs.Layout.{tail_after}
use Rattle.flush_log.specs.Slot.{Slot, format_of}
use Rattle.flush_log.specs.declared.text.CommitKind.TheVariants as texts
use Rattle.flush_log.proofs.TailLemmas.{tail-rises}
use Rattle.engine.specs.Calls.{IsWriting}
use Rattle.engine.specs.Pending.{FlushAdds, IsFlushRefused}
use Rattle.engine.proofs.FlushDone.{IsDue, nothing-flushed, refused-by-right, writing-done}

-- without frames nothing is added
pub nothing-added : (s : Settings) (st : Store) → flush_frames st.version st.tree ≡ [] → FlushAdds s st 0
nothing-added s st none file = (st, file, nothing-flushed s st file none, omega arith)

-- if not everything is written, there is something to write
pub some-left : (is_all : Bool) (text : List Frame) → (IsTrue is_all ↔ (text ≡ [])) → is_all ≡ false → text ≢ []
some-left true text written rest = absurd (cc)
some-left false text written rest = λ none. (let yes = written.1 none in cc)

-- bytes that lie between two tails
between : (from bytes to tail : ℕ) → from + bytes ≤ to → tail ≡ to → from ≤ tail
between from bytes to tail rises same = omega arith

-- ---- a flush that has something to write

module _ (s : Settings) (st : Store) (due : flush_frames st.version st.tree ≢ []) where
  abbrev is_due : IsDue (texts.Flush st.version) st
  is_due = record { own = refl; due = due; some = due }

  -- it fails by definition
  pub flush-refused : (fault : Fault) → (fault ≡ NoMemory) ⊎ (next_tail s (slot_of st) (flush_frames st.version st.tree) ≡ Err fault) → (fault ≡ NoMemory) ⊎ IsFlushRefused s st fault
  flush-refused fault (inl memory) = inl memory
  flush-refused fault (inr h) = inr (λ file. refused-by-right (texts.Flush st.version) s st is_due fault file h)

  -- since it is planned, its tail is not below that of the store, and it adds the bytes between the two
  module _ (m : CommitPlan) (p : IsWriting (texts.Flush st.version) s st m) where
    pub tail-not-below : first_bad_field s ≡ None → st.tail ≤ m.slot.tail
    tail-not-below good =
        let text = flush_frames st.version st.tree in
        between st.tail (sum_by (λ f. length (bytes_of f)) text) (tail_after s st.tail text) m.slot.tail
        (tail-rises (format_of s (slot_of st)) good st.tail text p.encoded.within) (ap (λ (t : Slot). t.tail) p.slot)

    pub flush-adds : (n : ℕ) → m.slot.tail ≡ st.tail + n → FlushAdds s st n
    flush-adds n added file = (_, _, writing-done (texts.Flush st.version) s st is_due m p file, ap (λ (t : Slot). t.tail) (sym p.slot) ∙ added)
