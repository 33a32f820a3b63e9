-- The frames that are written for a page, part by part.
use Rattle.std.proofs.Common.{◌≡◌, ℕ, ◌≤◌, List, [], ◌∷◌, ◌++◌, length, map, reverse, drop, sym, ap, ◌∙◌, arith, subst, append_assoc, append-nil, OnOk, Result, Ok, Err}
use Rattle.std.specs.List.{AllByRecursion}
use Rattle.std.specs.declared.alloc.AllocError.{AllocError}
use Rattle.std.proofs.lemmas.List.{reverse-append, drop-append-le, drop_all, length-map, length-reverse, map-append}
use Rattle.keys.specs.Bytes.{Bytes}
use Rattle.index_page.proofs.ListLemmas.{all-append, all_apart}
use Rattle.frame_codec.specs.Frame.{Content, Frame, bytes_of}
use Rattle.frame_codec.specs.Sized.{FitsU64}
use Rattle.flush_log.specs.FlushText.{frames_of}
use Rattle.flush_log.specs.ImageWork.{AreWritten}

-- ---- frames after frames

pub written-none : (pid : ℕ) (old : List Bytes) → AreWritten pid [] old old
written-none pid old = record { bytes = sym (append-nil old); words = tt }

pub written-one : (pid : ℕ) (c : Content) (old new : List Bytes) → new ≡ old ++ bytes_of (record { pid = pid; content = c }) ∷ [] → FitsU64 (record { pid = pid; content = c }) → AreWritten pid (c ∷ []) old new
written-one pid c old new e w = record { bytes = e; words = (w, tt) }

-- a content as a frame
abbrev of_pid : ℕ → Content → Frame
of_pid pid c = record { pid = pid; content = c }

pub written-then : (pid : ℕ) (cs ds : List Content) (old mid new : List Bytes) → AreWritten pid cs old mid → AreWritten pid ds mid new → AreWritten pid (cs ++ ds) old new
written-then pid cs ds old mid new a b =
    let one : List Bytes = map (λ f. bytes_of f) (frames_of pid cs) in
    let two : List Bytes = map (λ f. bytes_of f) (frames_of pid ds) in
    let parts : map (λ f. bytes_of f) (frames_of pid (cs ++ ds)) ≡ one ++ two = ap (λ (fs : List Frame). map (λ f. bytes_of f) fs) (map-append (of_pid pid) cs ds) ∙ map-append (λ f. bytes_of f) (frames_of pid cs) (frames_of pid ds) in
    record {
      bytes = b.bytes ∙ ap (λ (bs : List Bytes). bs ++ two) a.bytes ∙ append_assoc old one two ∙ ap (λ (bs : List Bytes). old ++ bs) (sym parts);
      words = subst (λ (fs : List Frame). AllByRecursion FitsU64 fs) (sym (map-append (of_pid pid) cs ds)) (all-append FitsU64 (frames_of pid cs) (frames_of pid ds) a.words b.words);
    }

-- the first content of an image, and then the others
pub written-first : (pid : ℕ) (c d : Content) (cs : List Content) (start one new : List Bytes) → start ≡ [] → d ≡ c → one ≡ start ++ bytes_of (record { pid = pid; content = d }) ∷ []
    → FitsU64 (record { pid = pid; content = d }) → AreWritten pid cs one new → AreWritten pid (c ∷ cs) [] new
written-first pid c d cs start one new none same e w more =
    let first : one ≡ bytes_of (record { pid = pid; content = d }) ∷ [] = e ∙ ap (λ (bs : List Bytes). bs ++ bytes_of (record { pid = pid; content = d }) ∷ []) none in
    subst (λ (x : Content). AreWritten pid (x ∷ cs) [] new) same (written-then pid (d ∷ []) cs [] one new (written-one pid d [] one first w) more)

-- ---- runs, the oldest first

module _ {X : Type 0} (f : X → Content) where
  abbrev contents : List X → List Content
  contents runs = map f (reverse runs)

  pub length_contents : (runs : List X) → length (contents runs) ≡ length runs
  length_contents runs = length-map (reverse runs) f ∙ length-reverse runs

  pub none_newer : (k : ℕ) (runs : List X) → length runs ≤ k → drop k (contents runs) ≡ []
  none_newer k runs h = let n = length_contents runs in drop_all k (contents runs) (omega arith)

  pub newest_last : (k : ℕ) (run : X) (runs : List X) → k ≤ length runs → drop k (contents (run ∷ runs)) ≡ drop k (contents runs) ++ f run ∷ []
  newest_last k run runs h =
      let n = length_contents runs in
      ap (λ (xs : List X). drop k (map f xs)) (reverse-append (run ∷ []) runs)
      ∙ ap (λ (cs : List Content). drop k cs) (map-append f (reverse runs) (run ∷ []))
      ∙ drop-append-le k (contents runs) (f run ∷ []) (omega arith)

  -- a chain's runs from the newest one: the runs before a run, and that run
  module _ (k : ℕ) (run : X) (all runs : List X) (is : all ≡ run ∷ runs) (h : k ≤ length runs) where
    split : drop k (contents all) ≡ drop k (contents runs) ++ f run ∷ []
    split = ap (λ (xs : List X). drop k (contents xs)) is ∙ newest_last k run runs h

    pub all_older : (P : Content → Type 0) → AllByRecursion P (drop k (contents all)) → AllByRecursion P (drop k (contents runs)) × P (f run)
    all_older P a =
        let parts = all_apart P (drop k (contents runs)) (f run ∷ []) (subst (λ (cs : List Content). AllByRecursion P cs) split a) in
        (parts.0, parts.1.0)

    written-newest : (pid : ℕ) (old mid new : List Bytes) → AreWritten pid (drop k (contents runs)) old mid → new ≡ mid ++ bytes_of (record { pid = pid; content = f run }) ∷ []
        → FitsU64 (record { pid = pid; content = f run }) → AreWritten pid (drop k (contents all)) old new
    written-newest pid old mid new older e w =
        subst (λ (cs : List Content). AreWritten pid cs old new) (sym split) (written-then pid (drop k (contents runs)) (f run ∷ []) old mid new older (written-one pid (f run) mid new e w))

    pub on_ok-newest : (pid : ℕ) (old mid new : List Bytes) (r : Result (Unit {0}) AllocError) → AreWritten pid (drop k (contents runs)) old mid → OnOk r (new ≡ mid ++ bytes_of (record { pid = pid; content = f run }) ∷ [])
        → OnOk r (FitsU64 (record { pid = pid; content = f run })) → OnOk r (AreWritten pid (drop k (contents all)) old new)
    on_ok-newest pid old mid new (Ok u) older e w = written-newest pid old mid new older e w
    on_ok-newest pid old mid new (Err x) older e w = tt

  pub written-none_newer : (k : ℕ) (runs : List X) (pid : ℕ) (old : List Bytes) → length runs ≤ k → AreWritten pid (drop k (contents runs)) old old
  written-none_newer k runs pid old h = subst (λ (cs : List Content). AreWritten pid cs old old) (sym (none_newer k runs h)) (written-none pid old)
