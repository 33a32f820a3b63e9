-- Adding a call to a record, for a disk that began as zeros.
use Rattle.std.proofs.Common.{◌≡◌, inl, inr, ⊎_elim, ℕ, ◌+◌, ◌-◌, ◌≤◌, min, List, [], ◌∷◌, ◌++◌, length, take, drop, replicate, refl, sym, ap, subst, ◌∙◌, arith, length-append, take_all, false, is_err, true≢false, Result, Ok, Err, OnOk, OnErr}
use Rattle.std.proofs.Math.Seq.{drop-append-add, take-append-add}
use Rattle.std.proofs.lemmas.Bool.{cases_lt}
use Rattle.std.proofs.lemmas.List.{length-replicate, length-drop, replicate-append-replicate, append_assoc, append-nil, take-append-le, drop-append-le, drop_all, drop-replicate, take-replicate}
use Rattle.flush_log.specs.Overlay.{overlay}
use Rattle.flush_log.specs.Disk.{IsSynced, Torn, Same, Leaves}
use Rattle.flush_log.specs.Commit.{Call, seen_after}
use Rattle.flush_log.specs.Commit.Call.{Write, Sync}
use Rattle.flush_log.specs.Record.{view_of, AreCalls, with_zeros}
use Rattle.flush_log.proofs.OverlayLemmas.{length-overlay, overlay-beside}
use Rattle.flush_log.proofs.CallLemmas.{seen_after-append}
use Rattle.flush_log.proofs.CalledLemmas.{one_in_range, view-write, view-sync, view-is_synced}

in_zeros : (n : ℕ) (calls : List Call) → AreCalls n calls → AreCalls (length {A = ℕ} (replicate n 0)) calls
in_zeros n calls fit = let long : length {A = ℕ} (replicate n 0) ≡ n = length-replicate n 0 in subst (λ (m : ℕ). AreCalls m calls) (sym long) fit

-- what lies within the disk's view lies within its bytes
pub in_bytes : (n end : ℕ) → end ≤ length {A = ℕ} (replicate n 0) → end ≤ n
in_bytes n end within = let long : length {A = ℕ} (replicate n 0) ≡ n = length-replicate n 0 in omega (arith, long, within)

pub written_length : (old new : List ℕ) (at : ℕ) (bytes : List ℕ) → new ≡ overlay old at bytes → at + length bytes ≤ length old → length new ≡ length old
written_length old new at bytes is within = ap length is ∙ length-overlay old at bytes within

-- ---- a file of n bytes: the first are kept, and all others are zeros

pub zeros-whole : (n : ℕ) (kept : List ℕ) → length kept ≤ n → length (with_zeros n kept) ≡ n
zeros-whole n kept short =
    let both = length-append kept (replicate (n - length kept) 0) in
    let rest : length {A = ℕ} (replicate (n - length kept) 0) ≡ n - length kept = length-replicate (n - length kept) 0 in
    omega (arith, both, rest, short)

-- what is written among those that are kept is written into the file
pub zeros-overlay : (n : ℕ) (kept : List ℕ) (at : ℕ) (bytes : List ℕ) → at + length bytes ≤ length kept → with_zeros n (overlay kept at bytes) ≡ overlay (with_zeros n kept) at bytes
zeros-overlay n kept at bytes here =
    let rest = replicate {A = ℕ} (n - length kept) 0 in
    ap (λ (k : ℕ). overlay kept at bytes ++ replicate (n - k) 0) (length-overlay kept at bytes here)
    ∙ append_assoc (take at kept) (bytes ++ drop (at + length bytes) kept) rest
    ∙ ap (λ (xs : List ℕ). take at kept ++ xs) (append_assoc bytes (drop (at + length bytes) kept) rest)
    ∙ ap (λ (xs : List ℕ). take at kept ++ (bytes ++ xs)) (sym (drop-append-le (at + length bytes) kept rest here))
    ∙ ap (λ (xs : List ℕ). xs ++ (bytes ++ drop (at + length bytes) (kept ++ rest))) (sym (take-append-le at kept rest (omega (arith, here))))

-- zeros that are kept too change nothing
pub zeros-longer : (n end : ℕ) (kept now : List ℕ) → length kept ≤ end → end ≤ n → now ≡ take end kept ++ replicate (end - length kept) 0 → with_zeros n now ≡ with_zeros n kept
zeros-longer n end kept now short within is =
    let more = replicate {A = ℕ} (end - length kept) 0 in
    let all : now ≡ kept ++ more = is ∙ ap (λ (xs : List ℕ). xs ++ more) (take_all end kept short) in
    let counted : length more ≡ end - length kept = length-replicate (end - length kept) 0 in
    let long : length now ≡ end = let both = length-append kept more in omega (arith, ap (λ (xs : List ℕ). length xs) all, both, counted, short) in
    ap (λ (k : ℕ). now ++ replicate (n - k) 0) long
    ∙ ap (λ (xs : List ℕ). xs ++ replicate (n - end) 0) all
    ∙ append_assoc kept more (replicate (n - end) 0)
    ∙ ap (λ (xs : List ℕ). kept ++ xs) (replicate-append-replicate (end - length kept) (n - end) 0)
    ∙ ap (λ (k : ℕ). kept ++ replicate k 0) (let k : (end - length kept) + (n - end) ≡ n - length kept = omega (arith, short, within) in k)

-- the readable contents: first the stored bytes, and then zeros
pub zeros-read : (n : ℕ) (kept : List ℕ) (at long from here : ℕ) → length kept ≤ n → at + long ≤ n → from ≡ min at (length kept) → here ≡ min long (length kept - from)
    → take here (drop from kept) ++ drop here (replicate long 0) ≡ take long (drop at (with_zeros n kept))
zeros-read n kept at long from here short within start count = elim (cases_lt (length kept) at) [
  | inl following ↦ (
      let z : from ≡ length kept = omega (arith, start, following) in
      let none : here ≡ 0 = omega (arith, count, z) in
      let m = at - length kept in
      let sum : at ≡ length kept + m = omega (arith, following) in
      let least : long ≤ (n - length kept) - m = omega (arith, following, within) in
      ap (λ (k : ℕ). take k (drop from kept) ++ drop k (replicate long 0)) none
      ∙ sym (take-replicate long ((n - length kept) - m) 0 least)
      ∙ ap (λ (xs : List ℕ). take long xs) (sym (drop-replicate m (n - length kept) 0) ∙ sym (drop-append-add kept (replicate (n - length kept) 0) m))
      ∙ ap (λ (k : ℕ). take long (drop k (with_zeros n kept))) (sym sum))
  | inr among ↦ (
      let z : from ≡ at = omega (arith, start, among) in
      let rest = replicate {A = ℕ} (n - length kept) 0 in
      let left : length (drop at kept) ≡ length kept - at = length-drop at kept in
      ap (λ (k : ℕ). take here (drop k kept) ++ drop here (replicate long 0)) z
      ∙ begins (drop at kept) (n - length kept) long here (omega (arith, left, within, among)) (omega (arith, count, z, left))
      ∙ ap (λ (xs : List ℕ). take long xs) (sym (drop-append-le at kept rest among)))
]
  where
    begins : (front : List ℕ) (more k h : ℕ) → k ≤ length front + more → h ≡ min k (length front) → take h front ++ drop h (replicate k 0) ≡ take k (front ++ replicate more 0)
    begins front more k h enough is = elim (cases_lt (length front) k) [
      | inl less ↦ (
          let all : h ≡ length front = omega (arith, is, less) in
          let sum : k ≡ length front + (k - length front) = omega (arith, less) in
          let fits : k - length front ≤ more = omega (arith, enough) in
          ap (λ (m : ℕ). take m front ++ drop m (replicate k 0)) all
          ∙ ap (λ (xs : List ℕ). xs ++ drop (length front) (replicate k 0)) (take_all (length front) front (omega arith))
          ∙ ap (λ (xs : List ℕ). front ++ xs) (drop-replicate (length front) k 0 ∙ sym (take-replicate (k - length front) more 0 fits))
          ∙ sym (take-append-add front (replicate more 0) (k - length front))
          ∙ ap (λ (m : ℕ). take m (front ++ replicate more 0)) (sym sum))
      | inr within ↦ (
          let all : h ≡ k = omega (arith, is, within) in
          let long : length {A = ℕ} (replicate k 0) ≡ k = length-replicate k 0 in
          ap (λ (m : ℕ). take m front ++ drop m (replicate k 0)) all
          ∙ ap (λ (xs : List ℕ). take k front ++ xs) (drop_all k (replicate k 0) (omega (arith, long)))
          ∙ append-nil (take k front)
          ∙ sym (take-append-le k front (replicate more 0) within))
    ]

-- where a growth that succeeds is enough
pub if_grown : {T E : Type 0} (P : Type 0) (result : Result T E) → is_err result ≡ false → OnOk result P → P
if_grown P (Ok t) is enough = enough
if_grown P (Err e) is enough = absurd (true≢false is)

-- what either outcome gives
pub either_way : {T E : Type 0} (P Q X : Type 0) (result : Result T E) → OnOk result P → OnErr result Q → (P → X) → (Q → X) → X
either_way P Q X (Ok value) ok err one other = one ok
either_way P Q X (Err fault) ok err one other = other err

-- n and m are the disk's length before and after
module _ (n m : ℕ) (calls more : List Call) (same : m ≡ n) where
  -- a write
  module _ (at : ℕ) (bytes : List ℕ) (is : more ≡ calls ++ Write at bytes ∷ []) (here : at + length bytes ≤ n) where
    pub write_in_range : AreCalls n calls → AreCalls m more
    write_in_range fit = subst (λ (k : ℕ). AreCalls k more) (sym same) (subst (λ (xs : List Call). AreCalls n xs) (sym is) (one_in_range n calls (Write at bytes) fit here))

    -- the readable contents before and after
    pub write_recorded : (file new : List ℕ) → file ≡ seen_after calls (replicate n 0) → new ≡ overlay file at bytes → new ≡ seen_after more (replicate m 0)
    write_recorded file new was wrote =
        wrote
        ∙ ap (λ (f : List ℕ). overlay f at bytes) was
        ∙ sym (seen_after-append calls (Write at bytes ∷ []) (replicate n 0))
        ∙ ap (λ (xs : List Call). seen_after xs (replicate n 0)) (sym is)
        ∙ ap (λ (k : ℕ). seen_after more (replicate k 0)) (sym same)

    -- the readable contents after it
    pub write_seen : seen_after more (replicate m 0) ≡ overlay (seen_after calls (replicate n 0)) at bytes
    write_seen =
        ap (λ (k : ℕ). seen_after more (replicate k 0)) same
        ∙ ap (λ (xs : List Call). seen_after xs (replicate n 0)) is
        ∙ seen_after-append calls (Write at bytes ∷ []) (replicate n 0)

    pub write_torn : (file : List ℕ) → length file ≡ n → file ≡ seen_after calls (replicate n 0) → Torn at (length bytes) (seen_after calls (replicate n 0)) (seen_after more (replicate m 0))
    write_torn file long was =
        let seen = ap (λ (f : List ℕ). length f) was in
        subst (λ (f : List ℕ). Torn at (length bytes) (seen_after calls (replicate n 0)) f) (sym write_seen)
        (overlay-beside (seen_after calls (replicate n 0)) at bytes (omega (arith, here, long, seen)))

    pub write_leaves : AreCalls n calls → Leaves (view_of (replicate n 0) calls) (view_of (replicate m 0) more) (Torn at (length bytes))
    write_leaves fit =
        let long : length {A = ℕ} (replicate n 0) ≡ n = length-replicate n 0 in
        subst (λ (k : ℕ). Leaves (view_of (replicate n 0) calls) (view_of (replicate k 0) more) (Torn at (length bytes))) (sym same)
        (subst (λ (xs : List Call). Leaves (view_of (replicate n 0) calls) (view_of (replicate n 0) xs) (Torn at (length bytes))) (sym is)
        (view-write (replicate n 0) calls (in_zeros n calls fit) at bytes (omega (arith, long, here))))

  -- a sync
  module _ (is : more ≡ calls ++ Sync ∷ []) where
    pub sync_in_range : AreCalls n calls → AreCalls m more
    sync_in_range fit = subst (λ (k : ℕ). AreCalls k more) (sym same) (subst (λ (xs : List Call). AreCalls n xs) (sym is) (one_in_range n calls Sync fit (omega arith)))

    pub sync_seen : seen_after more (replicate m 0) ≡ seen_after calls (replicate n 0)
    sync_seen =
        ap (λ (k : ℕ). seen_after more (replicate k 0)) same
        ∙ ap (λ (xs : List Call). seen_after xs (replicate n 0)) is
        ∙ seen_after-append calls (Sync ∷ []) (replicate n 0)

    pub sync_leaves : AreCalls n calls → Leaves (view_of (replicate n 0) calls) (view_of (replicate m 0) more) (λ before c. c ≡ before)
    sync_leaves fit =
        subst (λ (k : ℕ). Leaves (view_of (replicate n 0) calls) (view_of (replicate k 0) more) (λ before c. c ≡ before)) (sym same)
        (subst (λ (xs : List Call). Leaves (view_of (replicate n 0) calls) (view_of (replicate n 0) xs) (λ before c. c ≡ before)) (sym is)
        (view-sync (replicate n 0) calls (in_zeros n calls fit)))

    pub sync_settles : AreCalls n calls → IsSynced (view_of (replicate m 0) more)
    sync_settles fit =
        subst (λ (k : ℕ). IsSynced (view_of (replicate k 0) more)) (sym same)
        (subst (λ (xs : List Call). IsSynced (view_of (replicate n 0) xs)) (sym is)
        (record { honest = refl; only = view-is_synced (replicate n 0) calls (in_zeros n calls fit) }))

  -- a call that didn't happen
  module _ (is : more ≡ calls) where
    pub none_same : Same (view_of (replicate n 0) calls) (view_of (replicate m 0) more)
    none_same =
        subst (λ (k : ℕ). Same (view_of (replicate n 0) calls) (view_of (replicate k 0) more)) (sym same)
        (subst (λ (xs : List Call). Same (view_of (replicate n 0) calls) (view_of (replicate n 0) xs)) (sym is)
        (record { seen = refl; may_leave = λ c. ((λ h. h), (λ h. h)); moment = refl; left_since = λ t c. ((λ h. h), (λ h. h)) }))

    pub none_leaves : (step : List ℕ → List ℕ → Type 0) → ((c : List ℕ) → step c c) → Leaves (view_of (replicate n 0) calls) (view_of (replicate m 0) more) step
    none_leaves step stays =
        subst (λ (k : ℕ). Leaves (view_of (replicate n 0) calls) (view_of (replicate k 0) more) step) (sym same)
        (subst (λ (xs : List Call). Leaves (view_of (replicate n 0) calls) (view_of (replicate n 0) xs) step) (sym is) (record {
          time = record {
            later = omega arith;
            splits = λ t c before left. inl left;
            keeps = λ t c before either. ⊎_elim
                (λ was. was)
                (λ since. ⊎_elim (λ now. inl now) (λ later. inr (later.0, omega (arith, before, later.1), later.2, later.3)) since) either;
          };
          crash = λ c left. (c, ⊎_elim (λ now. now) (λ earlier. absurd (omega (arith, earlier.1, earlier.2))) left, stays c);
        }))
