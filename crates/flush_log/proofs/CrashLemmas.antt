-- What a crash leaves of a test disk: it is one of the possible outcomes, and follows from the bytes at the last sync.
use Rattle.std.proofs.Common.{◌≡◌, inr, ℕ, ◌+◌, ◌-◌, ◌<◌, ◌≤◌, List, [], ◌∷◌, ◌++◌, length, get_or, take, drop, replicate, refl, sym, ap, subst, ◌∙◌, arith, length-append, Result, Ok, Err, IsErr, IfOk, OnOk, OnErr}
use Rattle.std.proofs.lemmas.List.{length-map, length-replicate, take-append-drop, drop-append-le, drop_all, drop-map, take_rest, append-nil}
use Rattle.std.proofs.lemmas.Bool.{false≢true}
use Rattle.index_page.proofs.ListLemmas.{all_apart}
use Rattle.flush_log.specs.Overlay.{overlay, IsBeside, AgreeAt}
use Rattle.flush_log.specs.Disk.{Torn}
use Rattle.flush_log.specs.Commit.{Call, seen_after, MayLeave}
use Rattle.flush_log.specs.Commit.Call.{Write, Sync}
use Rattle.flush_log.specs.Record.{LeftNow, end_of_call, AreCalls, call_of, calls_of}
use Rattle.flush_log.specs.Crash.{torn_by, left_with, all_torn, IsSyncedAt}
use Rattle.flush_log.specs.declared.crash_disk.Fill.{Fill}
use Rattle.flush_log.specs.declared.crash_disk.Fill.TheVariants.{Before, Written, Byte}
use Rattle.flush_log.specs.declared.mem_disk.RecordedCall.{RecordedCall}
use Rattle.flush_log.proofs.ReachLemmas.{front_item}
use Rattle.flush_log.proofs.OverlayLemmas.{length-overlay, overlay-beside, agree_same}
use Rattle.flush_log.proofs.CallLemmas.{TornFrom}
use Rattle.flush_log.proofs.RecordLemmas.{either_way}

-- ---- one write

-- it is torn as a write may be
pub torn-beside : (fill : Fill) (at : ℕ) (bytes file : List ℕ) → at + length bytes ≤ length file → Torn at (length bytes) file (torn_by fill at bytes file)
torn-beside Before at bytes file fits = agree_same (IsBeside at (length bytes)) file
torn-beside Written at bytes file fits = overlay-beside file at bytes fits
torn-beside (Byte b) at bytes file fits =
    let long : length {A = ℕ} (replicate (length bytes) b) ≡ length bytes = length-replicate (length bytes) b in
    subst (λ (n : ℕ). AgreeAt (IsBeside at n) file (overlay file at (replicate (length bytes) b))) long
    (overlay-beside file at (replicate (length bytes) b) (omega (arith, long, fits)))

-- ---- the calls

-- the outcome is one that the calls may leave
pub left-may : (fill : Fill) (calls : List Call) (seen left : List ℕ) (might : List ℕ → Type 0) → AreCalls (length seen) calls → length left ≡ length seen → might left
    → MayLeave calls seen might (left_with fill calls seen left)
left-may fill [] seen left might fit same here = here
left-may fill (Write at bytes ∷ calls) seen left might fit same here =
    let long = length-overlay seen at bytes fit.0 in
    let torn = torn-beside fill at bytes left (omega (arith, same, fit.0)) in
    left-may fill calls (overlay seen at bytes) (torn_by fill at bytes left) (TornFrom might at bytes) (subst (λ (n : ℕ). AreCalls n calls) (sym long) fit.1) (torn.long ∙ same ∙ sym long) (left, here, torn)
left-may fill (Sync ∷ calls) seen left might fit same here = left-may fill calls seen seen (λ e. e ≡ seen) fit.1 refl refl

-- if everything was written, the readable contents are left
pub left-written : (calls : List Call) (seen : List ℕ) → left_with Written calls seen seen ≡ seen_after calls seen
left-written [] seen = refl
left-written (Write at bytes ∷ calls) seen = left-written calls (overlay seen at bytes)
left-written (Sync ∷ calls) seen = left-written calls seen

left-append : (fill : Fill) (xs ys : List Call) (seen left : List ℕ) → left_with fill (xs ++ ys) seen left ≡ left_with fill ys (seen_after xs seen) (left_with fill xs seen left)
left-append fill [] ys seen left = refl
left-append fill (Write at bytes ∷ xs) ys seen left = left-append fill xs ys (overlay seen at bytes) (torn_by fill at bytes left)
left-append fill (Sync ∷ xs) ys seen left = left-append fill xs ys seen seen

pub torn-append : (fill : Fill) (xs ys : List Call) (file : List ℕ) → all_torn fill (xs ++ ys) file ≡ all_torn fill ys (all_torn fill xs file)
torn-append fill [] ys file = refl
torn-append fill (Write at bytes ∷ xs) ys file = torn-append fill xs ys (torn_by fill at bytes file)
torn-append fill (Sync ∷ xs) ys file = torn-append fill xs ys file

-- what is in range is so from a place on
pub range-following : (n at : ℕ) (calls : List Call) → AreCalls n calls → AreCalls n (drop at calls)
range-following n at calls fit =
    (all_apart (λ call. end_of_call call ≤ n) (take at calls) (drop at calls) (subst (λ (xs : List Call). AreCalls n xs) (sym (take-append-drop at calls)) fit)).1

-- ---- calls as they are kept in memory

pub front_call : {A : Type 0} (cs : List (RecordedCall A)) (at : ℕ) (c : RecordedCall A) → at < length cs → c ≡ get_or cs at c → drop at (calls_of cs) ≡ call_of c ∷ drop (at + 1) (calls_of cs)
front_call cs at c l is =
    drop-map call_of at cs
    ∙ ap (λ xs. calls_of xs) (front_item cs at c l is)
    ∙ ap (λ (xs : List Call). call_of c ∷ xs) (sym (drop-map call_of (at + 1) cs))

-- those from a place on of a borrowed record
pub calls_after : {A : Type 0} (cs held : List (RecordedCall A)) (since : ℕ) → held ≡ cs → calls_of (take (length held - since) (drop since held)) ≡ drop since (calls_of cs)
calls_after cs held since is = ap (λ xs. calls_of xs) (take_rest held since) ∙ sym (drop-map call_of since held) ∙ ap (λ xs. drop since (calls_of xs)) is

-- a file in which the calls before this place are torn: the remaining ones lie within it, and have on it the outcome of all calls on the original
pub record IsTearing (fill : Fill) (calls : List Call) (start : List ℕ) (at : ℕ) (file : List ℕ) : Type 0 where
  pub fits : AreCalls (length file) (drop at calls)
  pub torn : all_torn fill (drop at calls) file ≡ all_torn fill calls start
  pub long : length file ≡ length start

pub tearing-starts : (fill : Fill) (calls : List Call) (file : List ℕ) → AreCalls (length file) calls → IsTearing fill calls file 0 file
tearing-starts fill calls file fit = record { fits = fit; torn = refl; long = refl }

module _ (fill : Fill) (calls : List Call) (start : List ℕ) (at : ℕ) (file : List ℕ) (tearing : IsTearing fill calls start at file) where
  -- with the next of them
  module _ (x : Call) (next : drop at calls ≡ x ∷ drop (at + 1) calls) where
    pub tearing-here : end_of_call x ≤ length file
    tearing-here = (subst (λ (xs : List Call). AreCalls (length file) xs) next tearing.fits).0

    pub tearing-next : (now : List ℕ) → now ≡ all_torn fill (x ∷ []) file → length now ≡ length file → IsTearing fill calls start (at + 1) now
    tearing-next now is long = record {
      fits = subst (λ (n : ℕ). AreCalls n (drop (at + 1) calls)) (sym long) (subst (λ (xs : List Call). AreCalls (length file) xs) next tearing.fits).1;
      torn =
          ap (λ (f : List ℕ). all_torn fill (drop (at + 1) calls) f) is
          ∙ sym (torn-append fill (x ∷ []) (drop (at + 1) calls) file)
          ∙ ap (λ (xs : List Call). all_torn fill xs file) (sym next)
          ∙ tearing.torn;
      long = long ∙ tearing.long;
    }

  pub tearing-ends : length calls ≤ at → file ≡ all_torn fill calls start
  tearing-ends all = sym (ap (λ (xs : List Call). all_torn fill xs file) (drop_all at calls all)) ∙ tearing.torn

-- ---- the bytes as of the last sync

-- the whole file was overwritten
pub over-all : (n : ℕ) (bytes : List ℕ) → length bytes ≡ n → overlay (replicate n 0) 0 bytes ≡ bytes
over-all n bytes all =
    let long : length {A = ℕ} (replicate n 0) ≡ n = length-replicate n 0 in
    ap (λ (rest : List ℕ). bytes ++ rest) (drop_all (0 + length bytes) (replicate n 0) (omega (arith, long, all))) ∙ append-nil bytes

pub is_synced-holding : (n since : ℕ) (bytes : List ℕ) (calls : List Call) → length bytes ≡ n → calls ≡ Write 0 bytes ∷ Sync ∷ [] → since ≡ length calls → IsSyncedAt (replicate n 0) calls since bytes
is_synced-holding n since bytes calls all is upto = record {
  within = omega (arith, upto);
  long = let long : length {A = ℕ} (replicate n 0) ≡ n = length-replicate n 0 in all ∙ sym long;
  left = λ fill.
      ap (λ (xs : List Call). left_with fill xs (replicate n 0) (replicate n 0)) is
      ∙ over-all n bytes all
      ∙ sym (ap (λ (xs : List Call). all_torn fill xs bytes) (drop_all since calls (omega (arith, upto))));
}

module _ {A : Type 0} (cs held : List (RecordedCall A)) (is : held ≡ cs) (n since : ℕ) (is_synced : List ℕ) where
  -- the writes since the last sync lie within them
  pub tear-fits : (bytes : List ℕ) → bytes ≡ is_synced → AreCalls n (calls_of cs) → length is_synced ≡ length {A = ℕ} (replicate n 0) → AreCalls (length bytes) (calls_of (take (length held - since) (drop since held)))
  tear-fits bytes copied fit long =
      let zeros : length {A = ℕ} (replicate n 0) ≡ n = length-replicate n 0 in
      subst (λ (xs : List Call). AreCalls (length bytes) xs) (sym (calls_after cs held since is))
      (range-following (length bytes) since (calls_of cs) (subst (λ (k : ℕ). AreCalls k (calls_of cs)) (sym (ap length copied ∙ long ∙ zeros)) fit))

  -- the place of the last sync lies within the record
  pub since-within : since ≤ length (calls_of cs) → since ≤ length held
  since-within within = let long = length-map cs call_of in let same = ap (λ xs. length xs) is in omega (arith, within, long, same)

  -- the outcome is these bytes with these writes torn
  pub tear-left : (fill : Fill) (bytes now : List ℕ) → bytes ≡ is_synced → IsSyncedAt (replicate n 0) (calls_of cs) since is_synced
      → now ≡ all_torn fill (calls_of (take (length held - since) (drop since held))) bytes → now ≡ left_with fill (calls_of cs) (replicate n 0) (replicate n 0)
  tear-left fill bytes now copied at torn =
      torn
      ∙ ap (λ (xs : List Call). all_torn fill xs bytes) (calls_after cs held since is)
      ∙ ap (λ (f : List ℕ). all_torn fill (drop since (calls_of cs)) f) copied
      ∙ sym (at.left fill)

-- one call more
module _ (file : List ℕ) (calls more : List Call) (since : ℕ) (is_synced : List ℕ) (was : IsSyncedAt file calls since is_synced) where
  following : (x : Call) → more ≡ calls ++ x ∷ [] → drop since more ≡ drop since calls ++ x ∷ []
  following x is = ap (λ (xs : List Call). drop since xs) is ∙ drop-append-le since calls (x ∷ []) was.within

  pub is_synced-write : (at : ℕ) (bytes : List ℕ) → more ≡ calls ++ Write at bytes ∷ [] → IsSyncedAt file more since is_synced
  is_synced-write at bytes is = record {
    within = let long = ap length is ∙ length-append calls (Write at bytes ∷ []) in omega (arith, long, was.within);
    long = was.long;
    left = λ fill.
        ap (λ (xs : List Call). left_with fill xs file file) is
        ∙ left-append fill calls (Write at bytes ∷ []) file file
        ∙ ap (λ (f : List ℕ). torn_by fill at bytes f) (was.left fill)
        ∙ sym (torn-append fill (drop since calls) (Write at bytes ∷ []) is_synced)
        ∙ ap (λ (xs : List Call). all_torn fill xs is_synced) (sym (following (Write at bytes) is));
  }

  pub is_synced-sync : (upto : ℕ) (now : List ℕ) → more ≡ calls ++ Sync ∷ [] → upto ≡ length more → now ≡ all_torn Written (drop since more) is_synced → length now ≡ length is_synced → IsSyncedAt file more upto now
  is_synced-sync upto now is all torn long = record {
    within = omega (arith, all);
    long = long ∙ was.long;
    left = λ fill.
        ap (λ (xs : List Call). left_with fill xs file file) is
        ∙ left-append fill calls (Sync ∷ []) file file
        ∙ sym (left-written calls file)
        ∙ was.left Written
        ∙ sym (torn-append Written (drop since calls) (Sync ∷ []) is_synced)
        ∙ ap (λ (xs : List Call). all_torn Written xs is_synced) (sym (following Sync is))
        ∙ sym torn
        ∙ sym (ap (λ (xs : List Call). all_torn fill xs now) (drop_all upto more (omega (arith, all))));
  }

-- it does so after one call more
pub since-following : (calls more : List Call) (x : Call) (since : ℕ) → more ≡ calls ++ x ∷ [] → since ≤ length calls → since ≤ length more
since-following calls more x since is within = let long = ap length is ∙ length-append calls (x ∷ []) in omega (arith, within, long)

-- a sync of a disk of n zeros: m is the disk's length after it, and its record is borrowed twice
pub is_synced-tear : {A : Type 0} (cs held counted : List (RecordedCall A)) (n m : ℕ) (calls : List Call) (since : ℕ) (is_synced now : List ℕ) → held ≡ cs → counted ≡ cs → m ≡ n
    → calls_of cs ≡ calls ++ Sync ∷ [] → IsSyncedAt (replicate n 0) calls since is_synced
    → now ≡ all_torn Written (calls_of (take (length held - since) (drop since held))) is_synced → length now ≡ length is_synced → IsSyncedAt (replicate m 0) (calls_of cs) (length counted) now
is_synced-tear cs held counted n m calls since is_synced now is again same more was torn long =
    subst (λ (k : ℕ). IsSyncedAt (replicate k 0) (calls_of cs) (length counted) now) (sym same)
    (is_synced-sync (replicate n 0) calls (calls_of cs) since is_synced was (length counted) now more
    (ap (λ xs. length xs) again ∙ sym (length-map cs call_of)) (torn ∙ ap (λ (xs : List Call). all_torn Written xs is_synced) (calls_after cs held since is)) long)

-- a write to a disk of n zeros, which succeeds or fails; m is the disk's length after it
pub is_synced-either : {T E : Type 0} (result : Result T E) (n m : ℕ) (calls more : List Call) (since : ℕ) (is_synced : List ℕ) (at : ℕ) (bytes : List ℕ) → m ≡ n
    → OnOk result (more ≡ calls ++ Write at bytes ∷ []) → OnErr result (more ≡ calls) → IsSyncedAt (replicate n 0) calls since is_synced → IsSyncedAt (replicate m 0) more since is_synced
is_synced-either result n m calls more since is_synced at bytes same done refused was =
    subst (λ (k : ℕ). IsSyncedAt (replicate k 0) more since is_synced) (sym same)
    (either_way (more ≡ calls ++ Write at bytes ∷ []) (more ≡ calls) (IsSyncedAt (replicate n 0) more since is_synced) result done refused
    (λ is. is_synced-write (replicate n 0) calls more since is_synced was at bytes is)
    (λ is. subst (λ (xs : List Call). IsSyncedAt (replicate n 0) xs since is_synced) (sym is) was))

-- a call of a disk of n zeros that was not recorded; m is the disk's length after it
pub is_synced-still : (n m : ℕ) (calls more : List Call) (since : ℕ) (is_synced : List ℕ) → m ≡ n → more ≡ calls → IsSyncedAt (replicate n 0) calls since is_synced → IsSyncedAt (replicate m 0) more since is_synced
is_synced-still n m calls more since is_synced same is was =
    subst (λ (k : ℕ). IsSyncedAt (replicate k 0) more since is_synced) (sym same)
    (subst (λ (xs : List Call). IsSyncedAt (replicate n 0) xs since is_synced) (sym is) was)

-- all that is kept of a disk, m of k bytes before and now, is still all of it
pub whole-still : (before now k m : ℕ) → m ≡ k → before ≡ k → before ≤ now → now ≤ m → now ≡ m
whole-still before now k m same was grew short = omega (arith, same, was, grew, short)

-- the outcome now, for a disk that began as n zeros
pub left-now : (fill : Fill) (n : ℕ) (calls : List Call) (c : List ℕ) → AreCalls n calls → c ≡ left_with fill calls (replicate n 0) (replicate n 0)
    → LeftNow (replicate n 0) calls c
left-now fill n calls c fit is =
    let long : length {A = ℕ} (replicate n 0) ≡ n = length-replicate n 0 in
    inr (subst (λ (f : List ℕ). MayLeave calls (replicate n 0) (λ d. d ≡ replicate n 0) f) (sym is)
    (left-may fill calls (replicate n 0) (replicate n 0) (λ d. d ≡ replicate n 0) (subst (λ (k : ℕ). AreCalls k calls) (sym long) fit) refl refl))

-- ---- a disk that is made of it

-- of a disk that was not made nothing is asked
pub not_made : {T E : Type 0} (result : Result T E) (P : T → Type 0) → IsErr result → IfOk result P
not_made (Ok t) P is = absurd (false≢true is)
not_made (Err e) P is = tt

pub seen_as : {T E X : Type 0} (result : Result T E) (seen : T → X) (a b : X) → a ≡ b → IfOk result (λ t. seen t ≡ a) → IfOk result (λ t. seen t ≡ b)
seen_as (Ok t) seen a b is h = h ∙ is
seen_as (Err e) seen a b is h = h

pub seen_has : {T E : Type 0} (result : Result T E) (seen : T → List ℕ) (a : List ℕ) (P : List ℕ → Type 0) → P a → IfOk result (λ t. seen t ≡ a) → IfOk result (λ t. P (seen t))
seen_has (Ok t) seen a P has h = subst P (sym h) has
seen_has (Err e) seen a P has h = h
