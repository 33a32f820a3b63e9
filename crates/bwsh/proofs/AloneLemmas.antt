-- Lemmas on orders that leave a store as it is.
use Rattle.std.proofs.Common.{◌≡◌, inl, inr, List, [], ◌++◌, Option, Some, None, Result, Ok, Err, refl, sym, ap, ◌∙◌, subst}
use Rattle.std.specs.Prelude.{Bool, ⊤}
use Rattle.std.specs.Option.{option_or}
use Rattle.std.specs.Io.KnownBytes.{Appends}
use Rattle.std.proofs.KnownBytes.{Appends-trans}
use Rattle.keys.specs.Bytes.{Bytes, Pairs}
use Rattle.keys.specs.Lists.{flat}
use Rattle.keys.specs.declared.fault.Fault.{Fault}
use Rattle.keys.specs.declared.fault.Fault.TheVariants.{NoMemory}
use Rattle.keys.specs.declared.settings.Settings.{Settings}
use Rattle.mapping.specs.Levels.{contents}
use Rattle.mapping.specs.Tree.{Store}
use Rattle.bwsh.specs.declared.options.asked.Mode.{Mode}
use Rattle.bwsh.specs.declared.order.Order.{Order}
use Rattle.bwsh.specs.declared.order.Order.TheVariants.{Back, BadLine, Batch, Clean, Copy, Flush, Help, Lost, Numbers, Prefix, Stat, Tidy, Upgrade, Verify}
use Rattle.bwsh.specs.declared.session.SessionError.{SessionError}
use Rattle.bwsh.specs.declared.session.SessionError.TheVariants.{Device}
use Rattle.bwsh.specs.declared.session.SessionError.TheVariants as errors
use Rattle.bwsh.specs.Output.{BeginsWith, Writes}
use Rattle.bwsh.specs.Session.{CanBeDone, LeavesStored, MayFail, RunsAlone, RunsOrder, Seen, Stored, after_order, left_unless, map_after, map_unless, own_lines, refusal_of}
use Rattle.bwsh.proofs.Prints.{flat-append, front-longer, front-more}
use Rattle.bwsh.proofs.RunLemmas.{PrintsOwn-writes, bare_printed, cut_off, failing, none_in_front, refused, seen_failing, seen_untidied, untidied_before}

-- the order leaves a store as it is, and is refused by no store
abbrev pub IsStill : Order → Type 0
IsStill (Batch commands) = ⊥
IsStill Lost = ⊥
IsStill Flush = ⊥
IsStill Clean = ⊥
IsStill Upgrade = ⊥
IsStill (Tidy most) = ⊥
IsStill _ = ⊤

-- it is no flush
not_flush : (order : Order) → IsStill order → order ≡ Flush → ⊥
not_flush order still is = subst IsStill is still

pub left_same : (fails : Option Fault) (at : Stored) → left_unless fails at at ≡ at
left_same None at = refl
left_same (Some fault) at = refl

pub refused_same : (fails : Option Fault) → option_or fails None ≡ fails
refused_same None = refl
refused_same (Some fault) = refl

pub map_same : (fails : Option Fault) (m : Pairs Bytes) (order : Order) → map_after m order ≡ m → m ≡ map_unless fails m order
map_same None m order same = sym same
map_same (Some fault) m order same = refl

module _ (settings : Settings) (st : Store) (fails : Option Fault) (file : Bytes) where
  still_after : (order : Order) → IsStill order → after_order settings st (failing fails file) order ≡ (st, file)
  unfolding after_order
  still_after (Batch cs) still = absurd still
  still_after (BadLine line why) still = left_same fails (st, file)
  still_after Lost still = absurd still
  still_after Flush still = absurd still
  still_after Clean still = absurd still
  still_after Upgrade still = absurd still
  still_after Verify still = left_same fails (st, file)
  still_after Numbers still = left_same fails (st, file)
  still_after Stat still = left_same fails (st, file)
  still_after (Copy path segments) still = left_same fails (st, file)
  still_after (Tidy most) still = absurd still
  still_after (Back lo hi limit) still = left_same fails (st, file)
  still_after (Prefix bytes limit) still = left_same fails (st, file)
  still_after Help still = left_same fails (st, file)

  still_refusal : (order : Order) → IsStill order → refusal_of settings st (failing fails file) order ≡ fails
  unfolding refusal_of
  still_refusal (Batch cs) still = absurd still
  still_refusal (BadLine line why) still = refused_same fails
  still_refusal Lost still = absurd still
  still_refusal Flush still = absurd still
  still_refusal Clean still = absurd still
  still_refusal Upgrade still = absurd still
  still_refusal Verify still = refused_same fails
  still_refusal Numbers still = refused_same fails
  still_refusal Stat still = refused_same fails
  still_refusal (Copy path segments) still = refused_same fails
  still_refusal (Tidy most) still = absurd still
  still_refusal (Back lo hi limit) still = refused_same fails
  still_refusal (Prefix bytes limit) still = refused_same fails
  still_refusal Help still = refused_same fails

map_still : (m : Pairs Bytes) (order : Order) → IsStill order → map_after m order ≡ m
map_still m (Batch cs) still = absurd still
map_still m (BadLine line why) still = refl
map_still m Lost still = refl
map_still m Flush still = refl
map_still m Clean still = refl
map_still m Upgrade still = refl
map_still m Verify still = refl
map_still m Numbers still = refl
map_still m Stat still = refl
map_still m (Copy path segments) still = refl
map_still m (Tidy most) still = refl
map_still m (Back lo hi limit) still = refl
map_still m (Prefix bytes limit) still = refl
map_still m Help still = refl

-- an order without cleans in front of it that isn't refused, and whose lines are written
pub RunsAlone-done : (on : Bool) (settings : Settings) (st : Store) (seen : Seen) (order : Order) (old new : Option Bytes) (end : Result (Unit {0}) SessionError) → seen.rows ≡ []
    → refusal_of settings st seen order ≡ None → Writes old new (own_lines settings st seen (contents st.tree) order) end → RunsAlone on settings st seen order old new end
RunsAlone-done on settings st seen order old new end bare none written =
    bare_printed settings st seen order on old new (none_in_front st seen order bare) end none (PrintsOwn-writes on old new (own_lines settings st seen (contents st.tree) order) end written)

-- one that is refused, with nothing written
pub RunsAlone-refused : (on : Bool) (settings : Settings) (st : Store) (seen : Seen) (order : Order) (old : Option Bytes) (fault : Fault) → seen.rows ≡ []
    → refusal_of settings st seen order ≡ Some fault → RunsAlone on settings st seen order old old (Err (errors.Fault fault))
RunsAlone-refused on settings st seen order old fault bare some = refused settings st seen order on old old (none_in_front st seen order bare) fault refl some

module _ (mode : Mode) (honest : Bool) (settings : Settings) (st : Store) (left : Bytes) (order : Order) where
  module _ (still : IsStill order) where
    leaves_still : (fails : Option Fault) → LeavesStored honest settings st (failing fails left) order st left
    leaves_still fails = record {
      store = ap (λ (at : Stored). at.0) (sym (still_after settings st fails left order still));
      bytes = λ h. ap (λ (at : Stored). at.1) (sym (still_after settings st fails left order still));
      holds = map_same fails (contents st.tree) order (map_still (contents st.tree) order still)
          ∙ ap (λ (r : Option Fault). map_unless r (contents st.tree) order) (sym (still_refusal settings st fails left order still));
    }

    -- it is done, and its lines are written
    pub RunsOrder-still : CanBeDone settings (st, left) order → (old new : Option Bytes) (end : Result (Unit {0}) SessionError) → Writes old new (own_lines settings st (failing None left) (contents st.tree) order) end
        → RunsOrder mode honest settings st left order old new end st left
    RunsOrder-still can old new end written = (
      failing None left,
      seen_untidied mode honest settings st left order (λ is. absurd (not_flush order still is)) can,
      RunsAlone-done mode.stream settings st (failing None left) order old new end refl (still_refusal settings st None left order still) written,
      λ other. leaves_still None,
    )

    -- it fails, and nothing is written
    pub RunsOrder-unstill : (old : Option Bytes) (fault : Fault) → MayFail mode.clean_when_full settings (st, left) order fault
        → RunsOrder mode honest settings st left order old old (Err (errors.Fault fault)) st left
    RunsOrder-unstill old fault may = (
      failing (Some fault) left,
      seen_failing mode honest settings st left left order fault (λ is. absurd (not_flush order still is))
          (subst (λ (at : Stored). MayFail mode.clean_when_full settings at order fault) (sym (untidied_before order settings (Some fault) left st)) may) (λ h. refl),
      RunsAlone-refused mode.stream settings st (failing (Some fault) left) order old fault refl (still_refusal settings st (Some fault) left order still),
      λ other. leaves_still (Some fault),
    )

    -- a device fails, and nothing is written
    pub RunsOrder-cut : (old : Option Bytes) (fault : Fault) → MayFail mode.clean_when_full settings (st, left) order fault → RunsOrder mode honest settings st left order old old (Err Device) st left
    RunsOrder-cut old fault may = (
      failing (Some fault) left,
      seen_failing mode honest settings st left left order fault (λ is. absurd (not_flush order still is))
          (subst (λ (at : Stored). MayFail mode.clean_when_full settings at order fault) (sym (untidied_before order settings (Some fault) left st)) may) (λ h. refl),
      cut_off settings st (failing (Some fault) left) order mode.stream old old refl,
      λ other. absurd (other refl),
    )

-- a batch that lost a line is refused
pub RunsOrder-lost : (mode : Mode) (honest : Bool) (settings : Settings) (st : Store) (left : Bytes) (old : Option Bytes)
    → RunsOrder mode honest settings st left Lost old old (Err (errors.Fault NoMemory)) st left
unfolding after_order refusal_of
RunsOrder-lost mode honest settings st left old = (
  failing None left,
  seen_untidied mode honest settings st left Lost (λ is. absurd (cc)) tt,
  RunsAlone-refused mode.stream settings st (failing None left) Lost old NoMemory refl refl,
  λ other. record { store = refl; bytes = λ h. refl; holds = refl },
)

-- lines that are written one after the other
pub Writes-both : (old mid new : Option Bytes) (first lines : List Bytes) (done : Unit {0}) (end : Result (Unit {0}) SessionError) → Writes old mid first (Ok done) → Writes mid new lines end
    → Writes old new (first ++ lines) end
Writes-both old mid new first lines done end (inr (e, p)) q = absurd (cc)
Writes-both old mid new first lines done end (inl (e, a)) (inl (ok, b)) =
    inl (ok, subst (Appends old new) (sym (flat-append first lines)) (Appends-trans old mid new (flat first) (flat lines) a b))
Writes-both old mid new first lines done end (inl (e, a)) (inr (err, (front, begins, b))) =
    inr (
      err,
      (
        flat first ++ front,
        subst (λ (bytes : Bytes). BeginsWith bytes (flat first ++ front)) (sym (flat-append first lines)) (front-more (flat first) (flat lines) front begins),
        Appends-trans old mid new (flat first) front a b,
      ),
    )

pub Writes-early : (old new : Option Bytes) (first lines : List Bytes) (early : SessionError) → Writes old new first (Err early) → Writes old new (first ++ lines) (Err early)
Writes-early old new first lines early (inl (e, a)) = absurd (cc)
Writes-early old new first lines early (inr (e, (front, begins, a))) =
    inr (e, (front, subst (λ (bytes : Bytes). BeginsWith bytes front) (sym (flat-append first lines)) (front-longer (flat first) (flat lines) front begins), a))
