-- Lemmas on the output of one order, alone and before others.
use Rattle.std.proofs.Common.{◌≡◌, inl, inr, List, [], ◌∷◌, ◌++◌, Option, Some, None, Result, Ok, Err, refl, sym, ap, ◌∙◌, subst, append_assoc, append-nil}
use Rattle.std.specs.Prelude.{Bool, true, false, OnOk}
use Rattle.std.specs.Option.{option_map, option_or}
use Rattle.std.specs.Io.KnownBytes.{Appends}
use Rattle.std.proofs.KnownBytes.{Appends-trans}
use Rattle.keys.specs.Bytes.{Bytes, Pairs}
use Rattle.keys.specs.Lists.{flat}
use Rattle.keys.specs.declared.fault.Fault.{Fault}
use Rattle.keys.specs.declared.settings.Settings.{Settings}
use Rattle.mapping.specs.Levels.{contents}
use Rattle.mapping.specs.Tree.{Store}
use Rattle.bwsh.specs.declared.order.Order.{Order}
use Rattle.bwsh.specs.declared.order.Order.TheVariants.{Back, BadLine, Batch, Clean, Copy, Flush, Help, Lost, Numbers, Prefix, Stat, Tidy, Upgrade, Verify}
use Rattle.bwsh.specs.declared.session.SessionError.{SessionError}
use Rattle.bwsh.specs.declared.session.SessionError.TheVariants.{Device}
use Rattle.bwsh.specs.declared.session.SessionError.TheVariants as errors
use Rattle.bwsh.specs.Output.{BeginsWith}
use Rattle.bwsh.specs.Session.{LeavesMap, Prints, PrintsOwn, Reads, Runs, RunsAfter, RunsAlone, Seen, Stored, after_order, answer_then, answered, device_line, fault_line, first_refusal, front_lines, left_by_step, left_unless, map_kept, map_unless, orders_end, own_lines, own_refusal, refusal_of, step_in, stopped_by, readied}
use Rattle.bwsh.proofs.Prints.{flat-append, front-longer, front-more}
use Rattle.bwsh.proofs.RunLemmas.{first_shown}

-- the end of an order that is refused with this fault, or is not refused
abbrev pub ended_by : Option Fault → Result (Unit {0}) SessionError
ended_by refused = stopped_by (option_map (λ fault. errors.Fault fault) refused)

-- lines with none after them
nothing_after : (front own : List Bytes) → front ++ own ++ [] ≡ front ++ own
nothing_after front own = append-nil (front ++ own)

-- a prefix of some lines is a prefix of more lines
flat_longer : (lines more : List Bytes) (front : Bytes) → BeginsWith (flat lines) front → BeginsWith (flat (lines ++ more)) front
flat_longer lines more front begins = subst (λ (xs : Bytes). BeginsWith xs front) (sym (flat-append lines more)) (front-longer (flat lines) (flat more) front begins)

-- lines that were printed, and then others
module _ (old mid new : Option Bytes) (first : List Bytes) (printed : Appends old mid (flat first)) where
  after_first : (lines : List Bytes) → Appends mid new (flat lines) → Appends old new (flat (first ++ lines))
  after_first lines a = subst (Appends old new) (sym (flat-append first lines)) (Appends-trans old mid new (flat first) (flat lines) printed a)

  pub Prints-then : (on : Bool) (lines : List Bytes) (right end : Result (Unit {0}) SessionError) → Prints on mid new lines right end → Prints on old new (first ++ lines) right end
  Prints-then on lines right end (inl (e, a)) = inl (e, after_first lines a)
  Prints-then on lines right end (inr (inl (off, e, (front, begins, a)))) = inr (inl (off, e, (first ++ front, front-more first lines front begins, after_first front a)))
  Prints-then on lines right end (inr (inr (e, (front, last, begins, ends, a)))) =
      let more : Appends old new (flat first ++ (front ++ last)) = Appends-trans old mid new (flat first) (front ++ last) printed a in
      inr (inr (
        e,
        (
          flat first ++ front,
          last,
          subst (λ (bytes : Bytes). BeginsWith bytes (flat first ++ front)) (sym (flat-append first lines)) (front-more (flat first) (flat lines) front begins),
          ends,
          subst (Appends old new) (sym (append_assoc (flat first) front last)) more,
        ),
      ))

module _ (old new : Option Bytes) where
  -- an order ends its session
  own_stops : (front own further : List Bytes) (told : Bytes) (r later : Option Fault) (early : SessionError) → PrintsOwn false old new (answer_then false r told front own []) (ended_by r) (Err early)
      → Prints false old new (answer_then false r told front own further) (ended_by (option_or r later)) (Err early)
  own_stops front own further told None later early (inl (e, a)) = absurd (cc)
  own_stops front own further told None later early (inr (inl (off, e, (begun, begins, a)))) =
      inr (inl (
        off,
        e,
        (
          begun,
          front-longer (front ++ own) further begun (subst (λ (l : List Bytes). BeginsWith l begun) (nothing_after front own) begins),
          a,
        ),
      ))
  own_stops front own further told None later early (inr (inr (e, (begun, begins, a)))) =
      inr (inr (
        e,
        (
          begun,
          [],
          flat_longer (front ++ own) further begun (subst (λ (l : List Bytes). BeginsWith (flat l) begun) (nothing_after front own) begins),
          ([], refl),
          subst (Appends old new) (sym (append-nil begun)) a,
        ),
      ))
  own_stops front own further told (Some fault) later early (inl p) = inl p
  own_stops front own further told (Some fault) later early (inr (inl p)) = inr (inl p)
  own_stops front own further told (Some fault) later early (inr (inr (e, (begun, begins, a)))) =
      inr (inr (e, (begun, [], begins, ([], refl), subst (Appends old new) (sym (append-nil begun)) a)))

  -- a device ends a stream, and then its line is begun
  own_cut : (front own further : List Bytes) (told : Bytes) (r : Option Fault) (last : Bytes) (printed : Option Bytes) → BeginsWith (device_line true) last → Appends new printed last
      → PrintsOwn true old new (answer_then false r told front own []) (ended_by r) (Err Device) → Prints true old printed (answer_then true r told front own further) (Ok tt) (Err Device)
  own_cut front own further told None last printed ends b (inl (e, a)) = absurd (cc)
  own_cut front own further told None last printed ends b (inr (inl (off, e, p))) = absurd (cc)
  own_cut front own further told None last printed ends b (inr (inr (e, (begun, begins, a)))) =
      inr (inr (
        refl,
        (
          begun,
          last,
          flat_longer (front ++ own) further begun (subst (λ (l : List Bytes). BeginsWith (flat l) begun) (nothing_after front own) begins),
          ends,
          Appends-trans old new printed begun last a b,
        ),
      ))
  own_cut front own further told (Some fault) last printed ends b (inl (e, a)) = absurd (cc)
  own_cut front own further told (Some fault) last printed ends b (inr (inl (off, e, p))) = absurd (cc)
  own_cut front own further told (Some fault) last printed ends b (inr (inr (e, (begun, begins, a)))) =
      inr (inr (refl, (begun, last, flat_longer front (fault_line told ∷ further) begun begins, ends, Appends-trans old new printed begun last a b)))

  -- an order of a stream is refused, and then the fault is reported: the lines of the cleans before it were printed
  own_told : (front was_own own further : List Bytes) (was told : Bytes) (r : Option Fault) (fault : Fault) (last : Option Bytes) (end : Result (Unit {0}) SessionError)
      → PrintsOwn true old new (answer_then false r was front was_own []) (ended_by r) (Err (errors.Fault fault)) → Prints true new last (fault_line told ∷ further) (Ok tt) end
      → Prints true old last (answer_then true r told front own further) (Ok tt) end
  own_told front was_own own further was told None fault last end (inl (e, a)) q = absurd (cc)
  own_told front was_own own further was told None fault last end (inr (inl (off, e, p))) q = absurd (cc)
  own_told front was_own own further was told None fault last end (inr (inr (e, p))) q = absurd (cc)
  own_told front was_own own further was told (Some why) fault last end (inl (e, a)) q = Prints-then old new last front a true (fault_line told ∷ further) (Ok tt) end q
  own_told front was_own own further was told (Some why) fault last end (inr (inl (off, e, p))) q = absurd (cc)
  own_told front was_own own further was told (Some why) fault last end (inr (inr (e, p))) q = absurd (cc)

  -- an order is done
  pub own_unrefused : (on : Bool) (lines : List Bytes) (r : Option Fault) (done : Unit {0}) → PrintsOwn on old new lines (ended_by r) (Ok done) → r ≡ None
  own_unrefused on lines None done p = refl
  own_unrefused on lines (Some fault) done (inl (e, a)) = absurd (cc)
  own_unrefused on lines (Some fault) done (inr (inl (off, e, p))) = absurd (cc)
  own_unrefused on lines (Some fault) done (inr (inr (e, p))) = absurd (cc)

  own_all : (on : Bool) (lines : List Bytes) (right : Result (Unit {0}) SessionError) (done : Unit {0}) → PrintsOwn on old new lines right (Ok done) → Appends old new (flat lines)
  own_all on lines right done (inl (e, a)) = a
  own_all on lines right done (inr (inl (off, e, p))) = absurd (cc)
  own_all on lines right done (inr (inr (e, p))) = absurd (cc)

  own_done : (on : Bool) (front own further : List Bytes) (told : Bytes) (r : Option Fault) (done : Unit {0}) (last : Option Bytes) (right end : Result (Unit {0}) SessionError)
      → PrintsOwn on old new (answer_then false r told front own []) (ended_by r) (Ok done) → Prints on new last further right end → Prints on old last (answer_then on r told front own further) right end
  own_done on front own further told None done last right end p q =
      Prints-then old new last (front ++ own) (subst (λ (l : List Bytes). Appends old new (flat l)) (nothing_after front own) (own_all on (front ++ own ++ []) (Ok tt) done p)) on further right end q
  own_done on front own further told (Some fault) done last right end (inl (e, a)) q = absurd (cc)
  own_done on front own further told (Some fault) done last right end (inr (inl (off, e, p))) q = absurd (cc)
  own_done on front own further told (Some fault) done last right end (inr (inr (e, p))) q = absurd (cc)

  -- an order of a stream has no other end
  own_never : (lines : List Bytes) (r : Option Fault) (early : SessionError) → (early ≡ Device → ⊥) → ((fault : Fault) → early ≡ errors.Fault fault → ⊥)
      → PrintsOwn true old new lines (ended_by r) (Err early) → ⊥
  own_never lines None early other none (inl (e, a)) = absurd (cc)
  own_never lines (Some fault) early other none (inl (e, a)) = none fault (cc)
  own_never lines r early other none (inr (inl (off, e, p))) = absurd (cc)
  own_never lines r early other none (inr (inr (e, p))) = other (cc)

-- ---- the report of a refusal

abbrev pub with_told : Bytes → Seen → Seen
with_told text seen = record seen { told = text }

-- the report changes nothing else
pub told_before : (text : Bytes) (order : Order) (settings : Settings) (seen : Seen) (at : Stored) → readied order settings (with_told text seen) at ≡ readied order settings seen at
told_before text (Batch cs) settings seen at = refl
told_before text (BadLine line why) settings seen at = refl
told_before text Lost settings seen at = refl
told_before text Flush settings seen at = refl
told_before text Clean settings seen at = refl
told_before text Upgrade settings seen at = refl
told_before text Verify settings seen at = refl
told_before text Numbers settings seen at = refl
told_before text Stat settings seen at = refl
told_before text (Copy path segments) settings seen at = refl
told_before text (Tidy most) settings seen at = refl
told_before text (Back lo hi limit) settings seen at = refl
told_before text (Prefix bytes limit) settings seen at = refl
told_before text Help settings seen at = refl

-- nor does it change the lines of the cleans
front_told : (text : Bytes) (st : Store) (seen : Seen) (order : Order) → front_lines st (with_told text seen) order ≡ front_lines st seen order
front_told text st seen Flush = refl
front_told text st seen _ = refl

pub after_told : (text : Bytes) (settings : Settings) (st : Store) (seen : Seen) (order : Order) → after_order settings st (with_told text seen) order ≡ after_order settings st seen order
unfolding after_order
after_told text settings st seen order =
    ap (λ (at : Stored). left_unless seen.fails at (left_by_step settings at (step_in order))) (told_before text order settings seen (st, seen.bytes))

pub refusal_told : (text : Bytes) (settings : Settings) (st : Store) (seen : Seen) (order : Order) → refusal_of settings st (with_told text seen) order ≡ refusal_of settings st seen order
unfolding refusal_of
refusal_told text settings st seen order = ap (λ (at : Stored). option_or seen.fails (own_refusal settings at order)) (told_before text order settings seen (st, seen.bytes))

-- ---- an order before others

module _ (settings : Settings) (st : Store) (seen : Seen) (order : Order) (old new : Option Bytes) (rest : List Order) (shown : Reads) where
  abbrev left : Stored
  left = after_order settings st seen order

  abbrev own : List Bytes
  own = own_lines settings st seen (contents st.tree) order

  -- the lines of the cleans before it
  abbrev front : List Bytes
  front = front_lines st seen order

  -- why it is refused, if it is, and the answers to the others
  abbrev why : Option Fault
  why = refusal_of settings st seen order

  abbrev further : Bool → List Bytes
  further on = answered on settings left.0 shown (map_unless why (contents st.tree) order) rest

  -- it ends its session
  pub Runs-stops : (on : Bool) → on ≡ false → (early : SessionError) → RunsAlone on settings st seen order old new (Err early)
      → Runs on on settings st (first_shown seen shown) (order ∷ rest) old new (Err early)
  unfolding Runs RunsAlone
  Runs-stops true off early p = absurd (cc)
  Runs-stops false off early p = own_stops old new front own (further false) seen.told why (first_refusal settings left.0 shown rest) early p

  -- a device ends a stream, and then its line is begun
  pub Runs-device : (on : Bool) → on ≡ true → (last : Bytes) (printed : Option Bytes) → BeginsWith (device_line true) last → Appends new printed last
      → RunsAlone on settings st seen order old new (Err Device) → Runs on on settings st (first_shown seen shown) (order ∷ rest) old printed (Err Device)
  unfolding Runs RunsAlone
  Runs-device false off last printed ends a p = absurd (cc)
  Runs-device true is last printed ends a p = own_cut old new front own (further true) seen.told why last printed ends a p

  -- an order of a stream has no other end
  pub Runs-never : (on : Bool) → on ≡ true → (early : SessionError) → (early ≡ Device → ⊥) → ((fault : Fault) → early ≡ errors.Fault fault → ⊥)
      → RunsAlone on settings st seen order old new (Err early) → ⊥
  unfolding RunsAlone
  Runs-never false off early other none p = absurd (cc)
  Runs-never true is early other none p = own_never old new _ why early other none p

  -- this is the store after it, whether it is refused or not
  module _ (now : Store) (now_is : now ≡ left.0) (holds : contents now.tree ≡ map_unless why (contents st.tree) order) (last : Option Bytes) (end : Result (Unit {0}) SessionError) where
    -- the output of the others on that store
    abbrev printing : Bool → Store → Pairs Bytes → List Bytes
    printing on at m = answered on settings at shown m rest

    -- the result of orders on that store
    pub LeavesMap-then : (held : Pairs Bytes) → LeavesMap settings now shown rest end held → LeavesMap settings st (first_shown seen shown) (order ∷ rest) end held
    LeavesMap-then held p =
        subst (λ (s : Store). OnOk end (held ≡ map_kept settings s shown (map_unless why (contents st.tree) order) rest)) now_is
        (subst (λ (m : Pairs Bytes). OnOk end (held ≡ map_kept settings now shown m rest)) holds p)

    -- it is done: the output of the others follows
    then_on : (on : Bool) → Prints on new last (printing on now (contents now.tree)) (orders_end on settings now shown rest) end
        → Prints on new last (further on) (orders_end on settings left.0 shown rest) end
    then_on on q =
        subst (λ (s : Store). Prints on new last (printing on s (map_unless why (contents st.tree) order)) (orders_end on settings s shown rest) end) now_is
        (subst (λ (m : Pairs Bytes). Prints on new last (printing on now m) (orders_end on settings now shown rest) end) holds q)

    pub Runs-then : (on : Bool) (done : Unit {0}) → RunsAlone on settings st seen order old new (Ok done) → Runs on on settings now shown rest new last end
        → Runs on on settings st (first_shown seen shown) (order ∷ rest) old last end
    unfolding Runs RunsAlone
    Runs-then true done p q = own_done old new true front own (further true) seen.told why done last (Ok tt) end p (then_on true q)
    Runs-then false done p q =
        let none : why ≡ None = own_unrefused old new false _ why done p in
        let ends : orders_end false settings left.0 shown rest ≡ orders_end false settings st (first_shown seen shown) (order ∷ rest) =
        ap (λ (r : Option Fault). ended_by (option_or r (first_refusal settings left.0 shown rest))) (sym none) in
        own_done old new false front own (further false) seen.told why done last (orders_end false settings st (first_shown seen shown) (order ∷ rest)) end p
        (subst (λ (right : Result (Unit {0}) SessionError). Prints false new last (further false) right end) ends (then_on false q))

-- an order of a stream is refused, and this fault is reported: the output of the others follows the line of its fault
module _ (settings : Settings) (st : Store) (seen : Seen) (order : Order) (old new : Option Bytes) (rest : List Order) (shown : Reads) (told : Bytes) (now : Store)
    (now_is : now ≡ (after_order settings st seen order).0) (holds : contents now.tree ≡ map_unless (refusal_of settings st seen order) (contents st.tree) order)
    (last : Option Bytes) (end : Result (Unit {0}) SessionError) where
  abbrev seen_told : Seen
  seen_told = with_told told seen

  abbrev why_told : Option Fault
  why_told = refusal_of settings st seen_told order

  is_told : now ≡ (after_order settings st seen_told order).0
  is_told = now_is ∙ ap (λ (at : Stored). at.0) (sym (after_told told settings st seen order))

  holds_told : contents now.tree ≡ map_unless why_told (contents st.tree) order
  holds_told = holds ∙ ap (λ (r : Option Fault). map_unless r (contents st.tree) order) (sym (refusal_told told settings st seen order))

  alone_told : (fault : Fault) → RunsAlone true settings st seen order old new (Err (errors.Fault fault))
      → PrintsOwn true old new (answer_then false why_told seen.told (front_lines st seen_told order) (own_lines settings st seen (contents st.tree) order) []) (ended_by why_told) (Err (errors.Fault fault))
  unfolding RunsAlone
  alone_told fault p =
      subst (λ (l : List Bytes). PrintsOwn true old new (answer_then false why_told seen.told l (own_lines settings st seen (contents st.tree) order) []) (ended_by why_told) (Err (errors.Fault fault)))
      (sym (front_told told st seen order))
      (subst (λ (r : Option Fault). PrintsOwn true old new (answer_then false r seen.told (front_lines st seen order) (own_lines settings st seen (contents st.tree) order) []) (ended_by r) (Err (errors.Fault fault)))
      (sym (refusal_told told settings st seen order)) p)

  pub Runs-told : (on : Bool) → on ≡ true → (fault : Fault) → RunsAlone on settings st seen order old new (Err (errors.Fault fault)) → RunsAfter told on settings now shown rest new last end
      → Runs on on settings st (first_shown seen_told shown) (order ∷ rest) old last end
  unfolding Runs RunsAfter
  Runs-told false is fault p q = absurd (cc)
  Runs-told true is fault p q =
      let line = fault_line told in
      let printed = subst (λ (s : Store). Prints true new last (line ∷ answered true settings s shown (map_unless why_told (contents st.tree) order) rest) (Ok tt) end) is_told
      (subst (λ (m : Pairs Bytes). Prints true new last (line ∷ answered true settings now shown m rest) (Ok tt) end) holds_told q) in
      own_told old new _ _ _ _ seen.told told why_told fault last end (alone_told fault p) printed
