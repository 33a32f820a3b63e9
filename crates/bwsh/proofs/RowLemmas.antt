-- Rows of cleans before a flush: the store that they lead to, what they are on an honest disk, and what they are if less is known to be honest.
use Rattle.std.proofs.Common.{◌≡◌, ◌⊎◌, ◌<◌, ◌≤◌, ◌+◌, ◌-◌, inl, inr, ⊎_elim, ℕ, zero, suc, Bool, true, false, List, [], ◌∷◌, length, length-append, Option, Some, None, Result, Ok, Err, refl, sym, ap, ◌∙◌, subst, arith}
use Rattle.std.specs.Prelude.{IsTrue, min}
use Rattle.std.specs.declared.alloc.Global.{Global}
use Rattle.keys.specs.declared.fault.Fault.{Fault}
use Rattle.keys.specs.declared.fault.Fault.TheVariants.{Full}
use Rattle.keys.specs.declared.settings.Settings.{Settings}
use Rattle.mapping.specs.Tree.{Store}
use Rattle.flush_log.specs.AfterFlush.{after_flush}
use Rattle.engine.specs.Cleaning.{CleanRow, AreCleansBy, AreRows, BeginsFull, IsCalm, IsCleanRefused, IsEarly, IsFull, IsRoomy, IsRow, NoneFollow, count_of, most_ahead, most_cleanable, reads_in, row_length}
use Rattle.engine.specs.Room.{is_overfull, live_known}
use Rattle.engine.specs.Steps.{Answer, Stepped, after_step, batching}
use Rattle.engine.specs.Steps.Step.{Clean}
use Rattle.engine.proofs.RowsLemmas.{cleans_head, rows_cleans}
use Rattle.bwsh.specs.declared.order.Order.{Order}
use Rattle.bwsh.specs.declared.order.Order.TheVariants.{Flush}
use Rattle.bwsh.specs.Session.{AreCleaning, AreCleansOf, AreRight, Reads, Seen, Stored, after_order, cleaned, finds_no_memory, later, refused_by, tidied}
use Rattle.bwsh.proofs.RunLemmas.{answering, clean_head, of_flush}

-- ---- numbers

compared : (n m : ℕ) → (n ≡ m) ⊎ (n < m) ⊎ (m < n)
compared zero zero = inl refl
compared zero (suc m) = inr (inl (omega arith))
compared (suc n) zero = inr (inr (omega arith))
compared (suc n) (suc m) = by (compared n m)
  where
    by : (n ≡ m) ⊎ (n < m) ⊎ (m < n) → (suc n ≡ suc m) ⊎ (suc n < suc m) ⊎ (suc m < suc n)
    by (inl same) = inl (ap suc same)
    by (inr (inl less)) = inr (inl (omega (arith, less)))
    by (inr (inr more)) = inr (inr (omega (arith, more)))

few_of : (n a b c : ℕ) → n ≤ min (min a b) c → n ≤ b
few_of n a b c few = omega (arith, few)

sum_few : (n count segments : ℕ) → count ≤ segments → n ≤ segments - count → count + n ≤ segments
sum_few n count segments low few = omega (arith, low, few)

none_left : (n count segments : ℕ) → 0 < n → n ≤ segments - count → count ≡ segments → ⊥
none_left n count segments some few all = absurd (omega (arith, some, few, all))

not_more : (n m most : ℕ) → n < m → m ≤ most → n ≡ most → ⊥
not_more n m most less few all = absurd (omega (arith, less, few, all))

-- ---- the store that rows lead to

count_reads : (rows : List CleanRow) → length (reads_in rows) ≡ count_of rows
count_reads [] = refl
count_reads (row ∷ earlier) = length-append (reads_in earlier) row.reads ∙ ap (λ (n : ℕ). n + length row.reads) (count_reads earlier)

-- after each clean the next segment is the first one
pub rows_head : (honest cut : Bool) (s : Settings) (st : Store) (left : List ℕ) (rows : List CleanRow) (now : Store) (last : List ℕ) → AreRows honest cut s st left rows now last
    → now.head ≡ st.head + count_of rows
rows_head honest cut s st left rows now last are =
    cleans_head honest s (clean_head s) st left (reads_in rows) now last (rows_cleans honest s cut st left rows now last are) ∙ ap (λ (n : ℕ). st.head + n) (count_reads rows)

-- there are at most as many as segments
pub rows_few : (honest cut : Bool) (s : Settings) (st : Store) (left : List ℕ) (rows : List CleanRow) (now : Store) (last : List ℕ) → AreRows honest cut s st left rows now last
    → count_of rows ≤ s.segments
rows_few honest cut s st left [] now last are = omega arith
rows_few honest cut s st left (row ∷ earlier) now last (mid, bytes, opened, is) =
    sum_few (length row.reads) (count_of earlier) s.segments (rows_few honest false s st left earlier mid bytes opened)
    (few_of (length row.reads) (most_ahead s) (s.segments - count_of earlier) (most_cleanable s mid) is.few)

-- ---- cleans on an honest disk

-- a clean of this store that reads these bytes is done
abbrev IsCleanDone : Settings → Store → List ℕ → Type 0
IsCleanDone s st file = (p : Answer Global × Stored) × (after_step (batching s) s st file Clean ≡ Ok p)

same_ok : (p q : Answer Global × Stored) → (let r : Stepped Global = Ok p in r ≡ Ok q) → p ≡ q
same_ok p q e = cc

step_same : (s : Settings) (st : Store) (f g : List ℕ) → f ≡ g → (p q : Answer Global × Stored) → after_step (batching s) s st f Clean ≡ Ok p → after_step (batching s) s st g Clean ≡ Ok q → p ≡ q
step_same s st f g same p q first second = same_ok p q (sym first ∙ ap (λ (file : List ℕ). after_step {A = Global} (batching s) s st file Clean) same ∙ second)

not_both : (p : Answer Global × Stored) (fault : Fault) → (let r : Stepped Global = Ok p in r ≡ Err fault) → ⊥
not_both p fault e = absurd (cc)

-- so it is not refused
not_refused : (s : Settings) (st : Store) (left : List ℕ) → IsCleanDone s st left → IsCleanRefused true s st left → ⊥
not_refused s st left (p, done) (file, shown, fault, refused) =
    not_both p fault (sym done ∙ ap (λ (f : List ℕ). after_step {A = Global} (batching s) s st f Clean) (sym (shown refl)) ∙ refused)

cons_is : {X : Type 0} (x y : X) (xs ys : List X) → x ≡ y → xs ≡ ys → x ∷ xs ≡ y ∷ ys
cons_is {X} x y xs ys first rest = ap (λ (z : X). z ∷ xs) first ∙ ap (λ (zs : List X). y ∷ zs) rest

-- the same number of cleans leads to the same store
cleans_same : (s : Settings) (reads others : List (List ℕ)) (st : Store) (left : List ℕ) (now after : Store) (last end : List ℕ) → length reads ≡ length others
    → AreCleansBy true s st left reads now last → AreCleansBy true s st left others after end → (reads ≡ others) × (now ≡ after) × (last ≡ end)
cleans_same s [] [] st left now after last end many (is, shows) (is_too, shows_too) = (refl, is ∙ sym is_too, shows refl ∙ sym (shows_too refl))
cleans_same s [] (g ∷ gs) st left now after last end many one two = absurd (omega (arith, many))
cleans_same s (f ∷ fs) [] st left now after last end many one two = absurd (omega (arith, many))
cleans_same s (f ∷ fs) (g ∷ gs) st left now after last end many (answer, mid, bytes, shown, done, further) (other, at, file, shown_too, done_too, further_too) =
    let same : f ≡ g = shown refl ∙ sym (shown_too refl) in
    let pair = step_same s st f g same (answer, (mid, bytes)) (other, (at, file)) done done_too in
    let here : AreCleansBy true s mid bytes gs after end = subst (λ (p : Answer Global × Stored). AreCleansBy true s p.1.0 p.1.1 gs after end) (sym pair) further_too in
    let (rest, stores, files) = cleans_same s fs gs mid bytes now after last end (omega (arith, many)) further here in
    (cons_is f g fs gs same rest, stores, files)

-- if another row has more cleans, the next one is done
cleans_more : (s : Settings) (reads others : List (List ℕ)) (st : Store) (left : List ℕ) (now after : Store) (last end : List ℕ) → length reads < length others
    → AreCleansBy true s st left reads now last → AreCleansBy true s st left others after end → IsCleanDone s now last
cleans_more s reads [] st left now after last end less one two = absurd (omega (arith, less))
cleans_more s [] (g ∷ gs) st left now after last end less (is, shows) (other, at, file, shown, done, further) = (
  (other, (at, file)),
  subst (λ (x : Store). after_step (batching s) s x last Clean ≡ Ok (other, (at, file))) (sym is)
      (subst (λ (f : List ℕ). after_step {A = Global} (batching s) s st f Clean ≡ Ok (other, (at, file))) (shown refl ∙ sym (shows refl)) done),
)
cleans_more s (f ∷ fs) (g ∷ gs) st left now after last end less (answer, mid, bytes, shown, done, further) (other, at, file, shown_too, done_too, further_too) =
    let pair = step_same s st f g (shown refl ∙ sym (shown_too refl)) (answer, (mid, bytes)) (other, (at, file)) done done_too in
    let here : AreCleansBy true s mid bytes gs after end = subst (λ (p : Answer Global × Stored). AreCleansBy true s p.1.0 p.1.1 gs after end) (sym pair) further_too in
    cleans_more s fs gs mid bytes now after last end (omega (arith, less)) further here

-- the first of some is done
first_done : (s : Settings) (reads : List (List ℕ)) (st : Store) (left : List ℕ) (now : Store) (last : List ℕ) → 0 < length reads → AreCleansBy true s st left reads now last → IsCleanDone s st left
first_done s reads st left now last some are = cleans_more s [] reads st left st now left last some (refl, λ h. refl) are

-- ---- rows on an honest disk

row_is : (a b : CleanRow) → a.ahead ≡ b.ahead → a.reads ≡ b.reads → a ≡ b
row_is a b ahead reads =
    ap (λ (x : List ℕ). (let r : CleanRow = record { ahead = x; reads = a.reads } in r)) ahead ∙ ap (λ (x : List (List ℕ)). (let r : CleanRow = record { ahead = b.ahead; reads = x } in r)) reads

module _ (s : Settings) where
  abbrev IsWholeRow : List CleanRow → Store → List ℕ → CleanRow → Store → List ℕ → Type 0
  IsWholeRow earlier st left row now last = IsRow true false s earlier st left row now last

  -- no row is shorter than another one with the same start
  not_shorter : (earlier : List CleanRow) (st : Store) (left : List ℕ) (row other : CleanRow) (now after : Store) (last end : List ℕ) → IsWholeRow earlier st left row now last
      → IsWholeRow earlier st left other after end → length row.reads < length other.reads → ⊥
  not_shorter earlier st left row other now after last end one two less =
      ⊎_elim (λ all. not_more (length row.reads) (length other.reads) (row_length s earlier st) less two.few all)
      (λ refused. not_refused s now last (cleans_more s row.reads other.reads st left now after last end less one.done two.done) refused) (one.whole refl)

  row_same : (earlier : List CleanRow) (st : Store) (left : List ℕ) (row other : CleanRow) (now after : Store) (last end : List ℕ) → IsWholeRow earlier st left row now last
      → IsWholeRow earlier st left other after end → (row ≡ other) × (now ≡ after) × (last ≡ end)
  row_same earlier st left row other now after last end one two = by (compared (length row.reads) (length other.reads))
    where
      by : (length row.reads ≡ length other.reads) ⊎ (length row.reads < length other.reads) ⊎ (length other.reads < length row.reads) → (row ≡ other) × (now ≡ after) × (last ≡ end)
      by (inl many) =
          let (reads, stores, files) = cleans_same s row.reads other.reads st left now after last end many one.done two.done in
          (row_is row other (one.shown refl ∙ sym (two.shown refl)) reads, stores, files)
      by (inr (inl less)) = absurd (not_shorter earlier st left row other now after last end one two less)
      by (inr (inr more)) = absurd (not_shorter earlier st left other row after now end last two one more)

  module _ (st : Store) (left : List ℕ) where
    abbrev AreWhole : List CleanRow → Store → List ℕ → Type 0
    AreWhole rows now last = AreRows true false s st left rows now last

    -- the same number of rows leads to the same store
    rows_same : (rows others : List CleanRow) (now after : Store) (last end : List ℕ) → length rows ≡ length others → AreWhole rows now last → AreWhole others after end
        → (rows ≡ others) × (now ≡ after) × (last ≡ end)
    rows_same [] [] now after last end many (is, shows) (is_too, shows_too) = (refl, is ∙ sym is_too, shows refl ∙ sym (shows_too refl))
    rows_same [] (other ∷ others) now after last end many one two = absurd (omega (arith, many))
    rows_same (row ∷ rows) [] now after last end many one two = absurd (omega (arith, many))
    rows_same (row ∷ rows) (other ∷ others) now after last end many (mid, bytes, opened, one) (at, file, open_too, two) =
        let (same, stores, files) = rows_same rows others mid at bytes file (omega (arith, many)) opened open_too in
        let here : IsWholeRow rows mid bytes other after end =
        subst (λ (f : List ℕ). IsWholeRow rows mid f other after end) (sym files)
        (subst (λ (x : Store). IsWholeRow rows x file other after end) (sym stores) (subst (λ (l : List CleanRow). IsWholeRow l at file other after end) (sym same) two)) in
        let (is, nows, lasts) = row_same rows mid bytes row other now after last end one here in
        (cons_is row other rows others is same, nows, lasts)

    -- one row more than some
    abbrev OneMore : ℕ → Type 0
    OneMore n =
        (earlier : List CleanRow) × (length earlier ≡ n) × (mid : Store) × (bytes : List ℕ) × AreRows true false s st left earlier mid bytes
        × ((row : CleanRow) × (now : Store) × (last : List ℕ) × IsWholeRow earlier mid bytes row now last)

    -- rows have another one after any smaller number of them
    one_more : (rows : List CleanRow) (now : Store) (last : List ℕ) (n : ℕ) → n < length rows → AreWhole rows now last → OneMore n
    one_more [] now last n less are = absurd (omega (arith, less))
    one_more (row ∷ rows) now last n less (mid, bytes, opened, one) = by (compared n (length rows)) (one_more rows mid bytes n)
      where
        by : (n ≡ length rows) ⊎ (n < length rows) ⊎ (length rows < n) → (n < length rows → AreWhole rows mid bytes → OneMore n) → OneMore n
        by (inl same) further = (rows, sym same, mid, bytes, opened, (row, now, last, one))
        by (inr (inl fewer)) further = further fewer opened
        by (inr (inr more)) further = absurd (omega (arith, less, more))

  -- ---- where rows end on an honest disk

  -- a store is not calm if a row begins early
  not_calm : (st : Store) (left ahead : List ℕ) → ahead ≡ left → IsEarly s st ahead → IsCleanDone s st left → IsCalm true s st left → ⊥
  not_calm st left ahead same early done (inl (file, shown, never)) = never (subst (λ (f : List ℕ). IsEarly s st f) (same ∙ sym (shown refl)) early)
  not_calm st left ahead same early done (inr refused) = not_refused s st left done refused

  same_live : (o : Option ℕ) (a b : ℕ) → o ≡ Some a → o ≡ Some b → a ≡ b
  same_live o a b first second = cc

  -- a row begins because the log is full, unless it begins early
  begins_full : (st : Store) (left : List ℕ) (rows : List CleanRow) (now : Store) (last : List ℕ) → AreRows true false s st left rows now last → (rows ≡ [] → IsCalm true s st left)
      → (row : CleanRow) (after : Store) (end : List ℕ) → IsWholeRow rows now last row after end → IsFull s now row.ahead
  begins_full st left rows now last opened calm row after end one = by one.begins
    where
      done : IsCleanDone s now last
      done = first_done s row.reads now last after end one.some one.done

      at_start : (l : List CleanRow) → AreRows true false s st left l now last → l ≡ [] → IsCalm true s st left → IsCalm true s now last
      at_start [] (is, shows) none quiet = subst (λ (f : List ℕ). IsCalm true s now f) (sym (shows refl)) (subst (λ (x : Store). IsCalm true s x left) (sym is) quiet)
      at_start (r ∷ l) opened none quiet = absurd (cc)

      by : BeginsFull true s rows now last row ⊎ ((rows ≡ []) × IsEarly s now row.ahead) → IsFull s now row.ahead
      by (inl (full, quiet)) = full
      by (inr (first, early)) = absurd (not_calm now last row.ahead (one.shown refl) early done (at_start rows opened first (calm first)))

  -- if a flush ends them, there is no further row
  none_after : (st : Store) (left : List ℕ) (rows : List CleanRow) (now : Store) (last : List ℕ) → AreRows true false s st left rows now last → (rows ≡ [] → IsCalm true s st left)
      → (after_flush s now last ≡ Err Full → NoneFollow true s rows now last) → (row : CleanRow) (after : Store) (end : List ℕ) → IsWholeRow rows now last row after end → ⊥
  none_after st left rows now last opened calm follows row after end one =
      let full : IsFull s now row.ahead = begins_full st left rows now last opened calm row after end one in
      by full.1 (follows (subst (λ (f : List ℕ). after_flush s now f ≡ Err Full) (one.shown refl) full.0))
    where
      by : IsRoomy s now row.ahead → NoneFollow true s rows now last → ⊥
      by roomy (inl all) =
          none_left (length row.reads) (count_of rows) s.segments one.some (few_of (length row.reads) (most_ahead s) (s.segments - count_of rows) (most_cleanable s now) one.few) all
      by (live, known, room) (inr (inl (ahead, shown, (other, known_too, over)))) =
          let here : live_known s now row.ahead ≡ Some other = subst (λ (f : List ℕ). live_known s now f ≡ Some other) (shown refl ∙ sym (one.shown refl)) known_too in
          let same : live ≡ other = same_live (live_known s now row.ahead) live other known here in
          let no : false ≡ true = sym room ∙ ap (λ (n : ℕ). is_overfull s now n) same ∙ over in absurd (cc)
      by roomy (inr (inr refused)) = not_refused s now last (first_done s row.reads now last after end one.some one.done) refused

  -- rows before a flush that is done or is refused by definition
  abbrev AreEnded : Store → List ℕ → List CleanRow → Store → List ℕ → Type 0
  AreEnded st left rows now last =
      AreRows true false s st left rows now last × (rows ≡ [] → IsCalm true s st left) × (after_flush s now last ≡ Err Full → NoneFollow true s rows now last)

  module _ (st : Store) (left : List ℕ) where
    -- there are no further ones
    not_longer : (rows others : List CleanRow) (now after : Store) (last end : List ℕ) → AreEnded st left rows now last → AreRows true false s st left others after end → length rows < length others → ⊥
    not_longer rows others now after last end (are, calm, follows) are_too less = by (one_more st left others after end (length rows) less are_too)
      where
        by : OneMore st left (length rows) → ⊥
        by (earlier, many, mid, bytes, opened, (row, to, at_end, one)) =
            let (same, stores, files) = rows_same st left rows earlier now mid last bytes (sym many) are opened in
            let calm_here : earlier ≡ [] → IsCalm true s st left = λ none. calm (same ∙ none) in
            let follows_here : after_flush s mid bytes ≡ Err Full → NoneFollow true s earlier mid bytes =
            subst (λ (f : List ℕ). after_flush s mid f ≡ Err Full → NoneFollow true s earlier mid f) files
            (subst (λ (x : Store). after_flush s x last ≡ Err Full → NoneFollow true s earlier x last) stores
            (subst (λ (l : List CleanRow). after_flush s now last ≡ Err Full → NoneFollow true s l now last) same follows)) in
            none_after st left earlier mid bytes opened calm_here follows_here row to at_end one

    -- and so they are the same
    ended_same : (rows others : List CleanRow) (now after : Store) (last end : List ℕ) → AreEnded st left rows now last → AreEnded st left others after end
        → (others ≡ rows) × (after ≡ now) × (end ≡ last)
    ended_same rows others now after last end one two = by (compared (length others) (length rows))
      where
        by : (length others ≡ length rows) ⊎ (length others < length rows) ⊎ (length rows < length others) → (others ≡ rows) × (after ≡ now) × (end ≡ last)
        by (inl many) = rows_same st left others rows after now end last many two.0 one.0
        by (inr (inl less)) = absurd (not_longer others rows after now end last two one.0 less)
        by (inr (inr more)) = absurd (not_longer rows others now after last end one two.0 more)

-- the right rows before a flush that doesn't fail
ended_of : (settings : Settings) (st now : Store) (seen : Seen) → seen.fails ≡ None → AreRight true settings st now seen → AreEnded settings st seen.bytes seen.rows now seen.last
ended_of settings st now seen none (are, calm, follows) =
    let found : finds_no_memory seen.fails ≡ false = ap finds_no_memory none in (
      subst (λ (b : Bool). AreRows true b settings st seen.bytes seen.rows now seen.last) found are,
      calm found,
      λ full. follows none (ap (λ (r : Result Stored Fault). refused_by (answering of_flush r)) full),
    )

-- the bytes that were left determine the cleans before a flush
pub rows_decided : (settings : Settings) (st now after : Store) (seen other : Seen) → other.bytes ≡ seen.bytes → seen.fails ≡ None → other.fails ≡ None → AreRight true settings st now seen
    → AreRight true settings st after other → (other.rows ≡ seen.rows) × (after ≡ now) × (other.last ≡ seen.last)
rows_decided settings st now after seen other bytes none none_too one two =
    ended_same settings st seen.bytes seen.rows other.rows now after seen.last other.last (ended_of settings st now seen none one)
    (subst (λ (f : List ℕ). AreEnded settings st f other.rows after other.last) bytes (ended_of settings st after other none_too two))

-- ---- no rows

-- there are none before an order that is no flush, or if flushes do not clean
pub bare : (honest cleans : Bool) (settings : Settings) (st : Store) (order : Order) → (order ≡ Flush → cleans ≡ false) → (seen : Seen) → AreCleansOf honest cleans settings st order seen → seen.rows ≡ []
bare honest true settings st Flush plain seen are = let off = plain refl in absurd (cc)
bare honest true settings st _ plain seen are = are
bare honest false settings st order plain seen are = are

-- ---- what they are if less is known to be honest

module _ (b c : Bool) (weaker : IsTrue c → IsTrue b) (s : Settings) where
  cleans-weaker : (st : Store) (left : List ℕ) (reads : List (List ℕ)) (now : Store) (last : List ℕ) → AreCleansBy b s st left reads now last → AreCleansBy c s st left reads now last
  cleans-weaker st left [] now last (is, shows) = (is, λ h. shows (weaker h))
  cleans-weaker st left (file ∷ reads) now last (answer, mid, bytes, shown, done, further) =
      (answer, mid, bytes, λ h. shown (weaker h), done, cleans-weaker mid bytes reads now last further)

  refused-weaker : (st : Store) (left : List ℕ) → IsCleanRefused b s st left → IsCleanRefused c s st left
  refused-weaker st left (file, shown, fault, refused) = (file, λ h. shown (weaker h), fault, refused)

  calm-weaker : (st : Store) (left : List ℕ) → IsCalm b s st left → IsCalm c s st left
  calm-weaker st left (inl (ahead, shown, never)) = inl (ahead, λ h. shown (weaker h), never)
  calm-weaker st left (inr refused) = inr (refused-weaker st left refused)

  full-weaker : (earlier : List CleanRow) (st : Store) (left : List ℕ) (row : CleanRow) → BeginsFull b s earlier st left row → BeginsFull c s earlier st left row
  full-weaker earlier st left row (full, calm) = (full, λ first. calm-weaker st left (calm first))

  row-weaker : (cut : Bool) (earlier : List CleanRow) (st : Store) (left : List ℕ) (row : CleanRow) (now : Store) (last : List ℕ) → IsRow b cut s earlier st left row now last
      → IsRow c cut s earlier st left row now last
  row-weaker cut earlier st left row now last is = record {
    shown = λ h. is.shown (weaker h);
    begins = ⊎_elim (λ full. inl (full-weaker earlier st left row full)) (λ early. inr early) is.begins;
    done = cleans-weaker st left row.reads now last is.done;
    some = is.some;
    few = is.few;
    whole = λ uncut. ⊎_elim (λ all. inl all) (λ refused. inr (refused-weaker now last refused)) (is.whole uncut);
  }

  module _ (st : Store) (left : List ℕ) where
    rows-weaker : (cut : Bool) (rows : List CleanRow) (now : Store) (last : List ℕ) → AreRows b cut s st left rows now last → AreRows c cut s st left rows now last
    rows-weaker cut [] now last (is, shows) = (is, λ h. shows (weaker h))
    rows-weaker cut (row ∷ earlier) now last (mid, bytes, opened, is) = (mid, bytes, rows-weaker false earlier mid bytes opened, row-weaker cut earlier mid bytes row now last is)

  follow-weaker : (rows : List CleanRow) (now : Store) (last : List ℕ) → NoneFollow b s rows now last → NoneFollow c s rows now last
  follow-weaker rows now last (inl all) = inl all
  follow-weaker rows now last (inr (inl (ahead, shown, over))) = inr (inl (ahead, λ h. shown (weaker h), over))
  follow-weaker rows now last (inr (inr refused)) = inr (inr (refused-weaker now last refused))

  right-weaker : (st now : Store) (seen : Seen) → AreRight b s st now seen → AreRight c s st now seen
  right-weaker st now seen (are, calm, follows) = (
    rows-weaker st seen.bytes (finds_no_memory seen.fails) seen.rows now seen.last are,
    λ found first. calm-weaker st seen.bytes (calm found first),
    λ none full. follow-weaker seen.rows now seen.last (follows none full),
  )

  cleans_of-weaker : (cleans : Bool) (st : Store) (order : Order) (seen : Seen) → AreCleansOf b cleans s st order seen → AreCleansOf c cleans s st order seen
  cleans_of-weaker true st Flush seen right = right-weaker (tidied s seen.tidying (st, seen.bytes)).0 (cleaned s seen (st, seen.bytes)).0 seen right
  cleans_of-weaker true st _ seen none = none
  cleans_of-weaker false st order seen none = none

  pub AreCleaning-weaker : (cleans : Bool) (st : Store) (shown : Reads) (orders : List Order) → AreCleaning b cleans s st shown orders → AreCleaning c cleans s st shown orders
  AreCleaning-weaker cleans st shown [] are = are
  AreCleaning-weaker cleans st shown (order ∷ rest) (first, further) =
      (cleans_of-weaker cleans st order (shown 0) first, AreCleaning-weaker cleans (after_order s st (shown 0) order).0 (later shown) rest further)
