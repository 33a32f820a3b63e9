-- Lemmas on executing only some of the commands, for the proofs of this crate and of those above it.
use Rattle.std.specs.Prelude.{◌≡◌, ℕ, Bool, true, false, not, cond, ◌&&◌, ◌||◌, is_some, List, [], ◌∷◌, Option, Some, None}
use Rattle.std.proofs.Common.{refl, sym, ap, ◌∙◌}
use Rattle.std.specs.List.{filter}
use Rattle.std.specs.Option.{option_map_or}
use Rattle.std.specs.Ordering.{is_eq}
use Rattle.keys.specs.Footprint.{Span, One, Range, Access, span_of, access_of}
use Rattle.keys.specs.Order.{order, IsRising}
use Rattle.keys.specs.OrderedMap.{value_at, with_pair}
use Rattle.keys.specs.Step.{reply_to, map_after, replies_to, map_after_all}
use Rattle.keys.proofs.MapLemmas.{order_itself, passes_same, value_at-with_pair_here, value_at-without_here}
use Rattle.keys.proofs.RangeLemmas.{wiped_within}
use Rattle.keys.proofs.RunLemmas.{rising-map_after}
use Rattle.keys.specs.Range.{is_within}
use Rattle.keys.specs.declared.command.Command.{Command}
use Rattle.keys.specs.declared.command.Command.TheVariants.{Get, Put, Add, Del, Scan, Wipe}
use Rattle.keys.specs.declared.command.Reply.{Reply}
use Rattle.page_runs.specs.NetRun.{net_run}
use Rattle.page_runs.proofs.NetLemmas.{Pairs, said_if, value_at-touched, untouched_once}
use Rattle.page_runs.specs.Apart.{single_of, single_key, is_on_one, IsOff, IsWithin, TakesAll, TakesNoOther, GivesNoOther, HasNoOther, replies_where, AgreeOn, is_on, is_on_key, gives_key}
use Rattle.page_runs.proofs.Touching.{touches, is_touched}

-- ---- keys

never_both : (a : Bool) → (a && false) ≡ false
never_both true = refl
never_both false = refl

-- a key that passes isn't one that doesn't
apart_by : (b : Bool) (is_own : List ℕ → Bool) (q k : List ℕ) (one other : Bool) → is_eq (order q k) ≡ b → is_own q ≡ one → is_own k ≡ other → (one ≡ other → b ≡ false) → b ≡ false
apart_by true is_own q k one other e h n d = d (sym h ∙ ap is_own (passes_same q k e) ∙ n)
apart_by false is_own q k one other e h n d = refl

other_key : (is_own : List ℕ → Bool) (q k : List ℕ) → is_own q ≡ true → is_own k ≡ false → is_eq (order q k) ≡ false
other_key is_own q k h n = apart_by (is_eq (order q k)) is_own q k true false refl h n (λ e. absurd (cc))

own_key : (is_own : List ℕ → Bool) (q k : List ℕ) → is_own q ≡ false → is_own k ≡ true → is_eq (order q k) ≡ false
own_key is_own q k h n = apart_by (is_eq (order q k)) is_own q k false true refl h n (λ e. absurd (cc))

-- a key is itself, so it isn't one that doesn't compare alike with itself
passes_not : (b : Bool) (k : List ℕ) → (b ≡ true → is_eq (order k k) ≡ false) → b ≡ false
passes_not true k h = sym (ap is_eq (order_itself k)) ∙ h refl
passes_not false k h = refl

-- ---- values

added_same : (b : Bool) (m x : Pairs) (k v : List ℕ) → value_at k m ≡ value_at k x → value_at k (cond b m (with_pair m k v)) ≡ value_at k (cond b x (with_pair x k v))
added_same true m x k v e = e
added_same false m x k v e = value_at-with_pair_here m k v ∙ sym (value_at-with_pair_here x k v)

said_same : (b c : Bool) (q : List ℕ) (m x : Pairs) → b ≡ c → value_at q m ≡ value_at q x → said_if b q m ≡ said_if c q x
said_same true true q m x e f = ap (λ (o : Option (List ℕ)). Some o) f
said_same true false q m x e f = absurd (cc)
said_same false true q m x e f = absurd (cc)
said_same false false q m x e f = refl

-- ---- one command

on_single : (s : Span) (d : Access) (k q : List ℕ) → single_of s ≡ Some k → is_on s d q ≡ is_eq (order q k)
on_single (One j) d k q h = let same : j ≡ k = cc in ap (λ (i : List ℕ). is_eq (order q i)) same
on_single (Range lo hi) d k q h = absurd (cc)

off_single : (is_own : List ℕ → Bool) (s : Span) (d : Access) → ((q : List ℕ) → is_own q ≡ true → is_on s d q ≡ false) → option_map_or is_own (single_of s) false ≡ false
off_single is_own (One k) d h = passes_not (is_own k) k (λ e. h k e)
off_single is_own (Range lo hi) d h = refl

-- a key that is absent is none that is deleted
not_deleted : (b : Bool) (x : Pairs) (k q : List ℕ) → is_eq (order q k) ≡ b → value_at q x ≡ None → (is_some (value_at k x) && b) ≡ false
not_deleted true x k q e n = ap (λ (o : Option (List ℕ)). is_some o && true) (ap (λ (j : List ℕ). value_at j x) (sym (passes_same q k e)) ∙ n)
not_deleted false x k q e n = never_both (is_some (value_at k x))

module _ {A : Type 0} where
  -- a command on one key is on that key and no other
  is_on_key-single_key : (c : Command A) (k q : List ℕ) → single_key c ≡ Some k → is_on_key c q ≡ is_eq (order q k)
  is_on_key-single_key c k q h = on_single (span_of c) (access_of c) k q h

  pub within_by_key : (is_own : List ℕ → Bool) (c : Command A) (k : List ℕ) → single_key c ≡ Some k → is_own k ≡ true → IsWithin is_own c
  within_by_key is_own c k h n = λ q o. is_on_key-single_key c k q h ∙ own_key is_own q k o n

  pub off_by_key : (is_own : List ℕ → Bool) (c : Command A) (k : List ℕ) → single_key c ≡ Some k → is_own k ≡ false → IsOff is_own c
  off_by_key is_own c k h n = λ q o. is_on_key-single_key c k q h ∙ other_key is_own q k o n

  -- it touches no key that it isn't on, so it leaves that key as it was
  touches_none_else : (m : Pairs) (c : Command A) (q : List ℕ) → is_on_key c q ≡ false → touches q m c ≡ false
  touches_none_else m (Get k) q h = refl
  touches_none_else m (Put k v) q h = h
  touches_none_else m (Add k v) q h = ap (λ (b : Bool). not (is_some (value_at k m)) && b) h ∙ never_both (not (is_some (value_at k m)))
  touches_none_else m (Del k) q h = ap (λ (b : Bool). is_some (value_at k m) && b) h ∙ never_both (is_some (value_at k m))
  touches_none_else m (Scan lo hi limit) q h = refl
  touches_none_else m (Wipe lo hi) q h = ap (λ (b : Bool). b && is_some (value_at q m)) h

  value_at-elsewhere : (m : Pairs) (c : Command A) (q : List ℕ) → IsRising m → is_on_key c q ≡ false → value_at q (map_after m c) ≡ value_at q m
  value_at-elsewhere m c q r h = untouched_once m c q r (touches_none_else m c q h)

  -- if two maps have the same at a key, they have the same there after the command, and it touches the key in both or
  -- in none
  after_on : (m x : Pairs) (c : Command A) (q : List ℕ) → is_on_key c q ≡ true → IsRising m → IsRising x → value_at q m ≡ value_at q x → value_at q (map_after m c) ≡ value_at q (map_after x c)
  after_on m x (Get k) q h r s e = e
  after_on m x (Put k v) q h r s e = let same : q ≡ k = passes_same q k h in rw same (value_at-with_pair_here m k v ∙ sym (value_at-with_pair_here x k v))
  after_on m x (Add k v) q h r s e =
      let same : q ≡ k = passes_same q k h in
      let here : value_at k m ≡ value_at k x = rw (sym same) e in
      rw same (added_same (is_some (value_at k m)) m x k v here ∙ ap (λ (o : Option (List ℕ)). value_at k (cond (is_some o) x (with_pair x k v))) here)
  after_on m x (Del k) q h r s e = let same : q ≡ k = passes_same q k h in rw same (value_at-without_here m k r ∙ sym (value_at-without_here x k s))
  after_on m x (Scan lo hi limit) q h r s e = e
  after_on m x (Wipe lo hi) q h r s e = wiped_within m lo hi q h ∙ sym (wiped_within x lo hi q h)

  after_by : (b : Bool) (m x : Pairs) (c : Command A) (q : List ℕ) → is_on_key c q ≡ b → IsRising m → IsRising x → value_at q m ≡ value_at q x → value_at q (map_after m c) ≡ value_at q (map_after x c)
  after_by true m x c q h r s e = after_on m x c q h r s e
  after_by false m x c q h r s e = value_at-elsewhere m c q r h ∙ e ∙ sym (value_at-elsewhere x c q s h)

  touches_on : (m x : Pairs) (c : Command A) (q : List ℕ) → is_on_key c q ≡ true → value_at q m ≡ value_at q x → touches q m c ≡ touches q x c
  touches_on m x (Get k) q h e = refl
  touches_on m x (Put k v) q h e = refl
  touches_on m x (Add k v) q h e =
      let same : q ≡ k = passes_same q k h in
      let here : value_at k m ≡ value_at k x = rw (sym same) e in
      ap (λ (o : Option (List ℕ)). not (is_some o) && is_eq (order q k)) here
  touches_on m x (Del k) q h e =
      let same : q ≡ k = passes_same q k h in
      let here : value_at k m ≡ value_at k x = rw (sym same) e in
      ap (λ (o : Option (List ℕ)). is_some o && is_eq (order q k)) here
  touches_on m x (Scan lo hi limit) q h e = refl
  touches_on m x (Wipe lo hi) q h e = ap (λ (o : Option (List ℕ)). is_within lo hi q && is_some o) e

  touches_by : (b : Bool) (m x : Pairs) (c : Command A) (q : List ℕ) → is_on_key c q ≡ b → value_at q m ≡ value_at q x → touches q m c ≡ touches q x c
  touches_by true m x c q h e = touches_on m x c q h e
  touches_by false m x c q h e = touches_none_else m c q h ∙ sym (touches_none_else x c q h)

  -- if they have the same at its one key, it answers the same
  pub reply_same : (is_own : List ℕ → Bool) (m x : Pairs) (c : Command A) → AgreeOn is_own m x → is_on_one is_own c ≡ true → reply_to m c ≡ reply_to x c
  reply_same is_own m x (Get k) a h = let e : value_at k m ≡ value_at k x = a k h in rw e refl
  reply_same is_own m x (Put k v) a h = let e : value_at k m ≡ value_at k x = a k h in rw e refl
  reply_same is_own m x (Add k v) a h = let e : value_at k m ≡ value_at k x = a k h in rw e refl
  reply_same is_own m x (Del k) a h = let e : value_at k m ≡ value_at k x = a k h in rw e refl
  reply_same is_own m x (Scan lo hi limit) a h = absurd (cc)
  reply_same is_own m x (Wipe lo hi) a h = absurd (cc)

  -- a command off some keys isn't on one of them
  off_one : (is_own : List ℕ → Bool) (c : Command A) → IsOff is_own c → is_on_one is_own c ≡ false
  off_one is_own c h = off_single is_own (span_of c) (access_of c) h

  -- a command touches no absent key but one that it gives a value
  untouched_absent : (x : Pairs) (c : Command A) (q : List ℕ) → gives_key c q ≡ false → value_at q x ≡ None → touches q x c ≡ false
  untouched_absent x (Get k) q h n = refl
  untouched_absent x (Put k v) q h n = h
  untouched_absent x (Add k v) q h n = ap (λ (b : Bool). not (is_some (value_at k x)) && b) h ∙ never_both (not (is_some (value_at k x)))
  untouched_absent x (Del k) q h n = not_deleted (is_eq (order q k)) x k q refl n
  untouched_absent x (Scan lo hi limit) q h n = refl
  untouched_absent x (Wipe lo hi) q h n = ap (λ (o : Option (List ℕ)). is_within lo hi q && is_some o) n ∙ never_both (is_within lo hi q)

  -- ---- replies to some of the commands

  either_reply : (b : Bool) (y z : Reply A) (rs ss : List (Reply A)) → (b ≡ true → y ≡ z) → rs ≡ ss → cond b (y ∷ rs) rs ≡ cond b (z ∷ ss) ss
  either_reply true y z rs ss h e = ap (λ (w : Reply A). w ∷ rs) (h refl) ∙ ap (λ (ws : List (Reply A)). z ∷ ws) e
  either_reply false y z rs ss h e = e

  no_reply : (b : Bool) (y : Reply A) (rs : List (Reply A)) → b ≡ false → cond b (y ∷ rs) rs ≡ rs
  no_reply true y rs h = absurd (cc)
  no_reply false y rs h = refl

  own_by : (b : Bool) (passes : Command A → Bool) (x : Pairs) (c : Command A) (cs : List (Command A)) → passes c ≡ b
      → ((y : Pairs) → replies_where passes cs (replies_to y cs) ≡ replies_to y cs)
      → replies_where passes (cond b (c ∷ cs) cs) (replies_to x (cond b (c ∷ cs) cs)) ≡ replies_to x (cond b (c ∷ cs) cs)
  own_by true passes x c cs h ih = rw h (ap (λ (rs : List (Reply A)). reply_to x c ∷ rs) (ih (map_after x c)))
  own_by false passes x c cs h ih = ih x

  -- if exactly those that pass are executed, there are no other replies
  pub replies_to-own : (passes : Command A → Bool) (x : Pairs) (cs : List (Command A)) → replies_where passes (filter passes cs) (replies_to x (filter passes cs)) ≡ replies_to x (filter passes cs)
  replies_to-own passes x [] = refl
  replies_to-own passes x (c ∷ cs) = own_by (passes c) passes x c (filter passes cs) refl (λ y. replies_to-own passes y cs)

  -- ---- all commands

  module _ (is_own : List ℕ → Bool) (is_taken : Command A → Bool) where
    -- the maps agree after a command that both get, and after one off these keys that one of them gets
    pub agree_taken : (m x : Pairs) (c : Command A) → IsRising m → IsRising x → AgreeOn is_own m x → AgreeOn is_own (map_after m c) (map_after x c)
    agree_taken m x c r s a = λ q h. after_by (is_on_key c q) m x c q refl r s (a q h)

    pub agree_left : (m x : Pairs) (c : Command A) → IsRising m → AgreeOn is_own m x → IsOff is_own c → AgreeOn is_own (map_after m c) x
    agree_left m x c r a off = λ q h. value_at-elsewhere m c q r (off q h) ∙ a q h

    replies_by : (b : Bool) (m x : Pairs) (c : Command A) (cs : List (Command A)) → TakesAll is_own is_taken → is_taken c ≡ b → IsRising m → IsRising x → AgreeOn is_own m x
        → ((n y : Pairs) → IsRising n → IsRising y → AgreeOn is_own n y → replies_where (λ d. is_on_one is_own d) cs (replies_to n cs) ≡ replies_where (λ d. is_on_one is_own d) (filter is_taken cs) (replies_to y (filter is_taken cs)))
        → cond (is_on_one is_own c) (reply_to m c ∷ replies_where (λ d. is_on_one is_own d) cs (replies_to (map_after m c) cs)) (replies_where (λ d. is_on_one is_own d) cs (replies_to (map_after m c) cs))
        ≡ replies_where (λ d. is_on_one is_own d) (cond b (c ∷ filter is_taken cs) (filter is_taken cs)) (replies_to x (cond b (c ∷ filter is_taken cs) (filter is_taken cs)))
    replies_by true m x c cs t e r s a ih =
        either_reply (is_on_one is_own c) (reply_to m c) (reply_to x c) (replies_where (λ d. is_on_one is_own d) cs (replies_to (map_after m c) cs)) (replies_where (λ d. is_on_one is_own d) (filter is_taken cs) (replies_to (map_after x c) (filter is_taken cs)))
        (λ h. reply_same is_own m x c a h)
        (ih (map_after m c) (map_after x c) (rising-map_after m c r) (rising-map_after x c s) (agree_taken m x c r s a))
    replies_by false m x c cs t e r s a ih =
        no_reply (is_on_one is_own c) (reply_to m c) (replies_where (λ d. is_on_one is_own d) cs (replies_to (map_after m c) cs)) (off_one is_own c (t c e))
        ∙ ih (map_after m c) x (rising-map_after m c r) s (agree_left m x c r a (t c e))

    -- the commands on one of the keys get the replies that they get among all commands
    pub replies_to-apart : (m x : Pairs) (cs : List (Command A)) → TakesAll is_own is_taken → IsRising m → IsRising x → AgreeOn is_own m x → replies_where (λ d. is_on_one is_own d) cs (replies_to m cs) ≡ replies_where (λ d. is_on_one is_own d) (filter is_taken cs) (replies_to x (filter is_taken cs))
    replies_to-apart m x [] t r s a = refl
    replies_to-apart m x (c ∷ cs) t r s a = replies_by (is_taken c) m x c cs t refl r s a (λ n y p q b. replies_to-apart n y cs t p q b)

    agree_all_by : (b : Bool) (m x : Pairs) (c : Command A) (cs : List (Command A)) → TakesAll is_own is_taken → is_taken c ≡ b → IsRising m → IsRising x → AgreeOn is_own m x
        → ((n y : Pairs) → IsRising n → IsRising y → AgreeOn is_own n y → AgreeOn is_own (map_after_all n cs) (map_after_all y (filter is_taken cs)))
        → AgreeOn is_own (map_after_all (map_after m c) cs) (map_after_all x (cond b (c ∷ filter is_taken cs) (filter is_taken cs)))
    agree_all_by true m x c cs t e r s a ih = ih (map_after m c) (map_after x c) (rising-map_after m c r) (rising-map_after x c s) (agree_taken m x c r s a)
    agree_all_by false m x c cs t e r s a ih = ih (map_after m c) x (rising-map_after m c r) s (agree_left m x c r a (t c e))

    -- afterwards the maps agree on these keys
    pub map_after_all-apart : (m x : Pairs) (cs : List (Command A)) → TakesAll is_own is_taken → IsRising m → IsRising x → AgreeOn is_own m x → AgreeOn is_own (map_after_all m cs) (map_after_all x (filter is_taken cs))
    map_after_all-apart m x [] t r s a = a
    map_after_all-apart m x (c ∷ cs) t r s a = agree_all_by (is_taken c) m x c cs t refl r s a (λ n y p q b. map_after_all-apart n y cs t p q b)

    touched_by : (b : Bool) (m x : Pairs) (c : Command A) (cs : List (Command A)) (q : List ℕ) → TakesAll is_own is_taken → is_taken c ≡ b → IsRising m → IsRising x → AgreeOn is_own m x → is_own q ≡ true
        → ((n y : Pairs) → IsRising n → IsRising y → AgreeOn is_own n y → is_touched q n cs ≡ is_touched q y (filter is_taken cs))
        → (touches q m c || is_touched q (map_after m c) cs) ≡ is_touched q x (cond b (c ∷ filter is_taken cs) (filter is_taken cs))
    touched_by true m x c cs q t e r s a h ih =
        ap (λ (u : Bool). u || is_touched q (map_after m c) cs) (touches_by (is_on_key c q) m x c q refl (a q h))
        ∙ ap (λ (u : Bool). touches q x c || u) (ih (map_after m c) (map_after x c) (rising-map_after m c r) (rising-map_after x c s) (agree_taken m x c r s a))
    touched_by false m x c cs q t e r s a h ih =
        ap (λ (u : Bool). u || is_touched q (map_after m c) cs) (touches_none_else m c q (t c e q h))
        ∙ ih (map_after m c) x (rising-map_after m c r) s (agree_left m x c r a (t c e))

    is_touched-apart : (m x : Pairs) (cs : List (Command A)) (q : List ℕ) → TakesAll is_own is_taken → IsRising m → IsRising x → AgreeOn is_own m x → is_own q ≡ true → is_touched q m cs ≡ is_touched q x (filter is_taken cs)
    is_touched-apart m x [] q t r s a h = refl
    is_touched-apart m x (c ∷ cs) q t r s a h = touched_by (is_taken c) m x c cs q t refl r s a h (λ n y p u b. is_touched-apart n y cs q t p u b h)

    -- what the net run says of such a key is what the net run of the commands that are taken says
    pub net_run-apart : (m x : Pairs) (cs : List (Command A)) (q : List ℕ) → TakesAll is_own is_taken → IsRising m → IsRising x → AgreeOn is_own m x → is_own q ≡ true → value_at q (net_run m cs) ≡ value_at q (net_run x (filter is_taken cs))
    net_run-apart m x cs q t r s a h =
        value_at-touched (map_after_all m cs) m cs q
        ∙ said_same (is_touched q m cs) (is_touched q x (filter is_taken cs)) q (map_after_all m cs) (map_after_all x (filter is_taken cs)) (is_touched-apart m x cs q t r s a h) (map_after_all-apart m x cs t r s a q h)
        ∙ sym (value_at-touched (map_after_all x (filter is_taken cs)) x (filter is_taken cs) q)

    untouched_by : (b : Bool) (x : Pairs) (c : Command A) (cs : List (Command A)) (q : List ℕ) → TakesNoOther is_own is_taken → is_taken c ≡ b → is_own q ≡ false → ((y : Pairs) → is_touched q y (filter is_taken cs) ≡ false) → is_touched q x (cond b (c ∷ filter is_taken cs) (filter is_taken cs)) ≡ false
    untouched_by true x c cs q t e h ih = ap (λ (u : Bool). u || is_touched q (map_after x c) (filter is_taken cs)) (touches_none_else x c q (t c e q h)) ∙ ih (map_after x c)
    untouched_by false x c cs q t e h ih = ih x

    untouched_others : (x : Pairs) (cs : List (Command A)) (q : List ℕ) → TakesNoOther is_own is_taken → is_own q ≡ false → is_touched q x (filter is_taken cs) ≡ false
    untouched_others x [] q t h = refl
    untouched_others x (c ∷ cs) q t h = untouched_by (is_taken c) x c cs q t refl h (λ y. untouched_others y cs q t h)

    -- and if no command on another key is executed, the net run has no other key
    pub net_run-no_other : (x : Pairs) (cs : List (Command A)) (q : List ℕ) → TakesNoOther is_own is_taken → is_own q ≡ false → value_at q (net_run x (filter is_taken cs)) ≡ None
    net_run-no_other x cs q t h =
        value_at-touched (map_after_all x (filter is_taken cs)) x (filter is_taken cs) q
        ∙ ap (λ (b : Bool). said_if b q (map_after_all x (filter is_taken cs))) (untouched_others x cs q t h)

    absent_by_test : (b : Bool) (x : Pairs) (c : Command A) (cs : List (Command A)) (q : List ℕ) → GivesNoOther is_own is_taken → is_taken c ≡ b → is_own q ≡ false → IsRising x → value_at q x ≡ None
        → ((y : Pairs) → IsRising y → value_at q y ≡ None → is_touched q y (filter is_taken cs) ≡ false) → is_touched q x (cond b (c ∷ filter is_taken cs) (filter is_taken cs)) ≡ false
    absent_by_test true x c cs q t e h r n ih =
        let here : touches q x c ≡ false = untouched_absent x c q (t c e q h) n in
        ap (λ (u : Bool). u || is_touched q (map_after x c) (filter is_taken cs)) here
        ∙ ih (map_after x c) (rising-map_after x c r) (untouched_once x c q r here ∙ n)
    absent_by_test false x c cs q t e h r n ih = ih x r n

    untouched_there : (x : Pairs) (cs : List (Command A)) (q : List ℕ) → GivesNoOther is_own is_taken → is_own q ≡ false → IsRising x → value_at q x ≡ None → is_touched q x (filter is_taken cs) ≡ false
    untouched_there x [] q t h r n = refl
    untouched_there x (c ∷ cs) q t h r n = absent_by_test (is_taken c) x c cs q t refl h r n (λ y s o. untouched_there y cs q t h s o)

    -- if the map has no other key, and no executed command sets another key, the net run has no other key
    pub net_run-no_other_there : (x : Pairs) (cs : List (Command A)) (q : List ℕ) → GivesNoOther is_own is_taken → HasNoOther is_own x → IsRising x → is_own q ≡ false → value_at q (net_run x (filter is_taken cs)) ≡ None
    net_run-no_other_there x cs q t n r h =
        value_at-touched (map_after_all x (filter is_taken cs)) x (filter is_taken cs) q
        ∙ ap (λ (b : Bool). said_if b q (map_after_all x (filter is_taken cs))) (untouched_there x cs q t h r (n q h))
