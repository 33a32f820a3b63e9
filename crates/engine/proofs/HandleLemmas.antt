-- The calls of a handle: what one that executes one command says, by the batch that it makes, and the reply that a token finds.
use Rattle.std.specs.Prelude.{◌≡◌, ◌-◌, ℕ, zero, suc, ⊤, Bool, true, false, not, is_some, if◌then◌else◌, List, [], ◌∷◌, length, take, drop, slice_get, Option, Some, None, Result, Ok, Err, MatchOption, OnOk, OnErr}
use Rattle.std.proofs.Common.{refl, sym, ap, ◌∙◌, subst, inl, inr}
use Rattle.std.specs.declared.alloc.Global.{Global}
use Rattle.keys.specs.Bytes.{Bytes, Pairs}
use Rattle.keys.specs.OrderedMap.{value_at, with_pair, without}
use Rattle.keys.specs.Range.{in_range, out_of_range}
use Rattle.keys.specs.Step.{reply_to, map_after, replies_to, map_after_all}
use Rattle.keys.specs.declared.command.Command.{Command}
use Rattle.keys.specs.declared.command.Command.TheVariants.{Put, Add, Del, Wipe}
use Rattle.keys.specs.declared.command.Reply.{Reply}
use Rattle.keys.specs.declared.command.Reply.TheVariants.{New, Replaced, Added, Exists, Deleted, Missing, Wiped}
use Rattle.keys.specs.declared.fault.Fault.{Fault}
use Rattle.keys.proofs.MapLemmas.{order_itself}
use Rattle.flush_log.specs.Disk.{View}
use Rattle.mapping.specs.Levels.{contents}
use Rattle.engine.specs.Batch.{IsLaterFault}
use Rattle.engine.specs.Compacted.{IsCompacted}
use Rattle.engine.specs.Handle.{IsCall}
use Rattle.engine.specs.OneStep.{IsBatch}
use Rattle.engine.specs.Refusal.{refusal}
use Rattle.engine.specs.State.{State}
use Rattle.engine.specs.Tokens.{is_new, was_deleted, wiped_count}
use Rattle.engine.proofs.RefusedCalls.{refused_as}

-- ---- a batch by another call

abbrev done_as : {Y : Type 0} → Y → Result Y Fault
done_as y = Ok y

abbrev wiped_as : ℕ → Reply Global
wiped_as n = Wiped n

abbrev del_as : Bytes → Command Global
del_as k = Del k

not_done : {X : Type 0} (x : X) (fault : Fault) → done_as x ≡ refused_as fault → ⊥
not_done x fault e = cc

unrefused_as : {X Y : Type 0} (x : X) (y : Y) (o : Option Fault) → MatchOption o ⊤ (λ fault. done_as x ≡ refused_as fault) → MatchOption o ⊤ (λ fault. done_as y ≡ refused_as fault)
unrefused_as x y None h = tt
unrefused_as x y (Some fault) h = absurd (not_done x fault h)

same_fault : {X Y : Type 0} (f g : Fault) → refused_as {Y = X} f ≡ refused_as g → refused_as {Y = Y} f ≡ refused_as g
same_fault {X = X} {Y = Y} f g e = (let same : f ≡ g = cc in ap (λ (x : Fault). refused_as {Y = Y} x) same)

refused_too : (X Y : Type 0) (fault : Fault) (o : Option Fault) (P : Fault → Type 0) → MatchOption o (P fault) (λ g. refused_as {Y = X} fault ≡ refused_as g) → MatchOption o (P fault) (λ g. refused_as {Y = Y} fault ≡ refused_as g)
refused_too X Y fault None P h = h
refused_too X Y fault (Some g) P h = same_fault {X = X} {Y = Y} fault g h

module _ {D X Y : Type 0} (view : D → View) (able : Bool) (old new : State D) (cs : List (Command Global)) (said : X → List (Reply Global)) (says : Y → List (Reply Global)) where
  -- a call that returns the same replies
  pub batch_done : (x : X) (y : Y) → says y ≡ said x → IsBatch view able old cs (Ok x) said new → IsBatch view able old cs (Ok y) says new
  batch_done x y same b = record {
    replies = same ∙ b.replies;
    store = b.store;
    contents = b.contents;
    rest = b.rest;
    failed = λ bad. absurd (not_done x _ (b.failed bad));
    bad_crew = λ fine out. absurd (not_done x _ (b.bad_crew fine out));
    refused = λ fine in_range. unrefused_as x y (refusal old.settings cs) (b.refused fine in_range);
    unchanged = tt;
    allowed = b.allowed;
    sound = b.sound;
  }

  -- a call that returns the same fault
  pub batch_refused : (fault : Fault) → IsBatch view able old cs (Err fault) said new → IsBatch view able old cs (Err fault) says new
  batch_refused fault b = record {
    replies = tt;
    store = tt;
    contents = tt;
    rest = b.rest;
    failed = λ bad. same_fault fault _ (b.failed bad);
    bad_crew = λ fine out. same_fault fault _ (b.bad_crew fine out);
    refused = λ fine in_range. refused_too X Y fault (refusal old.settings cs) (IsLaterFault old.settings old.store.tree cs) (b.refused fine in_range);
    unchanged = b.unchanged;
    allowed = tt;
    sound = b.sound;
  }

-- ---- one command

module _ {D : Type 0} (view : D → View) (old new : State D) (c : Command Global) where
  -- the reply, and the map after it
  replied : (r : Reply Global) → IsCall view old c (Ok r) (λ reply. reply) new
      → (r ≡ reply_to (contents old.store.tree) c) × (contents new.store.tree ≡ map_after (contents old.store.tree) c)
  replied r (inl none) = absurd (not_done r _ none.0)
  replied r (inr b) = (let same : (let rs : List (Reply Global) = r ∷ [] in rs ≡ reply_to (contents old.store.tree) c ∷ []) = b.replies in (cc, b.contents))

  call_done : {X Y : Type 0} (from : X → Reply Global) (answer : Y → Reply Global) (x : X) (y : Y) → answer y ≡ from x → IsCall view old c (Ok x) from new → IsCall view old c (Ok y) answer new
  call_done from answer x y same (inl none) = absurd (not_done x _ none.0)
  call_done from answer x y same (inr b) = inr (batch_done view true old new (c ∷ []) (λ x. from x ∷ []) (λ y. answer y ∷ []) x y (ap (λ (reply : Reply Global). reply ∷ []) same) b)

  pub call_refused : {X Y : Type 0} (from : X → Reply Global) (answer : Y → Reply Global) (d : Command Global) (fault : Fault) → d ≡ c → IsCall view old d (Err fault) from new → IsCall view old c (Err fault) answer new
  call_refused {X = X} {Y = Y} from answer d fault is call = by (subst (λ (x : Command Global). IsCall view old x (refused_as {Y = X} fault) from new) is call)
    where
      by : IsCall view old c (refused_as {Y = X} fault) from new → IsCall view old c (refused_as {Y = Y} fault) answer new
      by (inl none) = inl (same_fault {X = X} fault _ none.0, none.1)
      by (inr b) = inr (batch_refused view true old new (c ∷ []) (λ x. from x ∷ []) (λ y. answer y ∷ []) fault b)

  pub call_unchanged : {X : Type 0} (answer : X → Reply Global) (fault : Fault) → IsCall view old c (Err fault) answer new → new ≡ old
  call_unchanged answer fault (inl none) = none.1
  call_unchanged answer fault (inr b) = b.unchanged

-- ---- its answers

put_answer : (b : Bool) → is_new (if b then Replaced else New) ≡ not b
put_answer true = refl
put_answer false = refl

put_said : (b : Bool) → if◌then◌else◌ {A = Reply Global} (not b) New Replaced ≡ if◌then◌else◌ {A = Reply Global} b Replaced New
put_said true = refl
put_said false = refl

add_answer : (b : Bool) → is_new (if b then Exists else Added) ≡ not b
add_answer true = refl
add_answer false = refl

add_said : (b : Bool) → if◌then◌else◌ {A = Reply Global} (not b) Added Exists ≡ if◌then◌else◌ {A = Reply Global} b Exists Added
add_said true = refl
add_said false = refl

add_map : (b : Bool) (m more : Pairs Bytes) → (if b then m else more) ≡ (if not b then more else m)
add_map true m more = refl
add_map false m more = refl

del_answer : (b : Bool) → was_deleted (if b then Deleted else Missing) ≡ b
del_answer true = refl
del_answer false = refl

module _ {D : Type 0} (view : D → View) (old new : State D) (d : Command Global) (r : Reply Global) (call : IsCall view old d (Ok r) (λ reply. reply) new) where
  of_same : (c : Command Global) → d ≡ c → IsCall view old c (Ok r) (λ reply. reply) new
  of_same c is = subst (λ (x : Command Global). IsCall view old x (done_as r) (λ reply. reply) new) is call

  pub put_done : (k v : Bytes) (y : Bool) → d ≡ Put k v → y ≡ is_new r
      → (y ≡ not (is_some (value_at k (contents old.store.tree)))) × (contents new.store.tree ≡ with_pair (contents old.store.tree) k v)
      × IsCall view old (Put k v) (Ok y) (λ was_absent. if was_absent then New else Replaced) new
  put_done k v y is said =
      let own = of_same (Put k v) is in
      let (reply, after) = replied view old new (Put k v) r own in
      let answer = said ∙ ap is_new reply ∙ put_answer (is_some (value_at k (contents old.store.tree))) in
      let same = ap (λ (b : Bool). if◌then◌else◌ {A = Reply Global} b New Replaced) answer ∙ put_said (is_some (value_at k (contents old.store.tree))) ∙ sym reply in
      (answer, after, call_done view old new (Put k v) (λ (reply : Reply Global). reply) (λ (was_absent : Bool). if was_absent then New else Replaced) r y same own)

  pub add_done : (k v : Bytes) (y : Bool) → d ≡ Add k v → y ≡ is_new r
      → (y ≡ not (is_some (value_at k (contents old.store.tree)))) × (contents new.store.tree ≡ (if y then with_pair (contents old.store.tree) k v else contents old.store.tree))
      × IsCall view old (Add k v) (Ok y) (λ was_absent. if was_absent then Added else Exists) new
  add_done k v y is said =
      let m = contents old.store.tree in
      let own = of_same (Add k v) is in
      let (reply, after) = replied view old new (Add k v) r own in
      let answer = said ∙ ap is_new reply ∙ add_answer (is_some (value_at k m)) in
      let same = ap (λ (b : Bool). if◌then◌else◌ {A = Reply Global} b Added Exists) answer ∙ add_said (is_some (value_at k m)) ∙ sym reply in
      let map = after ∙ add_map (is_some (value_at k m)) m (with_pair m k v) ∙ ap (λ (b : Bool). if b then with_pair m k v else m) (sym answer) in
      (answer, map, call_done view old new (Add k v) (λ (reply : Reply Global). reply) (λ (was_absent : Bool). if was_absent then Added else Exists) r y same own)

  pub del_done : (k : Bytes) (y : Bool) → d ≡ Del k → y ≡ was_deleted r
      → (y ≡ is_some (value_at k (contents old.store.tree))) × (contents new.store.tree ≡ without (contents old.store.tree) k)
      × IsCall view old (Del k) (Ok y) (λ was_present. if was_present then Deleted else Missing) new
  del_done k y is said =
      let own = of_same (Del k) is in
      let (reply, after) = replied view old new (Del k) r own in
      let answer = said ∙ ap was_deleted reply ∙ del_answer (is_some (value_at k (contents old.store.tree))) in
      let same = ap (λ (b : Bool). if◌then◌else◌ {A = Reply Global} b Deleted Missing) answer ∙ sym reply in
      (answer, after, call_done view old new (Del k) (λ (reply : Reply Global). reply) (λ (was_present : Bool). if was_present then Deleted else Missing) r y same own)

  pub wipe_done : (lo : Bytes) (hi : Option Bytes) (y : ℕ) → d ≡ Wipe lo hi → y ≡ wiped_count r
      → (y ≡ length (in_range lo hi (contents old.store.tree))) × (contents new.store.tree ≡ out_of_range lo hi (contents old.store.tree))
      × IsCall view old (Wipe lo hi) (Ok y) (λ count. Wiped count) new
  wipe_done lo hi y is said =
      let own = of_same (Wipe lo hi) is in
      let (reply, after) = replied view old new (Wipe lo hi) r own in
      let answer = said ∙ ap wiped_count reply in
      let same = ap (λ (n : ℕ). wiped_as n) answer ∙ sym reply in
      (answer, after, call_done view old new (Wipe lo hi) (λ (reply : Reply Global). reply) (λ (count : ℕ). Wiped count) r y same own)

-- ---- the call of one command

-- its batch was refused
pub one_refused : {D X : Type 0} (view : D → View) (old new : State D) (c : Command Global) (cs : List (Command Global)) (said : X → List (Reply Global)) (fault : Fault) → cs ≡ c ∷ []
    → IsBatch view true old cs (Err fault) said new → IsCall view old c (Err fault) (λ reply. reply) new
one_refused {X = X} view old new c cs said fault is batch =
    inr (batch_refused view true old new (c ∷ []) said (λ (reply : Reply Global). reply ∷ []) fault (subst (λ (x : List (Command Global)). IsBatch view true old x (refused_as {Y = X} fault) said new) is batch))

-- ---- the first pair

without_first : (m : Pairs Bytes) (e : Bytes × Bytes) → slice_get m 0 ≡ Some e → without m e.0 ≡ drop 1 m
without_first [] e h = absurd (cc)
without_first (x ∷ m) e h = (let same : x ≡ e = cc in rw (same, order_itself e.0) refl)

-- it is there
first_is_there : (m : Pairs Bytes) (e : Bytes × Bytes) → slice_get m 0 ≡ Some e → is_some (value_at e.0 m) ≡ true
first_is_there [] e h = absurd (cc)
first_is_there (x ∷ m) e h = (let same : x ≡ e = cc in rw (same, order_itself e.0) refl)

-- What `pop_first` says of its command.
abbrev IsPopped : {D : Type 0} → (D → View) → State D → Result (Option (Bytes × Bytes)) Fault → State D → Type 0
IsPopped view old result new = MatchOption (slice_get (contents old.store.tree) 0) (new ≡ old) (λ pair. IsCall view old (Del pair.0) result (λ popped. Deleted) new)

module _ {D : Type 0} (view : D → View) (old : State D) where
  module _ (new : State D) (pair : Bytes × Bytes) (k : Bytes) (first : slice_get (contents old.store.tree) 0 ≡ Some pair) (is : k ≡ pair.0) where
    pub not_popped : (fault : Fault) → IsCall view old (Del k) (Err fault) (λ was_present. if was_present then Deleted else Missing) new → IsPopped view old (Err fault) new
    not_popped fault call =
        rw first (call_refused view old new (Del pair.0) (λ (was_present : Bool). if was_present then Deleted else Missing) (λ (popped : Option (Bytes × Bytes)). Deleted) (Del k) fault (ap del_as is) call)

    pub popped_first : (y : Bool) → y ≡ is_some (value_at k (contents old.store.tree)) → contents new.store.tree ≡ without (contents old.store.tree) k
        → IsCall view old (Del k) (Ok y) (λ was_present. if was_present then Deleted else Missing) new
        → (contents new.store.tree ≡ drop 1 (contents old.store.tree)) × IsPopped view old (Ok (Some pair)) new
    popped_first y answer after call =
        let own = subst (λ (x : Bytes). IsCall view old (Del x) (done_as y) (λ (was_present : Bool). if was_present then Deleted else Missing) new) is call in
        let there = answer ∙ ap (λ (x : Bytes). is_some (value_at x (contents old.store.tree))) is ∙ first_is_there (contents old.store.tree) pair first in
        let same = ap (λ (b : Bool). if◌then◌else◌ {A = Reply Global} b Deleted Missing) (sym there) in (
          after ∙ ap (λ (x : Bytes). without (contents old.store.tree) x) is ∙ without_first (contents old.store.tree) pair first,
          rw first (call_done view old new (Del pair.0) (λ (was_present : Bool). if was_present then Deleted else Missing) (λ (popped : Option (Bytes × Bytes)). Deleted) y (Some pair) same own),
        )

-- ---- tokens

pub token_reply : {A : Type 0} (m : Pairs Bytes) (cs : List (Command A)) (token : ℕ) (c : Command A) → slice_get cs token ≡ Some c
    → slice_get (replies_to m cs) token ≡ Some (reply_to (map_after_all m (take token cs)) c)
token_reply m [] token c h = absurd (cc)
token_reply {A = A} m (d ∷ cs) zero c h = (let same : d ≡ c = cc in ap (λ (x : Command A). Some (reply_to m x)) same)
token_reply m (d ∷ cs) (suc token) c h = token_reply (map_after m d) cs token c h

-- ---- a compaction

-- whether the store was compacted or not, it has the same pairs
pub compacted_or_not : {D : Type 0} (old new : State D) (r : Result ℕ Fault) → OnOk r (IsCompacted old.settings old.store new.store) → OnErr r (new ≡ old) → contents new.store.tree ≡ contents old.store.tree
compacted_or_not old new (Ok pages) done unchanged = done.holds
compacted_or_not old new (Err fault) done unchanged = ap (λ x. contents x.store.tree) unchanged
