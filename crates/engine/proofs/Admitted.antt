-- A batch that is not refused has keys and values within the settings.
use Rattle.std.specs.Prelude.{◌≡◌, ◌≤◌, ℕ, ◌+◌, Bool, true, false, nat_lt, List, [], ◌∷◌, length, Option, Some, None, Result, Ok, Err, MatchOption, IfSome, if◌then◌else◌}
use Rattle.std.proofs.Common.{refl}
use Rattle.std.specs.Option.{option_or}
use Rattle.std.proofs.lemmas.Bool.{ltb-false}
use Rattle.keys.specs.Footprint.{Span, One, Range, Access, Gives, span_of, access_of}
use Rattle.keys.specs.declared.settings.Settings.{Settings}
use Rattle.keys.specs.declared.command.Command.{Command}
use Rattle.keys.specs.declared.fault.Fault.{Fault}
use Rattle.climb_plan.specs.Limits.{IsShortPair, IsShortAccess, IsShortCommand, AreShort}
use Rattle.engine.specs.Refusal.{key_fault, value_fault, bound_fault, deed_fault, fault_at, first_fault, refusal}
use Rattle.engine.proofs.RefusedCalls.{refused_as, same_refusal}

-- a batch that passed the checks is not refused
pub passed_by : {U : Type 0} (o : Option Fault) (r : Result U Fault) (u v : U) → MatchOption o (r ≡ Ok u) (λ fault. r ≡ Err fault) → r ≡ Ok v → o ≡ None
passed_by None r u v h e = refl
passed_by (Some fault) r u v h e = absurd (cc)

-- one that did not pass is refused with its fault
pub refused_by_own : {U : Type 0} (Y : Type 0) (o : Option Fault) (r : Result U Fault) (u : U) (fault : Fault) (P : Type 0) → MatchOption o (r ≡ Ok u) (λ f. r ≡ Err f) → r ≡ Err fault → MatchOption o P (λ f. refused_as {Y = Y} fault ≡ Err f)
refused_by_own Y None r u fault P own was = absurd (cc)
refused_by_own Y (Some f) r u fault P own was = same_refusal r fault f was own

pub neither : {X : Type 0} (o p : Option X) → option_or o p ≡ None → (o ≡ None) × (p ≡ None)
neither None p e = (refl, e)
neither (Some x) p e = absurd (cc)

pub none_where : (b : Bool) (fault : Fault) → (if b then Some fault else None) ≡ None → b ≡ false
none_where true fault e = absurd (cc)
none_where false fault e = refl

short_where : (max n : ℕ) (fault : Fault) → (if nat_lt max n then Some fault else None) ≡ None → n ≤ max
short_where max n fault e = ltb-false max n (none_where (nat_lt max n) fault e)

short_pair : (s : Settings) (place : ℕ) (k v : List ℕ) → option_or (key_fault s place k) (value_fault s place v) ≡ None → IsShortPair s k v
short_pair s place k v e =
    let parts = neither (key_fault s place k) (value_fault s place v) e in
    (short_where s.max_key (length k) _ parts.0, short_where s.max_value (length v) _ parts.1)

short_bound : (s : Settings) (place : ℕ) (hi : Option (List ℕ)) → bound_fault s place hi ≡ None → IfSome hi (λ end. length end ≤ s.max_key)
short_bound s place None e = tt
short_bound s place (Some hi) e = short_where s.max_key (length hi) _ e

short_deed : (s : Settings) (place : ℕ) (span : Span) (deed : Access) → deed_fault s place span deed ≡ None → IsShortAccess s span deed
short_deed s place (One k) (Gives v) e = short_pair s place k v e
short_deed s place (One k) _ e = short_where s.max_key (length k) _ e
short_deed s place (Range lo hi) deed e =
    let parts = neither (key_fault s place lo) (bound_fault s place hi) e in
    (short_where s.max_key (length lo) _ parts.0, short_bound s place hi parts.1)

module _ {A : Type 0} (s : Settings) where
  short_command : (place : ℕ) (c : Command A) → fault_at s place c ≡ None → IsShortCommand s c
  short_command place c e = short_deed s place (span_of c) (access_of c) e

  short_from : (place : ℕ) (cs : List (Command A)) → first_fault s place cs ≡ None → AreShort s cs
  short_from place [] e = tt
  short_from place (c ∷ cs) e =
      let parts = neither (fault_at s place c) (first_fault s (place + 1) cs) e in
      (short_command place c parts.0, short_from (place + 1) cs parts.1)

  short_by : (b : Bool) (fault : Fault) (cs : List (Command A)) → (if b then Some fault else first_fault s 0 cs) ≡ None → AreShort s cs
  short_by true fault cs e = absurd (cc)
  short_by false fault cs e = short_from 0 cs e

  pub admitted : (cs : List (Command A)) → refusal s cs ≡ None → AreShort s cs
  admitted cs e = short_by _ _ cs e
