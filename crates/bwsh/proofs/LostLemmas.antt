-- Lemmas on lines for which an allocation failed.
use Rattle.std.proofs.Common.{◌≡◌, ◌∙◌, if◌then◌else◌, Bool, true, false, List, [], ◌∷◌, Option, Some, None, IfSome, Result, Ok, Err, IfOk, codes, inl, inr, is_some, refl, subst, sym, unwrap_or, ℕ}
use Rattle.std.specs.Result.{result_unwrap_or}
use Rattle.std.specs.Str.{bytes_eq}
use Rattle.std.specs.declared.alloc.Global.{Global}
use Rattle.keys.specs.Bytes.{Bytes}
use Rattle.keys.specs.declared.command.Command.{Command}
use Rattle.bwsh.specs.declared.line.Line.{Line}
use Rattle.bwsh.specs.declared.line.Line.TheVariants as line_variants
use Rattle.bwsh.specs.declared.line.Why.{Why}
use Rattle.bwsh.specs.declared.line.Why.TheVariants.{WordCount}
use Rattle.bwsh.specs.declared.order.Order.TheVariants.{Lost}
use Rattle.bwsh.specs.BatchFile.{IsReadAs}
use Rattle.bwsh.specs.Line.{back_of, bound_of, command_or_bad, copy_by, key_and_value, only_key, parse_command, parse_copy, parse_prefix, parse_wipe, prefix_by, range_and_limit, wipe_by}
use Rattle.bwsh.specs.Number.{number_in}
use Rattle.bwsh.specs.Token.{token_bytes}

-- ---- orders

-- the line can be read as an order that is refused
abbrev CanBeRefused : Line → Type 0
CanBeRefused said = IsReadAs true said (line_variants.Order Lost)

refused_back : (r : Result (Bytes × Option Bytes × ℕ) Why) → CanBeRefused (back_of r)
refused_back (Ok (lo, hi, limit)) = inr refl
refused_back (Err why) = inr (inr refl)

pub lost_back : (words : List Bytes) → CanBeRefused (back_of (range_and_limit words))
lost_back words = refused_back (range_and_limit words)

refused_copy : (path : Option Bytes) (segments : Option (Option ℕ)) → CanBeRefused (copy_by path segments)
refused_copy None segments = inr (inr refl)
refused_copy (Some path) None = inr (inr refl)
refused_copy (Some path) (Some segments) = inr refl

pub lost_copy : (words : List Bytes) → CanBeRefused (parse_copy words)
lost_copy [] = inr (inr refl)
lost_copy (path ∷ []) = refused_copy (token_bytes path) (Some None)
lost_copy (path ∷ segments ∷ []) = refused_copy (token_bytes path) _
lost_copy (path ∷ segments ∷ word ∷ words) = inr (inr refl)

refused_prefix : (bytes : Option Bytes) (limit : Option ℕ) → CanBeRefused (prefix_by bytes limit)
refused_prefix None limit = inr (inr refl)
refused_prefix (Some bytes) None = inr (inr refl)
refused_prefix (Some bytes) (Some limit) = inr refl

pub lost_prefix : (words : List Bytes) → CanBeRefused (parse_prefix words)
lost_prefix [] = inr (inr refl)
lost_prefix (bytes ∷ []) = inr (inr refl)
lost_prefix (bytes ∷ limit ∷ []) = refused_prefix (token_bytes bytes) (number_in limit)
lost_prefix (bytes ∷ limit ∷ word ∷ words) = inr (inr refl)

-- an order was parsed, or is refused
pub or_refused : {E : Type 0} (said got : Line) (r : Result Line E) → IfOk r (λ parsed. parsed ≡ said) → CanBeRefused said → got ≡ result_unwrap_or r (line_variants.Order Lost) → IsReadAs true said got
or_refused said got (Ok line) parsed can is = inl (is ∙ parsed)
or_refused said got (Err e) parsed can is = subst (IsReadAs true said) (sym is) can

-- ---- commands

-- the line can be lost
abbrev CanBeLost : Line → Type 0
CanBeLost said = (stream : Bool) → IsReadAs stream said line_variants.Lost

lost_command : {X : Type 0} (command : X → Command Global) (r : Result X Why) → CanBeLost (command_or_bad command r)
lost_command command (Ok x) true = inr refl
lost_command command (Ok x) false = inr refl
lost_command command (Err why) true = inr (inl refl)
lost_command command (Err why) false = inr refl

lost_wipe_by : (lo : Option Bytes) (hi : Option (Option Bytes)) → CanBeLost (wipe_by lo hi)
lost_wipe_by None hi true = inr (inl refl)
lost_wipe_by None hi false = inr refl
lost_wipe_by (Some lo) None true = inr (inl refl)
lost_wipe_by (Some lo) None false = inr refl
lost_wipe_by (Some lo) (Some hi) true = inr refl
lost_wipe_by (Some lo) (Some hi) false = inr refl

lost_count : CanBeLost (line_variants.Bad WordCount)
lost_count true = inr (inl refl)
lost_count false = inr refl

lost_wipe : (words : List Bytes) → CanBeLost (parse_wipe words)
lost_wipe [] = lost_count
lost_wipe (lo ∷ []) = lost_count
lost_wipe (lo ∷ hi ∷ []) = lost_wipe_by (token_bytes lo) (bound_of hi)
lost_wipe (lo ∷ hi ∷ word ∷ words) = lost_count

either_lost : (b : Bool) (said : Line) (others : Option Line) → CanBeLost said → IfSome others CanBeLost → IfSome (if b then Some said else others) CanBeLost
either_lost true said others can rest = can
either_lost false said others can rest = rest

-- the line of a command can be
commands_lost : (word : Bytes) (words : List Bytes) → IfSome (parse_command word words) CanBeLost
commands_lost word words =
    either_lost (bytes_eq word (codes "put")) _ _ (lost_command _ (key_and_value words))
    (either_lost (bytes_eq word (codes "add")) _ _ (lost_command _ (key_and_value words))
    (either_lost (bytes_eq word (codes "get")) _ _ (lost_command _ (only_key words))
    (either_lost (bytes_eq word (codes "del")) _ _ (lost_command _ (only_key words))
    (either_lost (bytes_eq word (codes "scan")) _ _ (lost_command _ (range_and_limit words))
    (either_lost (bytes_eq word (codes "wipe")) _ None (lost_wipe words) tt)))))

pub lost_by_word : (stream : Bool) (word : Bytes) (words : List Bytes) (other : Line) → is_some (parse_command word words) ≡ true
    → IsReadAs stream (unwrap_or (parse_command word words) other) line_variants.Lost
lost_by_word stream word words other some = by (parse_command word words) (commands_lost word words) some
  where
    by : (o : Option Line) → IfSome o CanBeLost → is_some o ≡ true → IsReadAs stream (unwrap_or o other) line_variants.Lost
    by (Some line) can some = can stream
    by None can some = absurd (cc)
