-- The command line of `bwsh` as `clap` sees it.
use Rattle.std.proofs.Common.{◌≡◌, ◌≤◌, ◌∙◌, ℕ, ap, ap₂, refl, sym, false, true, codes, subst, List, length, drop, map, Result, Ok, Err, IfOk}
use Rattle.std.specs.List.{fold}
use Rattle.std.proofs.lemmas.List.{drop_all}
use Rattle.clap.specs.Words.{AddsArg, App, FailsBy, HasMatchesOf, Text, fault_of, found_of, matches_of, new_app, rows_of, Rule, app_of, is_simple, is_simple_and_free, rule_of, with_rule}
use Rattle.clap.specs.Simple.{on_top}
use Rattle.clap.specs.declared.error.Error.{Error}
use Rattle.clap.specs.declared.parser.matches.ArgMatches.{ArgMatches}
use Rattle.clap.specs.declared.builder.arg.Arg.{Arg}
use Rattle.clap.specs.declared.builder.command.Command.{Command}
use Rattle.bwsh.specs.CommandLine.{bwsh, plain_bwsh}

-- an argument that is not global is one more rule
pub rule_added : (old new : Command) (a : Arg) (app : App) (rule : Rule) → AddsArg old a new → a.global ≡ false → app_of old ≡ app → rule_of a ≡ rule
    → app_of new ≡ with_rule app rule
rule_added old new a app rule added local is_app is_rule = added.shape local ∙ ap₂ with_rule is_app is_rule

-- all arguments of a list are added if none is left
pub all_added : {X : Type 0} (rule : X → Rule) (xs : List X) (i : ℕ) (app all : App) → fold with_rule app (map rule (drop i xs)) ≡ all → length xs ≤ i → app ≡ all
all_added rule xs i app all is past = ap (λ (l : List _). fold with_rule app (map rule l)) (sym (drop_all i xs past)) ∙ is

pub bwsh_is_simple : is_simple bwsh ≡ true
bwsh_is_simple = refl

pub bwsh_is_simple_and_free : is_simple_and_free bwsh ≡ true
bwsh_is_simple_and_free = refl

-- the command that expects no program name
pub unnamed : (made shown plain : App) → plain ≡ on_top (λ s. record s { no_binary_name = true }) shown → shown ≡ made → made ≡ new_app (codes "bwsh")
    → plain ≡ plain_bwsh
unnamed made shown plain is_plain is_shown is_new = is_plain ∙ ap (on_top (λ s. record s { no_binary_name = true })) (is_shown ∙ is_new)

pub exact_matches : (c : Command) (words : List Text) (r : Result ArgMatches Error) → app_of c ≡ bwsh → IfOk r (HasMatchesOf (app_of c) words)
    → IfOk r (λ m. rows_of (found_of m) ≡ matches_of bwsh words)
exact_matches c words (Err e) is_bwsh h = tt
exact_matches c words (Ok m) is_bwsh h = (subst (λ (a : App). HasMatchesOf a words m) is_bwsh h bwsh_is_simple).0

pub exact_kinds : (c : Command) (words : List Text) (r : Result ArgMatches Error) → app_of c ≡ bwsh
    → (is_simple_and_free (app_of c) ≡ true → FailsBy (fault_of (app_of c) words) r) → FailsBy (fault_of bwsh words) r
exact_kinds c words r is_bwsh h = subst (λ (a : App). is_simple_and_free a ≡ true → FailsBy (fault_of a words) r) is_bwsh h bwsh_is_simple_and_free
