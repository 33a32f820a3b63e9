use Rattle.std.proofs.Common.{◌≡◌, ◌||◌, codes, refl, rules, true, is_some, string_bytes}
use Rattle.clap.specs.Words.{kind_of}
use Rattle.bwsh.specs.Options.{IsRightKind, texts}
use Rattle.bwsh.proofs.AskedLemmas.{asked_by_parsed, error_is_right, handed_on, options_are_asked, pairs_error_is_right, together_is}
use Rattle.bwsh.proofs.FoundLemmas.{field_read, path_is_given}
use Rattle.bwsh.proofs.options.options.Goals as goal
use Rattle.bwsh.proofs.options.options.Goals.{then-create, else-create}

pub returns-clause-ok : goal.returns-clause-ok
returns-clause-ok c =
    let words = texts c.args.words.now in
    let (given, parsed, rows, all) = options_are_asked words _ c.in_ok-matches.ensures.err c.in_ok-matches.ensures.ok in
    let pairs = field_read (codes "pairs") (codes "0") 0 given _ _ refl refl refl refl all rows c.number_at-pairs.ensures in
    let create = c.flag_at-create.ensures refl given all rows in
    let disk = c.in_ok-disk.ensures refl given rows in
    let copy = c.in_ok-copy_to.ensures refl given rows in
    let new : c.if-create.check_pairs ≡ (c.flag_at-create.result || is_some c.in_ok-copy_to.copy_to) =
    elim c.if-create.branch [ then-create w ↦ (search rules) | else-create w ↦ (search rules) ] in
    let usable = together_is given _ _ _ _ _ true pairs new create (path_is_given (codes "copy-to") given string_bytes c.in_ok-copy_to.copy_to copy)
    (c.has_size.ensures given rows) c.in_ok-check_pairs.ensures.ok in (
      given,
      asked_by_parsed words given true parsed usable,
      c.asked_settings.ensures given all rows pairs,
      rw (c.crew.ensures given all rows, disk, copy, create, c.mode.ensures given all rows) refl,
    )

pub returns-clause-err : goal.returns-clause-err
returns-clause-err c = tt

pub returns-in_err-check_pairs-clause-err : goal.returns-in_err-check_pairs-clause-err
returns-in_err-check_pairs-clause-err c =
    let words = texts c.args.words.now in
    let (given, parsed, rows, all) = options_are_asked words _ c.in_ok-matches.ensures.err c.in_ok-matches.ensures.ok in
    let pairs = field_read (codes "pairs") (codes "0") 0 given _ _ refl refl refl refl all rows c.number_at-pairs.ensures in
    let create = c.flag_at-create.ensures refl given all rows in
    let copy = c.in_ok-copy_to.ensures refl given rows in
    let new : c.if-create.check_pairs ≡ (c.flag_at-create.result || is_some c.in_ok-copy_to.copy_to) =
    elim c.if-create.branch [ then-create w ↦ (search rules) | else-create w ↦ (search rules) ] in
    let usable = together_is given _ _ _ _ _ _ pairs new create (path_is_given (codes "copy-to") given string_bytes c.in_ok-copy_to.copy_to copy)
    (c.has_size.ensures given rows) refl in
    let error = c.in_err-check_pairs.field-0.0 in
    handed_on c.from_residual-in_err-check_pairs.result error (λ e. IsRightKind words (kind_of e)) c.from_residual-in_err-check_pairs.ensures.1
    (pairs_error_is_right words given (kind_of error) _ parsed usable c.in_err-check_pairs.ensures.err)

pub returns-in_err-matches-clause-err : goal.returns-in_err-matches-clause-err
returns-in_err-matches-clause-err c =
    let words = texts c.args.words.now in
    handed_on c.from_residual.result c.in_err-matches.field-0.0 (λ e. IsRightKind words (kind_of e)) c.from_residual.ensures.1
    (error_is_right words c.in_err-matches.field-0.0 c.in_err-matches.ensures.err)
