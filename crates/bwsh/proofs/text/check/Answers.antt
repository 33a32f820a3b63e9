use Rattle.std.proofs.Common.{◌≡◌, ◌∙◌, ◌+◌, ◌||◌, ℕ, false, List, [], ◌∷◌, ap, arith, length, map, sym}
use Rattle.std.specs.List.{list_any}
use Rattle.std.proofs.lemmas.Simd.{map-map}
use Rattle.bstr.specs.Text.{lines_of, without_terminator}
use Rattle.bwsh.specs.declared.line.Line.{Line}
use Rattle.bwsh.specs.BatchFile.{IsReadError, first_bad, line_writes, parse_text}
use Rattle.bwsh.specs.Line.{parse_line}
use Rattle.bwsh.proofs.OrderLemmas.{first_bad-next, handed_on, read_error, read_within, writes-end, writes-next}
use Rattle.bwsh.proofs.text.check.Goals as goal

said_by : (text : List ℕ) (lines : List (List ℕ)) → lines ≡ map without_terminator (lines_of text) → map (parse_line false) lines ≡ parse_text false text
said_by text lines e = ap (map (parse_line false)) e ∙ map-map (parse_line false) without_terminator (lines_of text)

pub loop-bytes-init : goal.loop-bytes-init
loop-bytes-init c =
    let value = c.lines-bytes-items.ensures.value in
    let gives = c.into_iter-bytes-iterator.ensures.into_iter_gives in
    let is : c.into_iter-bytes-iterator.result ≡ map without_terminator (lines_of c.args.text.now) = cc in
    let said = said_by c.args.text.now _ is in
    record {
      numbered = omega (arith, ap length is, ap length value, c.lines-bytes-items.ensures.len);
      good = ap (first_bad 1) said;
      writes = ap (list_any line_writes) said;
    }

pub loop-bytes-preserved : goal.loop-bytes-preserved
loop-bytes-preserved c =
    let at = c.loop-bytes in
    let inv = at.invariant in
    let rest : List (List ℕ) = c.next.new.self in
    let split : at.bytes-iterator ≡ c.in-Some.bytes.now ∷ rest = c.in-Some.ensures.steps in
    let said : Line = parse_line false c.in-Some.bytes.now in
    let left : List Line = map (parse_line false) rest in
    let lines : said ∷ left ≡ map (parse_line false) at.bytes-iterator = sym (ap (map (parse_line false)) split) in
    let counted = c.in_ok-counted.was in
    let within = rw counted at c.count-counted.ensures.within in
    let writes = rw counted at c.count-counted.ensures.writes in
    let same = read_within said c.read-line.result c.read-line.ensures within in
    record {
      numbered = omega (arith, inv.numbered, ap length split);
      good =
          sym (first_bad-next (at.number + 1) said c.read-line.result left c.read-line.ensures within)
          ∙ ap (first_bad (at.number + 1)) lines ∙ inv.good;
      writes =
          writes-next at.checked.writes _ said left _ (ap (λ (ls : List Line). at.checked.writes || list_any line_writes ls) lines ∙ inv.writes)
          (writes ∙ ap (λ (l : Line). at.checked.writes || line_writes l) same);
    }

pub returns-in_err-counted-clause-bad : goal.returns-in_err-counted-clause-bad
returns-in_err-counted-clause-bad c =
    let at = c.loop-bytes in
    let rest : List (List ℕ) = c.next.new.self in
    let split : at.bytes-iterator ≡ c.in-Some.bytes.now ∷ rest = c.in-Some.ensures.steps in
    let said : Line = parse_line false c.in-Some.bytes.now in
    let left : List Line = map (parse_line false) rest in
    let lines : said ∷ left ≡ map (parse_line false) at.bytes-iterator = sym (ap (map (parse_line false)) split) in
    let error = c.in_err-counted.field-0.0 in
    handed_on c.from_residual.result error (IsReadError (first_bad 1 (parse_text false c.args.text.now))) c.from_residual.ensures.1
    (read_error (at.number + 1) said c.read-line.result left _ error c.read-line.ensures (ap (first_bad (at.number + 1)) lines ∙ at.invariant.good) (rw c.in_err-counted.was at c.count-counted.ensures.bad))

pub returns-clause-good : goal.returns-clause-good
returns-clause-good c =
    let at = c.loop-bytes in
    let none : at.bytes-iterator ≡ [] = c.in-None.ensures.steps.0 in
    sym at.invariant.good ∙ ap (λ (lines : List (List ℕ)). first_bad (at.number + 1) (map (parse_line false) lines)) none

pub returns-clause-writes : goal.returns-clause-writes
returns-clause-writes c =
    let at = c.loop-bytes in
    let none : at.bytes-iterator ≡ [] = c.in-None.ensures.steps.0 in
    writes-end at.checked.writes _ (parse_text false c.args.text.now)
    (ap (λ (lines : List (List ℕ)). at.checked.writes || list_any line_writes (map (parse_line false) lines)) (sym none) ∙ at.invariant.writes)
    c.end_batch.ensures
