use Rattle.std.proofs.Common.{◌≡◌, ◌+◌, ◌≤◌, ◌||◌, false, length, map}
use Rattle.std.specs.List.{list_any}
use Rattle.bwsh.specs.Line.{parse_line}
use Rattle.bwsh.specs.BatchFile.{parse_text, first_bad, line_writes}
use Rattle.bwsh.proofs.text.check.Given as goal

-- the first bad line of the remaining ones is that of the text; and whether a line so far or a remaining one writes to the disk is whether the text
-- does
abbrev pub invariant-loop-bytes : goal.invariant-loop-bytes
invariant-loop-bytes l = record {
  numbered : l.number + length l.bytes-iterator ≤ length l.fn.text;
  good : first_bad (l.number + 1) (map (parse_line false) l.bytes-iterator) ≡ first_bad 1 (parse_text false l.fn.text);
  writes : (l.checked.writes || list_any line_writes (map (parse_line false) l.bytes-iterator)) ≡ list_any line_writes (parse_text false l.fn.text);
}
