use Rattle.std.proofs.Common.{◌≡◌, ◌+◌, ◌++◌, length, vec_items, vec_len}
use Rattle.line_text.specs.Texts.{lines_of, numbers_in, malformed_from}
use Rattle.line_text.proofs.read.Given as goal

-- what was read and what is left are the whole
abbrev pub invariant-loop-rest : goal.invariant-loop-rest
invariant-loop-rest l =
    record { numbers : vec_items l.lines ++ numbers_in (lines_of l.rest) ≡ numbers_in (lines_of l.text); place : malformed_from (vec_len l.lines + 1) (lines_of l.rest) ≡ malformed_from 1 (lines_of l.text) }

abbrev pub decreases-loop-rest : goal.decreases-loop-rest
decreases-loop-rest l = length l.rest
