use Rattle.std.proofs.Common.{◌≡◌, ◌<◌, drop}
use Rattle.line_text.specs.Texts.{digits_from}
use Rattle.line_text.proofs.number.Given as goal

-- the bytes that are left make the same number
abbrev pub invariant-loop-byte : goal.invariant-loop-byte
invariant-loop-byte l = record { same : digits_from l.number (drop l.byte-index l.line) ≡ digits_from 0 l.line; small : l.number < 65536 }
