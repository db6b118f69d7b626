use Rattle.line_hash.specs.Hashes.{permuted}
use Rattle.line_hash.proofs.Permuting.{Awaits}
use Rattle.line_hash.proofs.permute.Given as goal

-- the rest of the table gives the bits below the hash
abbrev pub invariant-loop-bit : goal.invariant-loop-bit
invariant-loop-bit l = Awaits (permuted l.table l.line) l.line l.hash l.bit-iterator.iter.rest.now
