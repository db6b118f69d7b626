-- The library's word for bits in reverse is the second hash. Assumes nothing.
use Rattle.std.proofs.Common.{◌≡◌, ℕ, arith}
use Rattle.std.proofs.Math.Nat.{div-div-eq-div-mul}
use Rattle.std.specs.Int.{reverse_bits_onto}
use Rattle.line_hash.specs.Hashes.{permuted, second_hash}

pub mirrored : (line : ℕ) → reverse_bits_onto 16 line 0 ≡ second_hash line
unfolding reverse_bits_onto permuted
mirrored line = simp div-div-eq-div-mul (omega arith)
