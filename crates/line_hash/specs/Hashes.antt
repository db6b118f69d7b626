-- The four hashes of a line. Assumes nothing.
use Rattle.std.specs.Prelude.{ℕ, ◌+◌, ◌-◌, ◌*◌, ◌/◌, ◌^◌, List, [], ◌∷◌, map}
use Rattle.std.specs.Int.{bit_at}
use Rattle.std.specs.List.{range_with_len}

-- the number whose bit i is the bit of the line that entry i of the table names
unfoldable pub permuted : List ℕ → ℕ → ℕ
permuted [] line = 0
permuted (t ∷ table) line = bit_at line t + 2 * permuted table line

-- the table of the second hash: bit i comes from bit 15 − i
abbrev pub mirror : List ℕ
mirror = map (λ i. 15 - i) (range_with_len 0 16)

-- the table of the fourth hash: bit 0 comes from bit 3, bit 1 from bit 8, and so on
abbrev pub spread : List ℕ
spread = 3 ∷ 8 ∷ 13 ∷ 2 ∷ 7 ∷ 12 ∷ 1 ∷ 6 ∷ 11 ∷ 0 ∷ 5 ∷ 10 ∷ 15 ∷ 4 ∷ 9 ∷ 14 ∷ []

-- the line with its bits in reverse
abbrev pub second_hash : ℕ → ℕ
second_hash line = permuted mirror line

-- the second hash shifted right by 10
abbrev pub third_hash : ℕ → ℕ
third_hash line = second_hash line / 2 ^ 10

-- the line with its bits spread
abbrev pub fourth_hash : ℕ → ℕ
fourth_hash line = permuted spread line

-- all four; the first is the line itself
abbrev pub hashes : ℕ → List ℕ
hashes line = line ∷ second_hash line ∷ third_hash line ∷ fourth_hash line ∷ []
