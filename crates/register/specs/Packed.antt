-- The bits of a register, sixty-four to a word. Assumes nothing.
use Rattle.std.specs.Prelude.{◌≡◌, ℕ, ◌*◌, ◌/◌, ◌%◌, ◌<◌, Bool, false, ◌||◌, List, map, count_by, ◌==◌, slice_index}
use Rattle.std.specs.Int.{bit_at}
use Rattle.std.specs.List.{list_all, range_with_len}
use Rattle.line_hash.specs.Hashes.{hashes}
use Rattle.signature.specs.Members.{among}

-- how many bits there are in so many words
abbrev pub width : ℕ → ℕ
width count = 64 * count

-- bit k is set
abbrev pub is_set : List ℕ → ℕ → Bool
is_set words k = bit_at (slice_index words (k / 64)) (k % 64) == 1

-- each of these bits is set
abbrev pub all_set : List ℕ → List ℕ → Bool
all_set words ks = list_all (is_set words) ks

-- how many bits of a word are set
unfoldable pub word_ones : ℕ → ℕ
word_ones word = count_by (λ place. bit_at word place == 1) (range_with_len 0 64)

-- how many bits are set
abbrev pub ones_in : ℕ → List ℕ → ℕ
ones_in count words = count_by (is_set words) (range_with_len 0 (width count))

-- the bits of a line: its four hashes, each modulo the register's width
abbrev pub bits_of : ℕ → ℕ → List ℕ
bits_of count line = map (λ hash. hash % width count) (hashes line)

-- no bit is set
abbrev pub Cleared : ℕ → List ℕ → Type 0
Cleared count words = (k : ℕ) → k < width count → is_set words k ≡ false

-- these bits were set, and the others are as before
abbrev pub Sets : ℕ → List ℕ → List ℕ → List ℕ → Type 0
Sets count before bits after = (k : ℕ) → k < width count → is_set after k ≡ (is_set before k || among k bits)
