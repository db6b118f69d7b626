-- Buffered words. Assumes nothing.
use Rattle.std.specs.Prelude.{ℕ, Bool, if◌then◌else◌, List, [], ◌∷◌, ◌++◌, length, drop, find, Option, ◌==◌, nat_lt}
use Rattle.std.specs.List.{list_all, position_or_len}
use Rattle.std.specs.Option.{option_map}
use Rattle.write_buffer.specs.declared.entry.Entry.{Entry}

-- the word of the first entry with an address
abbrev pub lookup : List Entry → ℕ → Option ℕ
lookup entries a = option_map (λ e. e.word) (find (λ e. e.address == a) entries)

-- the first entry with the address takes the word, or a new entry at the end does
abbrev pub placed : List Entry → ℕ → ℕ → List Entry
placed [] a v = record { address = a; word = v } ∷ []
placed (e ∷ es) a v = if e.address == a then record { address = a; word = v } ∷ es else e ∷ placed es a v

-- the place of the first entry with the address, or the end
abbrev pub place : List Entry → ℕ → ℕ
place entries a = position_or_len (λ e. e.address == a) entries

-- an area whose front is the buffer; entries beyond it stay
abbrev pub fronted : List Entry → List Entry → List Entry
fronted buffer area = buffer ++ drop (length buffer) area

-- each entry's address is below the size
abbrev pub all_below : ℕ → List Entry → Bool
all_below size entries = list_all (λ e. nat_lt e.address size) entries
