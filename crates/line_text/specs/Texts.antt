-- A text of line numbers, one to a line. Assumes nothing.
use Rattle.std.specs.Prelude.{ℕ, ◌+◌, ◌-◌, ◌*◌, if◌then◌else◌, ◌&&◌, List, [], ◌∷◌, length, Some, None, Option, option_and_then, ◌==◌, nat_lt}
use Rattle.std.specs.Char.{is_ascii_digit}

-- the byte in front of the first line
abbrev pub in_front : ℕ → List (List ℕ) → List (List ℕ)
in_front b [] = (b ∷ []) ∷ []
in_front b (line ∷ lines) = (b ∷ line) ∷ lines

-- the lines of a text: byte 10 ends a line, and the last may lack it
abbrev pub lines_of : List ℕ → List (List ℕ)
lines_of [] = []
lines_of (b ∷ text) = if b == 10 then [] ∷ lines_of text else in_front b (lines_of text)

-- the number that n and one more digit write, if the byte is one and the number stays below 65,536
abbrev pub one_more : ℕ → ℕ → Option ℕ
one_more n b = if is_ascii_digit b && nat_lt (10 * n + (b - 48)) 65536 then Some (10 * n + (b - 48)) else None

-- the number that n and the bytes after it write, if these are digits and it stays below 65,536
abbrev pub digits_from : ℕ → List ℕ → Option ℕ
digits_from n [] = Some n
digits_from n (b ∷ bytes) = option_and_then (λ m. digits_from m bytes) (one_more n b)

-- the number below 65,536 that a line writes in decimal, if it does
abbrev pub number_of : List ℕ → Option ℕ
number_of line = if length line == 0 then None else digits_from 0 line

-- a number, if there is one, in front of those of the lines after it
abbrev pub and_those : Option ℕ → List ℕ → List ℕ
and_those None numbers = []
and_those (Some n) numbers = n ∷ numbers

-- the numbers before the first line that is none
abbrev pub numbers_in : List (List ℕ) → List ℕ
numbers_in [] = []
numbers_in (line ∷ lines) = and_those (number_of line) (numbers_in lines)

-- the place itself where there is no number, or else what the lines after it give
abbrev pub or_later : Option ℕ → ℕ → Option ℕ → Option ℕ
or_later None place later = Some place
or_later (Some n) place later = later

-- the place of the first line that is no number, if there is one; the first of the lines has the given place
abbrev pub malformed_from : ℕ → List (List ℕ) → Option ℕ
malformed_from place [] = None
malformed_from place (line ∷ lines) = or_later (number_of line) place (malformed_from (place + 1) lines)
