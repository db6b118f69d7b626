-- A list of up to sixteen lines. Assumes nothing.
use Rattle.std.specs.Prelude.{ℕ, Bool, true, false, if◌then◌else◌, ◌||◌, Some, None, Option, List, [], ◌∷◌, ◌++◌, length, take, nat_lt}
use Rattle.signature.specs.Members.{among}
use Rattle.line_list.specs.declared.LineList.{LineList}

-- what a list means: the lines that it holds, and whether one more than it can hold has come
pub record Lines : Type 0 where
  pub held : List ℕ
  pub overflowed : Bool

-- the first `count` of the lines are held, or all of them where one more has come
abbrev pub first_of : List ℕ → Option ℕ → Lines
first_of lines (Some count) = record { held = take count lines; overflowed = false }
first_of lines None = record { held = lines; overflowed = true }

-- what the list at hand means
abbrev pub lines_of : LineList → Lines
lines_of s = first_of s.lines s.held

-- the list that holds nothing
abbrev pub no_lines : Lines
no_lines = record { held = []; overflowed = false }

-- it hits on the lines that it holds, and on every line once it has overflowed
abbrev pub hits : Lines → ℕ → Bool
hits s line = s.overflowed || among line s.held

-- a line that hits changes nothing; another is held while there is room, and overflows the list where there is none
abbrev pub inserted : Lines → ℕ → Lines
inserted s line =
    if hits s line
    then s
    else (if nat_lt (length s.held) 16
    then record { held = s.held ++ line ∷ []; overflowed = false }
    else record { held = s.held; overflowed = true })
