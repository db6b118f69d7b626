-- The text of the listing. Assumes nothing.
use Rattle.std.specs.Prelude.{ℕ, Bool, List, [], ◌∷◌, ◌++◌, codes, decimal}
use Rattle.std.specs.List.{flat_map}
use Rattle.card.specs.Fills.{hitting, never_inserted, ascending_of}

-- a number in decimal, behind a space
abbrev pub after_space : ℕ → List ℕ
after_space n = codes " " ++ decimal n

-- the numbers in decimal with a space between them, or a word where there are none
abbrev pub spaced_text : List ℕ → List ℕ
spaced_text [] = codes "none"
spaced_text (n ∷ numbers) = decimal n ++ flat_map after_space numbers

-- a line, and the bits that it sets in a register of each width
abbrev pub sets_text : ℕ → List ℕ → List ℕ → List ℕ
sets_text line wide narrow =
    codes "line " ++ (decimal line ++ (codes ": 1024-bit register sets " ++ (wide ++ (codes ", 128-bit register sets " ++ narrow))))

-- the same, given its bits in each: every bit once and in ascending order
abbrev pub insertion_text : ℕ → List ℕ → List ℕ → List ℕ
insertion_text line wide narrow = sets_text line (spaced_text (ascending_of 1024 wide)) (spaced_text (ascending_of 128 narrow))

-- the name of a signature, the lines that hit it, and how many of these are false hits
abbrev pub hits_text : List ℕ → List ℕ → ℕ → List ℕ
hits_text name hits falsely = name ++ (codes ": hits " ++ (hits ++ (codes ", " ++ (decimal falsely ++ codes " false"))))

-- the same of a signature by what it has, and the lines that were inserted
abbrev pub summary_text : List ℕ → (ℕ → Bool) → List ℕ → List ℕ
summary_text name has inserted = hits_text name (spaced_text (hitting has)) (never_inserted inserted (hitting has))
