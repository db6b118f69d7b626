-- A signature after some inserts, and what hits then. Assumes nothing.
use Rattle.std.specs.Prelude.{ℕ, Bool, not, List, count_by, filter}
use Rattle.std.specs.List.{FoldsTo, range_with_len}
use Rattle.signature.specs.Meaning.{Inserted}
use Rattle.signature.specs.Members.{among}

-- the lines were inserted into s, one after the other and nothing else, and left t
abbrev pub Filled : {S : Type 0} (has : S → ℕ → Bool) (inserts : S → ℕ → S → Type 0) → S → List ℕ → S → Type 0
Filled has inserts s lines t = FoldsTo (Inserted has inserts) s lines t

-- those of the lines 0 to 63 that hit
unfoldable pub hitting : (ℕ → Bool) → List ℕ
hitting has = filter has (range_with_len 0 64)

-- the numbers below the end that the list has, each once and in ascending order
unfoldable pub ascending_of : ℕ → List ℕ → List ℕ
ascending_of end numbers = filter (λ n. among n numbers) (range_with_len 0 end)

-- how many of the hits were never inserted
abbrev pub never_inserted : List ℕ → List ℕ → ℕ
never_inserted inserted hits = count_by (λ line. not (among line inserted)) hits
