-- Which numbers a list has. Assumes nothing.
use Rattle.std.specs.Prelude.{ℕ, Bool, List, ◌==◌}
use Rattle.std.specs.List.{list_any}

-- n is one of the list
abbrev pub among : ℕ → List ℕ → Bool
among n xs = list_any (λ x. n == x) xs
