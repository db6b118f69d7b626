use Rattle.std.proofs.Common.{◌≡◌, ◌++◌, take, string_bytes}
use Rattle.std.specs.List.{flat_map}
use Rattle.card.specs.Listings.{after_space}
use Rattle.card.proofs.listing.sequence.Given as goal

-- what the text was, and the numbers so far
abbrev pub invariant-loop-number : goal.invariant-loop-number
invariant-loop-number l = string_bytes l.text ≡ string_bytes l.initial.text ++ flat_map after_space (take l.number-index l.rest)
