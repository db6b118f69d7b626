-- What a write to one word does to the bits of a register. Assumes nothing.
use Rattle.std.proofs.Common.{◌≡◌, ℕ, ◌*◌, ◌/◌, ◌%◌, ◌^◌, ◌<◌, true, false, ◌||◌, eqb, List, length, get_or, set, All, refl, ap, ◌∙◌, arith, bit_or}
use mathlib.Core.Bool.{or-true}
use Rattle.std.specs.Int.{w64}
use Rattle.std.proofs.lemmas.Nat.{mod_below}
use Rattle.std.proofs.lemmas.Nat.Bits.{bit_at_set_same, bit_at_set_other}
use Rattle.std.proofs.lemmas.List.{get_or-set_same, get_or-set_other}
use Rattle.std.proofs.lemmas.List.Elements.{All-from_recursion}
use Rattle.std.proofs.lemmas.List.Folds.{list_any_at}
use Rattle.std.proofs.lemmas.List.Sums.{AllPass-from_list_all, list_all-from_AllPass}
use Rattle.std.proofs.lemmas.Bool.{eq-eqb}
use Rattle.std.proofs.lemmas.Bool.Decides.{nat_tests}
use Rattle.signature.specs.Members.{among}
use Rattle.register.specs.Packed.{width, is_set, all_set, bits_of, Sets}

pub one_set : (words : List ℕ) (at b k : ℕ) → at ≡ b / 64 → at < length words → is_set (set words at (bit_or (get_or words at 0) (1 * 2 ^ (b % 64) % 2 ^ 64))) k ≡ (is_set words k || (eqb k b || false))
one_set words at b k e inside = grind (arith, nat_tests, get_or-set_same {A = ℕ}, get_or-set_other {A = ℕ}, bit_at_set_same w64, bit_at_set_other w64)

pub bits_below : (count line : ℕ) → 0 < count → All (λ k. k < width count) (bits_of count line)
bits_below count line some =
    let below : (hash : ℕ) → hash % width count < width count = λ hash. mod_below hash (width count) (omega arith) in
    All-from_recursion (λ k. k < width count) (bits_of count line) (below _, (below _, (below _, (below _, tt))))

module _ (count : ℕ) (before bits after : List ℕ) (sets : Sets count before bits after) where
  pub adds_set : All (λ k. k < width count) bits → all_set after bits ≡ true
  adds_set below =
      list_all-from_AllPass (is_set after) bits (λ i d inside.
      let k = get_or bits i d in
      sets k (below i d inside) ∙ ap (λ t. is_set before k || t) (list_any_at (eqb k) bits i d inside (eq-eqb k k refl)) ∙ or-true (is_set before k))

  pub keeps_set : (ks : List ℕ) → All (λ k. k < width count) ks → all_set before ks ≡ true → all_set after ks ≡ true
  keeps_set ks below h =
      list_all-from_AllPass (is_set after) ks (λ i d inside.
      let k = get_or ks i d in
      sets k (below i d inside) ∙ ap (λ t. t || among k bits) (AllPass-from_list_all (is_set before) ks h i d inside))
