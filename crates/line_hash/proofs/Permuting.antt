-- The bits of a line, put together from the highest down. Assumes nothing.
use Rattle.std.proofs.Common.{◌≡◌, ℕ, suc, ◌+◌, ◌-◌, ◌*◌, ◌/◌, ◌^◌, ◌<◌, ◌≤◌, List, [], ◌∷◌, ◌++◌, length, All, refl, arith, length-append}
use native.Mathlib.Nat.{pow-succ'}
use lib.Bits.{bit_and, and_mask}
use Rattle.std.proofs.lemmas.Nat.{mod_below}
use Rattle.std.proofs.lemmas.Grind.{common_steps}
use Rattle.std.specs.Int.{bit_at}
use Rattle.line_hash.specs.Hashes.{permuted}

-- the number with, below these bits, those that the table names
abbrev onto : ℕ → List ℕ → ℕ → ℕ
onto above [] line = above
onto above (t ∷ table) line = bit_at line t + 2 * onto above table line

onto_nothing : (table : List ℕ) (line : ℕ) → onto 0 table line ≡ permuted table line
unfolding permuted
onto_nothing [] line = refl
onto_nothing (t ∷ table) line = omega (arith, onto_nothing table line)

onto-push : (table : List ℕ) (above t line : ℕ) → onto above (table ++ t ∷ []) line ≡ onto (2 * above + bit_and (line / 2 ^ t) 1) table line
onto-push [] above t line = omega (arith, and_mask (line / 2 ^ t) 1)
onto-push (u ∷ table) above t line = omega (arith, onto-push table above t line)

-- the hash so far, and what is left of the table, whose bits stand below it
pub record Awaits (whole line hash : ℕ) (left : List ℕ) : Type 0 where
  pub makes : onto hash left line ≡ whole
  pub few : length left ≤ 16
  pub fits : hash < 2 ^ (16 - length left)
  pub inside : All (λ t. t < 16) left

pub none_yet : (table : List ℕ) (line : ℕ) → length table ≡ 16 → All (λ t. t < 16) table → Awaits (permuted table line) line 0 table
none_yet table line sixteen inside =
    record { makes = onto_nothing table line; few = omega arith; fits = rw sixteen (omega arith); inside = inside }

pub one_more : (whole line hash t : ℕ) (left : List ℕ) → Awaits whole line hash (left ++ t ∷ []) → Awaits whole line (2 * hash + bit_and (line / 2 ^ t) 1) left
one_more whole line hash t left h =
    let few : length left + 1 ≤ 16 = omega (arith, h.few, length-append left (t ∷ [])) in
    let fits : hash < 2 ^ (16 - (length left + 1)) = rw length-append at h.fits in
    let up : 16 - length left ≡ suc (16 - (length left + 1)) = omega arith in
    record {
      makes = omega (arith, h.makes, onto-push left hash t line);
      few = omega arith;
      fits = rw (up, pow-succ' 2 (16 - (length left + 1))) (omega (arith, and_mask (line / 2 ^ t) 1, mod_below (line / 2 ^ t) 2));
      inside = λ k d in'. grind (arith, common_steps, h.inside k d);
    }
