-- The bits that are set, counted word by word. Assumes nothing.
use Rattle.std.proofs.Common.{◌≡◌, ℕ, zero, suc, ◌+◌, ◌*◌, ◌/◌, ◌%◌, ◌^◌, ◌<◌, ◌≤◌, Bool, cond, eqb, List, length, get_or, take, count_by, sum_by, sym, refl, ap, ◌∙◌, arith}
use lib.Count.{ones, ones_cat}
use Rattle.std.specs.Int.{bit_at}
use Rattle.std.specs.List.{range_with_len}
use Rattle.std.proofs.Math.Nat.{mod-eq_of_lt, mod-one}
use Rattle.std.proofs.lemmas.Nat.{mod-pow-add, mod_below, pow_pos}
use Rattle.std.proofs.lemmas.Nat.Bits.{bit_at-lt}
use Rattle.std.proofs.lemmas.List.{map-id, take_all}
use Rattle.std.proofs.lemmas.List.FromFn.{sum_by-map-range_with_len_more}
use Rattle.std.proofs.lemmas.List.Sums.{sum_by_more}
use Rattle.register.specs.Packed.{is_set, word_ones, ones_in}

one_more : (p : ℕ → Bool) (n : ℕ) → count_by p (range_with_len 0 (suc n)) ≡ count_by p (range_with_len 0 n) + cond (p n) 1 0
one_more p n =
    let next : suc n ≡ n + 1 = omega arith in
    ap (λ k. count_by p (range_with_len 0 k)) next ∙ simp map-id at (sum_by-map-range_with_len_more (λ x. cond (p x) 1 0) (λ x. x) 0 n n (omega arith))

one_or_none : (b : ℕ) → b < 2 → ones b ≡ cond (eqb b 1) 1 0
unfolding ones
one_or_none zero h = refl
one_or_none (suc zero) h = refl
one_or_none (suc (suc b)) h = absurd (omega arith)

low_ones : (word d : ℕ) → ones (word % 2 ^ d) ≡ count_by (λ k. eqb (bit_at word k) 1) (range_with_len 0 d)
low_ones word zero = ap ones (mod-one word) ∙ one_or_none 0 (omega arith)
low_ones word (suc d) =
    let next : suc d ≡ 1 + d = omega arith in
    let split = ap (λ n. ones (word % 2 ^ n)) next ∙ ap ones (mod-pow-add word 1 d) ∙ ones_cat d (bit_at word d) (word % 2 ^ d) (mod_below word (2 ^ d) (pow_pos d)) in
    omega (arith, split, one_or_none (bit_at word d) (bit_at-lt word d), one_more (λ k. eqb (bit_at word k) 1) d, low_ones word d)

pub word_counted : (word : ℕ) → word < 2 ^ 64 → ones word ≡ word_ones word
unfolding word_ones
word_counted word small = ap ones (sym (mod-eq_of_lt small)) ∙ low_ones word 64

module _ (words : List ℕ) where
  in_word : (i d : ℕ) → d ≤ 64 → count_by (is_set words) (range_with_len 0 (64 * i + d)) ≡ count_by (is_set words) (range_with_len 0 (64 * i)) + count_by (λ k. eqb (bit_at (get_or words i 0) k) 1) (range_with_len 0 d)
  in_word i zero few = grind arith
  in_word i (suc d) few =
      let next : 64 * i + suc d ≡ suc (64 * i + d) = omega arith in
      let word : (64 * i + d) / 64 ≡ i = omega arith in
      let place : (64 * i + d) % 64 ≡ d = omega arith in
      let bit : is_set words (64 * i + d) ≡ eqb (bit_at (get_or words i 0) d) 1 = λ j. eqb (bit_at (get_or words (word j) 0) (place j)) 1 in
      let more = one_more (is_set words) (64 * i + d) in
      let low = one_more (λ k. eqb (bit_at (get_or words i 0) k) 1) d in
      rw next (omega (arith, more, low, in_word i d (omega arith), ap (λ t. cond {A = ℕ} t 1 0) bit))

  in_words : (i : ℕ) → i ≤ length words → count_by (is_set words) (range_with_len 0 (64 * i)) ≡ sum_by word_ones (take i words)
  unfolding word_ones
  in_words zero within = refl
  in_words (suc i) within =
      let next : suc i ≡ i + 1 = omega arith in
      let bits : 64 * (i + 1) ≡ 64 * i + 64 = omega arith in
      rw (next, bits) (omega (arith, in_word i 64 (omega arith), in_words i (omega arith), sum_by_more word_ones words i 0 (omega arith)))

  pub words_counted : (count : ℕ) → length words ≡ count → sum_by word_ones words ≡ ones_in count words
  words_counted count e = sym (ap (sum_by word_ones) (take_all count words (omega arith))) ∙ sym (in_words count (omega arith))
