-- A search for the first thread that passes a test.
use Rattle.std.proofs.Common.{◌≡◌, ℕ, suc, ◌+◌, ◌-◌, ◌<◌, ◌≤◌, Bool, cond, Some, None, ap, arith}
use Rattle.std.specs.List.{find, range_with_len}

module _ (test : ℕ → Bool) (u n : ℕ) where
  pub first_more : u < n → find test (range_with_len u (n - u)) ≡ cond (test u) (Some u) (find test (range_with_len (u + 1) (n - (u + 1))))
  first_more h = let one : n - u ≡ suc (n - (u + 1)) = omega arith in ap (λ k. find test (range_with_len u k)) one

  pub first_all : n ≤ u → find test (range_with_len u (n - u)) ≡ None
  first_all h = let none : n - u ≡ 0 = omega arith in ap (λ k. find test (range_with_len u k)) none
