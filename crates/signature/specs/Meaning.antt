-- What every kind of signature shows of a reset and of an insert. Assumes nothing.
use Rattle.std.specs.Prelude.{◌≡◌, ℕ, Bool, true, false}

-- S is a kind, and `has s line` says that the line is in the set that s stands for
module _ {S : Type 0} (has : S → ℕ → Bool) where
  -- one reset of s left t: by the kind's own account, and the set is empty
  pub record Emptied (resets : S → S → Type 0) (s t : S) : Type 0 where
    pub leaves : resets s t
    pub empty : (line : ℕ) → has t line ≡ false

  -- one insert of the line into s left t: by the kind's own account, and the set has the line and all old members
  pub record Inserted (inserts : S → ℕ → S → Type 0) (s : S) (line : ℕ) (t : S) : Type 0 where
    pub leaves : inserts s line t
    pub adds : has t line ≡ true
    pub keeps : (other : ℕ) → has s other ≡ true → has t other ≡ true
