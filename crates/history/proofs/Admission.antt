-- What a call that is not refused says of its thread.
use Rattle.std.proofs.Common.{◌≡◌, ℕ, ◌<◌, Bool, true, false, ◌||◌, List, None, Option, refl, subst, arith}
use Rattle.std.proofs.lemmas.Bool.{both_ways, ltb-true, not-false}
use Rattle.signature.specs.declared.Signature.{Ghosts}
use Rattle.thread_record.specs.declared.phase.Phase.{Phase}
use Rattle.thread_record.specs.declared.phase.Phase.TheVariants.{Idle, Running, Validating, Copying, Aborted}
use Rattle.refusal.specs.Cases.{Case}
use Rattle.thread_record.specs.Phases.{is_idle, is_running, is_live, is_aborted}
use Rattle.refusal.specs.Rows.{phase_rows, row}
use Rattle.board.specs.Refusals.{begin, commit, step, abandon, read, write, thread_rows, refusal}
use Rattle.board.specs.States.{State}
use Rattle.history.proofs.Invariant.{Copies, copies_is}

row_none : (b : Bool) (n : ℕ) (vs : List ℕ) (after : Option Case) → row b n vs after ≡ None → (b ≡ false) × (after ≡ None)
row_none true n vs after h = let z : ◌≡◌ {A = ℕ} 0 1 = cc in absurd (omega arith)
row_none false n vs after h = (refl, h)

-- a phase that a call allows, where that is not Copying
not_copying : (allows : Phase → Bool) → allows Copying ≡ false → (p : Phase) → allows p ≡ true → Copies p → ⊥
not_copying allows n p e c = both_ways _ n (subst (λ z. allows z ≡ true) (copies_is p c) e)

is_running_only : (p : Phase) → is_running p ≡ true → p ≡ Running
is_running_only Idle e = cc
is_running_only Running e = refl
is_running_only Validating e = cc
is_running_only Copying e = cc
is_running_only Aborted e = cc

phase_none : (allows : Phase → Bool) (p : Phase) (t : ℕ) (after : Option Case) → phase_rows allows p t after ≡ None → allows p ≡ true
phase_none allows p t after h =
    let k = row_none _ _ _ _ h in
    go (allows p) (is_aborted p) (not-false _ k.0) (row_none _ _ _ _ k.1).0
  where
    go : (a b : Bool) → (a || b) ≡ true → b ≡ false → a ≡ true
    go true b e f = refl
    go false b e f = cc

module _ {R W : Type 0} (r : Ghosts R) (w : Ghosts W) (s : State R W) (t : ℕ) where
  thread_none : (after : Option Case) → thread_rows s t after ≡ None → (t < s.threads) × (after ≡ None)
  thread_none after h =
      let k = row_none _ _ _ _ (row_none _ _ _ _ h).1 in
      (ltb-true _ _ (not-false _ k.0), (row_none _ _ _ _ k.1).1)

  pub admits_begin : refusal r w s (begin t) ≡ None → (t < s.threads) × (Copies (s.thread t).phase → ⊥)
  unfolding refusal
  admits_begin h = let k = thread_none _ h in (k.0, not_copying is_idle refl _ (phase_none is_idle _ t None k.1))

  pub admits_abandon : refusal r w s (abandon t) ≡ None → (t < s.threads) × (Copies (s.thread t).phase → ⊥)
  unfolding refusal
  admits_abandon h = let k = thread_none _ h in (k.0, not_copying (λ p. is_live p || is_aborted p) refl _ (not-false _ (row_none _ _ _ _ k.1).0))

  pub admits_step : refusal r w s (step t) ≡ None → t < s.threads
  unfolding refusal
  admits_step h = (thread_none _ h).0

  pub admits_commit : refusal r w s (commit t) ≡ None → (t < s.threads) × ((s.thread t).phase ≡ Running)
  unfolding refusal
  admits_commit h = let k = thread_none _ h in (k.0, is_running_only _ (phase_none is_running _ t _ k.1))

  pub admits_read : (a : ℕ) → refusal r w s (read t a) ≡ None → (t < s.threads) × ((s.thread t).phase ≡ Running)
  unfolding refusal
  admits_read a h = let k = thread_none _ h in (k.0, is_running_only _ (phase_none is_running _ t _ (row_none _ _ _ _ k.1).1))

  pub admits_write : (a v : ℕ) → refusal r w s (write t a v) ≡ None → (t < s.threads) × ((s.thread t).phase ≡ Running)
  unfolding refusal
  admits_write a v h = let k = thread_none _ h in (k.0, is_running_only _ (phase_none is_running _ t _ (row_none _ _ _ _ k.1).1))
