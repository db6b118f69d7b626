-- The answers of the calls as users know them: each has a number, and values that come with it. Assumes nothing.
use Rattle.std.specs.Prelude.{ℕ, Bool, List, [], ◌∷◌, ◌==◌}
use Rattle.refusal.specs.declared.refusal.Refusal.{Refusal}
use Rattle.refusal.specs.declared.refusal.Refusal.TheVariants as refusals
use Rattle.refusal.specs.declared.stepped.Stepped.{Stepped}
use Rattle.refusal.specs.declared.stepped.Stepped.TheVariants as steps
use Rattle.thread_record.specs.Phases.{phase_number}

-- a case of an answer
pub record Case : Type 0 where
  pub number : ℕ
  pub values : List ℕ

-- the case with a number and its values
abbrev pub case : ℕ → List ℕ → Case
case number values = record { number = number; values = values }

-- the cases of a refusal
abbrev pub refusal_case : Refusal → Case
refusal_case refusals.WrongParts = case 1 []
refusal_case (refusals.NoThread t) = case 2 (t ∷ [])
refusal_case (refusals.BadEntry t) = case 3 (t ∷ [])
refusal_case (refusals.NoAddress a) = case 4 (a ∷ [])
refusal_case (refusals.WrongPhase p) = case 5 (phase_number p ∷ [])
refusal_case (refusals.Aborted t) = case 6 (t ∷ [])
refusal_case (refusals.BufferFull t) = case 7 (t ∷ [])
refusal_case (refusals.Nacked j) = case 8 (j ∷ [])

-- the cases of an accepted step
abbrev pub step_case : Stepped → Case
step_case steps.Fetched = case 1 []
step_case (steps.Repeated j) = case 2 (j ∷ [])
step_case steps.Lost = case 3 []
step_case steps.Passed = case 4 []
step_case steps.Copied = case 5 []
step_case steps.Ended = case 6 []

-- the case of a step is that of the given answer
abbrev pub is : Case → Stepped → Bool
is c answer = c.number == (step_case answer).number
