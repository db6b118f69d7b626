-- The rows of the refusal table. Assumes nothing.
use Rattle.std.specs.Prelude.{ℕ, Bool, if◌then◌else◌, not, ◌||◌, List, [], ◌∷◌, Some, None, Ok, Err, Option, Result}
use Rattle.thread_record.specs.declared.phase.Phase.{Phase}
use Rattle.thread_record.specs.Phases.{phase_number, is_aborted}
use Rattle.refusal.specs.declared.refusal.Refusal.{Refusal}
use Rattle.refusal.specs.Cases.{Case, case, refusal_case}

-- a row: refused where the condition holds; where it does not, the rows after it decide
abbrev pub row : Bool → ℕ → List ℕ → Option Case → Option Case
row condition number values after = if condition then Some (case number values) else after

-- what some rows decided, before those after them: a refusal stands
abbrev pub decided : {X : Type 0} → Result X Refusal → Option Case → Option Case
decided (Ok x) after = after
decided (Err f) after = Some (refusal_case f)

-- the phase is neither one that the call allows nor Aborted, which has a row of its own
abbrev pub phase_row : (Phase → Bool) → Phase → Option Case → Option Case
phase_row allows p after = row (not (allows p || is_aborted p)) 5 (phase_number p ∷ []) after

-- the rows on the phase of thread t, for a call that an aborted thread may not make
abbrev pub phase_rows : (Phase → Bool) → Phase → ℕ → Option Case → Option Case
phase_rows allows p t after = phase_row allows p (row (is_aborted p) 6 (t ∷ []) after)

-- the thread that nacks, if one does
abbrev pub nack_row : Option ℕ → Option Case
nack_row None = None
nack_row (Some j) = Some (case 8 (j ∷ []))

-- a read makes a request only for an address that the thread has not written
abbrev pub read_row : Option ℕ → Option ℕ → Option Case
read_row None nacking = nack_row nacking
read_row (Some v) nacking = None
