-- The phases of a thread, by number and by what they allow. Assumes nothing.
use Rattle.std.specs.Prelude.{Bool, ◌||◌, ℕ, ◌==◌}
use Rattle.thread_record.specs.declared.phase.Phase.{Phase}
use Rattle.thread_record.specs.declared.phase.Phase.TheVariants.{Idle, Running, Validating, Copying, Aborted}

-- each phase's number
abbrev pub phase_number : Phase → ℕ
phase_number Idle = 0
phase_number Running = 1
phase_number Validating = 2
phase_number Copying = 3
phase_number Aborted = 4

-- the two are one phase
abbrev pub same_phase : Phase → Phase → Bool
same_phase p q = phase_number p == phase_number q

-- nothing is under way
abbrev pub is_idle : Phase → Bool
is_idle = same_phase Idle

-- the transaction reads and writes
abbrev pub is_running : Phase → Bool
is_running = same_phase Running

-- the transaction has passed, and its words go to memory
abbrev pub is_copying : Phase → Bool
is_copying = same_phase Copying

-- the transaction takes steps
abbrev pub is_committing : Phase → Bool
is_committing p = same_phase Validating p || same_phase Copying p

-- the transaction has begun and not yet passed
abbrev pub is_live : Phase → Bool
is_live p = same_phase Running p || same_phase Validating p

-- the transaction was aborted
abbrev pub is_aborted : Phase → Bool
is_aborted = same_phase Aborted
