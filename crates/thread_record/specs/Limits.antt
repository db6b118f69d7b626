-- How a record is read from plain numbers. Assumes nothing.
use Rattle.std.specs.Prelude.{if◌then◌else◌, ℕ, min, ◌==◌}
use Rattle.thread_record.specs.declared.phase.Phase.{Phase}
use Rattle.thread_record.specs.declared.phase.Phase.TheVariants.{Idle, Running, Validating, Copying, Aborted}

-- the phase that a number stands for; a number above 4 is read as 4
abbrev pub phase_of : ℕ → Phase
phase_of n = if n == 0 then Idle else if n == 1 then Running else if n == 2 then Validating else if n == 3 then Copying else Aborted

-- the most entries that a thread can count in a phase
abbrev pub count_limit : Phase → ℕ
count_limit Idle = 0
count_limit Running = 32
count_limit Validating = 32
count_limit Copying = 32
count_limit Aborted = 0

-- how far the cursor can have come in a phase, with so many entries
abbrev pub cursor_limit : Phase → ℕ → ℕ
cursor_limit Idle count = 0
cursor_limit Running count = 0
cursor_limit Validating count = count
cursor_limit Copying count = count
cursor_limit Aborted count = 0

-- the most repeats in a phase
abbrev pub repeats_limit : Phase → ℕ
repeats_limit Idle = 0
repeats_limit Running = 0
repeats_limit Validating = 4
repeats_limit Copying = 0
repeats_limit Aborted = 0

-- a count above its limit is read as that limit
abbrev pub count_as : Phase → ℕ → ℕ
count_as p n = min n (count_limit p)

-- a cursor above its limit is read as that limit
abbrev pub cursor_as : Phase → ℕ → ℕ → ℕ
cursor_as p count n = min n (cursor_limit p count)

-- repeats above their limit are read as that limit
abbrev pub repeats_as : Phase → ℕ → ℕ
repeats_as p n = min n (repeats_limit p)
