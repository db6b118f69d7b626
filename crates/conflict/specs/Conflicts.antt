-- What a request for a line means for one other thread. Assumes nothing.
use Rattle.std.specs.Prelude.{ℕ, ◌/◌, Bool, true, false, if◌then◌else◌, ◌&&◌, Some, None, Option, ◌==◌}
use Rattle.thread_record.specs.declared.phase.Phase.{Phase}
use Rattle.thread_record.specs.declared.phase.Phase.TheVariants.{Idle, Running, Validating, Copying, Aborted}
use Rattle.conflict.specs.declared.access.Access.{Access}
use Rattle.conflict.specs.declared.access.Access.TheVariants.{Shared, Exclusive}
use Rattle.conflict.specs.declared.effect.Effect.{Effect}
use Rattle.conflict.specs.declared.effect.Effect.TheVariants.{Stays, Repeats, Aborts}

-- the line of an address
abbrev pub line : ℕ → ℕ
line a = a / 8

-- the request is exclusive
abbrev pub is_exclusive : Access → Bool
is_exclusive Shared = false
is_exclusive Exclusive = true

-- whether a thread is another one than the requester, which may be nobody
abbrev pub other : Option ℕ → ℕ → Bool
other None u = true
other (Some t) u = if u == t then false else true

-- a thread that is copying, and whose write signature hits, nacks
abbrev pub nacks_in : Phase → Bool → Bool
nacks_in Idle write-hit = false
nacks_in Running write-hit = false
nacks_in Validating write-hit = false
nacks_in Copying write-hit = write-hit
nacks_in Aborted write-hit = false

-- to repeat, unless there were four repeats already
abbrev pub again : ℕ → Effect
again repeats = if repeats == 4 then Aborts else Repeats

-- what a request that nobody nacked does to another thread, by its phase, its repeats, and whether its read and its write signature hit
abbrev pub effect : Bool → Phase → ℕ → Bool → Bool → Effect
effect exclusive Idle repeats read-hit write-hit = Stays
effect exclusive Running repeats read-hit write-hit = if exclusive && read-hit then Aborts else Stays
effect exclusive Validating repeats read-hit write-hit = if exclusive && read-hit then Aborts else if write-hit then again repeats else Stays
effect exclusive Copying repeats read-hit write-hit = Stays
effect exclusive Aborted repeats read-hit write-hit = Stays
