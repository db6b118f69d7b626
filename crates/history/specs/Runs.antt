-- Runs of calls on a board, and what was answered and done in them. Newest first. Assumes nothing.
use Rattle.std.specs.Prelude.{ℕ, ◌+◌, if◌then◌else◌, not, ◌&&◌, List, [], ◌∷◌, ◌++◌, drop, ◌==◌}
use Rattle.signature.specs.declared.Signature.{Ghosts}
use Rattle.write_buffer.specs.declared.entry.Entry.{Entry}
use Rattle.refusal.specs.declared.stepped.Stepped.TheVariants.{Passed, Copied}
use Rattle.refusal.specs.Cases.{is}
use Rattle.board.specs.Refusals.{begin, commit, step, abandon, read, write, plain_read, plain_write}
use Rattle.board.specs.Rules.{Event, Rule, began, committed, abandoned, got, put, stepped, plain_got, plain_put, refused}
use Rattle.board.specs.States.{State}
use Rattle.history.specs.Serial.{Fed, refusal, accepted, passed, list, written, targets}

-- any number of calls in any order, from the board s₀ on
pub data Run {R W : Type 0} (r : Ghosts R) (w : Ghosts W) (s₀ : State R W) : List Event → State R W → Type 0 where
  opened : Run r w s₀ [] s₀
  called : {es : List Event} {s s' : State R W} {e : Event} → Run r w s₀ es s → Rule r w s e s' → Run r w s₀ (e ∷ es) s'

-- what the serial run is told of a call
abbrev pub told : Event → Fed
told (began t) = accepted (begin t)
told (committed t) = accepted (commit t)
told (abandoned t) = accepted (abandon t)
told (got t a v) = accepted (read t a)
told (put t a v) = accepted (write t a v)
told (stepped t c) = if is c Passed then passed t else accepted (step t)
told (plain_got a v) = accepted (plain_read a)
told (plain_put a v) = accepted (plain_write a v)
told (refused c f) = refusal c

-- what the serial run is fed
abbrev pub fed : List Event → List Fed
fed [] = []
fed (e ∷ es) = told e ∷ fed es

-- what the accepted reads of thread t were answered, since its begin
abbrev pub heard : List Event → ℕ → List ℕ
heard [] t = []
heard (began u ∷ es) t = if u == t then [] else heard es t
heard (committed u ∷ es) t = heard es t
heard (abandoned u ∷ es) t = if u == t then [] else heard es t
heard (got u a v ∷ es) t = if u == t then heard es t ++ (v ∷ []) else heard es t
heard (put u a v ∷ es) t = heard es t
heard (stepped u c ∷ es) t = heard es t
heard (plain_got a v ∷ es) t = heard es t
heard (plain_put a v ∷ es) t = heard es t
heard (refused c f ∷ es) t = heard es t

-- what thread t has read from memory since its begin, that is at addresses that it had not yet written: each address with its answer
abbrev pub loads : List Event → ℕ → List Entry
loads [] t = []
loads (began u ∷ es) t = if u == t then [] else loads es t
loads (committed u ∷ es) t = loads es t
loads (abandoned u ∷ es) t = if u == t then [] else loads es t
loads (got u a v ∷ es) t = if u == t && not (written (list (fed es) t) a) then loads es t ++ (record { address = a; word = v } ∷ []) else loads es t
loads (put u a v ∷ es) t = loads es t
loads (stepped u c ∷ es) t = loads es t
loads (plain_got a v ∷ es) t = loads es t
loads (plain_put a v ∷ es) t = loads es t
loads (refused c f ∷ es) t = loads es t

-- the addresses that thread t has still to copy: all its buffered words when it passes, and one less, the first, with each step that copied
abbrev pub to_copy : List Event → ℕ → List ℕ
to_copy [] t = []
to_copy (began u ∷ es) t = to_copy es t
to_copy (committed u ∷ es) t = to_copy es t
to_copy (abandoned u ∷ es) t = to_copy es t
to_copy (got u a v ∷ es) t = to_copy es t
to_copy (put u a v ∷ es) t = to_copy es t
to_copy (stepped u c ∷ es) t =
    if u == t then (if is c Passed then targets (list (fed es) t) else if is c Copied then drop 1 (to_copy es t) else to_copy es t) else to_copy es t
to_copy (plain_got a v ∷ es) t = to_copy es t
to_copy (plain_put a v ∷ es) t = to_copy es t
to_copy (refused c f ∷ es) t = to_copy es t

-- how many steps thread t has taken since it last passed
abbrev pub steps : List Event → ℕ → ℕ
steps [] t = 0
steps (began u ∷ es) t = steps es t
steps (committed u ∷ es) t = steps es t
steps (abandoned u ∷ es) t = steps es t
steps (got u a v ∷ es) t = steps es t
steps (put u a v ∷ es) t = steps es t
steps (stepped u c ∷ es) t = if u == t then (if is c Passed then 0 else steps es t + 1) else steps es t
steps (plain_got a v ∷ es) t = steps es t
steps (plain_put a v ∷ es) t = steps es t
steps (refused c f ∷ es) t = steps es t
