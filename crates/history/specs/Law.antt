-- The serial order: the order in which transactions pass, with the plain accesses between them, accounts for everything read and stored. Assumes nothing.
use Rattle.std.specs.Prelude.{◌≡◌, ℕ, ◌+◌, ◌<◌, true, ◌⊎◌, List, [], ◌∷◌, length, MatchBool}
use Rattle.signature.specs.declared.Signature.{Ghosts}
use Rattle.write_buffer.specs.declared.entry.Entry.{Entry}
use Rattle.thread_record.specs.declared.phase.Phase.TheVariants.{Copying}
use Rattle.refusal.specs.declared.stepped.Stepped.TheVariants.{Passed, Ended}
use Rattle.refusal.specs.Cases.{is}
use Rattle.thread_record.specs.Phases.{is_live}
use Rattle.board.specs.Rules.{Event, began, committed, abandoned, got, put, stepped, plain_got, plain_put, refused}
use Rattle.board.specs.States.{State}
use Rattle.history.specs.Runs.{Run, fed, heard, loads, to_copy, steps}
use Rattle.history.specs.Serial.{answers, list, serial_words, targets}

-- a member of a list
pub data Member {A : Type 0} (x : A) : List A → Type 0 where
  here : {xs : List A} → Member x (x ∷ xs)
  there : {y : A} {xs : List A} → Member x xs → Member x (y ∷ xs)

-- every plain read, and every read of a transaction that passed, was answered what the serial run answers there
abbrev pub Answered : (ℕ → ℕ) → List Event → Type 0
Answered words [] = Unit {0}
Answered words (began u ∷ es) = Answered words es
Answered words (committed u ∷ es) = Answered words es
Answered words (abandoned u ∷ es) = Answered words es
Answered words (got u a v ∷ es) = Answered words es
Answered words (put u a v ∷ es) = Answered words es
Answered words (stepped u c ∷ es) =
    MatchBool (is c Passed) (heard es u ≡ answers (serial_words words (fed es)) (list (fed es) u)) (Unit {0}) × Answered words es
Answered words (plain_got a v ∷ es) = (v ≡ serial_words words (fed es) a) × Answered words es
Answered words (plain_put a v ∷ es) = Answered words es
Answered words (refused c f ∷ es) = Answered words es

-- every transaction that ended took one step for each buffered word after it passed, and one more
abbrev pub EndedInTime : List Event → Type 0
EndedInTime [] = Unit {0}
EndedInTime (began u ∷ es) = EndedInTime es
EndedInTime (committed u ∷ es) = EndedInTime es
EndedInTime (abandoned u ∷ es) = EndedInTime es
EndedInTime (got u a v ∷ es) = EndedInTime es
EndedInTime (put u a v ∷ es) = EndedInTime es
EndedInTime (stepped u c ∷ es) = MatchBool (is c Ended) (steps (stepped u c ∷ es) u ≡ length (targets (list (fed es) u)) + 1) (Unit {0}) × EndedInTime es
EndedInTime (plain_got a v ∷ es) = EndedInTime es
EndedInTime (plain_put a v ∷ es) = EndedInTime es
EndedInTime (refused c f ∷ es) = EndedInTime es

-- what holds of a board after some calls, given the words at open
pub record Serial {R W : Type 0} (words : ℕ → ℕ) (es : List Event) (s : State R W) : Type 0 where
  -- what was answered is what the serial run answers
  pub answered : Answered words es
  -- what a live transaction has read from memory is the serial word now
  pub live : (t : ℕ) → t < s.threads → is_live (s.thread t).phase ≡ true → (e : Entry) → Member e (loads es t) → serial_words words (fed es) e.address ≡ e.word
  -- were it to pass now, all its reads would be right
  pub ready : (t : ℕ) → t < s.threads → is_live (s.thread t).phase ≡ true → heard es t ≡ answers (serial_words words (fed es)) (list (fed es) t)
  -- memory has the serial words, but where a transaction that passed has still to copy
  pub memory : (a : ℕ) →
      (s.words a ≡ serial_words words (fed es) a) ⊎ ((t : ℕ) × (t < s.threads) × ((s.thread t).phase ≡ Copying) × Member a (to_copy es t))
  -- transactions that ended took as many steps as they had to
  pub ended : EndedInTime es

-- after any number of calls in any order, from the board s₀ on
abbrev pub SerialOrder : {R W : Type 0} (r : Ghosts R) (w : Ghosts W) → State R W → Type 0
SerialOrder {R} {W} r w s₀ = (es : List Event) (s : State R W) → Run r w s₀ es s → Serial s₀.words es s
