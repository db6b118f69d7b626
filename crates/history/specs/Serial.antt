-- The serial run: transactions one after the other, in the order in which they pass, with the plain accesses between them. Newest first. Assumes nothing.
use Rattle.std.specs.Prelude.{ℕ, Bool, true, false, if◌then◌else◌, List, [], ◌∷◌, ◌++◌, ◌==◌}
use Rattle.board.specs.Refusals.{Call, begin, commit, step, abandon, read, write, plain_read, plain_write}
use Rattle.board.specs.States.{at}

-- all that the serial run is told of a call: the call with its arguments, and whether it was refused or a step that passed
pub data Fed : Type 0 where
  refusal accepted : Call → Fed
  passed : ℕ → Fed

-- an operation of a transaction
pub data Op : Type 0 where
  get : ℕ → Op
  set : ℕ → ℕ → Op

-- the words after a list of operations, run in one go
abbrev pub run : (ℕ → ℕ) → List Op → ℕ → ℕ
run words [] = words
run words (get a ∷ ops) = run words ops
run words (set a v ∷ ops) = run (at words a v) ops

-- what its reads answer on the way
abbrev pub answers : (ℕ → ℕ) → List Op → List ℕ
answers words [] = []
answers words (get a ∷ ops) = words a ∷ answers words ops
answers words (set a v ∷ ops) = answers (at words a v) ops

-- what an accepted call makes of the list of thread t: begin and abandon empty it, a read or a write joins its end
abbrev pub joined : Call → ℕ → List Op → List Op
joined (begin u) t ops = if u == t then [] else ops
joined (commit u) t ops = ops
joined (step u) t ops = ops
joined (abandon u) t ops = if u == t then [] else ops
joined (read u a) t ops = if u == t then ops ++ (get a ∷ []) else ops
joined (write u a v) t ops = if u == t then ops ++ (set a v ∷ []) else ops
joined (plain_read a) t ops = ops
joined (plain_write a v) t ops = ops

-- the list of thread t
abbrev pub list : List Fed → ℕ → List Op
list [] t = []
list (refusal c ∷ fs) t = list fs t
list (accepted c ∷ fs) t = joined c t (list fs t)
list (passed u ∷ fs) t = list fs t

-- what an accepted call stores by itself: only a plain write does
abbrev pub plainly : Call → (ℕ → ℕ) → ℕ → ℕ
plainly (begin t) words = words
plainly (commit t) words = words
plainly (step t) words = words
plainly (abandon t) words = words
plainly (read t a) words = words
plainly (write t a v) words = words
plainly (plain_read a) words = words
plainly (plain_write a v) words = at words a v

-- the serial words, from the words at open: a step that passed runs its thread's list, in one go
abbrev pub serial_words : (ℕ → ℕ) → List Fed → ℕ → ℕ
serial_words words [] = words
serial_words words (refusal c ∷ fs) = serial_words words fs
serial_words words (accepted c ∷ fs) = plainly c (serial_words words fs)
serial_words words (passed t ∷ fs) = run (serial_words words fs) (list fs t)

-- whether a list writes to an address
abbrev pub written : List Op → ℕ → Bool
written [] a = false
written (get b ∷ ops) a = written ops a
written (set b v ∷ ops) a = if b == a then true else written ops a

-- the addresses with one more at the end, unless it is there
abbrev pub fresh : ℕ → List ℕ → List ℕ
fresh a [] = a ∷ []
fresh a (b ∷ bs) = if b == a then b ∷ bs else b ∷ fresh a bs

-- the addresses of a list's writes, after those given, each once and in order of first write
abbrev pub targets_from : List ℕ → List Op → List ℕ
targets_from bs [] = bs
targets_from bs (get a ∷ ops) = targets_from bs ops
targets_from bs (set a v ∷ ops) = targets_from (fresh a bs) ops

-- the addresses of a list's buffered words, in order of first write
abbrev pub targets : List Op → List ℕ
targets ops = targets_from [] ops
