-- Lists of operations: what more of them at the end change.
use Rattle.std.proofs.Common.{◌≡◌, ℕ, true, cond, List, [], ◌∷◌, ◌++◌, refl, ap, arith}
use Rattle.board.specs.States.{at}
use Rattle.history.specs.Serial.{Op, get, set, run, answers, written, fresh, targets_from}

pub run-append : (m : ℕ → ℕ) (ops more : List Op) → run m (ops ++ more) ≡ run (run m ops) more
run-append m [] more = refl
run-append m (get a ∷ ops) more = run-append m ops more
run-append m (set a v ∷ ops) more = run-append (at m a v) ops more

pub answers-append : (m : ℕ → ℕ) (ops more : List Op) → answers m (ops ++ more) ≡ answers m ops ++ answers (run m ops) more
answers-append m [] more = refl
answers-append m (get a ∷ ops) more = ap {B = List ℕ} (λ r. m a ∷ r) (answers-append m ops more)
answers-append m (set a v ∷ ops) more = answers-append (at m a v) ops more

pub targets-append : (bs : List ℕ) (ops more : List Op) → targets_from bs (ops ++ more) ≡ targets_from (targets_from bs ops) more
targets-append bs [] more = refl
targets-append bs (get a ∷ ops) more = targets-append bs ops more
targets-append bs (set a v ∷ ops) more = targets-append (fresh a bs) ops more

pub written-append : (ops more : List Op) (a : ℕ) → written (ops ++ more) a ≡ cond (written more a) true (written ops a)
written-append [] more a = grind arith
written-append (get b ∷ ops) more a = written-append ops more a
written-append (set b v ∷ ops) more a = let ih = written-append ops more a in grind (arith, ih)
