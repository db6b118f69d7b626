use Rattle.thread_record.specs.declared.phase.Phase.TheVariants.{Idle}
use Rattle.board.specs.Requests.{Cleared}
use Rattle.board.specs.Views.{SameParts, view}
use Rattle.board.proofs.Progress.{Progress}
use Rattle.board.proofs.parts.Board.open.Given as goal

abbrev pub invariant-loop-t : goal.invariant-loop-t
invariant-loop-t g l =
    ((d : g.row.R.Denot) (e : g.row.W.Denot) → Progress (λ _. Cleared g.R.Signature g.W.Signature Idle) l.t (view l.initial.self d e) (view l.self d e)) × SameParts l.initial.self l.self
