use Rattle.conflict.specs.Conflicts.{is_exclusive}
use Rattle.board.specs.Changes.{Answers}
use Rattle.board.specs.Views.{SameParts, view}
use Rattle.board.proofs.Progress.{Progress}
use Rattle.board.proofs.parts.Board.ask.Given as goal

abbrev pub invariant-loop-u : goal.invariant-loop-u
invariant-loop-u g l =
    ((d : g.row.R.Denot) (e : g.row.W.Denot) → Progress (Answers g.R.Signature g.W.Signature (is_exclusive l.request.access) l.request.from l.request.line) l.u (view l.initial.self d e) (view l.self d e))
    × SameParts l.initial.self l.self
