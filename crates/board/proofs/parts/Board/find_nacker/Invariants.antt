use Rattle.std.proofs.Common.{◌≡◌, ◌-◌, length}
use Rattle.std.specs.List.{find, range_with_len}
use Rattle.board.specs.Requests.{nacks}
use Rattle.board.specs.Views.{view}
use Rattle.board.proofs.parts.Board.find_nacker.Given as goal

-- the threads that are left decide
abbrev pub invariant-loop-u : goal.invariant-loop-u
invariant-loop-u g l =
    (d : g.row.R.Denot) (e : g.row.W.Denot) →
    find (nacks g.R.Signature g.W.Signature (view l.self d e) l.request.from l.request.line) (range_with_len 0 (length l.self.records.now))
    ≡ find (nacks g.R.Signature g.W.Signature (view l.self d e) l.request.from l.request.line) (range_with_len l.u (length l.self.records.now - l.u))
