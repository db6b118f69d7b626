use Rattle.std.proofs.Common.{◌∙◌}
use Rattle.thread_record.specs.Phases.{is_running}
use Rattle.refusal.specs.Rows.{phase_rows}
use Rattle.board.specs.Refusals.{address_row}
use Rattle.board.specs.Views.{view}
use Rattle.board.proofs.Outcomes.{decided_on}
use Rattle.board.proofs.parts.Board.check_access.Goals as goal

pub returns-in_err-record-clause-decides : goal.returns-in_err-record-clause-decides
returns-in_err-record-clause-decides g c = λ d e after.
    let t = c.args.thread in
    let s = view c.args.self.now d e in
    decided_on _ c.from_residual.result after c.from_residual.ensures.1
    ∙ c.in_err-record.ensures.decides d e (address_row s c.args.address (phase_rows is_running (s.thread t).phase t after))
