use Rattle.std.proofs.Common.{None, sym, ap, ◌∙◌}
use Rattle.thread_record.specs.Phases.{is_live}
use Rattle.refusal.specs.Rows.{phase_row}
use Rattle.board.specs.Refusals.{abandon, refusal}
use Rattle.board.specs.Rules.{abandoned, abandons}
use Rattle.board.specs.Views.{view}
use Rattle.board.proofs.Outcomes.{passed_on}
use Rattle.board.proofs.parts.Board.abandon.Goals as goal

pub returns-in_err-record : goal.returns-in_err-record
unfolding refusal
returns-in_err-record g c =
    let t = c.args.thread in
    passed_on g.R.Signature g.W.Signature (abandon t) (λ _. abandoned t) c.args.self.now _
    (λ d e. c.in_err-record.ensures.decides d e (phase_row is_live ((view c.args.self.now d e).thread t).phase None))
    c.from_residual.result c.from_residual.ensures.1

pub returns-in_err-check_abandonable : goal.returns-in_err-check_abandonable
unfolding refusal
returns-in_err-check_abandonable g c =
    let t = c.args.thread in
    let found = c.in_ok-record.ensures in
    passed_on g.R.Signature g.W.Signature (abandon t) (λ _. abandoned t) c.args.self.now _
    (λ d e. c.in_err-check_abandonable.ensures None ∙ ap (λ p. phase_row is_live p None) found.accepts.reads.phase ∙ found.decides d e (phase_row is_live ((view c.args.self.now d e).thread t).phase None))
    c.from_residual-in_err-check_abandonable.result c.from_residual-in_err-check_abandonable.ensures.1

pub returns : goal.returns
unfolding refusal
returns g c =
    let t = c.args.thread in
    let found = c.in_ok-record.ensures in
    record {
      follows = λ d e.
          abandons
          (sym (c.in_ok-check_abandonable.ensures None ∙ ap (λ p. phase_row is_live p None) found.accepts.reads.phase ∙ found.decides d e (phase_row is_live ((view c.args.self.now d e).thread t).phase None)))
          (c.clear.ensures.only d e) (c.clear.ensures.thread d e);
      unaltered = tt;
      parts = c.clear.ensures.parts;
    }
