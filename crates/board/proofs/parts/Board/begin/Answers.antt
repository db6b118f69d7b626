use Rattle.std.proofs.Common.{None, sym, ap, ◌∙◌}
use Rattle.thread_record.specs.Phases.{is_idle}
use Rattle.refusal.specs.Rows.{phase_rows}
use Rattle.board.specs.Refusals.{begin, refusal}
use Rattle.board.specs.Rules.{began, begins}
use Rattle.board.specs.Views.{view}
use Rattle.board.proofs.Outcomes.{passed_on}
use Rattle.board.proofs.parts.Board.begin.Goals as goal

pub returns-in_err-record : goal.returns-in_err-record
unfolding refusal
returns-in_err-record g c =
    let t = c.args.thread in
    passed_on g.R.Signature g.W.Signature (begin t) (λ _. began t) c.args.self.now _
    (λ d e. c.in_err-record.ensures.decides d e (phase_rows is_idle ((view c.args.self.now d e).thread t).phase t None))
    c.from_residual.result c.from_residual.ensures.1

pub returns-in_err-check_phase : goal.returns-in_err-check_phase
unfolding refusal
returns-in_err-check_phase g c =
    let t = c.args.thread in
    let found = c.in_ok-record.ensures in
    passed_on g.R.Signature g.W.Signature (begin t) (λ _. began t) c.args.self.now _
    (λ d e. c.in_err-check_phase.ensures.decides None ∙ ap (λ p. phase_rows is_idle p t None) found.accepts.reads.phase ∙ found.decides d e (phase_rows is_idle ((view c.args.self.now d e).thread t).phase t None))
    c.from_residual-in_err-check_phase.result c.from_residual-in_err-check_phase.ensures.1

pub returns : goal.returns
unfolding refusal
returns g c =
    let t = c.args.thread in
    let found = c.in_ok-record.ensures in
    record {
      follows = λ d e.
          begins
          (sym (c.in_ok-check_phase.ensures.decides None ∙ ap (λ p. phase_rows is_idle p t None) found.accepts.reads.phase ∙ found.decides d e (phase_rows is_idle ((view c.args.self.now d e).thread t).phase t None)))
          (c.clear.ensures.only d e) (c.clear.ensures.thread d e);
      unaltered = tt;
      parts = c.clear.ensures.parts;
    }
