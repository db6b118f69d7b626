use Rattle.std.proofs.Common.{get_or, None, sym, ap, ◌∙◌}
use Rattle.thread_record.specs.declared.phase.Phase.TheVariants.{Validating}
use Rattle.thread_record.specs.Phases.{is_running}
use Rattle.refusal.specs.Rows.{phase_rows}
use Rattle.board.specs.Refusals.{commit, refusal}
use Rattle.board.specs.Rules.{committed, commits}
use Rattle.board.specs.States.{stored}
use Rattle.board.specs.Views.{part, view}
use Rattle.board.proofs.Alone.{record_only}
use Rattle.board.proofs.Outcomes.{passed_on}
use Rattle.board.proofs.Owns.{own_buffer}
use Rattle.board.proofs.Turning.{stored_thread}
use Rattle.board.proofs.parts.Board.commit.Goals as goal

pub returns-in_err-before : goal.returns-in_err-before
unfolding refusal
returns-in_err-before g c =
    let t = c.args.thread in
    passed_on g.R.Signature g.W.Signature (commit t) (λ _. committed t) c.args.self.now _
    (λ d e. c.in_err-before.ensures.decides d e (phase_rows is_running ((view c.args.self.now d e).thread t).phase t None))
    c.from_residual.result c.from_residual.ensures.1

pub returns-in_err-check_phase : goal.returns-in_err-check_phase
unfolding refusal
returns-in_err-check_phase g c =
    let t = c.args.thread in
    let found = c.in_ok-before.ensures in
    passed_on g.R.Signature g.W.Signature (commit t) (λ _. committed t) c.args.self.now _
    (λ d e. c.in_err-check_phase.ensures.decides None ∙ ap (λ p. phase_rows is_running p t None) found.accepts.reads.phase ∙ found.decides d e (phase_rows is_running ((view c.args.self.now d e).thread t).phase t None))
    c.from_residual-in_err-check_phase.result c.from_residual-in_err-check_phase.ensures.1

pub returns : goal.returns
unfolding refusal
returns g c =
    let t = c.args.thread in
    let b = c.args.self.now in
    let b' = c.store_record.new.self in
    let before = c.in_ok-before.before in
    let found = c.in_ok-before.ensures in
    record {
      follows = λ d e.
          commits
          (sym (c.in_ok-check_phase.ensures.decides None ∙ ap (λ p. phase_rows is_running p t None) found.accepts.reads.phase ∙ found.decides d e (phase_rows is_running ((view b d e).thread t).phase t None)))
          (record_only t b b' d e c.store_record.ensures)
          (stored_thread t b found.accepts.has b' c.committed.result Validating before.count 0 0 c.committed.ensures c.store_record.ensures d e
          ∙ (λ i. stored Validating (sym (own_buffer t before b found.accepts d e) i) 0 0 (part t b.entries.now) (get_or b.reads.now t d) (get_or b.writes.now t e)));
      unaltered = tt;
      parts = c.store_record.ensures.parts;
    }
