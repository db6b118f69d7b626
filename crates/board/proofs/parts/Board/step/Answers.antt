use Rattle.std.proofs.Common.{◌≡◌, ℕ, Some, None, Err, Option, refl, sym, ap, ◌∙◌}
use Rattle.signature.specs.declared.Signature.{Ghosts}
use Rattle.refusal.specs.Rows.{phase_rows}
use Rattle.board.specs.declared.parts.Board.{Board}
use Rattle.thread_record.specs.declared.phase.Phase.{Phase}
use Rattle.thread_record.specs.declared.phase.Phase.TheVariants.{Idle, Running, Validating, Copying, Aborted}
use Rattle.thread_record.specs.declared.record.Record.{Record}
use Rattle.refusal.specs.declared.refusal.Refusal.{Refusal}
use Rattle.refusal.specs.declared.refusal.Refusal.TheVariants as refusals
use Rattle.board.specs.Admissions.{Admitted, Ready}
use Rattle.refusal.specs.Cases.{Case, refusal_case}
use Rattle.thread_record.specs.Phases.{is_committing}
use Rattle.board.specs.Refusals.{refusal, step, thread_rows}
use Rattle.board.specs.Rules.{step_event}
use Rattle.board.specs.Views.{Called, view}
use Rattle.board.proofs.Outcomes.{passed_on, refused}
use Rattle.board.proofs.parts.Board.step.Goals as goal

pub returns-in_err-record : goal.returns-in_err-record
unfolding refusal
returns-in_err-record g c =
    let t = c.args.thread in
    passed_on g.R.Signature g.W.Signature (step t) (step_event t) c.args.self.now _
    (λ d e. c.in_err-record.ensures.decides d e (phase_rows is_committing ((view c.args.self.now d e).thread t).phase t None))
    c.from_residual.result c.from_residual.ensures.1

-- the table, for a step of an admitted thread by its phase
module _ {R W : Type 0} (r : Ghosts R) (w : Ghosts W) (t : ℕ) (found : Record) (b : Board R W) (admitted : Admitted t found b)
    (decides : (d : R) (e : W) (after : Option Case) → after ≡ thread_rows (view b d e) t after) (p : Phase) (is : found.phase ≡ p)
  where
    rows : (d : R) (e : W) → refusal r w (view b d e) (step t) ≡ phase_rows is_committing p t None
    unfolding refusal
    rows d e =
        sym (decides d e (phase_rows is_committing ((view b d e).thread t).phase t None)) ∙ ap (λ q. phase_rows is_committing q t None) (sym admitted.reads.phase ∙ is)

    ready : phase_rows is_committing p t None ≡ None → Ready r w (step t) p t found b
    ready accepted = record { admitted = admitted; phase = is; accepted = λ d e. rows d e ∙ accepted }

    no : (f : Refusal) → phase_rows is_committing p t None ≡ Some (refusal_case f) → Called r w (step t) (step_event t) b (Err f) b
    no f because = refused r w (step t) (step_event t) b f (λ d e. sym (rows d e ∙ because))

pub fetch-requires-clause-ready : goal.fetch-requires-clause-ready
fetch-requires-clause-ready g c =
    let found = c.in_ok-record.ensures in
    ready g.R.Signature g.W.Signature c.args.thread c.in_ok-record.record c.args.self.now found.accepts found.decides Validating c.in-Validating-true.is-0 refl

pub pass-requires-clause-ready : goal.pass-requires-clause-ready
pass-requires-clause-ready g c =
    let found = c.in_ok-record.ensures in
    ready g.R.Signature g.W.Signature c.args.thread c.in_ok-record.record c.args.self.now found.accepts found.decides Validating c.in-Validating-false.is-0 refl

pub copy-requires-clause-ready : goal.copy-requires-clause-ready
copy-requires-clause-ready g c =
    let found = c.in_ok-record.ensures in
    ready g.R.Signature g.W.Signature c.args.thread c.in_ok-record.record c.args.self.now found.accepts found.decides Copying c.in-Copying-true.is-0 refl

pub end-requires-clause-ready : goal.end-requires-clause-ready
end-requires-clause-ready g c =
    let found = c.in_ok-record.ensures in
    ready g.R.Signature g.W.Signature c.args.thread c.in_ok-record.record c.args.self.now found.accepts found.decides Copying c.in-Copying-false.is-0 refl

pub returns-in-Aborted-default : goal.returns-in-Aborted-default
returns-in-Aborted-default g c =
    let found = c.in_ok-record.ensures in
    no g.R.Signature g.W.Signature c.args.thread c.in_ok-record.record c.args.self.now found.accepts found.decides Aborted c.in-Aborted-default.is-0 (refusals.Aborted c.args.thread) refl

pub returns-in-Idle-default : goal.returns-in-Idle-default
returns-in-Idle-default g c =
    let found = c.in_ok-record.ensures in
    no g.R.Signature g.W.Signature c.args.thread c.in_ok-record.record c.args.self.now found.accepts found.decides Idle c.in-Idle-default.is-0 (refusals.WrongPhase Idle) refl

pub returns-in-Running-default : goal.returns-in-Running-default
returns-in-Running-default g c =
    let found = c.in_ok-record.ensures in
    no g.R.Signature g.W.Signature c.args.thread c.in_ok-record.record c.args.self.now found.accepts found.decides Running c.in-Running-default.is-0 (refusals.WrongPhase Running) refl
