use Rattle.std.proofs.Common.{◌≤◌, get_or, sym, ap, ◌∙◌, subst}
use Rattle.signature.specs.Meaning.{Emptied}
use Rattle.thread_record.specs.declared.phase.Phase.TheVariants.{Idle}
use Rattle.thread_record.specs.Limits.{cursor_limit}
use Rattle.board.specs.Rules.{ends}
use Rattle.board.specs.Views.{view}
use Rattle.board.proofs.Alone.{only_then, record_only}
use Rattle.board.proofs.Cursors.{at_end}
use Rattle.board.proofs.Progress.{parts_then}
use Rattle.board.proofs.Replaced.{with_write_row, write_row_only, write_row_parts}
use Rattle.board.proofs.Turning.{stored_thread, with_writes}
use Rattle.board.proofs.parts.Board.end.Goals as goal

pub returns : goal.returns
returns g c =
    let t = c.args.thread in
    let before = c.args.before in
    let b = c.args.self.now in
    let b₁ = c.store_record.new.self in
    let row = c.reset_at.new.row in
    let ready = c.requires.ready in
    let admitted = ready.admitted in
    let reached = subst (λ p. before.cursor ≤ cursor_limit p before.count) ready.phase before.reached in
    record {
      follows = λ d e.
          let q = get_or row t e in
          ends (ready.accepted d e) (sym admitted.reads.phase ∙ ready.phase) (at_end t before b admitted c.requires.at_end reached d e)
          (only_then t (view b d e) (view b₁ d e) (view (with_write_row b₁ row) d e) (record_only t b b₁ d e c.store_record.ensures) (write_row_only b₁ t c.reset_at.ensures d e)) q
          (subst (λ x. Emptied g.W.Signature.has g.W.Signature.resets x q) (ap (λ xs. get_or xs t e) c.store_record.ensures.writes) (c.reset_at.ensures.turned e))
          (ap (λ x. with_writes x q) (stored_thread t b admitted.has b₁ c.cleared.result Idle 0 0 0 c.cleared.ensures c.store_record.ensures d e));
      parts = parts_then b b₁ c.store_record.ensures.parts (write_row_parts b₁ t c.reset_at.ensures);
    }
