use Rattle.std.proofs.Common.{◌≤◌, get_or, sym, refl, ap, ◌∙◌, subst}
use Rattle.signature.specs.Meaning.{Emptied}
use Rattle.thread_record.specs.declared.phase.Phase.TheVariants.{Copying}
use Rattle.thread_record.specs.Limits.{cursor_limit}
use Rattle.board.specs.Rules.{passes, with_reads}
use Rattle.board.specs.Views.{view}
use Rattle.board.proofs.Alone.{only_then, record_only}
use Rattle.board.proofs.Cursors.{at_end, moved}
use Rattle.board.proofs.Progress.{parts_then}
use Rattle.board.proofs.Replaced.{read_row_only, read_row_parts, with_read_row}
use Rattle.board.proofs.parts.Board.pass.Goals as goal

pub returns : goal.returns
returns g c =
    let t = c.args.thread in
    let before = c.args.before in
    let b = c.args.self.now in
    let b₁ = c.store_record.new.self in
    let row = c.reset_at.new.row in
    let ready = c.requires.ready in
    let admitted = ready.admitted in
    let reached = subst (λ p. before.cursor ≤ cursor_limit p before.count) ready.phase before.reached in
    record {
      follows = λ d e.
          let q = get_or row t d in
          passes (ready.accepted d e) (sym admitted.reads.phase ∙ ready.phase) (at_end t before b admitted c.requires.at_end reached d e)
          (only_then t (view b d e) (view b₁ d e) (view (with_read_row b₁ row) d e) (record_only t b b₁ d e c.store_record.ensures) (read_row_only b₁ t c.reset_at.ensures d e)) q
          (subst (λ x. Emptied g.R.Signature.has g.R.Signature.resets x q) (ap (λ xs. get_or xs t d) c.store_record.ensures.reads) (c.reset_at.ensures.turned d))
          (ap (λ x. with_reads x q) (moved t before b admitted b b₁ c.passed.result Copying 0 0 d e admitted.has refl c.passed.ensures c.store_record.ensures));
      parts = parts_then b b₁ c.store_record.ensures.parts (read_row_parts b₁ t c.reset_at.ensures);
    }
