use Rattle.std.proofs.Common.{get_or, ap, subst}
use Rattle.signature.specs.Meaning.{Emptied}
use Rattle.board.specs.Rules.{with_reads}
use Rattle.board.specs.Views.{view}
use Rattle.board.proofs.Alone.{only_then, record_only}
use Rattle.board.proofs.Progress.{parts_then}
use Rattle.board.proofs.Replaced.{read_row_only, read_row_parts, with_read_row, with_write_row, write_row_only, write_row_parts}
use Rattle.board.proofs.Turning.{stored_thread, with_writes}
use Rattle.board.proofs.parts.Board.clear.Goals as goal

pub returns : goal.returns
returns g c =
    let t = c.args.t in
    let b = c.args.self.now in
    let b₁ = c.store_record.new.self in
    let b₂ = with_read_row b₁ c.reset_at.new.row in
    let b₃ = with_write_row b₂ c.reset_at-2.new.row in
    let stored = c.store_record.ensures in
    record {
      only = λ d e.
          only_then t (view b d e) (view b₁ d e) (view b₃ d e) (record_only t b b₁ d e stored)
          (only_then t (view b₁ d e) (view b₂ d e) (view b₃ d e) (read_row_only b₁ t c.reset_at.ensures d e) (write_row_only b₂ t c.reset_at-2.ensures d e));
      thread = λ d e.
          let q = get_or c.reset_at.new.row t d in
          let p = get_or c.reset_at-2.new.row t e in
          record {
            is = ap (λ x. with_writes (with_reads x q) p) (stored_thread t b c.requires b₁ c.cleared.result c.args.phase 0 0 0 c.cleared.ensures stored d e);
            reads = subst (λ x. Emptied g.R.Signature.has g.R.Signature.resets x q) (ap (λ xs. get_or xs t d) stored.reads) (c.reset_at.ensures.turned d);
            writes = subst (λ x. Emptied g.W.Signature.has g.W.Signature.resets x p) (ap (λ xs. get_or xs t e) stored.writes) (c.reset_at-2.ensures.turned e);
          };
      parts = parts_then b b₁ stored.parts (parts_then b₁ b₂ (read_row_parts b₁ t c.reset_at.ensures) (write_row_parts b₂ t c.reset_at-2.ensures));
    }
