use Rattle.std.proofs.Common.{false, Some, None, sym, ap, ◌∙◌, subst, ap₂}
use Rattle.signature.specs.Meaning.{Inserted}
use Rattle.refusal.specs.Rows.{read_row}
use Rattle.conflict.specs.Conflicts.{line}
use Rattle.write_buffer.specs.Buffers.{lookup}
use Rattle.board.specs.Changes.{RowTurned}
use Rattle.board.specs.Refusals.{read, refusal}
use Rattle.board.specs.Requests.{Requested, nacker}
use Rattle.board.specs.Rules.{got, reads_own}
use Rattle.board.specs.Views.{view}
use Rattle.board.proofs.Loads.{loaded}
use Rattle.board.proofs.Outcomes.{nacked_by, passed_on, same_parts}
use Rattle.board.proofs.Owns.{line_fits, own_lookup}
use Rattle.board.proofs.Progress.{parts_then}
use Rattle.board.proofs.Replaced.{read_row_parts}
use Rattle.board.proofs.parts.Board.read.Goals as goal

pub returns-in_err-record : goal.returns-in_err-record
unfolding refusal
returns-in_err-record g c =
    let t = c.args.thread in
    let a = c.args.address in
    passed_on g.R.Signature g.W.Signature (read t a) (λ v. got t a v) c.args.self.now _
    (λ d e.
    let s = view c.args.self.now d e in
    c.in_err-record.ensures.decides d e (read_row (lookup (s.thread t).buffer a) (nacker g.R.Signature g.W.Signature s (Some t) (line a))))
    c.from_residual.result c.from_residual.ensures.1

pub returns-in-Some : goal.returns-in-Some
unfolding refusal
returns-in-Some g c =
    let t = c.args.thread in
    let a = c.args.address in
    let b = c.args.self.now in
    let found = c.in_ok-record.ensures in
    record {
      follows = λ d e.
          let own = own_lookup t c.in_ok-record.record b found.accepts.0 d e a (Some c.in-Some.word) c.buffer.result.now c.buffer.ensures.holds c.in-Some.ensures in
          let nacking = nacker g.R.Signature g.W.Signature (view b d e) (Some t) (line a) in
          reads_own (sym (found.decides d e (read_row (lookup ((view b d e).thread t).buffer a) nacking)) ∙ ap (λ o. read_row o nacking) own) own;
      unaltered = tt;
      parts = same_parts b;
    }

pub returns-in_err-ask : goal.returns-in_err-ask
unfolding refusal
returns-in_err-ask g c =
    let t = c.args.thread in
    let a = c.args.address in
    let b = c.args.self.now in
    let found = c.in_ok-record.ensures in
    let on_line = c.line_of-line.ensures ∙ line_fits b found.accepts.2.fits a found.accepts.2.address in
    nacked_by g.R.Signature g.W.Signature (read t a) (λ v. got t a v) b _ c.ask.new.self
    (λ d e.
    let s = view b d e in
    let own = own_lookup t c.in_ok-record.record b found.accepts.0 d e a None c.buffer.result.now c.buffer.ensures.holds c.in_default.ensures in
    let nacking = ap (λ l. nacker g.R.Signature g.W.Signature s (Some t) l) (sym on_line) ∙ c.in_err-ask.ensures.0 d e in
    sym (ap₂ read_row own nacking) ∙ found.decides d e (read_row (lookup (s.thread t).buffer a) (nacker g.R.Signature g.W.Signature s (Some t) (line a))))
    c.in_err-ask.ensures.1 c.from_residual-in_err-ask.result c.from_residual-in_err-ask.ensures.1

pub returns : goal.returns
unfolding refusal
returns g c =
    let t = c.args.thread in
    let a = c.args.address in
    let b = c.args.self.now in
    let b₁ = c.ask.new.self in
    let row = c.insert_at.new.row in
    let found = c.in_ok-record.ensures in
    let on_line = c.line_of-line.ensures ∙ line_fits b found.accepts.2.fits a found.accepts.2.address in
    let asked = subst (λ l. (d : g.row.R.Denot) (e : g.row.W.Denot) → Requested g.R.Signature g.W.Signature false (Some t) l (view b d e) (view b₁ d e)) on_line c.in_ok-ask.ensures.0 in
    let turned = subst (λ l. RowTurned t (λ s s'. Inserted g.R.Signature.has g.R.Signature.inserts s l s') b₁.reads.now row) on_line c.insert_at.ensures in
    record {
      follows = λ d e.
          let own = own_lookup t c.in_ok-record.record b found.accepts.0 d e a None c.buffer.result.now c.buffer.ensures.holds c.in_default.ensures in
          let nacking = nacker g.R.Signature g.W.Signature (view b d e) (Some t) (line a) in
          loaded g.R.Signature g.W.Signature t a c.word_at.result b b₁ row d e found.accepts.0.has.thread
          (sym (found.decides d e (read_row (lookup ((view b d e).thread t).buffer a) nacking)) ∙ ap₂ read_row own (asked d e).free) own
          (asked d e) turned c.word_at.ensures;
      unaltered = tt;
      parts = parts_then b b₁ c.in_ok-ask.ensures.1 (read_row_parts b₁ t turned);
    }
