use Rattle.std.proofs.Common.{true, None, sym, ap, ◌∙◌, subst, rules}
use Rattle.refusal.specs.Rows.{nack_row}
use Rattle.conflict.specs.Conflicts.{line}
use Rattle.board.specs.Refusals.{plain_write, refusal}
use Rattle.board.specs.Requests.{Requested, nacker}
use Rattle.board.specs.Rules.{Stores, plain_put, writes_plain}
use Rattle.board.specs.Views.{view}
use Rattle.board.proofs.Outcomes.{nacked_by, passed_on}
use Rattle.board.proofs.Owns.{line_fits}
use Rattle.board.proofs.Progress.{parts_then}
use Rattle.board.proofs.parts.Board.plain_write.Goals as goal

pub returns-in_err-check_plain : goal.returns-in_err-check_plain
unfolding refusal
returns-in_err-check_plain g c =
    let a = c.args.address in
    let v = c.args.word in
    passed_on g.R.Signature g.W.Signature (plain_write a v) (λ _. plain_put a v) c.args.self.now _
    (λ d e. c.in_err-check_plain.ensures.decides d e (nack_row (nacker g.R.Signature g.W.Signature (view c.args.self.now d e) None (line a))))
    c.from_residual.result c.from_residual.ensures.1

pub returns-in_err-ask : goal.returns-in_err-ask
unfolding refusal
returns-in_err-ask g c =
    let a = c.args.address in
    let v = c.args.word in
    let b = c.args.self.now in
    let found = c.in_ok-check_plain.ensures in
    let on_line = c.line_of.ensures ∙ line_fits b found.accepts.fits a found.accepts.address in
    nacked_by g.R.Signature g.W.Signature (plain_write a v) (λ _. plain_put a v) b _ c.ask.new.self
    (λ d e.
    let nacking = ap (λ l. nacker g.R.Signature g.W.Signature (view b d e) None l) (sym on_line) ∙ c.in_err-ask.ensures.0 d e in
    sym (ap nack_row nacking) ∙ found.decides d e (nack_row (nacker g.R.Signature g.W.Signature (view b d e) None (line a))))
    c.in_err-ask.ensures.1 c.from_residual-in_err-ask.result c.from_residual-in_err-ask.ensures.1

pub returns : goal.returns
unfolding refusal
returns g c =
    let a = c.args.address in
    let v = c.args.word in
    let b = c.args.self.now in
    let b₁ = c.ask.new.self in
    let b₂ = c.store_word.new.self in
    let found = c.in_ok-check_plain.ensures in
    let on_line = c.line_of.ensures ∙ line_fits b found.accepts.fits a found.accepts.address in
    let asked = subst (λ l. (d : g.row.R.Denot) (e : g.row.W.Denot) → Requested g.R.Signature g.W.Signature true None l (view b d e) (view b₁ d e)) on_line c.in_ok-ask.ensures.0 in
    let stores : (d : g.row.R.Denot) (e : g.row.W.Denot) → Stores a v (view b₁ d e) (view b₂ d e) = search rules in
    record {
      follows = λ d e.
          writes_plain {s₁ = view b₁ d e} (sym (found.decides d e (nack_row (nacker g.R.Signature g.W.Signature (view b d e) None (line a)))) ∙ ap nack_row (asked d e).free) (asked d e) (stores d e);
      unaltered = tt;
      parts = parts_then b b₁ c.in_ok-ask.ensures.1 c.store_word.ensures.parts;
    }
