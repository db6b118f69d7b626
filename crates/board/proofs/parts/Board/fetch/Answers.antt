use Rattle.std.proofs.Common.{◌≡◌, ◌+◌, ◌≤◌, true, Some, sym, ap, ◌∙◌, subst, arith}
use Rattle.thread_record.specs.declared.phase.Phase.TheVariants.{Aborted, Validating}
use Rattle.board.specs.Changes.{Turns}
use Rattle.thread_record.specs.Limits.{cursor_limit}
use Rattle.board.specs.Requests.{Cleared, Requested, nacker, rewound}
use Rattle.board.specs.Rules.{fetches, is_lost, is_nacked}
use Rattle.board.specs.Views.{view}
use Rattle.board.proofs.Alone.{record_only}
use Rattle.board.proofs.Cursors.{moved}
use Rattle.board.proofs.Effects.{aborts_after_four, four_when}
use Rattle.board.proofs.Loads.{own_not_other}
use Rattle.board.proofs.Owns.{line_fits}
use Rattle.board.proofs.Progress.{has_still, parts_then}
use Rattle.std.proofs.Math.Nat.{min-eq_left}
use Rattle.board.proofs.parts.Board.fetch.Goals as goal

pub returns-in-Ok : goal.returns-in-Ok
returns-in-Ok g c =
    let t = c.args.thread in
    let before = c.args.before in
    let b = c.args.self.now in
    let entry = c.entry_at-entry.result in
    let b₁ = c.ask-asked.new.self in
    let b₂ = c.store_record.new.self in
    let ready = c.requires.ready in
    let admitted = ready.admitted in
    let on_line = c.line_of.ensures ∙ line_fits b admitted.has.fits entry.address c.entry_at-entry.ensures.on_board in
    let advanced = c.advanced.ensures in
    let further : before.cursor + 1 ≤ before.count = omega (arith, c.requires.counted) in
    let room = subst (λ p. before.cursor + 1 ≤ cursor_limit p before.count) (sym ready.phase) further in
    let asked = subst (λ l. (d : g.row.R.Denot) (e : g.row.W.Denot) → Requested g.R.Signature g.W.Signature true (Some t) l (view b d e) (view b₁ d e)) on_line c.in-Ok.ensures.0 in
    let parts = c.in-Ok.ensures.1 in
    record {
      follows = λ d e.
          fetches {s₁ = view b₁ d e} entry (ready.accepted d e) (sym admitted.reads.phase ∙ ready.phase) (c.entry_at-entry.ensures.at_cursor d e)
          (asked d e) (record_only t b₁ b₂ d e c.store_record.ensures)
          (moved t before b admitted b₁ b₂ c.advanced.result Validating (((view b d e).thread t).cursor + 1) ((view b d e).thread t).repeats d e
          (has_still b b₁ t parts admitted.has) ((asked d e).own t admitted.has.thread (own_not_other t))
          (record { phase = advanced.phase ∙ ready.phase; count = advanced.count; cursor = advanced.cursor ∙ min-eq_left room ∙ ap (λ n. n + 1) admitted.reads.cursor; repeats = advanced.repeats ∙ admitted.reads.repeats })
          c.store_record.ensures);
      parts = parts_then b b₁ parts c.store_record.ensures.parts;
    }

pub returns-in-Aborts : goal.returns-in-Aborts
returns-in-Aborts g c =
    let t = c.args.thread in
    let before = c.args.before in
    let b = c.args.self.now in
    let entry = c.entry_at-entry.result in
    let b₂ = c.clear.new.self in
    let ready = c.requires.ready in
    let admitted = ready.admitted in
    let on_line = c.line_of.ensures ∙ line_fits b admitted.has.fits entry.address c.entry_at-entry.ensures.on_board in
    let turns = subst (λ z. Turns t (Cleared g.R.Signature g.W.Signature Aborted) z b₂) c.in-Err.ensures.1 c.clear.ensures in
    record {
      follows = λ d e.
          is_lost entry (ready.accepted d e) (sym admitted.reads.phase ∙ ready.phase) (c.entry_at-entry.ensures.at_cursor d e)
          (ap (λ l. nacker g.R.Signature g.W.Signature (view b d e) (Some t) l) (sym on_line) ∙ c.in-Err.ensures.0 d e)
          (sym admitted.reads.repeats ∙ four_when before.repeats c.in-Aborts.ensures) (turns.only d e) (turns.thread d e);
      parts = turns.parts;
    }

pub returns-in_default : goal.returns-in_default
returns-in_default g c =
    let t = c.args.thread in
    let before = c.args.before in
    let b = c.args.self.now in
    let entry = c.entry_at-entry.result in
    let b₂ = c.rewind.new.self in
    let ready = c.requires.ready in
    let admitted = ready.admitted in
    let on_line = c.line_of.ensures ∙ line_fits b admitted.has.fits entry.address c.entry_at-entry.ensures.on_board in
    let turns = subst (λ z. Turns t (λ x y. y ≡ rewound x) z b₂) c.in-Err.ensures.1 c.rewind.ensures in
    record {
      follows = λ d e.
          is_nacked entry (ready.accepted d e) (sym admitted.reads.phase ∙ ready.phase) (c.entry_at-entry.ensures.at_cursor d e)
          (ap (λ l. nacker g.R.Signature g.W.Signature (view b d e) (Some t) l) (sym on_line) ∙ c.in-Err.ensures.0 d e)
          (λ four. c.in_default.not-Aborts (c.one_more.ensures ∙ aborts_after_four before.repeats (admitted.reads.repeats ∙ four))) (turns.only d e) (turns.thread d e);
      parts = turns.parts;
    }
