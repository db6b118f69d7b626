use Rattle.std.proofs.Common.{◌≡◌, ◌+◌, ◌≤◌, get_or, sym, ap, ◌∙◌, subst, arith, rules}
use Rattle.thread_record.specs.declared.phase.Phase.TheVariants.{Copying}
use Rattle.thread_record.specs.Limits.{cursor_limit, repeats_limit}
use Rattle.board.specs.Rules.{Stores, copies}
use Rattle.board.specs.Views.{blank, part, thread_of, view}
use Rattle.board.proofs.Alone.{record_only}
use Rattle.board.proofs.Cursors.{moved, stored_then}
use Rattle.board.proofs.Progress.{has_still, parts_then}
use Rattle.std.proofs.Math.Nat.{min-eq_left}
use Rattle.board.proofs.parts.Board.copy.Goals as goal

pub returns : goal.returns
returns g c =
    let t = c.args.thread in
    let before = c.args.before in
    let b = c.args.self.now in
    let entry = c.entry_at-entry.result in
    let b₁ = c.store_word.new.self in
    let b₂ = c.store_record.new.self in
    let ready = c.requires.ready in
    let admitted = ready.admitted in
    let none : before.repeats ≤ 0 = subst (λ p. before.repeats ≤ repeats_limit p) ready.phase before.repeated in
    let zero_repeats : before.repeats ≡ 0 = omega arith in
    let stored = c.store_word.ensures in
    let advanced = c.advanced.ensures in
    let further : before.cursor + 1 ≤ before.count = omega (arith, c.requires.counted) in
    let room = subst (λ p. before.cursor + 1 ≤ cursor_limit p before.count) (sym ready.phase) further in
    let first : (d : g.row.R.Denot) (e : g.row.W.Denot) → Stores entry.address entry.word (view b d e) (view b₁ d e) = search rules in
    record {
      follows = λ d e.
          copies entry (ready.accepted d e) (sym admitted.reads.phase ∙ ready.phase) (c.entry_at-entry.ensures.at_cursor d e)
          (stored_then t entry.address entry.word (view b d e) (view b₁ d e) (view b₂ d e) (first d e) (record_only t b₁ b₂ d e c.store_record.ensures))
          (moved t before b admitted b₁ b₂ c.advanced.result Copying (((view b d e).thread t).cursor + 1) 0 d e (has_still b b₁ t stored.parts admitted.has)
          (λ i. thread_of (get_or (stored.records i) t blank) (part t (stored.entries i)) (get_or (stored.reads i) t d) (get_or (stored.writes i) t e))
          (record { phase = advanced.phase ∙ ready.phase; count = advanced.count; cursor = advanced.cursor ∙ min-eq_left room ∙ ap (λ n. n + 1) admitted.reads.cursor; repeats = advanced.repeats ∙ zero_repeats })
          c.store_record.ensures);
      parts = parts_then b b₁ stored.parts c.store_record.ensures.parts;
    }
