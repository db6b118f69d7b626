use Rattle.std.proofs.Common.{◌+◌, ◌<◌, ◌≤◌, min, max, eqb, [], ◌∷◌, None, sym, ap, ◌∙◌, subst, rules}
use Rattle.signature.specs.Meaning.{Inserted}
use Rattle.thread_record.specs.declared.phase.Phase.TheVariants.{Running}
use Rattle.write_buffer.specs.Buffers.{place}
use Rattle.refusal.specs.Rows.{row}
use Rattle.board.specs.Changes.{EntryStored, RowTurned}
use Rattle.thread_record.specs.Records.{Is}
use Rattle.board.specs.Refusals.{full_row, refusal, write}
use Rattle.board.specs.Rules.{put}
use Rattle.board.specs.Views.{view}
use Rattle.board.proofs.Alone.{entry_only, only_then, record_only}
use Rattle.board.proofs.Outcomes.{passed_on}
use Rattle.board.proofs.Owns.{line_fits}
use Rattle.std.proofs.Math.Nat.{min-eq_left}
use Rattle.board.proofs.Progress.{parts_then}
use Rattle.board.proofs.Puts.{no_room, put_rule}
use Rattle.board.proofs.Replaced.{with_write_row, write_row_only, write_row_parts}
use Rattle.board.proofs.parts.Board.write.Goals as goal

pub returns-in_err-before : goal.returns-in_err-before
unfolding refusal
returns-in_err-before g c =
    let t = c.args.thread in
    let a = c.args.address in
    let v = c.args.word in
    passed_on g.R.Signature g.W.Signature (write t a v) (λ _. put t a v) c.args.self.now _
    (λ d e. c.in_err-before.ensures.decides d e (full_row ((view c.args.self.now d e).thread t).buffer t a None))
    c.from_residual.result c.from_residual.ensures.1

pub returns-in_err-check_room : goal.returns-in_err-check_room
unfolding refusal
returns-in_err-check_room g c =
    let t = c.args.thread in
    let a = c.args.address in
    let v = c.args.word in
    let b = c.args.self.now in
    let found = c.in_ok-before.ensures in
    let at = c.place_of-place.ensures.found ∙ ap (λ xs. place xs a) c.buffer.ensures.holds in
    passed_on g.R.Signature g.W.Signature (write t a v) (λ _. put t a v) b _
    (λ d e.
    c.in_err-check_room.ensures.decides None
    ∙ ap (λ full. row full 7 (t ∷ []) None) (ap (λ n. eqb n 32) at ∙ no_room t a c.in_ok-before.before b found.accepts.0 d e)
    ∙ found.decides d e (full_row ((view b d e).thread t).buffer t a None))
    c.from_residual-in_err-check_room.result c.from_residual-in_err-check_room.ensures.1

pub returns : goal.returns
unfolding refusal
returns g c =
    let t = c.args.thread in
    let a = c.args.address in
    let v = c.args.word in
    let b = c.args.self.now in
    let b₁ = c.store_entry.new.self in
    let b₂ = c.store_record.new.self in
    let writes = c.insert_at.new.row in
    let before = c.in_ok-before.before in
    let found = c.in_ok-before.ensures in
    let at = c.place_of-place.ensures.found ∙ ap (λ xs. place xs a) c.buffer.ensures.holds in
    let on_line = c.line_of.ensures ∙ line_fits b found.accepts.2.fits a found.accepts.2.address in
    let small : c.place_of-place.result < 32 = search rules in
    let put_in = subst (λ n. EntryStored t n (record { address = a; word = v }) b b₁) at c.store_entry.ensures in
    let most : max before.count (c.place_of-place.result + 1) ≤ 32 = search rules in
    let is = subst (λ n. Is Running n 0 0 c.running.result) (ap (λ n. min n 32) c.max.ensures ∙ min-eq_left most ∙ ap (λ n. max before.count (n + 1)) at) c.running.ensures in
    let told = subst (λ l. RowTurned t (λ s s'. Inserted g.W.Signature.has g.W.Signature.inserts s l s') b₂.writes.now writes) on_line c.insert_at.ensures in
    record {
      follows = λ d e.
          put_rule g.R.Signature g.W.Signature t a v before b b₁ b₂ writes found.accepts.0 (subst (λ n. n < 32) at small) put_in c.running.result is c.store_record.ensures told d e
          (sym (c.in_ok-check_room.ensures.decides None
          ∙ ap (λ full. row full 7 (t ∷ []) None) (ap (λ n. eqb n 32) at ∙ no_room t a before b found.accepts.0 d e)
          ∙ found.decides d e (full_row ((view b d e).thread t).buffer t a None)))
          (only_then t (view b d e) (view b₁ d e) (view (with_write_row b₂ writes) d e) (entry_only t b b₁ d e put_in)
          (only_then t (view b₁ d e) (view b₂ d e) (view (with_write_row b₂ writes) d e) (record_only t b₁ b₂ d e c.store_record.ensures) (write_row_only b₂ t told d e)));
      unaltered = tt;
      parts = parts_then b b₁ put_in.parts (parts_then b₁ b₂ c.store_record.ensures.parts (write_row_parts b₂ t told));
    }
