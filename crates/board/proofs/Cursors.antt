-- The entry at a thread's cursor, and a thread whose record moved on.
use Rattle.std.proofs.Common.{◌≡◌, ℕ, ◌<◌, ◌≤◌, length, take, sym, ◌∙◌, subst, arith}
use Rattle.board.specs.declared.parts.Board.{Board}
use Rattle.thread_record.specs.declared.phase.Phase.{Phase}
use Rattle.thread_record.specs.declared.record.Record.{Record}
use Rattle.board.specs.Admissions.{Admitted, Has}
use Rattle.board.specs.Changes.{RecordStored}
use Rattle.thread_record.specs.Records.{Is, plain_of}
use Rattle.board.specs.Rules.{Stores}
use Rattle.board.specs.States.{State, Only, at, stored}
use Rattle.board.specs.Views.{view}
use Rattle.board.proofs.Owns.{own_buffer, own_count}
use Rattle.board.proofs.Turning.{stored_thread}

-- a word was stored, and then a thread changed
pub stored_then : {R W : Type 0} (t a v : ℕ) (s s₁ s₂ : State R W) → Stores a v s s₁ → Only t s₁.words s₁ s₂ → Only t (at s.words a v) s s₂
stored_then t a v s s₁ s₂ first then = record {
  others = λ u h ne. then.others u (subst (λ n. u < n) (sym first.shape.threads) h) ne ∙ first.threads u h;
  memory = λ x. then.memory x ∙ first.memory x;
  shape = record { fits = then.shape.fits ∙ first.shape.fits; size = then.shape.size ∙ first.shape.size; threads = then.shape.threads ∙ first.shape.threads };
}

module _ {R W : Type 0} (t : ℕ) (before : Record) (b : Board R W) (admitted : Admitted t before b) where
  -- the cursor has come to the count
  pub at_end : before.count ≤ before.cursor → before.cursor ≤ before.count → (d : R) (e : W) → ((view b d e).thread t).cursor ≡ length ((view b d e).thread t).buffer
  at_end most least d e = let same : before.cursor ≡ before.count = omega arith in sym admitted.reads.cursor ∙ same ∙ sym (own_count t before b admitted d e)

  -- the record was stored again, with the buffer as it was
  pub moved : (b₁ b₂ : Board R W) (rec : Record) (p : Phase) (cursor repeats : ℕ) (d : R) (e : W) → Has t b₁ → (view b₁ d e).thread t ≡ (view b d e).thread t →
      Is p before.count cursor repeats rec → RecordStored t (plain_of rec) b₁ b₂ →
      (view b₂ d e).thread t ≡ stored p ((view b d e).thread t).buffer cursor repeats ((view b d e).thread t).area ((view b d e).thread t).reads ((view b d e).thread t).writes
  moved b₁ b₂ rec p cursor repeats d e has same is s =
      stored_thread t b₁ has b₂ rec p before.count cursor repeats is s d e
      ∙ (λ i. stored p (take before.count (same i).area) cursor repeats (same i).area (same i).reads (same i).writes)
      ∙ (λ i. stored p (sym (own_buffer t before b admitted d e) i) cursor repeats ((view b d e).thread t).area ((view b d e).thread t).reads ((view b d e).thread t).writes)
