-- What is known of a thread once the table's rows on it are past. Assumes nothing.
use Rattle.std.specs.Prelude.{◌≡◌, ℕ, ◌<◌, true, length, take, None, slice_index_or}
use Rattle.signature.specs.declared.Signature.{Ghosts}
use Rattle.write_buffer.specs.Buffers.{all_below}
use Rattle.board.specs.declared.parts.Board.{Board}
use Rattle.thread_record.specs.declared.phase.Phase.{Phase}
use Rattle.thread_record.specs.declared.phase.Phase.TheVariants.{Validating}
use Rattle.thread_record.specs.declared.record.Record.{Record}
use Rattle.thread_record.specs.Limits.{phase_of, repeats_as}
use Rattle.thread_record.specs.Records.{ReadFrom}
use Rattle.board.specs.Refusals.{Call, refusal}
use Rattle.board.specs.Views.{blank, fits_of, part, view}

module _ {R W : Type 0} where
  -- the parts are right, the board has the thread
  pub record Has (t : ℕ) (b : Board R W) : Type 0 where
    pub fits : fits_of b ≡ true
    pub thread : t < length b.records.now

  -- the parts are right, and the board has the address
  pub record Addressed (a : ℕ) (b : Board R W) : Type 0 where
    pub fits : fits_of b ≡ true
    pub address : a < length b.words.now

  -- besides, the record is that of the thread, and its counted entries have addresses on the board
  pub record Admitted (t : ℕ) (rec : Record) (b : Board R W) : Type 0 where
    pub has : Has t b
    pub reads : ReadFrom (slice_index_or b.records.now t blank) rec
    pub below : all_below (length b.words.now) (take rec.count (part t b.entries.now)) ≡ true

  -- besides, the thread is in the given phase, and the table does not refuse the call
  pub record Ready (r : Ghosts R) (w : Ghosts W) (call : Call) (p : Phase) (t : ℕ) (rec : Record) (b : Board R W) : Type 0 where
    pub admitted : Admitted t rec b
    pub phase : rec.phase ≡ p
    pub accepted : (d : R) (e : W) → refusal r w (view b d e) call ≡ None

  -- the thread is validating, and may repeat once more
  pub record Repeatable (t : ℕ) (b : Board R W) : Type 0 where
    pub phase : phase_of (slice_index_or b.records.now t blank).phase ≡ Validating
    pub repeats : repeats_as (phase_of (slice_index_or b.records.now t blank).phase) (slice_index_or b.records.now t blank).repeats ≡ 4 → ⊥
