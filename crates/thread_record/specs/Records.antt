-- A record, as it is read from plain numbers and stored as such. Assumes nothing.
use Rattle.std.specs.Prelude.{◌≡◌, ℕ}
use Rattle.thread_record.specs.declared.phase.Phase.{Phase}
use Rattle.thread_record.specs.declared.plain.PlainRecord.{PlainRecord}
use Rattle.thread_record.specs.declared.record.Record.{Record}
use Rattle.thread_record.specs.Limits.{phase_of, count_as, cursor_as, repeats_as}
use Rattle.thread_record.specs.Phases.{phase_number}

-- the record is what is read from the plain numbers
pub record ReadFrom (plain : PlainRecord) (r : Record) : Type 0 where
  pub phase : r.phase ≡ phase_of plain.phase
  pub count : r.count ≡ count_as (phase_of plain.phase) plain.count
  pub cursor : r.cursor ≡ cursor_as (phase_of plain.phase) (count_as (phase_of plain.phase) plain.count) plain.cursor
  pub repeats : r.repeats ≡ repeats_as (phase_of plain.phase) plain.repeats

-- the plain numbers of a record
abbrev pub plain_of : Record → PlainRecord
plain_of r = record { phase = phase_number r.phase; count = r.count; cursor = r.cursor; repeats = r.repeats }

-- the record has this phase, so many entries counted, the cursor there, and so many repeats
pub record Is (p : Phase) (entries place times : ℕ) (r : Record) : Type 0 where
  pub phase : r.phase ≡ p
  pub count : r.count ≡ entries
  pub cursor : r.cursor ≡ place
  pub repeats : r.repeats ≡ times
