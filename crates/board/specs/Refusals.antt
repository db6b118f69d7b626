-- When a call is refused, and with what. Assumes nothing.
use Rattle.std.specs.Prelude.{ℕ, not, ◌&&◌, List, [], ◌∷◌, length, is_some, Some, None, Option, ◌==◌, nat_lt}
use Rattle.signature.specs.declared.Signature.{Ghosts}
use Rattle.thread_record.specs.Phases.{is_idle, is_running, is_committing, is_live}
use Rattle.write_buffer.specs.declared.entry.Entry.{Entry}
use Rattle.write_buffer.specs.Buffers.{all_below, lookup}
use Rattle.conflict.specs.Conflicts.{line}
use Rattle.refusal.specs.Cases.{Case}
use Rattle.refusal.specs.Rows.{nack_row, phase_row, phase_rows, read_row, row}
use Rattle.board.specs.Requests.{nacker}
use Rattle.board.specs.States.{State}

-- a call, with its arguments: a thread, an address, a word
pub data Call : Type 0 where
  begin commit step abandon : ℕ → Call
  read : ℕ → ℕ → Call
  write : ℕ → ℕ → ℕ → Call
  plain_read : ℕ → Call
  plain_write : ℕ → ℕ → Call

-- no room for one more address
abbrev pub full_row : List Entry → ℕ → ℕ → Option Case → Option Case
full_row buffer t a after = row (length buffer == 32 && not (is_some (lookup buffer a))) 7 (t ∷ []) after

module _ {R W : Type 0} (s : State R W) where
  -- the parts, for every call
  abbrev pub parts_row : Option Case → Option Case
  parts_row after = row (not s.fits) 1 [] after

  -- the parts, and the thread that a call names with its counted entries
  abbrev pub thread_rows : ℕ → Option Case → Option Case
  thread_rows t after = parts_row (row (not (nat_lt t s.threads)) 2 (t ∷ []) (row (not (all_below s.size (s.thread t).buffer)) 3 (t ∷ []) after))

  -- the address that a call names
  abbrev pub address_row : ℕ → Option Case → Option Case
  address_row a after = row (not (nat_lt a s.size)) 4 (a ∷ []) after

-- the refusal of a call, if it is refused: the rows from the top of the table down, so that the upper one wins
module _ {R W : Type 0} (r : Ghosts R) (w : Ghosts W) (s : State R W) where
  unfoldable pub refusal : Call → Option Case
  refusal (begin t) = thread_rows s t (phase_rows is_idle (s.thread t).phase t None)
  refusal (commit t) = thread_rows s t (phase_rows is_running (s.thread t).phase t None)
  refusal (step t) = thread_rows s t (phase_rows is_committing (s.thread t).phase t None)
  refusal (abandon t) = thread_rows s t (phase_row is_live (s.thread t).phase None)
  refusal (read t a) =
      thread_rows s t (address_row s a (phase_rows is_running (s.thread t).phase t (read_row (lookup (s.thread t).buffer a) (nacker r w s (Some t) (line a)))))
  refusal (write t a v) = thread_rows s t (address_row s a (phase_rows is_running (s.thread t).phase t (full_row (s.thread t).buffer t a None)))
  refusal (plain_read a) = parts_row s (address_row s a (nack_row (nacker r w s None (line a))))
  refusal (plain_write a v) = parts_row s (address_row s a (nack_row (nacker r w s None (line a))))
