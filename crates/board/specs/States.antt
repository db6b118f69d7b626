-- A board as the rules speak of it. Assumes nothing.
use Rattle.std.specs.Prelude.{◌≡◌, ℕ, ◌<◌, Bool, if◌then◌else◌, List, length, ◌==◌, ◌≢◌}
use Rattle.write_buffer.specs.declared.entry.Entry.{Entry}
use Rattle.thread_record.specs.declared.phase.Phase.{Phase}
use Rattle.thread_record.specs.declared.plain.PlainRecord.{PlainRecord}
use Rattle.thread_record.specs.Phases.{phase_number}

-- a thread: its plain record and its part of the entry area; what is read of these, the buffer being the counted entries; and its two signatures
pub record Thread (R W : Type 0) : Type 0 where
  pub plain : PlainRecord
  pub area : List Entry
  pub phase : Phase
  pub buffer : List Entry
  pub cursor : ℕ
  pub repeats : ℕ
  pub reads : R
  pub writes : W

-- a thread whose record was stored: the plain numbers are just those of the record
abbrev pub stored : {R W : Type 0} → Phase → List Entry → ℕ → ℕ → List Entry → R → W → Thread R W
stored p buffer cursor repeats area reads writes =
    record {
      plain = record { phase = phase_number p; count = length buffer; cursor = cursor; repeats = repeats };
      area = area;
      phase = p;
      buffer = buffer;
      cursor = cursor;
      repeats = repeats;
      reads = reads;
      writes = writes;
    }

-- a board: whether its parts have the right lengths, how many words and threads it has, the word at each address, and the thread of each number
pub record State (R W : Type 0) : Type 0 where
  pub fits : Bool
  pub size : ℕ
  pub threads : ℕ
  pub words : ℕ → ℕ
  pub thread : ℕ → Thread R W

-- the words with the one at an address replaced
abbrev pub at : (ℕ → ℕ) → ℕ → ℕ → ℕ → ℕ
at words a v b = if b == a then v else words b

module _ {R W : Type 0} where
  -- a board of the same size and with as many threads
  pub record SameShape (s s' : State R W) : Type 0 where
    pub fits : s'.fits ≡ s.fits
    pub size : s'.size ≡ s.size
    pub threads : s'.threads ≡ s.threads

  -- no thread differs but t, and the words are those given
  pub record Only (t : ℕ) (words : ℕ → ℕ) (s s' : State R W) : Type 0 where
    pub others : (u : ℕ) → u < s.threads → (u ≢ t) → s'.thread u ≡ s.thread u
    pub memory : (a : ℕ) → s'.words a ≡ words a
    pub shape : SameShape s s'
