-- What each call does: which answers it may give at a board, and what it leaves. Assumes nothing.
use Rattle.std.specs.Prelude.{◌≡◌, ℕ, ◌+◌, ◌<◌, true, false, [], length, Some, None, Ok, Err, Result, ◌≢◌, slice_index_or}
use Rattle.signature.specs.Meaning.{Emptied, Inserted}
use Rattle.signature.specs.declared.Signature.{Ghosts}
use Rattle.write_buffer.specs.declared.entry.Entry.{Entry}
use Rattle.thread_record.specs.declared.phase.Phase.TheVariants.{Idle, Running, Validating, Copying, Aborted}
use Rattle.refusal.specs.declared.refusal.Refusal.{Refusal}
use Rattle.refusal.specs.declared.stepped.Stepped.{Stepped}
use Rattle.refusal.specs.declared.stepped.Stepped.TheVariants.{Fetched, Repeated, Lost, Passed, Copied, Ended}
use Rattle.refusal.specs.Cases.{Case, refusal_case, step_case}
use Rattle.conflict.specs.Conflicts.{line}
use Rattle.write_buffer.specs.Buffers.{fronted, lookup, placed}
use Rattle.board.specs.Refusals.{Call, begin, commit, step, abandon, read, write, plain_read, plain_write, refusal}
use Rattle.board.specs.Requests.{Cleared, Requested, nacker, rewound}
use Rattle.board.specs.States.{State, Thread, Only, SameShape, at, stored}

-- a call with its answer
pub data Event : Type 0 where
  began committed abandoned : ℕ → Event
  got put : ℕ → ℕ → ℕ → Event
  stepped : ℕ → Case → Event
  plain_got plain_put : ℕ → ℕ → Event
  refused : Call → Case → Event

-- the event of a call by what it returned
abbrev pub answered : {X : Type 0} → Call → (X → Event) → Result X Refusal → Event
answered c accepted (Ok x) = accepted x
answered c accepted (Err f) = refused c (refusal_case f)

-- the event of an accepted step
abbrev pub step_event : ℕ → Stepped → Event
step_event t answer = stepped t (step_case answer)

module _ {R W : Type 0} where
  -- the given entry stands at the cursor of a thread
  pub record AtCursor (x : Thread R W) (e : Entry) : Type 0 where
    pub below : x.cursor < length x.buffer
    pub entry : e ≡ slice_index_or x.buffer x.cursor e

  -- nothing but the word at an address differs
  pub record Stores (a v : ℕ) (s s' : State R W) : Type 0 where
    pub threads : (u : ℕ) → u < s.threads → s'.thread u ≡ s.thread u
    pub memory : (b : ℕ) → s'.words b ≡ at s.words a v b
    pub shape : SameShape s s'

  -- a thread with another read signature, and all else as it was
  abbrev pub with_reads : Thread R W → R → Thread R W
  with_reads x q =
      record { plain = x.plain; area = x.area; phase = x.phase; buffer = x.buffer; cursor = x.cursor; repeats = x.repeats; reads = q; writes = x.writes }

-- r and w are the kinds of the two rows of signatures, by their ghost members; s is the board before the call, and s' the one after it
module _ {R W : Type 0} (r : Ghosts R) (w : Ghosts W) where
  pub data Rule (s : State R W) : Event → State R W → Type 0 where
    -- a refusal stands in the table, and changes nothing
    refuses : {c : Call} {f : Case} → refusal r w s c ≡ Some f → Rule s (refused c f) s
    -- begin: Running, and both signatures reset
    begins : {t : ℕ} {s' : State R W} → refusal r w s (begin t) ≡ None →
        Only t s.words s s' → Cleared r w Running (s.thread t) (s'.thread t) → Rule s (began t) s'
    -- read of an address that is in the buffer: the word there, and nothing changes
    reads_own : {t a v : ℕ} → refusal r w s (read t a) ≡ None → lookup (s.thread t).buffer a ≡ Some v → Rule s (got t a v) s
    -- read of another: a shared request, and the line goes into the read signature
    reads_memory : {t a : ℕ} {s₁ s' : State R W} → refusal r w s (read t a) ≡ None → lookup (s.thread t).buffer a ≡ None →
        Requested r w false (Some t) (line a) s s₁ → Only t s₁.words s₁ s' →
        (q : R) → Inserted r.has r.inserts (s.thread t).reads (line a) q → s'.thread t ≡ with_reads (s.thread t) q →
        Rule s (got t a (s.words a)) s'
    -- write: the buffer takes the word, and the write signature the line
    writes_word : {t a v : ℕ} {s' : State R W} → refusal r w s (write t a v) ≡ None → Only t s.words s s' →
        (q : W) → Inserted w.has w.inserts (s.thread t).writes (line a) q →
        s'.thread t ≡ stored Running (placed (s.thread t).buffer a v) 0 0 (fronted (placed (s.thread t).buffer a v) (s.thread t).area) (s.thread t).reads q →
        Rule s (put t a v) s'
    -- commit: Validating, from the first entry on
    commits : {t : ℕ} {s' : State R W} → refusal r w s (commit t) ≡ None → Only t s.words s s' →
        s'.thread t ≡ stored Validating (s.thread t).buffer 0 0 (s.thread t).area (s.thread t).reads (s.thread t).writes →
        Rule s (committed t) s'
    -- step, Validating, an entry at the cursor: an exclusive request for its line; accepted, the cursor moves on
    fetches : {t : ℕ} {s₁ s' : State R W} (e : Entry) → refusal r w s (step t) ≡ None → (s.thread t).phase ≡ Validating → AtCursor (s.thread t) e →
        Requested r w true (Some t) (line e.address) s s₁ → Only t s₁.words s₁ s' →
        s'.thread t ≡ stored Validating (s.thread t).buffer ((s.thread t).cursor + 1) (s.thread t).repeats (s.thread t).area (s.thread t).reads (s.thread t).writes →
        Rule s (step_event t Fetched) s'
    -- nacked by thread j, the thread itself repeats
    is_nacked : {t j : ℕ} {s' : State R W} (e : Entry) → refusal r w s (step t) ≡ None → (s.thread t).phase ≡ Validating → AtCursor (s.thread t) e →
        nacker r w s (Some t) (line e.address) ≡ Some j → ((s.thread t).repeats ≢ 4) → Only t s.words s s' → s'.thread t ≡ rewound (s.thread t) →
        Rule s (step_event t (Repeated j)) s'
    -- nacked after four repeats, it is aborted
    is_lost : {t j : ℕ} {s' : State R W} (e : Entry) → refusal r w s (step t) ≡ None → (s.thread t).phase ≡ Validating → AtCursor (s.thread t) e →
        nacker r w s (Some t) (line e.address) ≡ Some j → (s.thread t).repeats ≡ 4 → Only t s.words s s' → Cleared r w Aborted (s.thread t) (s'.thread t) →
        Rule s (step_event t Lost) s'
    -- step, Validating, the cursor at the count: Copying, from the first entry on, and the read signature reset
    passes : {t : ℕ} {s' : State R W} → refusal r w s (step t) ≡ None → (s.thread t).phase ≡ Validating → (s.thread t).cursor ≡ length (s.thread t).buffer →
        Only t s.words s s' → (q : R) → Emptied r.has r.resets (s.thread t).reads q →
        s'.thread t ≡ stored Copying (s.thread t).buffer 0 0 (s.thread t).area q (s.thread t).writes →
        Rule s (step_event t Passed) s'
    -- step, Copying, an entry at the cursor: its word goes to memory
    copies : {t : ℕ} {s' : State R W} (e : Entry) → refusal r w s (step t) ≡ None → (s.thread t).phase ≡ Copying → AtCursor (s.thread t) e →
        Only t (at s.words e.address e.word) s s' →
        s'.thread t ≡ stored Copying (s.thread t).buffer ((s.thread t).cursor + 1) 0 (s.thread t).area (s.thread t).reads (s.thread t).writes →
        Rule s (step_event t Copied) s'
    -- step, Copying, the cursor at the count: Idle with zeros, and the write signature reset
    ends : {t : ℕ} {s' : State R W} → refusal r w s (step t) ≡ None → (s.thread t).phase ≡ Copying → (s.thread t).cursor ≡ length (s.thread t).buffer →
        Only t s.words s s' → (q : W) → Emptied w.has w.resets (s.thread t).writes q →
        s'.thread t ≡ stored Idle [] 0 0 (s.thread t).area (s.thread t).reads q →
        Rule s (step_event t Ended) s'
    -- abandon: Idle with zeros, and both signatures reset
    abandons : {t : ℕ} {s' : State R W} → refusal r w s (abandon t) ≡ None →
        Only t s.words s s' → Cleared r w Idle (s.thread t) (s'.thread t) → Rule s (abandoned t) s'
    -- plain read: a shared request from nobody, and the word
    reads_plain : {a : ℕ} {s' : State R W} → refusal r w s (plain_read a) ≡ None → Requested r w false None (line a) s s' → Rule s (plain_got a (s.words a)) s'
    -- plain write: an exclusive request from nobody, and the word is stored
    writes_plain : {a v : ℕ} {s₁ s' : State R W} → refusal r w s (plain_write a v) ≡ None → Requested r w true None (line a) s s₁ → Stores a v s₁ s' → Rule s (plain_put a v) s'

  -- open: every thread is Idle with zeros and both signatures reset; words and entries stay
  pub record Opened (s s' : State R W) : Type 0 where
    pub threads : (t : ℕ) → t < s.threads → Cleared r w Idle (s.thread t) (s'.thread t)
    pub memory : (a : ℕ) → s'.words a ≡ s.words a
    pub shape : SameShape s s'
