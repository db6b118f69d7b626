-- A board's parts as the rules speak of them, and what a call promises. Assumes nothing.
use Rattle.std.specs.Prelude.{◌≡◌, ℕ, ◌*◌, ◌%◌, Bool, ◌&&◌, List, length, take, drop, IfOk, None, Ok, Err, Result, ◌==◌, nat_le, slice_index, slice_index_or}
use Rattle.signature.specs.declared.Signature.{Ghosts}
use Rattle.write_buffer.specs.declared.entry.Entry.{Entry}
use Rattle.refusal.specs.Rows.{decided}
use Rattle.board.specs.declared.parts.Board.{Board}
use Rattle.thread_record.specs.declared.plain.PlainRecord.{PlainRecord}
use Rattle.refusal.specs.declared.refusal.Refusal.{Refusal}
use Rattle.thread_record.specs.Limits.{phase_of, count_as, cursor_as, repeats_as}
use Rattle.board.specs.Refusals.{Call, parts_row}
use Rattle.board.specs.Rules.{Event, Rule, Opened, answered}
use Rattle.board.specs.States.{State, Thread}

-- a record of zeros
abbrev pub blank : PlainRecord
blank = record { phase = 0; count = 0; cursor = 0; repeats = 0 }

-- thread t's part of the entry area
abbrev pub part : ℕ → List Entry → List Entry
part t entries = take 32 (drop (32 * t) entries)

-- 8 to 65,536 words, a multiple of 8; 1 to 16 records; 32 entries a thread; a signature of each row a thread
abbrev pub right_lengths : ℕ → ℕ → ℕ → ℕ → ℕ → Bool
right_lengths words records entries reads writes =
    (words % 8 == 0) && (nat_le 8 words && (nat_le words 65536 && (nat_le 1 records && (nat_le records 16 && (entries == 32 * records && (reads == records && writes == records))))))

module _ {R W : Type 0} where
  -- a thread, as it is read from its plain record, its part of the entry area and its signatures
  abbrev pub thread_of : PlainRecord → List Entry → R → W → Thread R W
  thread_of plain area reads writes =
      record {
        plain = plain;
        area = area;
        phase = phase_of plain.phase;
        buffer = take (count_as (phase_of plain.phase) plain.count) area;
        cursor = cursor_as (phase_of plain.phase) (count_as (phase_of plain.phase) plain.count) plain.cursor;
        repeats = repeats_as (phase_of plain.phase) plain.repeats;
        reads = reads;
        writes = writes;
      }

  -- the parts have the right lengths
  abbrev pub fits_of : Board R W → Bool
  fits_of b = right_lengths (length b.words.now) (length b.records.now) (length b.entries.now) (length b.reads.now) (length b.writes.now)

  -- the board as the rules speak of it; the two signatures stand for threads that it does not have
  abbrev pub view : Board R W → R → W → State R W
  view b d e =
      record {
        fits = fits_of b;
        size = length b.words.now;
        threads = length b.records.now;
        words = λ a. slice_index b.words.now a;
        thread = λ u. thread_of (slice_index_or b.records.now u blank) (part u b.entries.now) (slice_index_or b.reads.now u d) (slice_index_or b.writes.now u e);
      }

  -- the parts are the ones that were brought, and as long as they were
  pub record SameParts (b b' : Board R W) : Type 0 where
    pub words : b'.words.ghost_name ≡ b.words.ghost_name
    pub records : b'.records.ghost_name ≡ b.records.ghost_name
    pub entries : b'.entries.ghost_name ≡ b.entries.ghost_name
    pub reads : b'.reads.ghost_name ≡ b.reads.ghost_name
    pub writes : b'.writes.ghost_name ≡ b.writes.ghost_name
    pub words_long : length b'.words.now ≡ length b.words.now
    pub records_long : length b'.records.now ≡ length b.records.now
    pub entries_long : length b'.entries.now ≡ length b.entries.now
    pub reads_long : length b'.reads.now ≡ length b.reads.now
    pub writes_long : length b'.writes.now ≡ length b.writes.now

  -- a refusal alters no part
  abbrev pub Unaltered : {X : Type 0} → Result X Refusal → Board R W → Board R W → Type 0
  Unaltered (Ok x) b b' = Unit {0}
  Unaltered (Err f) b b' = b' ≡ b

-- a call with its answer follows the rules, on the parts that were brought
pub record Called {R W X : Type 0} (r : Ghosts R) (w : Ghosts W) (c : Call) (accepted : X → Event) (b : Board R W) (res : Result X Refusal) (b' : Board R W) : Type 0 where
  pub follows : (d : R) (e : W) → Rule r w (view b d e) (answered c accepted res) (view b' d e)
  pub unaltered : Unaltered res b b'
  pub parts : SameParts b b'

-- an accepted call follows the rules, on the parts that were brought
pub record Done {R W : Type 0} (r : Ghosts R) (w : Ghosts W) (event : Event) (b b' : Board R W) : Type 0 where
  pub follows : (d : R) (e : W) → Rule r w (view b d e) event (view b' d e)
  pub parts : SameParts b b'

-- open: refused just where the table's row on the parts says so; accepted, it leaves the board opened
pub record Opens {R W X : Type 0} (r : Ghosts R) (w : Ghosts W) (b : Board R W) (res : Result X Refusal) (b' : Board R W) : Type 0 where
  pub decides : (d : R) (e : W) → decided res None ≡ parts_row (view b d e) None
  pub opened : IfOk res (λ _. (d : R) (e : W) → Opened r w (view b d e) (view b' d e))
  pub unaltered : Unaltered res b b'
  pub parts : SameParts b b'
