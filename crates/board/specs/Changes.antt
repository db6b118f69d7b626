-- What the small changes to a board's parts are, part by part. Assumes nothing.
use Rattle.std.specs.Prelude.{◌≡◌, ℕ, List, length, Bool, if◌then◌else◌, Some, Ok, Err, Option, Result, ◌≢◌, slice_index_or, slice_set}
use Rattle.signature.specs.declared.Signature.{Ghosts}
use Rattle.write_buffer.specs.declared.entry.Entry.{Entry}
use Rattle.conflict.specs.declared.effect.Effect.{Effect}
use Rattle.conflict.specs.declared.effect.Effect.TheVariants.{Stays}
use Rattle.conflict.specs.Conflicts.{other}
use Rattle.refusal.specs.declared.nack.Nack.{Nack}
use Rattle.board.specs.declared.parts.Board.{Board}
use Rattle.thread_record.specs.declared.plain.PlainRecord.{PlainRecord}
use Rattle.board.specs.Requests.{Leaves, Requested, effect_on, nacker}
use Rattle.board.specs.States.{Only, Thread}
use Rattle.board.specs.Views.{SameParts, part, view}

-- the signature of thread t became what the relation says, and the others of the row stayed
pub record RowTurned {S : Type 0} (t : ℕ) (becomes : S → S → Type 0) (row row' : List S) : Type 0 where
  pub turned : (d : S) → becomes (slice_index_or row t d) (slice_index_or row' t d)
  pub others : (d : S) (u : ℕ) → (u ≢ t) → slice_index_or row' u d ≡ slice_index_or row u d
  pub long : length row' ≡ length row

module _ {R W : Type 0} where
  -- the plain record of thread t was stored, and nothing else changed
  pub record RecordStored (t : ℕ) (plain : PlainRecord) (b b' : Board R W) : Type 0 where
    pub words : b'.words.now ≡ b.words.now
    pub records : b'.records.now ≡ slice_set b.records.now t plain
    pub entries : b'.entries.now ≡ b.entries.now
    pub reads : b'.reads.now ≡ b.reads.now
    pub writes : b'.writes.now ≡ b.writes.now
    pub parts : SameParts b b'

  -- a word was stored, and nothing else changed
  pub record WordStored (a v : ℕ) (b b' : Board R W) : Type 0 where
    pub words : b'.words.now ≡ slice_set b.words.now a v
    pub records : b'.records.now ≡ b.records.now
    pub entries : b'.entries.now ≡ b.entries.now
    pub reads : b'.reads.now ≡ b.reads.now
    pub writes : b'.writes.now ≡ b.writes.now
    pub parts : SameParts b b'

  -- the entry at a place of thread t's part was stored, and nothing else changed
  pub record EntryStored (t place : ℕ) (entry : Entry) (b b' : Board R W) : Type 0 where
    pub words : b'.words.now ≡ b.words.now
    pub records : b'.records.now ≡ b.records.now
    pub stored : part t b'.entries.now ≡ slice_set (part t b.entries.now) place entry
    pub others : (u : ℕ) → (u ≢ t) → part u b'.entries.now ≡ part u b.entries.now
    pub reads : b'.reads.now ≡ b.reads.now
    pub writes : b'.writes.now ≡ b.writes.now
    pub parts : SameParts b b'

  -- thread t became what the relation says, and nothing else changed
  pub record Turns (t : ℕ) (becomes : Thread R W → Thread R W → Type 0) (b b' : Board R W) : Type 0 where
    pub only : (d : R) (e : W) → Only t (view b d e).words (view b d e) (view b' d e)
    pub thread : (d : R) (e : W) → becomes ((view b d e).thread t) ((view b' d e).thread t)
    pub parts : SameParts b b'

module _ {R W : Type 0} (r : Ghosts R) (w : Ghosts W) where
  -- what a request that nobody nacked does to thread u, which may be the requester
  abbrev pub met : Bool → Option ℕ → ℕ → ℕ → Thread R W → Effect
  met exclusive who l u x = if other who u then effect_on r w exclusive l x else Stays

  -- what it leaves of thread u
  abbrev pub Answers : Bool → Option ℕ → ℕ → ℕ → Thread R W → Thread R W → Type 0
  Answers exclusive who l u x y = Leaves r w (met exclusive who l u x) x y

  -- a request was made: nobody nacked it, or the given thread did and nothing changed
  abbrev pub Asked : {X : Type 0} → Bool → Option ℕ → ℕ → Board R W → Result X Nack → Board R W → Type 0
  Asked exclusive who l b (Ok x) b' = ((d : R) (e : W) → Requested r w exclusive who l (view b d e) (view b' d e)) × SameParts b b'
  Asked exclusive who l b (Err nack) b' = ((d : R) (e : W) → nacker r w (view b d e) who l ≡ Some nack.by) × (b' ≡ b)
