-- What the small changes make of a thread.
use Rattle.std.proofs.Common.{◌≡◌, ℕ, ◌*◌, ◌<◌, true, length, get_or, take, ap, ◌∙◌, arith, length-drop, length-take, get_or-set_same}
use Rattle.board.specs.declared.parts.Board.{Board}
use Rattle.thread_record.specs.declared.phase.Phase.{Phase}
use Rattle.thread_record.specs.declared.record.Record.{Record}
use Rattle.board.specs.Admissions.{Has}
use Rattle.board.specs.Changes.{RecordStored}
use Rattle.thread_record.specs.Records.{Is, plain_of}
use Rattle.board.specs.States.{Thread, stored}
use Rattle.board.specs.Views.{blank, part, right_lengths, thread_of, view}
use Rattle.board.proofs.ReadBack.{read_back}

entries_long : (words records entries reads writes : ℕ) → right_lengths words records entries reads writes ≡ true → entries ≡ 32 * records
entries_long words records entries reads writes fits = grind (arith, fits)

module _ {R W : Type 0} (t : ℕ) (b : Board R W) (has : Has t b) where
  pub part_long : length (part t b.entries.now) ≡ 32
  part_long =
      let whole : length b.entries.now ≡ 32 * length b.records.now =
      entries_long (length b.words.now) (length b.records.now) (length b.entries.now) (length b.reads.now) (length b.writes.now) has.fits in
      let inside : t < length b.records.now = has.thread in
      simp (length-take, length-drop) (omega arith)

  -- a stored record, by its numbers
  pub stored_thread : (b' : Board R W) (rec : Record) (p : Phase) (count cursor repeats : ℕ) → Is p count cursor repeats rec → RecordStored t (plain_of rec) b b' → (d : R) (e : W) →
      (view b' d e).thread t
      ≡ stored p (take count (part t b.entries.now)) cursor repeats (part t b.entries.now) (get_or b.reads.now t d) (get_or b.writes.now t e)
  stored_thread b' rec p count cursor repeats is s d e =
      (λ i. thread_of (now_stored i) (part t (s.entries i)) (get_or (s.reads i) t d) (get_or (s.writes i) t e))
      ∙ read_back rec (part t b.entries.now) part_long (get_or b.reads.now t d) (get_or b.writes.now t e)
      ∙ (λ i. stored (is.phase i) (take (is.count i) (part t b.entries.now)) (is.cursor i) (is.repeats i) (part t b.entries.now) (get_or b.reads.now t d) (get_or b.writes.now t e))
    where
      now_stored : get_or b'.records.now t blank ≡ plain_of rec
      now_stored = ap (λ xs. get_or xs t blank) s.records ∙ get_or-set_same b.records.now t (plain_of rec) blank has.thread

-- a thread with another write signature, and all else as it was
abbrev pub with_writes : {R W : Type 0} → Thread R W → W → Thread R W
with_writes x q = record { plain = x.plain; area = x.area; phase = x.phase; buffer = x.buffer; cursor = x.cursor; repeats = x.repeats; reads = x.reads; writes = q }
