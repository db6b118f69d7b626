-- A write: the entry goes to its place, the record counts it, and the write signature takes its line.
use Rattle.std.proofs.Common.{◌≡◌, ℕ, ◌+◌, ◌<◌, ◌≤◌, max, not, ◌&&◌, eqb, List, length, get_or, take, is_some, None, sym, ap, ◌∙◌, subst, arith, take_at}
use Rattle.signature.specs.Meaning.{Inserted}
use Rattle.signature.specs.declared.Signature.{Ghosts}
use Rattle.write_buffer.specs.declared.entry.Entry.{Entry}
use Rattle.conflict.specs.Conflicts.{line}
use Rattle.board.specs.declared.parts.Board.{Board}
use Rattle.thread_record.specs.declared.phase.Phase.TheVariants.{Running}
use Rattle.thread_record.specs.declared.record.Record.{Record}
use Rattle.board.specs.Admissions.{Admitted}
use Rattle.write_buffer.specs.Buffers.{fronted, lookup, place, placed}
use Rattle.board.specs.Changes.{EntryStored, RecordStored, RowTurned}
use Rattle.thread_record.specs.Records.{Is, plain_of}
use Rattle.board.specs.Refusals.{refusal, write}
use Rattle.board.specs.Rules.{Rule, put, writes_word}
use Rattle.board.specs.States.{Only, stored}
use Rattle.board.specs.Views.{part, view}
use Rattle.board.proofs.Owns.{own_buffer, own_count}
use Rattle.write_buffer.proofs.Places.{placed_front, placed_long, place_full}
use Rattle.board.proofs.Progress.{has_still}
use Rattle.board.proofs.ReadBack.{few, length-front}
use Rattle.board.proofs.Replaced.{with_write_row}
use Rattle.board.proofs.Turning.{part_long, stored_thread, with_writes}

-- no room is left, as the rules see it
pub no_room : {R W : Type 0} (t a : ℕ) (before : Record) (b : Board R W) (admitted : Admitted t before b) (d : R) (e : W) →
    eqb (place (take before.count (part t b.entries.now)) a) 32 ≡ (eqb (length ((view b d e).thread t).buffer) 32 && not (is_some (lookup ((view b d e).thread t).buffer a)))
no_room t a before b admitted d e =
    let seen = own_buffer t before b admitted d e in
    let most : length ((view b d e).thread t).buffer ≤ 32 = subst (λ n. n ≤ 32) (sym (own_count t before b admitted d e)) (few before.phase before.count before.counted) in
    ap (λ xs. eqb (place xs a) 32) (sym seen) ∙ place_full ((view b d e).thread t).buffer a most

module _ {R W : Type 0} (r : Ghosts R) (w : Ghosts W) (t a v : ℕ) (before : Record) (b b₁ b₂ : Board R W) (row : List W) (admitted : Admitted t before b) where
  abbrev area : List Entry
  area = part t b.entries.now

  abbrev buffer : List Entry
  buffer = take before.count area

  long : length area ≡ 32
  long = part_long t b admitted.has

  pub buffer_long : length buffer ≡ before.count
  buffer_long = length-front before.count area long (few before.phase before.count before.counted)

  module _ (room : place buffer a < 32) (put_in : EntryStored t (place buffer a) (record { address = a; word = v }) b b₁) where
    after : part t b₁.entries.now ≡ fronted (placed buffer a v) area
    after =
        let inside : before.count ≤ length area = omega (arith, few before.phase before.count before.counted, long) in
        let place_inside : place buffer a < length area = omega (arith, long) in
        put_in.stored ∙ placed_front a v before.count area inside place_inside

    module _ (rec : Record) (is : Is Running (max before.count (place buffer a + 1)) 0 0 rec) (counted : RecordStored t (plain_of rec) b₁ b₂)
        (told : RowTurned t (λ s s'. Inserted w.has w.inserts s (line a) s') b₂.writes.now row) (d : R) (e : W)
      where
        count_is : max before.count (place buffer a + 1) ≡ length (placed buffer a v)
        count_is = ap (λ n. max n (place buffer a + 1)) (sym buffer_long) ∙ sym (placed_long a v buffer)

        front_is : take (max before.count (place buffer a + 1)) (part t b₁.entries.now) ≡ placed buffer a v
        front_is = ap (λ xs. take (max before.count (place buffer a + 1)) xs) after ∙ take_at (placed buffer a v) _ _ (sym count_is)

        same_writes : get_or b₂.writes.now t e ≡ get_or b.writes.now t e
        same_writes = ap (λ xs. get_or xs t e) (counted.writes ∙ put_in.writes)

        thread_is :
            (view (with_write_row b₂ row) d e).thread t ≡ stored Running (placed ((view b d e).thread t).buffer a v) 0 0 (fronted (placed ((view b d e).thread t).buffer a v) area) (get_or b.reads.now t d) (get_or row t e)
        thread_is =
            ap (λ x. with_writes x (get_or row t e)) (stored_thread t b₁ (has_still b b₁ t put_in.parts admitted.has) b₂ rec Running (max before.count (place buffer a + 1)) 0 0 is counted d e)
            ∙ (λ i. stored Running (front_is i) 0 0 (after i) (get_or (put_in.reads i) t d) (get_or row t e))
            ∙ (λ i. stored Running (placed (sym (own_buffer t before b admitted d e) i) a v) 0 0 (fronted (placed (sym (own_buffer t before b admitted d e) i) a v) area) (get_or b.reads.now t d) (get_or row t e))

        pub put_rule : refusal r w (view b d e) (write t a v) ≡ None → Only t (view b d e).words (view b d e) (view (with_write_row b₂ row) d e) → Rule r w (view b d e) (put t a v) (view (with_write_row b₂ row) d e)
        put_rule accepted only =
            writes_word accepted only (get_or row t e)
            (subst (λ x. Inserted w.has w.inserts x (line a) (get_or row t e)) same_writes (told.turned e)) thread_is
