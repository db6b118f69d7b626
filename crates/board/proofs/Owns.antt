-- What is read of an admitted thread is what the rules see of it.
use Rattle.std.proofs.Common.{◌≡◌, ℕ, ◌%◌, ◌<◌, ◌≤◌, true, List, length, take, Option, sym, ap, ◌∙◌, mod-eq_of_lt, arith}
use Rattle.write_buffer.specs.declared.entry.Entry.{Entry}
use Rattle.conflict.specs.Conflicts.{line}
use Rattle.write_buffer.specs.Buffers.{lookup}
use Rattle.board.specs.declared.parts.Board.{Board}
use Rattle.thread_record.specs.declared.record.Record.{Record}
use Rattle.board.specs.Admissions.{Admitted}
use Rattle.board.specs.Views.{fits_of, part, right_lengths, view}
use Rattle.board.proofs.ReadBack.{few, length-front}
use Rattle.board.proofs.Turning.{part_long}

module _ {R W : Type 0} (t : ℕ) (rec : Record) (b : Board R W) (a : Admitted t rec b) (d : R) (e : W) where
  pub own_buffer : ((view b d e).thread t).buffer ≡ take rec.count (part t b.entries.now)
  own_buffer = ap (λ n. take n (part t b.entries.now)) (sym a.reads.count)

  pub own_count : length ((view b d e).thread t).buffer ≡ rec.count
  own_count = ap length own_buffer ∙ length-front rec.count (part t b.entries.now) (part_long t b a.has) (few rec.phase rec.count rec.counted)

  pub own_lookup : (address : ℕ) (o : Option ℕ) (found : List Entry) → found ≡ take rec.count (part t b.entries.now) → o ≡ lookup found address → lookup ((view b d e).thread t).buffer address ≡ o
  own_lookup address o found is was = ap (λ xs. lookup xs address) (own_buffer ∙ sym is) ∙ sym was

words_most : (words records entries reads writes : ℕ) → right_lengths words records entries reads writes ≡ true → words ≤ 65536
words_most words records entries reads writes fits = grind (arith, fits)

-- the line of an address of the board is a number of 16 bits
pub line_fits : {R W : Type 0} (b : Board R W) → fits_of b ≡ true → (a : ℕ) → a < length b.words.now → line a % 65536 ≡ line a
line_fits b fits a inside =
    let most : length b.words.now ≤ 65536 = words_most (length b.words.now) (length b.records.now) (length b.entries.now) (length b.reads.now) (length b.writes.now) fits in
    mod-eq_of_lt (omega arith)
