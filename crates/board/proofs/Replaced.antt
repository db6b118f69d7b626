-- A board of which one row of signatures is replaced.
use Rattle.std.proofs.Common.{ℕ, List, get_or, refl}
use borrow.Rule.Slice.Mut.{set_vals}
use Rattle.board.specs.declared.parts.Board.{Board}
use Rattle.board.specs.Changes.{RowTurned}
use Rattle.board.specs.States.{Only}
use Rattle.board.specs.Views.{SameParts, blank, part, thread_of, view}
use Rattle.board.proofs.Progress.{same_fits}

module _ {R W : Type 0} (b : Board R W) where
  abbrev pub with_read_row : List R → Board R W
  with_read_row row = record { words = b.words; records = b.records; entries = b.entries; reads = set_vals row b.reads; writes = b.writes }

  abbrev pub with_write_row : List W → Board R W
  with_write_row row = record { words = b.words; records = b.records; entries = b.entries; reads = b.reads; writes = set_vals row b.writes }

  module _ (t : ℕ) {row : List R} {becomes : R → R → Type 0} (turned : RowTurned t becomes b.reads.now row) where
    pub read_row_parts : SameParts b (with_read_row row)
    read_row_parts = record {
      words = refl;
      records = refl;
      entries = refl;
      reads = refl;
      writes = refl;
      words_long = refl;
      records_long = refl;
      entries_long = refl;
      reads_long = turned.long;
      writes_long = refl;
    }

    pub read_row_only : (d : R) (e : W) → Only t (view b d e).words (view b d e) (view (with_read_row row) d e)
    read_row_only d e = record {
      others = λ u h ne. λ i. thread_of (get_or b.records.now u blank) (part u b.entries.now) (turned.others d u ne i) (get_or b.writes.now u e);
      memory = λ a. refl;
      shape = record { fits = same_fits b (with_read_row row) read_row_parts; size = refl; threads = refl };
    }

  module _ (t : ℕ) {row : List W} {becomes : W → W → Type 0} (turned : RowTurned t becomes b.writes.now row) where
    pub write_row_parts : SameParts b (with_write_row row)
    write_row_parts = record {
      words = refl;
      records = refl;
      entries = refl;
      reads = refl;
      writes = refl;
      words_long = refl;
      records_long = refl;
      entries_long = refl;
      reads_long = refl;
      writes_long = turned.long;
    }

    pub write_row_only : (d : R) (e : W) → Only t (view b d e).words (view b d e) (view (with_write_row row) d e)
    write_row_only d e = record {
      others = λ u h ne. λ i. thread_of (get_or b.records.now u blank) (part u b.entries.now) (get_or b.reads.now u d) (turned.others e u ne i);
      memory = λ a. refl;
      shape = record { fits = same_fits b (with_write_row row) write_row_parts; size = refl; threads = refl };
    }
