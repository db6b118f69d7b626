-- A small change to one thread leaves the others alone.
use Rattle.std.proofs.Common.{◌≡◌, ℕ, ◌<◌, get_or, sym, ap, ◌∙◌, subst, get_or-set_other}
use Rattle.thread_record.specs.declared.plain.PlainRecord.{PlainRecord}
use Rattle.write_buffer.specs.declared.entry.Entry.{Entry}
use Rattle.board.specs.declared.parts.Board.{Board}
use Rattle.board.specs.Changes.{EntryStored, RecordStored}
use Rattle.board.specs.States.{State, Only, SameShape}
use Rattle.board.specs.Views.{SameParts, blank, part, thread_of, view}
use Rattle.board.proofs.Progress.{same_fits}

-- one change to a thread and then another
pub only_then : {R W : Type 0} (t : ℕ) (s s₁ s₂ : State R W) → Only t s.words s s₁ → Only t s₁.words s₁ s₂ → Only t s.words s s₂
only_then t s s₁ s₂ first then = record {
  others = λ u h ne. then.others u (subst (λ n. u < n) (sym first.shape.threads) h) ne ∙ first.others u h ne;
  memory = λ a. then.memory a ∙ first.memory a;
  shape = record { fits = then.shape.fits ∙ first.shape.fits; size = then.shape.size ∙ first.shape.size; threads = then.shape.threads ∙ first.shape.threads };
}

module _ {R W : Type 0} (t : ℕ) (b b' : Board R W) (d : R) (e : W) where
  shape_of : SameParts b b' → SameShape (view b d e) (view b' d e)
  shape_of p = record { fits = same_fits b b' p; size = p.words_long; threads = p.records_long }

  pub record_only : {plain : PlainRecord} → RecordStored t plain b b' → Only t (view b d e).words (view b d e) (view b' d e)
  record_only {plain} s = record {
    others = λ u h ne. λ i. thread_of (same u ne i) (part u (s.entries i)) (get_or (s.reads i) u d) (get_or (s.writes i) u e);
    memory = λ a. ap (λ xs. get_or xs a 0) s.words;
    shape = shape_of s.parts;
  }
    where
      same : (u : ℕ) → (u ≡ t → ⊥) → get_or b'.records.now u blank ≡ get_or b.records.now u blank
      same u ne = ap (λ xs. get_or xs u blank) s.records ∙ get_or-set_other b.records.now t u plain blank ne

  pub entry_only : {place : ℕ} {entry : Entry} → EntryStored t place entry b b' → Only t (view b d e).words (view b d e) (view b' d e)
  entry_only s = record {
    others = λ u h ne. λ i. thread_of (get_or (s.records i) u blank) (s.others u ne i) (get_or (s.reads i) u d) (get_or (s.writes i) u e);
    memory = λ a. ap (λ xs. get_or xs a 0) s.words;
    shape = shape_of s.parts;
  }
