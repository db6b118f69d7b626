-- How far a walk over the threads has come: those below u are done, and those from u on are as they were.
use Rattle.std.proofs.Common.{◌≡◌, ℕ, ◌+◌, ◌<◌, ◌≤◌, Bool, None, Option, sym, ◌∙◌, subst, arith, below_more}
use Rattle.signature.specs.declared.Signature.{Ghosts}
use Rattle.board.specs.declared.parts.Board.{Board}
use Rattle.board.specs.Admissions.{Has}
use Rattle.board.specs.Changes.{Answers}
use Rattle.board.specs.Requests.{Requested, nacker}
use Rattle.board.specs.States.{State, Thread, Only, SameShape}
use Rattle.board.specs.Views.{SameParts, fits_of, right_lengths}

-- `becomes v x y` says what the walk makes of thread v
module _ {R W : Type 0} (becomes : ℕ → Thread R W → Thread R W → Type 0) where
  pub record Progress (u : ℕ) (s s' : State R W) : Type 0 where
    pub done : (v : ℕ) → v < u → v < s.threads → becomes v (s.thread v) (s'.thread v)
    pub rest : (v : ℕ) → u ≤ v → v < s.threads → s'.thread v ≡ s.thread v
    pub memory : (a : ℕ) → s'.words a ≡ s.words a
    pub shape : SameShape s s'

  pub progress_more : (u : ℕ) (s s' s'' : State R W) → u < s.threads → Progress u s s' → Only u s'.words s' s'' → becomes u (s'.thread u) (s''.thread u) → Progress (u + 1) s s''
  progress_more u s s' s'' inside p only turned = record {
    done = below_more (λ v. v < s.threads → becomes v (s.thread v) (s''.thread v)) u before here;
    rest = λ v h k. only.others v (still v k) (λ e. omega arith) ∙ p.rest v (omega arith) k;
    memory = λ a. only.memory a ∙ p.memory a;
    shape = record { fits = only.shape.fits ∙ p.shape.fits; size = only.shape.size ∙ p.shape.size; threads = only.shape.threads ∙ p.shape.threads };
  }
    where
      still : (v : ℕ) → v < s.threads → v < s'.threads
      still v h = subst (λ n. v < n) (sym p.shape.threads) h

      before : (v : ℕ) → v < u → v < s.threads → becomes v (s.thread v) (s''.thread v)
      before v h k = let apart : v ≡ u → ⊥ = λ e. omega arith in subst (λ y. becomes v (s.thread v) y) (sym (only.others v (still v k) apart)) (p.done v h k)

      here : u < s.threads → becomes u (s.thread u) (s''.thread u)
      here k = let from : u ≤ u = omega arith in subst (λ x. becomes u x (s''.thread u)) (p.rest u from k) turned

  pub progress_all : (u : ℕ) (s s' : State R W) → s.threads ≤ u → Progress u s s' → (v : ℕ) → v < s.threads → becomes v (s.thread v) (s'.thread v)
  progress_all u s s' end p v h = let below : v < u = omega arith in p.done v below h

pub all_asked : {R W : Type 0} (r : Ghosts R) (w : Ghosts W) (exclusive : Bool) (who : Option ℕ) (l u : ℕ) (s s' : State R W) → s.threads ≤ u → nacker r w s who l ≡ None →
    Progress (Answers r w exclusive who l) u s s' → Requested r w exclusive who l s s'
all_asked r w exclusive who l u s s' end free p = record {
  free = free;
  others = λ v h is. rw is at (progress_all (Answers r w exclusive who l) u s s' end p v h);
  own = λ v h is. rw is at (progress_all (Answers r w exclusive who l) u s s' end p v h);
  memory = p.memory;
  shape = p.shape;
}

module _ {R W : Type 0} (b b' : Board R W) where
  pub same_fits : SameParts b b' → fits_of b' ≡ fits_of b
  same_fits p = λ i. right_lengths (p.words_long i) (p.records_long i) (p.entries_long i) (p.reads_long i) (p.writes_long i)

  pub parts_then : {b'' : Board R W} → SameParts b b' → SameParts b' b'' → SameParts b b''
  parts_then p q = record {
    words = q.words ∙ p.words;
    records = q.records ∙ p.records;
    entries = q.entries ∙ p.entries;
    reads = q.reads ∙ p.reads;
    writes = q.writes ∙ p.writes;
    words_long = q.words_long ∙ p.words_long;
    records_long = q.records_long ∙ p.records_long;
    entries_long = q.entries_long ∙ p.entries_long;
    reads_long = q.reads_long ∙ p.reads_long;
    writes_long = q.writes_long ∙ p.writes_long;
  }

  pub has_still : (t : ℕ) → SameParts b b' → Has t b → Has t b'
  has_still t p has = record { fits = same_fits p ∙ has.fits; thread = subst (λ n. t < n) (sym p.records_long) has.thread }
