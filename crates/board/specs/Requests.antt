-- What a request for a line does. Assumes nothing.
use Rattle.std.specs.Prelude.{◌≡◌, ℕ, ◌+◌, ◌<◌, Bool, true, false, ◌&&◌, [], None, Option, find}
use Rattle.std.specs.List.{range_with_len}
use Rattle.signature.specs.Meaning.{Emptied}
use Rattle.signature.specs.declared.Signature.{Ghosts}
use Rattle.conflict.specs.declared.effect.Effect.{Effect}
use Rattle.conflict.specs.declared.effect.Effect.TheVariants.{Stays, Repeats, Aborts}
use Rattle.thread_record.specs.declared.phase.Phase.{Phase}
use Rattle.thread_record.specs.declared.phase.Phase.TheVariants.{Aborted}
use Rattle.conflict.specs.Conflicts.{effect, nacks_in, other}
use Rattle.board.specs.States.{State, Thread, SameShape, stored}

-- a thread back at its first entry, with one repeat more
abbrev pub rewound : {R W : Type 0} → Thread R W → Thread R W
rewound x = stored x.phase x.buffer 0 (x.repeats + 1) x.area x.reads x.writes

-- r and w are the kinds of the two rows of signatures, by their ghost members
module _ {R W : Type 0} (r : Ghosts R) (w : Ghosts W) where
  -- thread u is another one than the requester, and nacks
  abbrev pub nacks : State R W → Option ℕ → ℕ → ℕ → Bool
  nacks s who l u = other who u && nacks_in (s.thread u).phase (w.has (s.thread u).writes l)

  -- the lowest thread that nacks a request
  unfoldable pub nacker : State R W → Option ℕ → ℕ → Option ℕ
  nacker s who l = find (nacks s who l) (range_with_len 0 s.threads)

  -- y is x cleared: in the given phase, nothing counted, each signature reset once, the area as it was
  pub record Cleared (p : Phase) (x y : Thread R W) : Type 0 where
    pub is : y ≡ stored p [] 0 0 x.area y.reads y.writes
    pub reads : Emptied r.has r.resets x.reads y.reads
    pub writes : Emptied w.has w.resets x.writes y.writes

  -- y is what an effect leaves of x
  abbrev pub Leaves : Effect → Thread R W → Thread R W → Type 0
  Leaves Stays x y = y ≡ x
  Leaves Repeats x y = y ≡ rewound x
  Leaves Aborts x y = Cleared Aborted x y

  -- the effect of a request on another thread
  abbrev pub effect_on : Bool → ℕ → Thread R W → Effect
  effect_on exclusive l x = effect exclusive x.phase x.repeats (r.has x.reads l) (w.has x.writes l)

  -- a request, shared or exclusive, that nobody nacked
  pub record Requested (exclusive : Bool) (who : Option ℕ) (l : ℕ) (s s' : State R W) : Type 0 where
    pub free : nacker s who l ≡ None
    pub others : (u : ℕ) → u < s.threads → other who u ≡ true → Leaves (effect_on exclusive l (s.thread u)) (s.thread u) (s'.thread u)
    pub own : (u : ℕ) → u < s.threads → other who u ≡ false → s'.thread u ≡ s.thread u
    pub memory : (a : ℕ) → s'.words a ≡ s.words a
    pub shape : SameShape s s'
