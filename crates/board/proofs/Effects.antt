-- What the table of effects says, read backwards.
use Rattle.std.proofs.Common.{◌≡◌, ℕ, ◌<◌, Bool, true, false, cond, ◌&&◌, eqb, List, [], ◌∷◌, length, Option, sym, refl, subst, inl, inr, arith}
use Rattle.std.proofs.lemmas.Bool.{cases_Bool, eq-eqb, eqb-true}
use Rattle.signature.specs.declared.Signature.{Ghosts}
use Rattle.conflict.specs.declared.effect.Effect.{Effect}
use Rattle.conflict.specs.declared.effect.Effect.TheVariants.{Stays, Repeats, Aborts}
use Rattle.conflict.specs.Conflicts.{again, effect, other}
use Rattle.board.specs.declared.parts.Board.{Board}
use Rattle.thread_record.specs.declared.phase.Phase.{Phase}
use Rattle.thread_record.specs.declared.phase.Phase.TheVariants.{Idle, Running, Validating, Copying, Aborted}
use Rattle.board.specs.Admissions.{Has, Repeatable}
use Rattle.board.specs.Changes.{met}
use Rattle.board.specs.Requests.{effect_on}
use Rattle.board.specs.Views.{right_lengths, view}

-- an element of a list that has one at the place
some : {A : Type 0} (xs : List A) (i : ℕ) → i < length xs → A
some [] i h = absurd (omega arith)
some (x ∷ xs) i h = x

module _ (n : ℕ) where
  never_stays : Repeats ≡ Stays → ⊥
  never_stays is = let z : ◌≡◌ {A = ℕ} 0 1 = cc in omega arith

  never_aborts : Repeats ≡ Aborts → ⊥
  never_aborts is = let z : ◌≡◌ {A = ℕ} 0 1 = cc in omega arith

  pub meets : (another : Bool) (what : Effect) → Repeats ≡ cond another what Stays → Repeats ≡ what
  meets true what is = is
  meets false what is = absurd (never_stays is)

  pub aborts_after_four : n ≡ 4 → again n ≡ Aborts
  aborts_after_four four = rw (eq-eqb n 4 four)

  pub four_when : Aborts ≡ again n → n ≡ 4
  four_when is = elim (cases_Bool (eqb n 4)) [
    | inl h ↦ eqb-true n 4 h
    | inr h ↦ absurd (never_aborts (sym (rw h at is)))
  ]

  running : (hit : Bool) → Repeats ≡ cond hit Aborts Stays → ⊥
  running true is = never_aborts is
  running false is = never_stays is

  validating : (read-hit write-hit : Bool) → Repeats ≡ cond read-hit Aborts (cond write-hit (again n) Stays) → n ≡ 4 → ⊥
  validating true write-hit is four = never_aborts is
  validating false true is four = never_aborts (rw (eq-eqb n 4 four) at is)
  validating false false is four = never_stays is

  -- only a validating thread repeats, and not after four repeats
  pub repeats_when : (exclusive : Bool) (p : Phase) (read-hit write-hit : Bool) → Repeats ≡ effect exclusive p n read-hit write-hit → (p ≡ Validating) × (n ≡ 4 → ⊥)
  repeats_when exclusive Idle read-hit write-hit is = absurd (never_stays is)
  repeats_when exclusive Running read-hit write-hit is = absurd (running (exclusive && read-hit) is)
  repeats_when exclusive Validating read-hit write-hit is = (refl, validating (exclusive && read-hit) write-hit is)
  repeats_when exclusive Copying read-hit write-hit is = absurd (never_stays is)
  repeats_when exclusive Aborted read-hit write-hit is = absurd (never_stays is)

rows_long : (words records entries reads writes : ℕ) → right_lengths words records entries reads writes ≡ true → (reads ≡ records) × (writes ≡ records)
rows_long words records entries reads writes fits = grind (arith, fits)

-- a thread of the board has a signature in each row
pub in_rows : {R W : Type 0} (u : ℕ) (b : Board R W) → Has u b → (u < length b.reads.now) × (u < length b.writes.now)
in_rows u b has =
    let long = rows_long (length b.words.now) (length b.records.now) (length b.entries.now) (length b.reads.now) (length b.writes.now) has.fits in
    (subst (λ n. u < n) (sym long.0) has.thread, subst (λ n. u < n) (sym long.1) has.thread)

pub repeatable : {R W : Type 0} (r : Ghosts R) (w : Ghosts W) (exclusive : Bool) (who : Option ℕ) (l u : ℕ) (b : Board R W) → Has u b →
    ((d : R) (e : W) → Repeats ≡ met r w exclusive who l u ((view b d e).thread u)) → Repeatable u b
repeatable r w exclusive who l u b has is =
    let inside = in_rows u b has in
    let d = some b.reads.now u inside.0 in
    let e = some b.writes.now u inside.1 in
    let x = (view b d e).thread u in
    let when = meets x.repeats (other who u) (effect_on r w exclusive l x) (is d e) in
    let so = repeats_when x.repeats exclusive x.phase (r.has x.reads l) (w.has x.writes l) when in
    record { phase = so.0; repeats = so.1 }
