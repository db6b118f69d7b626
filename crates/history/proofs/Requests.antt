-- What a request leaves of the other threads: less of each, and nothing of the line where they must not have it.
use Rattle.std.proofs.Common.{◌≡◌, ℕ, zero, suc, ◌+◌, ◌<◌, ◌≤◌, Bool, true, false, cond, ◌&&◌, eqb, ◌⊎◌, take, Some, None, Option, sym, refl, ap, subst, inl, inr, arith}
use Rattle.std.specs.List.{find, range_with_len}
use Rattle.std.proofs.lemmas.Bool.{cases_Bool, cases_eq, both_ways, and_cases}
use Rattle.signature.specs.declared.Signature.{Ghosts}
use Rattle.conflict.specs.declared.effect.Effect.{Effect}
use Rattle.conflict.specs.declared.effect.Effect.TheVariants.{Stays, Repeats, Aborts}
use Rattle.thread_record.specs.declared.phase.Phase.{Phase}
use Rattle.thread_record.specs.declared.phase.Phase.TheVariants.{Idle, Running, Validating, Copying, Aborted}
use Rattle.conflict.specs.Conflicts.{again, effect, nacks_in, other}
use Rattle.board.specs.Requests.{Cleared, Leaves, Requested, nacker, nacks}
use Rattle.board.specs.States.{State, Thread}
use Rattle.history.proofs.Buffers.{In, in_take}
use Rattle.history.proofs.Invariant.{Alive, Copies, Holds, Fetches, Seen, Part, Sound, Off, Apart, Weaker, same, sent_back, aborted, aborted_holds}

-- where none of n numbers from a on is the first to pass a test, none passes it
none_first : (test : ℕ → Bool) (a n u : ℕ) → find test (range_with_len a n) ≡ None → a ≤ u → u < a + n → test u ≡ false
none_first test a zero u h le lt = absurd (omega arith)
none_first test a (suc n) u h le lt = go (test a) refl h (none_first test (a + 1) n u)
  where
    go : (b : Bool) → test a ≡ b → cond b (Some a) (find test (range_with_len (a + 1) n)) ≡ None →
        (find test (range_with_len (a + 1) n) ≡ None → a + 1 ≤ u → u < a + 1 + n → test u ≡ false) → test u ≡ false
    go true e k more = let z : ◌≡◌ {A = ℕ} 0 1 = cc in absurd (omega arith)
    go false e k more = elim (cases_eq a u) [ inl q ↦ subst (λ z. test z ≡ false) q e | inr ne ↦ more k (omega arith) (omega arith) ]

-- a thread after a request of another for a line
pub record Quiet (exclusive : Bool) (l : ℕ) (y : Seen) : Type 0 where
  pub unread : exclusive ≡ true → Alive y.phase → y.reads l ≡ false
  pub unheld : Fetches y.phase → (y.writes l ≡ false) ⊎ (y.cursor ≡ 0)
  pub uncopied : Copies y.phase → y.writes l ≡ false

module _ {R W : Type 0} (r : Ghosts R) (w : Ghosts W) where
  abbrev pub seen : Thread R W → Seen
  seen x = record { phase = x.phase; buffer = x.buffer; cursor = x.cursor; reads = r.has x.reads; writes = w.has x.writes }

  module _ (k : Bool) (l : ℕ) (x y : Thread R W) where
    abbrev Result : Type 0
    Result = Weaker (seen x) (seen y) × Quiet k l (seen y)

    stays : y ≡ x → Quiet k l (seen x) → Result
    stays e q = (same (ap seen e), subst (λ z. Quiet k l (seen z)) (sym e) q)

    aborts : (Copies x.phase → ⊥) → Cleared r w Aborted x y → Result
    aborts c a = (
      aborted c (ap (λ (z : Thread R W). z.phase) a.is),
      record { unread = λ _ h. absurd (none (inl h)); unheld = λ h. absurd (none (inl h.0)); uncopied = λ h. absurd (none (inr h)) },
    )
      where
        none : Holds y.phase → ⊥
        none = aborted_holds _ (ap (λ (z : Thread R W). z.phase) a.is)

    -- a thread that is not live
    bystander : (Alive x.phase → ⊥) → (Copies x.phase → w.has x.writes l ≡ false) → y ≡ x → Result
    bystander dead free e = stays e (record { unread = λ _ h. absurd (dead h); unheld = λ h. absurd (dead h.0); uncopied = free })

    -- a live thread, unless an exclusive request hit its reads
    unread : (rest : Effect) → (Copies x.phase → ⊥) → ((k ≡ true → r.has x.reads l ≡ false) → Leaves r w rest x y → Result) →
        Leaves r w (cond (k && r.has x.reads l) Aborts rest) x y → Result
    unread rest no_copy after = go (k && r.has x.reads l) refl
      where
        go : (b : Bool) → (k && r.has x.reads l) ≡ b → Leaves r w (cond b Aborts rest) x y → Result
        go true e v = aborts no_copy v
        go false e v = after (λ ex. elim (and_cases _ _ e) [ inl n ↦ absurd (both_ways _ n ex) | inr n ↦ n ]) v

    validated : x.phase ≡ Validating → (k ≡ true → r.has x.reads l ≡ false) → Leaves r w (cond (w.has x.writes l) (again x.repeats) Stays) x y → Result
    validated h n = go (w.has x.writes l) (eqb x.repeats 4) refl
      where
        go : (b c : Bool) → w.has x.writes l ≡ b → Leaves r w (cond b (cond c Aborts Repeats) Stays) x y → Result
        go true true e v = aborts (λ c. subst Copies h c) v
        go true false e v = (
          sent_back h (ap seen v),
          subst (λ z. Quiet k l (seen z)) (sym v) (record { unread = λ ex _. n ex; unheld = λ _. inr refl; uncopied = λ c. absurd (subst Copies h c) }),
        )
        go false c e v = stays v (record { unread = λ ex _. n ex; unheld = λ _. inl e; uncopied = λ c. absurd (subst Copies h c) })

    leaves : (p : Phase) → x.phase ≡ p → (Copies p → w.has x.writes l ≡ false) →
        Leaves r w (effect k p x.repeats (r.has x.reads l) (w.has x.writes l)) x y → Result
    leaves Idle h f v = bystander (λ a. subst Alive h a) (λ c. f (subst Copies h c)) v
    leaves Aborted h f v = bystander (λ a. subst Alive h a) (λ c. f (subst Copies h c)) v
    leaves Copying h f v = bystander (λ a. subst Alive h a) (λ c. f (subst Copies h c)) v
    leaves Running h f v = unread Stays (λ c. subst Copies h c)
        (λ n e. stays e (record { unread = λ ex _. n ex; unheld = λ a. absurd (subst Fetches h a).1; uncopied = λ a. absurd (subst Copies h a) })) v
    leaves Validating h f v = unread _ (λ c. subst Copies h c) (validated h) v

  module _ {k : Bool} {who : Option ℕ} {l : ℕ} {s s₁ : State R W} (q : Requested r w k who l s s₁) where
    -- no other thread that copies has the line
    pub unnacked : (u : ℕ) → u < s.threads → other who u ≡ true → Copies (s.thread u).phase → w.has (s.thread u).writes l ≡ false
    unfolding nacker
    unnacked u h o c = go (other who u) (s.thread u).phase (w.has (s.thread u).writes l) o c (none_first (nacks r w s who l) 0 s.threads u q.free (omega arith) (omega arith))
      where
        go : (a : Bool) (p : Phase) (hit : Bool) → a ≡ true → Copies p → (a && nacks_in p hit) ≡ false → hit ≡ false
        go false p hit e c n = absurd (both_ways false refl e)
        go true Idle hit e c n = absurd c
        go true Running hit e c n = absurd c
        go true Validating hit e c n = absurd c
        go true Copying hit e c n = n
        go true Aborted hit e c n = absurd c

    requested : (u : ℕ) → u < s.threads → other who u ≡ true → Weaker (seen (s.thread u)) (seen (s₁.thread u)) × Quiet k l (seen (s₁.thread u))
    requested u h o = leaves k l _ _ (s.thread u).phase refl (unnacked u h o) (q.others u h o)

    pub requested_quiet : (u : ℕ) → u < s.threads → other who u ≡ true → Quiet k l (seen (s₁.thread u))
    requested_quiet u h o = (requested u h o).1

    pub requested_weaker : (u : ℕ) → u < s.threads → Weaker (seen (s.thread u)) (seen (s₁.thread u))
    requested_weaker u h = elim (cases_Bool (other who u)) [ inl o ↦ (requested u h o).0 | inr o ↦ same (ap seen (q.own u h o)) ]

module _ {S : ℕ → ℕ} {p : Part} {k : Bool} {l : ℕ} (sound : Sound S p) (q : Quiet k l p.th) where
  pub quiet_fetched : Fetches p.th.phase → Off (take p.th.cursor p.th.buffer) l
  quiet_fetched f e i same_line = elim (q.unheld f) [
    | inl w ↦ both_ways _ w (subst (λ x. p.th.writes x ≡ true) same_line ((sound.kept (inl f.0)).marked e (in_take _ _ e i)))
    | inr c ↦ subst (λ n. In e (take n p.th.buffer)) c i
  ]

  pub quiet_apart : k ≡ true → Apart p l
  quiet_apart ex = record {
    unread = λ h e i same_line. both_ways _ (q.unread ex h) (subst (λ x. p.th.reads x ≡ true) same_line (sound.marked h e i));
    unheld = quiet_fetched;
    uncopied = λ h e i same_line. both_ways _ (q.uncopied h) (subst (λ x. p.th.writes x ≡ true) same_line ((sound.kept (inr h)).marked e i));
  }
