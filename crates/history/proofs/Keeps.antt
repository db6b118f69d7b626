-- Each call keeps the invariant.
use Rattle.std.proofs.Common.{◌≡◌, ℕ, ◌+◌, ◌<◌, Bool, true, false, eqb, ◌⊎◌, List, [], ◌∷◌, length, is_some, Some, None, Option, sym, refl, ap, ◌∙◌, subst, inl, inr}
use Rattle.std.proofs.lemmas.Bool.{cases_eq, eq-eqb, ne_eqb, both_ways}
use Rattle.signature.specs.declared.Signature.{Ghosts}
use Rattle.signature.specs.Meaning.{Inserted}
use Rattle.write_buffer.specs.declared.entry.Entry.{Entry}
use Rattle.thread_record.specs.declared.phase.Phase.TheVariants.{Running, Validating, Copying}
use Rattle.refusal.specs.declared.stepped.Stepped.TheVariants.{Fetched, Repeated, Lost, Passed, Copied, Ended}
use Rattle.conflict.specs.Conflicts.{line, other}
use Rattle.write_buffer.specs.Buffers.{lookup}
use Rattle.board.specs.Refusals.{read, refusal}
use Rattle.board.specs.Requests.{Requested}
use Rattle.board.specs.Rules.{Event, began, committed, abandoned, got, put, plain_put, step_event, with_reads, AtCursor, Stores, Rule, refuses, begins, reads_own, reads_memory, writes_word, commits, fetches, is_nacked, is_lost, passes, copies, ends, abandons, reads_plain, writes_plain}
use Rattle.board.specs.States.{State, Thread, Only, at, stored}
use Rattle.history.specs.Serial.{run, list, serial_words, written}
use Rattle.history.specs.Runs.{fed, heard, loads, to_copy, steps}
use Rattle.history.specs.Law.{Member}
use Rattle.history.proofs.Admission.{admits_begin, admits_abandon, admits_step, admits_commit, admits_read, admits_write}
use Rattle.history.proofs.Buffers.{addresses, in_member, member_address, in_drop}
use Rattle.history.proofs.Invariant.{Copies, Holds, Seen, Part, Sound, Apart, same, Worded, Inv, Step, Others, neither, gone, inv_weaker, worded_one, inv_one}
use Rattle.history.proofs.Requests.{Quiet, seen, unnacked, requested_quiet, requested_weaker, quiet_apart}
use Rattle.history.proofs.Steps
use Rattle.history.proofs.Steps.{Any, sound_change}

abbrev pub part : List Event → ℕ → Seen → Part
part es u y = record { ops = list (fed es) u; heard = heard es u; loads = loads es u; to_copy = to_copy es u; steps = steps es u; th = y }

-- an event speaks of no thread but t
abbrev Silent : List Event → ℕ → Event → Type 0
Silent es t e = (u : ℕ) → (u ≡ t → ⊥) → (y : Seen) → part (e ∷ es) u y ≡ part es u y

pub on : (t : ℕ) → eqb t t ≡ true
on t = eq-eqb t t refl

off : (t u : ℕ) → (u ≡ t → ⊥) → eqb t u ≡ false
off t u ne = ne_eqb t u (λ e. ne (sym e))

other_than : (t u : ℕ) → (u ≡ t → ⊥) → other (Some t) u ≡ true
other_than t u ne = rw (ne_eqb u t ne)

-- where no thread has the line to copy, memory has the serial word
pub settled : {S m : ℕ → ℕ} {n : ℕ} {P : ℕ → Part} → Inv S m n P → (a : ℕ) →
    ((u : ℕ) → u < n → Copies (P u).th.phase → (P u).th.writes (line a) ≡ false) → m a ≡ S a
settled {P = P} inv a free = elim (inv.memory a) [
  | inl e ↦ e
  | inr r ↦
      let s = inv.each r.0 r.1 in
      let m = member_address _ a (subst (λ b. Member a b) (s.left r.2).rest r.3) in
      absurd (both_ways _ (free r.0 r.1 r.2) (subst (λ b. (P r.0).th.writes (line b) ≡ true) m.2 ((s.kept (inr r.2)).marked m.0 (in_drop _ _ m.0 m.1))))
]

module _ {R W : Type 0} (r : Ghosts R) (w : Ghosts W) where
  abbrev pub view : List Event → State R W → ℕ → Part
  view es s u = part es u (seen r w (s.thread u))

  abbrev pub Keeps : (ℕ → ℕ) → List Event → State R W → Type 0
  Keeps m₀ es s = Inv (serial_words m₀ (fed es)) s.words s.threads (view es s)

  module _ (m₀ : ℕ → ℕ) (es : List Event) where
    abbrev S : ℕ → ℕ
    S = serial_words m₀ (fed es)

    requested_keeps : {k : Bool} {who : Option ℕ} {l : ℕ} (s s₁ : State R W) → Requested r w k who l s s₁ → Keeps m₀ es s → Keeps m₀ es s₁
    requested_keeps s s₁ q inv = subst (λ n. Inv S s₁.words n (view es s₁)) (sym q.shape.threads)
        (inv_weaker inv (λ u. seen r w (s₁.thread u)) s₁.words (requested_weaker r w q) q.memory)

    -- thread t makes a call, and no other thread changes
    module _ (s s' : State R W) (inv : Keeps m₀ es s) (t : ℕ) (h : t < s.threads) (e : Event) {m : ℕ → ℕ} (only : Only t m s s') (silent : Silent es t e) where
      abbrev P' : ℕ → Part
      P' = view (e ∷ es) s'

      others : Others s.threads t (λ u. P' u ≡ view es s u)
      others u hu ne = silent u ne _ ∙ ap (λ z. part es u (seen r w z)) (only.others u hu ne)

      changes : (S' : ℕ → ℕ) {Q : Seen → Type 0} {p : Part} → Step S S' Q (view es s t) p → {z : Thread R W} → s'.thread t ≡ z → part (e ∷ es) t (seen r w z) ≡ p →
          Others s.threads t (λ u. Q (seen r w (s.thread u))) → Others s.threads t (λ u. Sound S' (view es s u)) → ((a : ℕ) → Worded S' s'.words s.threads P' a) →
          Inv S' s'.words s'.threads P'
      changes S' step is own q rest mem = subst (λ n. Inv S' s'.words n P') (sym only.shape.threads)
          (inv_one inv P' t _ (ap (λ z. part (e ∷ es) t (seen r w z)) is ∙ own) others S' s'.words _ h step q rest mem)

      waits : (S' : ℕ → ℕ) (a : ℕ) → (s.words a ≡ S a → Worded S' s'.words s.threads P' a) →
          (Copies (s.thread t).phase → Member a (to_copy es t) → Worded S' s'.words s.threads P' a) → Worded S' s'.words s.threads P' a
      waits S' a = worded_one inv P' t _ refl others S' s'.words a

    -- neither serial words nor memory change, and the thread had nothing left to copy
    module _ (s s' : State R W) (inv : Keeps m₀ es s) (t : ℕ) (h : t < s.threads) (e : Event) (only : Only t s.words s s') (silent : Silent es t e)
        (done : Copies (s.thread t).phase → to_copy es t ≡ []) where
      quiet : {Q : Seen → Type 0} {p : Part} → Step S S Q (view es s t) p → {z : Thread R W} → s'.thread t ≡ z → part (e ∷ es) t (seen r w z) ≡ p →
          Others s.threads t (λ u. Q (seen r w (s.thread u))) → Inv S s'.words s'.threads (view (e ∷ es) s')
      quiet step is own q = changes s s' inv t h e only silent S step is own q (λ u hu ne. inv.each u hu)
          (λ a. waits s s' inv t h e only silent S a (λ k. inl (only.memory a ∙ k)) (λ c k. elim (subst (λ bs. Member a bs) (done c) k) [ ]))

      -- the thread comes to hold nothing
      lets_go : {z : Thread R W} → s'.thread t ≡ z → (Holds z.phase → ⊥) → Inv S s'.words s'.threads (view (e ∷ es) s')
      lets_go is none = quiet (gone (view (e ∷ es) s' t) (λ k. none (subst (λ (z : Thread R W). Holds z.phase) is k)) S Any (view es s t)) refl refl (λ u hu ne. tt)

    -- thread t makes a request, and then changes alone
    asked : {k : Bool} {l t : ℕ} (s s₁ s' : State R W) → Keeps m₀ es s → t < s.threads → Requested r w k (Some t) l s s₁ →
        (e : Event) → Only t s₁.words s₁ s' → Silent es t e → (Copies (s.thread t).phase → ⊥) → {p : Part} → Step S S (Quiet k l) (view es s t) p →
        {z : Thread R W} → s'.thread t ≡ z → part (e ∷ es) t (seen r w z) ≡ p → Inv S s'.words s'.threads (view (e ∷ es) s')
    asked {k} {l} {t} s s₁ s' inv h q e only silent no_copy {p} step is own =
        quiet s₁ s' (requested_keeps s s₁ q inv) t (subst (λ n. t < n) (sym q.shape.threads) h) e only silent
        (λ c. absurd (no_copy (subst (λ (z : Thread R W). Copies z.phase) kept_own c))) (subst (λ z. Step S S (Quiet k l) (part es t (seen r w z)) p) (sym kept_own) step) is own
        (λ u hu ne. requested_quiet r w q u (subst (λ n. u < n) q.shape.threads hu) (other_than t u ne))
      where
        kept_own : s₁.thread t ≡ s.thread t
        kept_own = q.own t h (rw (on t))

    passed_keeps : (s s' : State R W) → Keeps m₀ es s → (t : ℕ) → t < s.threads → (s.thread t).phase ≡ Validating → (s.thread t).cursor ≡ length (s.thread t).buffer →
        Only t s.words s s' →
        (q : R) → s'.thread t ≡ stored Copying (s.thread t).buffer 0 0 (s.thread t).area q (s.thread t).writes → Keeps m₀ (step_event t Passed ∷ es) s'
    passed_keeps s s' inv t h validating all only q is =
        changes s s' inv t h (step_event t Passed) only silent (run S (list (fed es) t)) (Steps.passed S (view es s t) sound validating all (r.has q)) is (rw (on t)) (λ u hu ne. tt)
        (λ u hu ne. Steps.passed_other S (view es s t) sound validating all (view es s u) (inv.each u hu) (inv.clear t u h hu (λ e. ne (sym e)))) mem
      where
        sound : Sound S (view es s t)
        sound = inv.each t h

        silent : Silent es t (step_event t Passed)
        silent u ne y = rw (off t u ne)

        mem : (a : ℕ) → Worded (run S (list (fed es) t)) s'.words s.threads (view (step_event t Passed ∷ es) s') a
        mem a = elim (Steps.passed_word S (view es s t) sound validating all a) [
          | inl e ↦ waits s s' inv t h (step_event t Passed) only silent (run S (list (fed es) t)) a (λ k. inl (only.memory a ∙ k ∙ sym e)) (λ c m. absurd (subst Copies validating c))
          | inr d ↦ inr (
            t,
            h,
            subst (λ (z : Thread R W). Copies z.phase) (sym is) tt,
            rw (on t) (subst (λ b. Member a b) (sound.kept (inl (rw validating tt))).aims (subst (λ b. Member b (addresses (s.thread t).buffer)) d.2 (in_member _ d.0 d.1))),
          )
        ]

    copied_keeps : (s s' : State R W) → Keeps m₀ es s → (t : ℕ) → t < s.threads → (s.thread t).phase ≡ Copying → (d : Entry) → AtCursor (s.thread t) d →
        Only t (at s.words d.address d.word) s s' →
        s'.thread t ≡ stored Copying (s.thread t).buffer ((s.thread t).cursor + 1) 0 (s.thread t).area (s.thread t).reads (s.thread t).writes →
        Keeps m₀ (step_event t Copied ∷ es) s'
    copied_keeps s s' inv t h copying d cursor only is =
        changes s s' inv t h (step_event t Copied) only silent S (Steps.copied S (view es s t) sound copying d cursor.entry cursor.below) is (rw (on t)) (λ u hu ne. tt)
        (λ u hu ne. inv.each u hu) mem
      where
        sound : Sound S (view es s t)
        sound = inv.each t h

        silent : Silent es t (step_event t Copied)
        silent u ne y = rw (off t u ne)

        mem : (a : ℕ) → Worded S s'.words s.threads (view (step_event t Copied ∷ es) s') a
        mem a = elim (cases_eq a d.address) [
          | inl e ↦ inl (only.memory a ∙ rw (eq-eqb a d.address e) (sym (ap S e ∙ Steps.copied_word S (view es s t) sound copying d cursor.entry cursor.below)))
          | inr na ↦ waits s s' inv t h (step_event t Copied) only silent S a (λ k. inl (only.memory a ∙ rw (ne_eqb a d.address na) k))
              (λ c m. inr (t, h, subst (λ (z : Thread R W). Copies z.phase) (sym is) tt, rw (on t) (Steps.copied_member S (view es s t) sound copying d cursor.entry cursor.below a na m)))
        ]

    -- a plain write
    plain_keeps : (s s₁ s' : State R W) (a v : ℕ) → Requested r w true None (line a) s s₁ → Stores a v s₁ s' → Keeps m₀ es s → Keeps m₀ (plain_put a v ∷ es) s'
    plain_keeps s s₁ s' a v q stores inv = subst (λ n. Inv (at S a v) s'.words n (view es s')) (sym stores.shape.threads) (record {
      each = λ u h. sound_change S (at S a v) (view es s' u) (inv₁.each u h) (change u h);
      clear = inv₁.clear;
      memory = mem;
    })
      where
        inv₁ : Inv S s₁.words s₁.threads (view es s')
        inv₁ = inv_weaker (requested_keeps s s₁ q inv) (λ u. seen r w (s'.thread u)) s₁.words (λ u h. same (ap (seen r w) (stores.threads u h))) (λ b. refl)

        change : (u : ℕ) → u < s₁.threads → (b : ℕ) → (at S a v b ≡ S b) ⊎ Apart (view es s' u) (line b)
        change u h b = elim (cases_eq b a) [
          | inl e ↦ inr (subst (λ c. Apart (view es s' u) (line c)) (sym e) (quiet_apart (inv₁.each u h)
              (subst (λ z. Quiet true (line a) (seen r w z)) (sym (stores.threads u h)) (requested_quiet r w q u (subst (λ n. u < n) q.shape.threads h) refl)) refl))
          | inr n ↦ inl (rw (ne_eqb b a n))
        ]

        mem : (b : ℕ) → Worded (at S a v) s'.words s₁.threads (view es s') b
        mem b = elim (cases_eq b a) [
          | inl e ↦ inl (stores.memory b ∙ rw (eq-eqb b a e))
          | inr n ↦ elim (inv₁.memory b) [ inl e ↦ inl (stores.memory b ∙ rw (ne_eqb b a n) e) | inr m ↦ inr m ]
        ]

    -- a read
    module _ (s : State R W) (inv : Keeps m₀ es s) (t a : ℕ) (ok : refusal r w s (read t a) ≡ None) where
      h : t < s.threads
      h = (admits_read r w s t a ok).0

      running : (s.thread t).phase ≡ Running
      running = (admits_read r w s t a ok).1

      sound : Sound S (view es s t)
      sound = inv.each t h

      wrote : written (list (fed es) t) a ≡ is_some (lookup (s.thread t).buffer a)
      wrote = (sound.kept (inl (rw running tt))).wrote a

      own_keeps : (v : ℕ) → lookup (s.thread t).buffer a ≡ Some v → Keeps m₀ (got t a v ∷ es) s
      own_keeps v own = quiet s s inv t h (got t a v) (record { others = λ u hu ne. refl; memory = λ b. refl; shape = record { fits = refl; size = refl; threads = refl } })
          (λ u ne y. rw (off t u ne)) (λ c. absurd (subst Copies running c)) (Steps.read_own S (view es s t) sound running a v own) refl (rw (on t, wrote, own)) (λ u hu ne. tt)

      memory_keeps : (s₁ s' : State R W) → lookup (s.thread t).buffer a ≡ None → Requested r w false (Some t) (line a) s s₁ → Only t s₁.words s₁ s' →
          (n : R) → Inserted r.has r.inserts (s.thread t).reads (line a) n → s'.thread t ≡ with_reads (s.thread t) n → Keeps m₀ (got t a (s.words a) ∷ es) s'
      memory_keeps s₁ s' none q only n ins is = asked s s₁ s' inv h q (got t a (s.words a)) only (λ u ne y. rw (off t u ne)) (λ c. subst Copies running c)
          (Steps.read_memory S (view es s t) sound running a (s.words a) (r.has n) none (sym (settled inv a free)) ins.adds ins.keeps) is (rw (on t, wrote, none))
        where
          free : (u : ℕ) → u < s.threads → Copies (s.thread u).phase → w.has (s.thread u).writes (line a) ≡ false
          free u hu c = elim (cases_eq u t) [
            | inl e ↦ absurd (subst Copies running (subst (λ z. Copies (s.thread z).phase) e c))
            | inr ne ↦ unnacked r w q u hu (other_than t u ne) c
          ]

    pub keeps : {s s' : State R W} {e : Event} → Keeps m₀ es s → Rule r w s e s' → Keeps m₀ (e ∷ es) s'
    keeps inv (refuses f) = inv
    keeps {s} {s'} inv (begins {t = t} ok only c) =
        let k = admits_begin r w s t ok in
        quiet s s' inv t k.0 (began t) only (λ u ne y. rw (off t u ne)) (λ b. absurd (k.1 b))
        (Steps.begun S (view es s t) (r.has (s'.thread t).reads) (w.has (s'.thread t).writes)) c.is (rw (on t)) (λ u hu ne. tt)
    keeps {s} inv (reads_own {t = t} {a = a} {v = v} ok own) = own_keeps s inv t a ok v own
    keeps {s} {s'} inv (reads_memory {t = t} {a = a} {s₁ = s₁} ok none q only n ins is) = memory_keeps s inv t a ok s₁ s' none q only n ins is
    keeps {s} {s'} inv (writes_word {t = t} {a = a} {v = v} ok only n ins is) =
        let k = admits_write r w s t a v ok in
        quiet s s' inv t k.0 (put t a v) only (λ u ne y. rw (off t u ne)) (λ c. absurd (subst Copies k.1 c))
        (Steps.wrote S (view es s t) (inv.each t k.0) k.1 a v (w.has n) ins.adds ins.keeps) is (rw (on t)) (λ u hu ne. tt)
    keeps {s} {s'} inv (commits {t = t} ok only is) =
        let k = admits_commit r w s t ok in
        quiet s s' inv t k.0 (committed t) only (λ u ne y. refl) (λ c. absurd (subst Copies k.1 c))
        (Steps.committed S (view es s t) (inv.each t k.0) k.1) is refl (λ u hu ne. tt)
    keeps {s} {s'} inv (fetches {t = t} {s₁ = s₁} d ok validating cursor q only is) =
        let h = admits_step r w s t ok in
        asked s s₁ s' inv h q (step_event t Fetched) only (λ u ne y. rw (off t u ne)) (λ c. subst Copies validating c)
        (Steps.fetched S (view es s t) (inv.each t h) validating d cursor.entry) is (rw (on t))
    keeps {s} {s'} inv (is_nacked {t = t} {j = j} d ok validating cursor nack few only is) =
        let h = admits_step r w s t ok in
        quiet s s' inv t h (step_event t (Repeated j)) only (λ u ne y. rw (off t u ne)) (λ c. absurd (subst Copies validating c))
        (Steps.nacked S (view es s t) (inv.each t h) validating) is (rw (on t)) (λ u hu ne. tt)
    keeps {s} {s'} inv (is_lost {t = t} d ok validating cursor nack many only c) =
        lets_go s s' inv t (admits_step r w s t ok) (step_event t Lost) only (λ u ne y. rw (off t u ne)) (λ b. absurd (subst Copies validating b)) c.is neither
    keeps {s} {s'} inv (passes {t = t} ok validating all only n empty is) = passed_keeps s s' inv t (admits_step r w s t ok) validating all only n is
    keeps {s} {s'} inv (copies {t = t} d ok copying cursor only is) = copied_keeps s s' inv t (admits_step r w s t ok) copying d cursor only is
    keeps {s} {s'} inv (ends {t = t} ok copying all only n empty is) =
        let h = admits_step r w s t ok in
        lets_go s s' inv t h (step_event t Ended) only (λ u ne y. rw (off t u ne)) (λ _. Steps.ended_copy S (view es s t) (inv.each t h) copying all) is neither
    keeps {s} {s'} inv (abandons {t = t} ok only c) =
        let k = admits_abandon r w s t ok in
        lets_go s s' inv t k.0 (abandoned t) only (λ u ne y. rw (off t u ne)) (λ b. absurd (k.1 b)) c.is neither
    keeps {s} {s'} inv (reads_plain ok q) = requested_keeps s s' q inv
    keeps {s} {s'} inv (writes_plain {a = a} {v = v} {s₁ = s₁} ok q stores) = plain_keeps s s₁ s' a v q stores inv
