-- The serial order.
use Rattle.std.proofs.Common.{ℕ, ◌+◌, ◌<◌, List, [], ◌∷◌, refl, ap, subst, inl, inr}
use Rattle.signature.specs.declared.Signature.{Ghosts}
use Rattle.board.specs.Rules.{Event, Opened, Rule, refuses, begins, reads_own, reads_memory, writes_word, commits, fetches, is_nacked, is_lost, passes, copies, ends, abandons, reads_plain, writes_plain}
use Rattle.board.specs.States.{State, Thread}
use Rattle.history.specs.Serial.{serial_words}
use Rattle.history.specs.Runs.{Run, opened, called, fed}
use Rattle.history.specs.Law.{Answered, EndedInTime, SerialOrder}
use Rattle.history.proofs.Admission.{admits_step}
use Rattle.history.proofs.Buffers.{member_in}
use Rattle.history.proofs.Invariant.{Holds, copies_is, neither, gone_sound, gone_clear}
use Rattle.history.proofs.Requests.{unnacked}
use Rattle.history.proofs.Steps.{ended_steps}
use Rattle.history.proofs.Keeps.{Keeps, keeps, view, settled, on}

module _ {R W : Type 0} (r : Ghosts R) (w : Ghosts W) where
  opened_keeps : (s s₀ : State R W) → Opened r w s s₀ → Keeps r w s₀.words [] s₀
  opened_keeps s s₀ o = record {
    each = λ u h. gone_sound (view r w [] s₀ u) (none u h) s₀.words;
    clear = λ u t h k ne. gone_clear (view r w [] s₀ u) (none u h) (view r w [] s₀ t);
    memory = λ a. inl refl;
  }
    where
      none : (u : ℕ) → u < s₀.threads → Holds (s₀.thread u).phase → ⊥
      none u h k = neither (subst (λ (z : Thread R W). Holds z.phase) (o.threads u (subst (λ n. u < n) o.shape.threads h)).is k)

  module _ (m₀ : ℕ → ℕ) (es : List Event) where
    tells : {s s' : State R W} {e : Event} → Keeps r w m₀ es s → Answered m₀ es → EndedInTime es → Rule r w s e s' → Answered m₀ (e ∷ es) × EndedInTime (e ∷ es)
    tells inv a d (refuses f) = (a, d)
    tells inv a d (begins ok only c) = (a, d)
    tells inv a d (reads_own ok own) = (a, d)
    tells inv a d (reads_memory ok none q only n ins is) = (a, d)
    tells inv a d (writes_word ok only n ins is) = (a, d)
    tells inv a d (commits ok only is) = (a, d)
    tells inv a d (fetches e ok validating cursor q only is) = ((tt, a), (tt, d))
    tells inv a d (is_nacked e ok validating cursor nack few only is) = ((tt, a), (tt, d))
    tells inv a d (is_lost e ok validating cursor nack many only c) = ((tt, a), (tt, d))
    tells {s} inv a d (passes {t = t} ok validating all only n empty is) =
        let x = inv.each t (admits_step r w s t ok) in
        (((x.kept (inl (rw validating tt))).right _ (x.live (rw validating tt)), a), (tt, d))
    tells inv a d (copies e ok copying cursor only is) = ((tt, a), (tt, d))
    tells {s} inv a d (ends {t = t} ok copying all only n empty is) =
        let k = ended_steps (serial_words m₀ (fed es)) (view r w es s t) (inv.each t (admits_step r w s t ok)) copying all in
        ((tt, a), (rw (on t) (ap (λ n. n + 1) k), d))
    tells inv a d (abandons ok only c) = (a, d)
    tells inv a d (reads_plain {a = b} ok q) = ((settled inv b (λ u h c. unnacked r w q u h refl c), a), d)
    tells inv a d (writes_plain ok q stores) = (a, d)

  runs : (s s₀ : State R W) → Opened r w s s₀ → {es : List Event} {s' : State R W} → Run r w s₀ es s' →
      Keeps r w s₀.words es s' × Answered s₀.words es × EndedInTime es
  runs s s₀ o opened = (opened_keeps s s₀ o, tt, tt)
  runs s s₀ o (called {es = es} run rule) =
      let k = runs s s₀ o run in
      let l = tells s₀.words es k.0 k.1 k.2 rule in
      (keeps r w s₀.words es k.0 rule, l.0, l.1)

  pub serial_order : (s s₀ : State R W) → Opened r w s s₀ → SerialOrder r w s₀
  serial_order s s₀ o es s' run =
      let k = runs s s₀ o run in
      record {
        answered = k.1;
        live = λ t h alive e m. (k.0.each t h).live (rw alive tt) e (member_in _ e m);
        ready = λ t h alive. let x = k.0.each t h in (x.kept (inl (rw alive tt))).right _ (x.live (rw alive tt));
        memory = λ a. elim (k.0.memory a) [ inl e ↦ inl e | inr m ↦ inr (m.0, m.1, copies_is _ m.2, m.3) ];
        ended = k.2;
      }
