-- What each call does to the thread that makes it.
use Rattle.std.proofs.Common.{◌≡◌, ℕ, ◌+◌, ◌<◌, Bool, true, false, cond, eqb, ◌⊎◌, List, [], ◌∷◌, ◌++◌, length, get_or, take, drop, is_some, Some, None, Option, sym, refl, ap, ◌∙◌, subst, ap₂, inl, inr, append-nil, add-one, drop-cons}
use lib.Seq.{take-length, drop-length}
use Rattle.std.proofs.lemmas.Bool.{cases_eq, eq-eqb, ne_eqb}
use Rattle.write_buffer.specs.declared.entry.Entry.{Entry}
use Rattle.thread_record.specs.declared.phase.Phase.TheVariants.{Running, Validating, Copying}
use Rattle.conflict.specs.Conflicts.{line}
use Rattle.write_buffer.specs.Buffers.{lookup, placed}
use Rattle.board.specs.States.{at}
use Rattle.history.specs.Serial.{get, set, run, fresh, targets, written}
use Rattle.history.specs.Law.{Member}
use Rattle.history.proofs.Ops.{run-append, answers-append, targets-append, written-append}
use Rattle.history.proofs.Buffers.{In, addresses, over, lookup-placed, distinct_placed, addresses-placed, in_placed, lookup_in, in_lookup, length-addresses, member_cases, in_front, in_end, in_snoc, in_drop, in_take_more}
use Rattle.history.proofs.Invariant.{Alive, Copies, Fetches, Seen, moved, back, Part, did, went, with_th, Agrees, Kept, Left, Sound, Apart, Clear, Step}
use Rattle.history.proofs.Requests.{Quiet, quiet_fetched, quiet_apart}

-- a step that wants nothing of the others
abbrev pub Any : Seen → Type 0
Any x = Unit {0}

-- a serial word changes only where a thread has nothing to do with its line
pub sound_change : (S S' : ℕ → ℕ) (p : Part) → Sound S p → ((a : ℕ) → (S' a ≡ S a) ⊎ Apart p (line a)) → Sound S' p
sound_change S S' p s change = record {
  live = λ h e i. elim (change e.address) [ inl q ↦ q ∙ s.live h e i | inr n ↦ absurd (n.unread h e i refl) ];
  marked = s.marked;
  kept = s.kept;
  left = λ h. record {
    rest = (s.left h).rest;
    words = λ e i. elim (change e.address) [ inl q ↦ q ∙ (s.left h).words e i | inr n ↦ absurd (n.uncopied h e (in_drop _ _ e i) refl) ];
    count = (s.left h).count;
  };
}

module _ (S : ℕ → ℕ) (x : Part) where
  pub begun : (reads writes : ℕ → Bool) → Step S S Any x (did x [] [] [] (record { phase = Running; buffer = []; cursor = 0; reads = reads; writes = writes }))
  begun reads writes = record {
    sound = record {
      live = λ _ e i. absurd i;
      marked = λ _ e i. absurd i;
      kept = λ _. record { right = λ m h. refl; runs = λ m a. refl; wrote = λ a. refl; aims = refl; distinct = tt; marked = λ e i. absurd i };
      left = λ h. absurd h;
    };
    from = λ u s q c h. absurd h.1;
    to = λ u s q c h e i. record { unread = λ _ e i. absurd i; unheld = λ h. absurd h.1; uncopied = λ h. absurd h };
  }

  module _ (sound : Sound S x) where
    module _ (running : x.th.phase ≡ Running) where
      alive : Alive x.th.phase
      alive = rw running tt

      kept : Kept x.ops x.heard x.loads x.th.buffer x.th.writes
      kept = sound.kept (inl alive)

      -- one read more, with the loads after it
      read_kept : (a v : ℕ) (loads : List Entry) → ((m : ℕ → ℕ) → Agrees m loads → Agrees m x.loads) →
          ((m : ℕ → ℕ) → Agrees m loads → over (lookup x.th.buffer a) (m a) ≡ v) →
          Kept (x.ops ++ (get a ∷ [])) (x.heard ++ (v ∷ [])) loads x.th.buffer x.th.writes
      read_kept a v loads old value = record {
        right = λ m h. ap₂ (λ r y. r ++ (y ∷ [])) (kept.right m (old m h)) (sym (kept.runs m a ∙ value m h)) ∙ sym (answers-append m x.ops (get a ∷ []));
        runs = λ m b. ap (λ f. f b) (run-append m x.ops (get a ∷ [])) ∙ kept.runs m b;
        wrote = λ b. written-append x.ops (get a ∷ []) b ∙ kept.wrote b;
        aims = kept.aims ∙ sym (targets-append [] x.ops (get a ∷ []));
        distinct = kept.distinct;
        marked = kept.marked;
      }

      -- a read of an own word
      pub read_own : (a v : ℕ) → lookup x.th.buffer a ≡ Some v → Step S S Any x (did x (x.ops ++ (get a ∷ [])) (x.heard ++ (v ∷ [])) x.loads x.th)
      read_own a v own = record {
        sound = record { live = sound.live; marked = sound.marked; kept = λ _. read_kept a v x.loads (λ m h. h) (λ m h. rw own); left = λ h. absurd (subst Copies running h) };
        from = λ u s q c. c;
        to = λ u s q c h e i. record { unread = (c h e i).unread; unheld = (c h e i).unheld; uncopied = (c h e i).uncopied };
      }

      -- a read from memory
      pub read_memory : (a v : ℕ) (reads : ℕ → Bool) → lookup x.th.buffer a ≡ None → S a ≡ v → reads (line a) ≡ true → ((l : ℕ) → x.th.reads l ≡ true → reads l ≡ true) →
          Step S S (Quiet false (line a)) x (did x (x.ops ++ (get a ∷ [])) (x.heard ++ (v ∷ [])) (x.loads ++ (record { address = a; word = v } ∷ []))
          (record { phase = x.th.phase; buffer = x.th.buffer; cursor = x.th.cursor; reads = reads; writes = x.th.writes }))
      read_memory a v reads none value adds grows = record {
        sound = record {
          live = λ h e i. elim (in_snoc x.loads _ e i) [ inl o ↦ sound.live h e o | inr n ↦ subst (λ (z : Entry). S z.address ≡ z.word) (sym n) value ];
          marked = λ h e i. elim (in_snoc x.loads _ e i) [ inl o ↦ grows _ (sound.marked h e o) | inr n ↦ subst (λ (z : Entry). reads (line z.address) ≡ true) (sym n) adds ];
          kept = λ _. read_kept a v _ (λ m h e i. h e (in_front _ _ e i)) (λ m h. rw none (h _ (in_end x.loads _)));
          left = λ h. absurd (subst Copies running h);
        };
        from = λ u s q c h. absurd (subst Fetches running h).1;
        to = λ u s q c h e i. record {
          unread = λ k d j same_line. elim (in_snoc x.loads _ d j) [
            | inl o ↦ (c h e i).unread k d o same_line
            | inr n ↦ quiet_fetched s q h e i (sym same_line ∙ ap (λ (z : Entry). line z.address) n)
          ];
          unheld = λ k. absurd (subst Fetches running k).1;
          uncopied = λ k. absurd (subst Copies running k);
        };
      }

      pub wrote : (a v : ℕ) (writes : ℕ → Bool) → writes (line a) ≡ true → ((l : ℕ) → x.th.writes l ≡ true → writes l ≡ true) →
          Step S S Any x (did x (x.ops ++ (set a v ∷ [])) x.heard x.loads
          (record { phase = Running; buffer = placed x.th.buffer a v; cursor = 0; reads = x.th.reads; writes = writes }))
      wrote a v writes adds grows = record {
        sound = record {
          live = λ _. sound.live alive;
          marked = λ _. sound.marked alive;
          kept = λ _. record {
            right = λ m h. kept.right m h ∙ sym (answers-append m x.ops (set a v ∷ []) ∙ append-nil _);
            runs = λ m b. ap (λ f. f b) (run-append m x.ops (set a v ∷ [])) ∙ word m b ∙ ap (λ o. over o (m b)) (sym (lookup-placed x.th.buffer a v b));
            wrote = λ b. written-append x.ops (set a v ∷ []) b ∙ among b ∙ ap is_some (sym (lookup-placed x.th.buffer a v b));
            aims = addresses-placed x.th.buffer a v ∙ ap (fresh a) kept.aims ∙ sym (targets-append [] x.ops (set a v ∷ []));
            distinct = distinct_placed x.th.buffer a v kept.distinct;
            marked = λ e i. elim (in_placed x.th.buffer a v e i) [ inl o ↦ grows _ (kept.marked e o) | inr n ↦ subst (λ z. writes (line z) ≡ true) (sym n) adds ];
          };
          left = λ h. absurd h;
        };
        from = λ u s q c h. absurd h.1;
        to = λ u s q c h e i. record { unread = λ _. (c h e i).unread alive; unheld = λ k. absurd k.1; uncopied = λ k. absurd k };
      }
        where
          word : (m : ℕ → ℕ) (b : ℕ) → at (run m x.ops) a v b ≡ over (cond (eqb a b) (Some v) (lookup x.th.buffer b)) (m b)
          word m b = elim (cases_eq a b) [ inl e ↦ rw (eq-eqb a b e, eq-eqb b a (sym e)) | inr n ↦ rw (ne_eqb a b n, ne_eqb b a (λ e. n (sym e))) (kept.runs m b) ]

          among : (b : ℕ) → cond (cond (eqb a b) true false) true (written x.ops b) ≡ is_some (cond (eqb a b) (Some v) (lookup x.th.buffer b))
          among b = elim (cases_eq a b) [ inl e ↦ rw (eq-eqb a b e) | inr n ↦ rw (ne_eqb a b n) (kept.wrote b) ]

      pub committed : Step S S Any x (with_th x (moved x.th Validating 0))
      committed = record {
        sound = record { live = λ _. sound.live alive; marked = λ _. sound.marked alive; kept = λ _. kept; left = λ h. absurd h };
        from = λ u s q c h e i. absurd i;
        to = λ u s q c h e i. record { unread = λ _. (c h e i).unread alive; unheld = λ _ e i. absurd i; uncopied = λ k. absurd k };
      }

    module _ (validating : x.th.phase ≡ Validating) where
      alive' : Alive x.th.phase
      alive' = rw validating tt

      fetches : Fetches x.th.phase
      fetches = subst Fetches (sym validating) (tt, tt)

      kept' : Kept x.ops x.heard x.loads x.th.buffer x.th.writes
      kept' = sound.kept (inl alive')

      -- a step that fetched the line of the next entry
      pub fetched : (d : Entry) → d ≡ get_or x.th.buffer x.th.cursor d →
          Step S S (Quiet true (line d.address)) x (went x x.to_copy (x.steps + 1) (moved x.th Validating (x.th.cursor + 1)))
      fetched d is = record {
        sound = record { live = λ _. sound.live alive'; marked = λ _. sound.marked alive'; kept = λ _. kept'; left = λ h. absurd h };
        from = λ u s q c h e i. elim (more e i) [ inl o ↦ c fetches e o | inr n ↦ subst (λ (z : Entry). Apart u (line z.address)) (sym n) (quiet_apart s q refl) ];
        to = λ u s q c h e i. record {
          unread = λ _. (c h e i).unread alive';
          unheld = λ _ e' i' same_line. elim (more e' i') [
            | inl o ↦ (c h e i).unheld fetches e' o same_line
            | inr n ↦ quiet_fetched s q h e i (sym same_line ∙ ap (λ (z : Entry). line z.address) n)
          ];
          uncopied = λ k. absurd k;
        };
      }
        where
          more : (e : Entry) → In e (take (x.th.cursor + 1) x.th.buffer) → In e (take x.th.cursor x.th.buffer) ⊎ (e ≡ d)
          more e i = elim (in_take_more x.th.cursor x.th.buffer d e i) [ inl o ↦ inl o | inr n ↦ inr (n ∙ sym is) ]

      -- a step that was nacked
      pub nacked : Step S S Any x (went x x.to_copy (x.steps + 1) (back x.th))
      nacked = record {
        sound = record { live = sound.live; marked = sound.marked; kept = sound.kept; left = λ h. absurd (subst Copies validating h) };
        from = λ u s q c h e i. absurd i;
        to = λ u s q c h e i. record { unread = (c h e i).unread; unheld = λ _ e i. absurd i; uncopied = (c h e i).uncopied };
      }

      -- the step that passed
      module _ (all : x.th.cursor ≡ length x.th.buffer) where
        fetched_all : (e : Entry) → In e x.th.buffer → In e (take x.th.cursor x.th.buffer)
        fetched_all e i = subst (λ b. In e b) (sym (ap (λ n. take n x.th.buffer) all ∙ take-length x.th.buffer)) i

        pub passed : (reads : ℕ → Bool) →
            Step S (run S x.ops) Any x (went x (targets x.ops) 0 (record { phase = Copying; buffer = x.th.buffer; cursor = 0; reads = reads; writes = x.th.writes }))
        passed reads = record {
          sound = record {
            live = λ h. absurd h;
            marked = λ h. absurd h;
            kept = λ _. kept';
            left = λ _. record { rest = sym kept'.aims; words = λ e i. kept'.runs S e.address ∙ rw (lookup_in x.th.buffer kept'.distinct e i); count = refl };
          };
          from = λ u s q c h. absurd h.0;
          to = λ u s q c h e i. record { unread = λ k. absurd k; unheld = λ k. absurd k.0; uncopied = λ _ e' i'. (c h e i).unheld fetches e' (fetched_all e' i') };
        }

        -- a serial word changes only where the thread has an entry
        pub passed_word : (a : ℕ) → (run S x.ops a ≡ S a) ⊎ ((e : Entry) × (In e x.th.buffer) × (e.address ≡ a))
        passed_word a = go (lookup x.th.buffer a) refl
          where
            go : (o : Option ℕ) → lookup x.th.buffer a ≡ o → (run S x.ops a ≡ S a) ⊎ ((e : Entry) × (In e x.th.buffer) × (e.address ≡ a))
            go None h = inl (kept'.runs S a ∙ rw h)
            go (Some v) h = inr (in_lookup x.th.buffer a v h)

        pub passed_other : (u : Part) → Sound S u → Clear x u → Sound (run S x.ops) u
        passed_other u s c = sound_change S (run S x.ops) u s (λ a. elim (passed_word a) [
          | inl e ↦ inl e
          | inr r ↦ inr (subst (λ b. Apart u (line b)) r.2 (c fetches r.0 (fetched_all r.0 r.1)))
        ])

    module _ (copying : x.th.phase ≡ Copying) where
      left : Left S x.to_copy x.steps x.th.cursor x.th.buffer
      left = sound.left (rw copying tt)

      -- a step that copied the next entry
      module _ (d : Entry) (is : d ≡ get_or x.th.buffer x.th.cursor d) (below : x.th.cursor < length x.th.buffer) where
        next : drop x.th.cursor x.th.buffer ≡ d ∷ drop (x.th.cursor + 1) x.th.buffer
        next = drop-cons x.th.buffer x.th.cursor d below ∙ ap₂ {C = List Entry} (λ y n. y ∷ drop n x.th.buffer) (sym is) (sym (add-one x.th.cursor))

        next_copy : x.to_copy ≡ d.address ∷ addresses (drop (x.th.cursor + 1) x.th.buffer)
        next_copy = left.rest ∙ ap addresses next

        pub copied : Step S S Any x (went x (drop 1 x.to_copy) (x.steps + 1) (moved x.th Copying (x.th.cursor + 1)))
        copied = record {
          sound = record {
            live = λ h. absurd h;
            marked = λ h. absurd h;
            kept = λ _. sound.kept (inr (rw copying tt));
            left = λ _. record { rest = ap (drop 1) next_copy; words = λ e i. left.words e (subst (λ b. In e b) (sym next) (inr i)); count = ap (λ n. n + 1) left.count };
          };
          from = λ u s q c h. absurd h.0;
          to = λ u s q c h e i. record { unread = λ k. absurd k; unheld = λ k. absurd k.0; uncopied = λ _. (c h e i).uncopied (rw copying tt) };
        }

        pub copied_word : S d.address ≡ d.word
        copied_word = left.words d (subst (λ b. In d b) (sym next) (inl refl))

        pub copied_member : (a : ℕ) → (a ≡ d.address → ⊥) → Member a x.to_copy → Member a (drop 1 x.to_copy)
        copied_member a ne m = subst (λ b. Member a (drop 1 b)) (sym next_copy) (elim (member_cases (subst (λ b. Member a b) next_copy m)) [ inl e ↦ absurd (ne e) | inr r ↦ r ])

      -- nothing is left to copy
      module _ (all : x.th.cursor ≡ length x.th.buffer) where
        pub ended_copy : x.to_copy ≡ []
        ended_copy = left.rest ∙ ap addresses (ap (λ n. drop n x.th.buffer) all ∙ drop-length x.th.buffer)

        pub ended_steps : x.steps ≡ length (targets x.ops)
        ended_steps = left.count ∙ all ∙ sym (length-addresses x.th.buffer) ∙ ap length (sound.kept (inr (rw copying tt))).aims
