-- The invariant of a run: what holds of each thread, of each two threads, and of the memory.
use Rattle.std.proofs.Common.{◌≡◌, ℕ, ◌<◌, Bool, true, T, ◌⊎◌, List, take, drop, is_some, sym, refl, ◌∙◌, subst, subst₂, inl, inr}
use Rattle.std.proofs.lemmas.Bool.{cases_eq}
use Rattle.write_buffer.specs.declared.entry.Entry.{Entry}
use Rattle.thread_record.specs.declared.phase.Phase.{Phase}
use Rattle.thread_record.specs.declared.phase.Phase.TheVariants.{Idle, Running, Validating, Copying, Aborted}
use Rattle.thread_record.specs.Phases.{is_live, is_committing, is_copying}
use Rattle.history.specs.Serial.{Op, run, answers, written, targets}
use Rattle.history.specs.Law.{Member}
use Rattle.history.proofs.Buffers.{In, Distinct, addresses, over}
use Rattle.conflict.specs.Conflicts.{line}
use Rattle.write_buffer.specs.Buffers.{lookup}

-- which phases read and write, copy words, hold a buffer, fetch lines
abbrev pub Alive : Phase → Type 0
Alive p = T (is_live p)

abbrev pub Copies : Phase → Type 0
Copies p = T (is_copying p)

abbrev pub Holds : Phase → Type 0
Holds p = Alive p ⊎ Copies p

abbrev pub Fetches : Phase → Type 0
Fetches p = Alive p × T (is_committing p)

pub copies_is : (p : Phase) → Copies p → p ≡ Copying
copies_is Idle c = absurd c
copies_is Running c = absurd c
copies_is Validating c = absurd c
copies_is Copying c = refl
copies_is Aborted c = absurd c

-- what is seen of a thread: a signature by the lines that it hits on
pub record Seen : Type 0 where
  pub phase : Phase
  pub buffer : List Entry
  pub cursor : ℕ
  pub reads : ℕ → Bool
  pub writes : ℕ → Bool

-- a thread in a phase and at a cursor
abbrev pub moved : Seen → Phase → ℕ → Seen
moved x p n = record { phase = p; buffer = x.buffer; cursor = n; reads = x.reads; writes = x.writes }

-- a thread back at its first entry
abbrev pub back : Seen → Seen
back x = moved x x.phase 0

-- a thread with its operations, what it heard, its loads, its addresses to copy and its steps since it passed
pub record Part : Type 0 where
  pub ops : List Op
  pub heard : List ℕ
  pub loads : List Entry
  pub to_copy : List ℕ
  pub steps : ℕ
  pub th : Seen

-- the same with another list, or with more copied, or with neither
abbrev pub did : Part → List Op → List ℕ → List Entry → Seen → Part
did p ops heard loads x = record { ops = ops; heard = heard; loads = loads; to_copy = p.to_copy; steps = p.steps; th = x }

abbrev pub went : Part → List ℕ → ℕ → Seen → Part
went p to_copy steps x = record { ops = p.ops; heard = p.heard; loads = p.loads; to_copy = to_copy; steps = steps; th = x }

abbrev pub with_th : Part → Seen → Part
with_th p x = went p p.to_copy p.steps x

-- the words at the entries' addresses are theirs
abbrev pub Agrees : (ℕ → ℕ) → List Entry → Type 0
Agrees m es = (e : Entry) → In e es → m e.address ≡ e.word

-- a set has the lines of all entries
abbrev pub Marks : (ℕ → Bool) → List Entry → Type 0
Marks lines es = (e : Entry) → In e es → lines (line e.address) ≡ true

-- no entry is on a line
abbrev pub Off : List Entry → ℕ → Type 0
Off es l = (e : Entry) → In e es → line e.address ≡ l → ⊥

-- what was heard follows from the loads; the buffer is what the writes leave, and the signature has its lines
pub record Kept (ops : List Op) (heard : List ℕ) (loads buffer : List Entry) (writes : ℕ → Bool) : Type 0 where
  pub right : (m : ℕ → ℕ) → Agrees m loads → heard ≡ answers m ops
  pub runs : (m : ℕ → ℕ) (a : ℕ) → run m ops a ≡ over (lookup buffer a) (m a)
  pub wrote : (a : ℕ) → written ops a ≡ is_some (lookup buffer a)
  pub aims : addresses buffer ≡ targets ops
  pub distinct : Distinct buffer
  pub marked : Marks writes buffer

-- the words from the cursor on are left to copy, and are the serial words
pub record Left (S : ℕ → ℕ) (to_copy : List ℕ) (steps cursor : ℕ) (buffer : List Entry) : Type 0 where
  pub rest : to_copy ≡ addresses (drop cursor buffer)
  pub words : Agrees S (drop cursor buffer)
  pub count : steps ≡ cursor

pub record Sound (S : ℕ → ℕ) (p : Part) : Type 0 where
  pub live : Alive p.th.phase → Agrees S p.loads
  pub marked : Alive p.th.phase → Marks p.th.reads p.loads
  pub kept : Holds p.th.phase → Kept p.ops p.heard p.loads p.th.buffer p.th.writes
  pub left : Copies p.th.phase → Left S p.to_copy p.steps p.th.cursor p.th.buffer

-- a thread that has to do with no word of a line
pub record Apart (p : Part) (l : ℕ) : Type 0 where
  pub unread : Alive p.th.phase → Off p.loads l
  pub unheld : Fetches p.th.phase → Off (take p.th.cursor p.th.buffer) l
  pub uncopied : Copies p.th.phase → Off p.th.buffer l

-- the second thread has to do with no line that the first has fetched
abbrev pub Clear : Part → Part → Type 0
Clear p q = Fetches p.th.phase → (e : Entry) → In e (take p.th.cursor p.th.buffer) → Apart q (line e.address)

-- a word is the serial one, or waits to be copied
abbrev pub Worded : (S m : ℕ → ℕ) (n : ℕ) (P : ℕ → Part) → ℕ → Type 0
Worded S m n P a = (m a ≡ S a) ⊎ ((u : ℕ) × (u < n) × Copies (P u).th.phase × Member a (P u).to_copy)

pub record Inv (S m : ℕ → ℕ) (n : ℕ) (P : ℕ → Part) : Type 0 where
  pub each : (u : ℕ) → u < n → Sound S (P u)
  pub clear : (u t : ℕ) → u < n → t < n → (u ≡ t → ⊥) → Clear (P u) (P t)
  pub memory : (a : ℕ) → Worded S m n P a

-- p may take the place of x among threads of which Q holds, as the serial words become S'
pub record Step (S S' : ℕ → ℕ) (Q : Seen → Type 0) (x p : Part) : Type 0 where
  pub sound : Sound S' p
  pub from : (u : Part) → Sound S u → Q u.th → Clear x u → Clear p u
  pub to : (u : Part) → Sound S u → Q u.th → Clear u x → Clear u p

-- so it is of each of the first n threads but t
abbrev pub Others : ℕ → ℕ → (ℕ → Type 0) → Type 0
Others n t C = (u : ℕ) → u < n → (u ≡ t → ⊥) → C u

-- a thread that holds nothing
module _ (p : Part) (none : Holds p.th.phase → ⊥) where
  pub gone_sound : (S : ℕ → ℕ) → Sound S p
  gone_sound S = record {
    live = λ h. absurd (none (inl h));
    marked = λ h. absurd (none (inl h));
    kept = λ h. absurd (none h);
    left = λ h. absurd (none (inr h));
  }

  gone_apart : (l : ℕ) → Apart p l
  gone_apart l = record {
    unread = λ h. absurd (none (inl h));
    unheld = λ h. absurd (none (inl h.0));
    uncopied = λ h. absurd (none (inr h));
  }

  pub gone_clear : (q : Part) → Clear p q
  gone_clear q h = absurd (none (inl h.0))

  pub gone : (S : ℕ → ℕ) (Q : Seen → Type 0) (x : Part) → Step S S Q x p
  gone S Q x = record { sound = gone_sound S; from = λ u s q c. gone_clear u; to = λ u s q c h e i. gone_apart (line e.address) }

-- what a request of another leaves of a thread
pub data Weaker (x y : Seen) : Type 0 where
  same : y ≡ x → Weaker x y
  sent_back : x.phase ≡ Validating → y ≡ back x → Weaker x y
  aborted : (Copies x.phase → ⊥) → y.phase ≡ Aborted → Weaker x y

pub neither : ⊥ ⊎ ⊥ → ⊥
neither (inl h) = h
neither (inr h) = h

pub aborted_holds : (p : Phase) → p ≡ Aborted → Holds p → ⊥
aborted_holds p e h = neither (subst Holds e h)

sound_weaker : (S : ℕ → ℕ) (p : Part) (y : Seen) → Weaker p.th y → Sound S p → Sound S (with_th p y)
sound_weaker S p y (same e) s = subst (λ x. Sound S (with_th p x)) (sym e) s
sound_weaker S p y (sent_back v e) s =
    subst (λ x. Sound S (with_th p x)) (sym e) (record { live = s.live; marked = s.marked; kept = s.kept; left = λ h. absurd (subst Copies v h) })
sound_weaker S p y (aborted c e) s = gone_sound (with_th p y) (aborted_holds _ e) S

apart_weaker : (p : Part) (y : Seen) (l : ℕ) → Weaker p.th y → Apart p l → Apart (with_th p y) l
apart_weaker p y l (same e) s = subst (λ x. Apart (with_th p x) l) (sym e) s
apart_weaker p y l (sent_back v e) s = subst (λ x. Apart (with_th p x) l) (sym e) (record { unread = s.unread; unheld = λ h e i. absurd i; uncopied = s.uncopied })
apart_weaker p y l (aborted c e) s = gone_apart (with_th p y) (aborted_holds _ e) l

clear_weaker : (p q : Part) (x y : Seen) → Weaker p.th x → Weaker q.th y → Clear p q → Clear (with_th p x) (with_th q y)
clear_weaker p q x y (same e) v c = subst (λ z. Clear (with_th p z) (with_th q y)) (sym e) (λ h e i. apart_weaker q y _ v (c h e i))
clear_weaker p q x y (sent_back v' e) v c = subst (λ z. Clear (with_th p z) (with_th q y)) (sym e) (λ h e i. absurd i)
clear_weaker p q x y (aborted d e) v c = gone_clear (with_th p x) (aborted_holds _ e) (with_th q y)

copies_weaker : (x y : Seen) → Weaker x y → Copies x.phase → Copies y.phase
copies_weaker x y (same e) h = subst (λ (z : Seen). Copies z.phase) (sym e) h
copies_weaker x y (sent_back v e) h = absurd (subst Copies v h)
copies_weaker x y (aborted c e) h = absurd (c h)

module _ {S m : ℕ → ℕ} {n : ℕ} {P : ℕ → Part} (inv : Inv S m n P) where
  pub inv_weaker : (y : ℕ → Seen) (m' : ℕ → ℕ) → ((u : ℕ) → u < n → Weaker (P u).th (y u)) → ((a : ℕ) → m' a ≡ m a) → Inv S m' n (λ u. with_th (P u) (y u))
  inv_weaker y m' weak eq = record {
    each = λ u h. sound_weaker S (P u) (y u) (weak u h) (inv.each u h);
    clear = λ u t h k ne. clear_weaker (P u) (P t) (y u) (y t) (weak u h) (weak t k) (inv.clear u t h k ne);
    memory = λ a. elim (inv.memory a) [
      | inl e ↦ inl (eq a ∙ e)
      | inr r ↦ inr (r.0, r.1, copies_weaker _ _ (weak r.0 r.1) r.2, r.3)
    ];
  }

  -- one thread changes, and perhaps the serial words
  module _ (P' : ℕ → Part) (t : ℕ) (p : Part) (is : P' t ≡ p) (others : Others n t (λ u. P' u ≡ P u)) where
    -- a word waits for another thread as before
    pub worded_one : (S' m' : ℕ → ℕ) (a : ℕ) → (m a ≡ S a → Worded S' m' n P' a) →
        (Copies (P t).th.phase → Member a (P t).to_copy → Worded S' m' n P' a) → Worded S' m' n P' a
    worded_one S' m' a settled waits = elim (inv.memory a) [
      | inl e ↦ settled e
      | inr r ↦ elim (cases_eq r.0 t) [
        | inl e ↦ waits (subst (λ x. Copies (P x).th.phase) e r.2) (subst (λ x. Member a (P x).to_copy) e r.3)
        | inr ne ↦ let o = sym (others r.0 r.1 ne) in inr (r.0, r.1, subst (λ x. Copies x.th.phase) o r.2, subst (λ x. Member a x.to_copy) o r.3)
      ]
    ]

    pub inv_one : (S' m' : ℕ → ℕ) (Q : Seen → Type 0) → t < n → Step S S' Q (P t) p → Others n t (λ u. Q (P u).th) →
        Others n t (λ u. Sound S' (P u)) → ((a : ℕ) → Worded S' m' n P' a) → Inv S' m' n P'
    inv_one S' m' Q ht step q rest mem = record {
      each = λ u h. elim (cases_eq u t) [ inl e ↦ subst (λ x. Sound S' (P' x)) (sym e) (rw is step.sound) | inr ne ↦ rw (others u h ne) (rest u h ne) ];
      clear = pairs;
      memory = mem;
    }
      where
        from : Others n t (λ u. Clear p (P u))
        from u h ne = step.from (P u) (inv.each u h) (q u h ne) (inv.clear t u ht h (λ e. ne (sym e)))

        to : Others n t (λ u. Clear (P u) p)
        to u h ne = step.to (P u) (inv.each u h) (q u h ne) (inv.clear u t h ht ne)

        pairs : (u v : ℕ) → u < n → v < n → (u ≡ v → ⊥) → Clear (P' u) (P' v)
        pairs u v h k ne =
            elim (cases_eq u t) [
              | inl e ↦ subst (λ x. Clear (P' x) (P' v)) (sym e) (subst₂ (λ x y. Clear x y) (sym is) (sym (others v k (λ q. ne (e ∙ sym q)))) (from v k (λ q. ne (e ∙ sym q))))
              | inr nu ↦ elim (cases_eq v t) [
                | inl e ↦ subst (λ x. Clear (P' u) (P' x)) (sym e) (subst₂ (λ x y. Clear x y) (sym (others u h nu)) (sym is) (to u h nu))
                | inr nv ↦ subst₂ (λ x y. Clear x y) (sym (others u h nu)) (sym (others v k nv)) (inv.clear u v h k ne)
              ]
            ]
