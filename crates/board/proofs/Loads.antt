-- A read from memory: a request that nobody nacked, and then one insert.
use Rattle.std.proofs.Common.{◌≡◌, ℕ, ◌<◌, false, List, length, get_or, Some, None, sym, refl, ap, ◌∙◌, subst}
use Rattle.std.proofs.lemmas.Bool.{eq-eqb}
use Rattle.signature.specs.Meaning.{Inserted}
use Rattle.signature.specs.declared.Signature.{Ghosts}
use Rattle.conflict.specs.Conflicts.{line, other}
use Rattle.write_buffer.specs.Buffers.{lookup}
use Rattle.board.specs.declared.parts.Board.{Board}
use Rattle.board.specs.Changes.{RowTurned}
use Rattle.board.specs.Refusals.{read, refusal}
use Rattle.board.specs.Requests.{Requested}
use Rattle.board.specs.Rules.{Rule, got, reads_memory, with_reads}
use Rattle.board.specs.Views.{view}
use Rattle.board.proofs.Replaced.{read_row_only, with_read_row}

-- the requester is not another thread
pub own_not_other : (t : ℕ) → other (Some t) t ≡ false
own_not_other t = rw (eq-eqb t t refl)

pub loaded : {R W : Type 0} (r : Ghosts R) (w : Ghosts W) (t a v : ℕ) (b b₁ : Board R W) (row : List R) (d : R) (e : W) → t < length b.records.now →
    refusal r w (view b d e) (read t a) ≡ None → lookup ((view b d e).thread t).buffer a ≡ None →
    Requested r w false (Some t) (line a) (view b d e) (view b₁ d e) →
    RowTurned t (λ s s'. Inserted r.has r.inserts s (line a) s') b₁.reads.now row →
    v ≡ get_or b₁.words.now a 0 → Rule r w (view b d e) (got t a v) (view (with_read_row b₁ row) d e)
loaded r w t a v b b₁ row d e inside accepted absent requested turned is =
    let same = requested.own t inside (own_not_other t) in
    let q = get_or row t d in
    subst (λ x. Rule r w (view b d e) (got t a x) (view (with_read_row b₁ row) d e)) (sym (is ∙ requested.memory a))
    (reads_memory {s₁ = view b₁ d e} accepted absent requested (read_row_only b₁ t turned d e) q
    (subst (λ x. Inserted r.has r.inserts x.reads (line a) q) same (turned.turned d))
    (ap (λ x. with_reads x q) same))
