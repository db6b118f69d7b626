-- How the outcome of a call is put together.
use Rattle.std.proofs.Common.{◌≡◌, ℕ, [], ◌∷◌, IsErrAnd, Some, Ok, Err, Option, Result, sym, refl, ap, ◌∙◌, subst}
use Rattle.std.proofs.lemmas.Result.{err_from_is_err_and}
use Rattle.signature.specs.declared.Signature.{Ghosts}
use Rattle.refusal.specs.Rows.{decided}
use Rattle.board.specs.declared.parts.Board.{Board}
use Rattle.refusal.specs.declared.refusal.Refusal.{Refusal}
use Rattle.refusal.specs.declared.refusal.Refusal.TheVariants.{Nacked}
use Rattle.refusal.specs.Cases.{Case, case, refusal_case}
use Rattle.board.specs.Refusals.{Call, refusal}
use Rattle.board.specs.Rules.{Event, refuses}
use Rattle.board.specs.Views.{Called, SameParts, view}

pub same_parts : {R W : Type 0} (b : Board R W) → SameParts b b
same_parts b = record {
  words = refl;
  records = refl;
  entries = refl;
  reads = refl;
  writes = refl;
  words_long = refl;
  records_long = refl;
  entries_long = refl;
  reads_long = refl;
  writes_long = refl;
}

-- what a refusal that came through a `?` decided
pub decided_on : {X : Type 0} (f : Refusal) (res : Result X Refusal) (after : Option Case) → IsErrAnd res (λ g. g ≡ f) → decided res after ≡ Some (refusal_case f)
decided_on f (Ok x) after by = absurd by
decided_on f (Err g) after by = ap (λ h. Some (refusal_case h)) by

module _ {R W X : Type 0} (r : Ghosts R) (w : Ghosts W) (call : Call) (accepted : X → Event) (b : Board R W) where
  pub refused : (f : Refusal) → ((d : R) (e : W) → Some (refusal_case f) ≡ refusal r w (view b d e) call) → Called r w call accepted b (Err f) b
  refused f because = record { follows = λ d e. refuses (sym (because d e)); unaltered = refl; parts = same_parts b }

  -- a refusal that came through a `?`
  pub passed_on : (f : Refusal) → ((d : R) (e : W) → Some (refusal_case f) ≡ refusal r w (view b d e) call) → (res : Result X Refusal) → IsErrAnd res (λ g. g ≡ f) → Called r w call accepted b res b
  passed_on f because res by =
      let p = err_from_is_err_and res by in
      subst (λ x. Called r w call accepted b x b) (sym (p.1 ∙ ap Err p.2)) (refused f because)

  -- the same because thread `by` nacked the request, which changed nothing
  pub nacked_by : (by : ℕ) (b' : Board R W) → ((d : R) (e : W) → Some (case 8 (by ∷ [])) ≡ refusal r w (view b d e) call) → b' ≡ b → (res : Result X Refusal) → IsErrAnd res (λ g. g ≡ Nacked by) →
      Called r w call accepted b res b'
  nacked_by by b' because same res is = subst (λ z. Called r w call accepted b res z) (sym same) (passed_on (Nacked by) because res is)
