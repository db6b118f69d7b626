-- The place where a word goes in a buffer.
use Rattle.std.proofs.Common.{◌≡◌, ℕ, zero, suc, ◌+◌, ◌<◌, ◌≤◌, max, Bool, true, false, cond, not, ◌&&◌, ◌==◌, eqb, ◌⊎◌, List, [], ◌∷◌, ◌++◌, length, take, drop, set, is_some, Some, sym, refl, ap, ◌∙◌, inl, inr, arith, take-append-drop, length-take}
use Rattle.std.specs.List.{find}
use Rattle.std.specs.Option.{option_map}
use Rattle.std.proofs.lemmas.Bool.{ne_eqb}
use Rattle.write_buffer.specs.declared.entry.Entry.{Entry}
use Rattle.write_buffer.specs.Buffers.{fronted, lookup, place, placed}

-- an address that is not there has its place at the end
pub place_cases : (b : List Entry) (a : ℕ) → ((place b a ≡ length b) × (is_some (lookup b a) ≡ false)) ⊎ ((place b a < length b) × (is_some (lookup b a) ≡ true))
place_cases [] a = inl (refl, refl)
place_cases (e ∷ es) a = go (e.address == a) (place_cases es a)
  where
    next : Bool → ℕ
    next t = cond (not t) (1 + place es a) 0

    held : Bool → Bool
    held t = is_some (option_map (λ (x : Entry). x.word) (cond t (Some e) (find (λ x. x.address == a) es)))

    go : (t : Bool) → ((place es a ≡ length es) × (is_some (lookup es a) ≡ false)) ⊎ ((place es a < length es) × (is_some (lookup es a) ≡ true)) →
        ((next t ≡ suc (length es)) × (held t ≡ false)) ⊎ ((next t < suc (length es)) × (held t ≡ true))
    go true r = inr (omega arith, refl)
    go false (inl h) = inl (omega (arith, h.0), h.1)
    go false (inr h) = inr (omega (arith, h.0), h.1)

pub place_most : (b : List Entry) (a : ℕ) → place b a ≤ length b
place_most b a = elim (place_cases b a) [ inl h ↦ omega (arith, h.0) | inr h ↦ omega (arith, h.0) ]

-- no room is left just where the place is beyond the last
pub place_full : (b : List Entry) (a : ℕ) → length b ≤ 32 → eqb (place b a) 32 ≡ (eqb (length b) 32 && not (is_some (lookup b a)))
place_full b a few = elim (place_cases b a) [
  | inl h ↦ rw (h.0, h.1) (sym (and_true (eqb (length b) 32)))
  | inr h ↦ let below : place b a < 32 = omega (arith, h.0) in rw (ne_eqb (place b a) 32 (λ e. omega arith), h.1) (sym (and_false (eqb (length b) 32)))
]
  where
    and_true : (t : Bool) → (t && true) ≡ t
    and_true true = refl
    and_true false = refl

    and_false : (t : Bool) → (t && false) ≡ false
    and_false true = refl
    and_false false = refl

module _ (a v : ℕ) where
  pub placed_long : (b : List Entry) → length (placed b a v) ≡ max (length b) (place b a + 1)
  placed_long [] = refl
  placed_long (e ∷ es) = go (e.address == a) (placed_long es)
    where
      go : (t : Bool) → length (placed es a v) ≡ max (length es) (place es a + 1) →
          length (cond t (record { address = a; word = v } ∷ es) (e ∷ placed es a v)) ≡ max (suc (length es)) (cond (not t) (1 + place es a) 0 + 1)
      go true ih = omega arith
      go false ih = omega arith

  -- a word put at its place makes the buffer the front of the area
  pub placed_front : (n : ℕ) (xs : List Entry) → n ≤ length xs → place (take n xs) a < length xs → set xs (place (take n xs) a) (record { address = a; word = v }) ≡ fronted (placed (take n xs) a v) xs
  placed_front zero [] h room = absurd (omega arith)
  placed_front zero (x ∷ xs) h room = refl
  placed_front (suc n) [] h room = absurd (omega arith)
  placed_front (suc n) (x ∷ xs) h room = go (x.address == a) room (placed_front n xs (omega arith))
    where
      go : (t : Bool) → cond (not t) (1 + place (take n xs) a) 0 < suc (length xs) →
          (place (take n xs) a < length xs → set xs (place (take n xs) a) (record { address = a; word = v }) ≡ fronted (placed (take n xs) a v) xs) →
          set (x ∷ xs) (cond (not t) (1 + place (take n xs) a) 0) (record { address = a; word = v }) ≡ fronted (cond t (record { address = a; word = v } ∷ take n xs) (x ∷ placed (take n xs) a v)) (x ∷ xs)
      go true inside ih =
          let whole : length (take n xs) ≡ n = simp length-take (omega arith) in
          ap {B = List Entry} (λ r. record { address = a; word = v } ∷ r) (sym (take-append-drop n xs) ∙ ap (λ k. take n xs ++ drop k xs) (sym whole))
      go false inside ih =
          let next : 1 + place (take n xs) a ≡ suc (place (take n xs) a) = omega arith in
          ap (λ k. set (x ∷ xs) k (record { address = a; word = v })) next ∙ ap {B = List Entry} (λ r. x ∷ r) (ih (omega arith))
