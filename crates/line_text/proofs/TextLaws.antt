-- The first line of a text. Assumes nothing.
use Rattle.std.proofs.Common.{◌≡◌, ℕ, suc, ◌+◌, ◌-◌, ◌<◌, true, false, not, cond, eqb, List, [], ◌∷◌, length, take, drop, min, sym, refl, ap, ◌∙◌, arith}
use Rattle.std.specs.List.{position_or_len}
use Rattle.std.proofs.lemmas.List.{drop-drop, take_rest}
use Rattle.line_text.specs.Texts.{in_front, lines_of}

-- how many bytes stand before the first newline
abbrev line_length : List ℕ → ℕ
line_length text = position_or_len (λ b. eqb b 10) text

cut : (text : List ℕ) → 0 < length text → lines_of text ≡ take (line_length text) text ∷ lines_of (drop (line_length text + 1) text)
cut [] some = absurd (omega arith)
cut (b ∷ []) some =
    elim (eqb b 10) as (λ t. cond t ([] ∷ []) ((b ∷ []) ∷ []) ≡ take (cond (not t) 1 0) (b ∷ []) ∷ lines_of (drop (cond (not t) 1 0 + 1) (b ∷ []))) [ true ↦ refl | false ↦ refl ]
cut (b ∷ c ∷ text) some =
    let r = line_length (c ∷ text) in
    let more : 1 + r ≡ suc r = omega arith in
    let next : suc r + 1 ≡ suc (r + 1) = omega arith in
    let rest : in_front b (lines_of (c ∷ text)) ≡ take (1 + r) (b ∷ c ∷ text) ∷ lines_of (drop (1 + r + 1) (b ∷ c ∷ text)) = rw (more, next) (ap (in_front b) (cut (c ∷ text) (omega arith))) in
    elim (eqb b 10) as (λ t. cond t ([] ∷ lines_of (c ∷ text)) (in_front b (lines_of (c ∷ text))) ≡ take (cond (not t) (1 + r) 0) (b ∷ c ∷ text) ∷ lines_of (drop (cond (not t) (1 + r) 0 + 1) (b ∷ c ∷ text))) [ true ↦ refl | false ↦ rest ]

-- what is left past the newline, where there is one
past : (rest : List ℕ) (m : ℕ) → m ≡ min (length rest) 1 → take (length rest - m) (drop m rest) ≡ drop 1 rest
past [] m e = let none : m ≡ 0 = omega (arith, e) in rw none refl
past (b ∷ rest) m e = let one : m ≡ 1 = omega (arith, e) in rw one (take_rest (b ∷ rest) 1)

pub first_line : (text rest : List ℕ) (r m : ℕ) → 0 < length text → r ≡ line_length text → rest ≡ drop r text → m ≡ min (length rest) 1 → lines_of text ≡ take r text ∷ lines_of (take (length rest - m) (drop m rest))
first_line text rest r m some long left short =
    rw (past rest m short, left, long) (cut text some ∙ ap (λ ls. take (line_length text) text ∷ lines_of ls) (sym (drop-drop 1 (line_length text) text)))
