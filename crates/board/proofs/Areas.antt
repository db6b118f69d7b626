-- The parts of the entry area: a write to one leaves the others.
use Rattle.std.proofs.Common.{◌≡◌, ℕ, ◌+◌, ◌-◌, ◌*◌, ◌<◌, ◌≤◌, List, length, take, drop, sym, ap, ◌∙◌, inl, inr, arith, length-drop, length-take}
use borrow.Rule.Slice.PartMut.{put_mid, same_len_mid}
use Rattle.std.proofs.lemmas.List.{drop-take}
use Rattle.std.proofs.lemmas.Slice.{between-put_mid, drop-put_mid, take-put_mid_below}
use Rattle.std.proofs.lemmas.Bool.{cases_lt}
use Rattle.write_buffer.specs.declared.entry.Entry.{Entry}
use Rattle.board.specs.Views.{part}

-- the entries, with those of thread t's part put back as ys
module _ (xs ys : List Entry) (t : ℕ) (room : 32 * t + 32 ≤ length xs) (long : length ys ≡ 32) where
  whole : (32 * t + 32) - 32 * t ≡ 32
  whole = omega arith

  begins : 32 * t ≤ length xs
  begins = omega arith

  pub part_own : part t (put_mid (32 * t) ((32 * t + 32) - 32 * t) xs ys) ≡ ys
  part_own =
      ap (λ n. take n (drop (32 * t) (put_mid (32 * t) ((32 * t + 32) - 32 * t) xs ys))) (sym whole)
      ∙ between-put_mid (32 * t) ((32 * t + 32) - 32 * t) xs ys (32 * t + 32) begins (long ∙ sym whole)

  pub part_other : (u : ℕ) → (u ≡ t → ⊥) → part u (put_mid (32 * t) ((32 * t + 32) - 32 * t) xs ys) ≡ part u xs
  part_other u ne = elim (cases_lt u t) [ inl h ↦ before h | inr h ↦ behind h ]
    where
      before : u < t → part u (put_mid (32 * t) ((32 * t + 32) - 32 * t) xs ys) ≡ part u xs
      before h =
          sym (drop-take (32 * u) 32 (put_mid (32 * t) ((32 * t + 32) - 32 * t) xs ys))
          ∙ ap (drop (32 * u)) (take-put_mid_below (32 * t) ((32 * t + 32) - 32 * t) xs ys (32 * u + 32) (omega arith) begins) ∙ drop-take (32 * u) 32 xs

      behind : t ≤ u → part u (put_mid (32 * t) ((32 * t + 32) - 32 * t) xs ys) ≡ part u xs
      behind h =
          let beyond : 32 * t + ((32 * t + 32) - 32 * t) ≤ 32 * u = omega arith in
          ap (take 32) (drop-put_mid (32 * t) ((32 * t + 32) - 32 * t) xs ys (32 * u) beyond begins (long ∙ sym whole))

  pub area_length : length (put_mid (32 * t) ((32 * t + 32) - 32 * t) xs ys) ≡ length xs
  area_length = same_len_mid (32 * t) ((32 * t + 32) - 32 * t) xs ys (long ∙ sym part_length)
    where
      part_length : length (take ((32 * t + 32) - 32 * t) (drop (32 * t) xs)) ≡ 32
      part_length = simp (length-take, length-drop) (omega arith)
