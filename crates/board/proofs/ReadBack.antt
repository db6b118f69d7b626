-- A thread, read back from the record that was stored.
use Rattle.std.proofs.Common.{◌≡◌, ℕ, ◌≤◌, List, length, take, sym, refl, ap, ◌∙◌, arith}
use Rattle.std.proofs.Math.Nat.{min-eq_left}
use Rattle.std.proofs.lemmas.List.{length-take-le}
use Rattle.write_buffer.specs.declared.entry.Entry.{Entry}
use Rattle.thread_record.specs.declared.phase.Phase.{Phase}
use Rattle.thread_record.specs.declared.phase.Phase.TheVariants.{Idle, Running, Validating, Copying, Aborted}
use Rattle.thread_record.specs.declared.record.Record.{Record}
use Rattle.thread_record.specs.Limits.{phase_of, count_limit, count_as, cursor_as, repeats_as}
use Rattle.thread_record.specs.Phases.{phase_number}
use Rattle.thread_record.specs.Records.{plain_of}
use Rattle.board.specs.States.{stored}
use Rattle.board.specs.Views.{thread_of}

phase_back : (p : Phase) → phase_of (phase_number p) ≡ p
phase_back Idle = refl
phase_back Running = refl
phase_back Validating = refl
phase_back Copying = refl
phase_back Aborted = refl

pub few : (p : Phase) (n : ℕ) → n ≤ count_limit p → n ≤ 32
few Idle n h = omega arith
few Running n h = h
few Validating n h = h
few Copying n h = h
few Aborted n h = omega arith

pub length-front : (n : ℕ) (area : List Entry) → length area ≡ 32 → n ≤ 32 → length (take n area) ≡ n
length-front n area long h = length-take-le n area (omega arith)

module _ {R W : Type 0} (r : Record) (area : List Entry) (long : length area ≡ 32) (reads : R) (writes : W) where
  pub read_back : thread_of (plain_of r) area reads writes ≡ stored r.phase (take r.count area) r.cursor r.repeats area reads writes
  read_back =
      λ i. record {
        plain = record { phase = phase_number r.phase; count = counted i; cursor = r.cursor; repeats = r.repeats };
        area = area;
        phase = phase_back r.phase i;
        buffer = take (count_back i) area;
        cursor = cursor_back i;
        repeats = repeats_back i;
        reads = reads;
        writes = writes;
      }
    where
      counted : r.count ≡ length (take r.count area)
      counted = sym (length-front r.count area long (few r.phase r.count r.counted))

      count_back : count_as (phase_of (phase_number r.phase)) r.count ≡ r.count
      count_back = ap (λ q. count_as q r.count) (phase_back r.phase) ∙ min-eq_left r.counted

      cursor_back : cursor_as (phase_of (phase_number r.phase)) (count_as (phase_of (phase_number r.phase)) r.count) r.cursor ≡ r.cursor
      cursor_back =
          ap (λ n. cursor_as (phase_of (phase_number r.phase)) n r.cursor) count_back ∙ ap (λ q. cursor_as q r.count r.cursor) (phase_back r.phase) ∙ min-eq_left r.reached

      repeats_back : repeats_as (phase_of (phase_number r.phase)) r.repeats ≡ r.repeats
      repeats_back = ap (λ q. repeats_as q r.repeats) (phase_back r.phase) ∙ min-eq_left r.repeated
