use Rattle.std.proofs.Common.{◌≡◌, ◌+◌, ◌≤◌, get_or, take, sym, ◌∙◌, subst, arith}
use Rattle.thread_record.specs.declared.phase.Phase.TheVariants.{Validating}
use Rattle.thread_record.specs.Limits.{repeats_limit}
use Rattle.board.specs.States.{stored}
use Rattle.board.specs.Views.{part}
use Rattle.board.proofs.Alone.{record_only}
use Rattle.std.proofs.Math.Nat.{min-eq_left}
use Rattle.board.proofs.Turning.{stored_thread}
use Rattle.board.proofs.parts.Board.rewind.Goals as goal

pub returns : goal.returns
returns g c =
    let b = c.args.self.now in
    let t = c.args.t in
    let before = c.from-before.result in
    let read = c.from-before.ensures in
    let is = c.rewound.ensures in
    let most : before.repeats ≤ 4 = subst (λ p. before.repeats ≤ repeats_limit p) (read.phase ∙ c.requires.repeatable.phase) before.repeated in
    let not_four : before.repeats ≡ 4 → ⊥ = λ four. c.requires.repeatable.repeats (sym read.repeats ∙ four) in
    let once_more : before.repeats + 1 ≤ 4 = omega arith in
    record {
      only = λ d e. record_only t b c.store_record.new.self d e c.store_record.ensures;
      thread = λ d e.
          stored_thread t b c.requires.has c.store_record.new.self c.rewound.result Validating before.count 0 (before.repeats + 1)
          (record { phase = is.phase; count = is.count; cursor = is.cursor; repeats = is.repeats ∙ min-eq_left once_more }) c.store_record.ensures d e
          ∙ (λ i. stored (sym c.requires.repeatable.phase i) (take (read.count i) (part t b.entries.now)) 0 (read.repeats i + 1) (part t b.entries.now) (get_or b.reads.now t d) (get_or b.writes.now t e));
      parts = c.store_record.ensures.parts;
    }
