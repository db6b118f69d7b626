use Rattle.std.proofs.Common.{None}
use Rattle.thread_record.specs.declared.phase.Phase.TheVariants.{Idle}
use Rattle.board.specs.Requests.{Cleared}
use Rattle.board.specs.Views.{view}
use Rattle.board.proofs.Progress.{progress_more, progress_all, parts_then}
use Rattle.board.proofs.parts.Board.open.Goals as goal

pub loop-t-preserved : goal.loop-t-preserved
loop-t-preserved g c = (
  λ d e.
      progress_more (λ _. Cleared g.R.Signature g.W.Signature Idle) c.loop-t.t (view c.args.self.now d e) (view c.loop-t.self d e) (view c.clear.new.self d e)
      c.loop-t-test.true (c.loop-t.invariant.0 d e) (c.clear.ensures.only d e) (c.clear.ensures.thread d e),
  parts_then c.args.self.now c.loop-t.self c.loop-t.invariant.1 c.clear.ensures.parts,
)

pub returns : goal.returns
returns g c =
    let b = c.args.self.now in
    let b' = c.loop-t.self in
    let walked = c.loop-t.invariant.0 in
    record {
      decides = λ d e. c.in_ok-check_parts.ensures.decides d e None;
      opened = λ d e. record {
        threads = progress_all (λ _. Cleared g.R.Signature g.W.Signature Idle) c.loop-t.t (view b d e) (view b' d e) c.loop-t-test.false (walked d e);
        memory = (walked d e).memory;
        shape = (walked d e).shape;
      };
      unaltered = tt;
      parts = c.loop-t.invariant.1;
    }
