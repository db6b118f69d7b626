use Rattle.std.proofs.Common.{sym}
use Rattle.conflict.specs.Conflicts.{is_exclusive}
use Rattle.board.specs.Changes.{Answers}
use Rattle.board.specs.Views.{view}
use Rattle.board.proofs.Progress.{progress_more, all_asked, parts_then}
use Rattle.board.proofs.parts.Board.ask.Goals as goal

pub loop-u-preserved : goal.loop-u-preserved
loop-u-preserved g c = (
  λ d e.
      progress_more (Answers g.R.Signature g.W.Signature (is_exclusive c.args.request.access) c.args.request.from c.args.request.line) c.loop-u.u
      (view c.args.self.now d e) (view c.loop-u.self d e) (view c.affect.new.self d e)
      c.loop-u-test.true (c.loop-u.invariant.0 d e) (c.affect.ensures.only d e) (c.affect.ensures.thread d e),
  parts_then c.args.self.now c.loop-u.self c.loop-u.invariant.1 c.affect.ensures.parts,
)

pub returns : goal.returns
returns g c = (
  λ d e.
      all_asked g.R.Signature g.W.Signature (is_exclusive c.args.request.access) c.args.request.from c.args.request.line c.loop-u.u
      (view c.args.self.now d e) (view c.loop-u.self d e)
      c.loop-u-test.false (sym (c.in_default.ensures d e)) (c.loop-u.invariant.0 d e),
  c.loop-u.invariant.1,
)
