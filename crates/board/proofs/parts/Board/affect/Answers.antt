use Rattle.conflict.specs.Conflicts.{is_exclusive}
use Rattle.board.proofs.Effects.{repeatable}
use Rattle.board.proofs.parts.Board.affect.Goals as goal

pub rewind-requires-clause-repeatable : goal.rewind-requires-clause-repeatable
rewind-requires-clause-repeatable g c =
    repeatable g.R.Signature g.W.Signature (is_exclusive c.args.request.access) c.args.request.from c.args.request.line c.args.u c.args.self.now c.requires c.in-Repeats.ensures
