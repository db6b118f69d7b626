use Rattle.std.proofs.Common.{sym, ◌∙◌}
use Rattle.board.specs.Requests.{nacker}
use Rattle.board.proofs.Firsts.{first_more, first_all}
use Rattle.board.proofs.parts.Board.find_nacker.Goals as goal

pub loop-u-preserved : goal.loop-u-preserved
loop-u-preserved g c d e = c.loop-u.invariant d e ∙ first_more _ _ _ c.loop-u-test.true ∙ rw (← c.if-nacks_at.ensures d e)

pub returns-then-nacks_at : goal.returns-then-nacks_at
unfolding nacker
returns-then-nacks_at g c d e = sym (c.loop-u.invariant d e ∙ first_more _ _ _ c.loop-u-test.true ∙ rw (← c.if-nacks_at.ensures d e))

pub returns : goal.returns
unfolding nacker
returns g c d e = sym (c.loop-u.invariant d e ∙ first_all _ _ _ c.loop-u-test.false)
