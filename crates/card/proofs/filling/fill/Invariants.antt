use Rattle.std.proofs.Common.{take}
use Rattle.card.specs.Fills.{Filled}
use Rattle.card.proofs.filling.fill.Given as goal

-- the lines so far were inserted
abbrev pub invariant-loop-line : goal.invariant-loop-line
invariant-loop-line g l =
    Filled g.S.Signature.has g.S.Signature.inserts l.initial.signature (take l.line-index l.lines) l.signature
