use Rattle.std.proofs.Common.{get_or, take, sym, subst, arith}
use Rattle.std.proofs.lemmas.Fn.{FoldsTo-push}
use Rattle.std.proofs.lemmas.List.{take_more}
use Rattle.signature.specs.Meaning.{Inserted}
use Rattle.card.specs.Fills.{Filled}
use Rattle.card.proofs.filling.fill.Goals as goal

pub loop-line-preserved : goal.loop-line-preserved
loop-line-preserved g c =
    let has = g.S.Signature.has in
    let inserts = g.S.Signature.inserts in
    let lines = c.args.lines.now in
    let i = c.loop-line.line-index in
    subst (λ told. Filled has inserts c.args.signature.now told c.insert.new.self) (sym (take_more lines i 0 (omega arith)))
    (FoldsTo-push (Inserted has inserts) _ (take i lines) c.loop-line.signature (get_or lines i 0) _ c.loop-line.invariant c.insert.ensures)
