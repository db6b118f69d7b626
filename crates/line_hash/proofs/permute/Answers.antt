use Rattle.std.proofs.Common.{◌≡◌, subst, arith}
use Rattle.std.proofs.lemmas.Grind.{common_steps}
use Rattle.line_hash.specs.Hashes.{permuted}
use Rattle.line_hash.proofs.Permuting.{Awaits, none_yet, one_more}
use Rattle.line_hash.proofs.permute.Goals as goal

pub loop-bit-init : goal.loop-bit-init
loop-bit-init c =
    let table = c.args.table.now in
    let whole : table ≡ c.into_iter-bit-iterator.result.iter.rest.now = cc in
    subst (Awaits (permuted table c.args.line) c.args.line 0) whole
    (none_yet table c.args.line c.told-table (λ k d in'. grind (arith, common_steps, c.requires k)))

pub loop-bit-preserved : goal.loop-bit-preserved
loop-bit-preserved c =
    let whole = permuted c.args.table.now c.args.line in
    one_more whole c.args.line c.loop-bit.hash c.in-Some.bit.now c.next.new.self.iter.rest.now
    (subst (Awaits whole c.args.line c.loop-bit.hash) c.in-Some.ensures.steps c.loop-bit.invariant)
