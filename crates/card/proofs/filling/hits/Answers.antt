use Rattle.std.proofs.Common.{arith, rules, tests}
use Rattle.std.proofs.lemmas.Iterator.{YieldsList-from_range, items_from_collect}
use Rattle.std.proofs.lemmas.Iterator.Consumers.{YieldsList-from_filter}
use Rattle.card.specs.Fills.{hitting}
use Rattle.card.proofs.filling.hits.Goals as goal

pub returns : goal.returns
unfolding hitting
returns g c =
    items_from_collect c.collect.result c.collect.ensures.ran (YieldsList-from_filter _ (g.S.Signature.has c.args.signature.now) (YieldsList-from_range 0 64 64 (cc) (omega arith)) c.filter.ensures.closure (λ x b q k. search (rules, tests)))
