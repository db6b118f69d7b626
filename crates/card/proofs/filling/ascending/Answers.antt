use Rattle.std.proofs.Common.{arith, rules, tests}
use Rattle.std.proofs.lemmas.Iterator.{YieldsList-from_range, items_from_collect}
use Rattle.std.proofs.lemmas.Iterator.Consumers.{YieldsList-from_filter}
use Rattle.signature.specs.Members.{among}
use Rattle.card.specs.Fills.{ascending_of}
use Rattle.card.proofs.filling.ascending.Goals as goal

pub returns : goal.returns
unfolding ascending_of
returns c =
    items_from_collect c.collect.result c.collect.ensures.ran (YieldsList-from_filter _ (λ n. among n c.args.numbers.now) (YieldsList-from_range 0 c.args.end c.args.end (cc) (omega arith)) c.filter.ensures.closure (λ x b q k. search (rules, tests)))
