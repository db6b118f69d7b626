use Rattle.std.proofs.Common.{◌≡◌, sum_by, ◌∙◌, arith, rules, tests}
use Rattle.std.proofs.iter.runs.Made.{chains}
use Rattle.std.proofs.lemmas.Iterator.{YieldsList-from_slice}
use Rattle.std.proofs.lemmas.Iterator.Adapters.{at_most_from_yields_List, fits_from_length}
use Rattle.register.specs.Packed.{word_ones}
use Rattle.register.proofs.OnesLaws.{words_counted}
use Rattle.register.proofs.Register.ones.Goals as goal

pub sum-requires-clause-fits : goal.sum-requires-clause-fits
sum-requires-clause-fits g c =
    fits_from_length _ _ 1024 _ (at_most_from_yields_List (YieldsList-from_slice c.args.self.now.words cc) (omega arith)) c.map.ensures.closure (omega arith) (λ x r q k. search (rules, tests))

pub returns : goal.returns
returns g c =
    let words = c.args.self.now.words in
    let by_word : c.sum.result ≡ sum_by word_ones words = search (rules, chains) in
    by_word ∙ words_counted words g.row.WORDS (omega arith)
