use mathlib.Core.Bool.{or-false, or_assoc}
use Rattle.register.specs.Packed.{bits_of, Sets}
use Rattle.register.proofs.PackedLaws.{bits_below, adds_set, keeps_set}
use Rattle.register.proofs.RegisterSignature.insert.Goals as goal

pub returns : goal.returns
returns g c =
    let w = g.row.WORDS in
    let line = c.args.line in
    let before = c.args.self.now.words in
    let after = c.mark-4.new.self.words in
    let sets : Sets w before (bits_of w line) after = λ k h. simp (c.mark-4.ensures k h, c.mark-3.ensures k h, c.mark-2.ensures k h, c.mark.ensures k h, c.second.ensures, c.third.ensures, c.fourth.ensures, or_assoc, or-false) in
    let some = c.args.self.now.some in
    record {
      leaves = sets;
      adds = adds_set w before (bits_of w line) after sets (bits_below w line some);
      keeps = λ other. keeps_set w before (bits_of w line) after sets (bits_of w other) (bits_below w other some);
    }
