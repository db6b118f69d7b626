use Rattle.std.proofs.Common.{◌≡◌, ◌+◌, ◌-◌, ◌*◌, length, take, drop, set, refl, ap, ◌∙◌, arith, length-drop, length-set, length-take}
use Rattle.board.specs.Views.{part}
use Rattle.board.proofs.Areas.{part_own, part_other, area_length}
use Rattle.board.proofs.parts.Board.store_entry.Goals as goal

pub returns : goal.returns
returns g c =
    let xs = c.args.self.now.entries.now in
    let ys = c.put.new.area in
    let t = c.args.t in
    let whole : (32 * t + 32) - 32 * t ≡ 32 = omega arith in
    let put : ys ≡ set (part t xs) c.args.place c.args.entry = c.put.ensures ∙ ap (λ n. set (take n (drop (32 * t) xs)) c.args.place c.args.entry) whole in
    let long : length ys ≡ 32 = ap length put ∙ simp (length-set, length-take, length-drop) (omega arith) in
    record {
      words = refl;
      records = refl;
      stored = part_own xs ys t c.requires long ∙ put;
      others = part_other xs ys t c.requires long;
      reads = refl;
      writes = refl;
      parts = record {
        words = refl;
        records = refl;
        entries = refl;
        reads = refl;
        writes = refl;
        words_long = refl;
        records_long = refl;
        entries_long = area_length xs ys t c.requires long;
        reads_long = refl;
        writes_long = refl;
      };
    }
