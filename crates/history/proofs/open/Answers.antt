use Rattle.std.proofs.lemmas.Result.{IfOk-weaker}
use Rattle.board.specs.Rules.{Opened}
use Rattle.board.specs.Views.{view}
use Rattle.history.specs.Law.{SerialOrder}
use Rattle.history.proofs.Order.{serial_order}
use Rattle.history.proofs.open.Goals as goal

pub returns : goal.returns
returns g c =
    let b = c.args.board.now in
    let b' = c.open.new.self in
    record {
      opens = c.open.ensures;
      serial = IfOk-weaker c.open.result
          (λ _. (d : g.row.R.Denot) (e : g.row.W.Denot) → Opened g.R.Signature g.W.Signature (view b d e) (view b' d e))
          (λ _. (d : g.row.R.Denot) (e : g.row.W.Denot) → SerialOrder g.R.Signature g.W.Signature (view b' d e))
          (λ _ o d e. serial_order g.R.Signature g.W.Signature (view b d e) (view b' d e) (o d e)) c.open.ensures.opened;
    }
