use Rattle.ml_history.specs.HistoryOrder.{history_eq, history_eq_equiv, history_eq-same}
use Rattle.ml_lists.proofs.Added.{added}
use Rattle.ml_determinise.proofs.moves.add.Goals as goal

pub returns : goal.returns
returns c =
    added history_eq history_eq-same history_eq_equiv.refl c.args.histories.now.keys c.insert_full.new.self.keys
    c.args.history c.in_ok-number.number c.in_ok-number.ensures.keys c.in_ok-number.ensures.stored
