use Rattle.ml_replies.proofs.RightAnswers.{met_is_met, needed_ones_are, unmet_is_refuted}
use Rattle.ml_replies.proofs.laws.answers_are_right.Goals as goal

pub returns : goal.returns
returns c = record { met = met_is_met; unmet = unmet_is_refuted; needed = needed_ones_are }
