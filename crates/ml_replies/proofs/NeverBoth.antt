-- No question is answered by a structure and by a conflict.
use Rattle.ml_spec.specs.Questions.{is_in}
use Rattle.ml_replies.specs.Laws.{NeverBoth}
use Rattle.ml_replies.proofs.FewerRequirements.{fewer_met}
use Rattle.ml_replies.proofs.RightAnswers.{met_is_met, unmet_is_refuted}

pub never_both : NeverBoth
never_both l xs q n k S m s c specified is met unmet =
    unmet_is_refuted l xs k S q c unmet
    (fewer_met l xs q S (is_in c.taken) specified is unmet.are_among (met_is_met l xs n S q m s specified is met))
