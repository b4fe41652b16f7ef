-- What an answer says of requirements and structures.
--
--   can_meet == a structure that meets requirements and a question shows that they can be met
use Rattle.std.proofs.Common.{ℕ, Bool, List, sym, subst}
use Rattle.ml_base.specs.Structure.{Structure}
use Rattle.ml_front.specs.Problems.{IsAdmitted}
use Rattle.ml_front.specs.declared.logic.Logic.{Logic}
use Rattle.ml_spec.specs.Questions.{IsQuestion}
use Rattle.ml_spec.specs.Specification.{IsSpecified}
use Rattle.ml_spec.specs.declared.question.Question.{Question}
use Rattle.ml_spec.specs.declared.specification.Item.{Item}
use Rattle.ml_replies.specs.Laws.{MetIsMet, NeededOnesAre, UnmetIsRefuted}
use Rattle.ml_replies.specs.Meeting.{CanMeet}
use Rattle.ml_replies.specs.Replies.{IsMet}
use Rattle.ml_replies.proofs.Chosen.{joined_in}

pub can_meet : (l : Logic) (xs : List Item) (S : ℕ → Bool) (q : Question) (m : Structure) (s : ℕ)
    → IsSpecified l xs
    → IsQuestion xs q
    → IsMet l xs S q m s
    → CanMeet l xs S q
can_meet l xs S q m s specified is met =
    (m, subst (λ k. IsAdmitted k m) (sym (joined_in l S xs specified q is)) met.is_admitted, (s, met.is_state, met.holds))

pub met_is_met : MetIsMet
met_is_met l xs n S q m s specified is shown = can_meet l xs S q m s specified is shown.1

pub unmet_is_refuted : UnmetIsRefuted
unmet_is_refuted l xs n S q c core = core.is_refuted.is_unsatisfiable

pub needed_ones_are : NeededOnesAre
needed_ones_are l xs n S q m s specified is shown = can_meet l xs S q m s specified is shown.1
