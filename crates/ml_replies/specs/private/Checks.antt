-- What is known while a structure is checked. Private contracts and proofs cite this.
--
--   OneAs p m s r    == r says whether the problem p holds at the state s of m, or that its closure is too large
--   EachAs ps m s r  == r says whether all of the problems ps hold there, whose closures are small; or that some small one
--                       fails; or that not all are small, and of those that are none fails
--   SoFarAs ps m s r == so it says, and none failed so far
--   JoinedAs p m s r == r says whether p holds there, or that p isn't held or not small
use Rattle.std.specs.Prelude.{ℕ, List, Contains}
use Rattle.std.specs.List.{AllByRecursion}
use Rattle.ml_base.specs.Structure.{Structure}
use Rattle.ml_front.specs.Graphs.{HasLargeClosure}
use Rattle.ml_front.specs.Problems.{HoldsAt}
use Rattle.ml_front.specs.declared.problem.Problem.{Problem}
use Rattle.ml_front.specs.declared.problem.TheConstants.{MOST_NODES}
use Rattle.ml_replies.specs.Meeting.{IsHeld, IsSmall}
use Rattle.ml_replies.specs.declared.outcome.Meets.{Meets}
use Rattle.ml_replies.specs.declared.outcome.Meets.TheVariants.{Yes, No, Unknown}

abbrev pub OneAs : Problem → Structure → ℕ → Meets → Type 0
OneAs p m s Yes = IsSmall p × HoldsAt m s p
OneAs p m s No = IsSmall p × (¬ (HoldsAt m s p))
OneAs p m s Unknown = HasLargeClosure p MOST_NODES

abbrev pub HoldsIfSmall : Structure → ℕ → Problem → Type 0
HoldsIfSmall m s p = IsSmall p → HoldsAt m s p

abbrev pub EachAs : List Problem → Structure → ℕ → Meets → Type 0
EachAs ps m s Yes = AllByRecursion IsSmall ps × AllByRecursion (HoldsAt m s) ps
EachAs ps m s No = (p : Problem) × Contains ps p × IsSmall p × (¬ (HoldsAt m s p))
EachAs ps m s Unknown = (¬ (AllByRecursion IsSmall ps)) × AllByRecursion (HoldsIfSmall m s) ps

abbrev pub SoFarAs : List Problem → Structure → ℕ → Meets → Type 0
SoFarAs ps m s Yes = AllByRecursion IsSmall ps × AllByRecursion (HoldsAt m s) ps
SoFarAs ps m s No = ⊥
SoFarAs ps m s Unknown = (¬ (AllByRecursion IsSmall ps)) × AllByRecursion (HoldsIfSmall m s) ps

abbrev pub JoinedAs : Problem → Structure → ℕ → Meets → Type 0
JoinedAs p m s Yes = IsHeld p × IsSmall p × HoldsAt m s p
JoinedAs p m s No = IsHeld p × IsSmall p × (¬ (HoldsAt m s p))
JoinedAs p m s Unknown = ¬ (IsHeld p × IsSmall p)
