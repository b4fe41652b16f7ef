-- Why a logic doesn't speak of a structure.
--
--   IsUnfit l m x  == x is the first deadlock or fork of m, and the logic l allows none
use Rattle.ml_base.specs.Structure.{Structure}
use Rattle.ml_front.specs.Problems.{IsFirstDeadlock, IsFirstFork}
use Rattle.ml_front.specs.declared.logic.Logic.{Logic}
use Rattle.ml_path_text.specs.declared.admitted.Unfit.{Unfit}
use Rattle.ml_path_text.specs.declared.admitted.Unfit.TheVariants.{Deadlock, Fork}

abbrev pub IsUnfit : Logic → Structure → Unfit → Type 0
IsUnfit l m (Deadlock s) = IsFirstDeadlock l m s
IsUnfit l m (Fork s) = IsFirstFork l m s
