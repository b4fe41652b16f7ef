-- What is found of a machine or an environment says one thing at most.
--
--   not_right == what a word breaks isn't right
--   one_check == so nothing is found to hold and to fail
use Rattle.ml_machine_check.specs.Laws.{BrokenIsNotRight, OneCheck}
use Rattle.ml_machine_check.specs.declared.found.MachineVerdict.TheVariants.{ClosureTooLarge, Fails, Holds}
use Rattle.ml_synthesis.specs.declared.outcome.Outcome.TheVariants as outcome

pub not_right : BrokenIsNotRight
not_right t (outcome.Made m) w breaks right = breaks.satisfies (right.satisfies w breaks.is_word)
not_right t (outcome.Defeated e) w breaks right = right.excludes w breaks.is_word breaks.satisfies

pub one_check : OneCheck
one_check t r Holds Holds a b = tt
one_check t r Holds (Fails x) a b = absurd (not_right t r x b.1 a.1)
one_check t r Holds ClosureTooLarge a b = absurd (a.0 b)
one_check t r (Fails x) Holds a b = absurd (not_right t r x a.1 b.1)
one_check t r (Fails x) (Fails y) a b = tt
one_check t r (Fails x) ClosureTooLarge a b = absurd (a.0 b)
one_check t r ClosureTooLarge Holds a b = absurd (b.0 a)
one_check t r ClosureTooLarge (Fails x) a b = absurd (b.0 a)
one_check t r ClosureTooLarge ClosureTooLarge a b = tt
