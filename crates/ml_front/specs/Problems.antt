-- Problems: what is asked of a formula of any logic, and when the answer is yes.
--
-- A problem is a formula with a sense. That it holds at a state is a proposition and no test: in some logics it speaks of
-- infinitely many paths and can't be computed from its definition. Each logic says of which structures it speaks, and what
-- the negated sense is: in LTL a negated problem asks for a path that satisfies the negation, and isn't the complement of
-- the plain one; on words it is, since there is one path.
--
--   IsAdmitted l m   == the logic l speaks of the structure m: the mu-calculus and PDL of every structure, CTL* and LTL of
--                       those in which each state has an edge by the action `_`, and LTL on words of those in which each
--                       state has exactly one
--   IsDeadlock m s   == no edge by the action `_` leads from the state s
--   IsFirstDeadlock l m s == in CTL* and LTL, which speak of no structure with a deadlock, s is the first of m: never in the
--                       other logics
--   IsFirstFork l m s == in LTL on words s is the first state of m that hasn't exactly one edge by `_`: never in the other
--                       logics
--   HoldsAt m s p    == the problem p holds at the state s of the structure m
--   IsSatisfiable p  == some admitted structure, of any number of states, has a state at which p holds
use Rattle.std.specs.Prelude.{ℕ, ◌≡◌, ◌<◌, Bool, false}
use Rattle.ml_base.specs.Structure.{Structure, IsStructure}
use Rattle.ml_ctl.specs.Paths.{has_step}
use Rattle.ml_ctl.specs.Problem as ctl
use Rattle.ml_lists.specs.Search.{IsFirst}
use Rattle.ml_ltl.specs.Problem as ltl
use Rattle.ml_mu.specs.Problem as mu
use Rattle.ml_pdl.specs.Problem as pdl
use Rattle.ml_word_graph.specs.Problem as word
use Rattle.ml_front.specs.Logics.{logic_of}
use Rattle.ml_front.specs.declared.logic.Logic.{Logic}
use Rattle.ml_front.specs.declared.logic.Logic.TheVariants as logic
use Rattle.ml_front.specs.declared.problem.AnyFormula.{AnyFormula}
use Rattle.ml_front.specs.declared.problem.AnyFormula.TheVariants.{Mu, Pdl, Ctl, Ltl, Word}
use Rattle.ml_front.specs.declared.problem.Problem.{Problem}

abbrev pub IsAdmitted : Logic → Structure → Type 0
IsAdmitted logic.Mu m = IsStructure m
IsAdmitted logic.Pdl m = IsStructure m
IsAdmitted logic.Ctl m = ctl.IsAdmitted m
IsAdmitted logic.Ltl m = ctl.IsAdmitted m
IsAdmitted logic.Word m = word.IsAdmitted m

abbrev pub IsDeadlock : Structure → ℕ → Type 0
IsDeadlock m s = (t : ℕ) → has_step m s t ≡ false

abbrev pub IsFirstDeadlock : Logic → Structure → ℕ → Type 0
IsFirstDeadlock logic.Ctl m s = IsFirst (IsDeadlock m) m.states s
IsFirstDeadlock logic.Ltl m s = IsFirst (IsDeadlock m) m.states s
IsFirstDeadlock _ m s = ⊥

abbrev pub IsFirstFork : Logic → Structure → ℕ → Type 0
IsFirstFork logic.Word m s = IsFirst (word.IsFork m) m.states s
IsFirstFork l m s = ⊥

-- a formula, in its sense
abbrev pub HoldsAs : Structure → ℕ → Bool → AnyFormula → Type 0
HoldsAs m s negated (Mu f) = mu.HoldsAt m s f negated
HoldsAs m s negated (Pdl f) = pdl.HoldsAt m s f negated
HoldsAs m s negated (Ctl f) = ctl.HoldsAt m s f negated
HoldsAs m s negated (Ltl f) = ltl.HoldsAt m s f negated
HoldsAs m s negated (Word f) = word.HoldsAt m s f negated

abbrev pub HoldsAt : Structure → ℕ → Problem → Type 0
HoldsAt m s p = HoldsAs m s p.negated p.formula

abbrev pub IsSatisfiable : Problem → Type 0
IsSatisfiable p = (m : Structure) × IsAdmitted (logic_of p.formula) m × ((s : ℕ) × (s < m.states) × HoldsAt m s p)
