-- Definitions as the program holds them: those of one logic, looked up by their propositions.
--
--   logic_defined d   == the logic of the definitions d
--   definitions_in d  == the definitions in d, each proposition once, in the order in which they came
use Rattle.std.specs.Prelude.{ℕ, List, map}
use Rattle.ml_front.specs.Replaced.{Definition}
use Rattle.ml_front.specs.declared.logic.Logic.{Logic}
use Rattle.ml_front.specs.declared.logic.Logic.TheVariants as logic
use Rattle.ml_front.specs.declared.problem.AnyFormula.{AnyFormula}
use Rattle.ml_front.specs.declared.problem.AnyFormula.TheVariants as any
use Rattle.ml_front.specs.declared.replacing.Definitions.{Definitions}
use Rattle.ml_front.specs.declared.replacing.Definitions.TheVariants.{Mu, Pdl, Ctl, Ltl, Word}

abbrev pub logic_defined : Definitions → Logic
logic_defined (Mu table) = logic.Mu
logic_defined (Pdl table) = logic.Pdl
logic_defined (Ctl table) = logic.Ctl
logic_defined (Ltl table) = logic.Ltl
logic_defined (Word table) = logic.Word

-- entries as definitions of a logic
abbrev pub defined_by : {F : Type 0} → (F → AnyFormula) → List (List ℕ × F) → List Definition
defined_by of entries = map (λ e. (e.0, of e.1)) entries

abbrev pub definitions_in : Definitions → List Definition
definitions_in (Mu table) = defined_by any.Mu table.entries
definitions_in (Pdl table) = defined_by any.Pdl table.entries
definitions_in (Ctl table) = defined_by any.Ctl table.entries
definitions_in (Ltl table) = defined_by any.Ltl table.entries
definitions_in (Word table) = defined_by any.Word table.entries
