-- What stands behind each first word of a command.
--
--   shape_of v   == the shape of the commands that begin with v
--   further_in x == what stands behind the first word of a command of the shape x
use Rattle.ml_driver.specs.declared.command.Command.TheVariants.{Decide, Valid, Find, Prove, CheckModel, CheckRefutation, Migrate, Quotient, SolveGame, CheckGame, Path, Show, CheckMachine, Determinise, Automaton, Realize, Make, Ask, CheckAnswers, Gen, Bench}
use Rattle.ml_driver.specs.declared.table.Further.{Further}
use Rattle.ml_driver.specs.declared.table.Further.TheVariants.{Engine, Family, Files, Limit, Logic, Nothing}
use Rattle.ml_driver.specs.declared.table.Verb.{Verb}
use Rattle.ml_driver.specs.declared.table.Verb.TheVariants as verb
use Rattle.ml_driver.specs.Words.{Shape, about_logic, alone, by_engine, limited, of_family, with_files}

abbrev pub shape_of : Verb → Shape
shape_of verb.Find = about_logic Find
shape_of verb.Prove = about_logic Prove
shape_of verb.Decide = about_logic Decide
shape_of verb.Valid = about_logic Valid
shape_of verb.Ask = with_files Ask
shape_of verb.CheckAnswers = alone CheckAnswers
shape_of verb.CheckModel = alone CheckModel
shape_of verb.CheckRefutation = alone CheckRefutation
shape_of verb.Path = alone Path
shape_of verb.Show = alone Show
shape_of verb.Migrate = alone Migrate
shape_of verb.Quotient = alone Quotient
shape_of verb.SolveGame = by_engine SolveGame
shape_of verb.CheckGame = alone CheckGame
shape_of verb.Determinise = limited Determinise
shape_of verb.Automaton = limited Automaton
shape_of verb.Make = limited Make
shape_of verb.Realize = limited Realize
shape_of verb.CheckMachine = alone CheckMachine
shape_of verb.Gen = of_family Gen
shape_of verb.Bench = of_family Bench

abbrev pub further_in : Shape → Further
further_in (alone c) = Nothing
further_in (limited c) = Limit
further_in (about_logic c) = Logic
further_in (with_files c) = Files
further_in (by_engine c) = Engine
further_in (of_family c) = Family
