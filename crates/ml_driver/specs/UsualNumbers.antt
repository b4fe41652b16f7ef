-- The numbers of commands that words ask for.
--
--   HasUsualNumbers c == the limit of the command c, where it has one, isn't 0, and the number, where it has one, is one of
--                        its family's range
use Rattle.std.specs.Prelude.{◌≡◌, ◌≤◌, true}
use Rattle.ml_gen.specs.FamilyRanges.{is_in_range}
use Rattle.ml_driver.specs.declared.command.Command.{Command}
use Rattle.ml_driver.specs.declared.command.Command.TheVariants.{Decide, Valid, Find, Prove, Determinise, Realize, Make, Ask, Gen, Bench}

abbrev pub HasUsualNumbers : Command → Type 0
HasUsualNumbers (Decide l n) = 1 ≤ n
HasUsualNumbers (Valid l n) = 1 ≤ n
HasUsualNumbers (Find l n) = 1 ≤ n
HasUsualNumbers (Prove l n) = 1 ≤ n
HasUsualNumbers (Determinise n) = 1 ≤ n
HasUsualNumbers (Realize n) = 1 ≤ n
HasUsualNumbers (Make n) = 1 ≤ n
HasUsualNumbers (Ask f n) = 1 ≤ n
HasUsualNumbers (Gen f n) = is_in_range f n ≡ true
HasUsualNumbers (Bench f n) = is_in_range f n ≡ true
HasUsualNumbers _ = Unit {0}
