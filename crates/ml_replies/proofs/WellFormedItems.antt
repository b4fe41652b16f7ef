-- The formulas of a specification are well formed.
--
--   items_well == so is the formula of each of its items
use Rattle.std.proofs.Common.{ℕ, List}
use Rattle.ml_front.specs.declared.logic.Logic.{Logic}
use Rattle.ml_spec.specs.Specification.{IsSpecification}
use Rattle.ml_spec.specs.declared.specification.Item.{Item}
use Rattle.ml_spec.proofs.SpecifiedItems.{specified}
use Rattle.ml_replies.specs.Meeting.{AreWellFormed}

pub items_well : (text : List ℕ) (l : Logic) (xs : List Item) → IsSpecification text l xs → AreWellFormed xs
items_well text l xs is = (specified text l xs is).are_well_formed
