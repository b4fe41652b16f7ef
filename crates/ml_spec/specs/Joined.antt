-- The formulas of requirements, and of a question.
--
--   requirements xs  == the formulas of the requirements among the items xs, in their order
--   asked x          == what a question asks for: its formula, and for `follows` the negation of it
use Rattle.std.specs.Prelude.{List, filter, map}
use Rattle.ml_front.specs.Connectives.{negation}
use Rattle.ml_front.specs.declared.problem.AnyFormula.{AnyFormula}
use Rattle.ml_spec.specs.Kinds.{is_requirement}
use Rattle.ml_spec.specs.declared.kind.Kind.{Kind}
use Rattle.ml_spec.specs.declared.kind.Kind.TheVariants as kind
use Rattle.ml_spec.specs.declared.specification.Item.{Item}

abbrev pub requirements : List Item → List AnyFormula
requirements xs = map (λ x. x.formula) (filter (λ x. is_requirement x.kind) xs)

abbrev pub asked_as : Kind → AnyFormula → AnyFormula
asked_as kind.Follows f = negation f
asked_as k f = f

abbrev pub asked : Item → AnyFormula
asked x = asked_as x.kind x.formula
