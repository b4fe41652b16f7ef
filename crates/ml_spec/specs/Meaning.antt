-- What the statements of a text mean, with definitions and bounded operators written out.
--
-- A formula means what it is written out to, by the definitions that stand before it. An enumeration is a requirement: at each
-- moment exactly one of its propositions is true.
--
--   formula_of l ds s     == the formula that s means by the definitions ds, if it has one
--   item_with k n f       == the item of the kind k with the name n and the formula f, if there is one
--   items_of l ds s       == the item of the specification that s says, if it is one
--   items_from l k ss     == the items that the statements ss are, where k is known in front of them
--   items_meant l ss      == those of a whole text
--   IsLarge l ds s        == by the definitions ds the formula that s means has more occurrences than it may have
--   HasLarge l ss at      == so has one of the statements ss, which begins there
use Rattle.std.specs.Prelude.{ℕ, ◌≡◌, ◌<◌, List, [], ◌∷◌, ◌++◌, Option, Some, None}
use Rattle.ml_text.specs.Limits.{most_occurrences}
use Rattle.ml_front.specs.Connectives.{occurrences}
use Rattle.ml_front.specs.Enumerations.{enumeration}
use Rattle.ml_front.specs.Replaced.{Definition, replaced}
use Rattle.ml_front.specs.declared.logic.Logic.{Logic}
use Rattle.ml_front.specs.declared.problem.AnyFormula.{AnyFormula}
use Rattle.ml_spec.specs.Known.{known, known_behind, nothing, Known}
use Rattle.ml_spec.specs.Statements.{value_names, Saying, Statement}
use Rattle.ml_spec.specs.Statements as says
use Rattle.ml_spec.specs.declared.kind.Kind.{Kind}
use Rattle.ml_spec.specs.declared.kind.Kind.TheVariants.{Require}
use Rattle.ml_spec.specs.declared.specification.Item.{Item}
use Rattle.ml_written.specs.Written.{meaning}

abbrev pub formula_of : Logic → List Definition → Saying → Option AnyFormula
formula_of l ds says.Repeated = None
formula_of l ds (says.Signals ps) = None
formula_of l ds (says.Enumeration m vs) = enumeration l (value_names m vs)
formula_of l ds (says.Definition p w) = Some (replaced ds (meaning w))
formula_of l ds (says.Stated k n w) = Some (replaced ds (meaning w))

-- ---- the items of the specification

abbrev pub item_with : Kind → List ℕ → Option AnyFormula → List Item
item_with k n None = []
item_with k n (Some f) = record { kind = k; name = n; formula = f } ∷ []

abbrev pub items_of : Logic → List Definition → Saying → List Item
items_of l ds says.Repeated = []
items_of l ds (says.Signals ps) = []
items_of l ds (says.Enumeration m vs) = item_with Require m (formula_of l ds (says.Enumeration m vs))
items_of l ds (says.Definition p w) = []
items_of l ds (says.Stated k n w) = item_with k n (formula_of l ds (says.Stated k n w))

abbrev pub items_from : Logic → Known → List Statement → List Item
items_from l k [] = []
items_from l k (s ∷ ss) = items_of l k.definitions s.says ++ items_from l (known_behind k s.says) ss

abbrev pub items_meant : Logic → List Statement → List Item
items_meant l ss = items_from l nothing ss

-- ---- formulas that are too large

pub record IsLarge (l : Logic) (ds : List Definition) (s : Saying) : Type 0 where
  pub formula : AnyFormula
  pub means : formula_of l ds s ≡ Some formula
  pub is_large : most_occurrences < occurrences formula

pub record HasLarge (l : Logic) (ss : List Statement) (at : ℕ) : Type 0 where
  pub before : List Statement
  pub statement : Statement
  pub after : List Statement
  pub are_statements : ss ≡ before ++ statement ∷ after
  pub is_large : IsLarge l (known before).definitions statement.says
  pub is_at : at ≡ statement.at
