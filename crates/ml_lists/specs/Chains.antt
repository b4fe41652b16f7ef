-- Chains: lists of which each element is above the one before it.
--
--   Above R before x        == x is above the element before it, if there is one
--   Chain R before xs       == each of xs is above the one before it, the first above `before`
use Rattle.std.specs.Prelude.{◌≡◌, ⊤, List, [], ◌∷◌, Option, None, Some}
use Rattle.std.specs.declared.cmp.Ordering.{Ordering}
use Rattle.std.specs.declared.cmp.Ordering.TheVariants.{Less}

abbrev pub Above : {K : Type 0} → (K → K → Ordering) → Option K → K → Type 0
Above R None x = ⊤
Above R (Some b) x = R b x ≡ Less

abbrev pub Chain : {K : Type 0} → (K → K → Ordering) → Option K → List K → Type 0
Chain R before [] = ⊤
Chain R before (x ∷ xs) = Above R before x × Chain R (Some x) xs
