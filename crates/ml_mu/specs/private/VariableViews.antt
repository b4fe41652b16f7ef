-- How the program holds binders and the faults of variables.
--
--   scope_view s     == the binders around, innermost first
--   IsFaultOf e o    == the refusal e is the first fault o, with its place
use Rattle.std.specs.Prelude.{ℕ, ◌≡◌, List, [], ◌∷◌, Option, Some}
use Rattle.ml_base.specs.declared.parse_refusal.ParseRefusal.{ParseRefusal}
use Rattle.ml_base.specs.declared.parse_refusal.ParseRefusal.TheVariants as refusal
use Rattle.ml_mu.specs.VariableFaults as faults
use Rattle.ml_mu.specs.VariableFaults.{Around}
use Rattle.ml_mu.specs.declared.variables.Scope.{Scope}
use Rattle.ml_mu.specs.declared.variables.Scope.TheVariants as scope

abbrev pub IsFaultOf : ParseRefusal → Option (faults.Standing × ℕ) → Type 0
IsFaultOf (refusal.Unbound at) o = o ≡ Some (faults.Unbound, at)
IsFaultOf (refusal.NotPositive at) o = o ≡ Some (faults.NotPositive, at)
IsFaultOf _ o = ⊥

abbrev pub scope_view : Scope → List Around
scope_view scope.Outermost = []
scope_view (scope.Inside' name n i at outer) = record { name = name.now; negations = n; iffs = i } ∷ scope_view outer
