-- The sets that the variables in force mean, where the evaluator holds them: a chain of bindings, innermost first.
--
-- Private contracts and proofs cite this.
--
--   given_of g        == the sets that the bindings g give, innermost binder first
use Rattle.std.specs.Prelude.{[], ◌∷◌}
use Rattle.ml_mu.specs.Meaning.{Given}
use Rattle.ml_mu.specs.declared.evaluator.Bindings.{Bindings}
use Rattle.ml_mu.specs.declared.evaluator.Bindings.TheVariants.{Nothing, Binding'}

abbrev pub given_of : Bindings → Given
given_of Nothing = []
given_of (Binding' variable set at outer) = (variable.now, set.now) ∷ given_of outer
