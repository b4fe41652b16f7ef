-- Bound and positive variables: what makes a fixpoint formula meaningful.
--
-- A variable belongs to the innermost binder of its name around it. It is bound if there is one. It is positive if,
-- between that binder and itself, an even number of negations and no iff stands around it, where the left operand of
-- an implication counts as one negation: then the body grows with the set that the variable means, and iterates from
-- the empty set ascend. A variable without a binder is no matter of positivity.
--
--   is_bound xs f           == has every variable of f a binder around it, in f or among the names xs?
--   occurs_only sign x f    == does the free variable x occur in f under an even number of negations (sign true), or an
--                              odd one (sign false), and under no iff?
--   is_positive f           == does every binder of f bind its variable positively?
use Rattle.std.specs.Prelude.{ℕ, Bool, true, false, ◌&&◌, not, if◌then◌else◌, List, ◌∷◌}
use Rattle.std.specs.List.{list_any}
use Rattle.std.specs.Str.{bytes_eq}
use Rattle.ml_text.specs.declared.token.Operator.TheVariants.{Iff, Implies, Or, And}
use Rattle.ml_mu.specs.Formula.{Formula, Const, Prop, Var, Not, Binary, Modal, Binder}

abbrev pub is_bound : List (List ℕ) → Formula → Bool
is_bound xs (Const b) = true
is_bound xs (Prop p) = true
is_bound xs (Var x) = list_any (λ y. bytes_eq y x) xs
is_bound xs (Not f) = is_bound xs f
is_bound xs (Binary op f g) = is_bound xs f && is_bound xs g
is_bound xs (Modal m a f) = is_bound xs f
is_bound xs (Binder q x f) = is_bound (x ∷ xs) f

abbrev pub occurs_only : Bool → List ℕ → Formula → Bool
occurs_only sign x (Const b) = true
occurs_only sign x (Prop p) = true
occurs_only sign x (Var y) = if bytes_eq x y then sign else true
occurs_only sign x (Not f) = occurs_only (not sign) x f
occurs_only sign x (Binary And f g) = occurs_only sign x f && occurs_only sign x g
occurs_only sign x (Binary Or f g) = occurs_only sign x f && occurs_only sign x g
occurs_only sign x (Binary Implies f g) = occurs_only (not sign) x f && occurs_only sign x g
-- under an iff x must not occur at all: neither under an even number of negations nor under an odd one
occurs_only sign x (Binary Iff f g) =
    (occurs_only true x f && occurs_only false x f) && (occurs_only true x g && occurs_only false x g)
occurs_only sign x (Modal m a f) = occurs_only sign x f
occurs_only sign x (Binder q y f) = if bytes_eq x y then true else occurs_only sign x f

abbrev pub is_positive : Formula → Bool
is_positive (Const b) = true
is_positive (Prop p) = true
is_positive (Var x) = true
is_positive (Not f) = is_positive f
is_positive (Binary op f g) = is_positive f && is_positive g
is_positive (Modal m a f) = is_positive f
is_positive (Binder q x f) = occurs_only true x f && is_positive f
