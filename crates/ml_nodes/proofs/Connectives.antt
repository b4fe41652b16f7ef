-- How long the lists of a connective are.
--
--   length-operator, length-operator_priorities == two for each occurrence
--   length-parts == of two parts behind one another, where each part has two for each of its occurrences
use Rattle.std.proofs.Common.{◌≡◌, ℕ, ◌+◌, ◌*◌, List, ◌++◌, length, length-append, refl, arith}
use Rattle.ml_text.specs.Operators.{weight}
use Rattle.ml_text.specs.declared.token.Operator.{Operator}
use Rattle.ml_text.specs.declared.token.Operator.TheVariants as operator
use Rattle.ml_nodes.specs.private.Connectives.{operator_nodes, operator_priorities}

pub length-operator : (op : Operator) (i l r : ℕ) → length (operator_nodes op i l r) ≡ 2 * weight op
length-operator operator.And i l r = refl
length-operator operator.Or i l r = refl
length-operator operator.Implies i l r = refl
length-operator operator.Iff i l r = refl

pub length-operator_priorities : (op : Operator) (k : ℕ) → length (operator_priorities op k) ≡ 2 * weight op
length-operator_priorities operator.And k = refl
length-operator_priorities operator.Or k = refl
length-operator_priorities operator.Implies k = refl
length-operator_priorities operator.Iff k = refl

pub length-parts : {A : Type 0} (xs ys : List A) (m n : ℕ)
    → length xs ≡ 2 * m
    → length ys ≡ 2 * n
    → length (xs ++ ys) ≡ 2 * (m + n)
length-parts xs ys m n left right = omega (arith, length-append xs ys, left, right)
