-- Free variables of a formula are bound around it.
--
--   free_bound == a variable that occurs free in a formula has a binder around, where every variable has one
use Rattle.std.proofs.Common.{◌≡◌, ℕ, Bool, true, false, ◌||◌, not, List, ◌∷◌, inl, inr, sym, ap, subst, ◌∙◌}
use Rattle.std.specs.List.{list_any}
use Rattle.std.specs.Str.{bytes_eq}
use Rattle.std.proofs.lemmas.Bool.{and_parts}
use Rattle.ml_text.specs.declared.token.Operator.TheVariants as operator
use Rattle.ml_mu.specs.Formula.{Formula, Const, Prop, Var, Not, Binary, Modal, Binder}
use Rattle.ml_mu.specs.Variables.{is_bound}
use Rattle.ml_mu_graph.proofs.Told.{FreeAt}

pub free_bound : (f : Formula) (xs : List (List ℕ)) (e : Bool) (y : List ℕ) (c : Bool) → is_bound xs f ≡ true → FreeAt f e y c
    → list_any (λ z. bytes_eq z y) xs ≡ true
free_bound (Const b) xs e y c bound h = absurd h
free_bound (Prop p) xs e y c bound h = absurd h
free_bound (Var x) xs e y c bound h = subst (λ z. list_any (λ a. bytes_eq a z) xs ≡ true) h.0 bound
free_bound (Not f) xs e y c bound h = free_bound f xs (not e) y c bound h
free_bound (Binary operator.And f g) xs e y c bound (inl h) = free_bound f xs e y c (and_parts (is_bound xs f) (is_bound xs g) bound).0 h
free_bound (Binary operator.And f g) xs e y c bound (inr h) = free_bound g xs e y c (and_parts (is_bound xs f) (is_bound xs g) bound).1 h
free_bound (Binary operator.Or f g) xs e y c bound (inl h) = free_bound f xs e y c (and_parts (is_bound xs f) (is_bound xs g) bound).0 h
free_bound (Binary operator.Or f g) xs e y c bound (inr h) = free_bound g xs e y c (and_parts (is_bound xs f) (is_bound xs g) bound).1 h
free_bound (Binary operator.Implies f g) xs e y c bound (inl h) = free_bound f xs (not e) y c (and_parts (is_bound xs f) (is_bound xs g) bound).0 h
free_bound (Binary operator.Implies f g) xs e y c bound (inr h) = free_bound g xs e y c (and_parts (is_bound xs f) (is_bound xs g) bound).1 h
free_bound (Binary operator.Iff f g) xs e y c bound (inl (inl h)) = free_bound f xs true y c (and_parts (is_bound xs f) (is_bound xs g) bound).0 h
free_bound (Binary operator.Iff f g) xs e y c bound (inl (inr h)) = free_bound f xs false y c (and_parts (is_bound xs f) (is_bound xs g) bound).0 h
free_bound (Binary operator.Iff f g) xs e y c bound (inr (inl h)) = free_bound g xs true y c (and_parts (is_bound xs f) (is_bound xs g) bound).1 h
free_bound (Binary operator.Iff f g) xs e y c bound (inr (inr h)) = free_bound g xs false y c (and_parts (is_bound xs f) (is_bound xs g) bound).1 h
free_bound (Modal m a f) xs e y c bound h = free_bound f xs e y c bound h
free_bound (Binder q x f) xs e y c bound h =
    sym (ap (λ d. d || list_any (λ z. bytes_eq z y) xs) h.0) ∙ free_bound f (x ∷ xs) e y c bound h.1
