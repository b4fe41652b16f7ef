-- Stacks renumbered by a function that keeps the order of their names.
--
--   KeepsOrder f s      == f takes different names of s, in their order, to numbers in the same order
--   renumber-ascends    == a stack that ascends, renumbered, ascends
--   renumber-not_empty  == a stack that is not empty, renumbered, is not
--   renumber-up_to      == a renumbered stack up to the number of a name is the stack up to this name, renumbered
use Rattle.std.proofs.Common.{ℕ, ◌≡◌, ◌≢◌, ◌<◌, ◌⊎◌, inl, inr, arith, true, false, eqb, List, [], ◌∷◌, map, refl, sym, ap, ◌∙◌}
use Rattle.std.proofs.lemmas.Bool.{cases_Bool, cases_order, eqb-true, eq-eqb, ne_eqb}
use Rattle.ml_lists.specs.Ascending.{IsAscending}
use Rattle.ml_lists.specs.Member.{IsMember}
use Rattle.ml_lists.proofs.Member.{Image, member-map_from}
use Rattle.ml_history.specs.History.{up_to}
use Rattle.ml_history.proofs.definition.CutStacks.{through-stops, through-goes}

-- f takes different names of s, in their order, to numbers in the same order
abbrev pub KeepsOrder : (ℕ → ℕ) → List ℕ → Type 0
KeepsOrder f s = (y z : ℕ) → IsMember y s → IsMember z s → y < z → f y < f z

-- a stack that ascends, renumbered, ascends
pub renumber-ascends : (f : ℕ → ℕ) (s : List ℕ) → IsAscending s → KeepsOrder f s → IsAscending (map f s)
renumber-ascends f [] a keeps = tt
renumber-ascends f (x ∷ xs) a keeps = (
  (λ y m. from_image y (member-map_from f y xs m)),
  renumber-ascends f xs a.1 (λ y z my mz low. keeps y z (inr my) (inr mz) low),
)
  where
    from_image : (y : ℕ) → Image f y xs → f x < y
    from_image y i = let low = keeps x i.from (inl refl) (inr i.member) (a.0 i.from i.member) in let e = i.holds in
        omega arith

-- a stack that is not empty, renumbered, is not
pub renumber-not_empty : (f : ℕ → ℕ) (s : List ℕ) → s ≢ [] → map f s ≢ []
renumber-not_empty f [] full e = full refl
renumber-not_empty f (x ∷ xs) full e = cc

-- two names with one number are one
same_name : (f : ℕ → ℕ) (s : List ℕ) → KeepsOrder f s → (y z : ℕ) → IsMember y s → IsMember z s → f y ≡ f z → y ≡ z
same_name f s keeps y z my mz e = by_order (cases_order y z)
  where
    by_order : (y ≡ z) ⊎ ((y < z) ⊎ (z < y)) → y ≡ z
    by_order (inl same) = same
    by_order (inr (inl low)) = absurd (omega (arith, keeps y z my mz low))
    by_order (inr (inr high)) = absurd (omega (arith, keeps z y mz my high))

-- a renumbered stack up to the number of a name is the stack up to this name, renumbered
pub renumber-up_to : (f : ℕ → ℕ) (z : ℕ) (s : List ℕ)
    → KeepsOrder f s
    → IsMember z s
    → up_to (f z) (map f s) ≡ map f (up_to z s)
renumber-up_to f z [] keeps m = absurd m
renumber-up_to f z (x ∷ xs) keeps m =
    by_test (cases_Bool (eqb x z)) m (renumber-up_to f z xs (λ y v my mv low. keeps y v (inr my) (inr mv) low))
  where
    by_test : (eqb x z ≡ true) ⊎ (eqb x z ≡ false)
        → (z ≡ x) ⊎ IsMember z xs
        → (IsMember z xs → up_to (f z) (map f xs) ≡ map f (up_to z xs))
        → up_to (f z) (map f (x ∷ xs)) ≡ map f (up_to z (x ∷ xs))
    by_test (inl same) i rest =
        through-stops (λ v. eqb v (f z)) (f x) (map f xs) (eq-eqb (f x) (f z) (ap f (eqb-true x z same)))
        ∙ ap (map f) (sym (through-stops (λ v. eqb v z) x xs same))
    by_test (inr other) (inl e) rest = let wrong = eq-eqb x z (sym e) in absurd (cc)
    by_test (inr other) (inr i) rest =
        let differ : f x ≡ f z → ⊥ = λ e. let wrong =
        eq-eqb x z (same_name f (x ∷ xs) keeps x z (inl refl) (inr i) e) in cc in
        through-goes (λ v. eqb v (f z)) (f x) (map f xs) (ne_eqb (f x) (f z) differ) ∙ ap (λ v. f x ∷ v) (rest i)
        ∙ ap (map f) (sym (through-goes (λ v. eqb v z) x xs other))
