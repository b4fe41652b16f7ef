-- Stacks cut after the first name that passes a test.
--
--   through-has        == a cut stack has no further names
--   through-keeps_end  == a name of a cut stack that passes is its last name
--   through-whole      == where no name passes, the stack is whole
--   through-not_empty  == a cut stack is not empty
--   through-ascending  == a cut stack ascends
--   through-advanced   == a name that is advanced in a cut stack that ascends is advanced in the stack
--   through-up_to      == a cut stack and the stack agree up to each name of the cut stack
use Rattle.std.proofs.Common.{ℕ, ◌≡◌, ◌≢◌, ◌⊎◌, inl, inr, arith, Bool, true, false, eqb, List, [], ◌∷◌, refl, sym, subst, ap, ◌∙◌}
use Rattle.std.proofs.lemmas.Bool.{cases_Bool, cond-true, cond-false, eqb-true, or_cases, or_left, or_right}
use Rattle.ml_lists.specs.Ascending.{IsAscending}
use Rattle.ml_trace.specs.Stack.{has, ends_in}
use Rattle.ml_trace.proofs.Stacks.{ends-has, has-member, member-has, ends-cons, ends-cons_not}
use Rattle.ml_history.specs.History.{up_to}
use Rattle.ml_history.specs.HistoryStep.{through}

-- the two forms of a cut stack
module _ (test : ℕ → Bool) (x : ℕ) (xs : List ℕ) where
  pub through-stops : test x ≡ true → through test (x ∷ xs) ≡ x ∷ []
  through-stops t = cond-true (test x) (x ∷ []) (x ∷ through test xs) t

  pub through-goes : test x ≡ false → through test (x ∷ xs) ≡ x ∷ through test xs
  through-goes f = cond-false (test x) (x ∷ []) (x ∷ through test xs) f

-- a cut stack has no further names
pub through-has : (test : ℕ → Bool) (y : ℕ) (s : List ℕ) → has y (through test s) ≡ true → has y s ≡ true
through-has test y [] h = h
through-has test y (x ∷ xs) h = by_test (cases_Bool (test x)) (through-has test y xs)
  where
    later : (has y (through test xs) ≡ true → has y xs ≡ true)
        → (eqb x y ≡ true) ⊎ (has y (through test xs) ≡ true)
        → has y (x ∷ xs) ≡ true
    later rest (inl here) = or_left (eqb x y) (has y xs) here
    later rest (inr l) = or_right (eqb x y) (has y xs) (rest l)

    only : (eqb x y ≡ true) ⊎ (false ≡ true) → has y (x ∷ xs) ≡ true
    only (inl here) = or_left (eqb x y) (has y xs) here
    only (inr wrong) = absurd (cc)

    by_test : (test x ≡ true) ⊎ (test x ≡ false)
        → (has y (through test xs) ≡ true → has y xs ≡ true)
        → has y (x ∷ xs) ≡ true
    by_test (inl t) rest = only (or_cases (eqb x y) false (subst (λ v. has y v ≡ true) (through-stops test x xs t) h))
    by_test (inr f) rest = later rest (or_cases (eqb x y) (has y (through test xs))
        (subst (λ v. has y v ≡ true) (through-goes test x xs f) h))

-- a name of a cut stack that passes is its last name
pub through-keeps_end : (test : ℕ → Bool) (y : ℕ) (s : List ℕ)
    → has y (through test s) ≡ true
    → test y ≡ true
    → ends_in y (through test s) ≡ true
through-keeps_end test y [] h passes = absurd (cc)
through-keeps_end test y (x ∷ xs) h passes = by_test (cases_Bool (test x)) (through-keeps_end test y xs)
  where
    only : (eqb x y ≡ true) ⊎ (false ≡ true) → ends_in y (x ∷ []) ≡ true
    only (inl here) = here
    only (inr wrong) = absurd (cc)

    later : test x ≡ false
        → (has y (through test xs) ≡ true → test y ≡ true → ends_in y (through test xs) ≡ true)
        → (eqb x y ≡ true) ⊎ (has y (through test xs) ≡ true)
        → ends_in y (x ∷ through test xs) ≡ true
    later f rest (inl here) = let wrong : test x ≡ true = subst (λ v. test v ≡ true) (sym (eqb-true x y here)) passes in
        absurd (cc)
    later f rest (inr l) = ends-cons y x (through test xs) (rest l passes)

    by_test : (test x ≡ true) ⊎ (test x ≡ false)
        → (has y (through test xs) ≡ true → test y ≡ true → ends_in y (through test xs) ≡ true)
        → ends_in y (through test (x ∷ xs)) ≡ true
    by_test (inl t) rest =
        subst (λ v. ends_in y v ≡ true) (sym (through-stops test x xs t))
        (only (or_cases (eqb x y) false (subst (λ v. has y v ≡ true) (through-stops test x xs t) h)))
    by_test (inr f) rest =
        subst (λ v. ends_in y v ≡ true) (sym (through-goes test x xs f))
        (later f rest (or_cases (eqb x y) (has y (through test xs))
        (subst (λ v. has y v ≡ true) (through-goes test x xs f) h)))

-- where no name passes, the stack is whole
pub through-whole : (test : ℕ → Bool) (s : List ℕ) → ((y : ℕ) → has y s ≡ true → test y ≡ false) → through test s ≡ s
through-whole test [] fails = refl
through-whole test (x ∷ xs) fails =
    through-goes test x xs (fails x (member-has x (x ∷ xs) (inl refl)))
    ∙ ap (λ v. x ∷ v) (through-whole test xs (λ y h. fails y (or_right (eqb x y) (has y xs) h)))

-- a cut stack is not empty
pub through-not_empty : (test : ℕ → Bool) (s : List ℕ) → s ≢ [] → through test s ≢ []
through-not_empty test [] full e = full refl
through-not_empty test (x ∷ xs) full e = by_test (cases_Bool (test x))
  where
    by_test : (test x ≡ true) ⊎ (test x ≡ false) → ⊥
    by_test (inl t) = let wrong = sym (through-stops test x xs t) ∙ e in cc
    by_test (inr f) = let wrong = sym (through-goes test x xs f) ∙ e in cc

-- a cut stack ascends
pub through-ascending : (test : ℕ → Bool) (s : List ℕ) → IsAscending s → IsAscending (through test s)
through-ascending test [] a = a
through-ascending test (x ∷ xs) a = by_test (cases_Bool (test x)) (through-ascending test xs a.1)
  where
    by_test : (test x ≡ true) ⊎ (test x ≡ false) → IsAscending (through test xs) → IsAscending (through test (x ∷ xs))
    by_test (inl t) rest = subst IsAscending (sym (through-stops test x xs t)) ((λ y m. absurd m), tt)
    by_test (inr f) rest =
        subst IsAscending (sym (through-goes test x xs f))
        ((λ y m. a.0 y (has-member y xs (through-has test y xs (member-has y (through test xs) m)))), rest)

-- a name that is advanced in a cut stack that ascends is advanced in the stack
pub through-advanced : (test : ℕ → Bool) (y : ℕ) (s : List ℕ)
    → IsAscending s
    → has y (through test s) ≡ true
    → ends_in y (through test s) ≡ false
    → ends_in y s ≡ false
through-advanced test y [] a h e = refl
through-advanced test y (x ∷ []) a h e = by_test (cases_Bool (test x))
  where
    by_test : (test x ≡ true) ⊎ (test x ≡ false) → ends_in y (x ∷ []) ≡ false
    by_test (inl t) = subst (λ v. ends_in y v ≡ false) (through-stops test x [] t) e
    by_test (inr f) = subst (λ v. ends_in y v ≡ false) (through-goes test x [] f) e
through-advanced test y (x ∷ (z ∷ zs)) a h e = by_test (cases_Bool (test x)) (through-advanced test y (z ∷ zs) a.1)
  where
    only : (eqb x y ≡ true) ⊎ (false ≡ true) → eqb x y ≡ false → ⊥
    only (inl here) other = cc
    only (inr wrong) other = cc

    first : x ≡ y → (ends_in y (z ∷ zs) ≡ true) ⊎ (ends_in y (z ∷ zs) ≡ false) → ends_in y (z ∷ zs) ≡ false
    first same (inl last) = let low = a.0 y (has-member y (z ∷ zs) (ends-has y (z ∷ zs) last)) in absurd (omega arith)
    first same (inr done) = done

    later : (has y (through test (z ∷ zs)) ≡ true → ends_in y (through test (z ∷ zs)) ≡ false → ends_in y (z ∷ zs)
        ≡ false)
        → ends_in y (x ∷ through test (z ∷ zs)) ≡ false
        → (eqb x y ≡ true) ⊎ (has y (through test (z ∷ zs)) ≡ true)
        → ends_in y (z ∷ zs) ≡ false
    later rest not_last (inl here) = first (eqb-true x y here) (cases_Bool (ends_in y (z ∷ zs)))
    later rest not_last (inr l) = rest l (ends-cons_not y x (through test (z ∷ zs)) not_last l)

    by_test : (test x ≡ true) ⊎ (test x ≡ false)
        → (has y (through test (z ∷ zs)) ≡ true → ends_in y (through test (z ∷ zs)) ≡ false → ends_in y (z ∷ zs)
        ≡ false)
        → ends_in y (x ∷ (z ∷ zs)) ≡ false
    by_test (inl t) rest =
        absurd (only (or_cases (eqb x y) false (subst (λ v. has y v ≡ true) (through-stops test x (z ∷ zs) t) h))
        (subst (λ v. ends_in y v ≡ false) (through-stops test x (z ∷ zs) t) e))
    by_test (inr f) rest =
        later rest (subst (λ v. ends_in y v ≡ false) (through-goes test x (z ∷ zs) f) e)
        (or_cases (eqb x y) (has y (through test (z ∷ zs)))
        (subst (λ v. has y v ≡ true) (through-goes test x (z ∷ zs) f) h))

-- a cut stack and the stack agree up to each name of the cut stack
pub through-up_to : (test : ℕ → Bool) (y : ℕ) (s : List ℕ)
    → has y (through test s) ≡ true
    → up_to y (through test s) ≡ up_to y s
through-up_to test y [] h = refl
through-up_to test y (x ∷ xs) h = by_test (cases_Bool (eqb x y)) (cases_Bool (test x)) (through-up_to test y xs)
  where
    Only : (eqb x y ≡ true) ⊎ (false ≡ true) → eqb x y ≡ false → ⊥
    Only (inl here) other = cc
    Only (inr wrong) other = cc

    further : eqb x y ≡ false → (eqb x y ≡ true) ⊎ (has y (through test xs) ≡ true) → has y (through test xs) ≡ true
    further g (inl here) = absurd (cc)
    further g (inr l) = l

    by_test : (eqb x y ≡ true) ⊎ (eqb x y ≡ false)
        → (test x ≡ true) ⊎ (test x ≡ false)
        → (has y (through test xs) ≡ true → up_to y (through test xs) ≡ up_to y xs)
        → up_to y (through test (x ∷ xs)) ≡ up_to y (x ∷ xs)
    by_test (inl same) (inl t) rest =
        ap (up_to y) (through-stops test x xs t) ∙ through-stops (λ v. eqb v y) x [] same
        ∙ sym (through-stops (λ v. eqb v y) x xs same)
    by_test (inl same) (inr f) rest =
        ap (up_to y) (through-goes test x xs f) ∙ through-stops (λ v. eqb v y) x (through test xs) same
        ∙ sym (through-stops (λ v. eqb v y) x xs same)
    by_test (inr g) (inl t) rest =
        absurd (Only (or_cases (eqb x y) false (subst (λ v. has y v ≡ true) (through-stops test x xs t) h)) g)
    by_test (inr g) (inr f) rest =
        let l = further g (or_cases (eqb x y) (has y (through test xs))
        (subst (λ v. has y v ≡ true) (through-goes test x xs f) h)) in
        ap (up_to y) (through-goes test x xs f)
        ∙ through-goes (λ v. eqb v y) x (through test xs) g
        ∙ ap (λ v. x ∷ v) (rest l)
        ∙ sym (through-goes (λ v. eqb v y) x xs g)
