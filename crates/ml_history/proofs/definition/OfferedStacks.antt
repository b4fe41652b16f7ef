-- Stacks that are offered: the stack of a state, with a new name at its end where the transition accepts.
--
--   last_name-ends      == a stack that is not empty ends in its last name
--   ends-append         == a stack with a name at its end ends in it
--   OfferedName         == where a name of an offered stack comes from
--   offered-has         == a name of an offered stack is one of the stack, or the new one
--   offered-old         == a name below r of an offered stack is one of the stack
--   offered-plain       == along a transition that does not accept, the stack is offered as it is
--   offered-not_empty   == an offered stack is not empty
--   offered-ascends     == it ascends, if the stack ascends and has names below r alone
--   offered-up_to       == it agrees with the stack up to each name of the stack
--   up_to-end           == a stack that ascends is whole up to its last name
use Rattle.std.proofs.Common.{ℕ, ◌≡◌, ◌≢◌, ◌+◌, ◌<◌, ◌⊎◌, inl, inr, arith, Bool, true, false, eqb, List, [], ◌∷◌, ◌++◌, refl, sym, subst, ap, ◌∙◌}
use Rattle.std.proofs.lemmas.Bool.{cases_Bool, cond-true, cond-false, eqb-true, eq-eqb, or_cases}
use Rattle.ml_lists.specs.Ascending.{IsAscending}
use Rattle.ml_lists.specs.Member.{IsMember}
use Rattle.ml_lists.proofs.Member.{member-append}
use Rattle.ml_lists.proofs.Ascending.{ascending-append}
use Rattle.ml_trace.specs.Stack.{has, ends_in}
use Rattle.ml_trace.proofs.Stacks.{ends-has, has-member, member-has}
use Rattle.ml_history.specs.History.{up_to}
use Rattle.ml_history.specs.HistoryStep.{last_name, offered}
use Rattle.ml_history.proofs.definition.CutStacks.{through-stops, through-goes}

-- a stack that is not empty ends in its last name
pub last_name-ends : (s : List ℕ) → s ≢ [] → ends_in (last_name s) s ≡ true
last_name-ends [] full = absurd (full refl)
last_name-ends (x ∷ []) full = eq-eqb x x refl
last_name-ends (x ∷ (y ∷ ys)) full = last_name-ends (y ∷ ys) (λ e. cc)

-- a stack with a name at its end ends in it
pub ends-append : (y : ℕ) (s : List ℕ) → ends_in y (s ++ y ∷ []) ≡ true
ends-append y [] = eq-eqb y y refl
ends-append y (x ∷ []) = eq-eqb y y refl
ends-append y (x ∷ (z ∷ zs)) = ends-append y (z ∷ zs)

-- the two forms of an offered stack
pub offered-accepting : (r : ℕ) (accepting : Bool) (s : List ℕ)
    → accepting ≡ true
    → offered r accepting s ≡ s ++ (r + last_name s) ∷ []
offered-accepting r accepting s t = cond-true accepting (s ++ (r + last_name s) ∷ []) s t

pub offered-plain : (r : ℕ) (accepting : Bool) (s : List ℕ) → accepting ≡ false → offered r accepting s ≡ s
offered-plain r accepting s f = cond-false accepting (s ++ (r + last_name s) ∷ []) s f

-- a name of an offered stack is one of the stack, or the new one
pub offered-has : (r : ℕ) (accepting : Bool) (s : List ℕ) (y : ℕ)
    → has y (offered r accepting s) ≡ true
    → (has y s ≡ true) ⊎ ((accepting ≡ true) × (y ≡ r + last_name s))
offered-has r accepting s y h = by_test (cases_Bool accepting)
  where
    by_part : accepting ≡ true
        → IsMember y s ⊎ IsMember y ((r + last_name s) ∷ [])
        → (has y s ≡ true) ⊎ ((accepting ≡ true) × (y ≡ r + last_name s))
    by_part t (inl old) = inl (member-has y s old)
    by_part t (inr (inl new)) = inr (t, new)
    by_part t (inr (inr none)) = absurd none

    by_test : (accepting ≡ true) ⊎ (accepting ≡ false) → (has y s ≡ true) ⊎ ((accepting ≡ true) × (y ≡ r + last_name s))
    by_test (inl t) =
        by_part t (member-append y s ((r + last_name s) ∷ [])
        (has-member y (s ++ (r + last_name s) ∷ [])
        (subst (λ v. has y v ≡ true) (offered-accepting r accepting s t) h)))
    by_test (inr f) = inl (subst (λ v. has y v ≡ true) (offered-plain r accepting s f) h)

-- a name below r of an offered stack is one of the stack
pub offered-old : (r : ℕ) (accepting : Bool) (s : List ℕ) (y : ℕ)
    → y < r
    → has y (offered r accepting s) ≡ true
    → has y s ≡ true
offered-old r accepting s y low h = by_part (offered-has r accepting s y h)
  where
    by_part : (has y s ≡ true) ⊎ ((accepting ≡ true) × (y ≡ r + last_name s)) → has y s ≡ true
    by_part (inl old) = old
    by_part (inr new) = absurd (omega (arith, new.1))

-- an offered stack is not empty
pub offered-not_empty : (r : ℕ) (accepting : Bool) (s : List ℕ) → s ≢ [] → offered r accepting s ≢ []
offered-not_empty r accepting s full e = by_test (cases_Bool accepting)
  where
    some : (u : List ℕ) (x : ℕ) → u ++ x ∷ [] ≡ [] → ⊥
    some [] x wrong = cc
    some (v ∷ vs) x wrong = cc

    by_test : (accepting ≡ true) ⊎ (accepting ≡ false) → ⊥
    by_test (inl t) = some s (r + last_name s) (sym (offered-accepting r accepting s t) ∙ e)
    by_test (inr f) = full (sym (offered-plain r accepting s f) ∙ e)

-- an offered stack ascends, if the stack ascends and has names below r alone
pub offered-ascends : (r : ℕ) (accepting : Bool) (s : List ℕ)
    → IsAscending s
    → ((y : ℕ) → has y s ≡ true → y < r)
    → IsAscending (offered r accepting s)
offered-ascends r accepting s a low = by_test (cases_Bool accepting)
  where
    by_test : (accepting ≡ true) ⊎ (accepting ≡ false) → IsAscending (offered r accepting s)
    by_test (inl t) = subst IsAscending (sym (offered-accepting r accepting s t))
        (ascending-append s (r + last_name s) a (λ y m. let b = low y (member-has y s m) in omega arith))
    by_test (inr f) = subst IsAscending (sym (offered-plain r accepting s f)) a

-- a stack agrees with a longer one up to each of its names
pub up_to-append : (y : ℕ) (s t : List ℕ) → has y s ≡ true → up_to y (s ++ t) ≡ up_to y s
up_to-append y [] t h = absurd (cc)
up_to-append y (x ∷ xs) t h = by_test (cases_Bool (eqb x y)) (up_to-append y xs t)
  where
    further : eqb x y ≡ false → (eqb x y ≡ true) ⊎ (has y xs ≡ true) → has y xs ≡ true
    further f (inl here) = absurd (cc)
    further f (inr later) = later

    by_test : (eqb x y ≡ true) ⊎ (eqb x y ≡ false)
        → (has y xs ≡ true → up_to y (xs ++ t) ≡ up_to y xs)
        → up_to y (x ∷ (xs ++ t)) ≡ up_to y (x ∷ xs)
    by_test (inl same) rest = through-stops (λ v. eqb v y) x (xs ++ t) same
        ∙ sym (through-stops (λ v. eqb v y) x xs same)
    by_test (inr f) rest =
        through-goes (λ v. eqb v y) x (xs ++ t) f ∙ ap (λ v. x ∷ v) (rest (further f (or_cases (eqb x y) (has y xs) h)))
        ∙ sym (through-goes (λ v. eqb v y) x xs f)

-- an offered stack agrees with the stack up to each name of the stack
pub offered-up_to : (r : ℕ) (accepting : Bool) (s : List ℕ) (y : ℕ)
    → has y s ≡ true
    → up_to y (offered r accepting s) ≡ up_to y s
offered-up_to r accepting s y h = by_test (cases_Bool accepting)
  where
    by_test : (accepting ≡ true) ⊎ (accepting ≡ false) → up_to y (offered r accepting s) ≡ up_to y s
    by_test (inl t) = ap (up_to y) (offered-accepting r accepting s t) ∙ up_to-append y s ((r + last_name s) ∷ []) h
    by_test (inr f) = ap (up_to y) (offered-plain r accepting s f)

-- a stack that ascends is whole up to its last name
pub up_to-end : (y : ℕ) (s : List ℕ) → IsAscending s → ends_in y s ≡ true → up_to y s ≡ s
up_to-end y [] a e = refl
up_to-end y (x ∷ []) a e = through-stops (λ v. eqb v y) x [] e
up_to-end y (x ∷ (z ∷ zs)) a e = by_test (cases_Bool (eqb x y)) (up_to-end y (z ∷ zs) a.1 e)
  where
    by_test : (eqb x y ≡ true) ⊎ (eqb x y ≡ false) → up_to y (z ∷ zs) ≡ z ∷ zs → up_to y (x ∷ (z ∷ zs)) ≡ x ∷ (z ∷ zs)
    by_test (inl same) rest =
        let low = a.0 y (has-member y (z ∷ zs) (ends-has y (z ∷ zs) e)) in
        let is = eqb-true x y same in
        absurd (omega arith)
    by_test (inr f) rest = through-goes (λ v. eqb v y) x (z ∷ zs) f ∙ ap (λ v. x ∷ v) rest
