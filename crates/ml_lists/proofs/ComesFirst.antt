-- Numbers that stand in their order when they come first.
--
--   Earlier          == a place before another one at which a number stands
--   comes_first      == where a list without its repeats ascends, a lower number stands before each higher one
use Rattle.std.proofs.Common.{ℕ, zero, suc, length, get_or, ◌≡◌, ◌<◌, ◌==◌, ◌&&◌, ◌⊎◌, inl, inr, Bool, true, false, not, List, [], ◌∷◌, filter, refl, sym, ap, ◌∙◌, subst, arith}
use Rattle.std.proofs.lemmas.Bool.{cases_Bool, cases_eq, cond-true, cond-false}
use Rattle.std.proofs.lemmas.Bool.Decides.{nat_tests}
use Rattle.ml_lists.specs.Ascending.{IsAscending}
use Rattle.ml_lists.specs.BreadthFirst.{each_once}
use Rattle.ml_lists.specs.Member.{IsMember}
use Rattle.ml_lists.proofs.BreadthFirst.{member-each_once}
use Rattle.ml_lists.proofs.InTurn.{filter_both}
use Rattle.ml_lists.proofs.Member.{member-filter}

-- a place before place k at which x stands
pub record Earlier (xs : List ℕ) (k x : ℕ) : Type 0 where
  pub place : ℕ
  pub before : place < k
  pub stands : get_or xs place 0 ≡ x

-- the others of a list without repeats, of those that pass
abbrev others : (ℕ → Bool) → ℕ → List ℕ → List ℕ
others t p xs = filter t (filter (λ z. not (z == p)) (each_once xs))

-- a lower number that passes stands before each higher one that does
before_it : (t : ℕ → Bool) (xs : List ℕ) (k x : ℕ)
    → IsAscending (filter t (each_once xs))
    → k < length xs
    → t x ≡ true
    → t (get_or xs k 0) ≡ true
    → x < get_or xs k 0
    → IsMember x xs
    → Earlier xs k x
before_it t [] k x up fits pass_x pass_y low inside = absurd inside
before_it t (y ∷ back) zero x up fits pass_x pass_y low inside = absurd (by_place inside)
  where
    kept : IsMember x (each_once back) → IsMember x (others t y back)
    kept i =
        let differs : not (x == y) ≡ true = grind (arith, nat_tests) in
        member-filter t x (filter (λ z. not (z == y)) (each_once back))
        (member-filter (λ z. not (z == y)) x (each_once back) i differs) pass_x

    here : IsAscending (y ∷ others t y back)
    here = subst IsAscending (cond-true (t y) (y ∷ others t y back) (others t y back) pass_y) up

    by_place : (x ≡ y) ⊎ IsMember x back → ⊥
    by_place (inl same) = absurd (omega arith)
    by_place (inr later) = let above = here.0 x (kept (member-each_once x back later)) in absurd (omega arith)
before_it t (p ∷ xs) (suc k) x up fits pass_x pass_y low inside =
    by_head (cases_eq x p) inside
    (λ i. before_it (λ z. not (z == p) && t z) xs k x (tail_up (cases_Bool (t p))) (omega arith) (passes x i pass_x)
    (passes_y (cases_eq (get_or xs k 0) p) i) low)
  where
    passes : (z : ℕ) → (z ≡ p → ⊥) → t z ≡ true → (not (z == p) && t z) ≡ true
    passes z differ pass = let differs : not (z == p) ≡ true = grind (arith, nat_tests) in
        ap (λ b. b && t z) differs ∙ pass

    tail_up : (t p ≡ true) ⊎ (t p ≡ false) → IsAscending (filter (λ z. not (z == p) && t z) (each_once xs))
    tail_up test = subst IsAscending (filter_both t (λ z. not (z == p)) (each_once xs)) (of_test test)
      where
        of_test : (t p ≡ true) ⊎ (t p ≡ false) → IsAscending (others t p xs)
        of_test (inl yes_p) = (subst IsAscending (cond-true (t p) (p ∷ others t p xs) (others t p xs) yes_p) up).1
        of_test (inr no_p) = subst IsAscending (cond-false (t p) (p ∷ others t p xs) (others t p xs) no_p) up

    passes_y : (get_or xs k 0 ≡ p) ⊎ (get_or xs k 0 ≡ p → ⊥)
        → (x ≡ p → ⊥)
        → (not (get_or xs k 0 == p) && t (get_or xs k 0)) ≡ true
    passes_y (inr differ) i = passes (get_or xs k 0) differ pass_y
    passes_y (inl same) i = absurd (of_head inside)
      where
        yes_p : t p ≡ true
        yes_p = subst (λ z. t z ≡ true) same pass_y

        of_head : (x ≡ p) ⊎ IsMember x xs → ⊥
        of_head (inl e) = i e
        of_head (inr later) =
            let up_here = subst IsAscending (cond-true (t p) (p ∷ others t p xs) (others t p xs) yes_p) up in
            let differs : not (x == p) ≡ true = grind (arith, nat_tests) in
            let kept = member-filter t x (filter (λ z. not (z == p)) (each_once xs))
            (member-filter (λ z. not (z == p)) x (each_once xs) (member-each_once x xs later) differs) pass_x in
            let above = up_here.0 x kept in
            absurd (omega arith)

    by_head : (x ≡ p) ⊎ (x ≡ p → ⊥)
        → (x ≡ p) ⊎ IsMember x xs
        → ((x ≡ p → ⊥) → IsMember x xs → Earlier xs k x)
        → Earlier (p ∷ xs) (suc k) x
    by_head (inl same) i rest = record { place = zero; before = omega arith; stands = sym same }
    by_head (inr differ) (inl same) rest = absurd (differ same)
    by_head (inr differ) (inr later) rest =
        let e = rest differ later in
        record { place = suc e.place; before = omega (arith, e.before); stands = e.stands }

filter_all : (xs : List ℕ) → filter (λ z. true) xs ≡ xs
filter_all [] = refl
filter_all (x ∷ xs) = ap (λ zs. x ∷ zs) (filter_all xs)

-- where a list without its repeats ascends, a lower number stands before each higher one
pub comes_first : (xs : List ℕ) (k x : ℕ)
    → IsAscending (each_once xs)
    → k < length xs
    → x < get_or xs k 0
    → IsMember x xs
    → Earlier xs k x
comes_first xs k x up fits low inside =
    before_it (λ z. true) xs k x (subst IsAscending (sym (filter_all (each_once xs))) up) fits refl refl low inside
