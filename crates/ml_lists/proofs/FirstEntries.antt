-- Lists of values whose equality a test tells: their first entries, and the numbers of their entries.
--
--   AreApart xs          == nothing stands in xs twice
--   apart_places         == so each value stands at one place
--   apart_ascending      == nothing stands twice in an ascending list
--   firsts eq xs         == the values of xs, each where it stands first
--   firsts-apart         == nothing stands there twice
--   member-firsts, firsts-member == it has the same members
--   firsts-front         == that of a longer list begins with it
--   number eq xs x       == the place where x stands first in xs
--   number_is            == a member stands at its number
--   number_low           == which is a place
--   one_number           == and only one member has it
--   numbers_in_turn      == the numbers of different values come one after the other
--   none_more            == values that are different are not more than the entries of a list that has them all
--   firsts-map           == each value where it stands first, told by numbers
use Rattle.std.proofs.Common.{ℕ, zero, suc, ◌≡◌, ◌<◌, ◌≤◌, ◌==◌, ◌⊎◌, inl, inr, arith, Bool, true, false, not, if◌then◌else◌, List}
use Rattle.std.proofs.Common.{[], ◌∷◌, ◌++◌, length, map, filter, get_or, Some, refl, sym, ap, ◌∙◌, subst, ⊎_elim}
use Rattle.std.specs.Bool.{Decides}
use Rattle.std.specs.List.{slice_get, range_with_len}
use Rattle.std.proofs.lemmas.Bool.{cases_Bool, cases_lt, cond-true, cond-false, eq-eqb, ne_eqb}
use Rattle.std.proofs.lemmas.List.{ext_get_or, get_or-map, length-map}
use Rattle.std.proofs.lemmas.List.Elements.{filter-append}
use Rattle.std.proofs.lemmas.List.FromFn.{get_or-range_with_len, length-range_with_len}
use Rattle.std.proofs.lemmas.Option.{same_Some, slice_get_within, slice_get-get_or}
use Rattle.ml_lists.specs.BreadthFirst.{each_once}
use Rattle.ml_lists.specs.Member.{IsMember}
use Rattle.ml_lists.specs.Pigeons.{Twice}
use Rattle.ml_lists.proofs.Member.{member-filter, member-filter_from, member_of_get, place-member}
use Rattle.ml_lists.proofs.Pigeons.{pigeons}
use Rattle.ml_lists.specs.Ascending.{IsAscending}

abbrev pub AreApart : {X : Type 0} → List X → Type 0
AreApart [] = Unit {0}
AreApart (x ∷ xs) = (IsMember x xs → ⊥) × AreApart xs

pub apart_ascending : (xs : List ℕ) → IsAscending xs → AreApart xs
apart_ascending [] ascend = tt
apart_ascending (x ∷ xs) (above, ascend) =
    ((λ m. let less = above x m in absurd (omega (arith, less))), apart_ascending xs ascend)

pub apart_places : {X : Type 0} (xs : List X)
    → AreApart xs
    → (i j : ℕ) (x : X)
    → slice_get xs i ≡ Some x
    → slice_get xs j ≡ Some x
    → i ≡ j
apart_places [] apart i j x here there = absurd (cc)
apart_places (y ∷ ys) apart zero zero x here there = refl
apart_places (y ∷ ys) apart zero (suc j) x here there =
    absurd (apart.0 (subst (λ z. IsMember z ys) (sym (same_Some y x here)) (member_of_get ys j x there)))
apart_places (y ∷ ys) apart (suc i) zero x here there =
    absurd (apart.0 (subst (λ z. IsMember z ys) (sym (same_Some y x there)) (member_of_get ys i x here)))
apart_places (y ∷ ys) apart (suc i) (suc j) x here there = ap suc (apart_places ys apart.1 i j x here there)

-- ---- first entries

abbrev pub firsts : {X : Type 0} → (X → X → Bool) → List X → List X
firsts eq [] = []
firsts eq (x ∷ xs) = x ∷ filter (λ y. not (eq y x)) (firsts eq xs)

apart_filter : {X : Type 0} (test : X → Bool) (xs : List X) → AreApart xs → AreApart (filter test xs)
apart_filter test [] apart = tt
apart_filter test (x ∷ xs) apart = by_test (cases_Bool (test x)) (apart_filter test xs apart.1)
  where
    by_test : (test x ≡ true) ⊎ (test x ≡ false) → AreApart (filter test xs) → AreApart (filter test (x ∷ xs))
    by_test (inl passes) rest =
        subst AreApart (sym (cond-true (test x) (x ∷ filter test xs) (filter test xs) passes))
        ((λ m. apart.0 (member-filter_from test x xs m).0), rest)
    by_test (inr fails) rest =
        subst AreApart (sym (cond-false (test x) (x ∷ filter test xs) (filter test xs) fails)) rest

-- that of a longer list begins with it
pub firsts-front : {X : Type 0} (eq : X → X → Bool) (xs ys : List X)
    → (rest : List X) × (firsts eq (xs ++ ys) ≡ firsts eq xs ++ rest)
firsts-front eq [] ys = (firsts eq ys, refl)
firsts-front {X = X} eq (x ∷ xs) ys =
    let test : X → Bool = λ y. not (eq y x) in
    let r = firsts-front eq xs ys in
    (filter test r.0, ap (λ zs. x ∷ filter test zs) r.1 ∙ ap (λ zs. x ∷ zs) (filter-append test (firsts eq xs) r.0))

pub firsts-member : {X : Type 0} (eq : X → X → Bool) (x : X) (xs : List X) → IsMember x (firsts eq xs) → IsMember x xs
firsts-member eq x [] none = absurd none
firsts-member eq x (y ∷ ys) (inl same) = inl same
firsts-member eq x (y ∷ ys) (inr m) =
    inr (firsts-member eq x ys (member-filter_from (λ z. not (eq z y)) x (firsts eq ys) m).0)

-- the number of a value: where it stands first
abbrev pub number : {X : Type 0} → (X → X → Bool) → List X → X → ℕ
number eq [] x = 0
number eq (y ∷ ys) x = if eq x y then 0 else suc (number eq ys x)

module _ {X : Type 0} (eq : X → X → Bool) (tells : (x y : X) → Decides (eq x y) (x ≡ y)) where
  pub firsts-apart : (xs : List X) → AreApart (firsts eq xs)
  firsts-apart [] = tt
  firsts-apart (x ∷ xs) = (apart, apart_filter (λ y. not (eq y x)) (firsts eq xs) (firsts-apart xs))
    where
      apart : IsMember x (filter (λ y. not (eq y x)) (firsts eq xs)) → ⊥
      apart m =
          let passes = (member-filter_from (λ y. not (eq y x)) x (firsts eq xs) m).1 in
          let same : eq x x ≡ true = (tells x x).1 refl in
          let wrong : false ≡ true = ap not (sym same) ∙ passes in
          absurd (cc)

  pub member-firsts : (x : X) (xs : List X) → IsMember x xs → IsMember x (firsts eq xs)
  member-firsts x [] none = absurd none
  member-firsts x (y ∷ ys) m = by_test (cases_Bool (eq x y)) m (member-firsts x ys)
    where
      by_test : (eq x y ≡ true) ⊎ (eq x y ≡ false)
          → (x ≡ y) ⊎ IsMember x ys
          → (IsMember x ys → IsMember x (firsts eq ys))
          → IsMember x (firsts eq (y ∷ ys))
      by_test (inl t) i later = inl ((tells x y).0 t)
      by_test (inr f) (inl same) later = inl same
      by_test (inr f) (inr i) later =
          inr (member-filter (λ z. not (eq z y)) x (firsts eq ys) (later i) (ap not f))

  -- ---- numbers

  pub number_is : (xs : List X) (x : X) → IsMember x xs → slice_get xs (number eq xs x) ≡ Some x
  number_is [] x none = absurd none
  number_is (y ∷ ys) x m = by_test (cases_Bool (eq x y)) m (number_is ys x)
    where
      by_test : (eq x y ≡ true) ⊎ (eq x y ≡ false)
          → (x ≡ y) ⊎ IsMember x ys
          → (IsMember x ys → slice_get ys (number eq ys x) ≡ Some x)
          → slice_get (y ∷ ys) (number eq (y ∷ ys) x) ≡ Some x
      by_test (inl t) i later =
          ap (slice_get (y ∷ ys)) (cond-true (eq x y) 0 (suc (number eq ys x)) t) ∙ ap Some (sym ((tells x y).0 t))
      by_test (inr f) (inl same) later = let t = (tells x y).1 same in absurd (cc)
      by_test (inr f) (inr i) later =
          ap (slice_get (y ∷ ys)) (cond-false (eq x y) 0 (suc (number eq ys x)) f) ∙ later i

  pub number_low : (xs : List X) (x : X) → IsMember x xs → number eq xs x < length xs
  number_low xs x m = slice_get_within xs (number eq xs x) x (number_is xs x m)

  pub one_number : (xs : List X) (x y : X) → IsMember x xs → IsMember y xs → number eq xs x ≡ number eq xs y → x ≡ y
  one_number xs x y m i same = same_Some x y (sym (number_is xs x m) ∙ ap (slice_get xs) same ∙ number_is xs y i)

  -- a value has the number of the place where it stands
  pub number_at : (xs : List X) → AreApart xs → (k : ℕ) (x : X) → slice_get xs k ≡ Some x → number eq xs x ≡ k
  number_at xs apart k x is =
      apart_places xs apart (number eq xs x) k x (number_is xs x (member_of_get xs k x is)) is

  pub numbers_in_turn : (xs : List X) → X → AreApart xs → map (number eq xs) xs ≡ range_with_len 0 (length xs)
  numbers_in_turn xs d apart =
      ext_get_or 0 (map (number eq xs) xs) (range_with_len 0 (length xs))
      (length-map xs (number eq xs) ∙ sym (length-range_with_len 0 (length xs)))
      (λ k low. at k (omega (arith, low, length-map xs (number eq xs))))
    where
      at : (k : ℕ) → k < length xs → get_or (map (number eq xs) xs) k 0 ≡ get_or (range_with_len 0 (length xs)) k 0
      at k low =
          let first = get_or-map (number eq xs) xs k d 0 low in
          let place = number_at xs apart k (get_or xs k d) (slice_get-get_or xs k d low) in
          let second = get_or-range_with_len 0 (length xs) k 0 low in
          omega (arith, first, place, second)

  -- values that are different are not more than the entries of a list that has them all
  pub none_more : (xs ys : List X)
      → ((i j : ℕ) (x : X) → slice_get xs i ≡ Some x → slice_get xs j ≡ Some x → i ≡ j)
      → ((x : X) → IsMember x xs → IsMember x ys)
      → length xs ≤ length ys
  none_more [] ys once inside = omega arith
  none_more (d ∷ ds) ys once inside =
      ⊎_elim (λ (more : length ys < length (d ∷ ds)). absurd (too_many more))
      (λ (few : length (d ∷ ds) ≤ length ys). few) (cases_lt (length ys) (length (d ∷ ds)))
    where
      entry : ℕ → X
      entry k = get_or (d ∷ ds) k d

      too_many : length ys < length (d ∷ ds) → ⊥
      too_many more = twice (pigeons (length ys) (λ k. number eq ys (entry k))
          (λ k few. number_low ys (entry k) (listed k (omega (arith, few, more)))))
        where
          listed : (k : ℕ) → k < length (d ∷ ds) → IsMember (entry k) ys
          listed k low = inside (entry k) (place-member (d ∷ ds) k d low)

          twice : Twice (λ k. number eq ys (entry k)) (length ys) → ⊥
          twice t =
              let before = t.apart in
              let within = t.within in
              let first_low : t.first < length (d ∷ ds) = omega (arith, before, within, more) in
              let second_low : t.second < length (d ∷ ds) = omega (arith, within, more) in
              let same = one_number ys (entry t.first) (entry t.second) (listed t.first first_low)
              (listed t.second second_low) t.same in
              let one = once t.first t.second (entry t.second)
              (slice_get-get_or (d ∷ ds) t.first d first_low ∙ ap Some same)
              (slice_get-get_or (d ∷ ds) t.second d second_low) in
              omega (arith, before, one)

  -- ---- each value where it stands first, by numbers

  kept : (f : X → ℕ) (x : X) (ys : List X)
      → ((y : X) → IsMember y ys → f y ≡ f x → y ≡ x)
      → filter (λ n. not (n == f x)) (map f ys) ≡ map f (filter (λ y. not (eq y x)) ys)
  kept f x [] one = refl
  kept f x (y ∷ ys) one = by_test (cases_Bool (eq y x)) (kept f x ys (λ z i. one z (inr i)))
    where
      test : ℕ → Bool
      test n = not (n == f x)

      by_test : (eq y x ≡ true) ⊎ (eq y x ≡ false)
          → filter (λ n. not (n == f x)) (map f ys) ≡ map f (filter (λ z. not (eq z x)) ys)
          → filter (λ n. not (n == f x)) (map f (y ∷ ys)) ≡ map f (filter (λ z. not (eq z x)) (y ∷ ys))
      by_test (inl t) rest =
          let fails : not (f y == f x) ≡ false = ap not (eq-eqb (f y) (f x) (ap f ((tells y x).0 t))) in
          cond-false (not (f y == f x)) (f y ∷ filter (λ n. not (n == f x)) (map f ys))
          (filter (λ n. not (n == f x)) (map f ys)) fails
          ∙ rest
          ∙ sym (ap (map f) (cond-false (not (eq y x)) (y ∷ filter (λ z. not (eq z x)) ys)
          (filter (λ z. not (eq z x)) ys) (ap not t)))
      by_test (inr n) rest =
          let passes : not (f y == f x) ≡ true =
          ap not (ne_eqb (f y) (f x) (λ e. let t = (tells y x).1 (one y (inl refl) e) in absurd (cc))) in
          cond-true (not (f y == f x)) (f y ∷ filter (λ n. not (n == f x)) (map f ys))
          (filter (λ n. not (n == f x)) (map f ys)) passes
          ∙ ap (λ ns. f y ∷ ns) rest
          ∙ sym (ap (map f) (cond-true (not (eq y x)) (y ∷ filter (λ z. not (eq z x)) ys)
          (filter (λ z. not (eq z x)) ys) (ap not n)))

  pub firsts-map : (f : X → ℕ) (xs : List X)
      → ((x y : X) → IsMember x xs → IsMember y xs → f x ≡ f y → x ≡ y)
      → each_once (map f xs) ≡ map f (firsts eq xs)
  firsts-map f [] one = refl
  firsts-map f (x ∷ xs) one =
      ap (λ ns. f x ∷ filter (λ n. not (n == f x)) ns) (firsts-map f xs (λ y z i j. one y z (inr i) (inr j)))
      ∙ ap (λ ns. f x ∷ ns) (kept f x (firsts eq xs)
      (λ y i e. one y x (inr (firsts-member eq y xs i)) (inl refl) e))
