-- Sets of nodes and choices, by a digit for each node.
--
--   flag C n       == 1 where n is in C, and 0 elsewhere
--   same_sets      == ascending lists of nodes with the same flags are one
--   side_digit o   == 0 for no side, 1 for left, 2 for right
--   same_choices   == choices of nodes with the same digits are one
use Rattle.std.proofs.Common.{ℕ, ◌≡◌, ◌<◌, ◌==◌, ◌⊎◌, inl, inr, Bool, true, false, List, [], ◌∷◌, map, Option, Some, None, refl, sym, ap, ◌∙◌, arith}
use Rattle.std.proofs.lemmas.Bool.{cases_Bool, cond-true, cond-false, eqb-true}
use Rattle.std.proofs.lemmas.Bool.Decides.{nat_tests}
use Rattle.ml_lists.specs.Ascending.{IsAscending}
use Rattle.ml_lists.specs.Member.{IsMember}
use Rattle.ml_lists.proofs.Ascending.{ascending_same}
use Rattle.ml_lists.proofs.Member.{member-map}
use Rattle.ml_trace.specs.Stack.{has}
use Rattle.ml_trace.proofs.Stacks.{has-member, member-has}
use Rattle.ml_sequent.specs.declared.choice.Side.{Side}
use Rattle.ml_sequent.specs.declared.choice.Side.TheVariants.{Left, Right}
use Rattle.ml_sequent.specs.Choice.{side_of, IsChoice}
use Rattle.ml_product.proofs.bound.KeyedLists.{keyed_below, keyed_same}

-- ---- sets

abbrev pub bit : Bool → ℕ
bit true = 1
bit false = 0

pub bit_low : (b : Bool) → bit b < 2
bit_low true = omega arith
bit_low false = omega arith

same_bit : (a b : Bool) → bit a ≡ bit b → a ≡ b
same_bit true true e = refl
same_bit true false e = absurd (omega arith)
same_bit false true e = absurd (omega arith)
same_bit false false e = refl

-- is n in the set?
abbrev pub flag : List ℕ → ℕ → ℕ
flag C n = bit (has n C)

-- ascending lists of nodes with the same flags are one
pub same_sets : (n : ℕ) (C D : List ℕ)
    → IsAscending C
    → IsAscending D
    → ((m : ℕ) → IsMember m C → m < n)
    → ((m : ℕ) → IsMember m D → m < n)
    → ((m : ℕ) → m < n → flag C m ≡ flag D m)
    → C ≡ D
same_sets n C D up_C up_D low_C low_D same = ascending_same C D up_C up_D to from
  where
    to : (m : ℕ) → IsMember m C → IsMember m D
    to m h = has-member m D (sym (same_bit (has m C) (has m D) (same m (low_C m h))) ∙ member-has m C h)

    from : (m : ℕ) → IsMember m D → IsMember m C
    from m h = has-member m C (same_bit (has m C) (has m D) (same m (low_D m h)) ∙ member-has m D h)

-- ---- choices

abbrev pub side_digit : Option Side → ℕ
side_digit None = 0
side_digit (Some Left) = 1
side_digit (Some Right) = 2

pub side_digit_low : (o : Option Side) → side_digit o < 3
side_digit_low None = omega arith
side_digit_low (Some Left) = omega arith
side_digit_low (Some Right) = omega arith

same_side : (o p : Option Side) → side_digit o ≡ side_digit p → o ≡ p
same_side None None e = refl
same_side None (Some Left) e = absurd (omega arith)
same_side None (Some Right) e = absurd (omega arith)
same_side (Some Left) None e = absurd (omega arith)
same_side (Some Left) (Some Left) e = refl
same_side (Some Left) (Some Right) e = absurd (omega arith)
same_side (Some Right) None e = absurd (omega arith)
same_side (Some Right) (Some Left) e = absurd (omega arith)
same_side (Some Right) (Some Right) e = refl

-- a pair of a choice has the side of its node
side_in : (c : List (ℕ × Side)) (p : ℕ × Side) → IsChoice c → IsMember p c → side_of c p.0 ≡ Some p.1
side_in [] p is m = absurd m
side_in (q ∷ c) p is (inl here) =
    let nodes : q.0 ≡ p.0 = ap (λ (x : ℕ × Side). x.0) (sym here) in
    let test : (q.0 == p.0) ≡ true = grind (arith, nat_tests) in
    cond-true (q.0 == p.0) (Some q.1) (side_of c p.0) test ∙ ap (λ (x : ℕ × Side). Some x.1) (sym here)
side_in (q ∷ c) p is (inr later) =
    let less = keyed_below (λ (x : ℕ × Side). x.0) q c is p later in
    let test : (q.0 == p.0) ≡ false = grind (arith, nat_tests) in
    cond-false (q.0 == p.0) (Some q.1) (side_of c p.0) test ∙ side_in c p is.1 later

-- and the other way round
side_from : (c : List (ℕ × Side)) (n : ℕ) (s : Side) → side_of c n ≡ Some s → IsMember (n, s) c
side_from [] n s e = cc
side_from (q ∷ c) n s e = by_test (cases_Bool (q.0 == n)) (side_from c n s)
  where
    by_test : ((q.0 == n) ≡ true) ⊎ ((q.0 == n) ≡ false)
        → (side_of c n ≡ Some s → IsMember (n, s) c)
        → IsMember (n, s) (q ∷ c)
    by_test (inl same) rest =
        let nodes : q.0 ≡ n = eqb-true q.0 n same in
        let some : Some q.1 ≡ Some s = sym (cond-true (q.0 == n) (Some q.1) (side_of c n) same) ∙ e in
        let sides : q.1 ≡ s = cc in
        inl (λ i. (sym nodes i, sym sides i))
    by_test (inr other) rest = inr (rest (sym (cond-false (q.0 == n) (Some q.1) (side_of c n) other) ∙ e))

-- choices of nodes with the same digits are one
pub same_choices : (n : ℕ) (c d : List (ℕ × Side))
    → IsChoice c
    → IsChoice d
    → ((m : ℕ) → IsMember m (map (λ p. p.0) c) → m < n)
    → ((m : ℕ) → IsMember m (map (λ p. p.0) d) → m < n)
    → ((m : ℕ) → m < n → side_digit (side_of c m) ≡ side_digit (side_of d m))
    → c ≡ d
same_choices n c d is_c is_d low_c low_d same = keyed_same (λ (p : ℕ × Side). p.0) c d is_c is_d to from
  where
    to : (p : ℕ × Side) → IsMember p c → IsMember p d
    to p m =
        let low = low_c p.0 (member-map (λ (q : ℕ × Side). q.0) p c m) in
        side_from d p.0 p.1 (sym (same_side (side_of c p.0) (side_of d p.0) (same p.0 low)) ∙ side_in c p is_c m)

    from : (p : ℕ × Side) → IsMember p d → IsMember p c
    from p m =
        let low = low_d p.0 (member-map (λ (q : ℕ × Side). q.0) p d m) in
        side_from c p.0 p.1 (same_side (side_of c p.0) (side_of d p.0) (same p.0 low) ∙ side_in d p is_d m)
