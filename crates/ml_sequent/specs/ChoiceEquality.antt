-- When choices are equal, and what a hash reads of one.
--
-- Choices are equal if their lists are: pair by pair, the node and the side. A hash reads the length of the list and each
-- pair of it.
--
--   side_eq, pair_eq, choice_eq == the sides, the pairs, the choices are one
--   side_writes, pair_writes, choice_writes == what a hash reads of them
--
-- Their laws stand below them.
use Rattle.std.specs.Prelude.{◌≡◌, ℕ, Bool, true, false, nat_eq, List, [], ◌∷◌, ◌++◌, pos, refl}
use Rattle.std.specs.Ordering.{on, eq_of_both}
use Rattle.std.specs.Cmp.{IsEquivalence, first_so, second_so}
use Rattle.std.specs.Cmp.Lexicographic.{pointwise}
use Rattle.std.specs.Hash.{HashWrites}
use Rattle.std.specs.Hash as fed
use Rattle.std.proofs.Common.{subst}
use Rattle.std.proofs.lemmas.Bool.{eqb-true}
use Rattle.std.proofs.lemmas.Cmp.{on_equiv, and_equiv, nat_eq_equiv, lists_equiv}
use Rattle.ml_sequent.specs.declared.choice.Side.{Side}
use Rattle.ml_sequent.specs.declared.choice.Side.TheVariants.{Left, Right}

-- the sides are one
abbrev pub side_eq : Side → Side → Bool
side_eq Left Left = true
side_eq Left Right = false
side_eq Right Left = false
side_eq Right Right = true

-- the pairs are one
abbrev pub pair_eq : (ℕ × Side) → (ℕ × Side) → Bool
pair_eq = eq_of_both (on (λ (p : ℕ × Side). p.0) nat_eq) (on (λ (p : ℕ × Side). p.1) side_eq)

-- the choices are one
abbrev pub choice_eq : List (ℕ × Side) → List (ℕ × Side) → Bool
choice_eq = pointwise pair_eq

-- what a hash reads of a side: which variant it is
abbrev pub side_writes : Side → HashWrites
side_writes Left = fed.isize (pos 0)
side_writes Right = fed.isize (pos 1)

-- what it reads of a pair
abbrev pub pair_writes : (ℕ × Side) → HashWrites
pair_writes p = fed.u32 p.0 ++ side_writes p.1

-- what it reads of a choice: the length, and each pair
abbrev pub choice_writes : List (ℕ × Side) → HashWrites
choice_writes = fed.slice pair_writes

-- ---- laws

side_eq_equiv : IsEquivalence side_eq
side_eq_equiv = record { refl = same; symm = back; congr = along }
  where
    same : (s : Side) → side_eq s s ≡ true
    same Left = refl
    same Right = refl

    back : (s t : Side) → side_eq s t ≡ side_eq t s
    back Left Left = refl
    back Left Right = refl
    back Right Left = refl
    back Right Right = refl

    along : (s t u : Side) → side_eq s t ≡ true → side_eq s u ≡ side_eq t u
    along Left Left u e = refl
    along Left Right u e = absurd (cc)
    along Right Left u e = absurd (cc)
    along Right Right u e = refl

pub choice_eq_equiv : IsEquivalence choice_eq
choice_eq_equiv = lists_equiv (and_equiv (on_equiv (λ (p : ℕ × Side). p.0) nat_eq_equiv) (on_equiv (λ (p : ℕ × Side). p.1) side_eq_equiv))

side_eq-same : (s t : Side) → side_eq s t ≡ true → s ≡ t
side_eq-same Left Left e = refl
side_eq-same Left Right e = absurd (cc)
side_eq-same Right Left e = absurd (cc)
side_eq-same Right Right e = refl

pair_eq-same : (p q : ℕ × Side) → pair_eq p q ≡ true → p ≡ q
pair_eq-same p q e =
    let nodes = eqb-true p.0 q.0 (first_so (nat_eq p.0 q.0) (side_eq p.1 q.1) e) in
    let sides = side_eq-same p.1 q.1 (second_so (nat_eq p.0 q.0) (side_eq p.1 q.1) e) in
    λ i. (nodes i, sides i)

-- choices of which choice_eq holds are one, and of one choice it holds
pub choice_eq-same : (c d : List (ℕ × Side)) → choice_eq c d ≡ true → c ≡ d
choice_eq-same [] [] e = refl
choice_eq-same [] (q ∷ d) e = absurd (cc)
choice_eq-same (p ∷ c) [] e = absurd (cc)
choice_eq-same (p ∷ c) (q ∷ d) e =
    let here = pair_eq-same p q (first_so (pair_eq p q) (choice_eq c d) e) in
    let rest = choice_eq-same c d (second_so (pair_eq p q) (choice_eq c d) e) in
    λ i. here i ∷ rest i

pub choice_eq-decides : (c d : List (ℕ × Side)) → (choice_eq c d ≡ true → c ≡ d) × (c ≡ d → choice_eq c d ≡ true)
choice_eq-decides c d = (choice_eq-same c d, λ e. subst (λ x. choice_eq c x ≡ true) e (choice_eq_equiv.refl c))
