-- Enumerations by their halves.
--
--   halves_are_shorter    == both halves of a list of more than one have fewer
--   enough_none, enough_one == how often a list may be cut doesn't matter, if that is often enough
--   none_by_halves, one_by_halves == what is said of more than one proposition, by that of the halves
--   propositions_in_halves == what stands in the halves of propositions are propositions
use Rattle.std.proofs.Common.{◌≡◌, ℕ, zero, suc, ◌+◌, ◌/◌, ◌<◌, ◌≤◌, List, [], ◌∷◌, length, take, drop, refl, arith, length-take, length-drop}
use Rattle.ml_text.specs.declared.token.Operator.TheVariants.{And, Or}
use Rattle.ml_ctl.specs.Enumerations.{ArePropositions, first_half, none, none_in, one, one_in, second_half}
use Rattle.ml_ctl.specs.Formula.{Binary}

-- ---- cutting often enough

pub first_is_shorter : (p q : List ℕ) (ps : List (List ℕ)) → length (first_half (p ∷ q ∷ ps)) ≤ length (q ∷ ps)
first_is_shorter p q ps = omega (arith, length-take ((length (p ∷ q ∷ ps) + 1) / 2) (p ∷ q ∷ ps))

pub second_is_shorter : (p q : List ℕ) (ps : List (List ℕ)) → length (second_half (p ∷ q ∷ ps)) ≤ length (q ∷ ps)
second_is_shorter p q ps = omega (arith, length-drop ((length (p ∷ q ∷ ps) + 1) / 2) (p ∷ q ∷ ps))

pub enough_none : (k l : ℕ) (ps : List (List ℕ)) → length ps ≤ k → length ps ≤ l → none_in k ps ≡ none_in l ps
enough_none k l [] low below = refl
enough_none k l (p ∷ []) low below = refl
enough_none zero l (p ∷ q ∷ ps) low below = absurd (omega (arith, low))
enough_none (suc k) zero (p ∷ q ∷ ps) low below = absurd (omega (arith, below))
enough_none (suc k) (suc l) (p ∷ q ∷ ps) low below =
    let first = first_is_shorter p q ps in
    let second = second_is_shorter p q ps in
    λ i. Binary And
    (enough_none k l (first_half (p ∷ q ∷ ps)) (omega (arith, low, first)) (omega (arith, below, first)) i)
    (enough_none k l (second_half (p ∷ q ∷ ps)) (omega (arith, low, second)) (omega (arith, below, second)) i)

pub enough_one : (k l : ℕ) (ps : List (List ℕ)) → length ps ≤ k → length ps ≤ l → one_in k ps ≡ one_in l ps
enough_one k l [] low below = refl
enough_one k l (p ∷ []) low below = refl
enough_one zero l (p ∷ q ∷ ps) low below = absurd (omega (arith, low))
enough_one (suc k) zero (p ∷ q ∷ ps) low below = absurd (omega (arith, below))
enough_one (suc k) (suc l) (p ∷ q ∷ ps) low below =
    let first = first_is_shorter p q ps in
    let second = second_is_shorter p q ps in
    let A = first_half (p ∷ q ∷ ps) in
    let B = second_half (p ∷ q ∷ ps) in
    λ i. Binary Or
    (Binary And
    (enough_one k l A (omega (arith, low, first)) (omega (arith, below, first)) i)
    (enough_none k l B (omega (arith, low, second)) (omega (arith, below, second)) i))
    (Binary And
    (enough_none k l A (omega (arith, low, first)) (omega (arith, below, first)) i)
    (enough_one k l B (omega (arith, low, second)) (omega (arith, below, second)) i))

-- ---- by halves

pub none_by_halves : (p q : List ℕ) (ps : List (List ℕ))
    → none (p ∷ q ∷ ps) ≡ Binary And (none (first_half (p ∷ q ∷ ps))) (none (second_half (p ∷ q ∷ ps)))
none_by_halves p q ps =
    let A = first_half (p ∷ q ∷ ps) in
    let B = second_half (p ∷ q ∷ ps) in
    λ i. Binary And
    (enough_none (length (q ∷ ps)) (length A) A (first_is_shorter p q ps) (omega arith) i)
    (enough_none (length (q ∷ ps)) (length B) B (second_is_shorter p q ps) (omega arith) i)

pub one_by_halves : (p q : List ℕ) (ps : List (List ℕ))
    → one (p ∷ q ∷ ps)
    ≡ Binary Or
    (Binary And (one (first_half (p ∷ q ∷ ps))) (none (second_half (p ∷ q ∷ ps))))
    (Binary And (none (first_half (p ∷ q ∷ ps))) (one (second_half (p ∷ q ∷ ps))))
one_by_halves p q ps =
    let A = first_half (p ∷ q ∷ ps) in
    let B = second_half (p ∷ q ∷ ps) in
    let first = first_is_shorter p q ps in
    let second = second_is_shorter p q ps in
    λ i. Binary Or
    (Binary And
    (enough_one (length (q ∷ ps)) (length A) A first (omega arith) i)
    (enough_none (length (q ∷ ps)) (length B) B second (omega arith) i))
    (Binary And
    (enough_none (length (q ∷ ps)) (length A) A first (omega arith) i)
    (enough_one (length (q ∷ ps)) (length B) B second (omega arith) i))

-- ---- of lists of more than one

pub first_is_short : (ps : List (List ℕ)) → 2 ≤ length ps → length (first_half ps) < length ps
first_is_short [] more = absurd (omega (arith, more))
first_is_short (p ∷ []) more = absurd (omega (arith, more))
first_is_short (p ∷ q ∷ ps) more = omega (arith, first_is_shorter p q ps)

pub second_is_short : (ps : List (List ℕ)) → 2 ≤ length ps → length (second_half ps) < length ps
second_is_short [] more = absurd (omega (arith, more))
second_is_short (p ∷ []) more = absurd (omega (arith, more))
second_is_short (p ∷ q ∷ ps) more = omega (arith, second_is_shorter p q ps)

pub none_of_more : (ps : List (List ℕ))
    → 2 ≤ length ps
    → none ps ≡ Binary And (none (first_half ps)) (none (second_half ps))
none_of_more [] more = absurd (omega (arith, more))
none_of_more (p ∷ []) more = absurd (omega (arith, more))
none_of_more (p ∷ q ∷ ps) more = none_by_halves p q ps

pub one_of_more : (ps : List (List ℕ))
    → 2 ≤ length ps
    → one ps
    ≡ Binary Or
    (Binary And (one (first_half ps)) (none (second_half ps)))
    (Binary And (none (first_half ps)) (one (second_half ps)))
one_of_more [] more = absurd (omega (arith, more))
one_of_more (p ∷ []) more = absurd (omega (arith, more))
one_of_more (p ∷ q ∷ ps) more = one_by_halves p q ps

-- ---- propositions

taken : (n : ℕ) (ps : List (List ℕ)) → ArePropositions ps → ArePropositions (take n ps)
taken zero ps all = tt
taken (suc n) [] all = tt
taken (suc n) (p ∷ ps) all = (all.0, taken n ps all.1)

dropped : (n : ℕ) (ps : List (List ℕ)) → ArePropositions ps → ArePropositions (drop n ps)
dropped zero ps all = all
dropped (suc n) [] all = tt
dropped (suc n) (p ∷ ps) all = dropped n ps all.1

pub first_propositions : (ps : List (List ℕ)) → ArePropositions ps → ArePropositions (first_half ps)
first_propositions ps all = taken ((length ps + 1) / 2) ps all

pub second_propositions : (ps : List (List ℕ)) → ArePropositions ps → ArePropositions (second_half ps)
second_propositions ps all = dropped ((length ps + 1) / 2) ps all
