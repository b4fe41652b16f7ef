-- The equality of nodes, as values, is decided: a node is told by numbers and formulas.
--
--   parts_of p  == how many roots stand before p; its kind, its occurrence and its sign; its formulas
--   place_from  == the node of such parts
--   same_place  == nodes are equal or not
use Rattle.std.proofs.Common.{ℕ, zero, suc, ◌≡◌, ◌==◌, Bool, true, false, if◌then◌else◌, List, [], ◌∷◌, get_or, refl, sym, ap, ◌∙◌}
use Rattle.ml_lists.proofs.Decided.{Decided, decided_same, decided_both, decided_number, decided_bytes, decided_list}
use Rattle.ml_ctl.specs.Formula.{Formula, Const, Paired}
use Rattle.ml_ctl.proofs.FormulaEquality.{same_formula}
use Rattle.ml_word_graph.specs.WordGraph.{Place, Root, Total, HasEdge, LeadsOn, True, Now, Later, Rest, Both, Neither}

abbrev Parts : Type 0
Parts = ℕ × (List ℕ × List Formula)

abbrev sign_number : Bool → ℕ
sign_number true = 1
sign_number false = 0

abbrev parts : ℕ → ℕ → Bool → List Formula → Parts
parts kind i sign fs = (0, (kind ∷ i ∷ sign_number sign ∷ [], fs))

-- one root more before it
abbrev behind_root : Parts → Parts
behind_root x = (suc x.0, x.1)

abbrev parts_of : Place → Parts
parts_of (Root p) = behind_root (parts_of p)
parts_of Total = parts 0 0 true []
parts_of HasEdge = parts 1 0 true []
parts_of LeadsOn = parts 2 0 true []
parts_of True = parts 3 0 true []
parts_of (Now i f sign) = parts 4 i sign (f ∷ [])
parts_of (Later i f sign) = parts 5 i sign (f ∷ [])
parts_of (Rest i k f g sign) = parts 6 i sign (Paired k f g ∷ [])
parts_of (Both i f g sign) = parts 7 i sign (f ∷ g ∷ [])
parts_of (Neither i f g sign) = parts 8 i sign (f ∷ g ∷ [])

abbrev rest_of : ℕ → Formula → Bool → Place
rest_of i (Paired k f g) sign = Rest i k f g sign
rest_of i f sign = Total

abbrev formula_at : List Formula → ℕ → Formula
formula_at fs k = get_or fs k (Const true)

abbrev place_with : (kind number : ℕ) → Bool → List Formula → Place
place_with kind i sign fs =
    if kind == 0 then Total
    else if kind == 1 then HasEdge
    else if kind == 2 then LeadsOn
    else if kind == 3 then True
    else if kind == 4 then Now i (formula_at fs 0) sign
    else if kind == 5 then Later i (formula_at fs 0) sign
    else if kind == 6 then rest_of i (formula_at fs 0) sign
    else if kind == 7 then Both i (formula_at fs 0) (formula_at fs 1) sign
    else Neither i (formula_at fs 0) (formula_at fs 1) sign

abbrev behind_roots : ℕ → Place → Place
behind_roots zero p = p
behind_roots (suc n) p = Root (behind_roots n p)

abbrev place_from : Parts → Place
place_from x = behind_roots x.0 (place_with (get_or x.1.0 0 0) (get_or x.1.0 1 0) (get_or x.1.0 2 0 == 1) x.1.1)

place_from-parts_of : (p : Place) → place_from (parts_of p) ≡ p
place_from-parts_of (Root p) = ap Root (place_from-parts_of p)
place_from-parts_of Total = refl
place_from-parts_of HasEdge = refl
place_from-parts_of LeadsOn = refl
place_from-parts_of True = refl
place_from-parts_of (Now i f true) = refl
place_from-parts_of (Now i f false) = refl
place_from-parts_of (Later i f true) = refl
place_from-parts_of (Later i f false) = refl
place_from-parts_of (Rest i k f g true) = refl
place_from-parts_of (Rest i k f g false) = refl
place_from-parts_of (Both i f g true) = refl
place_from-parts_of (Both i f g false) = refl
place_from-parts_of (Neither i f g true) = refl
place_from-parts_of (Neither i f g false) = refl

same_parts : (x y : Parts) → Decided (x ≡ y)
same_parts x y =
    decided_same (λ (all : (x.0 ≡ y.0) × ((x.1.0 ≡ y.1.0) × (x.1.1 ≡ y.1.1))) i. (all.0 i, (all.1.0 i, all.1.1 i)))
    (λ e. (ap (λ (z : Parts). z.0) e, (ap (λ (z : Parts). z.1.0) e, ap (λ (z : Parts). z.1.1) e)))
    (decided_both (decided_number x.0 y.0) (decided_both (decided_bytes x.1.0 y.1.0) (decided_list same_formula x.1.1 y.1.1)))

pub same_place : (p q : Place) → Decided (p ≡ q)
same_place p q =
    decided_same (λ e. sym (place_from-parts_of p) ∙ ap place_from e ∙ place_from-parts_of q) (ap parts_of)
    (same_parts (parts_of p) (parts_of q))
