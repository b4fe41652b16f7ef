-- The equality of nodes, as values, is decided: a node is its parts.
--
--   Parts                == how many roots stand before a node, which kind it is of, and what it holds
--   parts_of, place_from == the parts of a node, and the node of these parts
--   same_place           == of nodes
use Rattle.std.proofs.Common.{ℕ, zero, suc, ◌≡◌, ◌==◌, inl, inr, Bool, true, false, if◌then◌else◌, List, [], ◌∷◌, get_or, refl, sym, ap, ◌∙◌}
use Rattle.ml_lists.proofs.Decided.{Decided, decided_same, decided_both, decided_number, decided_list}
use Rattle.ml_ctl.specs.Formula.{Formula, Const}
use Rattle.ml_ctl.proofs.FormulaEquality.{same_formula}
use Rattle.ml_blocks.specs.Items.{Item}
use Rattle.ml_blocks.specs.Places.{Place, Root, Total, HasEdge, LeadsOn, True, False, Holding, Both, Neither, Path}

same_truth : (a b : Bool) → Decided (a ≡ b)
same_truth true true = inl refl
same_truth true false = inr (λ e. cc)
same_truth false true = inr (λ e. cc)
same_truth false false = inl refl

abbrev Fields : Item → Item → Type 0
Fields x y =
    (x.number ≡ y.number) × ((x.formula ≡ y.formula) × ((x.positive ≡ y.positive) × (x.later ≡ y.later)))

same_item : (x y : Item) → Decided (x ≡ y)
same_item x y =
    decided_same there back
    (decided_both (decided_number x.number y.number)
    (decided_both (same_formula x.formula y.formula)
    (decided_both (same_truth x.positive y.positive) (same_truth x.later y.later))))
  where
    there : Fields x y → x ≡ y
    there e = λ i. record { number = e.0 i; formula = e.1.0 i; positive = e.1.1.0 i; later = e.1.1.1 i }

    back : x ≡ y → Fields x y
    back e = (
      ap (λ (z : Item). z.number) e,
      (ap (λ (z : Item). z.formula) e, (ap (λ (z : Item). z.positive) e, ap (λ (z : Item). z.later) e)),
    )

-- ---- nodes

record Parts : Type 0 where
  pub roots : ℕ
  pub kind : ℕ
  pub number : ℕ
  pub sign : Bool
  pub formulas : List Formula
  pub items : List Item

abbrev constant : ℕ → Parts
constant kind = record { roots = 0; kind = kind; number = 0; sign = true; formulas = []; items = [] }

abbrev parts_of : Place → Parts
parts_of (Root p) =
    let x = parts_of p in
    record {
      roots = suc x.roots;
      kind = x.kind;
      number = x.number;
      sign = x.sign;
      formulas = x.formulas;
      items = x.items;
    }
parts_of Total = constant 0
parts_of HasEdge = constant 1
parts_of LeadsOn = constant 2
parts_of True = constant 3
parts_of False = constant 4
parts_of (Holding i f sign) =
    record { roots = 0; kind = 5; number = i; sign = sign; formulas = f ∷ []; items = [] }
parts_of (Both i f g sign) =
    record { roots = 0; kind = 6; number = i; sign = sign; formulas = f ∷ g ∷ []; items = [] }
parts_of (Neither i f g sign) =
    record { roots = 0; kind = 7; number = i; sign = sign; formulas = f ∷ g ∷ []; items = [] }
parts_of (Path b) =
    record { roots = 0; kind = 8; number = b.focus; sign = b.positive; formulas = []; items = b.first ∷ b.items }

abbrev path_with : ℕ → Bool → List Item → Place
path_with k sign [] = Total
path_with k sign (x ∷ xs) = Path (record { first = x; positive = sign; items = xs; focus = k })

abbrev formula_at : List Formula → ℕ → Formula
formula_at fs k = get_or fs k (Const true)

abbrev place_with : (kind number : ℕ) → Bool → List Formula → List Item → Place
place_with kind n sign fs xs =
    if kind == 0 then Total
    else if kind == 1 then HasEdge
    else if kind == 2 then LeadsOn
    else if kind == 3 then True
    else if kind == 4 then False
    else if kind == 5 then Holding n (formula_at fs 0) sign
    else if kind == 6 then Both n (formula_at fs 0) (formula_at fs 1) sign
    else if kind == 7 then Neither n (formula_at fs 0) (formula_at fs 1) sign
    else path_with n sign xs

abbrev behind_roots : ℕ → Place → Place
behind_roots zero p = p
behind_roots (suc n) p = Root (behind_roots n p)

abbrev place_from : Parts → Place
place_from x = behind_roots x.roots (place_with x.kind x.number x.sign x.formulas x.items)

place_from-parts_of : (p : Place) → place_from (parts_of p) ≡ p
place_from-parts_of (Root p) = ap Root (place_from-parts_of p)
place_from-parts_of Total = refl
place_from-parts_of HasEdge = refl
place_from-parts_of LeadsOn = refl
place_from-parts_of True = refl
place_from-parts_of False = refl
place_from-parts_of (Holding i f sign) = refl
place_from-parts_of (Both i f g sign) = refl
place_from-parts_of (Neither i f g sign) = refl
place_from-parts_of (Path b) = refl

abbrev Alike : Parts → Parts → Type 0
Alike x y =
    (x.roots ≡ y.roots) × ((x.kind ≡ y.kind) × ((x.number ≡ y.number) × ((x.sign ≡ y.sign)
    × ((x.formulas ≡ y.formulas) × (x.items ≡ y.items)))))

same_parts : (x y : Parts) → Decided (x ≡ y)
same_parts x y =
    decided_same there back
    (decided_both (decided_number x.roots y.roots)
    (decided_both (decided_number x.kind y.kind)
    (decided_both (decided_number x.number y.number)
    (decided_both (same_truth x.sign y.sign)
    (decided_both (decided_list same_formula x.formulas y.formulas) (decided_list same_item x.items y.items))))))
  where
    there : Alike x y → x ≡ y
    there e = λ i. record {
      roots = e.0 i;
      kind = e.1.0 i;
      number = e.1.1.0 i;
      sign = e.1.1.1.0 i;
      formulas = e.1.1.1.1.0 i;
      items = e.1.1.1.1.1 i;
    }

    back : x ≡ y → Alike x y
    back e = (
      ap (λ (z : Parts). z.roots) e,
      (
        ap (λ (z : Parts). z.kind) e,
        (
          ap (λ (z : Parts). z.number) e,
          (
            ap (λ (z : Parts). z.sign) e,
            (ap (λ (z : Parts). z.formulas) e, ap (λ (z : Parts). z.items) e),
          ),
        ),
      ),
    )

pub same_place : (p q : Place) → Decided (p ≡ q)
same_place p q =
    decided_same (λ e. sym (place_from-parts_of p) ∙ ap place_from e ∙ place_from-parts_of q) (ap parts_of)
    (same_parts (parts_of p) (parts_of q))
