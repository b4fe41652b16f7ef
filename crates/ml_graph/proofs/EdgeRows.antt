-- The rows that say for each action where edges lead, and how they grow edge by edge.
--
--   none_added   == an edge whose action isn't one of the graph's adds nothing
--   one_added    == any other edge adds its target to its row
--   no_targets   == of no edges, all rows are empty
--   more_targets == the rows of one edge more
--   emptied      == the rows that were emptied so far, and one more
use Rattle.std.proofs.Common.{ℕ, ◌≡◌, ◌+◌, ◌<◌, ◌==◌, ◌⊎◌, inl, inr, Bool, true, false, cond, List, [], ◌∷◌, ◌++◌, length, get_or, map, filter, refl, sym, ap, ◌∙◌, arith, set}
use Rattle.std.specs.Global.{Vec}
use Rattle.std.specs.Str.{bytes_eq}
use Rattle.std.proofs.lemmas.Bool.{cases_eq}
use Rattle.std.proofs.lemmas.Bool.Decides.{nat_tests}
use Rattle.std.proofs.lemmas.List.{append-nil, get_or-set_same, get_or-set_other, get_or-map, map-set, map-append, length-map, length-set}
use Rattle.std.proofs.lemmas.List.Elements.{filter-append}
use Rattle.ml_base.specs.declared.structure.Edge.{Edge}
use Rattle.ml_parity.specs.Refusal.{lists_of}
use Rattle.ml_graph.specs.private.Making.{targets_by, AreEmpty, HasTargets, HasAdded}

targets_by-append : (xs ys : List Edge) (a : List ℕ) → targets_by (xs ++ ys) a ≡ targets_by xs a ++ targets_by ys a
targets_by-append xs ys a =
    let test : Edge → Bool = λ e. bytes_eq e.action a in
    ap (map (λ (e : Edge). e.target)) (filter-append test xs ys)
    ∙ map-append (λ (e : Edge). e.target) (filter test xs) (filter test ys)

-- an edge has its target in the row of its action alone
of_one : (e : Edge) (a : List ℕ) (b : Bool)
    → bytes_eq e.action a ≡ b
    → targets_by (e ∷ []) a ≡ cond b (e.target ∷ []) []
of_one e a true is = ap (λ c. map (λ (x : Edge). x.target) (cond c (e ∷ []) [])) is
of_one e a false is = ap (λ c. map (λ (x : Edge). x.target) (cond c (e ∷ []) [])) is

pub none_added : (actions : List (List ℕ)) (e : Edge) (rows : List (Vec ℕ))
    → ((a : ℕ) → a < length actions → bytes_eq e.action (get_or actions a []) ≡ false) → HasAdded actions e rows rows
none_added actions e rows none = record {
  size = refl;
  row = λ a low.
      sym (ap (λ t. get_or (lists_of rows) a [] ++ t) (of_one e (get_or actions a []) false (none a low))
      ∙ append-nil (get_or (lists_of rows) a []));
}

pub one_added : (actions : List (List ℕ)) (e : Edge) (rows : List (Vec ℕ)) (j : ℕ) (row old : Vec ℕ)
    → j < length rows
    → ((a : ℕ) → a < length actions → bytes_eq e.action (get_or actions a []) ≡ (a == j))
    → row.items ≡ (get_or rows j old).items ++ e.target ∷ []
    → HasAdded actions e rows (set rows j row)
one_added actions e rows j row old j_low tests grown = record {
  size = length-set rows j row;
  row = λ a low. by_place a low (cases_eq a j);
}
  where
    behind : List (List ℕ)
    behind = lists_of (set rows j row)

    by_place : (a : ℕ) → a < length actions → (a ≡ j) ⊎ (a ≡ j → ⊥)
        → get_or (lists_of (set rows j row)) a []
        ≡ get_or (lists_of rows) a [] ++ targets_by (e ∷ []) (get_or actions a [])
    by_place a low (inl here) =
        let test : (a == j) ≡ true = grind (arith, nat_tests) in
        let added = of_one e (get_or actions a []) true (tests a low ∙ test) in
        let there : get_or (lists_of (set rows j row)) a [] ≡ row.items =
        ap (λ i. get_or (lists_of (set rows j row)) i []) here
        ∙ ap (λ xs. get_or xs j []) (map-set (λ (x : Vec ℕ). x.items) rows j row)
        ∙ get_or-set_same (lists_of rows) j row.items [] (omega (arith, length-map rows (λ (x : Vec ℕ). x.items))) in
        let before : get_or (lists_of rows) a [] ≡ (get_or rows j old).items =
        ap (λ i. get_or (lists_of rows) i []) here ∙ get_or-map (λ (x : Vec ℕ). x.items) rows j old [] j_low in
        there ∙ grown ∙ ap (λ xs. xs ++ e.target ∷ []) (sym before)
        ∙ ap (λ t. get_or (lists_of rows) a [] ++ t) (sym added)
    by_place a low (inr there) =
        let test : (a == j) ≡ false = grind (arith, nat_tests) in
        let nothing = of_one e (get_or actions a []) false (tests a low ∙ test) in
        ap (λ xs. get_or xs a []) (map-set (λ (x : Vec ℕ). x.items) rows j row)
        ∙ get_or-set_other (lists_of rows) j a row.items [] there
        ∙ sym (ap (λ t. get_or (lists_of rows) a [] ++ t) nothing ∙ append-nil (get_or (lists_of rows) a []))

-- of no edges, all rows are empty
pub no_targets : (actions : List (List ℕ)) (rows : List (Vec ℕ))
    → length rows ≡ length actions
    → AreEmpty rows
    → HasTargets actions [] rows
no_targets actions rows size empty = record { size = size; row = λ a low. empty a }

-- the rows of one edge more
pub more_targets : (actions : List (List ℕ)) (es : List Edge) (e : Edge) (rows rows2 : List (Vec ℕ))
    → HasTargets actions es rows → HasAdded actions e rows rows2 → HasTargets actions (es ++ e ∷ []) rows2
more_targets actions es e rows rows2 has added = record {
  size = added.size ∙ has.size;
  row = λ a low.
      added.row a low
      ∙ ap (λ t. t ++ targets_by (e ∷ []) (get_or actions a [])) (has.row a low)
      ∙ sym (targets_by-append es (e ∷ []) (get_or actions a []));
}

-- the rows that were emptied so far, and one more
pub emptied : (rows : List (Vec ℕ)) (i : ℕ) (row : Vec ℕ) → i < length rows → row.items ≡ []
    → ((k : ℕ) → k < i → get_or (lists_of rows) k [] ≡ []) → (k : ℕ) → k < i + 1
    → get_or (lists_of (set rows i row)) k [] ≡ []
emptied rows i row low empty before k k_low =
    ap (λ xs. get_or xs k []) (map-set (λ (x : Vec ℕ). x.items) rows i row) ∙ by_place (cases_eq k i)
  where
    by_place : (k ≡ i) ⊎ (k ≡ i → ⊥) → get_or (set (lists_of rows) i row.items) k [] ≡ []
    by_place (inl here) =
        ap (λ j. get_or (set (lists_of rows) i row.items) j []) here
        ∙ get_or-set_same (lists_of rows) i row.items [] (omega (arith, length-map rows (λ (x : Vec ℕ). x.items)))
        ∙ empty
    by_place (inr there) =
        let less : k < i = omega arith in get_or-set_other (lists_of rows) i k row.items [] there ∙ before k less
