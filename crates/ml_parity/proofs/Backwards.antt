-- The moves of a game from behind.
--
--   PredecessorsFrom == the lists of predecessors, as far as the moves of the vertices from n on make them
--   added_more       == one move more
--   from_none, from_more, from_all == one vertex more
--   ChainsFrom       == the same of chains
--   adds_more, chains_begin, from_turn, chains_end == the same steps, in chains
use Rattle.std.proofs.Common.{ℕ, ◌≡◌, ◌+◌, ◌-◌, ◌<◌, ◌≤◌, ◌⊎◌, inl, inr, arith, List, [], ◌∷◌, ◌++◌, length, get_or, set, take, nat_eq, eq-eqb}
use Rattle.std.proofs.Common.{ne_eqb, replicate, subst, subst₂, sym, ap, ◌∙◌, refl, get_or-set_same, get_or-set_other, length-set}
use Rattle.std.proofs.lemmas.Bool.{cases_eq}
use Rattle.std.proofs.lemmas.List.{get_or_past, get_or-replicate, length-replicate}
use Rattle.std.proofs.lemmas.List.Sums.{count_by_more_yes, count_by_more_no}
use Rattle.ml_parity.specs.Game.{ParityGame, size, moves_of}
use Rattle.ml_parity.specs.declared.zielonka.predecessors.Arrow.{Arrow}
use Rattle.ml_parity.specs.private.Chains.{AddsTo, AreChains}
use Rattle.ml_parity.specs.private.SolverSteps.{times, ArePredecessors, IsAdded}
use Rattle.ml_parity.proofs.ChainsOfMoves.{chains_none, chains_more}
use Rattle.ml_parity.proofs.HeightRaises.{written}
use Rattle.ml_parity.proofs.Occurrences.{times_here, times_other}

-- the lists of predecessors, as far as the moves of the vertices from n on make them
pub record PredecessorsFrom (g : ParityGame) (preds : List (List ℕ)) (n : ℕ) : Type 0 where
  pub lists : length preds ≡ size g
  pub each : (v u : ℕ) → v < size g → n ≤ u → times u (get_or preds v []) ≡ times v (moves_of g u)
  pub none : (v u : ℕ) → v < size g → u < n → times u (get_or preds v []) ≡ 0

-- all vertices are done
pub from_all : (g : ParityGame) (preds : List (List ℕ)) → PredecessorsFrom g preds 0 → ArePredecessors g preds
from_all g preds b = record { lists = b.lists; each = λ v u low. b.each v u low (omega arith) }

-- one vertex more
pub from_more : (g : ParityGame) (preds preds2 : List (List ℕ)) (u : ℕ) → PredecessorsFrom g preds (u + 1)
    → IsAdded preds preds2 u (moves_of g u) → PredecessorsFrom g preds2 u
from_more g preds preds2 u b a = record {
  lists = a.lists ∙ b.lists;
  each = λ v x low late. each v x low late (cases_eq x u);
  none = λ v x low early. a.elsewhere v x (omega (arith, b.lists)) (λ same. omega arith) ∙ b.none v x low (omega arith);
}
  where
    each : (v x : ℕ)
        → v < size g
        → u ≤ x
        → (x ≡ u) ⊎ (x ≡ u → ⊥)
        → times x (get_or preds2 v []) ≡ times v (moves_of g x)
    each v x low late (inl same) =
        let now = a.here v (omega (arith, b.lists)) in
        let before = b.none v u low (omega arith) in
        let here : times u (get_or preds2 v []) ≡ times v (moves_of g u) = omega arith in
        subst (λ y. times y (get_or preds2 v []) ≡ times v (moves_of g y)) (sym same) here
    each v x low late (inr other) = a.elsewhere v x (omega (arith, b.lists)) other ∙ b.each v x low (omega arith)

-- one move more
pub added_more : (old rows : List (List ℕ)) (u i w : ℕ) (moves : List ℕ)
    → i < length moves
    → w ≡ get_or moves i 0
    → w < length rows
    → IsAdded old rows u (take i moves)
    → IsAdded old (set rows w (u ∷ get_or rows w [])) u (take (i + 1) moves)
added_more old rows u i w moves inside is low so = record {
  lists = length-set rows w (u ∷ get_or rows w []) ∙ so.lists;
  here = λ v below. here v below (cases_eq w v);
  elsewhere = λ v x below other. elsewhere v x below other (cases_eq v w);
}
  where
    rows2 : List (List ℕ)
    rows2 = set rows w (u ∷ get_or rows w [])

    kept : (v : ℕ) → (v ≡ w → ⊥) → get_or rows2 v [] ≡ get_or rows v []
    kept v other = get_or-set_other rows w v (u ∷ get_or rows w []) [] other

    at : get_or rows2 w [] ≡ u ∷ get_or rows w []
    at = get_or-set_same rows w (u ∷ get_or rows w []) [] low

    here : (v : ℕ) → v < length old → (w ≡ v) ⊎ (w ≡ v → ⊥)
        → times u (get_or rows2 v []) ≡ times u (get_or old v []) + times v (take (i + 1) moves)
    here v below (inl same) =
        let count = count_by_more_yes (λ y. nat_eq y v) moves i 0 inside
        (eq-eqb (get_or moves i 0) v (sym is ∙ same)) in
        let one : times u (get_or rows2 v []) ≡ 1 + times u (get_or rows v []) =
        subst (λ j. times u (get_or rows2 j []) ≡ 1 + times u (get_or rows j [])) same
        (ap (times u) at ∙ times_here u u (get_or rows w []) refl) in
        let before = so.here v below in
        omega arith
    here v below (inr other) =
        let count = count_by_more_no (λ y. nat_eq y v) moves i 0 inside
        (ne_eqb (get_or moves i 0) v (λ e. other (is ∙ e))) in
        let same = ap (times u) (kept v (λ e. other (sym e))) in
        let before = so.here v below in
        omega arith

    elsewhere : (v x : ℕ) → v < length old → (x ≡ u → ⊥) → (v ≡ w) ⊎ (v ≡ w → ⊥)
        → times x (get_or rows2 v []) ≡ times x (get_or old v [])
    elsewhere v x below other (inl same) =
        subst (λ j. times x (get_or rows2 j []) ≡ times x (get_or rows j [])) (sym same)
        (ap (times x) at ∙ times_other x u (get_or rows w []) (λ e. other (sym e)))
        ∙ so.elsewhere v x below other
    elsewhere v x below other (inr differs) = ap (times x) (kept v differs) ∙ so.elsewhere v x below other

-- no vertex so far
pub from_none : (g : ParityGame) (n : ℕ) → length g.successors ≡ size g → n ≡ size g
    → PredecessorsFrom g (replicate n []) n
from_none g n long is = record {
  lists = length-replicate n [] ∙ is;
  each = λ v u low late. nowhere v u low ∙ ap (times v) (sym (get_or_past g.successors u [] (omega arith)));
  none = λ v u low early. nowhere v u low;
}
  where
    nowhere : (v u : ℕ) → v < size g → times u (get_or (replicate n []) v []) ≡ 0
    nowhere v u low = ap (times u) (get_or-replicate n v [] [] (omega (arith, is)))

-- the chains, as far as the moves of the vertices from n on make them
abbrev pub ChainsFrom : ParityGame → List ℕ → List Arrow → ℕ → Type 0
ChainsFrom g last arrows n = (rows : List (List ℕ)) × AreChains last arrows rows × PredecessorsFrom g rows n

-- one move more in the chains
pub adds_more : (last0 last : List ℕ) (arrows0 arrows arrows2 : List Arrow) (u i w b n : ℕ) (moves : List ℕ)
    → i < length moves
    → w ≡ get_or moves i 0
    → w < length last
    → b ≡ get_or last w 0
    → arrows2 ≡ arrows ++ (record { source = u; before = b }) ∷ []
    → n ≡ length arrows2
    → AddsTo last0 arrows0 last arrows u (take i moves)
    → AddsTo last0 arrows0 (set last w n) arrows2 u (take (i + 1) moves)
adds_more last0 last arrows0 arrows arrows2 u i w b n moves inside is low before grown count so = λ rows chains.
    let now = so rows chains in
    let x : Arrow = record { source = u; before = b } in (
      set now.0 w (u ∷ get_or now.0 w []),
      subst (λ (bs : List Arrow). AreChains (set last w n) bs (set now.0 w (u ∷ get_or now.0 w []))) (sym grown)
          (chains_more last arrows now.0 x w n low before (count ∙ ap length grown) now.1),
      added_more rows now.0 u i w moves inside is (omega (arith, now.1.lists)) now.2,
    )

-- one vertex more in the chains, as the program adds it
pub from_turn : (g : ParityGame) (k n : ℕ) (last slice new ys : List ℕ) (arrows arrows2 : List Arrow) (moves : List ℕ)
    → 0 < n
    → k ≡ length last
    → slice ≡ last
    → moves ≡ moves_of g (n - 1)
    → ChainsFrom g last arrows n
    → AddsTo slice arrows new arrows2 (n - 1) moves
    → ChainsFrom g (take k (new ++ ys)) arrows2 (n - 1)
from_turn g k n last slice new ys arrows arrows2 moves some count same is (rows, chains, so_far) adds =
    let now = adds rows (subst (λ xs. AreChains xs arrows rows) (sym same) chains) in
    let long : k ≡ length new = omega (arith, count, chains.lists, now.2.lists, now.1.lists) in
    let next : n ≡ n - 1 + 1 = omega (arith, some) in
    let one_more : IsAdded rows now.0 (n - 1) (moves_of g (n - 1)) = subst (λ ms. IsAdded rows now.0 (n - 1) ms) is now.2 in (
      now.0,
      subst (λ xs. AreChains xs arrows2 now.0) (sym (written k new ys long)) now.1,
      from_more g rows now.0 (n - 1) (subst (PredecessorsFrom g rows) next so_far) one_more,
    )

-- no vertex so far
pub chains_begin : (g : ParityGame) (n : ℕ) (last : List ℕ) (arrows : List Arrow)
    → length g.successors ≡ size g
    → n ≡ size g
    → last ≡ replicate n 0
    → ChainsFrom g last arrows n
chains_begin g n last arrows long is none = (replicate n [], chains_none n last arrows none, from_none g n long is)

-- all vertices are done
pub chains_end : (g : ParityGame) (n : ℕ) (last slice : List ℕ) (arrows seen : List Arrow) (made : List (List ℕ))
    → n ≡ 0
    → slice ≡ last
    → seen ≡ arrows
    → ChainsFrom g last arrows n
    → ((rows : List (List ℕ)) → AreChains slice seen rows → made ≡ rows)
    → ArePredecessors g made
chains_end g n last slice arrows seen made done same alike (rows, chains, so_far) so =
    let all = so rows (subst₂ (λ xs ys. AreChains xs ys rows) (sym same) (sym alike) chains) in
    subst (ArePredecessors g) (sym all) (from_all g rows (subst (PredecessorsFrom g rows) done so_far))
