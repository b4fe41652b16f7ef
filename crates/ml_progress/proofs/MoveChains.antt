-- The moves of a game in chains, one for each vertex to which they lead.
--
--   chain_grown   == what is in a chain stays there when an arrow is put behind all others
--   moves_none    == no move so far
--   moves_more    == one move more
--   chains_more   == one vertex more
use Rattle.std.proofs.Common.{ℕ, ◌≡◌, ◌+◌, ◌-◌, ◌<◌, ◌≤◌, ◌⊎◌, inl, inr, arith, List, [], ◌∷◌, ◌++◌, length, get_or, set, take, drop, sym, ap, ◌∙◌, subst, length-append, length-set}
use Rattle.std.proofs.lemmas.Bool.{cases_eq, cases_lt}
use Rattle.std.proofs.lemmas.List.{get_or_append_left, get_or_push, get_or-set_same, get_or-set_other, get_or_default}
use Rattle.ml_parity.specs.Game.{ParityGame, HasMove, moves_of}
use Rattle.ml_progress.specs.declared.predecessors.Arrow.{Arrow}
use Rattle.ml_progress.proofs.HandedBack.{handed_back}
use Rattle.ml_progress.specs.private.Waits.{InChain, here, later, no_arrow, arrow_at, IsLinked, AreChained, AddsMoves, ChainsUpTo}

module _ (n : ℕ) (arrows : List Arrow) (x : Arrow) (linked : IsLinked n arrows) where
  arrow_stays : (at : ℕ) → 0 < at → at ≤ length arrows → arrow_at (arrows ++ x ∷ []) at ≡ arrow_at arrows at
  arrow_stays at some low = get_or_append_left arrows (x ∷ []) no_arrow (at - 1) (omega arith)

  arrow_last : (at : ℕ) → at ≡ length arrows + 1 → arrow_at (arrows ++ x ∷ []) at ≡ x
  arrow_last at is = get_or_push arrows x no_arrow (at - 1) (omega arith)

  -- what is in a chain stays there when an arrow is put behind all others
  pub chain_grown : (u at : ℕ) → at ≤ length arrows → InChain arrows u at → InChain (arrows ++ x ∷ []) u at
  chain_grown u at low (here _ some is) = here at some (ap (λ (a : Arrow). a.source) (arrow_stays at some low) ∙ is)
  chain_grown u at low (later _ some rest) =
      later at some (subst (λ (a : Arrow). InChain (arrows ++ x ∷ []) u a.before) (sym (arrow_stays at some low))
      (chain_grown u (arrow_at arrows at).before (omega (arith, linked.falls at some low)) rest))

  pub linked_more : x.source < n → x.before ≤ length arrows → IsLinked n (arrows ++ x ∷ [])
  linked_more low before = record { sources = sources; falls = falls }
    where
      sources : (at : ℕ) → 0 < at → at ≤ length (arrows ++ x ∷ []) → (arrow_at (arrows ++ x ∷ []) at).source < n
      sources at some within = by_case (cases_lt (length arrows) at)
        where
          by_case : (length arrows < at) ⊎ (at ≤ length arrows) → (arrow_at (arrows ++ x ∷ []) at).source < n
          by_case (inl last) =
              subst (λ (a : Arrow). a.source < n) (sym (arrow_last at (omega (arith, length-append arrows (x ∷ []))))) low
          by_case (inr early) =
              subst (λ (a : Arrow). a.source < n) (sym (arrow_stays at some early)) (linked.sources at some early)

      falls : (at : ℕ) → 0 < at → at ≤ length (arrows ++ x ∷ []) → (arrow_at (arrows ++ x ∷ []) at).before < at
      falls at some within = by_case (cases_lt (length arrows) at)
        where
          by_case : (length arrows < at) ⊎ (at ≤ length arrows) → (arrow_at (arrows ++ x ∷ []) at).before < at
          by_case (inl last) =
              subst (λ (a : Arrow). a.before < at) (sym (arrow_last at (omega (arith, length-append arrows (x ∷ [])))))
              (omega arith)
          by_case (inr early) =
              subst (λ (a : Arrow). a.before < at) (sym (arrow_stays at some early)) (linked.falls at some early)

-- no move so far
pub moves_none : (n u : ℕ) (moves last : List ℕ) (arrows : List Arrow) → AreChained n last arrows
    → AddsMoves n u 0 moves last arrows last arrows
moves_none n u moves last arrows chained =
    record { chained = chained; kept = λ w v c. c; added = λ j low. absurd (omega arith) }

-- one move more
module _ (n u k to count : ℕ) (moves last0 last : List ℕ) (arrows0 arrows arrows2 : List Arrow)
    (adds : AddsMoves n u k moves last0 arrows0 last arrows)
    (vertex : u < n)
    (is : to ≡ get_or moves k 0)
    (low : to < n)
    (grown : arrows2 ≡ arrows ++ (record { source = u; before = get_or last to 0 }) ∷ [])
    (counted : count ≡ length arrows2) where
  long2 : length arrows2 ≡ length arrows + 1
  long2 = ap length grown ∙ length-append arrows ((record { source = u; before = get_or last to 0 }) ∷ [])

  last_here : get_or (set last to count) to 0 ≡ count
  last_here = get_or-set_same last to count 0 (omega (arith, adds.chained.long))

  last_there : (v : ℕ) → (v ≡ to → ⊥) → get_or (set last to count) v 0 ≡ get_or last v 0
  last_there v differs = get_or-set_other last to v count 0 differs

  grows : (w at : ℕ) → at ≤ length arrows → InChain arrows w at → InChain arrows2 w at
  grows w at within c = subst (λ bs. InChain bs w at) (sym grown)
      (chain_grown n arrows (record { source = u; before = get_or last to 0 }) adds.chained.linked w at within c)

  newest : arrow_at arrows2 count ≡ record { source = u; before = get_or last to 0 }
  newest = ap (λ bs. arrow_at bs count) grown
      ∙ arrow_last n arrows (record { source = u; before = get_or last to 0 }) adds.chained.linked count
      (omega (arith, counted, long2))

  chained2 : AreChained n (set last to count) arrows2
  chained2 = record {
    long = length-set last to count ∙ adds.chained.long;
    low = λ v. by_case v (cases_eq v to);
    linked = subst (IsLinked n) (sym grown)
        (linked_more n arrows (record { source = u; before = get_or last to 0 }) adds.chained.linked vertex
        (adds.chained.low to));
  }
    where
      by_case : (v : ℕ) → (v ≡ to) ⊎ (v ≡ to → ⊥) → get_or (set last to count) v 0 ≤ length arrows2
      by_case v (inl same) =
          let e = ap (λ j. get_or (set last to count) j 0) same in omega (arith, counted, last_here)
      by_case v (inr differs) = omega (arith, long2, last_there v differs, adds.chained.low v)

  kept2 : (w v : ℕ) → InChain arrows w (get_or last v 0) → InChain arrows2 w (get_or (set last to count) v 0)
  kept2 w v c = by_case (cases_eq v to)
    where
      by_case : (v ≡ to) ⊎ (v ≡ to → ⊥) → InChain arrows2 w (get_or (set last to count) v 0)
      by_case (inl same) =
          subst (λ j. InChain arrows2 w (get_or (set last to count) j 0)) (sym same)
          (subst (InChain arrows2 w) (sym last_here)
          (later count (omega (arith, counted, long2))
          (subst (λ (a : Arrow). InChain arrows2 w a.before) (sym newest)
          (grows w (get_or last to 0) (adds.chained.low to)
          (subst (λ j. InChain arrows w (get_or last j 0)) same c)))))
      by_case (inr differs) = subst (InChain arrows2 w) (sym (last_there v differs))
          (grows w (get_or last v 0) (adds.chained.low v) c)

  pub moves_more : AddsMoves n u (k + 1) moves last0 arrows0 (set last to count) arrows2
  moves_more = record {
    chained = chained2;
    kept = λ w v c. kept2 w v (adds.kept w v c);
    added = λ j less. by_case j less (cases_eq j k);
  }
    where
      by_case : (j : ℕ) → j < k + 1 → (j ≡ k) ⊎ (j ≡ k → ⊥)
          → InChain arrows2 u (get_or (set last to count) (get_or moves j 0) 0)
      by_case j less (inl same) =
          subst (λ v. InChain arrows2 u (get_or (set last to count) v 0)) (is ∙ ap (λ i. get_or moves i 0) (sym same))
          (subst (InChain arrows2 u) (sym last_here)
          (here count (omega (arith, counted, long2)) (ap (λ (a : Arrow). a.source) newest)))
      by_case j less (inr differs) = kept2 u (get_or moves j 0) (adds.added j (omega arith))

-- one vertex more, as the program adds it
pub chains_more : (g : ParityGame) (u n : ℕ) (moves last slice new : List ℕ) (arrows arrows2 : List Arrow)
    → n ≡ length last
    → slice ≡ last
    → moves ≡ moves_of g u
    → ChainsUpTo g u last arrows
    → AddsMoves (length slice) u (length moves) moves slice arrows new arrows2
    → ChainsUpTo g (u + 1) (take n (new ++ drop (length new) last)) arrows2
chains_more g u n moves last slice new arrows arrows2 count same are so_far adds =
    subst (λ xs. ChainsUpTo g (u + 1) xs arrows2)
    (sym (handed_back n new last count (adds.chained.long ∙ ap length same)))
    (record { chained = subst (λ k. AreChained k new arrows2) (ap length same ∙ so_far.chained.long) adds.chained; all = all })
  where
    all : (w v : ℕ) → w < u + 1 → HasMove g w v → InChain arrows2 w (get_or new v 0)
    all w v low move = by_case (cases_eq w u)
      where
        by_case : (w ≡ u) ⊎ (w ≡ u → ⊥) → InChain arrows2 w (get_or new v 0)
        by_case (inl at_it) =
            let at_u : HasMove g u v = subst (λ y. HasMove g y v) at_it move in
            let there : get_or moves at_u.0 0 ≡ v =
            ap (λ xs. get_or xs at_u.0 0) are ∙ get_or_default (moves_of g u) at_u.0 0 v at_u.1 ∙ at_u.2 in
            subst (λ y. InChain arrows2 y (get_or new v 0)) (sym at_it)
            (subst (λ j. InChain arrows2 u (get_or new j 0)) there
            (adds.added at_u.0 (omega (arith, at_u.1, ap length are))))
        by_case (inr differs) = adds.kept w v
            (subst (λ xs. InChain arrows w (get_or xs v 0)) (sym same) (so_far.all w v (omega arith) move))
