-- The moves of a game in chains, one chain for each vertex to which moves lead.
--
--   chain_low       == a chain begins in the list
--   chain_done, chain_step == a chain is at its end, or goes on
--   chains_none     == no move so far
--   chains_more     == one move more
--   Follows         == what the program wrote of a chain, with what is left of it, is the whole
--   followed_more, followed_all == it follows the chain to its end
--   laid_next, rows_next == the sources of one chain more are laid out
use Rattle.std.proofs.Common.{ℕ, suc, ◌≡◌, ◌+◌, ◌-◌, ◌<◌, ◌≤◌, ◌⊎◌, inl, inr, arith, List, [], ◌∷◌, ◌++◌, length, get_or, set, replicate}
use Rattle.std.proofs.Common.{subst, subst₂, sym, ap, ap₂, ◌∙◌, refl, take, get_or-set_same, get_or-set_other, length-set}
use Rattle.std.proofs.lemmas.Bool.{cases_eq}
use Rattle.std.proofs.lemmas.List.{append-nil, append_assoc, get_or_default, get_or_append_left, length-append, take_more, get_or-replicate, length-replicate}
use Rattle.std.proofs.Math.Seq.{get_or-append_seam}
use Rattle.ml_parity.specs.declared.zielonka.predecessors.Arrow.{Arrow}
use Rattle.ml_parity.specs.private.Chains.{IsChain, ended, linked, AreChains, IsInChains}
use Rattle.ml_parity.specs.private.FlatRows.{rows_of, IsLaid}
use Rattle.ml_parity.proofs.LaidRows.{laid_more, rows_more}

-- a chain begins in the list
pub chain_low : (arrows : List Arrow) (at : ℕ) (us : List ℕ) → IsChain arrows at us → at ≤ length arrows
chain_low arrows at us ended = omega arith
chain_low arrows at us (linked k x vs low is fits rest) = omega (arith, low)

-- what is added at the end changes no chain
chain_kept : (arrows more : List Arrow) (at : ℕ) (us : List ℕ) → IsChain arrows at us → IsChain (arrows ++ more) at us
chain_kept arrows more at us ended = ended
chain_kept arrows more at us (linked k x vs low is fits rest) =
    linked k x vs (omega (arith, low, length-append arrows more)) (get_or_append_left arrows more x k low ∙ is) fits
    (chain_kept arrows more x.before vs rest)

-- a chain is at its end
pub chain_done : (arrows : List Arrow) (at : ℕ) (us : List ℕ) → IsChain arrows at us → at ≤ 0 → us ≡ []
chain_done arrows at us ended none = refl
chain_done arrows at us (linked k x vs low is fits rest) none = absurd (omega arith)

-- or goes on with an arrow, and what is behind it
pub record GoesOn (arrows : List Arrow) (at : ℕ) (us : List ℕ) (y : Arrow) : Type 0 where
  pub rest : List ℕ
  pub chain : IsChain arrows y.before rest
  pub less : y.before < at
  pub is : us ≡ y.source ∷ rest

pub chain_step : (arrows : List Arrow) (at : ℕ) (us : List ℕ) (d : Arrow) → IsChain arrows at us → 0 < at
    → GoesOn arrows at us (get_or arrows (at - 1) d)
chain_step arrows at us d ended some = absurd (omega arith)
chain_step arrows at us d (linked k x vs low is fits rest) some =
    let before : suc k - 1 ≡ k = omega arith in
    let same : x ≡ get_or arrows (suc k - 1) d =
    sym is ∙ get_or_default arrows k x d low ∙ ap (λ j. get_or arrows j d) (sym before) in
    subst (λ (z : Arrow). GoesOn arrows (suc k) (x.source ∷ vs) z) same
    (record { rest = vs; chain = rest; less = omega (arith, fits); is = refl })

-- no move so far
pub chains_none : (n : ℕ) (last : List ℕ) (arrows : List Arrow) → last ≡ replicate n 0
    → AreChains last arrows (replicate n [])
chains_none n last arrows none = record {
  lists = length-replicate n [] ∙ sym (length-replicate {A = ℕ} n 0) ∙ sym (ap length none);
  each = λ v low.
      let inside : v < n = omega (arith, ap length none, length-replicate {A = ℕ} n 0) in
      subst (λ at. IsChain arrows at (get_or (replicate n []) v []))
      (sym (ap (λ (xs : List ℕ). get_or xs v 0) none ∙ get_or-replicate n v 0 0 inside))
      (subst (λ (us : List ℕ). IsChain arrows 0 us) (sym (get_or-replicate n v [] [] inside)) ended);
}

-- one move more
pub chains_more : (last : List ℕ) (arrows : List Arrow) (rows : List (List ℕ)) (x : Arrow) (w n : ℕ) → w < length last
    → x.before ≡ get_or last w 0 → n ≡ length (arrows ++ x ∷ []) → AreChains last arrows rows
    → AreChains (set last w n) (arrows ++ x ∷ []) (set rows w (x.source ∷ get_or rows w []))
chains_more last arrows rows x w n low before many chains = record {
  lists = length-set rows w (x.source ∷ get_or rows w []) ∙ chains.lists ∙ sym (length-set last w n);
  each = λ v inside. by_place v (omega (arith, length-set last w n)) (cases_eq v w);
}
  where
    grown : List Arrow
    grown = arrows ++ x ∷ []

    here : IsChain grown n (x.source ∷ get_or rows w [])
    here =
        let was : IsChain arrows x.before (get_or rows w []) =
        subst (λ at. IsChain arrows at (get_or rows w [])) (sym before) (chains.each w low) in
        let long : n ≡ suc (length arrows) = omega (arith, length-append arrows (x ∷ [])) in
        subst (λ at. IsChain grown at (x.source ∷ get_or rows w [])) (sym long)
        (linked (length arrows) x (get_or rows w []) (omega (arith, length-append arrows (x ∷ [])))
        (get_or-append_seam arrows x [] x) (chain_low arrows x.before (get_or rows w []) was)
        (chain_kept arrows (x ∷ []) x.before (get_or rows w []) was))

    by_place : (v : ℕ) → v < length last → (v ≡ w) ⊎ (v ≡ w → ⊥)
        → IsChain grown (get_or (set last w n) v 0) (get_or (set rows w (x.source ∷ get_or rows w [])) v [])
    by_place v inside (inl same) =
        subst (λ j. IsChain grown (get_or (set last w n) j 0) (get_or (set rows w (x.source ∷ get_or rows w [])) j []))
        (sym same)
        (subst (λ at. IsChain grown at (get_or (set rows w (x.source ∷ get_or rows w [])) w []))
        (sym (get_or-set_same last w n 0 low))
        (subst (λ (us : List ℕ). IsChain grown n us)
        (sym (get_or-set_same rows w (x.source ∷ get_or rows w []) [] (omega (arith, chains.lists)))) here))
    by_place v inside (inr other) =
        subst (λ at. IsChain grown at (get_or (set rows w (x.source ∷ get_or rows w [])) v []))
        (sym (get_or-set_other last w v n 0 other))
        (subst (λ (us : List ℕ). IsChain grown (get_or last v 0) us)
        (sym (get_or-set_other rows w v (x.source ∷ get_or rows w []) [] other))
        (chain_kept arrows (x ∷ []) (get_or last v 0) (get_or rows v []) (chains.each v inside)))

-- the program follows a chain: what it wrote of it, with what is left of it
abbrev pub Follows : List Arrow → ℕ → List ℕ → List ℕ → Type 0
Follows arrows at written whole = (rest : List ℕ) × IsChain arrows at rest × (written ++ rest ≡ whole)

pub followed_more : (arrows : List Arrow) (at : ℕ) (written written2 whole : List ℕ) (d : Arrow) → 0 < at
    → written2 ≡ written ++ (get_or arrows (at - 1) d).source ∷ []
    → Follows arrows at written whole → Follows arrows (get_or arrows (at - 1) d).before written2 whole
followed_more arrows at written written2 whole d some wrote (us, chain, so) =
    let on = chain_step arrows at us d chain some in (
      on.rest,
      on.chain,
      ap (λ (xs : List ℕ). xs ++ on.rest) wrote
          ∙ append_assoc written ((get_or arrows (at - 1) d).source ∷ []) on.rest
          ∙ ap (λ (xs : List ℕ). written ++ xs) (sym on.is) ∙ so,
    )

-- to its end
pub followed_all : (arrows : List Arrow) (at : ℕ) (written whole : List ℕ) → at ≤ 0
    → Follows arrows at written whole → written ≡ whole
followed_all arrows at written whole done (us, chain, so) =
    sym (append-nil written) ∙ ap (λ (xs : List ℕ). written ++ xs) (sym (chain_done arrows at us chain done)) ∙ so

-- one row more is laid out
pub laid_next : (last : List ℕ) (arrows : List Arrow) (k : ℕ) (starts starts2 sources sources2 : List ℕ) (n : ℕ)
    → k < length last
    → ((row : List ℕ) → IsChain arrows (get_or last k 0) row → sources2 ≡ sources ++ row)
    → n ≡ length sources2
    → starts2 ≡ starts ++ n ∷ []
    → IsInChains last arrows
    → IsLaid starts sources
    → IsLaid starts2 sources2
laid_next last arrows k starts starts2 sources sources2 n low wrote count more chains laid =
    let row = get_or chains.0 k [] in
    let same = wrote row (chains.1.each k low) in
    subst₂ IsLaid (sym (more ∙ ap (λ m. starts ++ m ∷ []) (count ∙ ap length same))) (sym same)
    (laid_more starts sources row laid)

pub rows_next : (last : List ℕ) (arrows : List Arrow) (k : ℕ) (starts starts2 sources sources2 : List ℕ) (n : ℕ)
    (rows : List (List ℕ))
    → k < length last
    → ((row : List ℕ) → IsChain arrows (get_or last k 0) row → sources2 ≡ sources ++ row)
    → n ≡ length sources2
    → starts2 ≡ starts ++ n ∷ []
    → AreChains last arrows rows
    → IsLaid starts sources
    → rows_of starts sources ≡ take k rows
    → rows_of starts2 sources2 ≡ take (k + 1) rows
rows_next last arrows k starts starts2 sources sources2 n rows low wrote count more chains laid so =
    let row = get_or rows k [] in
    let same = wrote row (chains.each k low) in
    ap₂ rows_of (more ∙ ap (λ m. starts ++ m ∷ []) (count ∙ ap length same)) same
    ∙ rows_more starts sources row laid ∙ ap (λ (rs : List (List ℕ)). rs ++ row ∷ []) so
    ∙ sym (take_more rows k [] (omega (arith, chains.lists)))
