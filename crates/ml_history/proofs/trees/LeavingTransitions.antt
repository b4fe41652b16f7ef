-- The transitions that leave a state, in a list by ascending sources.
--
--   leaving_targets  == the targets from a state are those of the transitions behind all with lower sources, and before
--                       all with higher ones
use Rattle.std.proofs.Common.{◌≡◌, ℕ, ◌≤◌, inl, inr, Bool, true, false, ◌&&◌, cond, ltb, leb, List, [], ◌∷◌, ◌++◌, length, take, drop, map, filter, refl, sym, ap, ◌∙◌}
use Rattle.std.specs.List.Sorted.{IsPartitionPoint}
use Rattle.std.proofs.lemmas.Bool.{eq-eqb, ne_eqb}
use Rattle.std.proofs.lemmas.List.{take-append-drop, map-append, append-nil}
use Rattle.std.proofs.lemmas.List.Elements.{filter-append}
use Rattle.ml_lists.specs.Member.{IsMember}
use Rattle.ml_lists.proofs.Keyed.{higher_apart, key_between, lower_apart}
use Rattle.ml_trace.specs.declared.letters.Transition.{Transition}
use Rattle.ml_history.specs.private.Moves.{is_of, ends}
use Rattle.ml_history.specs.private.TreeStep.{targets, leads_from}

targets-append : (acc : Bool) (q : ℕ) (ts us : List Transition)
    → targets (ts ++ us) acc q ≡ targets ts acc q ++ targets us acc q
targets-append acc q ts us = ap (map (λ (t : Transition). t.to)) (filter-append (leads_from acc q) ts us)
    ∙ map-append (λ (t : Transition). t.to) (filter (leads_from acc q) ts) (filter (leads_from acc q) us)

-- tests that agree on a list keep the same of it
filter_same : (p q : Transition → Bool) (ts : List Transition)
    → ((t : Transition) → IsMember t ts → p t ≡ q t)
    → filter p ts ≡ filter q ts
filter_same p q [] agree = refl
filter_same p q (t ∷ ts) agree =
    let here = agree t (inl refl) in
    let rest = filter_same p q ts (λ u m. agree u (inr m)) in
    λ i. cond (here i) (t ∷ rest i) (rest i)

filter_none : (p : Transition → Bool) (ts : List Transition)
    → ((t : Transition) → IsMember t ts → p t ≡ false)
    → filter p ts ≡ []
filter_none p [] fails = refl
filter_none p (t ∷ ts) fails = ap (λ b. cond b (t ∷ filter p ts) (filter p ts)) (fails t (inl refl))
    ∙ filter_none p ts (λ u m. fails u (inr m))

-- of transitions from other states there are no targets
targets_none : (acc : Bool) (q : ℕ) (ts : List Transition)
    → ((t : Transition) → IsMember t ts → t.from ≡ q → ⊥)
    → targets ts acc q ≡ []
targets_none acc q ts apart =
    ap (map (λ (t : Transition). t.to)) (filter_none (leads_from acc q) ts
    (λ t m. ap (λ b. b && is_of acc t) (ne_eqb t.from q (apart t m))))

-- of transitions from the state, all
targets_all : (acc : Bool) (q : ℕ) (ts : List Transition)
    → ((t : Transition) → IsMember t ts → t.from ≡ q)
    → ends acc ts ≡ targets ts acc q
targets_all acc q ts same =
    sym (ap (map (λ (t : Transition). t.to))
    (filter_same (leads_from acc q) (is_of acc) ts
    (λ t m. ap (λ b. b && is_of acc t) (eq-eqb t.from q (same t m)))))

-- the targets from a state are those of the transitions behind all with lower sources, and before all with higher ones
pub leaving_targets : (ts rest : List Transition) (q i j : ℕ)
    → rest ≡ drop i ts
    → i ≤ length ts
    → IsPartitionPoint (λ (t : Transition). ltb t.from q ≡ true) (λ (t : Transition). ltb t.from q ≡ false) ts i
    → j ≤ length rest
    → IsPartitionPoint (λ (t : Transition). leb t.from q ≡ true) (λ (t : Transition). leb t.from q ≡ false) rest j
    → (acc : Bool)
    → ends acc (take j rest) ≡ targets ts acc q
leaving_targets ts rest q i j is le one le' two acc =
    let from : Transition → ℕ = λ t. t.from in
    targets_all acc q (take j rest) (key_between from ts rest q i j is le one le' two)
    ∙ sym (append-nil (targets (take j rest) acc q))
    ∙ ap (λ l. targets (take j rest) acc q ++ l) (sym (targets_none acc q (drop j rest) (higher_apart from ts rest q i j is le one le' two)))
    ∙ sym (targets-append acc q (take j rest) (drop j rest))
    ∙ ap (λ l. targets l acc q) (take-append-drop j rest ∙ is)
    ∙ ap (λ l. l ++ targets (drop i ts) acc q) (sym (targets_none acc q (take i ts) (lower_apart from ts rest q i j is le one le' two)))
    ∙ sym (targets-append acc q (take i ts) (drop i ts))
    ∙ ap (λ l. targets l acc q) (take-append-drop i ts)
