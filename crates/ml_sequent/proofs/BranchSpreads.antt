-- Branches: what a choice keeps.
--
--   kept_before == behind a choice the spread that was before stands first among the spreads before
--   grown_twice == what stands in front of the front stands in front
--   kept_ok     == the same of an answer
use Rattle.std.proofs.Common.{ℕ, ◌≡◌, ◌≤◌, List, [], ◌∷◌, ◌++◌, length, take, drop, reverse, sym, ap, ◌∙◌, arith, Result, Ok, Err, OnOk}
use Rattle.std.proofs.lemmas.List.{reverse-append, take-append-drop, take-append-le, length-take}
use Rattle.ml_sequent.specs.declared.choice.Side.{Side}
use Rattle.ml_sequent.specs.declared.taken.Taken.{Taken}
use Rattle.ml_sequent.specs.private.Trails.{IsGrown, IsJoined, without, spread_at, earlier}
use Rattle.ml_sequent.proofs.TrailSearches.{grown_same, grown_more}

-- behind a choice the spread that was before stands first among the spreads before
kept_before : (nodes nodes2 : List ℕ) (c c2 : List (ℕ × Side)) (taken taken2 : List Taken) (t : Taken)
    → taken2 ≡ taken ++ t ∷ []
    → t.first ≡ length nodes
    → IsGrown nodes nodes2
    → without t.place c2 ≡ c
    → earlier nodes2 c2 (reverse taken2) ≡ spread_at nodes c ∷ earlier nodes c (reverse taken)
kept_before nodes nodes2 c c2 taken taken2 t is first grown choice =
    let front = ap (λ k. take k nodes2) first ∙ grown in
    ap (earlier nodes2 c2) (ap reverse is ∙ reverse-append taken (t ∷ []))
    ∙ ap (λ xs. spread_at xs (without t.place c2) ∷ earlier xs (without t.place c2) (reverse taken)) front
    ∙ ap (λ d. spread_at nodes d ∷ earlier nodes d (reverse taken)) choice

-- what stands in front of the front stands in front
pub grown_twice : (first nodes nodes2 : List ℕ) → IsGrown first nodes → IsGrown nodes nodes2 → IsGrown first nodes2
grown_twice first nodes nodes2 one two =
    let fits : length first ≤ length nodes = omega (arith, ap length one, length-take (length first) nodes) in
    let split = sym (take-append-drop (length nodes) nodes2) ∙ ap (λ xs. xs ++ drop (length nodes) nodes2) two in
    ap (take (length first)) split ∙ take-append-le (length first) nodes (drop (length nodes) nodes2) fits ∙ one

-- the same of an answer
pub kept_ok : {T E : Type 0} → (ks nodes start nodes2 : List ℕ) (c c2 : List (ℕ × Side)) (taken taken2 : List Taken) (t : Taken)
    (answer : Result T E)
    → taken2 ≡ taken ++ t ∷ []
    → t.first ≡ length nodes
    → IsJoined ks nodes start
    → without t.place c2 ≡ c
    → IsGrown start nodes2
    → OnOk answer (earlier nodes2 c2 (reverse taken2) ≡ spread_at nodes c ∷ earlier nodes c (reverse taken))
kept_ok ks nodes start nodes2 c c2 taken taken2 t (Ok u) is first joined choice grown =
    kept_before nodes nodes2 c c2 taken taken2 t is first
    (grown_twice nodes start nodes2 (grown_more ks nodes nodes start (grown_same nodes) joined) grown) choice
kept_ok ks nodes start nodes2 c c2 taken taken2 t (Err e) is first joined choice grown = tt
