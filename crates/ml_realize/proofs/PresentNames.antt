-- The propositions that are true under a valuation, one after the other.
--
--   members_append       == a set of names that stand one behind the other is one of each
--   has_append           == so a name is in it if it is in one of them
--   valuations_are_sets  == the letter of a valuation has the names of both its sets
--   first_more           == a row of letters with one more
use Rattle.std.proofs.Common.{◌≡◌, ℕ, ◌+◌, ◌*◌, ◌/◌, ◌%◌, ◌^◌, ◌<◌, ◌≤◌, ◌==◌, ◌||◌, ◌⊎◌, get_or, refl, subst, Bool, true, false, List, [], ◌∷◌, ◌++◌, length, inl, inr, sym, ap, ◌∙◌, arith, bytes_eq, if◌then◌else◌}
use Rattle.std.proofs.Math.Nat.{add-mul-div_left, add-mul-mod_self_left, div-div-eq-div-mul, mul_assoc, mul_comm, pow-suc}
use Rattle.std.proofs.Math.ListN.{get_or-append}
use Rattle.std.proofs.Math.Seq.{get_or-append_seam}
use Rattle.std.proofs.lemmas.Bool.{cases_lt}
use Rattle.std.proofs.lemmas.List.{length-append}
use Rattle.std.proofs.lemmas.List.Folds.{list_any-append}
use Rattle.ml_synthesis.specs.Machines.{valuation}
use Rattle.ml_synthesis.proofs.AlongWords.{letter_parts}
use Rattle.ml_task.specs.NameSets.{members}
use Rattle.ml_trace.specs.declared.letters.Transition.{Transition}
use Rattle.ml_word_automaton.specs.Letters.{Automaton, HasTransitions}
use Rattle.ml_word_automaton.specs.Words.{has}
use Rattle.ml_realize.specs.Laws.{ValuationsAreSets}
use Rattle.ml_realize.specs.private.Rows.{AreFirst}

pub members_append : (ns ms : List (List ℕ)) (s : ℕ) → members (ns ++ ms) s ≡ members ns s ++ members ms (s / 2 ^ length ns)
members_append [] ms s = ap (members ms) (omega arith)
members_append (n ∷ ns) ms s = go (s % 2 == 1) (members_append ns ms (s / 2))
  where
    same : (s / 2) / 2 ^ length ns ≡ s / 2 ^ length (n ∷ ns)
    same = div-div-eq-div-mul s 2 (2 ^ length ns) ∙ ap (λ k. s / k) (omega (arith, pow-suc 2 (length ns)))

    go : (b : Bool)
        → members (ns ++ ms) (s / 2) ≡ members ns (s / 2) ++ members ms ((s / 2) / 2 ^ length ns)
        → (if b then n ∷ members (ns ++ ms) (s / 2) else members (ns ++ ms) (s / 2))
        ≡ (if b then n ∷ members ns (s / 2) else members ns (s / 2)) ++ members ms (s / 2 ^ length (n ∷ ns))
    go true later = ap (λ xs. n ∷ xs) (later ∙ ap (λ k. members ns (s / 2) ++ members ms k) same)
    go false later = later ∙ ap (λ k. members ns (s / 2) ++ members ms k) same

pub has_append : (ns ms : List (List ℕ)) (s : ℕ) (p : List ℕ)
    → has (members (ns ++ ms) s) p ≡ (has (members ns s) p || has (members ms (s / 2 ^ length ns)) p)
has_append ns ms s p =
    ap (λ letter. has letter p) (members_append ns ms s)
    ∙ list_any-append (λ q. bytes_eq q p) (members ns s) (members ms (s / 2 ^ length ns))

-- the bits above those of the names don't matter
members_below : (ns : List (List ℕ)) (s u : ℕ) → members ns (s + 2 ^ length ns * u) ≡ members ns s
members_below [] s u = refl
members_below (n ∷ ns) s u =
    let k = 2 ^ length ns * u in
    let whole : s + 2 ^ length (n ∷ ns) * u ≡ s + 2 * k =
    ap (λ p. s + p) (ap (λ p. p * u) (pow-suc 2 (length ns) ∙ mul_comm (2 ^ length ns) 2) ∙ mul_assoc 2 (2 ^ length ns) u) in
    let bit : (s + 2 ^ length (n ∷ ns) * u) % 2 ≡ s % 2 = ap (λ p. p % 2) whole ∙ add-mul-mod_self_left s 2 k in
    let rest : (s + 2 ^ length (n ∷ ns) * u) / 2 ≡ s / 2 + k = ap (λ p. p / 2) whole ∙ add-mul-div_left s k (omega arith) in
    let later = ap (members ns) rest ∙ members_below ns (s / 2) u in
    λ j. if bit j == 1 then n ∷ later j else later j

pub valuations_are_sets : ValuationsAreSets
valuations_are_sets ins outs s u low =
    members_append ins outs (valuation (length ins) s u)
    ∙ (λ j. members_below ins s u j ++ members outs ((letter_parts (2 ^ length ins) (valuation (length ins) s u) s u low refl).outputs j))

pub first_more : (ns : List (List ℕ)) (a : Automaton) (row : List (List Transition)) (letter : List Transition) (v : ℕ)
    → length row ≡ v
    → AreFirst ns a row
    → HasTransitions a (members ns v) letter
    → AreFirst ns a (row ++ letter ∷ [])
first_more ns a row letter v long so_far next w low = by (cases_lt w (length row))
  where
    by : (w < length row) ⊎ (length row ≤ w) → HasTransitions a (members ns w) (get_or (row ++ letter ∷ []) w [])
    by (inl less) = subst (HasTransitions a (members ns w)) (sym (get_or-append row (letter ∷ []) [] w less)) (so_far w less)
    by (inr past) =
        let size = length-append row (letter ∷ []) in
        let here : w ≡ length row = omega (arith, low, past, size) in
        subst (HasTransitions a (members ns w)) (sym (ap (λ k. get_or (row ++ letter ∷ []) k []) here ∙ get_or-append_seam row letter [] []))
        (subst (λ k. HasTransitions a (members ns k) letter) (sym (here ∙ long)) next)
