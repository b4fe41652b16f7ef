use Rattle.std.proofs.Common.{ℕ, ◌≡◌, ◌+◌, ◌<◌, ◌⊎◌, inl, inr, ◌∙◌, ◌∷◌, ◌++◌, [], List, length, length-append, ap, get_or, arith}
use Rattle.std.proofs.lemmas.Bool.{cases_eq}
use Rattle.std.proofs.lemmas.List.{get_or_append_left, get_or_default}
use Rattle.ml_bisim.proofs.Links.{last_entry}
use Rattle.ml_bisim.proofs.rounds.all_states.Goals as goal

abbrev InOrder : ℕ → List ℕ → Type 0
InOrder n xs = (length xs ≡ n) × ((k : ℕ) → k < n → get_or xs k 0 ≡ k)

one_more : (n : ℕ) (xs ys : List ℕ) → InOrder n xs → ys ≡ xs ++ n ∷ [] → InOrder (n + 1) ys
one_more n xs ys is pushed = (
  let long = length-append xs (n ∷ []) in let added = ap length pushed in omega (arith, long, added, is.0),
  λ k low. at k low (cases_eq k n),
)
  where
    at : (k : ℕ) → k < n + 1 → (k ≡ n) ⊎ (k ≡ n → ⊥) → get_or ys k 0 ≡ k
    at k low (inl same) =
        let end = ap (λ zs. get_or zs k 0) pushed ∙ last_entry xs n 0 k (omega (arith, same, is.0)) in
        omega (arith, end, same)
    at k low (inr other) =
        ap (λ zs. get_or zs k 0) pushed ∙ get_or_append_left xs (n ∷ []) 0 k (omega (arith, low, other, is.0))
        ∙ is.1 k (omega (arith, low, other))

pub loop-state-preserved : goal.loop-state-preserved
loop-state-preserved c =
    one_more c.loop-state.state c.loop-state.states.items c.push.new.self.items c.loop-state.invariant
    c.in_ok-push.ensures.items

pub returns-clause-in_range : goal.returns-clause-in_range
returns-clause-in_range c = λ k d low.
    let xs = c.loop-state.states.items in
    let at = get_or_default xs k d 0 low in
    let is = c.loop-state.invariant.1 k (omega (arith, low, c.loop-state.invariant.0)) in
    let end = c.loop-state.auto.state-end in
    omega (arith, at, is, low, c.loop-state.invariant.0, end, c.states-state-end.ensures.value)

pub returns-clause-all : goal.returns-clause-all
returns-clause-all c = λ s low.
    let xs = c.loop-state.states.items in
    let end = c.loop-state-test.false in
    let under : s < c.loop-state.state = omega (arith, low, end, c.states-state-end.ensures.value) in
    let within : s < length xs = omega (arith, under, c.loop-state.invariant.0) in
    (s, within, get_or_default xs s s 0 within ∙ c.loop-state.invariant.1 s under)
