-- The steps of a machine, as they are made.
--
--   rows_joined   == a row that is met behind another one
--   steps_none, steps_more == the steps of a state, one after the other
--   machine_first, machine_more == the steps of the states, one state after the other
use Rattle.std.proofs.Common.{ℕ, ◌≡◌, ◌+◌, ◌*◌, ◌/◌, ◌<◌, ◌≤◌, ⊎_elim, arith, List, [], ◌∷◌, ◌++◌, length, get_or, map}
use Rattle.std.proofs.Common.{slice_get, Some}
use Rattle.std.proofs.Common.{refl, sym, ap, ◌∙◌, subst, length-append, append_assoc}
use Rattle.std.proofs.lemmas.Bool.{cases_lt}
use Rattle.std.proofs.lemmas.List.{get_or_append_left, get_or_push, length-map, map_push}
use Rattle.std.proofs.lemmas.Option.{same_Some, slice_get_within}
use Rattle.ml_lists.proofs.Entries.{some_entry}
use Rattle.ml_lists.proofs.InTurn.{runs_append}
use Rattle.ml_parity.specs.Game.{ParityGame}
use Rattle.ml_synthesis.specs.Machines.{MachineTable}
use Rattle.ml_synthesis.specs.Synthesis.{nexts}
use Rattle.ml_synthesis.specs.declared.arrival.Arrival.{Arrival}
use Rattle.ml_synthesis.specs.declared.machines.MachineStep.{MachineStep}
use Rattle.ml_synthesis.specs.private.Numbered.{AreMet, AreStepsAt, IsMachineMet, IsRowMet, IsStepAt}
use Rattle.ml_synthesis.proofs.RowsMet.{met_first, met_more, row_kept}

-- a row that is met behind another one
pub rows_joined : (first bound : ℕ) (ks row js more hs : List ℕ)
    → IsRowMet first bound ks row js
    → IsRowMet first bound js more hs
    → IsRowMet first bound ks (row ++ more) hs
rows_joined first bound ks row js more hs one other = record {
  more = one.more ++ other.more;
  grown = other.grown ∙ ap (λ zs. zs ++ other.more) one.grown ∙ append_assoc ks one.more other.more;
  numbers = other.numbers;
  runs = runs_append (length ks) (length js) (length hs) row more one.runs other.runs;
}

module _ (n base : ℕ) (arrivals : List Arrival) (g : ParityGame) (choice : List ℕ) where
  -- a step keeps its meaning where states are added
  step_kept : (bound v : ℕ) (ks row js : List ℕ) (x : MachineStep) → IsRowMet 0 bound ks row js
      → IsStepAt base arrivals g choice ks v x
      → IsStepAt base arrivals g choice js v x
  step_kept bound v ks row js x met at = record {
    gives = at.gives;
    arrival = at.arrival;
    comes = at.comes;
    next_is = row_kept 0 bound ks row js met x.next at.arrival.state at.next_is;
  }

  steps_kept : (bound : ℕ) (ks row js : List ℕ) (q count : ℕ) (xs : List MachineStep) → IsRowMet 0 bound ks row js
      → AreStepsAt n base arrivals g choice ks q count xs
      → AreStepsAt n base arrivals g choice js q count xs
  steps_kept bound ks row js q count xs met are = record {
    one_each = are.one_each;
    steps = λ ins low.
        step_kept bound (q * n + ins) ks row js (get_or xs ins (record { give = 0; next = 0 })) met (are.steps ins low);
  }

  pub steps_none : (ks : List ℕ) (q : ℕ) → AreStepsAt n base arrivals g choice ks q 0 []
  steps_none ks q = record { one_each = refl; steps = λ ins low. absurd (omega (arith, low)) }

  pub steps_more : (bound : ℕ) (ks js : List ℕ) (q ins : ℕ) (xs : List MachineStep) (x : MachineStep)
      → AreStepsAt n base arrivals g choice ks q ins xs
      → IsRowMet 0 bound ks (x.next ∷ []) js
      → IsStepAt base arrivals g choice js (q * n + ins) x
      → AreStepsAt n base arrivals g choice js q (ins + 1) (xs ++ x ∷ [])
  steps_more bound ks js q ins xs x are met newest = record {
    one_each =
        let long = are.one_each in
        let one = length-append xs (x ∷ []) in
        omega (arith, long, one);
    steps = λ i low.
        ⊎_elim
        (λ (before : i < ins).
        let old = step_kept bound (q * n + i) ks (x.next ∷ []) js (get_or xs i (record { give = 0; next = 0 })) met
        (are.steps i before) in
        let long = are.one_each in
        subst (IsStepAt base arrivals g choice js (q * n + i))
        (sym (get_or_append_left xs (x ∷ []) (record { give = 0; next = 0 }) i (omega (arith, before, long)))) old)
        (λ (last : ins ≤ i).
        let here : i ≡ ins = omega (arith, last, low) in
        subst (λ j. IsStepAt base arrivals g choice js (q * n + j)
        (get_or (xs ++ x ∷ []) j (record { give = 0; next = 0 })))
        (sym here)
        (subst (IsStepAt base arrivals g choice js (q * n + ins))
        (sym (get_or_push xs x (record { give = 0; next = 0 }) ins are.one_each)) newest))
        (cases_lt i ins);
  }

  -- ---- the states

  pub machine_first : 0 < base / n → IsMachineMet n base arrivals g choice (0 ∷ []) []
  machine_first some = record {
    met = met_first 0 (base / n) some;
    steps = λ s q low is. absurd (omega (arith, low));
  }

  pub machine_more : (ks js : List ℕ) (m : MachineTable) (q : ℕ) (xs : List MachineStep)
      → IsMachineMet n base arrivals g choice ks m
      → slice_get ks (length m) ≡ Some q
      → AreStepsAt n base arrivals g choice js q n xs
      → IsRowMet 0 (base / n) ks (nexts xs) js
      → IsMachineMet n base arrivals g choice js (m ++ xs ∷ [])
  machine_more ks js m q xs is next are met = record {
    met =
        subst (AreMet 0 (base / n) js) (sym (map_push nexts m xs))
        (met_more 0 (base / n) ks (map nexts m) is.met (nexts xs) js
        (let long = length-map m nexts in let place = slice_get_within ks (length m) q next in
        omega (arith, long, place)) met);
    steps = at;
  }
    where
      at : (s p : ℕ) → s < length (m ++ xs ∷ []) → slice_get js s ≡ Some p
          → AreStepsAt n base arrivals g choice js p n (get_or (m ++ xs ∷ []) s [])
      at s p low stands =
          ⊎_elim
          (λ (before : s < length m).
          let inside : s < length ks = let place = slice_get_within ks (length m) q next in
          omega (arith, before, place) in
          let e = some_entry ks s inside in
          let same : e.0 ≡ p =
          same_Some e.0 p (sym (row_kept 0 (base / n) ks (nexts xs) js met s e.0 e.1) ∙ stands) in
          subst (AreStepsAt n base arrivals g choice js p n) (sym (get_or_append_left m (xs ∷ []) [] s before))
          (steps_kept (base / n) ks (nexts xs) js p n (get_or m s []) met (is.steps s p before (e.1 ∙ ap Some same))))
          (λ (past : length m ≤ s).
          let last : s ≡ length m = let one = length-append m (xs ∷ []) in omega (arith, past, low, one) in
          let here = row_kept 0 (base / n) ks (nexts xs) js met (length m) q next in
          let same : q ≡ p = same_Some q p (sym here ∙ ap (slice_get js) (sym last) ∙ stands) in
          subst (λ i. AreStepsAt n base arrivals g choice js p n (get_or (m ++ xs ∷ []) i [])) (sym last)
          (subst (AreStepsAt n base arrivals g choice js p n) (sym (get_or_push m xs [] (length m) refl))
          (subst (λ r. AreStepsAt n base arrivals g choice js r n xs) same are)))
          (cases_lt s (length m))
