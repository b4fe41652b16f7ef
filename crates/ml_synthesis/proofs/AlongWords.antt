-- Words along lassos of states that stand for states of an automaton.
--
--   letter_parts  == the inputs and outputs of a letter
--   states_low    == where steps lead from states to states, all along the word are states
--   named         == the run of the automaton goes through the states for which they stand
--   run_closed    == and is back behind one turn
use Rattle.std.proofs.Common.{ℕ, zero, suc, ◌≡◌, ◌+◌, ◌*◌, ◌/◌, ◌%◌, ◌<◌, ◌≤◌, arith, length, get_or, sym, ap, ◌∙◌}
use Rattle.std.proofs.Common.{subst}
use Rattle.std.proofs.Math.Nat.{add-mul-div_left, add-mul-mod_self_left, div-eq_of_lt, mod-eq_of_lt}
use Rattle.std.proofs.Math.Seq.{take-length}
use Rattle.std.proofs.lemmas.List.{take-append-drop}
use Rattle.ml_lists.specs.Lasso.{round}
use Rattle.ml_lists.proofs.Lasso.{round-entry, round-end}
use Rattle.ml_trace.specs.WordAutomata.{WordLasso, stem, turn, DetAutomaton, state_behind}
use Rattle.ml_synthesis.specs.Machines.{IsWordAlong}
use Rattle.ml_synthesis.proofs.Runs.{at_loop, behind, behind_next, state_behind-append}

pub record AreParts (n v ins outs : ℕ) : Type 0 where
  pub inputs : v % n ≡ ins
  pub outputs : v / n ≡ outs

pub letter_parts : (n v ins outs : ℕ) → ins < n → v ≡ ins + n * outs → AreParts n v ins outs
letter_parts n v ins outs low is = record {
  inputs = ap (λ x. x % n) is ∙ add-mul-mod_self_left ins n outs ∙ mod-eq_of_lt {n = ins} {m = n} low;
  outputs =
      ap (λ x. x / n) is
      ∙ add-mul-div_left ins outs {y = n} (omega (arith, low))
      ∙ ap (λ x. x + outs) (div-eq_of_lt {n = ins} {m = n} low)
      ∙ none;
}
  where
    none : 0 + outs ≡ outs
    none = omega arith

module _ (goes : ℕ → ℕ → ℕ → Type 0) (w : WordLasso ℕ) (along : IsWordAlong goes w) where
  -- the states along the word
  abbrev pub at : ℕ → ℕ
  at k = get_or (round along.states) k 0

  starts : along.states.start < length along.states.entries
  starts = let a = along.one_length in let b = along.one_loop in let c = along.loops in omega (arith, a, b, c)

  pub at_first : at 0 ≡ 0
  at_first = round-entry along.states 0 (omega (arith, starts)) ∙ along.begins

  pub at_end : at (length w.word) ≡ at w.loop_start
  at_end =
      round-end along.states (length w.word) (sym along.one_length)
      ∙ sym (round-entry along.states along.states.start starts)
      ∙ ap at along.one_loop

  -- where steps lead from states to states, all along the word are states
  pub states_low : (size : ℕ)
      → 0 < size
      → ((s v t : ℕ) → s < size → goes s v t → t < size)
      → (k : ℕ)
      → k ≤ length w.word
      → at k < size
  states_low size some leads zero here = subst (λ s. s < size) (sym at_first) some
  states_low size some leads (suc k) here =
      let one : k + 1 ≡ suc k = omega arith in
      subst (λ j. at j < size) one
      (leads (at k) (get_or w.word k 0) (at (k + 1)) (states_low size some leads k (omega (arith, here)))
      (along.goes_on k (omega (arith, here))))

  module _ (d : DetAutomaton ℕ ℕ) (size : ℕ) (some : 0 < size) (leads : (s v t : ℕ) → s < size → goes s v t → t < size)
      (name : ℕ → ℕ) (begins : name 0 ≡ 0)
      (step : (s v t : ℕ) → s < size → goes s v t → name t ≡ d.next (name s) v) where
    -- the run goes through the states for which they stand
    pub named : (k : ℕ) → k ≤ length w.word → behind d 0 w.word k ≡ name (at k)
    named zero here = sym (ap name at_first ∙ begins)
    named (suc k) here =
        let one : k + 1 ≡ suc k = omega arith in
        behind_next d 0 w.word k 0 (omega (arith, here))
        ∙ ap (λ q. d.next q (get_or w.word k 0)) (named k (omega (arith, here)))
        ∙ sym (step (at k) (get_or w.word k 0) (at (k + 1)) (states_low size some leads k (omega (arith, here)))
        (along.goes_on k (omega (arith, here))))
        ∙ ap (λ j. name (at j)) one

    pub run_closed : state_behind d (at_loop d 0 w) (turn w) ≡ at_loop d 0 w
    run_closed =
        sym (ap (state_behind d 0) (take-length w.word ∙ sym (take-append-drop w.loop_start w.word))
        ∙ state_behind-append d 0 (stem w) (turn w))
        ∙ named (length w.word) (omega arith)
        ∙ ap name at_end
        ∙ sym (named w.loop_start (let a = along.loops in omega (arith, a)))
