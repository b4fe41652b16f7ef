-- A machine and an environment have a word in common.
--
--   along_sequence == what a sequence of states from 0 goes along, that takes one value twice, is a word
--   common_word    == played against each other they come to a pair of states twice
use Rattle.std.proofs.Common.{ℕ, ◌≡◌, ◌+◌, ◌*◌, ◌<◌, arith, length, map, get_or, refl, sym, ap, ◌∙◌, subst, subst₂}
use Rattle.std.specs.List.{range_with_len}
use Rattle.std.proofs.lemmas.List.FromFn.{length-map-range_with_len, get_or-map-range_with_len}
use Rattle.std.proofs.lemmas.Nat.{mul-add-lt, same_from_place}
use Rattle.ml_lists.specs.Lasso.{round}
use Rattle.ml_lists.specs.Pigeons.{Twice}
use Rattle.ml_lists.specs.Walk.{walk}
use Rattle.ml_lists.proofs.Lasso.{lasso_of, lasso_of-entry, lasso_of-length, lasso_of-round}
use Rattle.ml_lists.proofs.Pigeons.{pigeons}
use Rattle.ml_lists.proofs.Walks.{walk-add-one, walk_keeps}
use Rattle.ml_trace.specs.WordAutomata.{WordLasso}
use Rattle.ml_synthesis.specs.Laws.{CommonWord}
use Rattle.ml_synthesis.specs.Machines.{valuation, MachineTable, MachineFits, MachineGoes, step_at, IsMachineWord}
use Rattle.ml_synthesis.specs.Machines.{EnvironmentTable, EnvironmentFits, EnvironmentGoes, play_at, next_at}
use Rattle.ml_synthesis.specs.Machines.{IsEnvironmentWord, IsWordAlong}

-- the first j letters of a sequence, with the loop start i
abbrev pub word_of : (ℕ → ℕ) → ℕ → ℕ → WordLasso ℕ
word_of v i j = record { word = map v (range_with_len 0 j); loop_start = i }

pub along_sequence : (goes : ℕ → ℕ → ℕ → Type 0) (c v : ℕ → ℕ) (i j : ℕ)
    → c 0 ≡ 0
    → i < j
    → c i ≡ c j
    → ((k : ℕ) → k < j → goes (c k) (v k) (c (k + 1)))
    → IsWordAlong goes (word_of v i j)
along_sequence goes c v i j begins apart same steps = record {
  states = lasso_of c i j;
  begins = lasso_of-entry c i j 0 (omega (arith, apart)) ∙ begins;
  one_length = lasso_of-length c i j ∙ sym (length-map-range_with_len v 0 j);
  one_loop = refl;
  loops = omega (arith, apart, length-map-range_with_len v 0 j);
  goes_on = λ k low. step k (omega (arith, low, length-map-range_with_len v 0 j));
}
  where
    step : (k : ℕ) → k < j
        → goes (get_or (round (lasso_of c i j)) k 0) (get_or (map v (range_with_len 0 j)) k 0)
        (get_or (round (lasso_of c i j)) (k + 1) 0)
    step k low =
        subst₂ (λ s t. goes s (get_or (map v (range_with_len 0 j)) k 0) t)
        (sym (lasso_of-round c i j k apart same (omega (arith, low))))
        (sym (lasso_of-round c i j (k + 1) apart same (omega (arith, low))))
        (subst (λ l. goes (c k) l (c (k + 1))) (sym (get_or-map-range_with_len v 0 j k k 0 low (omega arith)))
        (steps k low))

module _ (i o : ℕ) (m : MachineTable) (e : EnvironmentTable) (m_fits : MachineFits i o m)
    (e_fits : EnvironmentFits i o e) where
  -- the set of outputs that comes back
  abbrev reply : ℕ × ℕ → ℕ
  reply p = (step_at m p.0 (play_at e p.1)).give

  abbrev next : ℕ × ℕ → ℕ × ℕ
  next p = ((step_at m p.0 (play_at e p.1)).next, next_at e p.1 (reply p))

  abbrev at : ℕ → ℕ × ℕ
  at k = walk next (0, 0) k

  record AreStates (p : ℕ × ℕ) : Type 0 where
    of_machine : p.0 < length m
    of_environment : p.1 < length e.plays

  are_states : (k : ℕ) → AreStates (at k)
  are_states k = walk_keeps next AreStates further (0, 0)
      (record { of_machine = m_fits.some; of_environment = e_fits.some }) k
    where
      further : (p : ℕ × ℕ) → AreStates p → AreStates (next p)
      further p a = record {
        of_machine = m_fits.leads p.0 (play_at e p.1) a.of_machine (e_fits.plays_sets p.1 a.of_environment);
        of_environment = e_fits.leads p.1 (reply p) a.of_environment
            (m_fits.gives p.0 (play_at e p.1) a.of_machine (e_fits.plays_sets p.1 a.of_environment));
      }

  abbrev letter : ℕ → ℕ
  letter k = valuation i (play_at e (at k).1) (reply (at k))

  machine_goes : (k : ℕ) → MachineGoes i m (at k).0 (letter k) (at (k + 1)).0
  machine_goes k = record {
    ins = play_at e (at k).1;
    is_set = e_fits.plays_sets (at k).1 (are_states k).of_environment;
    valuation_is = refl;
    next_is = ap (λ p. p.0) (walk-add-one next (0, 0) k);
  }

  environment_goes : (k : ℕ) → EnvironmentGoes i o e (at k).1 (letter k) (at (k + 1)).1
  environment_goes k = record {
    outs = reply (at k);
    is_set = m_fits.gives (at k).0 (play_at e (at k).1) (are_states k).of_machine
        (e_fits.plays_sets (at k).1 (are_states k).of_environment);
    valuation_is = refl;
    next_is = ap (λ p. p.1) (walk-add-one next (0, 0) k);
  }

  abbrev code : ℕ → ℕ
  code k = (at k).0 * length e.plays + (at k).1

  common : (w : WordLasso ℕ) × IsMachineWord i m w × IsEnvironmentWord i o e w
  common = from (pigeons (length e.plays * length m) code
      (λ k few. mul-add-lt (at k).0 (length e.plays) (at k).1 (length m) (are_states k).of_machine
      (are_states k).of_environment))
    where
      from : Twice code (length e.plays * length m)
          → (w : WordLasso ℕ) × IsMachineWord i m w × IsEnvironmentWord i o e w
      from t =
          let same = same_from_place (at t.first).0 (at t.first).1 (at t.second).0 (at t.second).1 (length e.plays)
          (are_states t.first).of_environment (are_states t.second).of_environment t.same in (
            word_of letter t.first t.second,
            along_sequence (MachineGoes i m) (λ k. (at k).0) letter t.first t.second refl t.apart same.0
                (λ k low. machine_goes k),
            along_sequence (EnvironmentGoes i o e) (λ k. (at k).1) letter t.first t.second refl t.apart same.1
                (λ k low. environment_goes k),
          )

pub common_word : CommonWord
common_word i o m e m_fits e_fits = common i o m e m_fits e_fits
