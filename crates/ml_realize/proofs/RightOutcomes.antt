-- What is made for the histories of a task's automaton is right.
--
--   linear_decided    == whether a word satisfies a formula of LTL is decided
--   machine_letters, environment_letters == the letters of their words are valuations
--   stays_below       == the row leads from states to states
--   accepts           == the moves accept exactly the words that don't satisfy the formula
--   right             == an outcome that is made for the moves is right
--   found_right       == so one that is found is
use Rattle.std.proofs.Common.{ℕ, ◌≡◌, ◌+◌, ◌^◌, ◌<◌, ◌≤◌, ◌⊎◌, ◌↔◌, true, List, [], ◌∷◌, All, length, map, get_or, inl, inr, refl, sym, ap, subst, ◌∙◌, arith}
use Rattle.std.specs.List.{range_with_len}
use Rattle.std.proofs.Math.ListN.{get_or-eq_default}
use Rattle.std.proofs.lemmas.Bool.{and_parts, cases_lt}
use Rattle.std.proofs.lemmas.List.{get_or-map, get_or_default, length-append, length-map}
use Rattle.std.proofs.lemmas.List.Elements.{All-head, All-tail}
use Rattle.std.proofs.lemmas.List.FromFn.{get_or-range_with_len, length-range_with_len}
use Rattle.ml_base.specs.Structure.{Structure}
use Rattle.ml_blocks.specs.Laws.{QuantifiersAreDecided}
use Rattle.ml_blocks.proofs.DecidedTruth.{truth_is_decided}
use Rattle.ml_ctl.specs.Formula as plain
use Rattle.ml_ctl.specs.Formula.{Formula}
use Rattle.ml_ctl.specs.Sorts.{is_linear}
use Rattle.ml_ctl.specs.Laws.{IsDecided}
use Rattle.ml_determinise.specs.Histories.{IsBelow, StaysBelow, neutral}
use Rattle.ml_determinise.specs.Numbering.{IsNumbered, automaton_of}
use Rattle.ml_determinise.specs.declared.moves.DetMove.{DetMove}
use Rattle.ml_determinise.proofs.NumberedWords.{numbered_same_words}
use Rattle.ml_lists.specs.Lasso.{Lasso}
use Rattle.ml_lists.specs.Member.{IsMember}
use Rattle.ml_lists.proofs.Member.{All-member}
use Rattle.ml_synthesis.specs.Machines.{EnvironmentFits, EnvironmentTable, IsEnvironmentWord, IsMachineWord, MachineFits, MachineTable, play_at, step_at}
use Rattle.ml_synthesis.specs.Synthesis.{IsDefeat, IsMade, IsOutcome}
use Rattle.ml_synthesis.specs.declared.outcome.Outcome.{Outcome}
use Rattle.ml_synthesis.specs.declared.outcome.Outcome.TheVariants as outcome
use Rattle.ml_synthesis.proofs.AlongWords.{at, states_low}
use Rattle.ml_task.specs.NameSets.{members}
use Rattle.ml_task.specs.Task.{IsTask, Task, names_of}
use Rattle.ml_trace.specs.WordAutomata.{IsAcceptedFrom, IsDetAcceptedFrom, WordLasso}
use Rattle.ml_trace.specs.declared.letters.Transition.{Transition}
use Rattle.ml_word_automaton.specs.Letters as rows
use Rattle.ml_word_automaton.specs.Letters.{Automaton, HasTransitions, HasTransitionsOf, IsAutomatonOf, letter_in}
use Rattle.ml_word_automaton.specs.Words.{Letter, SatisfiedBy, word_path, word_structure}
use Rattle.ml_word_automaton.proofs.RowsAccept.{lead_to_states, rows_accept}
use Rattle.ml_realize.specs.Laws.{FoundAreRight}
use Rattle.ml_realize.specs.Realizing.{Defeats, IsRight, Realizes, inputs_of, outputs_of, word_of}
use Rattle.ml_realize.specs.TaskGame.{IsRowOf, valuations}
use Rattle.ml_realize.proofs.GameImages.{valuation_low}

-- ---- truth along words

quantifiers_decided : (m : Structure) (l : Lasso) (f : Formula) → is_linear f ≡ true → QuantifiersAreDecided m l f
quantifiers_decided m l (plain.Const b) linear = tt
quantifiers_decided m l (plain.Prop p) linear = tt
quantifiers_decided m l (plain.Not f) linear = quantifiers_decided m l f linear
quantifiers_decided m l (plain.Binary op f g) linear =
    let parts = and_parts (is_linear f) (is_linear g) linear in
    (quantifiers_decided m l f parts.0, quantifiers_decided m l g parts.1)
quantifiers_decided m l (plain.Temporal t f) linear = quantifiers_decided m l f linear
quantifiers_decided m l (plain.Paired p f g) linear =
    let parts = and_parts (is_linear f) (is_linear g) linear in
    (quantifiers_decided m l f parts.0, quantifiers_decided m l g parts.1)
quantifiers_decided m l (plain.Quantified q f) linear = absurd (cc)

pub linear_decided : (w : WordLasso Letter) (f : Formula) → is_linear f ≡ true → w.loop_start < length w.word
    → IsDecided (SatisfiedBy w f)
linear_decided w f linear loops =
    let m = word_structure w in
    let l = word_path w in
    let long = length-range_with_len 0 (length w.word) in
    truth_is_decided m l f (quantifiers_decided m l f linear) 0 (omega (arith, loops, long), omega (arith, loops, long))

-- ---- the letters of words

module _ (i o : ℕ) (w : WordLasso ℕ) where
  abbrev pub AreValuations : Type 0
  AreValuations = (k : ℕ) → k < length w.word → get_or w.word k 0 < 2 ^ (i + o)

  pub machine_letters : (m : MachineTable) → MachineFits i o m → IsMachineWord i m w → AreValuations
  machine_letters m fits along k low =
      let here = states_low _ w along (length m) fits.some
      (λ s v t s_low goes. subst (λ u. u < length m) (sym goes.next_is) (fits.leads s goes.ins s_low goes.is_set)) k (omega (arith, low)) in
      let goes = along.goes_on k low in
      subst (λ v. v < 2 ^ (i + o)) (sym goes.valuation_is)
      (valuation_low i o goes.ins (step_at m (at _ w along k) goes.ins).give goes.is_set (fits.gives (at _ w along k) goes.ins here goes.is_set))

  pub environment_letters : (e : EnvironmentTable) → EnvironmentFits i o e → IsEnvironmentWord i o e w → AreValuations
  environment_letters e fits along k low =
      let here = states_low _ w along (length e.plays) fits.some
      (λ s v t s_low goes. subst (λ u. u < length e.plays) (sym goes.next_is) (fits.leads s goes.outs s_low goes.is_set)) k (omega (arith, low)) in
      let goes = along.goes_on k low in
      subst (λ v. v < 2 ^ (i + o)) (sym goes.valuation_is)
      (valuation_low i o (play_at e (at _ w along k)) goes.outs (fits.plays_sets (at _ w along k) here) goes.is_set)

-- ---- the row

module _ (ns : List (List ℕ)) (a : Automaton) (row : List (List Transition)) (is_row : IsRowOf ns a row) where
  pub stays_below : StaysBelow (length a.states) row
  stays_below v m member = by (cases_lt v (length row))
    where
      by : (v < length row) ⊎ (length row ≤ v) → IsBelow (length a.states) m
      by (inl low) =
          let t = (is_row.transitions v low m).0 member in
          record { from_low = t.from_state; to_low = t.to_state }
      by (inr past) = absurd (subst (IsMember m) (get_or-eq_default row [] past) member)

  abbrev pub letters : List Letter
  letters = map (members ns) (range_with_len 0 (valuations ns))

  letter_is : (v : ℕ) → v < valuations ns → letter_in letters v ≡ members ns v
  letter_is v low =
      let long = length-range_with_len 0 (valuations ns) in
      get_or-map (members ns) (range_with_len 0 (valuations ns)) v 0 [] (omega (arith, low, long))
      ∙ ap (members ns) (get_or-range_with_len 0 (valuations ns) v 0 low ∙ omega arith)

  pub transitions : HasTransitionsOf a letters row
  transitions v low =
      subst (λ l. HasTransitions a l (get_or row v [])) (sym (letter_is v (omega (arith, low, is_row.one_each))))
      (is_row.transitions v low)

  pub same_letters : (vs : List ℕ) → All (λ v. v < valuations ns) vs → map (letter_in letters) vs ≡ map (members ns) vs
  same_letters [] low = refl
  same_letters (v ∷ vs) low =
      let here = letter_is v (All-head (λ u. u < valuations ns) v vs low) in
      let later = same_letters vs (All-tail (λ u. u < valuations ns) v vs low) in
      λ j. here j ∷ later j

module _ (t : Task) (ok : IsTask t) (a : Automaton) (row : List (List Transition)) (moves : List (List DetMove))
    (is : IsAutomatonOf a t.formula true) (is_row : IsRowOf (names_of t) a row) (some : 0 < length a.states)
    (m : IsNumbered (length a.states) row 0 moves) where
  abbrev i : ℕ
  i = inputs_of t

  abbrev o : ℕ
  o = outputs_of t

  accepts : (w : WordLasso ℕ) → w.loop_start < length w.word → AreValuations i o w
      → IsDetAcceptedFrom (automaton_of moves) 0 w ↔ (SatisfiedBy (word_of (names_of t) w) t.formula → ⊥)
  accepts w loops low = (
    λ det. subst (λ u. SatisfiedBy u t.formula → ⊥) same (read.0 (numbered.1 det)),
    λ none. numbered.0 (read.1 (subst (λ u. SatisfiedBy u t.formula → ⊥) (sym same) none)),
  )
    where
      all_low : All (λ v. v < valuations (names_of t)) w.word
      all_low k d inside =
          subst (λ v. v < valuations (names_of t)) (get_or_default w.word k 0 d inside)
          (subst (λ n. get_or w.word k 0 < 2 ^ n) (sym (length-append t.inputs t.outputs)) (low k inside))

      in_row : All (λ v. v < length row) w.word
      in_row k d inside = subst (λ n. get_or w.word k d < n) (sym is_row.one_each) (all_low k d inside)

      same : rows.word_of (letters (names_of t) a row is_row) w ≡ word_of (names_of t) w
      same = λ j. record { word = same_letters (names_of t) a row is_row w.word all_low j; loop_start = w.loop_start }

      numbered : IsAcceptedFrom (rows.leads_by row) 0 w ↔ IsDetAcceptedFrom (automaton_of moves) 0 w
      numbered =
          numbered_same_words (length a.states) row 0 moves w (stays_below (names_of t) a row is_row) some m loops
          (All-member (λ v. v < length row) w.word in_row)

      read : IsAcceptedFrom (rows.leads_by row) 0 w
          ↔ (SatisfiedBy (rows.word_of (letters (names_of t) a row is_row) w) t.formula → ⊥)
      read =
          rows_accept t.formula true a (letters (names_of t) a row is_row) row w ok.is_linear is
          (transitions (names_of t) a row is_row) loops in_row

  made_right : (table : MachineTable) → IsMade i o moves table → Realizes t table
  made_right table made = record {
    fits = made.fits;
    satisfies = λ w along.
        by w along (linear_decided (word_of (names_of t) w) t.formula ok.is_linear (subst (λ n. w.loop_start < n) (sym (length-map w.word (members (names_of t)))) along.loops));
  }
    where
      by : (w : WordLasso ℕ) → IsMachineWord i table w
          → IsDecided (SatisfiedBy (word_of (names_of t) w) t.formula)
          → SatisfiedBy (word_of (names_of t) w) t.formula
      by w along (inl yes') = yes'
      by w along (inr none) =
          absurd (made.right w along ((accepts w along.loops (machine_letters i o w table made.fits along)).1 none))

  defeat_right : (table : EnvironmentTable) → IsDefeat i o (neutral (length a.states)) moves table → Defeats t table
  defeat_right table defeat = record {
    fits = defeat.fits;
    excludes = λ w along.
        (accepts w along.loops (environment_letters i o w table defeat.fits along)).0 (defeat.defeats w along);
  }

  pub right : (r : Outcome) → IsOutcome i o (neutral (length a.states)) moves r → IsRight t r
  right (outcome.Made table) made = made_right table made
  right (outcome.Defeated table) defeat = defeat_right table defeat

pub found_right : FoundAreRight
found_right t n r ok f =
    let a = f.reading.automaton in
    let is = f.reading.is_automaton in
    let some = (lead_to_states a is.states).has_state in
    right t ok a f.reading.row f.moves is f.reading.is_row some f.are_numbered r f.is_outcome
