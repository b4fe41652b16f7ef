-- The states of a machine or an environment as they are read, between their number and `end`.
--
--   count_refused   == where what stands behind the number of the states is refused, the body is
--   end_refused     == where `end` is refused behind the states, they are
--   body_read       == the number, the states and `end` are the body
use Rattle.std.proofs.Common.{◌≡◌, ℕ, ◌<◌, ◌^◌, [], ◌∷◌, ◌++◌, length, refl, sym, ap, subst, ◌∙◌, arith}
use Rattle.std.specs.List.{AllByRecursion}
use Rattle.ml_base.specs.declared.doc_refusal.DocRefusal.{DocRefusal}
use Rattle.ml_lines.specs.Reading.{AreWords}
use Rattle.ml_synthesis.specs.declared.outcome.Outcome.{Outcome}
use Rattle.ml_synthesis.specs.declared.outcome.Outcome.TheVariants as outcome
use Rattle.ml_task.specs.Task.{Task}
use Rattle.ml_realize_text.specs.ReadText.{Fits, states_of}
use Rattle.ml_realize_text.specs.RealizeRules.{AtEnd, AtStates, Signals, at_state}
use Rattle.ml_realize_text.specs.RealizeText.{outcome_answer, outcome_lines, states_line}
use Rattle.ml_realize_text.specs.declared.realizability.Realizability.{Realizability}
use Rattle.ml_realize_text.specs.declared.rest.Rest.{Rest}
use Rattle.ml_realize_text.specs.private.Reads.{AreStatesRead, Goes, IsBodyRead, IsEnded, RowFits, TellsFault, environment_of, machine_of, signals_of, state_lines}
use Rattle.ml_realize_text.proofs.BodyLines.{states_good, value_back}
use Rattle.ml_realize_text.proofs.EnvironmentRead.{plays_refused, rows_read}
use Rattle.ml_realize_text.proofs.Going.{goes_on, told_behind}
use Rattle.ml_realize_text.proofs.MachineRead.{rows_refused}
use Rattle.ml_realize_text.proofs.Places.{states_done}
use Rattle.ml_realize_text.proofs.Tables.{machine_rows, play_rows}

module _ (n : ℕ) (few : n < 2 ^ 32) where
  pub count_refused : (g : Signals) (at mid : Rest) (e : DocRefusal)
      → 0 < n
      → Goes at (states_line n ∷ []) mid
      → TellsFault (at_state g n 0) mid e
      → TellsFault (AtStates g) at e
  count_refused g at mid e some goes tells =
      told_behind (AtStates g) (at_state g n 0) at mid (states_line n ∷ []) e goes
      (λ left. (states_good g (states_line n) n few refl some left, ap (λ k. at_state g k 0) (value_back n few))) tells

  module _ (t : Task) (are_ins : AreWords t.inputs) (are_outs : AreWords t.outputs) where
    behind : (g : Signals) (k : ℕ) (at : Rest) (e : DocRefusal) → k ≡ n → TellsFault AtEnd at e → TellsFault (at_state g n k) at e
    behind g k at e all tells =
        subst (λ p. TellsFault p at e) (sym (states_done g n k (omega (arith, all)))) tells

    of_outcome : (at rest : Rest) (r : Outcome) (e : DocRefusal)
        → Goes at (state_lines t r) rest
        → Fits t r
        → states_of r ≡ n
        → TellsFault AtEnd rest e
        → TellsFault (at_state (signals_of (outcome_answer r) t) n 0) at e
    of_outcome at rest (outcome.Made m) e goes fits counted tells =
        let i = length t.inputs in
        let o = length t.outputs in
        rows_refused t.inputs t.outputs n are_ins are_outs few at rest m e
        (record {
          goes = goes;
          fit = subst (λ k. AllByRecursion (RowFits i o k) m) counted (machine_rows i o m fits);
          most = omega (arith, counted);
        })
        (behind (machine_of t.inputs t.outputs) (length m) rest e counted tells)
    of_outcome at rest (outcome.Defeated x) e goes fits counted tells =
        let rows = play_rows x.plays x.next in
        let read = rows_read t.inputs t.outputs n at rest x goes counted fits in
        plays_refused t.inputs t.outputs n are_ins are_outs few at rest rows e read.0
        (behind (environment_of t.inputs t.outputs) (length rows) rest e read.1 tells)

    pub end_refused : (at rest : Rest) (a : Realizability) (r : Outcome) (e : DocRefusal)
        → AreStatesRead at a t n r rest
        → TellsFault AtEnd rest e
        → TellsFault (at_state (signals_of a t) n 0) at e
    end_refused at rest a r e read tells =
        subst (λ b. TellsFault (at_state (signals_of b t) n 0) at e) read.answer_is
        (of_outcome at rest r e read.goes read.fits read.counted tells)

  body_lines : (t : Task) (r : Outcome) → states_line (states_of r) ∷ state_lines t r ≡ outcome_lines t r
  body_lines t (outcome.Made m) = refl
  body_lines t (outcome.Defeated e) = refl

  pub body_read : (t : Task) (at mid rest : Rest) (a : Realizability) (r : Outcome)
      → Goes at (states_line n ∷ []) mid
      → AreStatesRead mid a t n r rest
      → IsEnded rest
      → IsBodyRead at a t r
  body_read t at mid rest a r goes read ended =
      let same = ap (λ k. states_line k ∷ state_lines t r) (sym read.counted) ∙ body_lines t r in
      let all : Goes at (outcome_lines t r) rest = subst (λ ls. Goes at ls rest) same (goes_on goes read.goes) in
      record {
        answer_is = read.answer_is;
        body = record {
          lines_are = all.lines_are ∙ ap (λ ls. outcome_lines t r ++ ls) ended.lines_are;
          none_left = all.left_is ∙ ended.none_left;
        };
        fits = read.fits;
        few = omega (arith, few, read.counted);
      }
