-- The first law: an odd lowest mark gives an accepting cyclic run.
--
-- The steps of a history satisfy the condition on names, so the theorem on loops of marked steps says it.
--
--   steps_along       == the letters of a word with the marks of the steps from h
--   path_along        == they are a path from h to what they make of h
--   history-stands    == each name in use in a history stands in a stack
--   odd_mark_has_run  == the first law
use Rattle.std.proofs.Common.{ℕ, ◌≡◌, true, List, [], ◌∷◌, refl, sym, subst, ap}
use Rattle.ml_trace.specs.declared.letters.Transition.{Transition}
use Rattle.ml_trace.specs.LabelledLoop.{MarkedStep, letters, marks, IsPath, CyclicRun}
use Rattle.ml_trace.specs.NamesCondition.{EachNameStands}
use Rattle.ml_trace.specs.MarkOrder.{is_odd, lowest_mark}
use Rattle.ml_trace.specs.Run.{in_letter}
use Rattle.ml_trace.specs.Stack.{Item}
use Rattle.ml_trace.proofs.OddLoop.{odd_loop}
use Rattle.ml_trace.proofs.Stacks.{ends-has}
use Rattle.ml_history.specs.CycleLaws.{entry, OddMarkHasRun}
use Rattle.ml_history.specs.History.{IsHistory}
use Rattle.ml_history.specs.HistoryStep.{stepped, step_mark}
use Rattle.ml_history.specs.HistoryRuns.{after, marks_along}
use Rattle.ml_history.proofs.definition.StepKeeps.{step_is_history}
use Rattle.ml_history.proofs.definition.StepNames.{step_names}

-- the letters of a word with the marks of the steps from h
abbrev pub steps_along : List (Item ℕ) → List (List Transition) → List (MarkedStep (List Transition))
steps_along h [] = []
steps_along h (l ∷ w) = record { letter = l; mark = step_mark h l } ∷ steps_along (stepped h l) w

pub letters_along : (h : List (Item ℕ)) (w : List (List Transition)) → letters (steps_along h w) ≡ w
letters_along h [] = refl
letters_along h (l ∷ w) = ap (λ v. l ∷ v) (letters_along (stepped h l) w)

pub marks_of_steps : (h : List (Item ℕ)) (w : List (List Transition)) → marks (steps_along h w) ≡ marks_along h w
marks_of_steps h [] = refl
marks_of_steps h (l ∷ w) = ap (λ v. step_mark h l ∷ v) (marks_of_steps (stepped h l) w)

-- they are a path from h to what they make of h
pub path_along : (h : List (Item ℕ)) (w : List (List Transition))
    → IsHistory h
    → IsPath in_letter (steps_along h w) (entry h) (entry (after h w))
path_along h [] history = refl
path_along h (l ∷ w) history = (
  entry (stepped h l),
  step_names h l history,
  path_along (stepped h l) w (step_is_history h l history),
)

-- each name in use in a history stands in a stack
pub history-stands : (h : List (Item ℕ)) → IsHistory h → EachNameStands (entry h)
history-stands h history y low = let e = history.each_ends y low in (e.0, e.1, ends-has y e.0.stack e.2)

-- the first law: if the lowest mark is odd, some state has an accepting run to itself
pub odd_mark_has_run : OddMarkHasRun
odd_mark_has_run h w r odd =
    let path : IsPath in_letter (steps_along h w) (entry h) (entry h) =
    subst (λ g. IsPath in_letter (steps_along h w) (entry h) (entry g)) r.returns (path_along h w r.history) in
    let lowest_odd : is_odd (lowest_mark (marks (steps_along h w))) ≡ true =
    subst (λ ms. is_odd (lowest_mark ms) ≡ true) (sym (marks_of_steps h w)) odd in
    subst (λ v. CyclicRun in_letter (entry h) v) (letters_along h w)
    (odd_loop in_letter (steps_along h w) (entry h) path (history-stands h r.history) lowest_odd)
