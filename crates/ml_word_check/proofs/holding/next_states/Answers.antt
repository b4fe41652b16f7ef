use Rattle.std.proofs.Common.{◌≡◌, ◌∙◌, ℕ, All, Err, None, Some, map, not, true, ap, subst, sym}
use Rattle.std.specs.List.{position}
use Rattle.std.specs.Result.{IsErrOf}
use Rattle.ml_lists.specs.Search.{IsFirst}
use Rattle.ml_word_graph.specs.Problem.{IsFork}
use Rattle.ml_word_check.specs.declared.refusal.WordRefusal.TheVariants.{NotAWord}
use Rattle.ml_word_check.specs.private.Steps.{is_only, target_of}
use Rattle.ml_word_check.proofs.EdgesGathered.{all_only, leads_along, word_found}
use Rattle.ml_word_check.proofs.holding.next_states.Goals as goal

same_state : {T : Type 0} (P : ℕ → Type 0) (t s : ℕ) → P t → IsErrOf {T = T} (Err (NotAWord t)) (NotAWord s) → P s
same_state P t s holds is = let same : t ≡ s = cc in subst P same holds

pub returns-in-Some-clause-fork : goal.returns-in-Some-clause-fork
returns-in-Some-clause-fork c = λ s is.
    same_state (IsFirst (IsFork c.args.structure.now) c.args.structure.now.states) c.in-Some.state s
    (word_found c.args.structure.now c.states-states.ensures.is_structure c.in_ok-steps.steps.items c.in_ok-steps.ensures
    (Some c.in-Some.state)
    (sym c.in-Some.is ∙ c.first_fork.ensures ∙ ap (position (λ x. not (is_only x))) c.as_slice.ensures.value)) is

pub targets-requires : goal.targets-requires
targets-requires c =
    let value = c.as_slice.ensures.value in
    let none : position (λ x. not (is_only x)) c.in_ok-steps.steps.items ≡ None =
    ap (position (λ x. not (is_only x))) (sym value) ∙ sym c.first_fork.ensures ∙ c.in-None.is in
    subst (λ rows. All (λ x. is_only x ≡ true) rows) (sym c.as_slice-in-None.ensures.value)
    (all_only c.args.structure.now c.states-states.ensures.is_structure c.in_ok-steps.steps.items c.in_ok-steps.ensures none)

pub returns-clause-leads : goal.returns-clause-leads
returns-clause-leads c =
    let value = c.as_slice.ensures.value in
    let none : position (λ x. not (is_only x)) c.in_ok-steps.steps.items ≡ None =
    ap (position (λ x. not (is_only x))) (sym value) ∙ sym c.first_fork.ensures ∙ c.in-None.is in
    leads_along c.args.structure.now c.states-states.ensures.is_structure c.in_ok-steps.steps.items c.in_ok-steps.ensures
    none _ (c.in_ok-targets-in-None.ensures ∙ ap (map target_of) c.as_slice-in-None.ensures.value)

pub returns-clause-admitted : goal.returns-clause-admitted
returns-clause-admitted c =
    word_found c.args.structure.now c.states-states.ensures.is_structure c.in_ok-steps.steps.items c.in_ok-steps.ensures
    None (sym c.in-None.is ∙ c.first_fork.ensures ∙ ap (position (λ x. not (is_only x))) c.as_slice.ensures.value)
