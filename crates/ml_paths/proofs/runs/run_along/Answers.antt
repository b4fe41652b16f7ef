use Rattle.std.proofs.Common.{ℕ, ◌<◌, ◌∙◌, All, List, ap, length, sym, subst}
use Rattle.ml_paths.specs.Runs.{IsRunOf, word_at}
use Rattle.ml_paths.specs.private.Built.{letter_of, pairs_of}
use Rattle.ml_paths.proofs.Gathered.{along_is, gathered_run, pairs_low}
use Rattle.ml_paths.proofs.runs.run_along.Goals as goal

pub run_of-requires-clause-inside : goal.run_of-requires-clause-inside
run_of-requires-clause-inside c =
    let letters = letter_of c.args.structure.now c.states-states.result.now in
    let n = length c.states-states.result.now in
    subst (All (λ (label : ℕ × List ℕ). label.0 < c.in-Ok.places)) (sym c.in_ok-labels.ensures)
    (subst (λ k. All (λ (label : ℕ × List ℕ). label.0 < k) (pairs_of letters n)) (sym c.in-Ok.ensures.1)
    (pairs_low letters n))

pub returns : goal.returns
returns c =
    let m = c.args.structure.now in
    let path = c.args.path.now in
    let letters = letter_of m c.states-states.result.now in
    let x = c.in_ok-structure.structure in
    let made =
    gathered_run letters c.in-Ok.places _ c.in_ok-labels.labels.items x
    (c.in_ok-labels.ensures ∙ ap (pairs_of letters) (sym c.in-Ok.ensures.1)) c.in_ok-structure.ensures in
    subst (λ w. IsRunOf w x) (along_is m path)
    (subst (λ xs. IsRunOf (word_at (letter_of m xs) (length xs) path.start) x) c.states-states.ensures
    (subst (λ k. IsRunOf (word_at letters k path.start) x) c.in-Ok.ensures.1
    (subst (λ k. IsRunOf (word_at letters c.in-Ok.places k) x) c.loop_start.ensures made)))
