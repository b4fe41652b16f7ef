use Rattle.std.proofs.Common.{ℕ, ◌++◌, ◌<◌, ◌∙◌, All, List, ap, length, sym, subst}
use Rattle.ml_paths.specs.private.Built.{pairs_of}
use Rattle.ml_paths.proofs.Gathered.{gathered_run, pairs_low}
use Rattle.ml_machine_text.specs.private.Letters.{letter_at}
use Rattle.ml_machine_text.proofs.WordLetters.{is_run}
use Rattle.ml_machine_text.proofs.labels.structure_of.Goals as goal

pub run_of-requires-clause-inside : goal.run_of-requires-clause-inside
run_of-requires-clause-inside c =
    let vs = c.letters-valuations.result.now in
    let letters = letter_at (c.deref.result.now ++ c.deref-2.result.now) vs in
    subst (All (λ (label : ℕ × List ℕ). label.0 < c.in-Ok.places)) (sym c.in_ok-labels.ensures)
    (subst (λ k. All (λ (label : ℕ × List ℕ). label.0 < k) (pairs_of letters (length vs))) (sym c.in-Ok.ensures.1)
    (pairs_low letters (length vs)))

pub returns : goal.returns
returns c =
    let task = c.args.task.now in
    let vs = c.letters-valuations.result.now in
    let letters = letter_at (c.deref.result.now ++ c.deref-2.result.now) vs in
    let m = c.in_ok-structure.structure in
    is_run c.args.word.now task.inputs.items task.outputs.items c.deref.result.now c.deref-2.result.now vs c.in-Ok.places
    c.loop_start.result c.deref.ensures.value c.deref-2.ensures.value c.letters-valuations.ensures c.in-Ok.ensures.1
    c.loop_start.ensures m
    (gathered_run letters c.in-Ok.places c.loop_start.result c.in_ok-labels.labels.items m
    (c.in_ok-labels.ensures ∙ ap (pairs_of letters) (sym c.in-Ok.ensures.1)) c.in_ok-structure.ensures)
