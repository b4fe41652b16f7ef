-- The structure of the word along the path is the one that is written, and its problem holds.
use Rattle.std.proofs.Common.{◌++◌, ◌∙◌, ap}
use Rattle.ml_model_check.specs.WrittenDocument.{satisfiable_document}
use Rattle.ml_path_text.proofs.Confirmed.{document_holds, document_is}
use Rattle.ml_path_text.proofs.PathRuns.{one_run, states_low}
use Rattle.ml_path_text.proofs.writing.document_of.Goals as goal

pub run_along-requires-clause-states : goal.run_along-requires-clause-states
run_along-requires-clause-states c =
    states_low c.args.structure.now c.args.path.now c.keeps.ensures.is_structure c.requires.is_path.is_path

pub returns-clause-text : goal.returns-clause-text
returns-clause-text c =
    let m = c.args.structure.now in
    let l = c.args.path.now in
    let run = c.in_ok-run.run' in
    let p = c.on_words.result in
    let model = c.new.result in
    document_is m l c.args.asked.formula c.args.asked.negated c.append_satisfied.new.output.items p
    model.structure run model.start
    (c.in_ok-append_satisfied.ensures.text
    ∙ ap (λ t. t ++ satisfiable_document p model.structure model.start) c.new-document.ensures.items)
    c.on_words.ensures c.new.ensures.structure c.new.ensures.start
    (one_run m l c.keeps.ensures.is_structure c.requires.is_path.is_path run c.keeps-2.ensures.is_structure
    c.in_ok-run.ensures c.keeps.ensures.is_ordered c.keeps-2.ensures.is_ordered)

pub returns-clause-holds : goal.returns-clause-holds
returns-clause-holds c =
    let m = c.args.structure.now in
    let p = c.on_words.result in
    let model = c.new.result in
    document_holds m c.args.path.now c.args.asked.formula c.args.asked.negated c.append_satisfied.new.output.items
    p model.structure c.in_ok-run.run' model.start
    (c.in_ok-append_satisfied.ensures.text
    ∙ ap (λ t. t ++ satisfiable_document p model.structure model.start) c.new-document.ensures.items)
    c.on_words.ensures c.new.ensures.structure c.new.ensures.start c.args._start c.keeps.ensures.is_structure
    c.root-root.ensures.well_formed c.requires c.in_ok-run.ensures c.in_ok-append_satisfied.ensures.written
    c.in_ok-append_satisfied.ensures.ordered
