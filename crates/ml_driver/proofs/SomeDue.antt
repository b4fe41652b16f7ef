-- Some status is due, for each command and for words that are none, whatever the input.
--
--   on_document, on_refutation, to_migrate == by what checking or reading the document finds
--   of_family         == by what is found of the problem of a family
--   answered          == some status is the answer to each command
--   some_due          == some status is due, with some output
use Rattle.std.proofs.Common.{◌≡◌, ◌⊎◌, ℕ, true, false, List, Some, None, inl, inr, refl, subst, arith}
use Rattle.ml_base.specs.declared.doc_fault.DocFault.{DocFault}
use Rattle.ml_model_check.proofs.OneCheck.{some_check}
use Rattle.ml_refutation_text.specs.BodyRules.{IsFaultOf}
use Rattle.ml_refutation_text.specs.Laws.{IsRefutationText}
use Rattle.ml_refute_check.specs.Documents.{IsVerdict}
use Rattle.ml_refute_check.specs.WrittenDocument.{document_of}
use Rattle.ml_refute_check.proofs.Accepted.{accepted_is_true, documents_read_back, some_document}
use Rattle.ml_refute_check.proofs.SomeVerdict.{refutation_or_fault, some_verdict}
use Rattle.ml_gen.specs.Families.{formula_text}
use Rattle.ml_gen.specs.FamilyRanges.{is_in_range}
use Rattle.ml_gen.specs.declared.family.Family.{Family}
use Rattle.ml_driver.specs.declared.command.Command.{Command}
use Rattle.ml_driver.specs.declared.command.TheConstants.{GREATEST_LIMIT}
use Rattle.ml_decide.specs.Measures.{answer_of}
use Rattle.ml_driver.specs.Bench.{bench_text, gen_text, status_of}
use Rattle.ml_front.specs.Connectives.{occurrences}
use Rattle.ml_driver.proofs.AutomatonAnswers.{on_automaton}
use Rattle.ml_driver.proofs.FamilyProblems.{family_problem}
use Rattle.ml_driver.proofs.CheckedAnswers.{on_answers}
use Rattle.ml_driver.proofs.CheckedGameAnswers.{on_checked_game}
use Rattle.ml_driver.proofs.GameAnswers.{on_game}
use Rattle.ml_decide.proofs.Measures.{some_finding}
use Rattle.ml_decide.specs.declared.way.Way.TheVariants.{WholeGame, Search}
use Rattle.ml_driver.proofs.QuotientAnswers.{on_structure}
use Rattle.ml_driver.proofs.PathAnswers.{on_path}
use Rattle.ml_driver.proofs.ShownAnswers.{on_shown}
use Rattle.ml_driver.proofs.MachineAnswers.{on_machine}
use Rattle.ml_driver.proofs.AskedAnswers.{on_requirements}
use Rattle.ml_driver.proofs.TaskAnswers.{on_task}
use Rattle.ml_driver.proofs.TranslationAnswers.{on_formula}
use Rattle.ml_driver.specs.declared.command.Command.TheVariants.{Decide, Valid, Find, Prove, CheckModel, CheckRefutation, Migrate, Quotient, SolveGame, CheckGame, Path, Show, CheckMachine, CheckAnswers, Determinise, Automaton, Realize, Make, Ask, Gen, Bench}
use Rattle.ml_driver.specs.declared.status.Status.TheVariants.{Yes, Text}
use Rattle.ml_driver.specs.Said.{said_text, status_said}
use Rattle.ml_driver.specs.Statuses.{model_said, refutation_said}
use Rattle.ml_driver.specs.declared.said.Said.TheVariants.{NoCommand, RefusedDocument}
use Rattle.ml_driver.specs.Run.{asked}
use Rattle.ml_driver.proofs.InputLimits.{SomeAnswer, some_due_for}
use Rattle.ml_driver.proofs.SomeAnswer.{some_answer}
use Rattle.ml_driver.specs.Laws.{HasFitNumbers, SomeDue}
use Rattle.ml_front.specs.Documents.{IsDocumentFault, Shows}
use Rattle.ml_front.specs.declared.answer.Answer.TheVariants.{Unsatisfiable}
use Rattle.ml_front.proofs.Documents.{shown_well}
use Rattle.ml_front.proofs.Logics.{parsed_well}

on_document : (text : List ℕ) → SomeAnswer CheckModel text
on_document text =
    let x = some_check text in
    let said = model_said x.0 in
    (status_said said, (said_text said, record { finding = x.0; is_found = x.1; is_said = (refl, refl) }))

on_refutation : (text : List ℕ) → SomeAnswer CheckRefutation text
on_refutation text =
    let x = some_verdict text in
    let said = refutation_said x.0 in (
      status_said said,
      (
        said_text said,
        record {
          finding = x.0;
          is_found = x.1;
          is_true = λ accepted. accepted_is_true text (subst (IsVerdict text) accepted x.1);
          is_said = (refl, refl);
        },
      ),
    )

to_migrate : (text : List ℕ) → SomeAnswer Migrate text
to_migrate text = go (refutation_or_fault text)
  where
    go : Shows Unsatisfiable text (λ v p body. IsRefutationText v body)
        ⊎ ((fault : DocFault) × IsDocumentFault Unsatisfiable IsFaultOf text fault)
        → SomeAnswer Migrate text
    go (inl x) =
        let p = x.problem in
        let r = x.holds.0 in
        let well = shown_well Unsatisfiable text (λ v p body. IsRefutationText v body) x in
        let of = some_document p r x.holds.1 in (
          Yes,
          (
            document_of p r,
            record {
              version = x.version;
              problem = p;
              body = x.body;
              has_head = x.has_head;
              holds = (r, x.holds.1, x.holds.2, (of, documents_read_back p r (document_of p r) well x.holds.1 of));
            },
          ),
        )
    go (inr (fault, bad)) =
        (Text, (said_text (RefusedDocument fault), record { fault = fault; is_fault = bad; is_written = refl }))

of_family : (f : Family) (n : ℕ) (text : List ℕ) → is_in_range f n ≡ true → SomeAnswer (Bench f n) text
of_family f n text inside =
    let p = family_problem f n inside in
    let well = parsed_well (formula_text f n) p.0.formula p.1.is_parsed in
    let x = some_finding GREATEST_LIMIT p.0 (omega arith) well in (
      status_of (answer_of x.0),
      (
        bench_text f n (occurrences p.0.formula) x.0,
        record {
          problem = p.0;
          finding = x.0;
          is_meant = p.1;
          is_finding = x.1;
          status_is = refl;
          is_written = refl;
        },
      ),
    )

answered : (c : Command) (text : List ℕ) → HasFitNumbers (Some c) → SomeAnswer c text
answered (Decide l n) text small = some_answer (asked false WholeGame l n) text small
answered (Valid l n) text small = some_answer (asked true WholeGame l n) text small
answered (Find l n) text small = some_answer (asked false Search l n) text small
answered (Prove l n) text small = some_answer (asked true Search l n) text small
answered CheckModel text small = on_document text
answered CheckRefutation text small = on_refutation text
answered Migrate text small = to_migrate text
answered Quotient text small = on_structure text
answered (SolveGame e) text small = on_game e text
answered CheckGame text small = on_checked_game text
answered (Determinise n) text small = on_automaton n text
answered (Automaton n) text small = on_formula n text
answered Path text small = on_path text
answered Show text small = on_shown text
answered CheckMachine text small = on_machine text
answered CheckAnswers text small = on_answers text
answered (Make n) text small = on_task Search n text
answered (Realize n) text small = on_task WholeGame n text
answered (Ask f n) text small = on_requirements f n text small
answered (Gen f n) text small = (Yes, (gen_text f n, refl))
answered (Bench f n) text small = of_family f n text small

pub some_due : SomeDue
some_due None text small = (status_said NoCommand, (said_text NoCommand, (refl, refl)))
some_due (Some c) text small = some_due_for c text (answered c text small)
