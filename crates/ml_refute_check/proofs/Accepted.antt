-- What an accepted document tells, and documents that are written.
--
--   accepted_is_true    == what an accepted document answers is true
--   some_document, one_document == of a problem and a refutation one document is written
--   documents_read_back == the document that is written for a problem and a refutation shows these
use Rattle.std.proofs.Common.{◌++◌, refl, sym, ap, subst, ◌∙◌}
use Rattle.ml_base.specs.declared.version.Version.TheVariants.{Two}
use Rattle.ml_lines.specs.Lines.{text_of}
use Rattle.ml_front.specs.Head.{head_lines}
use Rattle.ml_front.specs.declared.answer.Answer.TheVariants.{Unsatisfiable}
use Rattle.ml_front.proofs.Graphs.{meaningful}
use Rattle.ml_front.proofs.Logics.{parsed_well}
use Rattle.ml_front.proofs.ReadBack.{heads_read_back}
use Rattle.ml_refutation_text.specs.WrittenText.{written_text}
use Rattle.ml_refutation_text.proofs.OneWritten.{one_written_text, written_is_read, written_is_written}
use Rattle.ml_refute_check.specs.Documents.{IsDocument}
use Rattle.ml_refute_check.specs.Laws.{AcceptedIsTrue, DocumentsReadBack, OneDocument, SomeDocument}
use Rattle.ml_refute_check.proofs.Refuted.{refuted_is_unsatisfiable}

pub accepted_is_true : AcceptedIsTrue
accepted_is_true text a =
    let head = a.has_head in
    let found = a.holds.3.1 in
    record {
      version = a.version;
      problem = a.problem;
      body = a.body;
      has_head = head;
      holds = refuted_is_unsatisfiable a.problem found.graph a.holds.0
          (meaningful a.problem.formula (parsed_well head.formula_text a.problem.formula head.is_parsed))
          found.is_graph a.holds.1 found.holds;
    }

pub some_document : SomeDocument
some_document p r is = record { body = written_text Two r; is_text = refl; is_body = written_is_written Two r is }

pub one_document : OneDocument
one_document p r text other is x y =
    x.is_text
    ∙ ap (λ body. text_of (head_lines Two Unsatisfiable p) ++ body) (one_written_text Two x.body y.body r is x.is_body y.is_body)
    ∙ sym y.is_text

pub documents_read_back : DocumentsReadBack
documents_read_back p r text well is_refutation is =
    subst (λ t. IsDocument t Two p r) (sym is.is_text)
    (is.body, heads_read_back Unsatisfiable Two p is.body well, is_refutation, written_is_read Two is.body r is.is_body)
