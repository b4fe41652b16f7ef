use Rattle.std.proofs.Common.{◌≡◌}
use Rattle.std.proofs.lemmas.Result.{IfOk-weaker}
use Rattle.ml_refute_check.specs.Documents.{IsMigrated}
use Rattle.ml_refute_check.specs.WrittenDocument.{document_of}
use Rattle.ml_refute_check.specs.private.Parts.{plain}
use Rattle.ml_refute_check.proofs.Rejected.{migrated}
use Rattle.ml_refute_check.proofs.document.migrate.Goals as goal

pub returns-in-Ok-clause-written : goal.returns-in-Ok-clause-written
returns-in-Ok-clause-written c =
    let shown = c.in-Ok.shown in
    IfOk-weaker c.write_document.result (λ text. text.items ≡ document_of shown.problem (plain shown.refutation))
    (λ text. IsMigrated c.args.bytes.now text.items)
    (λ text is. migrated c.args.bytes.now text.items shown.problem shown.refutation shown.lines c.in-Ok.ensures.shown is)
    c.write_document.ensures.written

pub returns-in-Ok-clause-refused : goal.returns-in-Ok-clause-refused
returns-in-Ok-clause-refused c = λ fault is. absurd (c.write_document.ensures.refused fault is)
