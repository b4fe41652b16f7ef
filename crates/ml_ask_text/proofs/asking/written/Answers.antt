use Rattle.std.proofs.Common.{IfOk, map, sym, subst}
use Rattle.ml_replies.specs.Answers.{replied_of}
use Rattle.ml_ask_text.specs.Told.{IsWrittenAs}
use Rattle.ml_ask_text.proofs.WrittenDocuments.{document_told}
use Rattle.ml_ask_text.proofs.asking.written.Goals as goal

pub returns-in-Files : goal.returns-in-Files
returns-in-Files c =
    let xs = c.args.items.now in
    let rs = map replied_of c.args.answers.now in
    subst (λ form. IfOk c.document_of.result (λ bytes. IsWrittenAs form xs rs bytes.items)) (sym c.in-Files.is)
    (document_told c.args._logic xs c.args._limit rs c.document_of.result (λ bytes. bytes.items) c.requires
    c.document_of.ensures.text c.document_of.ensures.shown)
