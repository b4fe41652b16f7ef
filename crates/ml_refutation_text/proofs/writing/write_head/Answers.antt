use Rattle.std.proofs.Common.{◌≡◌, [], ◌++◌, OnOk, slice_index_or, sym, ap, subst, ◌∙◌}
use Rattle.std.proofs.lemmas.List.{append-nil}
use Rattle.std.proofs.lemmas.Result.{on_ok_weaker}
use Rattle.ml_lines.specs.Lines.{line_text, text_of}
use Rattle.ml_refutation_text.specs.RefutationText.{entry_line}
use Rattle.ml_refutation_text.specs.private.Filings.{writing_of, sequents_in}
use Rattle.ml_refutation_text.specs.declared.tables.Filing.{Filing}
use Rattle.ml_refutation_text.proofs.writing.write_head.Goals as goal

pub returns-in-ByTables-clause-text : goal.returns-in-ByTables-clause-text
returns-in-ByTables-clause-text c =
    let out = c.args.out.now.items in
    let after = c.write_placed.new.out.items in
    subst
    (λ (f : Filing). OnOk c.write_placed.result
    (after ≡ out ++ text_of ((writing_of f).head c.args.i (slice_index_or (sequents_in f) c.args.sequent []))))
    (sym c.in-ByTables.is)
    (on_ok_weaker c.write_placed.result
    (λ wrote.
    wrote ∙ ap (λ p. out ++ line_text (entry_line c.args.i p)) c.place_of.ensures
    ∙ ap (λ text. out ++ text) (sym (append-nil _)))
    c.write_placed.ensures.text)
