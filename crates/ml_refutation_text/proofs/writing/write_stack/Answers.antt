use Rattle.std.proofs.Common.{◌≡◌, [], ◌++◌, OnOk, slice_index_or, sym, ap, subst, ◌∙◌}
use Rattle.std.proofs.lemmas.List.{append-nil}
use Rattle.std.proofs.lemmas.Result.{on_ok_weaker}
use Rattle.std.specs.List.{flat_map}
use Rattle.ml_lines.specs.Lines.{number, next}
use Rattle.ml_refutation_text.specs.private.Filings.{writing_of, stacks_in}
use Rattle.ml_refutation_text.specs.declared.tables.Filing.{Filing}
use Rattle.ml_refutation_text.proofs.writing.write_stack.Goals as goal

pub returns-in-ByTables-clause-text : goal.returns-in-ByTables-clause-text
returns-in-ByTables-clause-text c =
    let out = c.args.out.now.items in
    let after = c.write_next_number.new.out.items in
    subst
    (λ (f : Filing). OnOk c.write_next_number.result
    (after ≡ out ++ flat_map next ((writing_of f).words (slice_index_or (stacks_in f) c.args.stack []))))
    (sym c.in-ByTables.is)
    (on_ok_weaker c.write_next_number.result
    (λ wrote.
    wrote ∙ ap (λ p. out ++ next (number p)) c.place_of.ensures
    ∙ ap (λ text. out ++ text) (sym (append-nil _)))
    c.write_next_number.ensures.ok)
