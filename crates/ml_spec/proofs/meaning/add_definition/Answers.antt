use Rattle.std.proofs.Common.{bytes_eq, sym, ap, ◌∙◌}
use Rattle.indexmap.specs.IndexMap.{insert_entry}
use Rattle.ml_front.specs.Definitions.{definitions_in, logic_defined}
use Rattle.ml_front.specs.Logics.{logic_of}
use Rattle.ml_spec.proofs.Meanings.{definition_kept, none_before, none_still}
use Rattle.ml_spec.proofs.ReplacedFormulas.{replaced_logic}
use Rattle.ml_spec.proofs.meaning.add_definition.Goals as goal
use Rattle.ml_written.specs.Written.{meaning}
use Rattle.ml_written.proofs.WellWritten.{of_its_logic}

pub with-requires : goal.with-requires
with-requires c =
    ap logic_of (rw c.in-Some.is at c.in_ok-formula.ensures)
    ∙ replaced_logic (definitions_in c.args.meanings.now.definitions) (meaning c.args.written)
    ∙ of_its_logic c.args.written
    ∙ c.requires.written
    ∙ sym (ap logic_defined c.replace-definitions.ensures.value ∙ c.requires.logic)

pub returns-in_ok-meanings-in-Some-clause-meant : goal.returns-in_ok-meanings-in-Some-clause-meant
returns-in_ok-meanings-in-Some-clause-meant c =
    λ ss meant.
    let m = c.args.meanings.now in
    let l = c.args.logic in
    let none = sym c.is_some.ensures ∙ c.if-is_some.false in
    let all = none_before l ss m.items.items m.definitions m.large none meant in
    none_still l _ m.items.items _ m.large none
    (definition_kept l ss m.items.items m.definitions all c.args.written c.args.at c.args.name c.in-Some.formula _
    (rw c.in-Some.is at c.in_ok-formula.ensures) c.keeps.ensures
    (c.in_ok-meanings-in-Some.ensures.definitions
    ∙ ap (λ d. insert_entry bytes_eq (definitions_in d) c.args.name c.in-Some.formula) c.replace-definitions.ensures.value))
