use Rattle.std.proofs.Common.{sym, ◌∙◌}
use Rattle.ml_front.specs.Definitions.{logic_defined}
use Rattle.ml_spec.specs.Statements as says
use Rattle.ml_spec.proofs.Meanings.{large_before, none_before, none_still, stated_kept, stated_large}
use Rattle.ml_spec.proofs.meaning.add_stated.Goals as goal

pub returns-then-is_some-clause-meant : goal.returns-then-is_some-clause-meant
returns-then-is_some-clause-meant c =
    λ ss meant.
    let m = c.args.meanings.now in
    large_before (logic_defined m.definitions) ss m.items.items m.definitions m.large
    (record { at = c.args.at; says = says.Stated c.args.kind c.args.name c.args.written })
    (sym c.is_some.ensures ∙ c.if-is_some.true) meant

pub returns-in_ok-push-in-Some-clause-meant : goal.returns-in_ok-push-in-Some-clause-meant
returns-in_ok-push-in-Some-clause-meant c =
    λ ss meant.
    let m = c.args.meanings.now in
    let l = logic_defined m.definitions in
    let none = sym c.is_some.ensures ∙ c.if-is_some.false in
    let all = none_before l ss m.items.items m.definitions m.large none meant in
    none_still l _ c.push.new.self.items m.definitions m.large none
    (stated_kept l ss m.items.items m.definitions all c.args.written c.args.at c.args.kind c.args.name c.in-Some.formula
    c.push.new.self.items (rw c.in-Some.is at c.in_ok-formula.ensures) c.keeps.ensures c.in_ok-push-in-Some.ensures.items)

pub returns-in-None-clause-meant : goal.returns-in-None-clause-meant
returns-in-None-clause-meant c =
    λ ss meant.
    let m = c.args.meanings.now in
    let l = logic_defined m.definitions in
    let none = sym c.is_some.ensures ∙ c.if-is_some.false in
    let all = none_before l ss m.items.items m.definitions m.large none meant in
    stated_large l ss m.items.items m.definitions all c.args.written c.args.at c.args.kind c.args.name
    (rw c.in-None.is at c.in_ok-formula.ensures)
