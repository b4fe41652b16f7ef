use Rattle.std.proofs.Common.{Some, sym, ap, ◌∙◌}
use Rattle.ml_front.specs.Enumerations.{enumeration}
use Rattle.ml_spec.proofs.Enumerated.{some_formula}
use Rattle.ml_spec.proofs.Meanings.{enumeration_kept, enumeration_large, none_before, none_still}
use Rattle.ml_spec.proofs.meaning.add_enumeration.Goals as goal

pub returns-in_ok-push-in-Some-clause-meant : goal.returns-in_ok-push-in-Some-clause-meant
returns-in_ok-push-in-Some-clause-meant c =
    λ ss vs are meant.
    let m = c.args.meanings.now in
    let l = c.args.logic in
    let none = sym c.is_some.ensures ∙ c.if-is_some.false in
    let all = none_before l ss m.items.items m.definitions m.large none meant in
    let some = some_formula l c.args.values.now c.requires.logic in
    let made = rw c.in-Some.is at c.in_ok-formula.ensures some.0 some.1 in
    none_still l _ c.push.new.self.items m.definitions m.large none
    (enumeration_kept l ss m.items.items m.definitions all c.args.at c.args.name vs c.in-Some.formula c.push.new.self.items
    (ap (enumeration l) (sym are) ∙ some.1 ∙ ap Some (sym made)) c.keeps.ensures c.in_ok-push-in-Some.ensures.items)

pub returns-in-None-clause-meant : goal.returns-in-None-clause-meant
returns-in-None-clause-meant c =
    λ ss vs are meant.
    let m = c.args.meanings.now in
    let l = c.args.logic in
    let none = sym c.is_some.ensures ∙ c.if-is_some.false in
    let all = none_before l ss m.items.items m.definitions m.large none meant in
    let some = some_formula l c.args.values.now c.requires.logic in
    let large = rw c.in-None.is at c.in_ok-formula.ensures some.0 some.1 in
    enumeration_large l ss m.items.items m.definitions all c.args.at c.args.name vs some.0
    (ap (enumeration l) (sym are) ∙ some.1) large
