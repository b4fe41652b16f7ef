use Rattle.std.proofs.Common.{rules, ◌≡◌, true, length, refl, sym, ap, subst, ◌∙◌, arith}
use Rattle.ml_ctl.specs.Enumerations.{ArePropositions}
use Rattle.ml_spec.specs.Faults.{end_of}
use Rattle.ml_spec.specs.ItemParts.{name_of, values_of}
use Rattle.ml_spec.specs.Items.{is_name}
use Rattle.ml_spec.specs.Scan.{item_text}
use Rattle.ml_spec.specs.Statements.{is_value, value_names}
use Rattle.ml_spec.specs.Words.{words_of}
use Rattle.ml_spec.specs.private.Lists.{IsSomeProposition, IsValueBehind, TellsInList}
use Rattle.ml_spec.proofs.PartSizes.{text_fits}
use Rattle.ml_spec.proofs.Propositions.{proposition_named}
use Rattle.ml_spec.proofs.SpecifiedItems.{values_propositions}
use Rattle.ml_spec.proofs.Steps.{enumeration_read}
use Rattle.ml_spec.proofs.Told.{enumeration_reached, enumeration_taken, values_told}
use Rattle.ml_spec.proofs.WordSteps.{words_at}
use Rattle.ml_spec.proofs.statement.read_enumeration.Goals as goal
use Rattle.ml_written.specs.Propositions.{is_proposition}

pub returns-in_default : goal.returns-in_default
returns-in_default c =
    λ ss room context.
    let named = c.in_ok-enumeration.ensures in
    enumeration_taken c.args.logic ss (item_text c.args.item.now) room c.args.context.now context c.in_ok-enumeration.enumeration.now
    named.name c.place_of.result c.args.behind_kind.now c.place_of.ensures c.requires.behind named.has_name
    (rw c.in_default.is at c.in_ok-name.ensures.new)

pub add_values-requires-clause-within : goal.add_values-requires-clause-within
add_values-requires-clause-within c =
    omega (arith, text_fits (item_text c.args.item.now), ap length c.in_ok-text.ensures.text)

pub add_values-requires-clause-name : goal.add_values-requires-clause-name
add_values-requires-clause-name c =
    let named = c.in_ok-enumeration.ensures in
    subst IsSomeProposition (sym named.name) (c.args.logic, named.has_name.1)

pub add_values-requires-clause-none : goal.add_values-requires-clause-none
add_values-requires-clause-none c = c.new-values.ensures.items

pub add_enumeration-requires-clause-propositions : goal.add_enumeration-requires-clause-propositions
add_enumeration-requires-clause-propositions c =
    let l = c.args.logic in
    let named = c.in_ok-enumeration.ensures in
    let values = c.in_ok-add_values.ensures in
    let m = c.in_ok-enumeration.enumeration.now in
    subst ArePropositions (sym (c.deref.ensures.value ∙ values.values))
    (values_propositions l m _ c.requires.kind.1 (subst (λ k. is_proposition l k ≡ true) (sym named.name) named.has_name.1)
    values.listed.are_good)

pub returns : goal.returns
returns c =
    λ ss room context.
    let l = c.args.logic in
    let i = item_text c.args.item.now in
    let old = c.args.context.now in
    let named = c.in_ok-enumeration.ensures.name in
    let m = c.in_ok-enumeration.enumeration.now in
    let new = rw c.in-Some.is at c.in_ok-name.ensures.new in
    let seen = rw c.in-Some.is at c.in_ok-name.ensures.seen in
    let values = c.in_ok-add_values.ensures in
    let text = c.in_ok-text.text.now in
    let vs = words_of (words_at i text) in
    enumeration_read l ss i room old _ context m c.in-Some.name text named new.0 c.in_ok-text.ensures.text
    c.in_ok-text.ensures.colon new.1 values.listed seen values.declared refl refl c.in_ok-add_enumeration.ensures.logic
    (c.in_ok-add_enumeration.ensures.meant ss vs (c.deref.ensures.value ∙ values.values ∙ ap (λ k. value_names k vs) (sym new.0)) context.are_meant)

pub new_name-requires : goal.new_name-requires
new_name-requires c =
    let named = c.in_ok-enumeration.ensures in
    subst (λ k. is_name k ≡ true) (sym named.name) (proposition_named c.args.logic (name_of (item_text c.args.item.now)) named.has_name.1)

pub returns-in_err-add_values : goal.returns-in_err-add_values
returns-in_err-add_values c =
    λ ss room context.
    let l = c.args.logic in
    let i = item_text c.args.item.now in
    let ds = c.args.context.now.declared.entries in
    let named = c.in_ok-enumeration.ensures.name in
    let m = c.in_ok-enumeration.enumeration.now in
    let new = rw c.in-Some.is at c.in_ok-name.ensures.new in
    let told =
    values_told l ss i ds context.are_declared
    (enumeration_reached l ss i room c.args.context.now context m named new.1) c.in_ok-text.ensures.colon c.in_err-add_values.field-0.0
    (subst (λ k. TellsInList (is_value k) (IsValueBehind ds k) 2 (values_of i) (end_of i) c.in_err-add_values.field-0.0) named
    (subst (λ r. TellsInList (is_value m) (IsValueBehind ds m) 2 (words_at i r) (end_of i) c.in_err-add_values.field-0.0)
    c.in_ok-text.ensures.text c.in_err-add_values.ensures.refused)) in
    search (rules, told)
