use Rattle.std.proofs.Common.{sym, ap, subst, ◌∙◌}
use Rattle.ml_spec.specs.ItemParts.{is_good, place_of}
use Rattle.ml_spec.specs.Items.{name_run}
use Rattle.ml_spec.specs.Scan.{item_text}
use Rattle.ml_spec.specs.declared.rule.SpecRule.TheVariants.{NoName}
use Rattle.ml_spec.specs.private.Stages.{IsFirstInItem}
use Rattle.ml_spec.proofs.ItemFaults.{first_name}
use Rattle.ml_spec.proofs.head.name_of.Goals as goal

pub returns-then-not-is_good-clause-refused : goal.returns-then-not-is_good-clause-refused
returns-then-not-is_good-clause-refused c =
    λ ss room.
    let l = c.args.logic in
    let q = c.args.kind in
    let i = item_text c.args.item.now in
    let name = c.split_name.ensures.name ∙ ap name_run c.requires.behind in
    subst (IsFirstInItem l ss i NoName) (sym (c.place_of.ensures ∙ ap (place_of i) c.requires.behind))
    (first_name l ss i room q c.requires.kind (sym (ap (is_good l q) name) ∙ sym c.is_good.ensures ∙ c.if-not-is_good.true))
