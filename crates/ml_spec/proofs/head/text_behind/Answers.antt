use Rattle.std.proofs.Common.{◌≡◌, false, length, sym, ap, subst, ◌∙◌, arith}
use Rattle.ml_spec.specs.ItemParts.{place_of}
use Rattle.ml_spec.specs.Items.{begins_with_colon}
use Rattle.ml_spec.specs.Scan.{item_text}
use Rattle.ml_spec.specs.declared.rule.SpecRule.TheVariants.{NoColon}
use Rattle.ml_spec.specs.private.Stages.{IsFirstInItem}
use Rattle.ml_spec.proofs.ItemFaults.{first_colon}
use Rattle.ml_spec.proofs.PartSizes.{name_fits}
use Rattle.ml_spec.proofs.head.text_behind.Goals as goal

pub place_of-requires-clause-end : goal.place_of-requires-clause-end
place_of-requires-clause-end c = omega (arith, name_fits (item_text c.args.item.now), ap length c.requires.behind)

pub returns-in-None-clause-refused : goal.returns-in-None-clause-refused
returns-in-None-clause-refused c =
    λ ss reached.
    let l = c.args.logic in
    let i = item_text c.args.item.now in
    subst (IsFirstInItem l ss i NoColon) (sym (c.place_of.ensures ∙ ap (place_of i) c.requires.behind))
    (first_colon l ss i reached.has_room c.args.kind c.requires.name.0 c.requires.name reached.is_new reached.is_early
    (subst (λ t. begins_with_colon t ≡ false) c.requires.behind c.in-None.ensures))
