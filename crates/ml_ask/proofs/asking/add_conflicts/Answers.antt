use Rattle.std.proofs.Common.{map, sym, ap, ◌∙◌}
use Rattle.std.specs.List.{list_any}
use Rattle.ml_spec.specs.Kinds.{is_requirement}
use Rattle.ml_spec.specs.declared.specification.Item.{Item}
use Rattle.ml_replies.specs.Answers.{replied_of}
use Rattle.ml_ask.proofs.AnswersInOrder.{of_none, of_some}
use Rattle.ml_ask.proofs.asking.add_conflicts.Goals as goal

pub returns-in_ok-add_lines : goal.returns-in_ok-add_lines
returns-in_ok-add_lines c =
    of_some c.args.specification.now.logic c.args.specification.now.items.items c.args.limit
    (map replied_of c.add_lines.new.answers.items)
    (ap (list_any (λ (x : Item). is_requirement x.kind)) (sym c.deref.ensures.value)
    ∙ sym c.has_requirements.ensures
    ∙ c.if-has_requirements.true) c.in_ok-add_lines.ensures

pub returns-else-has_requirements : goal.returns-else-has_requirements
returns-else-has_requirements c =
    of_none c.args.specification.now.logic c.args.specification.now.items.items c.args.limit
    (map replied_of c.args.answers.now.items)
    (ap (list_any (λ (x : Item). is_requirement x.kind)) (sym c.deref.ensures.value)
    ∙ sym c.has_requirements.ensures
    ∙ c.if-has_requirements.false) (ap (map replied_of) c.requires.empty)
