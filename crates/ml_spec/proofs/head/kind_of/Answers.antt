use Rattle.std.proofs.Common.{sym, ap, ◌∙◌}
use Rattle.ml_spec.specs.Kinds.{item_word, may_stand}
use Rattle.ml_spec.specs.Scan.{item_text}
use Rattle.ml_spec.proofs.ItemFaults.{both_ways, first_kind, first_logic, first_many}
use Rattle.ml_spec.proofs.head.kind_of.Goals as goal

pub returns-in_default-clause-refused : goal.returns-in_default-clause-refused
returns-in_default-clause-refused c =
    λ ss same.
    first_kind c.args.logic ss (item_text c.args.item.now)
    (λ q of_kind.
    both_ways (may_stand c.args.logic q) of_kind.1 (c.in_default.ensures q (c.split_word.ensures.word ∙ of_kind.0)))

pub returns-then-tells_other-clause-refused : goal.returns-then-tells_other-clause-refused
returns-then-tells_other-clause-refused c =
    λ ss same.
    let tells = c.tells_other.ensures.other c.if-tells_other.true in
    first_logic c.args.logic ss (item_text c.args.item.now)
    (sym c.split_word.ensures.word ∙ c.in-Some.ensures.0 ∙ ap item_word tells.0)
    (λ is. tells.1 (c.split_word.ensures.behind ∙ is))

pub returns-then-before-eq-MOST_ITEMS-clause-refused : goal.returns-then-before-eq-MOST_ITEMS-clause-refused
returns-then-before-eq-MOST_ITEMS-clause-refused c =
    λ ss same.
    first_many c.args.logic ss (item_text c.args.item.now) c.in-Some.kind
    (sym c.split_word.ensures.word ∙ c.in-Some.ensures.0, c.in-Some.ensures.1)
    (λ e. sym c.split_word.ensures.behind ∙ c.tells_other.ensures.same c.if-tells_other.false e)
    (same ∙ c.if-before-eq-MOST_ITEMS.true)
