use Rattle.std.proofs.Common.{◌≡◌, length, ap, sym, subst, ◌∙◌, arith}
use Rattle.ml_text.specs.Names.{Proposition}
use Rattle.ml_text.proofs.Names.{few_added}
use Rattle.ml_ctl.specs.Formula.{occurrences}
use Rattle.ml_ctl.specs.FormulaNames.{names}
use Rattle.ml_ctl.specs.Term.{formula_of}
use Rattle.ml_ctl.proofs.Counting.{few_names}
use Rattle.ml_word_graph.specs.private.Layout as layout
use Rattle.ml_word_graph.specs.private.Reached.{AreInside, IsTrimmed}
use Rattle.ml_word_graph.proofs.Made.{all_length, are_inside, as_many_ranks}
use Rattle.ml_word_graph.proofs.OkResults.{ok_three}
use Rattle.ml_word_graph.proofs.graph.lists_of.Goals as goal

pub laid_out-requires-clause-names : goal.laid_out-requires-clause-names
laid_out-requires-clause-names c =
    let f = formula_of c.args.term.now in
    omega (arith, ap length c.in_ok-names.ensures.props, few_added Proposition (names f) (occurrences f) (few_names f), c.requires)

pub trimmed-requires-clause-inside : goal.trimmed-requires-clause-inside
trimmed-requires-clause-inside c =
    subst AreInside (sym c.in_ok-all.ensures.nodes)
    (are_inside (formula_of c.args.term.now) c.args.negated c.in_ok-names.names.props.keys)

pub trimmed-requires-clause-few : goal.trimmed-requires-clause-few
trimmed-requires-clause-few c =
    omega (
      arith,
      ap length c.in_ok-all.ensures.nodes,
      all_length (formula_of c.args.term.now) c.args.negated c.in_ok-names.names.props.keys,
      c.requires,
    )

pub trimmed-requires-clause-ranks : goal.trimmed-requires-clause-ranks
trimmed-requires-clause-ranks c =
    ap length c.in_ok-all.ensures.priorities
    ∙ as_many_ranks (formula_of c.args.term.now) c.args.negated c.in_ok-names.names.props.keys
    ∙ sym (ap length c.in_ok-all.ensures.nodes)

pub returns-clause-trimmed : goal.returns-clause-trimmed
returns-clause-trimmed c =
    let f = formula_of c.args.term.now in
    let negated = c.args.negated in
    let d = c.in_ok-draft.draft in
    let names = c.in_ok-names.names.props.keys in
    ok_three c.of.result (λ l. l.nodes.items ≡ d.nodes.items) (λ l. l.priorities.items ≡ d.priorities.items)
    (λ l. l.props.items ≡ names)
    (λ l. IsTrimmed (layout.all_nodes l.props.items f negated) (layout.all_priorities f) l.nodes.items l.priorities.items)
    (λ l nodes priorities props.
    subst (λ ns. IsTrimmed (layout.all_nodes ns f negated) (layout.all_priorities f) l.nodes.items l.priorities.items)
    (sym props)
    (subst (λ vs. IsTrimmed (layout.all_nodes names f negated) (layout.all_priorities f) vs l.priorities.items) (sym nodes)
    (subst (λ ps. IsTrimmed (layout.all_nodes names f negated) (layout.all_priorities f) d.nodes.items ps) (sym priorities)
    (subst (λ rs. IsTrimmed (layout.all_nodes names f negated) rs d.nodes.items d.priorities.items)
    c.in_ok-all.ensures.priorities
    (subst (λ all. IsTrimmed all c.in_ok-all.all.priorities.items d.nodes.items d.priorities.items)
    c.in_ok-all.ensures.nodes c.in_ok-draft.ensures.trimmed)))))
    c.of.ensures.nodes c.of.ensures.priorities c.of.ensures.props
