use Rattle.std.proofs.Common.{◌+◌, None, map, ap, refl, sym, subst, ◌∙◌, arith}
use Rattle.std.proofs.lemmas.Result.{err_from_is_err_and}
use Rattle.ml_kripke.specs.BodyRules.{AtEdge}
use Rattle.ml_kripke.specs.ModelText.{model_text}
use Rattle.ml_kripke.specs.Ordered.{HasNames}
use Rattle.ml_kripke.specs.private.Refusals.{TellsFault}
use Rattle.ml_kripke.proofs.ModelParts.{parts_structure, parts_ordered, parts_named, whole_text}
use Rattle.ml_kripke.proofs.BodyFaults.{from_states, from_body, from_rows}
use Rattle.ml_kripke.proofs.GoodLines.{at_state_done}
use Rattle.ml_kripke.proofs.OneText.{length-state_lines}
use Rattle.ml_kripke.proofs.read.read_body.Goals as goal

pub returns-in_err-start-clause-refused : goal.returns-in_err-start-clause-refused
returns-in_err-start-clause-refused c =
    let p = err_from_is_err_and c.from_residual-in_err-start.result c.from_residual-in_err-start.ensures.1 in
    let first = c.in_ok-states.ensures.read in
    rw (p.1, p.2)
    (from_states c.in_ok-states.states c.args.line c.in_err-start.field-0.0 first.2 c.args.bytes.now c.in_ok-states.starts.now first.0 first.1
    c.in_err-start.ensures.refused)

pub returns-in_err-labels-clause-refused : goal.returns-in_err-labels-clause-refused
returns-in_err-labels-clause-refused c =
    let p = err_from_is_err_and c.from_residual-in_err-labels.result c.from_residual-in_err-labels.ensures.1 in
    let first = c.in_ok-states.ensures.read in
    let second = c.in_ok-start.ensures.read in
    rw (p.1, p.2)
    (from_body c.in_ok-states.states c.in_ok-start.start c.args.line c.args.bytes.now c.in_ok-states.starts.now c.in_ok-start.behind.now
    c.in_err-labels.field-0.0 first.0 second.0 first.1 first.2 second.1 c.in_err-labels.ensures.refused)

pub read_edges-requires : goal.read_edges-requires
read_edges-requires c =
    let rows = map (λ row. row.items) c.in_ok-labels.labels.items in
    let third = c.in_ok-labels.ensures.read in
    omega (
      arith,
      c.in_ok-states.ensures.read.0.shorter,
      c.in_ok-start.ensures.read.0.shorter,
      third.0.shorter,
      length-state_lines 0 rows,
      third.1.one_each,
      c.from.ensures,
    )

pub returns-in_err-edges-clause-refused : goal.returns-in_err-edges-clause-refused
returns-in_err-edges-clause-refused c =
    let p = err_from_is_err_and c.from_residual-in_err-edges.result c.from_residual-in_err-edges.ensures.1 in
    let n = c.in_ok-states.states in
    let rows = map (λ row. row.items) c.in_ok-labels.labels.items in
    let told = c.in_err-edges.field-0.0 in
    let first = c.in_ok-states.ensures.read in
    let second = c.in_ok-start.ensures.read in
    let third = c.in_ok-labels.ensures.read in
    let rest = c.in_ok-labels.rest.now in
    let at = subst (λ j. TellsFault (AtEdge n None) (c.args.line + 2 + j) rest told) c.from.ensures c.in_err-edges.ensures.refused in
    rw (p.1, p.2)
    (from_body n c.in_ok-start.start c.args.line c.args.bytes.now c.in_ok-states.starts.now c.in_ok-start.behind.now told first.0 second.0
    first.1 first.2 second.1
    (from_rows n (c.args.line + 2) told first.2 n (c.args.line + 2 + n) c.in_ok-start.behind.now rest rows third.0 third.1 refl (omega arith)
    (subst (λ place. TellsFault place (c.args.line + 2 + n) rest told) (sym (at_state_done n n (omega arith))) at)))

pub of_parts-requires-clause-is_structure : goal.of_parts-requires-clause-is_structure
of_parts-requires-clause-is_structure c =
    parts_structure c.in_ok-states.states (map (λ row. row.items) c.in_ok-labels.labels.items) c.in_ok-edges.edges.items
    c.in_ok-states.ensures.read.1 c.in_ok-labels.ensures.read.1 c.in_ok-edges.ensures.read.are

pub of_parts-requires-clause-is_ordered : goal.of_parts-requires-clause-is_ordered
of_parts-requires-clause-is_ordered c =
    parts_ordered c.in_ok-states.states (map (λ row. row.items) c.in_ok-labels.labels.items) c.in_ok-edges.edges.items
    c.in_ok-states.ensures.read.1 c.in_ok-labels.ensures.read.1 c.in_ok-edges.ensures.read.are

pub returns-clause-text : goal.returns-clause-text
returns-clause-text c =
    let s = c.in_ok-start.start in
    whole_text c.in_ok-states.states s (map (λ row. row.items) c.in_ok-labels.labels.items) c.in_ok-edges.edges.items c.args.bytes.now
    c.in_ok-states.starts.now c.in_ok-start.behind.now c.in_ok-labels.rest.now c.in_ok-states.ensures.read.0 c.in_ok-start.ensures.read.0
    c.in_ok-labels.ensures.read.0 c.in_ok-edges.ensures.read
    ∙ ap (λ m. model_text m s) (sym (c.new.ensures.structure ∙ c.of_parts.ensures))
    ∙ ap (λ t. model_text c.new.result.structure t) (sym c.new.ensures.start)

pub returns-clause-names : goal.returns-clause-names
returns-clause-names c =
    subst HasNames (sym (c.new.ensures.structure ∙ c.of_parts.ensures))
    (parts_named c.in_ok-states.states (map (λ row. row.items) c.in_ok-labels.labels.items) c.in_ok-edges.edges.items
    c.in_ok-states.ensures.read.1 c.in_ok-labels.ensures.read.1 c.in_ok-edges.ensures.read.are)
