-- The lists of a formula make a graph: every number in them is in range.
--
--   nodes_fit, program_fits == the numbers of a formula's nodes are in range, and of a program's
--   lists_make_graph == so the lists of a formula make a graph
use Rattle.std.proofs.Common.{◌≡◌, ℕ, ◌+◌, ◌*◌, ◌<◌, ◌≤◌, Bool, not, if◌then◌else◌, List, [], ◌∷◌, ◌++◌, length, bytes_eq, sym, ◌∙◌, ap, subst, arith}
use Rattle.std.specs.List.{IsDistinct}
use Rattle.ml_graph.specs.Graph.{Graph, IsGraph, size}
use Rattle.ml_graph.specs.declared.node.Node.{Node}
use Rattle.ml_text.specs.Operators.{weight}
use Rattle.ml_text.specs.NameLists.{place_of}
use Rattle.ml_text.specs.Names.{Proposition, Action, of_kind}
use Rattle.ml_text.proofs.NameLists.{distinct_names, place_found}
use Rattle.ml_text.proofs.Names.{AreAmong, among_parts, names_among}
use Rattle.ml_pdl.specs.Formula.{Formula, Const, Prop, Not, Binary, Modal, Repeat, Program, Act, Seq, Alt, Star, Test, occurrences, program_occurrences}
use Rattle.ml_pdl.specs.FormulaNames.{names, program_names}
use Rattle.ml_pdl.specs.declared.term.Modality.{Modality}
use Rattle.ml_pdl.specs.declared.term.Modality.TheVariants.{Diamond, Square}
use Rattle.ml_nodes.specs.Nodes.{lead_to, negative, positive}
use Rattle.ml_pdl_graph.specs.PdlGraph.{diamond, box, own, dual}
use Rattle.ml_nodes.specs.private.Connectives.{operator_nodes}
use Rattle.ml_nodes.proofs.InRange.{AllFit, both_fit, constant_fits, fitting_graph, led_fit, none_twice, one, operator_fits, two}
use Rattle.ml_pdl_graph.specs.private.NodeList.{nodes_of, program_nodes, priorities_of, props_onto, actions_onto}
use Rattle.ml_pdl.proofs.SomeOccurrence.{some_occurrence, some_program_occurrence}
use Rattle.ml_pdl_graph.proofs.NodeLists.{length-nodes, length-priorities}

sides_fit : (m : Modality) (i n : ℕ) → 2 * (i + 1) ≤ n → (own m i < n) × (dual m i < n)
sides_fit Diamond i n room = (omega (arith, room), omega (arith, room))
sides_fit Square i n room = (omega (arith, room), omega (arith, room))

module _ (n : ℕ) (ps acts : List (List ℕ)) where
  led_both : (j k : ℕ) (xs ys : List Node)
      → j < n
      → k < n
      → AllFit n ps acts xs
      → AllFit n ps acts ys
      → AllFit n ps acts (lead_to j ∷ lead_to k ∷ (xs ++ ys))
  led_both j k xs ys low under left right =
      led_fit n ps acts j k (xs ++ ys) low under (both_fit n ps acts xs ys left right)

  mutual
    pub nodes_fit : (i : ℕ) (f : Formula) → AreAmong ps acts (names f) → 2 * (i + occurrences f) ≤ n → AllFit n ps acts (nodes_of ps acts i f)
    nodes_fit i (Const v) among room = (constant_fits n ps acts v, (constant_fits n ps acts (not v), tt))
    nodes_fit i (Prop p) among room =
        let found = place_found ps p among.0.0 in
        (one (place_of ps p) (length ps) found.below, (one (place_of ps p) (length ps) found.below, tt))
    nodes_fit i (Not f) among room =
        let some = some_occurrence f in
        led_fit n ps acts (negative (i + 1)) (positive (i + 1)) (nodes_of ps acts (i + 1) f)
        (omega (arith, room, some)) (omega (arith, room, some)) (nodes_fit (i + 1) f among (omega (arith, room)))
    nodes_fit i (Binary op f h) among room =
        let parts = among_parts ps acts (names f) (names h) among in
        let l = i + weight op in
        let r = l + occurrences f in
        let left = some_occurrence f in
        let right = some_occurrence h in
        both_fit n ps acts (operator_nodes op i l r) (nodes_of ps acts l f ++ nodes_of ps acts r h)
        (operator_fits n ps acts op i l r (omega (arith, room)) (omega (arith, room, left, right)) (omega (arith, room, left, right)))
        (both_fit n ps acts (nodes_of ps acts l f) (nodes_of ps acts r h) (nodes_fit l f parts.0 (omega (arith, room)))
        (nodes_fit r h parts.1 (omega (arith, room))))
    nodes_fit i (Modal m p f) among room =
        let parts = among_parts ps acts (program_names p) (names f) among in
        let l = i + 1 in
        let r = l + program_occurrences p in
        let first = sides_fit m l n (omega (arith, room, some_program_occurrence p)) in
        let second = sides_fit m r n (omega (arith, room, some_occurrence f)) in
        led_both (own m l) (dual m l) (program_nodes ps acts l (own m r) (dual m r) p) (nodes_of ps acts r f) first.0 first.1
        (program_fits l (own m r) (dual m r) p parts.0 (omega (arith, room)) second.0 second.1)
        (nodes_fit r f parts.1 (omega (arith, room)))
    nodes_fit i (Repeat p) among room =
        let l = i + 1 in
        let some = some_program_occurrence p in
        led_fit n ps acts (diamond l) (box l) (program_nodes ps acts l (positive i) (negative i) p)
        (omega (arith, room, some)) (omega (arith, room, some))
        (program_fits l (positive i) (negative i) p among (omega (arith, room)) (omega (arith, room)) (omega (arith, room)))

    pub program_fits : (i d b : ℕ) (p : Program) → AreAmong ps acts (program_names p) → 2 * (i + program_occurrences p) ≤ n → d < n → b < n
        → AllFit n ps acts (program_nodes ps acts i d b p)
    program_fits i d b (Act a) among room on off =
        let known = (place_found acts a among.1.0).below in
        (two (place_of acts a) (length acts) d n known on, (two (place_of acts a) (length acts) b n known off, tt))
    program_fits i d b (Seq p q) among room on off =
        let parts = among_parts ps acts (program_names p) (program_names q) among in
        let l = i + 1 in
        let r = l + program_occurrences p in
        let left = some_program_occurrence p in
        let right = some_program_occurrence q in
        led_both (diamond l) (box l) (program_nodes ps acts l (diamond r) (box r) p) (program_nodes ps acts r d b q)
        (omega (arith, room, left)) (omega (arith, room, left))
        (program_fits l (diamond r) (box r) p parts.0 (omega (arith, room)) (omega (arith, room, right)) (omega (arith, room, right)))
        (program_fits r d b q parts.1 (omega (arith, room)) on off)
    program_fits i d b (Alt p q) among room on off =
        let parts = among_parts ps acts (program_names p) (program_names q) among in
        let l = i + 1 in
        let r = l + program_occurrences p in
        let left = some_program_occurrence p in
        let right = some_program_occurrence q in (
          two (diamond l) n (diamond r) n (omega (arith, room, left)) (omega (arith, room, right)),
          (
            two (box l) n (box r) n (omega (arith, room, left)) (omega (arith, room, right)),
            both_fit n ps acts (program_nodes ps acts l d b p) (program_nodes ps acts r d b q)
                (program_fits l d b p parts.0 (omega (arith, room)) on off)
                (program_fits r d b q parts.1 (omega (arith, room)) on off),
          ),
        )
    program_fits i d b (Star p) among room on off =
        let l = i + 1 in
        let some = some_program_occurrence p in (
          two d n (diamond l) n on (omega (arith, room, some)),
          (
            two b n (box l) n off (omega (arith, room, some)),
            program_fits l (diamond i) (box i) p among (omega (arith, room)) (omega (arith, room)) (omega (arith, room)),
          ),
        )
    program_fits i d b (Test f) among room on off =
        let l = i + 1 in
        let some = some_occurrence f in (
          two (positive l) n d n (omega (arith, room, some)) on,
          (two (negative l) n b n (omega (arith, room, some)) off, nodes_fit l f among (omega (arith, room))),
        )

pub lists_make_graph : (g : Graph) (f : Formula) (negated : Bool)
    → g.props ≡ props_onto f []
    → g.actions ≡ actions_onto f []
    → g.nodes ≡ nodes_of g.props g.actions 0 f
    → g.priorities ≡ priorities_of f
    → g.root ≡ (if negated then 1 else 0)
    → IsGraph g
lists_make_graph g f negated props actions nodes priorities root =
    let n = size g in
    let long : n ≡ 2 * occurrences f = ap length nodes ∙ length-nodes g.props g.actions 0 f in
    let some = some_occurrence f in
    let among = names_among (names f) props actions in
    let fit =
    nodes_fit n g.props g.actions 0 f among (omega (arith, long)) in
    fitting_graph g negated (omega (arith, long, some))
    (ap length priorities ∙ length-priorities f ∙ sym long)
    (subst (AllFit n g.props g.actions) (sym nodes) fit) root
    (subst (IsDistinct bytes_eq) (sym props) (distinct_names [] (of_kind Proposition (names f)) none_twice))
    (subst (IsDistinct bytes_eq) (sym actions) (distinct_names [] (of_kind Action (names f)) none_twice))
