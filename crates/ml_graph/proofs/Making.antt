-- How a checking game is made: what is noted at a state, the moves of a pair, and vertices one behind the other.
--
--   looked           == what was noted at a state is what is true there, and where its edges lead
--   sink_or_pairs    == the numbers of pairs, or of a sink
--   some_pairs       == where there are states, they are those of pairs
--   sink_number      == the number of a sink, as the program computes it
--   modal_moves      == the moves at a modality
--   vertex_more, pair_more == one vertex more, and the pair of one node more
--   all_pairs        == the pairs of one state more
--   with_sinks       == the two sinks behind all pairs
--   made_game        == lists with all vertices are the checking game
use Rattle.std.proofs.Common.{ℕ, ◌≡◌, ◌+◌, ◌*◌, ◌==◌, false, List, [], ◌∷◌, ◌++◌, length, get_or, map, Result, Ok, Err, IfOk, refl, sym, ap, ◌∙◌, subst, arith, append_assoc}
use Rattle.std.specs.Global.{Vec}
use Rattle.std.specs.List.{flat_map, range_with_len}
use Rattle.std.proofs.lemmas.List.{map-append}
use Rattle.std.proofs.lemmas.Simd.{map-map}
use Rattle.ml_base.specs.declared.structure.Edge.{Edge}
use Rattle.ml_base.specs.Structure.{Structure}
use Rattle.ml_parity.specs.declared.players.Player.{Player}
use Rattle.ml_parity.specs.Refusal.{lists_of, game_of}
use Rattle.ml_graph.specs.declared.at_state.AtState.{AtState}
use Rattle.ml_graph.specs.declared.checking.Vertices.{Vertices}
use Rattle.ml_graph.specs.Graph.{Graph, size, node_at}
use Rattle.ml_graph.specs.CheckingGame.{Vertex, Pair, Sink, owner_at, priority_at_vertex, vertex_number, successors, successors_of, pairs_or_sink, pairs_at, vertices, checking_game}
use Rattle.ml_graph.specs.private.Making.{AreEdgesOf, HasTruths, HasTargets, HasVertices, IsFor, IsAt, numbers_or_sink}
use Rattle.ml_lists.proofs.Ranges.{flat_map-more, map-more}

-- what was noted at a state is what is true there, and where its edges lead
pub looked : (g : Graph) (m : Structure) (s : ℕ) (at at2 : AtState) (labels : List (List ℕ)) (es : List Edge)
    → IsFor g at
    → at2.props ≡ at.props
    → at2.actions ≡ at.actions
    → labels ≡ get_or m.labels s []
    → AreEdgesOf m s es
    → HasTruths at.props.keys labels at2.truths.items
    → HasTargets at.actions.keys es at2.targets.items
    → IsAt g m s at2
looked g m s at at2 labels es has props actions of_state edges truths targets =
    let names : at2.props.keys ≡ g.props = ap (λ x. x.keys) props ∙ has.props in
    let acts : at2.actions.keys ≡ g.actions = ap (λ x. x.keys) actions ∙ has.actions in
    let true_here : HasTruths g.props (get_or m.labels s []) at2.truths.items =
    subst (λ ls. HasTruths g.props ls at2.truths.items) of_state
    (subst (λ ps. HasTruths ps labels at2.truths.items) has.props truths) in
    let leads : HasTargets g.actions es at2.targets.items =
    subst (λ xs. HasTargets xs es at2.targets.items) has.actions targets in
    record {
      names = record {
        props = names;
        actions = acts;
        truths = true_here.size;
        targets = leads.size;
        props_differ = has.props_differ;
        actions_differ = has.actions_differ;
      };
      truth = true_here.truth;
      row = λ a low. leads.row a low ∙ sym (edges (get_or g.actions a []));
    }

-- the numbers of pairs, or of a sink
pub sink_or_pairs : (g : Graph) (m : Structure) (to p : ℕ) (ts : List ℕ)
    → numbers_or_sink (size g) to (m.states * size g + p) ts ≡ map (vertex_number g m) (pairs_or_sink to p ts)
sink_or_pairs g m to p [] = refl
sink_or_pairs g m to p (t ∷ ts) = sym (map-map (vertex_number g m) (λ s. Pair s to) (t ∷ ts))

-- where there are states, the pairs
pub some_pairs : (n to sink : ℕ) (xs ss : List ℕ) → false ≡ (length ss == 0) → xs ≡ map (λ t. t * n + to) ss
    → xs ≡ numbers_or_sink n to sink ss
some_pairs n to sink xs [] some is = cc
some_pairs n to sink xs (s ∷ ss) some is = is

-- the number of a sink
pub sink_number : (s n a b p k sink : ℕ) → k ≡ s * n + 0 → s ≡ a → n ≡ b → sink ≡ k + p → sink ≡ a * b + p
sink_number s n a b p k sink e same_states same_size is =
    let product : s * n ≡ a * b = ap (λ x. x * n) same_states ∙ ap (λ x. a * x) same_size in omega arith

-- the moves at a modality
pub modal_moves : {E : Type 0}
    → (g : Graph) (m : Structure) (s n to p width sink : ℕ) (ts : List ℕ) (r : Result (Vec ℕ) E)
    → IfOk r (λ v. v.items ≡ numbers_or_sink width to sink ts) → width ≡ size g → sink ≡ m.states * size g + p
    → successors_of g m s (node_at g n) ≡ pairs_or_sink to p ts
    → IfOk r (λ v. v.items ≡ map (vertex_number g m) (successors_of g m s (node_at g n)))
modal_moves g m s n to p width sink ts (Ok v) is w k next =
    is ∙ ap (λ x. numbers_or_sink x to sink ts) w ∙ ap (λ x. numbers_or_sink (size g) to x ts) k
    ∙ sink_or_pairs g m to p ts ∙ ap (map (vertex_number g m)) (sym next)
modal_moves g m s n to p width sink ts (Err e) is w k next = is

-- one vertex more
pub vertex_more : (g : Graph) (m : Structure) (made made2 : Vertices) (vs : List Vertex) (v : Vertex) (owner : Player)
    (priority : ℕ) (moves : Vec ℕ)
    → HasVertices g m made vs → made2.owner.items ≡ made.owner.items ++ owner ∷ [] → made2.priority.items
    ≡ made.priority.items ++ priority ∷ []
    → made2.successors.items ≡ made.successors.items ++ moves ∷ [] → owner ≡ owner_at g v → priority
    ≡ priority_at_vertex g v
    → moves.items ≡ map (vertex_number g m) (successors g m v) → HasVertices g m made2 (vs ++ v ∷ [])
vertex_more g m made made2 vs v owner priority moves has owners priorities lists own prio next = record {
  owners = owners ∙ ap (λ xs. xs ++ owner ∷ []) has.owners ∙ ap (λ o. map (owner_at g) vs ++ o ∷ []) own
      ∙ sym (map-append (owner_at g) vs (v ∷ []));
  priorities = priorities ∙ ap (λ xs. xs ++ priority ∷ []) has.priorities
      ∙ ap (λ o. map (priority_at_vertex g) vs ++ o ∷ []) prio ∙ sym (map-append (priority_at_vertex g) vs (v ∷ []));
  moves =
      ap lists_of lists
      ∙ map-append (λ (x : Vec ℕ). x.items) made.successors.items (moves ∷ [])
      ∙ ap (λ xs. xs ++ moves.items ∷ []) has.moves
      ∙ ap (λ xs. map (λ x. map (vertex_number g m) (successors g m x)) vs ++ xs ∷ []) next
      ∙ sym (map-append (λ x. map (vertex_number g m) (successors g m x)) vs (v ∷ []));
}

-- the pair of a state and one node more
pub pair_more : (g : Graph) (m : Structure) (made made2 : Vertices) (vs : List Vertex) (s n : ℕ)
    → HasVertices g m made (vs ++ map (Pair s) (range_with_len 0 n))
    → ((us : List Vertex) → HasVertices g m made us → HasVertices g m made2 (us ++ Pair s n ∷ []))
    → HasVertices g m made2 (vs ++ map (Pair s) (range_with_len 0 (n + 1)))
pair_more g m made made2 vs s n has more =
    subst (HasVertices g m made2)
    (append_assoc vs (map (Pair s) (range_with_len 0 n)) (Pair s n ∷ []) ∙ ap (λ xs. vs ++ xs) (sym (map-more (Pair s) n)))
    (more (vs ++ map (Pair s) (range_with_len 0 n)) has)

-- the pairs of all states, and then the two sinks
pub all_pairs : (g : Graph) (m : Structure) (made made2 : Vertices) (s : ℕ)
    → HasVertices g m made (flat_map (pairs_at g) (range_with_len 0 s))
    → ((vs : List Vertex) → HasVertices g m made vs → HasVertices g m made2 (vs ++ pairs_at g s))
    → HasVertices g m made2 (flat_map (pairs_at g) (range_with_len 0 (s + 1)))
all_pairs g m made made2 s has more =
    subst (HasVertices g m made2) (sym (flat_map-more (pairs_at g) s))
    (more (flat_map (pairs_at g) (range_with_len 0 s)) has)

-- the vertices that were made are a game
pub made_game : (g : Graph) (m : Structure) (made : Vertices) → HasVertices g m made (vertices g m)
    → game_of made.owner made.priority made.successors ≡ checking_game g m
made_game g m made has = λ i. record { owner = has.owners i; priority = has.priorities i; successors = has.moves i }

-- the two sinks behind all pairs
pub with_sinks : (g : Graph) (m : Structure) (made made2 made3 : Vertices) (states : ℕ) → states ≡ m.states
    → HasVertices g m made (flat_map (pairs_at g) (range_with_len 0 states))
    → ((vs : List Vertex) → HasVertices g m made vs → HasVertices g m made2 (vs ++ Sink 0 ∷ []))
    → ((vs : List Vertex) → HasVertices g m made2 vs → HasVertices g m made3 (vs ++ Sink 1 ∷ []))
    → HasVertices g m made3 (vertices g m)
with_sinks g m made made2 made3 states all has first second =
    let pairs : List Vertex = flat_map (pairs_at g) (range_with_len 0 m.states) in
    let here : HasVertices g m made pairs =
    subst (λ n. HasVertices g m made (flat_map (pairs_at g) (range_with_len 0 n))) all has in
    subst (HasVertices g m made3) (append_assoc pairs (Sink 0 ∷ []) (Sink 1 ∷ []))
    (second (pairs ++ Sink 0 ∷ []) (first pairs here))
