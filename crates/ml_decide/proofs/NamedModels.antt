-- The model that Even's moves make has names for labels and actions, where the graph has.
--
--   labels_are_props == a label of a state is a proposition of the graph
--   has_names        == so the labels are names, and the actions of edges are actions
use Rattle.std.proofs.Common.{◌≡◌, ℕ, ◌<◌, true, List, [], length, get_or, slice_get, slice_index_or, Some, All, sym, subst, arith}
use Rattle.std.proofs.lemmas.List.{get_or_default}
use Rattle.std.proofs.lemmas.Option.{slice_get-get_or}
use Rattle.ml_base.specs.Name.{IsName, IsAction}
use Rattle.ml_base.specs.Structure.{Structure}
use Rattle.ml_base.specs.declared.structure.Edge.{Edge}
use Rattle.ml_kripke.specs.Ordered.{HasNames}
use Rattle.ml_lists.specs.Member.{IsMember}
use Rattle.ml_lists.proofs.Member.{member-All}
use Rattle.ml_graph.specs.Graph.{Graph}
use Rattle.ml_parity.specs.Solution.{GameSolution}
use Rattle.ml_product.specs.Arena.{Arena}
use Rattle.ml_lists.proofs.Member.{member_of_get}
use Rattle.ml_extract.specs.Extraction.{Extracted, HasDiamond}
use Rattle.ml_extract.specs.Model.{IsLabel, IsModelOf, State}
use Rattle.ml_extract.proofs.Numbering.{last_spread}
use Rattle.ml_front.proofs.HeldGraphs.{IsHeld}

module _ (g : Graph) (a : Arena) (s : GameSolution) (m : Structure) (start : ℕ)
    (model : IsModelOf g a s m start) (extracted : Extracted g m start) (held : IsHeld g) where
  label_named : (x : State) → IsMember x model.states → (name : List ℕ) → IsLabel g x name → IsName name
  label_named x inside name l =
      let at = last_spread g a s x.first x.last x.spread (model.are_states.chosen x inside) in
      let low = at.is_spread.low l.literal l.member in
      subst IsName (sym l.named) (held.literals l.literal l.prop true low l.is_positive)

  row_named : (i : ℕ) → i < length m.labels → All IsName (slice_index_or m.labels i [])
  row_named i low =
      let nowhere : State = record { first = 0; last = 0; spread = record { nodes = []; choice = [] } } in
      let x : State = get_or model.states i nowhere in
      let is : slice_get model.states i ≡ Some x =
      slice_get-get_or model.states i nowhere (omega (arith, low, model.labels_each)) in
      member-All IsName (slice_index_or m.labels i [])
      (λ name inside.
      label_named x (member_of_get model.states i x is) name ((model.labels i x is name).0 inside))

  edge_named : (e : Edge) → IsMember e m.edges → IsAction e.action
  edge_named e inside =
      let d : HasDiamond g e = extracted.along_diamonds e inside in
      subst IsAction (sym d.action_is) (held.diamonds d.diamond d.action d.child d.is_node d.is_diamond)

  pub has_names : HasNames m
  has_names = record {
    labels_named = λ i row low. subst (All IsName) (get_or_default m.labels i [] row low) (row_named i low);
    actions_named = member-All (λ (e : Edge). IsAction e.action) m.edges edge_named;
  }
