-- Models and the parts of their bodies.
--
--   IsBody n s rows edges     == parts from which a body is made
--   parts_structure, parts_ordered, parts_named, parts_written == they make an ordered structure with names and a start
--   written_parts             == the parts of a model make a body
--   text_is, whole_text       == the text whose lines they are is that of this model
use Rattle.std.proofs.Common.{◌≡◌, ℕ, ◌^◌, ◌<◌, List, [], ◌∷◌, ◌++◌, map, Option, None, Some, MatchOption, All, sym, ap, ◌∙◌, append_assoc}
use Rattle.std.proofs.lemmas.List.{append-nil}
use Rattle.std.proofs.lemmas.List.Elements.{All-nil, All-cons, All-head, All-tail}
use Rattle.std.specs.declared.cmp.Ordering.TheVariants.{Less}
use Rattle.ml_base.specs.declared.structure.Edge.{Edge}
use Rattle.ml_base.specs.Name.{IsAction}
use Rattle.ml_base.specs.Structure.{Structure, IsStructure}
use Rattle.ml_lines.specs.Lines.{Word, text_of}
use Rattle.ml_lines.specs.Reading.{lines_of, left_of}
use Rattle.ml_lines.specs.private.Fronts.{GoesOn}
use Rattle.ml_lines.proofs.WrittenLines.{text_read}
use Rattle.ml_lists.specs.Chains.{Above, Chain}
use Rattle.ml_lists.proofs.Chains.{chain_sorted, sorted_chain}
use Rattle.ml_kripke.specs.private.BodyParts.{AreRows, AreEdges, IsWholeEnd}
use Rattle.ml_kripke.specs.ModelText.{IsWritten, state_lines, edge_line, model_lines, model_text}
use Rattle.ml_kripke.specs.BodyLines.{states_line, start_line, end_line}
use Rattle.ml_kripke.specs.Ordered.{IsOrdered, HasNames}
use Rattle.ml_kripke.specs.Built.{of_parts}
use Rattle.ml_base.specs.EdgeOrder.{edge_cmp}
use Rattle.ml_kripke.proofs.OneStructure.{edge_order}

pub record IsBody (n s : ℕ) (rows : List (List Word)) (edges : List Edge) : Type 0 where
  pub some : 0 < n
  pub fits : n < 2 ^ 32
  pub is_state : s < n
  pub are_rows : AreRows n rows
  pub are : AreEdges n None edges

-- ---- parts and models

abbrev EndsBelow : ℕ → Edge → Type 0
EndsBelow n e = (e.source < n) × (e.target < n)

abbrev HasAction : Edge → Type 0
HasAction e = IsAction e.action

edges_below : (n : ℕ) (before : Option Edge) (edges : List Edge) → AreEdges n before edges → All (EndsBelow n) edges
edges_below n before [] are = All-nil (EndsBelow n)
edges_below n before (e ∷ es) are = All-cons (EndsBelow n) e es (are.0.source_below, are.0.target_below) (edges_below n (Some e) es are.1)

edges_named : (n : ℕ) (before : Option Edge) (edges : List Edge) → AreEdges n before edges → All HasAction edges
edges_named n before [] are = All-nil HasAction
edges_named n before (e ∷ es) are = All-cons HasAction e es are.0.has_action (edges_named n (Some e) es are.1)

edges_chain : (n : ℕ) (before : Option Edge) (edges : List Edge) → AreEdges n before edges → Chain edge_cmp before edges
edges_chain n before [] are = tt
edges_chain n None (e ∷ es) are = (tt, edges_chain n (Some e) es are.1)
edges_chain n (Some b) (e ∷ es) are = (are.0.ascends, edges_chain n (Some e) es are.1)

chain_edges : (n : ℕ) (before : Option Edge) (edges : List Edge) → All (EndsBelow n) edges → All HasAction edges
    → Chain edge_cmp before edges → AreEdges n before edges
chain_edges n before [] below named chain = tt
chain_edges n before (e ∷ es) below named chain =
    let ends = All-head (EndsBelow n) e es below in (
      record {
        source_below = ends.0;
        target_below = ends.1;
        has_action = All-head HasAction e es named;
        ascends = above before chain.0;
      },
      chain_edges n (Some e) es (All-tail (EndsBelow n) e es below) (All-tail HasAction e es named) chain.1,
    )
  where
    above : (b : Option Edge) → Above edge_cmp b e → MatchOption b (Unit {0}) (λ x. edge_cmp x e ≡ Less)
    above None h = tt
    above (Some x) h = h

module _ (n : ℕ) (rows : List (List Word)) (edges : List Edge) (some : 0 < n) (are_rows : AreRows n rows) (are : AreEdges n None edges) where
  pub parts_structure : IsStructure (of_parts n rows edges)
  parts_structure = record { has_state = some; labels_states = are_rows.one_each; joins_states = edges_below n None edges are }

  pub parts_ordered : IsOrdered (of_parts n rows edges)
  parts_ordered = record {
    labels_ascend = are_rows.ascend;
    edges_ascend = chain_sorted edge_cmp edge_order None edges (edges_chain n None edges are);
  }

  pub parts_named : HasNames (of_parts n rows edges)
  parts_named = record { labels_named = are_rows.are_names; actions_named = edges_named n None edges are }

pub parts_written : (n s : ℕ) (rows : List (List Word)) (edges : List Edge)
    → IsBody n s rows edges
    → IsWritten (of_parts n rows edges) s
parts_written n s rows edges parts = record {
  is_structure = parts_structure n rows edges parts.some parts.are_rows parts.are;
  has_names = parts_named n rows edges parts.some parts.are_rows parts.are;
  fits = parts.fits;
  is_state = parts.is_state;
}

pub written_parts : (m : Structure) (s : ℕ) → IsWritten m s → IsOrdered m → IsBody m.states s m.labels m.edges
written_parts m s ok order = record {
  some = ok.is_structure.has_state;
  fits = ok.fits;
  is_state = ok.is_state;
  are_rows = record {
    one_each = ok.is_structure.labels_states;
    are_names = ok.has_names.labels_named;
    ascend = order.labels_ascend;
  };
  are =
      chain_edges m.states None m.edges ok.is_structure.joins_states ok.has_names.actions_named
      (sorted_chain edge_cmp m.edges order.edges_ascend);
}

-- a text of which these are the lines, and behind which nothing is left
pub text_is : (text : List ℕ) (m : Structure) (s : ℕ)
    → lines_of text ≡ model_lines m s
    → left_of text ≡ []
    → text ≡ model_text m s
text_is text m s lines none =
    sym (text_read text) ∙ ap (λ ls. text_of ls ++ left_of text) lines ∙ ap (λ left. model_text m s ++ left) none
    ∙ append-nil (model_text m s)

pub whole_text : (n s : ℕ) (rows : List (List Word)) (edges : List Edge) (text first second third : List ℕ)
    → GoesOn text (states_line n ∷ []) first → GoesOn first (start_line s ∷ []) second → GoesOn second (state_lines 0 rows) third
    → IsWholeEnd third n edges → text ≡ model_text (of_parts n rows edges) s
whole_text n s rows edges text first second third goes goes' goes'' end =
    text_is text (of_parts n rows edges) s
    (goes.lines_are ∙ ap (λ ls. states_line n ∷ ls) (goes'.lines_are ∙ ap (λ ls. start_line s ∷ ls)
    (goes''.lines_are ∙ ap (λ ls. state_lines 0 rows ++ ls) end.lines_are
    ∙ sym (append_assoc (state_lines 0 rows) (map edge_line edges) (end_line ∷ [])))))
    (goes.left_is ∙ goes'.left_is ∙ goes''.left_is ∙ end.left_is)
