-- The text of a structure with a start: the body of a satisfiable document.
--
-- Each structure in order with a start has exactly one such text, so "these bytes are the text of this structure
-- and start" is one equation.
--
--   state_lines i rows    == the lines of the states from i on, of which rows has the labels
--   state_line i ps       == `state i` with the labels behind it
--   edge_line e           == `edge s a t`
--   model_lines m start   == states n; start s; the state lines; the edge lines; end
--   model_text m start    == these lines as bytes
--   IsWritten m start     == m and a state of it have a text: m is a structure whose labels and actions are names, and its
--                            numbers fit 32 bits
use Rattle.std.specs.Prelude.{ℕ, ◌<◌, ◌^◌, List, [], ◌∷◌, ◌++◌, map, codes}
use Rattle.std.specs.List.{enumerate_from}
use Rattle.ml_base.specs.declared.structure.Edge.{Edge}
use Rattle.ml_base.specs.Structure.{Structure, IsStructure}
use Rattle.ml_lines.specs.Lines.{Line, number, text_of}
use Rattle.ml_kripke.specs.Ordered.{HasNames}

abbrev pub state_line : ℕ → List (List ℕ) → Line
state_line i labels = codes "state" ∷ number i ∷ labels

abbrev pub edge_line : Edge → Line
edge_line e = codes "edge" ∷ number e.source ∷ e.action ∷ number e.target ∷ []

abbrev pub state_lines : ℕ → List (List (List ℕ)) → List Line
state_lines i rows = map (λ labelled. state_line labelled.0 labelled.1) (enumerate_from i rows)

abbrev pub model_lines : Structure → ℕ → List Line
model_lines m start =
    (codes "states" ∷ number m.states ∷ []) ∷ (codes "start" ∷ number start ∷ [])
    ∷ (state_lines 0 m.labels ++ map edge_line m.edges ++ (codes "end" ∷ []) ∷ [])

abbrev pub model_text : Structure → ℕ → List ℕ
model_text m start = text_of (model_lines m start)

pub record IsWritten (m : Structure) (start : ℕ) : Type 0 where
  pub is_structure : IsStructure m
  pub has_names : HasNames m
  pub fits : m.states < 2 ^ 32
  pub is_state : start < m.states
