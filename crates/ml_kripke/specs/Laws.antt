-- Laws of ordered structures.
--
--   HasSame m n     == m and n have as many states, the same labels at each state, and the same edges
--   OneStructure    == structures in order that have the same are equal
--   IsModelText t   == t is the text of a model in order
--   OneText         == two that have a text have the same text only where they are the same
--   FaultOrModel    == the text of a model in order has no first bad line
--   ModelOrFault    == a text is that of a model in order, or has a first bad line
--   ReadableIsModel == a text has no bad line exactly where it is that of a model in order
--   OneFault        == a text has one first bad line at most
--   RulesRise       == the rules of each line rise by their numbers, so the first one that is broken is the lowest
use Rattle.std.specs.Prelude.{ℕ, ◌≡◌, ◌↔◌, ◌⊎◌, List, [], slice_index_or, Contains}
use Rattle.ml_base.specs.declared.doc_fault.DocFault.{DocFault}
use Rattle.ml_base.specs.declared.structure.Edge.{Edge}
use Rattle.ml_base.specs.Structure.{Structure, IsStructure}
use Rattle.ml_lists.specs.Readings.{NumbersRise}
use Rattle.ml_kripke.specs.BodyRules.{body, IsFaultOf, IsReadableBody}
use Rattle.ml_kripke.specs.Ordered.{IsOrdered}
use Rattle.ml_kripke.specs.ModelText.{IsWritten, model_text}

pub record HasSame (m n : Structure) : Type 0 where
  pub states_same : m.states ≡ n.states
  pub labels_same : (s : ℕ) (p : List ℕ)
      → Contains (slice_index_or m.labels s []) p ↔ Contains (slice_index_or n.labels s []) p
  pub edges_same : (e : Edge) → Contains m.edges e ↔ Contains n.edges e

abbrev pub OneStructure : Type 0
OneStructure = (m n : Structure) → IsStructure m → IsStructure n → IsOrdered m → IsOrdered n → HasSame m n → m ≡ n

abbrev pub OneText : Type 0
OneText = (m n : Structure) (s t : ℕ) → IsWritten m s → IsWritten n t → model_text m s ≡ model_text n t → (m ≡ n) × (s ≡ t)

-- the text is that of a model in order
abbrev pub IsModelText : List ℕ → Type 0
IsModelText text = (m : Structure) × (start : ℕ) × IsWritten m start × IsOrdered m × (text ≡ model_text m start)

abbrev pub FaultOrModel : Type 0
FaultOrModel = (text : List ℕ) (first : ℕ) (fault : DocFault) → IsModelText text → IsFaultOf text first fault → ⊥

abbrev pub ModelOrFault : Type 0
ModelOrFault = (text : List ℕ) (first : ℕ) → IsModelText text ⊎ ((fault : DocFault) × IsFaultOf text first fault)

abbrev pub ReadableIsModel : Type 0
ReadableIsModel = (text : List ℕ) → IsReadableBody text ↔ IsModelText text

abbrev pub OneFault : Type 0
OneFault = (text : List ℕ) (first : ℕ) (e f : DocFault) → IsFaultOf text first e → IsFaultOf text first f → e ≡ f

abbrev pub RulesRise : Type 0
RulesRise = (left : List ℕ) → NumbersRise (body left)
