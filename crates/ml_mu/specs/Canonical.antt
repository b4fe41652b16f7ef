-- The canonical text of a formula: every connective and binder in parentheses, single blanks round the connectives,
-- one spelling for each sign, and the action `_` left out of its modality.
--
--   action_text a     == what stands between the signs of a modality by the action a
--   canonical_text f  == the canonical text of f
use Rattle.std.specs.Prelude.{ℕ, true, false, List, [], ◌++◌, if◌then◌else◌, codes}
use Rattle.std.specs.Str.{bytes_eq}
use Rattle.ml_text.specs.Operators.{spelling_of}
use Rattle.ml_mu.specs.Formula.{Formula, Const, Prop, Var, Not, Binary, Modal, Binder, Modality, Diamond, Square, Fixpoint, Least, Greatest}

abbrev pub action_text : List ℕ → List ℕ
action_text a = if bytes_eq a (codes "_") then [] else a

abbrev pub modality_text : Modality → List ℕ → List ℕ
modality_text Diamond a = codes "<" ++ action_text a ++ codes ">"
modality_text Square a = codes "[" ++ action_text a ++ codes "]"

abbrev pub fixpoint_word : Fixpoint → List ℕ
fixpoint_word Least = codes "mu"
fixpoint_word Greatest = codes "nu"

abbrev pub canonical_text : Formula → List ℕ
canonical_text (Const true) = codes "tt"
canonical_text (Const false) = codes "ff"
canonical_text (Prop p) = p
canonical_text (Var x) = x
canonical_text (Not f) = codes "!" ++ canonical_text f
canonical_text (Binary op f g) =
    codes "(" ++ canonical_text f ++ codes " " ++ spelling_of op ++ codes " " ++ canonical_text g ++ codes ")"
canonical_text (Modal m a f) = modality_text m a ++ canonical_text f
canonical_text (Binder q x f) =
    codes "(" ++ fixpoint_word q ++ codes " " ++ x ++ codes ". " ++ canonical_text f ++ codes ")"
