-- A task: what a machine is told at each moment, what it answers, and what is asked of the two for ever.
--
-- At each moment the environment sets some of the inputs, and the machine, which sees them, sets some of the outputs.
-- Both are propositions of LTL, and the formula speaks of these propositions alone. So the sets that are true at the
-- moments are an endless word, and the formula is satisfied by it or not.
--
--   Task              == the inputs, the outputs, and the formula
--   task_of is os f   == the task of these
--   names_of t        == the names of the inputs, and then those of the outputs
--   most_names        == how many names a task has at most
--   is_named w        == is it a proposition of LTL that is no longer than a name may be?
--   are_new seen ws   == is each of the words new: none of `seen`, and none of the words before it?
--   knows ns f        == is each proposition of f one of the names ns?
--   IsTask t          == its names are names, few, and each once; its formula is one of LTL, and speaks of these names
use Rattle.std.specs.Prelude.{ℕ, ◌≤◌, Bool, true, not, ◌&&◌, nat_le, List, [], ◌∷◌, ◌++◌, length, IsTrue}
use Rattle.std.specs.List.{list_all, list_any}
use Rattle.std.specs.Str.{bytes_eq}
use Rattle.ml_base.specs.Name.{longest_name}
use Rattle.ml_ctl.specs.Formula.{Formula}
use Rattle.ml_ctl.specs.FormulaNames.{names}
use Rattle.ml_ctl.specs.Sorts.{is_linear}
use Rattle.ml_ctl.specs.Spelling.{is_proposition}
use Rattle.ml_task.specs.declared.task.TheConstants.{MOST_NAMES}

pub record Task : Type 0 where
  pub inputs : List (List ℕ)
  pub outputs : List (List ℕ)
  pub formula : Formula

abbrev pub task_of : List (List ℕ) → List (List ℕ) → Formula → Task
task_of inputs outputs formula = record { inputs = inputs; outputs = outputs; formula = formula }

abbrev pub names_of : Task → List (List ℕ)
names_of t = t.inputs ++ t.outputs

abbrev pub most_names : ℕ
most_names = MOST_NAMES

abbrev pub is_named : List ℕ → Bool
is_named w = is_proposition w && nat_le (length w) longest_name

abbrev pub are_new : List (List ℕ) → List (List ℕ) → Bool
are_new seen [] = true
are_new seen (w ∷ ws) = not (list_any (bytes_eq w) seen) && are_new (seen ++ w ∷ []) ws

abbrev pub knows : List (List ℕ) → Formula → Bool
knows ns f = list_all (λ x. list_any (bytes_eq x.1) ns) (names f)

pub record IsTask (t : Task) : Type 0 where
  pub are_named : IsTrue (list_all is_named (names_of t))
  pub each_once : IsTrue (are_new [] (names_of t))
  pub few : length (names_of t) ≤ most_names
  pub is_linear : IsTrue (is_linear t.formula)
  pub is_known : IsTrue (knows (names_of t) t.formula)
