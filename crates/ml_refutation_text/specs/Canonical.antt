-- The text that is written of a refutation, in both versions: the one that the format reads as it, in one form.
--
-- In version 1 everything is in full. In version 2 the tables have each sequent and each stack of the refutation once, in
-- the order of first use. The format spells each number in one way and has single blanks, so one text is meant.
--
--   with_new xs x          == the lists xs, and x behind them if it is none of them
--   each_once xs           == the lists xs, each once, in the order in which they come first
--   used_stacks e          == the stacks of the items of the entry e
--   sequents_of es, stacks_of es == the sequents of the entries es, and the stacks of their items, each once
--   written_form v r       == the form in which r is written in the version v
--   IsWrittenText v text r == the text is the one that is written of r: it is read as r by way of this form
use Rattle.std.specs.Prelude.{ℕ, ◌≡◌, List, [], ◌∷◌, ◌++◌, map, fold, if◌then◌else◌}
use Rattle.std.specs.List.{flat_map, list_any}
use Rattle.std.specs.Str.{bytes_eq}
use Rattle.ml_base.specs.declared.version.Version.{Version}
use Rattle.ml_base.specs.declared.version.Version.TheVariants.{One, Two}
use Rattle.ml_lines.specs.Lines.{Line}
use Rattle.ml_lines.specs.Reading.{lines_of, left_of}
use Rattle.ml_refutation.specs.Refutation.{Refutation, Entry}
use Rattle.ml_refutation_text.specs.BodyRules.{Form, InFull, ByTables, AtNames, AtEntries, AtNothing, body}
use Rattle.ml_lists.specs.Readings.{Runs}

abbrev pub with_new : List (List ℕ) → List ℕ → List (List ℕ)
with_new known x = if list_any (bytes_eq x) known then known else known ++ x ∷ []

abbrev pub each_once : List (List ℕ) → List (List ℕ)
each_once xs = fold with_new [] xs

abbrev pub used_stacks : Entry → List (List ℕ)
used_stacks e = map (λ a. a.stack) e.traces.items

abbrev pub sequents_of : List Entry → List (List ℕ)
sequents_of entries = each_once (map (λ e. e.sequent) entries)

abbrev pub stacks_of : List Entry → List (List ℕ)
stacks_of entries = each_once (flat_map used_stacks entries)

abbrev pub written_form : Version → Refutation → Form
written_form One r = InFull
written_form Two r = ByTables (sequents_of r.entries) (stacks_of r.entries)

pub record IsWrittenText (v : Version) (text : List ℕ) (r : Refutation) : Type 0 where
  pub first : List Line
  pub others : List Line
  pub are_lines : lines_of text ≡ first ++ others
  -- the tables are read, if there are any, and then the entries by their places there
  pub to_entries : Runs (body v []) AtNames first (AtEntries r.names (written_form v r))
  pub to_end : Runs (body v []) (AtEntries r.names (written_form v r)) others (AtNothing r)
  pub none_left : left_of text ≡ []
