-- The plain refutation that a refutation of the program stands for: sequents and stacks stand where they are named, and
-- boxes and vectors have no places. A place past the last list is that of the empty one.
--
--   decision_of d        == the plain decision
--   item_of ks a         == the plain item, by the stacks ks
--   entry_of qs ks e     == the plain entry, by the sequents qs and the stacks ks
--   of_parts n qs ks es  == the refutation of so many names and these entries
use Rattle.std.specs.Prelude.{ℕ, List, [], map, slice_index_or}
use Rattle.std.specs.Global.{Vec}
use Rattle.ml_trace.specs.declared.letters.AutomatonState.{AutomatonState}
use Rattle.ml_trace.specs.Stack as traced
use Rattle.ml_refutation.specs.Refutation as plain
use Rattle.ml_refutation.specs.declared.refutation.Decision.{Decision}
use Rattle.ml_refutation.specs.declared.refutation.Decision.TheVariants.{Split', Clash, Go}
use Rattle.ml_refutation.specs.declared.refutation.Item.{Item}
use Rattle.ml_refutation.specs.declared.refutation.Entry.{Entry}

abbrev pub decision_of : Decision → plain.Decision
decision_of (Split' n at_left left at_right right) = plain.Split n (decision_of left) (decision_of right)
decision_of (Clash c) = plain.Clash c
decision_of (Go d e m) = plain.Go d e m

abbrev pub item_of : List (List ℕ) → Item → traced.Item AutomatonState
item_of stacks a = record { state = record { node = a.node; odd = a.odd }; stack = slice_index_or stacks a.stack [] }

abbrev pub entry_of : (sequents stacks : List (List ℕ)) → Entry → plain.Entry
entry_of sequents stacks e = record {
  sequent = slice_index_or sequents e.sequent [];
  traces = record { live = e.live; items = map (item_of stacks) e.items.items };
  heights = e.heights.items;
  decision = decision_of e.decision;
}

abbrev pub of_parts : ℕ → (sequents stacks : List (List ℕ)) → Vec Entry → plain.Refutation
of_parts names sequents stacks entries = record { names = names; entries = map (entry_of sequents stacks) entries.items }
