-- How the program writes sequents and stacks. Private contracts and proofs cite this.
--
--   entries_of r             == the plain entries of the refutation r
--   sequents_in f, stacks_in f == the lists that are named by their places
--   entry_in f e, item_in f a == the plain entry and the plain item, by these lists
--   writing_of f             == in full, or by the places in these tables
use Rattle.std.specs.Prelude.{ℕ, List, map}
use Rattle.ml_refutation.specs.Refutation as plain
use Rattle.ml_trace.specs.declared.letters.AutomatonState.{AutomatonState}
use Rattle.ml_trace.specs.Stack as traced
use Rattle.ml_refutation.specs.Views.{item_of, entry_of}
use Rattle.ml_refutation.specs.declared.refutation.Item.{Item}
use Rattle.ml_refutation.specs.declared.refutation.Entry.{Entry}
use Rattle.ml_refutation.specs.declared.refutation.Refutation.{Refutation}
use Rattle.ml_refutation_text.specs.WrittenText.{Writing, in_full, by_tables}
use Rattle.ml_refutation_text.specs.declared.tables.Filing.{Filing}
use Rattle.ml_refutation_text.specs.declared.tables.Filing.TheVariants.{InFull, ByTables}

abbrev pub entries_of : Refutation → List plain.Entry
entries_of r = map (entry_of r.sequents r.stacks) r.entries.items

abbrev pub sequents_in : Filing → List (List ℕ)
sequents_in (InFull r) = r.now.sequents
sequents_in (ByTables tables) = tables.now.sequents.all

abbrev pub stacks_in : Filing → List (List ℕ)
stacks_in (InFull r) = r.now.stacks
stacks_in (ByTables tables) = tables.now.stacks.all

abbrev pub entry_in : Filing → Entry → plain.Entry
entry_in f e = entry_of (sequents_in f) (stacks_in f) e

abbrev pub item_in : Filing → Item → traced.Item AutomatonState
item_in f a = item_of (stacks_in f) a

abbrev pub writing_of : Filing → Writing
writing_of (InFull r) = in_full
writing_of (ByTables tables) = by_tables tables.now.sequents.met tables.now.stacks.met
