-- The lines at which the parts of the entries of a text begin.
--
-- The first line of the text has a number that is given, and the entries are its last lines but one. An entry has its
-- number and its sequent, in version 1 on two lines and in version 2 on one; then a line for the names in use, one for
-- each item, one for the heights, and one for each branch of its decision.
--
--   head_size v             == how many lines tell the number and the sequent of an entry
--   sequent_at v n          == the line that tells the sequent of an entry whose first line is n
--   entry_size v e          == how many lines the entry e has
--   entries_size v es       == so the entries es
--   parts_of v n e          == the lines at which the parts of the entry e begin, whose first line is n
--   parts_from v n es       == those of the entries es, the first of which has the first line n
--   parts_in v t n r        == those of the entries of r in the text t, whose first line is n
--   AreLinesOf v t n r ps   == t is a text of the refutation r, and with the first line n the parts of its entries begin
--                              at the lines ps
use Rattle.std.specs.Prelude.{ℕ, ◌+◌, ◌-◌, ◌≡◌, List, [], ◌∷◌, length}
use Rattle.ml_base.specs.declared.version.Version.{Version}
use Rattle.ml_base.specs.declared.version.Version.TheVariants.{One, Two}
use Rattle.ml_lines.specs.Reading.{lines_of}
use Rattle.ml_refutation.specs.Acceptance.{branches}
use Rattle.ml_refutation.specs.Refutation.{Refutation, Entry}
use Rattle.ml_refutation_text.specs.BodyRules.{IsTextOf}
use Rattle.ml_refutation_text.specs.declared.lines.EntryLines.{EntryLines}

-- `entry` and `sequent`, or `entry` alone
abbrev pub head_size : Version → ℕ
head_size One = 2
head_size Two = 1

-- the `sequent` line, or the `entry` line, which has the number of the sequent
abbrev pub sequent_at : Version → ℕ → ℕ
sequent_at One n = n + 1
sequent_at Two n = n

abbrev pub entry_size : Version → Entry → ℕ
entry_size v e = head_size v + 1 + length e.traces.items + 1 + length (branches [] e.decision)

abbrev pub parts_of : Version → ℕ → Entry → EntryLines
parts_of v n e = record {
  sequent = sequent_at v n;
  live = n + head_size v;
  items = n + head_size v + 1;
  heights = n + head_size v + 1 + length e.traces.items;
  decision = n + head_size v + 1 + length e.traces.items + 1;
}

abbrev pub parts_from : Version → ℕ → List Entry → List EntryLines
parts_from v n [] = []
parts_from v n (e ∷ entries) = parts_of v n e ∷ parts_from v (n + entry_size v e) entries

abbrev pub entries_size : Version → List Entry → ℕ
entries_size v [] = 0
entries_size v (e ∷ entries) = entry_size v e + entries_size v entries

-- behind the entries stands one line, `end`
abbrev pub parts_in : Version → List ℕ → ℕ → Refutation → List EntryLines
parts_in v text first r = parts_from v (first + (length (lines_of text) - (entries_size v r.entries + 1))) r.entries

pub record AreLinesOf (v : Version) (text : List ℕ) (first : ℕ) (r : Refutation) (parts : List EntryLines) : Type 0 where
  pub written : IsTextOf v text r
  pub are_parts : parts ≡ parts_in v text first r
