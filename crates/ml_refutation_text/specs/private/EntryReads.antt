-- What the reader knows of tables and of the first lines of entries. Private contracts and proofs cite this.
--
--   IsSequentRead at q rest  == the next line is that of the sequent q, which ascends
--   TellsSequent at e        == the refusal e tells the first bad line, where a sequent stands: in its table, or in an entry
--   IsStacks line n          == the line tells the number of stacks, and n is it, or the greatest of 64 bits
--   IsPlacedAt k i line s    == the line is the first one of the entry i of version 2, and names s, one of k sequents
use Rattle.std.specs.Prelude.{ℕ, ◌-◌, ◌^◌, ◌≡◌, ◌<◌, min, List, All}
use Rattle.ml_base.specs.declared.doc_refusal.DocRefusal.{DocRefusal}
use Rattle.ml_base.specs.declared.version.Version.{Version}
use Rattle.ml_lines.specs.Lines.{Word, Line}
use Rattle.ml_lines.specs.Reading.{value}
use Rattle.ml_lists.specs.Ascending.{IsAscending}
use Rattle.ml_refutation.specs.Refutation.{Entry, Fits}
use Rattle.ml_refutation_text.specs.RefutationText.{sequent_line, stacks_line, entry_line}
use Rattle.ml_refutation_text.specs.LineKinds.{Spells}
use Rattle.ml_refutation_text.specs.BodyRules.{Known, AtTableSequent, AtSequent}
use Rattle.ml_refutation_text.specs.private.Reads.{IsNext, TellsFault}
use Rattle.ml_refutation_text.specs.declared.rest.Rest.{Rest}

pub record IsSequentRead (at : Rest) (q : List ℕ) (rest : Rest) : Type 0 where
  pub next : IsNext at (sequent_line q) rest
  pub fit : All Fits q
  pub ascends : IsAscending q

pub record TellsSequent (at : Rest) (e : DocRefusal) : Type 0 where
  pub in_table : (v : Version) (names size : ℕ) (rows : List (List ℕ))
      → TellsFault v (AtTableSequent names size rows) at e
  pub in_entry : (v : Version) (k : Known) (es : List Entry) → TellsFault v (AtSequent k es) at e

pub record IsPlacedAt (size i : ℕ) (line : Line) (place : ℕ) : Type 0 where
  pub fits : Fits place
  pub is_line : line ≡ entry_line i place
  pub there : place < size

-- the number of stacks, however great; of a greater one the greatest of 64 bits is kept
pub record IsStacks (line : Line) (size : ℕ) : Type 0 where
  pub count : Word
  pub spells : Spells count (value count)
  pub is_line : line ≡ stacks_line count
  pub capped : size ≡ min (value count) (2 ^ 64 - 1)
