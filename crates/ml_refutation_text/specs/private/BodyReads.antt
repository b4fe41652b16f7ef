-- What the reader knows of a whole body. Private contracts and proofs cite this.
--
--   IsBodyRead v t n r ps  == t is the text of the refutation r, which is one, and the parts of its entries begin at the lines
--                             ps
use Rattle.std.specs.Prelude.{ℕ, List}
use Rattle.ml_base.specs.declared.version.Version.{Version}
use Rattle.ml_refutation.specs.Refutation.{Refutation, IsRefutation}
use Rattle.ml_refutation_text.specs.PartLines.{AreLinesOf}
use Rattle.ml_refutation_text.specs.declared.lines.EntryLines.{EntryLines}

pub record IsBodyRead (v : Version) (text : List ℕ) (first : ℕ) (r : Refutation) (parts : List EntryLines) : Type 0 where
  pub is_refutation : IsRefutation r
  pub are_lines : AreLinesOf v text first r parts
