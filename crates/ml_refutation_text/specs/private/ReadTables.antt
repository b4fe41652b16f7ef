-- The sequents and stacks that a reader has, as its entries name them. Private contracts and proofs cite this.
--
-- In version 1 they are those of the entries so far, and grow with each further one; in version 2 they are the tables.
--
--   form_of, known_of      == what the program keeps, as a place keeps it
--   Keeps ks ls            == ls has the lists ks in front
--   Grows v old new        == what old names, new names alike: further lists were added in version 1, and none in version 2
use Rattle.std.specs.Prelude.{ℕ, ◌≡◌, List, ◌++◌}
use Rattle.ml_base.specs.declared.version.Version.{Version}
use Rattle.ml_base.specs.declared.version.Version.TheVariants.{One, Two}
use Rattle.ml_refutation_text.specs.BodyRules.{Form, InFull, ByTables}
use Rattle.ml_refutation_text.specs.BodyRules as body
use Rattle.ml_refutation_text.specs.declared.known.Known.{Known}
use Rattle.ml_refutation_text.specs.declared.known.Tables.{Tables}

abbrev pub form_of : Version → Tables → Form
form_of One tables = InFull
form_of Two tables = ByTables tables.sequents tables.stacks

abbrev pub known_of : Known → Tables → body.Known
known_of k tables = record { names = k.names; form = form_of k.version tables; wanted = k.wanted }

pub record Keeps (old new : List (List ℕ)) : Type 0 where
  pub more : List (List ℕ)
  pub is_all : new ≡ old ++ more

abbrev pub Grows : Version → (old new : Tables) → Type 0
Grows One old new = Keeps old.sequents new.sequents × Keeps old.stacks new.stacks
Grows Two old new = (new.sequents ≡ old.sequents) × (new.stacks ≡ old.stacks)
