-- The kinds of lines with a word and then numbers alone.
--
--   sequent_kind, heights_kind == the kind of a sequent, and that of heights
use Rattle.std.specs.Prelude.{[], ◌∷◌, codes}
use Rattle.ml_refutation_text.specs.LineKinds.{Kind, Fixed, open_kind}

abbrev pub sequent_kind : Kind
sequent_kind = open_kind (Fixed (codes "sequent") ∷ [])

abbrev pub heights_kind : Kind
heights_kind = open_kind (Fixed (codes "heights") ∷ [])
