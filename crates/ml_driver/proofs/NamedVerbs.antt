-- The verb that a word is has the shape that the table says.
--
--   shapes_named == the shape of the verb in rows is that in the rows with shapes in place of verbs
use Rattle.std.proofs.Common.{◌≡◌, Bool, true, false, List, [], ◌∷◌, map, Option, Some, None, option_map, if◌then◌else◌, refl}
use Rattle.std.specs.Str.{bytes_eq}
use Rattle.ml_lines.specs.Lines.{Word}
use Rattle.ml_driver.specs.Verbs.{shape_of}
use Rattle.ml_driver.specs.Words.{Shape, shape_in}
use Rattle.ml_driver.specs.private.Rows.{verb_in}
use Rattle.ml_driver.specs.declared.table.Verb.{Verb}

in_row : (b : Bool) (v : Verb) (o : Option Verb) (p : Option Shape) → option_map shape_of o ≡ p
    → option_map shape_of (if b then Some v else o) ≡ (if b then Some (shape_of v) else p)
in_row true v o p same = refl
in_row false v o p same = same

pub shapes_named : {Text : Type 0} (bytes : Text → Word) (rows : List (Text × Verb)) (w : Word)
    → option_map shape_of (verb_in bytes rows w) ≡ shape_in (map (λ (r : Text × Verb). (bytes r.0, shape_of r.1)) rows) w
shapes_named bytes [] w = refl
shapes_named bytes (r ∷ rows) w =
    in_row (bytes_eq w (bytes r.0)) r.1 (verb_in bytes rows w) _ (shapes_named bytes rows w)
