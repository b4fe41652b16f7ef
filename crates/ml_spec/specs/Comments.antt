-- Comments of a specification text.
--
-- A comment begins at a `#` and goes on to the end of its line, over bytes of any kind. Before anything else is read, each of
-- its bytes is a blank; the LF that ends its line stays, so lines and places are those of the text as it was given.
--
--   uncommented_from inside text == the text, where `inside` tells whether its first byte stands in a comment
--   uncommented text             == the text without its comments
use Rattle.std.specs.Prelude.{ℕ, Bool, true, false, ◌==◌, ◌||◌, List, [], ◌∷◌, if◌then◌else◌}

-- 10 is the LF, 35 is `#`, 32 a blank
abbrev pub uncommented_from : Bool → List ℕ → List ℕ
uncommented_from inside [] = []
uncommented_from inside (b ∷ bs) =
    if b == 10 then b ∷ uncommented_from false bs
    else if inside || (b == 35) then 32 ∷ uncommented_from true bs
    else b ∷ uncommented_from false bs

abbrev pub uncommented : List ℕ → List ℕ
uncommented text = uncommented_from false text
