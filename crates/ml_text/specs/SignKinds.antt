-- Signs with their names apart.
--
--   is_action own w     == a word that isn't reserved, or `_`
--   HasShortName s      == if the sign has a name, it is one that the program can hold
--   named k w           == the sign of a kind, where its name, if it has one, has these bytes
use Rattle.std.specs.Prelude.{ℕ, ◌&&◌, ◌||◌, Bool, not, List, bytes_eq, codes, IsTrue}
use Rattle.ml_base.specs.Name.{is_name}
use Rattle.ml_text.specs.Bytes.{is_letter}
use Rattle.ml_text.specs.Words.{is_word_from}
use Rattle.ml_text.specs.declared.named_signs.Sign.{Sign}
use Rattle.ml_text.specs.declared.named_signs.Sign.TheVariants.{Not, Connective, Const, Open, Close, Lower, Upper, Added, Unknown}
use Rattle.ml_text.specs.Signs.{Named, OwnSigns, is_reserved}

abbrev pub is_action : {X : Type 0} → OwnSigns X → List ℕ → Bool
is_action own w = bytes_eq w (codes "_") || (is_word_from is_letter w && not (is_reserved own w))

abbrev pub HasShortName : {X : Type 0} → Named X → Type 0
HasShortName (Lower p) = IsTrue (is_name p)
HasShortName (Upper x) = IsTrue (is_name x)
HasShortName _ = Unit {0}

abbrev pub named : {X : Type 0} → Sign (Unit {0}) X → List ℕ → Named X
named Not w = Not
named (Connective o) w = Connective o
named (Const b) w = Const b
named Open w = Open
named Close w = Close
named (Lower u) w = Lower w
named (Upper u) w = Upper w
named (Added x) w = Added x
named Unknown w = Unknown
