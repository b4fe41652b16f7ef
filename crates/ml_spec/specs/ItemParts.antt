-- The parts of an item of a text, and where they stand.
--
--   HasKind i k      == the first word of the item is the word of the kind k
--   behind_kind i    == what stands behind the first word and its blanks
--   name_of i        == the run of bytes of names that stands there
--   is_good l k n    == may n be the name of an item of the kind k in a text of the logic l? Enumerations and definitions have
--                       propositions for names
--   IsOfKind l i k   == the item is of the kind k, and may stand in a text of the logic l
--   TakesName l i k  == so it is, and a name is to stand in it
--   HasName l i k    == so it is, and the run may be its name
--   behind_name i    == what stands behind the run and its blanks
--   HasColon l i k   == the item has such a name, and a colon stands behind it
--   text_of i        == what stands behind the colon, up to the item's end: the text of the item's formula
--   HasText l i k    == the item has a colon, and a formula is to stand behind it
--   place_of i rest  == where the end `rest` of the item begins, in the text that the item is from
--   signals_of i     == the words behind the first word, with their places
--   values_of i      == the words behind the colon, with their places
use Rattle.std.specs.Prelude.{ℕ, ◌≡◌, ◌+◌, ◌-◌, Bool, true, List, length, drop}
use Rattle.ml_front.specs.declared.logic.Logic.{Logic}
use Rattle.ml_spec.specs.Items.{ItemText, begins_with_colon, behind_run, behind_word, first_word, is_name, name_run}
use Rattle.ml_spec.specs.Kinds.{has_formula, item_word, may_stand, takes_name}
use Rattle.ml_spec.specs.Words.{placed_words}
use Rattle.ml_spec.specs.declared.kind.ItemKind.{ItemKind}
use Rattle.ml_spec.specs.declared.kind.ItemKind.TheVariants.{Stated}
use Rattle.ml_written.specs.Propositions.{is_proposition}

abbrev pub HasKind : ItemText → ItemKind → Type 0
HasKind i k = first_word i.bytes ≡ item_word k

abbrev pub behind_kind : ItemText → List ℕ
behind_kind i = behind_word i.bytes

abbrev pub name_of : ItemText → List ℕ
name_of i = name_run (behind_kind i)

abbrev pub is_good : Logic → ItemKind → List ℕ → Bool
is_good l (Stated k) n = is_name n
is_good l k n = is_proposition l n

abbrev pub IsOfKind : Logic → ItemText → ItemKind → Type 0
IsOfKind l i k = HasKind i k × (may_stand l k ≡ true)

abbrev pub TakesName : Logic → ItemText → ItemKind → Type 0
TakesName l i k = IsOfKind l i k × (takes_name k ≡ true)

abbrev pub HasName : Logic → ItemText → ItemKind → Type 0
HasName l i k = TakesName l i k × (is_good l k (name_of i) ≡ true)

abbrev pub behind_name : ItemText → List ℕ
behind_name i = behind_run (behind_kind i)

abbrev pub HasColon : Logic → ItemText → ItemKind → Type 0
HasColon l i k = HasName l i k × (begins_with_colon (behind_name i) ≡ true)

abbrev pub text_of : ItemText → List ℕ
text_of i = drop 1 (behind_name i)

abbrev pub HasText : Logic → ItemText → ItemKind → Type 0
HasText l i k = HasColon l i k × (has_formula k ≡ true)

abbrev pub place_of : ItemText → List ℕ → ℕ
place_of i rest = i.at + (length i.bytes - length rest)

abbrev pub signals_of : ItemText → List (ℕ × List ℕ)
signals_of i = placed_words (place_of i (behind_kind i)) (behind_kind i)

abbrev pub values_of : ItemText → List (ℕ × List ℕ)
values_of i = placed_words (place_of i (text_of i)) (text_of i)
