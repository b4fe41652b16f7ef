-- Names and actions, as lists of bytes.
--
-- A name is what propositions, variables and actions are called by in every text, document and structure.
-- Both notions are tests that compute, so that "is a name" and "is no name" are decided for each list of bytes,
-- and a value of the types `Name` and `Action` is the list itself, with nothing beside it.
--
--   longest_name      == how many bytes a name has at most, 64
--   is_name_byte b    == b may stand in a name behind its first byte: an ASCII letter, a digit or `_`
--   is_name bytes     == 1 to 64 bytes: an ASCII letter, and then letters, digits and `_`
--   is_action bytes   == a name, or the one byte `_`
--   IsName, IsAction  == the same, as facts
use Rattle.std.specs.Prelude.{ℕ, Bool, false, ◌==◌, ◌&&◌, ◌||◌, nat_le, List, [], ◌∷◌, length, IsTrue}
use Rattle.std.specs.List.{list_all}
use Rattle.ml_base.specs.declared.name.TheConstants.{LONGEST_NAME}
use Rattle.std.specs.Char.{is_ascii_alphabetic, is_ascii_alphanumeric}

-- how many bytes a name has at most
abbrev pub longest_name : ℕ
longest_name = LONGEST_NAME

-- a byte that may stand in a name behind its first: a letter, a digit or `_`
abbrev pub is_name_byte : ℕ → Bool
is_name_byte b = is_ascii_alphanumeric b || (b == 95)

-- a letter, and then letters, digits and `_`: 1 to 64 bytes in all
abbrev pub is_name : List ℕ → Bool
is_name [] = false
is_name (b ∷ bs) = is_ascii_alphabetic b && list_all is_name_byte bs && nat_le (length (b ∷ bs)) longest_name

-- the one byte `_`
abbrev pub is_blank_action : List ℕ → Bool
is_blank_action [] = false
is_blank_action (b ∷ []) = b == 95
is_blank_action (b ∷ c ∷ bs) = false

-- a name, or the one byte `_`
abbrev pub is_action : List ℕ → Bool
is_action bytes = is_name bytes || is_blank_action bytes

abbrev pub IsName : List ℕ → Type 0
IsName bytes = IsTrue (is_name bytes)

abbrev pub IsAction : List ℕ → Type 0
IsAction bytes = IsTrue (is_action bytes)
