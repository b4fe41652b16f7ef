-- The items of a text without comments, and the parts of an item.
--
-- Blanks are spaces, tabs, CRs and LFs. An item begins at a line whose first byte is no blank, and goes on to the next such
-- line; its end is behind its last byte that is no blank. So a line that is empty or begins with a blank goes on with the item
-- before it. An item reads
--
--     kind NAME : TEXT
--
-- with blanks behind the kind, and any number of them before the colon.
--
--   ItemText             == an item: where its first byte stands in the text, and its bytes
--   begins_item starts b == does the byte b begin an item, where `starts` tells whether it is the first of its line?
--   up_to_item starts t  == what stands before the next item of t
--   trimmed bs           == bs without the blanks at its end
--   items_from starts at t == the items of t, whose first byte stands at the place `at`
--   items_of t           == the items of the whole text
--   without_blanks bs    == bs without the blanks at its front
--   first_word bs        == what stands before the first blank of bs
--   behind_word bs       == what stands behind the first word and its blanks
--   is_name_byte b       == may b stand in a name? A letter, a digit, `_`, `-` or `.`
--   is_name w            == is w a name: a letter and then such bytes, 1 to 64 in all?
--   name_run rest        == the longest run of bytes of names at the front of `rest`: behind the first word the item's name
--   behind_run rest      == what stands behind that run and its blanks
--   begins_with_colon rest == is the first byte of `rest` a colon?
use Rattle.std.specs.Prelude.{ℕ, ◌+◌, ◌-◌, Bool, true, false, not, ◌==◌, ◌&&◌, ◌||◌, nat_le, List, [], ◌∷◌, length, take, drop, if◌then◌else◌}
use Rattle.std.specs.List.{before_first, position_or_len, list_all, prefix_len, suffix_len, take_while}
use Rattle.ml_base.specs.Name.{longest_name}
use Rattle.ml_text.specs.Bytes.{is_blank, is_digit, is_letter}

pub record ItemText : Type 0 where
  pub at : ℕ
  pub bytes : List ℕ

abbrev pub begins_item : Bool → ℕ → Bool
begins_item starts b = starts && not (is_blank b)

-- a byte behind an LF, 10, is the first of its line
abbrev pub up_to_item : Bool → List ℕ → List ℕ
up_to_item starts [] = []
up_to_item starts (b ∷ bs) = if begins_item starts b then [] else b ∷ up_to_item (b == 10) bs

abbrev pub trimmed : List ℕ → List ℕ
trimmed bs = take (length bs - suffix_len is_blank bs) bs

abbrev pub items_from : Bool → ℕ → List ℕ → List ItemText
items_from starts at [] = []
items_from starts at (b ∷ bs) =
    if begins_item starts b
    then record { at = at; bytes = trimmed (b ∷ up_to_item false bs) } ∷ items_from false (at + 1) bs
    else items_from (b == 10) (at + 1) bs

abbrev pub items_of : List ℕ → List ItemText
items_of text = items_from true 0 text

-- ---- the parts of an item

abbrev pub without_blanks : List ℕ → List ℕ
without_blanks bs = drop (prefix_len is_blank bs) bs

abbrev pub first_word : List ℕ → List ℕ
first_word bs = before_first is_blank bs

abbrev pub behind_word : List ℕ → List ℕ
behind_word bs = without_blanks (drop (position_or_len is_blank bs) bs)

-- 95 is `_`, 45 `-`, 46 `.`
abbrev pub is_name_byte : ℕ → Bool
is_name_byte b = is_letter b || is_digit b || (b == 95) || (b == 45) || (b == 46)

abbrev pub is_name : List ℕ → Bool
is_name [] = false
is_name (b ∷ bs) = is_letter b && list_all is_name_byte bs && nat_le (length (b ∷ bs)) longest_name

abbrev pub name_run : List ℕ → List ℕ
name_run rest = take_while is_name_byte rest

abbrev pub behind_run : List ℕ → List ℕ
behind_run rest = without_blanks (drop (prefix_len is_name_byte rest) rest)

-- 58 is the colon
abbrev pub begins_with_colon : List ℕ → Bool
begins_with_colon [] = false
begins_with_colon (b ∷ bs) = b == 58
