-- Specifications, and their texts.
--
-- A specification has a logic and items, which are requirements and questions. The first item of its text tells the logic. Each
-- other one is a statement, and the specification has the items that the statements mean. Where nothing else is said, a text is
-- one whose comments are blanks by now.
--
--   most_items           == how many statements a text has at most
--   first_filled text    == where the text's first byte stands that is no blank; its end where there is none
--   TellsLogic text l    == the text's first item begins at that byte, and is the word `logic`, blanks and the word of l
--   items_behind text    == the items behind the first one
--   AreRead l is ss      == the items `is` read as the statements ss, each of which fits those before it, and they aren't too many
--   names xs             == the names of the items xs
--   AreNew xs            == no item has a name that an item before it has
--   IsReadAs text l xs   == the text reads as the items xs of the logic l
--   IsSpecification text l xs == so does the text, which may have comments, without them: it is a specification
--   IsSpecified l xs     == what holds of the items of each specification
use Rattle.std.specs.Prelude.{ℕ, ◌≡◌, ◌≤◌, true, List, ◌∷◌, ◌++◌, codes, drop, length, map, Contains}
use Rattle.std.specs.List.{prefix_len, AllByRecursion}
use Rattle.ml_text.specs.Bytes.{is_blank}
use Rattle.ml_front.specs.Logics.{logic_of, logic_word}
use Rattle.ml_front.specs.WellFormed.{IsWellFormed}
use Rattle.ml_front.specs.declared.logic.Logic.{Logic}
use Rattle.ml_spec.specs.Comments.{uncommented}
use Rattle.ml_spec.specs.Items.{ItemText, behind_word, first_word, is_name, items_of}
use Rattle.ml_spec.specs.Known.{AreFitting}
use Rattle.ml_spec.specs.Meaning.{items_meant, HasLarge}
use Rattle.ml_spec.specs.Statements.{AreStatements, Statement}
use Rattle.ml_spec.specs.declared.specification.Item.{Item}
use Rattle.ml_spec.specs.declared.specification.TheConstants.{MOST_ITEMS}

abbrev pub most_items : ℕ
most_items = MOST_ITEMS

-- ---- the first item

abbrev pub first_filled : List ℕ → ℕ
first_filled text = prefix_len is_blank text

pub record TellsLogic (text : List ℕ) (l : Logic) : Type 0 where
  pub first : ItemText
  pub others : List ItemText
  pub are_items : items_of text ≡ first ∷ others
  pub is_at_front : first.at ≡ first_filled text
  pub begins : first_word first.bytes ≡ codes "logic"
  pub tells : behind_word first.bytes ≡ logic_word l

abbrev pub items_behind : List ℕ → List ItemText
items_behind text = drop 1 (items_of text)

-- ---- the other items

pub record AreRead (l : Logic) (is : List ItemText) (ss : List Statement) : Type 0 where
  pub are_statements : AreStatements l is ss
  pub are_fitting : AreFitting ss
  pub are_few : length ss ≤ most_items

abbrev pub names : List Item → List (List ℕ)
names xs = map (λ x. x.name) xs

abbrev pub AreNew : List Item → Type 0
AreNew xs =
    (before : List Item) (x : Item) (after : List Item) → xs ≡ before ++ x ∷ after → ¬ (Contains (names before) x.name)

-- ---- the whole text

pub record IsReadAs (text : List ℕ) (l : Logic) (xs : List Item) : Type 0 where
  pub tells_logic : TellsLogic text l
  pub statements : List Statement
  pub are_read : AreRead l (items_behind text) statements
  pub none_is_large : (at : ℕ) → ¬ (HasLarge l statements at)
  pub are_meant : xs ≡ items_meant l statements

abbrev pub IsSpecification : List ℕ → Logic → List Item → Type 0
IsSpecification text l xs = IsReadAs (uncommented text) l xs

pub record IsSpecified (l : Logic) (xs : List Item) : Type 0 where
  pub of_logic : AllByRecursion (λ x. logic_of x.formula ≡ l) xs
  pub are_well_formed : AllByRecursion (λ x. IsWellFormed x.formula) xs
  pub are_named : AllByRecursion (λ x. is_name x.name ≡ true) xs
  pub are_new : AreNew xs
  pub are_few : length xs ≤ most_items
