-- Why a text is no specification, and where.
--
-- A text may break rules at several places. The one at the least place is told, and of several at one place the one with the
-- lowest number. Where no logic is told nothing else is asked. Of an item it is asked only where the items before it read as
-- statements; and how large formulas are, only where all items do, and fit.
--
--   told e                        == the rule that a refusal of the parser tells, and its byte; none for want of memory
--   IsTextRefused l text r k      == the text is refused as a formula of the logic l, by the rule r of the parser at its byte k
--   end_of i                      == where the item i ends
--   IsTaken k kind n              == where k is known, no item of this kind may have the name n
--   IsItemFault l before i r at   == the item i breaks the rule r at this place of the text, where the items before it read as the
--                                    statements `before`
--   HasItemFault text r at        == some item behind the first one does
--   HasLargeFormula text at       == the items read as statements that fit, and one has too large a formula, which begins there
--   IsFault text r at             == the text, whose comments are blanks by now, breaks the rule r at this place
--   IsFirstFault text r at        == this is the first of all: the least place, and there the lowest number
--   IsRefused text line column r  == the text, which may have comments, is refused by the rule r at this line and column
use Rattle.std.specs.Prelude.{ℕ, ◌≡◌, ◌+◌, ◌<◌, ◌≤◌, ◌⊎◌, true, false, List, [], ◌∷◌, ◌++◌, Option, None, Some, drop, length, Contains}
use Rattle.ml_base.specs.declared.parse_refusal.ParseRefusal.{ParseRefusal}
use Rattle.ml_base.specs.declared.parse_refusal.ParseRefusal.TheVariants as refusal
use Rattle.ml_lists.specs.Member.{IsMember}
use Rattle.ml_front.specs.Logics.{logic_word}
use Rattle.ml_front.specs.declared.logic.Logic.{Logic}
use Rattle.ml_spec.specs.Comments.{uncommented}
use Rattle.ml_spec.specs.ItemParts.{behind_kind, behind_name, is_good, name_of, place_of, signals_of, text_of, values_of}
use Rattle.ml_spec.specs.ItemParts.{HasColon, HasKind, HasName, HasText, IsOfKind, TakesName}
use Rattle.ml_spec.specs.Items.{ItemText, begins_with_colon}
use Rattle.ml_spec.specs.Known.{known, IsDeclared, IsTakenSignal, IsTakenValue, Known}
use Rattle.ml_spec.specs.Meaning.{HasLarge}
use Rattle.ml_spec.specs.Places.{column_at, line_at}
use Rattle.ml_spec.specs.RuleNumbers.{rule_number}
use Rattle.ml_spec.specs.Specification.{first_filled, items_behind, most_items, AreRead, TellsLogic}
use Rattle.ml_spec.specs.Statements.{is_value, AreStatements, IsWrittenIn, Statement}
use Rattle.ml_spec.specs.Words.{IsBadAt, IsTakenAt}
use Rattle.ml_spec.specs.declared.kind.ItemKind.{ItemKind}
use Rattle.ml_spec.specs.declared.kind.ItemKind.TheVariants as item
use Rattle.ml_spec.specs.declared.rule.SpecRule.{SpecRule}
use Rattle.ml_spec.specs.declared.rule.SpecRule.TheVariants.{Syntax, Unbound, NotPositive, TooMany, TooNested, NameTooLong}
use Rattle.ml_spec.specs.declared.rule.SpecRule.TheVariants.{NoLogic, NoKind, NoName, NoColon, NameTaken, TooManyItems, TooLarge, Undeclared, DefinedLate}
use Rattle.ml_written.specs.Places.{IsPropositionAt}
use Rattle.ml_written.specs.Propositions.{is_proposition, propositions}
use Rattle.ml_written.specs.Written.{IsRefusedIn}
use Rattle.ml_written.specs.declared.written.Written.{Written}

-- ---- the texts of formulas

abbrev pub told : ParseRefusal → Option (SpecRule × ℕ)
told (refusal.Syntax k) = Some (Syntax, k)
told (refusal.Unbound k) = Some (Unbound, k)
told (refusal.NotPositive k) = Some (NotPositive, k)
told (refusal.TooMany k) = Some (TooMany, k)
told (refusal.TooNested k) = Some (TooNested, k)
told (refusal.NameTooLong k) = Some (NameTooLong, k)
told refusal.NoMemory = None

abbrev pub IsTextRefused : Logic → List ℕ → SpecRule → ℕ → Type 0
IsTextRefused l text r k = (e : ParseRefusal) × (told e ≡ Some (r, k)) × IsRefusedIn l text e

-- ---- an item

abbrev pub end_of : ItemText → ℕ
end_of i = i.at + length i.bytes

abbrev pub IsTaken : Known → ItemKind → List ℕ → Type 0
IsTaken k item.Definition n = IsDeclared k.declared n
IsTaken k kind n = Contains k.names n

pub data IsItemFault (l : Logic) (before : List Statement) (i : ItemText) (at : ℕ) : SpecRule → Type 0 where
  -- another logic, or none, told once more
  other_logic : HasKind i item.Logics → ¬ (behind_kind i ≡ logic_word l) → at ≡ i.at → IsItemFault l before i at NoLogic
  no_kind : ((k : ItemKind) → ¬ (IsOfKind l i k)) → at ≡ i.at → IsItemFault l before i at NoKind
  too_many : length before ≡ most_items → at ≡ i.at → IsItemFault l before i at TooManyItems
  -- the name of an item that takes one
  no_name : (k : ItemKind)
      → TakesName l i k
      → is_good l k (name_of i) ≡ false
      → at ≡ place_of i (behind_kind i)
      → IsItemFault l before i at NoName
  name_taken : (k : ItemKind)
      → HasName l i k
      → IsTaken (known before) k (name_of i)
      → at ≡ place_of i (behind_kind i)
      → IsItemFault l before i at NameTaken
  no_colon : (k : ItemKind)
      → HasName l i k
      → begins_with_colon (behind_name i) ≡ false
      → at ≡ place_of i (behind_name i)
      → IsItemFault l before i at NoColon
  -- signals
  no_signal : HasKind i item.Signals → IsBadAt (is_proposition l) (signals_of i) at → IsItemFault l before i at NoName
  too_few_signals : HasKind i item.Signals → length (signals_of i) < 1 → at ≡ end_of i → IsItemFault l before i at NoName
  signal_taken : HasKind i item.Signals
      → IsTakenAt (IsTakenSignal (known before)) [] (signals_of i) at
      → IsItemFault l before i at NameTaken
  -- values
  no_value : HasColon l i item.Enumeration → IsBadAt (is_value (name_of i)) (values_of i) at → IsItemFault l before i at NoName
  too_few_values : HasColon l i item.Enumeration → length (values_of i) < 2 → at ≡ end_of i → IsItemFault l before i at NoName
  value_taken : HasColon l i item.Enumeration
      → IsTakenAt (IsTakenValue (known before) (name_of i)) [] (values_of i) at
      → IsItemFault l before i at NameTaken
  -- the text of a formula
  refused : {r : SpecRule} (k : ItemKind) (j : ℕ)
      → HasText l i k
      → IsTextRefused l (text_of i) r j
      → at ≡ place_of i (drop j (text_of i))
      → IsItemFault l before i at r
  undeclared : (k : ItemKind) (w : Written) (j : ℕ) (p : List ℕ)
      → HasText l i k
      → (known before).has_signals ≡ true
      → IsWrittenIn l (text_of i) w
      → IsPropositionAt (text_of i) w j p
      → ¬ (IsDeclared (known before).declared p)
      → at ≡ place_of i (drop j (text_of i))
      → IsItemFault l before i at Undeclared
  -- a definition of a proposition of which a formula before speaks, or its own
  defined_late : HasName l i item.Definition
      → IsMember (name_of i) (known before).spoken
      → at ≡ place_of i (behind_kind i)
      → IsItemFault l before i at DefinedLate
  defined_by_itself : (w : Written)
      → HasText l i item.Definition
      → IsWrittenIn l (text_of i) w
      → IsMember (name_of i) (propositions w)
      → at ≡ place_of i (behind_kind i)
      → IsItemFault l before i at DefinedLate

-- ---- a text

pub record HasItemFault (text : List ℕ) (r : SpecRule) (at : ℕ) : Type 0 where
  pub logic : Logic
  pub told_logic : TellsLogic text logic
  pub before : List ItemText
  pub item : ItemText
  pub after : List ItemText
  pub are_items : items_behind text ≡ before ++ item ∷ after
  pub read : List Statement
  pub are_statements : AreStatements logic before read
  pub is_fault : IsItemFault logic read item at r

pub record HasLargeFormula (text : List ℕ) (at : ℕ) : Type 0 where
  pub logic : Logic
  pub told_logic : TellsLogic text logic
  pub read : List Statement
  pub are_read : AreRead logic (items_behind text) read
  pub is_large : HasLarge logic read at

pub data IsFault (text : List ℕ) (at : ℕ) : SpecRule → Type 0 where
  no_logic : ((l : Logic) → ¬ (TellsLogic text l)) → at ≡ first_filled text → IsFault text at NoLogic
  in_item : {r : SpecRule} → HasItemFault text r at → IsFault text at r
  too_large : HasLargeFormula text at → IsFault text at TooLarge

pub record IsFirstFault (text : List ℕ) (r : SpecRule) (at : ℕ) : Type 0 where
  pub comes : IsFault text at r
  pub first : (s : SpecRule) (k : ℕ) → IsFault text k s → (at < k) ⊎ ((at ≡ k) × (rule_number r ≤ rule_number s))

pub record IsRefused (text : List ℕ) (line column : ℕ) (r : SpecRule) : Type 0 where
  pub at : ℕ
  pub is_first : IsFirstFault (uncommented text) r at
  pub is_line : line ≡ line_at text at
  pub is_column : column ≡ column_at text at
