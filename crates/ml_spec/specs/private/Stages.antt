-- What is known of a text while its items are read. Private contracts and proofs cite this.
--
--   IsFirstInItem l before i r at == of all faults of the item i this is the first: the least place, and there the lowest number
--   IsNext l before i s           == the item i reads as s, which fits the statements before it, and there is room for it
--   IsReached l before i k        == there is room for the item i of the kind k, and its name isn't taken, nor is it spoken of before
--                                    where that is a fault: so its colon and its text are reached
--   NotByItself k i w             == a definition isn't one of a proposition of its own formula w
--   IsFirstLarge l ss at          == one of the statements ss is the first with too large a formula, and begins there
--   AreMeant l ss c               == the context c has the items and the definitions that the statements ss mean; or knows which
--                                    of them is the first with too large a formula
--   IsContextOf l ss c            == the context c is what is known behind the statements ss
--   IsFresh c n                   == by the context c, n is neither declared nor spoken of
--   IsNoted n w c e               == e is the context c where w, which isn't of n, is spoken of
--   IsDefined l at n w c e        == e is the context c with n defined as w by an item that begins there
--   IsStepped l before i c        == the item i reads as a next statement, and c is the context behind it
--   AreFittingBehind before ss    == each of the statements ss fits the statements `before` and those of ss before it
--   IsReadTo l all rest ss        == of the items `all` of a text those before `rest` were read as the statements ss
--   IsReadWith l all rest c       == so they were as some, and c is the context behind them
--   AreReadAs l all xs            == all were, and mean the items xs of a specification
--   IsLargeAmong l all at         == all were, and the first formula that is too large begins there
--   IsStopped l all r at          == some were, and the next one has this first fault
--   TellsInItem l before i e      == e tells the first fault of the item i, if it isn't want of memory
--   TellsAmong l all e            == e tells the first fault of the items `all`, if it isn't
--   TellsInText text e            == e tells the first fault of the text, if it isn't
--   TellsRefusal text e           == e tells line, column and rule of it, if it isn't
use Rattle.std.specs.Prelude.{ℕ, ◌≡◌, ◌<◌, ◌≤◌, ◌⊎◌, ⊤, true, bytes_eq, List, [], ◌∷◌, ◌++◌, length, Option, None, Some}
use Rattle.std.specs.Map.{keys_of}
use Rattle.indexmap.specs.IndexMap.{insert_entry}
use Rattle.ml_lists.specs.Member.{IsMember}
use Rattle.ml_text.specs.NameLists.{with_names}
use Rattle.ml_front.specs.Definitions.{definitions_in, logic_defined}
use Rattle.ml_front.specs.declared.logic.Logic.{Logic}
use Rattle.ml_front.specs.declared.replacing.Definitions.{Definitions}
use Rattle.ml_spec.specs.Faults.{IsFirstFault, IsItemFault, IsRefused, IsTaken}
use Rattle.ml_spec.specs.ItemParts.{name_of}
use Rattle.ml_spec.specs.Items.{ItemText}
use Rattle.ml_spec.specs.Known.{known, Fits, IsDeclared}
use Rattle.ml_spec.specs.Meaning.{items_meant, HasLarge, IsLarge}
use Rattle.ml_spec.specs.RuleNumbers.{rule_number}
use Rattle.ml_spec.specs.Specification.{most_items, AreRead}
use Rattle.ml_spec.specs.Statements.{AreStatements, IsStatement, Statement}
use Rattle.ml_spec.specs.Statements as says
use Rattle.ml_spec.specs.declared.context.Declared.TheVariants.{Made}
use Rattle.ml_spec.specs.declared.context.Context.{Context}
use Rattle.ml_spec.specs.declared.kind.ItemKind.{ItemKind}
use Rattle.ml_spec.specs.declared.kind.ItemKind.TheVariants as item
use Rattle.ml_spec.specs.declared.fault.Fault.{Fault}
use Rattle.ml_spec.specs.declared.fault.Fault.TheVariants.{Breaks, NoMemory}
use Rattle.ml_spec.specs.declared.refusal.SpecRefusal.{SpecRefusal}
use Rattle.ml_spec.specs.declared.refusal.SpecRefusal.TheVariants as refused
use Rattle.ml_spec.specs.declared.rule.SpecRule.{SpecRule}
use Rattle.ml_spec.specs.declared.rule.SpecRule.TheVariants.{TooLarge}
use Rattle.ml_spec.specs.declared.specification.Item.{Item}
use Rattle.ml_written.specs.Places.{AreDeclared}
use Rattle.ml_written.specs.Propositions.{propositions}
use Rattle.ml_written.specs.declared.written.Written.{Written}

pub record IsFirstInItem (l : Logic) (before : List Statement) (i : ItemText) (r : SpecRule) (at : ℕ) : Type 0 where
  pub comes : IsItemFault l before i at r
  pub first : (s : SpecRule) (k : ℕ)
      → IsItemFault l before i k s
      → (at < k) ⊎ ((at ≡ k) × (rule_number r ≤ rule_number s))

pub record IsNext (l : Logic) (before : List Statement) (i : ItemText) (s : Statement) : Type 0 where
  pub is_statement : IsStatement l i s
  pub fits : Fits (known before) s.says
  pub has_room : length before < most_items

pub record IsReached (l : Logic) (before : List Statement) (i : ItemText) (k : ItemKind) : Type 0 where
  pub has_room : length before < most_items
  pub is_new : ¬ (IsTaken (known before) k (name_of i))
  pub is_early : k ≡ item.Definition → ¬ (IsMember (name_of i) (known before).spoken)

abbrev pub NotByItself : ItemKind → ItemText → Written → Type 0
NotByItself k i w = k ≡ item.Definition → ¬ (IsMember (name_of i) (propositions w))

-- ---- what is known so far

pub record IsFirstLarge (l : Logic) (ss : List Statement) (at : ℕ) : Type 0 where
  pub before : List Statement
  pub statement : Statement
  pub after : List Statement
  pub are_statements : ss ≡ before ++ statement ∷ after
  pub is_large : IsLarge l (known before).definitions statement.says
  pub is_at : at ≡ statement.at
  pub none_before : (k : ℕ) → ¬ (HasLarge l before k)

pub record AreAllMeant (l : Logic) (ss : List Statement) (items : List Item) (definitions : Definitions) : Type 0 where
  pub are_items : items ≡ items_meant l ss
  pub are_definitions : definitions_in definitions ≡ (known ss).definitions
  pub none_is_large : (k : ℕ) → ¬ (HasLarge l ss k)

abbrev pub AreMeant : Logic → List Statement → List Item → Definitions → Option ℕ → Type 0
AreMeant l ss items definitions None = AreAllMeant l ss items definitions
AreMeant l ss items definitions (Some at) = IsFirstLarge l ss at

pub record IsContextOf (l : Logic) (ss : List Statement) (c : Context) : Type 0 where
  pub are_names : c.names.keys ≡ (known ss).names
  pub are_declared : c.declared.entries ≡ (known ss).declared
  pub are_spoken : c.spoken.keys ≡ (known ss).spoken
  pub are_signals : c.has_signals ≡ (known ss).has_signals
  pub of_logic : logic_defined c.meanings.definitions ≡ l
  pub are_meant : AreMeant l ss c.meanings.items.items c.meanings.definitions c.meanings.large

pub record IsFresh (c : Context) (n : List ℕ) : Type 0 where
  pub is_new : ¬ (IsDeclared c.declared.entries n)
  pub is_early : ¬ (IsMember n c.spoken.keys)

pub record IsNoted (n : List ℕ) (w : Written) (c e : Context) : Type 0 where
  pub are_names : e.names.keys ≡ c.names.keys
  pub are_declared : e.declared.entries ≡ c.declared.entries
  pub are_spoken : e.spoken.keys ≡ with_names c.spoken.keys (propositions w)
  pub are_signals : e.has_signals ≡ c.has_signals
  pub are_meanings : e.meanings ≡ c.meanings
  pub is_other : ¬ (IsMember n (propositions w))
  pub all_declared : c.has_signals ≡ true → AreDeclared (keys_of c.declared.entries) w

pub record IsDefined (l : Logic) (at : ℕ) (n : List ℕ) (w : Written) (c e : Context) : Type 0 where
  pub are_names : e.names.keys ≡ c.names.keys
  pub are_declared : e.declared.entries ≡ insert_entry bytes_eq c.declared.entries n Made
  pub are_spoken : e.spoken.keys ≡ c.spoken.keys
  pub are_signals : e.has_signals ≡ c.has_signals
  pub of_logic : logic_defined e.meanings.definitions ≡ l
  pub are_meant : (ss : List Statement)
      → AreMeant l ss c.meanings.items.items c.meanings.definitions c.meanings.large
      → AreMeant l (ss ++ record { at = at; says = says.Definition n w } ∷ []) e.meanings.items.items e.meanings.definitions
      e.meanings.large

pub record IsStepped (l : Logic) (before : List Statement) (i : ItemText) (c : Context) : Type 0 where
  pub statement : Statement
  pub is_next : IsNext l before i statement
  pub is_context : IsContextOf l (before ++ statement ∷ []) c

-- ---- the items of a text

abbrev pub AreFittingBehind : List Statement → List Statement → Type 0
AreFittingBehind before [] = ⊤
AreFittingBehind before (s ∷ ss) = Fits (known before) s.says × AreFittingBehind (before ++ s ∷ []) ss

pub record IsReadTo (l : Logic) (all rest : List ItemText) (ss : List Statement) : Type 0 where
  pub done : List ItemText
  pub whole : all ≡ done ++ rest
  pub are_statements : AreStatements l done ss
  pub are_fitting : AreFittingBehind [] ss
  pub are_few : length ss ≤ most_items

pub record IsReadWith (l : Logic) (all rest : List ItemText) (c : Context) : Type 0 where
  pub statements : List Statement
  pub is_read : IsReadTo l all rest statements
  pub is_context : IsContextOf l statements c

pub record AreReadAs (l : Logic) (all : List ItemText) (xs : List Item) : Type 0 where
  pub statements : List Statement
  pub are_read : AreRead l all statements
  pub none_is_large : (at : ℕ) → ¬ (HasLarge l statements at)
  pub are_meant : xs ≡ items_meant l statements

pub record IsLargeAmong (l : Logic) (all : List ItemText) (at : ℕ) : Type 0 where
  pub statements : List Statement
  pub are_read : AreRead l all statements
  pub is_first : IsFirstLarge l statements at

pub record IsStopped (l : Logic) (all : List ItemText) (r : SpecRule) (at : ℕ) : Type 0 where
  pub statements : List Statement
  pub item : ItemText
  pub after : List ItemText
  pub is_read : IsReadTo l all (item ∷ after) statements
  pub is_first : IsFirstInItem l statements item r at

-- ---- what is told

abbrev pub TellsInItem : Logic → List Statement → ItemText → Fault → Type 0
TellsInItem l before i (Breaks r at) = IsFirstInItem l before i r at
TellsInItem l before i NoMemory = ⊤

abbrev pub TellsAmong : Logic → List ItemText → Fault → Type 0
TellsAmong l all (Breaks r at) = IsStopped l all r at ⊎ ((r ≡ TooLarge) × IsLargeAmong l all at)
TellsAmong l all NoMemory = ⊤

abbrev pub TellsInText : List ℕ → Fault → Type 0
TellsInText text (Breaks r at) = IsFirstFault text r at
TellsInText text NoMemory = ⊤

abbrev pub TellsRefusal : List ℕ → SpecRefusal → Type 0
TellsRefusal text (refused.Refused line column r) = IsRefused text line column r
TellsRefusal text refused.NoMemory = ⊤
