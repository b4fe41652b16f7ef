-- The kinds of items behind the first one.
--
-- Of all items of a text, those of some kinds are items of its specification: requirements and questions. The others say
-- something of those that come behind them, or nothing.
--
--   kind_word k      == the word of the kind k of an item of a specification
--   is_requirement k == is it the kind of the requirements, and not of a question?
--   item_word k      == the word of the kind k of an item of a text
--   may_stand l k    == may items of the kind k stand in a text of the logic l?
--   takes_name k     == does a name with a colon stand in them, behind their word?
--   has_formula k    == does the text of a formula stand behind the colon?
use Rattle.std.specs.Prelude.{ℕ, Bool, true, false, List, codes}
use Rattle.ml_front.specs.declared.logic.Logic.{Logic}
use Rattle.ml_spec.specs.declared.kind.ItemKind.{ItemKind}
use Rattle.ml_spec.specs.declared.kind.ItemKind.TheVariants.{Logics, Signals, Enumeration, Definition, Stated}
use Rattle.ml_spec.specs.declared.kind.Kind.{Kind}
use Rattle.ml_spec.specs.declared.kind.Kind.TheVariants as kind
use Rattle.ml_written.specs.Propositions.{has_enumerations}

-- ---- items of a specification

abbrev pub kind_word : Kind → List ℕ
kind_word kind.Require = codes "require"
kind_word kind.Possible = codes "possible"
kind_word kind.Follows = codes "follows"

abbrev pub is_requirement : Kind → Bool
is_requirement kind.Require = true
is_requirement k = false

-- ---- items of a text

abbrev pub item_word : ItemKind → List ℕ
item_word Logics = codes "logic"
item_word Signals = codes "signals"
item_word Enumeration = codes "enum"
item_word Definition = codes "define"
item_word (Stated k) = kind_word k

abbrev pub may_stand : Logic → ItemKind → Bool
may_stand l Enumeration = has_enumerations l
may_stand l k = true

abbrev pub takes_name : ItemKind → Bool
takes_name Logics = false
takes_name Signals = false
takes_name k = true

abbrev pub has_formula : ItemKind → Bool
has_formula Definition = true
has_formula (Stated k) = true
has_formula k = false
