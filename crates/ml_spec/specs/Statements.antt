-- What an item of a text says by itself.
--
--   Saying            == what an item says: the logic once more; which propositions are signals; the name and the values of an
--                        enumeration; a proposition and the formula for which it stands; or the kind, the name and the formula of
--                        an item of the specification
--   Statement         == a saying, and where its item begins in the text
--   is_word v         == a letter or a digit, and then letters, digits and `_`
--   value_name m v    == the proposition that says that the enumeration m has the value v: `m_v`
--   value_names m vs  == those of the values vs
--   is_value m v      == may v be a value of the enumeration m? A word whose proposition isn't too long
--   IsWrittenIn l text w == the text stands for w in the logic l
--   IsSaid l i s      == the item i of a text of the logic l says s
--   IsStatement l i s == it is the statement s
--   AreStatements l is ss == so are these, one by one
use Rattle.std.specs.Prelude.{ℕ, ◌≡◌, ◌≤◌, ⊤, Bool, false, ◌&&◌, ◌||◌, nat_le, List, [], ◌∷◌, ◌++◌, length, map}
use Rattle.std.specs.List.{list_all}
use Rattle.ml_base.specs.Name.{longest_name}
use Rattle.ml_text.specs.Bytes.{is_digit, is_letter, is_word_byte}
use Rattle.ml_front.specs.Logics.{logic_word}
use Rattle.ml_front.specs.declared.logic.Logic.{Logic}
use Rattle.ml_spec.specs.ItemParts.{behind_kind, name_of, signals_of, text_of, values_of, HasColon, HasKind, HasText}
use Rattle.ml_spec.specs.Items.{ItemText}
use Rattle.ml_spec.specs.Words.{words_of, AreGood}
use Rattle.ml_spec.specs.declared.kind.ItemKind.TheVariants as item
use Rattle.ml_spec.specs.declared.kind.Kind.{Kind}
use Rattle.ml_written.specs.Propositions.{is_proposition}
use Rattle.ml_written.specs.Written.{written_logic, IsWrittenAs}
use Rattle.ml_written.specs.declared.written.Written.{Written}

pub data Saying : Type 0 where
  Repeated : Saying
  Signals : List (List ℕ) → Saying
  Enumeration : List ℕ → List (List ℕ) → Saying
  Definition : List ℕ → Written → Saying
  Stated : Kind → List ℕ → Written → Saying

pub record Statement : Type 0 where
  pub at : ℕ
  pub says : Saying

-- ---- the values of an enumeration

abbrev pub is_word : List ℕ → Bool
is_word [] = false
is_word (b ∷ bs) = (is_letter b || is_digit b) && list_all is_word_byte bs

-- 95 is `_`
abbrev pub value_name : List ℕ → List ℕ → List ℕ
value_name m v = m ++ 95 ∷ v

abbrev pub value_names : List ℕ → List (List ℕ) → List (List ℕ)
value_names m vs = map (value_name m) vs

abbrev pub is_value : List ℕ → List ℕ → Bool
is_value m v = is_word v && nat_le (length (value_name m v)) longest_name

-- ---- what an item says

abbrev pub IsWrittenIn : Logic → List ℕ → Written → Type 0
IsWrittenIn l text w = (written_logic w ≡ l) × IsWrittenAs text w

abbrev pub IsSaid : Logic → ItemText → Saying → Type 0
IsSaid l i Repeated = HasKind i item.Logics × (behind_kind i ≡ logic_word l)
IsSaid l i (Signals ps) =
    HasKind i item.Signals × (ps ≡ words_of (signals_of i)) × AreGood (is_proposition l) ps × (1 ≤ length ps)
IsSaid l i (Enumeration m vs) =
    HasColon l i item.Enumeration
    × (m ≡ name_of i)
    × (vs ≡ words_of (values_of i))
    × AreGood (is_value m) vs
    × (2 ≤ length vs)
IsSaid l i (Definition p w) = HasText l i item.Definition × (p ≡ name_of i) × IsWrittenIn l (text_of i) w
IsSaid l i (Stated k n w) = HasText l i (item.Stated k) × (n ≡ name_of i) × IsWrittenIn l (text_of i) w

pub record IsStatement (l : Logic) (i : ItemText) (s : Statement) : Type 0 where
  pub is_at : s.at ≡ i.at
  pub is_said : IsSaid l i s.says

abbrev pub AreStatements : Logic → List ItemText → List Statement → Type 0
AreStatements l [] [] = ⊤
AreStatements l (i ∷ is) (s ∷ ss) = IsStatement l i s × AreStatements l is ss
AreStatements l _ _ = ⊥
