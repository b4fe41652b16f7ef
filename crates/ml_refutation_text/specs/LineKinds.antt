-- The kinds of lines of a refutation.
--
-- A line is of a kind if its words are separated by one blank, the fixed words of the kind stand in their places, and it
-- has a number of words that the kind allows. Whether another word is a number is a matter of its own.
--
--   Slot               == what stands for a word: this word; a number; a number or `-`; a number of any size
--   Kind               == the slots, and whether any number of further numbers may stand behind them
--   kind ss, open_kind ss == a kind without and with further numbers
--   Spells w n         == the word w spells n, however great n is
--   IsSpelt w          == w spells some number
--   InSlots, IsOfKind  == the line has the words of the slots; and is of the kind
--   FitSlots, HasNumbers == what stands for a number is one
--   IsOfKinds ks l     == l is of one of the kinds ks
--   HaveNumbers ks l   == of whichever of them it is, it has its numbers
use Rattle.std.specs.Prelude.{ℕ, ◌<◌, ◌≡◌, ◌⊎◌, ⊤, Bool, true, false, get_or, List, [], ◌∷◌, codes, length, All}
use Rattle.std.specs.Str.{all_ascii_digits}
use Rattle.ml_lines.specs.Lines.{Word, Line}
use Rattle.ml_lines.specs.Reading.{AreWords, IsNumber, value}

pub data Slot : Type 0 where
  Fixed : Word → Slot
  ANumber : Slot
  AGuess : Slot
  AnySize : Slot

pub record Kind : Type 0 where
  pub slots : List Slot
  pub further : Bool

abbrev pub kind : List Slot → Kind
kind slots = record { slots = slots; further = false }

abbrev pub open_kind : List Slot → Kind
open_kind slots = record { slots = slots; further = true }

-- in decimal and without leading zeros
pub record Spells (w : Word) (n : ℕ) : Type 0 where
  pub digits : all_ascii_digits w ≡ true
  pub some : 0 < length w
  pub no_zero_leads : get_or w 0 0 ≡ 48 → length w ≡ 1
  pub is_value : value w ≡ n

abbrev pub IsSpelt : Word → Type 0
IsSpelt w = (n : ℕ) × Spells w n

abbrev pub InSlot : Slot → Word → Type 0
InSlot (Fixed word) w = w ≡ word
InSlot _ w = ⊤

abbrev pub FitsSlot : Slot → Word → Type 0
FitsSlot (Fixed word) w = ⊤
FitsSlot ANumber w = IsNumber w
FitsSlot AGuess w = (w ≡ codes "-") ⊎ IsNumber w
FitsSlot AnySize w = IsSpelt w

-- no word behind the slots, or any
abbrev pub MayFollow : Bool → Line → Type 0
MayFollow true words = ⊤
MayFollow false words = words ≡ []

abbrev pub InSlots : Bool → List Slot → Line → Type 0
InSlots further [] words = MayFollow further words
InSlots further (slot ∷ slots) [] = ⊥
InSlots further (slot ∷ slots) (w ∷ words) = InSlot slot w × InSlots further slots words

abbrev pub FitSlots : List Slot → Line → Type 0
FitSlots [] words = All IsNumber words
FitSlots (slot ∷ slots) [] = ⊤
FitSlots (slot ∷ slots) (w ∷ words) = FitsSlot slot w × FitSlots slots words

abbrev pub IsOfKind : Kind → Line → Type 0
IsOfKind k line = AreWords line × InSlots k.further k.slots line

abbrev pub HasNumbers : Kind → Line → Type 0
HasNumbers k line = FitSlots k.slots line

-- of one of these kinds
abbrev pub IsOfKinds : List Kind → Line → Type 0
IsOfKinds [] line = ⊥
IsOfKinds (k ∷ kinds) line = IsOfKind k line ⊎ IsOfKinds kinds line

-- whichever of the kinds the line is of, it has its numbers
abbrev pub HaveNumbers : List Kind → Line → Type 0
HaveNumbers [] line = ⊤
HaveNumbers (k ∷ kinds) line = (IsOfKind k line → HasNumbers k line) × HaveNumbers kinds line
