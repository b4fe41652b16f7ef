-- Which texts are accepted within limits, and where the others are refused, for any grammar: all that is asked of it is
-- the relation R ts f, that the signs ts stand for the tree f.
--
-- A text is a list of items: signs with the place of each, what it counts towards the limit on occurrences, whether it
-- is a parenthesis, and whether it is a name that is too long. A text may be refused for four causes, each at a place.
-- The one at the least place is answered, and of several at one place the first cause in the order below. A place is
-- the number of an item, or the number of all items for the end of the text.
--
--   Item                    == a sign with what limits ask of it
--   signs_of items          == the signs
--   counted items           == how many occurrences the items count
--   open_behind items       == how many parentheses are open behind the items
--   BeginsText R ts         == with some signs behind them, the signs ts stand for some tree
--   Cause                   == syntax, too many occurrences, too many open parentheses, a name too long
--   IsSyntaxFault R items k == the first k items begin a text, and with the next one they begin none; at the end: they are none
--   Passes amount most items k == with the item k the amount of the items passes what it may be at most
--   is_long_at items k      == is the item k a name that is too long?
--   IsFault R c items k     == the cause c comes at the place k
--   IsRefused R items c k   == c at k is the first of all
--   IsAccepted R items f    == the signs stand for f, and no cause comes at all
--   offset_of items end k   == where the place k is in the text, whose end is given
--   ComesFirst R items end c at  == c is the first of all, and comes at this byte
--   IsRefusedBy R items end e    == the text is refused with this answer, in a logic whose variables are never at fault
use Rattle.std.specs.Prelude.{ℕ, zero, suc, ◌+◌, ◌-◌, ◌<◌, ◌≤◌, ◌≡◌, ◌⊎◌, Bool, true, false, List, [], ◌∷◌, ◌++◌, length, map, take, sum_by}
use Rattle.ml_base.specs.declared.parse_refusal.ParseRefusal.{ParseRefusal}
use Rattle.ml_base.specs.declared.parse_refusal.ParseRefusal.TheVariants as refusal
use Rattle.ml_text.specs.declared.limits.TheConstants.{MOST_OCCURRENCES, MOST_OPEN}
use Rattle.ml_text.specs.declared.limits.Bracket.{Bracket}
use Rattle.ml_text.specs.declared.limits.Bracket.TheVariants.{Opening, Closing, Neither}

pub record Item (Sign : Type 0) : Type 0 where
  pub sign : Sign
  pub at : ℕ
  pub weight : ℕ
  pub bracket : Bracket
  pub is_long : Bool

abbrev pub signs_of : {Sign : Type 0} → List (Item Sign) → List Sign
signs_of items = map (λ i. i.sign) items

abbrev pub counted : {Sign : Type 0} → List (Item Sign) → ℕ
counted items = sum_by (λ i. i.weight) items

-- behind a parenthesis, or another sign; where none is open, a closing one changes nothing
abbrev pub open_behind_one : Bracket → ℕ → ℕ
open_behind_one Opening n = n + 1
open_behind_one Closing n = n - 1
open_behind_one Neither n = n

abbrev pub open_from : {Sign : Type 0} → ℕ → List (Item Sign) → ℕ
open_from n [] = n
open_from n (i ∷ items) = open_from (open_behind_one i.bracket n) items

abbrev pub open_behind : {Sign : Type 0} → List (Item Sign) → ℕ
open_behind items = open_from 0 items

pub data Cause : Type 0 where
  Syntax TooMany TooNested NameTooLong : Cause

abbrev pub rank : Cause → ℕ
rank Syntax = 1
rank TooMany = 4
rank TooNested = 5
rank NameTooLong = 6

pub record Passes {Sign : Type 0} (amount : List (Item Sign) → ℕ) (most : ℕ) (items : List (Item Sign)) (k : ℕ) : Type 0 where
  pub within : k < length items
  pub before : amount (take k items) ≤ most
  pub passes : most < amount (take (k + 1) items)

-- is the item with this number a name that is too long?
abbrev pub is_long_at : {Sign : Type 0} → List (Item Sign) → ℕ → Bool
is_long_at [] k = false
is_long_at (i ∷ items) zero = i.is_long
is_long_at (i ∷ items) (suc k) = is_long_at items k

abbrev pub offset_of : {Sign : Type 0} → List (Item Sign) → ℕ → ℕ → ℕ
offset_of [] end k = end
offset_of (i ∷ items) end zero = i.at
offset_of (i ∷ items) end (suc k) = offset_of items end k

module _ {Sign Tree : Type 0} (R : List Sign → Tree → Type 0) where
  abbrev pub BeginsText : List Sign → Type 0
  BeginsText ts = (us : List Sign) × (f : Tree) × R (ts ++ us) f

  pub record IsSyntaxFault (items : List (Item Sign)) (k : ℕ) : Type 0 where
    pub within : k ≤ length items
    pub begins : BeginsText (signs_of (take k items))
    pub ends : k < length items → BeginsText (signs_of (take (k + 1) items)) → ⊥
    pub is_none : k ≡ length items → (f : Tree) → R (signs_of items) f → ⊥

  abbrev pub IsFault : Cause → List (Item Sign) → ℕ → Type 0
  IsFault Syntax items k = IsSyntaxFault items k
  IsFault TooMany items k = Passes counted MOST_OCCURRENCES items k
  IsFault TooNested items k = Passes open_behind MOST_OPEN items k
  IsFault NameTooLong items k = is_long_at items k ≡ true

  pub record IsRefused (items : List (Item Sign)) (c : Cause) (k : ℕ) : Type 0 where
    pub comes : IsFault c items k
    pub first : (d : Cause) (j : ℕ) → IsFault d items j → (k < j) ⊎ ((k ≡ j) × (rank c ≤ rank d))

  pub record IsAccepted (items : List (Item Sign)) (f : Tree) : Type 0 where
    pub stands : R (signs_of items) f
    pub keeps : (c : Cause) (k : ℕ) → IsFault c items k → ⊥

  abbrev pub ComesFirst : List (Item Sign) → ℕ → Cause → ℕ → Type 0
  ComesFirst items end c at = (k : ℕ) × IsRefused items c k × (at ≡ offset_of items end k)

  -- want of memory is the one answer that says nothing of the text
  abbrev pub IsRefusedBy : List (Item Sign) → ℕ → ParseRefusal → Type 0
  IsRefusedBy items end (refusal.Syntax at) = ComesFirst items end Syntax at
  IsRefusedBy items end (refusal.TooMany at) = ComesFirst items end TooMany at
  IsRefusedBy items end (refusal.TooNested at) = ComesFirst items end TooNested at
  IsRefusedBy items end (refusal.NameTooLong at) = ComesFirst items end NameTooLong at
  IsRefusedBy items end refusal.NoMemory = Unit {0}
  IsRefusedBy items end _ = ⊥
