-- The names in a formula, with their kinds: as what each of them stands, how it is spelled, and how long it may be.
--
-- Each logic says which list of names a formula has, in the order in which they occur; all that is asked of a formula's names
-- is then said of the list.
--
--   Kind                == a name stands as a proposition, as a variable or as an action
--   KindedName          == a name with its kind
--   is_spelled_name own x == is it spelled as a name of its kind is, in the logic with these signs of its own?
--   are_spelled own xs  == are all of them?
--   AreShort xs         == none of them has more bytes than a name may have
--   of_kind k xs        == the names of the kind k among them, in their order
use Rattle.std.specs.Prelude.{ℕ, ◌≤◌, Bool, true, false, List, [], ◌∷◌, length, if◌then◌else◌}
use Rattle.std.specs.List.{AllByRecursion, list_all}
use Rattle.ml_base.specs.Name.{longest_name}
use Rattle.ml_text.specs.Signs.{OwnSigns, is_proposition, is_upper_word}
use Rattle.ml_text.specs.SignKinds.{is_action}

pub data Kind : Type 0 where
  Proposition : Kind
  Variable : Kind
  Action : Kind

abbrev pub KindedName : Type 0
KindedName = Kind × List ℕ

-- ---- how they are spelled, and how long they are

abbrev pub is_spelled_as : {X : Type 0} → OwnSigns X → Kind → List ℕ → Bool
is_spelled_as own Proposition w = is_proposition own w
is_spelled_as own Variable w = is_upper_word w
is_spelled_as own Action w = is_action own w

abbrev pub is_spelled_name : {X : Type 0} → OwnSigns X → KindedName → Bool
is_spelled_name own x = is_spelled_as own x.0 x.1

abbrev pub are_spelled : {X : Type 0} → OwnSigns X → List KindedName → Bool
are_spelled own xs = list_all (is_spelled_name own) xs

abbrev pub IsShortName : KindedName → Type 0
IsShortName x = length x.1 ≤ longest_name

abbrev pub AreShort : List KindedName → Type 0
AreShort xs = AllByRecursion IsShortName xs

-- ---- those of a kind

abbrev pub is_kind : Kind → Kind → Bool
is_kind Proposition Proposition = true
is_kind Variable Variable = true
is_kind Action Action = true
is_kind _ _ = false

abbrev pub of_kind : Kind → List KindedName → List (List ℕ)
of_kind k [] = []
of_kind k (x ∷ xs) = if is_kind k x.0 then x.1 ∷ of_kind k xs else of_kind k xs
