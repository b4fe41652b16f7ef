-- Which texts are read, and where the others are refused.
--
-- A text is refused at one of its tokens, or at its end. What is wrong with a token depends on the tokens before it and, for
-- a successor that is no id, on the whole text. A number's role is told by how many tokens stand between it and the last `;`
-- before it (or the front of the text): the first token is an id, and a number behind three others is a successor. This is
-- what the grammar says of texts that it has; where it has none, the text is refused there or before. Of the first four
-- causes below the one at the first token is answered, and of several at one token the one of the lowest rank; only where
-- none of them comes, the first successor that is no id.
--
--   place_behind ts       == how many tokens stand behind the last `;` of ts
--   ids_of ts             == the ids among ts
--   successors_among ts   == the successors among ts
--   Cause                 == no game text goes on so; an id that stood before; a limit is passed; a number too large
--   rank c                == the number of a cause
--   Form                  == a kind of text: which tokens it has, how many stand before them, and what is counted beside ids
--   game_form             == game texts: none stand before, and successors are counted
--   Begins f ts           == with some tokens behind them the tokens are such a text
--   IsFaultyIn f c before t  == behind these tokens, the token t is at fault for this cause
--   IsFaultIn f c ts k       == the token number k is; or k is how many tokens there are, and they only begin such a text
--   IsFirstFaultIn f c ts k  == of all faults this is the first
--   HasNoFaultIn f ts        == there is none
--   IsFaulty, IsFault, IsFirstFault, HasNoFault == the same of game texts
--   IsUnknown ts k        == the token number k is a successor, and none of the text's ids
--   offset_of end ps k    == the byte at which the token number k begins; behind the last token it is the end
--   IsReadAs text named   == the text stands for the game, and has no fault
--   IsRefusedBy text e    == the text is refused with this answer
use Rattle.std.specs.Prelude.{ℕ, ◌+◌, zero, suc, ◌<◌, ◌≤◌, ◌≡◌, ◌⊎◌, nat_le, List, [], ◌∷◌, ◌++◌, length, if◌then◌else◌}
use Rattle.ml_lines.specs.Reading.{value}
use Rattle.ml_lists.specs.Member.{IsMember}
use Rattle.ml_pgsolver.specs.Tokens.{Token, Number, Semicolon, Placed, tokens, signs_of}
use Rattle.ml_pgsolver.specs.Grammar.{IsGameText}
use Rattle.ml_pgsolver.specs.GameText.{NamedGame, StandsFor}
use Rattle.ml_pgsolver.specs.declared.limits.TheConstants.{MOST_VERTICES, MOST_SUCCESSORS, GREATEST_NUMBER}
use Rattle.ml_pgsolver.specs.declared.refusal.GameTextRefusal.{GameTextRefusal}
use Rattle.ml_pgsolver.specs.declared.refusal.GameTextRefusal.TheVariants as refusal

-- where n tokens stand behind the last `;`: so many behind one token more
abbrev pub next_place : ℕ → Token → ℕ
next_place n Semicolon = 0
next_place n t = n + 1

abbrev pub place_from : ℕ → List Token → ℕ
place_from n [] = n
place_from n (t ∷ ts) = place_from (next_place n t) ts

abbrev pub place_behind : List Token → ℕ
place_behind ts = place_from 0 ts

-- the id that a token is at this place
abbrev pub id_at_place : ℕ → Token → List ℕ
id_at_place zero (Number digits) = value digits ∷ []
id_at_place n t = []

-- the successor that a token is at this place
abbrev pub successor_at_place : ℕ → Token → List ℕ
successor_at_place n (Number digits) = if nat_le 3 n then value digits ∷ [] else []
successor_at_place n t = []

-- the numbers of some role, each told by its place
abbrev pub roles_from : (ℕ → Token → List ℕ) → ℕ → List Token → List ℕ
roles_from role n [] = []
roles_from role n (t ∷ ts) = role n t ++ roles_from role (next_place n t) ts

abbrev pub ids_of : List Token → List ℕ
ids_of ts = roles_from id_at_place 0 ts

abbrev pub successors_among : List Token → List ℕ
successors_among ts = roles_from successor_at_place 0 ts

pub data Cause : Type 0 where
  Syntax Repeated TooMany TooLarge : Cause

abbrev pub rank : Cause → ℕ
rank Syntax = 1
rank Repeated = 2
rank TooMany = 4
rank TooLarge = 5

-- behind these tokens, t is this id, or this successor
abbrev pub IsId : List Token → Token → ℕ → Type 0
IsId before t n = id_at_place (place_behind before) t ≡ n ∷ []

abbrev pub IsSuccessor : List Token → Token → ℕ → Type 0
IsSuccessor before t n = successor_at_place (place_behind before) t ≡ n ∷ []

abbrev pub most_vertices : ℕ
most_vertices = MOST_VERTICES

abbrev pub most_successors : ℕ
most_successors = MOST_SUCCESSORS

abbrev pub greatest_number : ℕ
greatest_number = GREATEST_NUMBER

-- a kind of text: what it is, how many tokens stand before it, and which numbers are counted beside ids
pub record Form : Type 1 where
  pub Is : List Token → Type 0
  pub start : ℕ
  pub counted : ℕ → Token → List ℕ

abbrev pub game_form : Form
game_form = record { Is = IsGameText; start = 0; counted = successor_at_place }

abbrev pub Begins : Form → List Token → Type 0
Begins f ts = (us : List Token) × f.Is (ts ++ us)

abbrev pub place_in : Form → List Token → ℕ
place_in f ts = place_from f.start ts

abbrev pub ids_in : Form → List Token → List ℕ
ids_in f ts = roles_from id_at_place f.start ts

abbrev pub IsFaultyIn : Form → Cause → List Token → Token → Type 0
IsFaultyIn f Syntax before t = Begins f before × (Begins f (before ++ t ∷ []) → ⊥)
IsFaultyIn f Repeated before t = (n : ℕ) × (id_at_place (place_in f before) t ≡ n ∷ []) × IsMember n (ids_in f before)
IsFaultyIn f TooMany before t =
    ((n : ℕ) × (id_at_place (place_in f before) t ≡ n ∷ []) × (length (ids_in f before) ≡ most_vertices))
    ⊎ ((n : ℕ) × (f.counted (place_in f before) t ≡ n ∷ [])
    × (length (roles_from f.counted f.start before) ≡ most_successors))
IsFaultyIn f TooLarge before t = (digits : List ℕ) × (t ≡ Number digits) × (greatest_number < value digits)

abbrev pub IsFaulty : Cause → List Token → Token → Type 0
IsFaulty c before t = IsFaultyIn game_form c before t

-- the token number k is t, and these stand before it
pub record IsAt (ts : List Token) (k : ℕ) (before : List Token) (t : Token) : Type 0 where
  pub behind : List Token
  pub all : ts ≡ before ++ t ∷ behind
  pub number : k ≡ length before

abbrev pub EndsEarlyIn : Form → List Token → ℕ → Type 0
EndsEarlyIn f ts k = (k ≡ length ts) × Begins f ts × (f.Is ts → ⊥)

abbrev pub IsTokenFaultIn : Form → Cause → List Token → ℕ → Type 0
IsTokenFaultIn f c ts k = (before : List Token) × (t : Token) × IsAt ts k before t × IsFaultyIn f c before t

abbrev pub IsFaultIn : Form → Cause → List Token → ℕ → Type 0
IsFaultIn f c ts k = IsTokenFaultIn f c ts k ⊎ ((c ≡ Syntax) × EndsEarlyIn f ts k)

pub record IsFirstFaultIn (f : Form) (c : Cause) (ts : List Token) (k : ℕ) : Type 0 where
  pub comes : IsFaultIn f c ts k
  pub first : (d : Cause) (j : ℕ) → IsFaultIn f d ts j → (k < j) ⊎ ((k ≡ j) × (rank c ≤ rank d))

abbrev pub HasNoFaultIn : Form → List Token → Type 0
HasNoFaultIn f ts = (c : Cause) (k : ℕ) → IsFaultIn f c ts k → ⊥

abbrev pub IsFault : Cause → List Token → ℕ → Type 0
IsFault c ts k = IsFaultIn game_form c ts k

abbrev pub IsFirstFault : Cause → List Token → ℕ → Type 0
IsFirstFault c ts k = IsFirstFaultIn game_form c ts k

abbrev pub HasNoFault : List Token → Type 0
HasNoFault ts = HasNoFaultIn game_form ts

abbrev pub IsUnknown : List Token → ℕ → Type 0
IsUnknown ts k = (before : List Token) × (t : Token) × IsAt ts k before t
    × ((n : ℕ) × IsSuccessor before t n × (IsMember n (ids_of ts) → ⊥))

pub record IsFirstUnknown (ts : List Token) (k : ℕ) : Type 0 where
  pub faultless : HasNoFault ts
  pub comes : IsUnknown ts k
  pub first : (j : ℕ) → IsUnknown ts j → k ≤ j

abbrev pub offset_of : ℕ → List Placed → ℕ → ℕ
offset_of end [] k = end
offset_of end (p ∷ ps) zero = p.at
offset_of end (p ∷ ps) (suc k) = offset_of end ps k

pub record IsReadAs (text : List ℕ) (named : NamedGame) : Type 0 where
  pub stands : StandsFor text named
  pub faultless : HasNoFault (signs_of (tokens text))

-- this property of a token's number holds of the token that begins at this byte
abbrev pub ComesAt : List ℕ → (List Token → ℕ → Type 0) → ℕ → Type 0
ComesAt text P at = (k : ℕ) × P (signs_of (tokens text)) k × (at ≡ offset_of (length text) (tokens text) k)

abbrev pub IsRefusedBy : List ℕ → GameTextRefusal → Type 0
IsRefusedBy text (refusal.Syntax at) = ComesAt text (IsFirstFault Syntax) at
IsRefusedBy text (refusal.Repeated at) = ComesAt text (IsFirstFault Repeated) at
IsRefusedBy text (refusal.Unknown at) = ComesAt text IsFirstUnknown at
IsRefusedBy text (refusal.TooMany at) = ComesAt text (IsFirstFault TooMany) at
IsRefusedBy text (refusal.TooLarge at) = ComesAt text (IsFirstFault TooLarge) at
-- want of memory is the one answer that says nothing of the text
IsRefusedBy text refusal.NoMemory = Unit {0}
