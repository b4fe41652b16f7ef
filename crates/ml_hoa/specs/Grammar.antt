-- The grammar of automaton texts: what was written, as a tree, and its tokens.
--
--   automaton = "HOA:" "v1" { header } "--BODY--" { state } "--END--"
--   header    = "States:" INT | "Start:" INT | "AP:" INT { STRING }
--             | "Acceptance:" "1" "Inf" "(" "0" ")" | "Acceptance:" "0" "t" | other
--   state     = "State:" INT [ STRING ] [ sets ] { "[" label "]" INT [ sets ] }
--   sets      = "{" { INT } "}"
--   label     = conj { "|" conj }
--   conj      = lit { "&" lit }
--   lit       = "!" lit | "(" label ")" | "t" | "f" | INT
--
-- `other` is a header name that begins with a lower-case letter, with all tokens up to the next header name or `--BODY--`.
-- Each of the four named headers stands exactly once, in any order, and `AP:` has as many strings as its number says.
--
--   Numeral              == the digits of a number, and the byte at which it begins
--   Label l              == a label, or what is written in it: a `lit` (Literal), a `conj` (Conjunction), a `label`
--                           (Disjunction)
--   Header               == a header; those that say what is accepted with the places of their numbers
--   EdgeText, StateText  == an edge, and a state with its edges, as they were written
--   Heads                == what the four named headers say
--   Draft                == the headers, what they say, and the states
--   .._tokens            == the tokens of each of these
--   is_passed t          == may the token t stand in a header that is ignored?
--   IsHeader h           == the header is as the grammar has it
--   IsDraft d            == the headers are, and each of the four stands once, and says what the draft says
--   IsText ts d          == the tokens are those of the draft
use Rattle.std.specs.Prelude.{ℕ, ◌≡◌, Bool, true, false, List, [], ◌∷◌, ◌++◌, length, map, All, Option, Some, None, codes}
use Rattle.std.specs.List.{flat_map, list_all}
use Rattle.ml_lines.specs.Reading.{value}
use Rattle.ml_hoa.specs.declared.token.Mark.{Mark}
use Rattle.ml_hoa.specs.declared.token.Mark.TheVariants as mark
use Rattle.ml_hoa.specs.declared.reader.Acceptance.{Acceptance}
use Rattle.ml_hoa.specs.declared.reader.Acceptance.TheVariants as acceptance
use Rattle.ml_hoa.specs.Tokens.{Token, Number, Text, Plain}

pub record Numeral : Type 0 where
  pub digits : List ℕ
  pub at : ℕ

pub data Level : Type 0 where
  Literal Conjunction Disjunction : Level

pub data Label : Level → Type 0 where
  Const : Bool → Label Literal
  Ap : Numeral → Label Literal
  Not : Label Literal → Label Literal
  Inside : Label Disjunction → Label Literal
  -- the last one of a conjunction, and a further one before it; so of a disjunction
  Last : Label Literal → Label Conjunction
  And : Label Literal → Label Conjunction → Label Conjunction
  Least : Label Conjunction → Label Disjunction
  Or : Label Conjunction → Label Disjunction → Label Disjunction

pub data Header : Type 0 where
  States Start : Numeral → Header
  Props : Numeral → List (List ℕ) → Header
  Every : ℕ → Header
  Marked : ℕ → ℕ → Header
  Other : List Token → Header

pub record EdgeText : Type 0 where
  pub label : Label Disjunction
  pub to : Numeral
  pub sets : Option (List Numeral)

pub record StateText : Type 0 where
  pub id : Numeral
  pub name : Option (List ℕ)
  pub sets : Option (List Numeral)
  pub edges : List EdgeText

pub record Heads : Type 0 where
  pub states : Numeral
  pub start : Numeral
  pub props : List (List ℕ)
  pub acceptance : Acceptance

pub record Draft : Type 0 where
  pub headers : List Header
  pub heads : Heads
  pub states : List StateText

abbrev pub number_token : Numeral → Token
number_token n = Number n.digits n.at

abbrev pub const_token : Bool → Token
const_token true = Plain mark.Truth
const_token false = Plain mark.Falsity

abbrev pub label_tokens : {l : Level} → Label l → List Token
label_tokens (Const b) = const_token b ∷ []
label_tokens (Ap n) = number_token n ∷ []
label_tokens (Not l) = Plain mark.Not ∷ label_tokens l
label_tokens (Inside l) = Plain mark.LeftParen ∷ (label_tokens l ++ Plain mark.RightParen ∷ [])
label_tokens (Last l) = label_tokens l
label_tokens (And l c) = label_tokens l ++ Plain mark.And ∷ label_tokens c
label_tokens (Least c) = label_tokens c
label_tokens (Or c d) = label_tokens c ++ Plain mark.Or ∷ label_tokens d

abbrev pub header_tokens : Header → List Token
header_tokens (States n) = Plain mark.States ∷ number_token n ∷ []
header_tokens (Start n) = Plain mark.Start ∷ number_token n ∷ []
header_tokens (Props n texts) = Plain mark.Props ∷ number_token n ∷ map Text texts
header_tokens (Every at) = Plain mark.Acceptance ∷ Number (codes "0") at ∷ Plain mark.Truth ∷ []
header_tokens (Marked at inner) =
    Plain mark.Acceptance ∷ Number (codes "1") at ∷ Plain mark.Inf ∷ Plain mark.LeftParen ∷ Number (codes "0") inner
    ∷ Plain mark.RightParen ∷ []
header_tokens (Other ts) = Plain mark.Ignored ∷ ts

abbrev pub sets_tokens : Option (List Numeral) → List Token
sets_tokens None = []
sets_tokens (Some ns) = Plain mark.LeftBrace ∷ (map number_token ns ++ Plain mark.RightBrace ∷ [])

abbrev pub name_tokens : Option (List ℕ) → List Token
name_tokens None = []
name_tokens (Some name) = Text name ∷ []

abbrev pub edge_tokens : EdgeText → List Token
edge_tokens e =
    Plain mark.LeftBracket ∷ (label_tokens e.label ++ Plain mark.RightBracket ∷ number_token e.to ∷ sets_tokens e.sets)

abbrev pub state_tokens : StateText → List Token
state_tokens s =
    Plain mark.State ∷ number_token s.id ∷ (name_tokens s.name ++ (sets_tokens s.sets ++ flat_map edge_tokens s.edges))

abbrev pub body_tokens : List StateText → List Token
body_tokens states = flat_map state_tokens states ++ Plain mark.End ∷ []

abbrev pub draft_tokens : Draft → List Token
draft_tokens d =
    Plain mark.Hoa ∷ Plain mark.Version
    ∷ (flat_map header_tokens d.headers ++ Plain mark.Body ∷ body_tokens d.states)

abbrev pub is_passed_mark : Mark → Bool
is_passed_mark mark.Hoa = false
is_passed_mark mark.States = false
is_passed_mark mark.Start = false
is_passed_mark mark.Props = false
is_passed_mark mark.Acceptance = false
is_passed_mark mark.State = false
is_passed_mark mark.Ignored = false
is_passed_mark mark.Foreign = false
is_passed_mark mark.Body = false
is_passed_mark mark.Unclosed = false
is_passed_mark m = true

abbrev pub is_passed : Token → Bool
is_passed (Plain m) = is_passed_mark m
is_passed t = true

abbrev pub IsHeader : Header → Type 0
IsHeader (Props n texts) = value n.digits ≡ length texts
IsHeader (Other ts) = list_all is_passed ts ≡ true
IsHeader h = Unit {0}

-- what a header says, of each of the four kinds
abbrev pub states_in : Header → List Numeral
states_in (States n) = n ∷ []
states_in h = []

abbrev pub start_in : Header → List Numeral
start_in (Start n) = n ∷ []
start_in h = []

abbrev pub props_in : Header → List (List (List ℕ))
props_in (Props n texts) = texts ∷ []
props_in h = []

abbrev pub acceptance_in : Header → List Acceptance
acceptance_in (Every at) = acceptance.Every ∷ []
acceptance_in (Marked at inner) = acceptance.Marked ∷ []
acceptance_in h = []

pub record IsDraft (d : Draft) : Type 0 where
  pub headers : All IsHeader d.headers
  pub states_once : flat_map states_in d.headers ≡ d.heads.states ∷ []
  pub start_once : flat_map start_in d.headers ≡ d.heads.start ∷ []
  pub props_once : flat_map props_in d.headers ≡ d.heads.props ∷ []
  pub acceptance_once : flat_map acceptance_in d.headers ≡ d.heads.acceptance ∷ []

pub record IsText (ts : List Token) (d : Draft) : Type 0 where
  pub spelled : ts ≡ draft_tokens d
  pub whole : IsDraft d
