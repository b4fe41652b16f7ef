-- The text of a game with a solution behind it: which claims it stands for, and where it is refused.
--
-- The solution begins at the first token of the text that is the word `paritysol`, so it never begins within a name. What
-- stands before is the text of a game. Of the causes of a refusal but `Unknown` the one at the first token is answered: a
-- fault of the game's text, at the latest where the word stands; else a fault of the solution, which has no token where the
-- word is missing, so that its fault is the text's end. Only where none of these comes, the first successor that is no id, and
-- else the first id of an entry that is none.
--
--   word_in text              == the byte at which the word stands, if it does
--   game_part text            == what stands before it
--   solution_part text        == the tokens behind it
--   AreClaimsOf ids es cs     == for each of these vertices the claim of its entry, if it has one
--   IsCheckedAs text named cs == the text stands for the game with these claims, and has no fault
--   finding_of ids v          == what the check's verdict v says of the vertices with these ids
--   IsFoundOf named cs f      == f is what the check finds of these claims
--   IsFoundIn text f          == f is what it finds of those of the text
--   IsCheckRefusedBy text e   == the text is refused with this answer
use Rattle.std.specs.Prelude.{ℕ, ◌≡◌, ◌+◌, ◌<◌, ◌≤◌, ◌⊎◌, nat_eq, Bool, List, [], ◌∷◌, length, take, drop, Option, Some, None, codes}
use Rattle.std.specs.List.{find, starts_with}
use Rattle.std.specs.Option.{option_map}
use Rattle.ml_lines.specs.Reading.{value}
use Rattle.ml_lists.specs.Member.{IsMember}
use Rattle.ml_game_check.specs.RightClaims.{Claims, claim_at}
use Rattle.ml_game_check.specs.declared.claims.Claim.{Claim}
use Rattle.ml_game_check.specs.Verdicts.{IsVerdict}
use Rattle.ml_game_check.specs.declared.verdict.Verdict.{Verdict}
use Rattle.ml_game_check.specs.declared.verdict.Verdict.TheVariants as verdict
use Rattle.ml_pgsolver.specs.GameText.{NamedGame, id_at}
use Rattle.ml_pgsolver.specs.Refusals.{Cause, HasNoFault, HasNoFaultIn, IsAt, IsFirstFaultIn, IsReadAs, IsRefusedBy, Repeated, Syntax, TooLarge, TooMany, offset_of, place_in}
use Rattle.ml_pgsolver.specs.SolutionGrammar.{Entry, SolutionDraft, reference_at_place, solution_form, solution_tokens}
use Rattle.ml_pgsolver.specs.Tokens.{Placed, Token, signs_of, tokens, tokens_at}
use Rattle.ml_pgsolver.specs.declared.finding.SolutionFinding.{SolutionFinding}
use Rattle.ml_pgsolver.specs.declared.finding.SolutionFinding.TheVariants as finding
use Rattle.ml_pgsolver.specs.declared.refusal.GameTextRefusal.{GameTextRefusal}
use Rattle.ml_pgsolver.specs.declared.refusal.GameTextRefusal.TheVariants as refusal

-- ---- the word

-- the token at this place is the word, which is longer than `parity`
abbrev pub is_word : List ℕ → Placed → Bool
is_word text p = starts_with nat_eq (drop p.at text) (codes "paritysol")

abbrev pub word_in : List ℕ → Option ℕ
word_in text = option_map (λ p. p.at) (find (is_word text) (tokens text))

abbrev pub part_before : Option ℕ → List ℕ → List ℕ
part_before None text = text
part_before (Some i) text = take i text

-- the word has nine bytes
abbrev pub tokens_behind : Option ℕ → List ℕ → List Placed
tokens_behind None text = []
tokens_behind (Some i) text = tokens_at 0 (i + 9) (drop (i + 9) text)

abbrev pub game_part : List ℕ → List ℕ
game_part text = part_before (word_in text) text

abbrev pub solution_part : List ℕ → List Placed
solution_part text = tokens_behind (word_in text) text

-- ---- what a text stands for

-- the place of the vertex to move to, if there is one
abbrev pub IsMoveOf : List ℕ → Option (List ℕ) → Option ℕ → Type 0
IsMoveOf ids None None = Unit {0}
IsMoveOf ids (Some digits) (Some w) = (w < length ids) × (id_at ids w ≡ value digits)
IsMoveOf ids move_to place = ⊥

pub record IsClaimOf (ids : List ℕ) (e : Entry) (v : ℕ) (c : Claim) : Type 0 where
  pub within : v < length ids
  pub vertex : id_at ids v ≡ value e.vertex
  pub winner : c.winner ≡ e.winner
  pub move_to : IsMoveOf ids e.move_to c.move_to

pub record AreClaimsOf (ids : List ℕ) (es : List Entry) (cs : Claims) : Type 0 where
  pub places : length cs ≡ length ids
  pub each : (e : Entry) → IsMember e es → (v : ℕ) × (c : Claim) × (claim_at cs v ≡ Some c) × IsClaimOf ids e v c
  pub others : (v : ℕ) (c : Claim) → claim_at cs v ≡ Some c → (e : Entry) × IsMember e es × IsClaimOf ids e v c

pub record IsCheckedAs (text : List ℕ) (named : NamedGame) (cs : Claims) : Type 0 where
  pub game : IsReadAs (game_part text) named
  pub draft : SolutionDraft
  pub spelled : signs_of (solution_part text) ≡ solution_tokens draft
  pub faultless : HasNoFaultIn solution_form (signs_of (solution_part text))
  pub claims : AreClaimsOf named.ids draft.entries cs

-- ---- what a check finds

-- by the vertices' ids
abbrev pub finding_of : List ℕ → Verdict → SolutionFinding
finding_of ids verdict.Right = finding.Accepted
finding_of ids (verdict.Broken v rule) = finding.Rejected (id_at ids v) rule

pub record IsFoundOf (named : NamedGame) (cs : Claims) (f : SolutionFinding) : Type 0 where
  pub answer : Verdict
  pub is_verdict : IsVerdict named.game cs answer
  pub is_told : f ≡ finding_of named.ids answer

pub record IsFoundIn (text : List ℕ) (f : SolutionFinding) : Type 0 where
  pub named : NamedGame
  pub claims : Claims
  pub is_read : IsCheckedAs text named claims
  pub is_found : IsFoundOf named claims f

-- ---- where a text is refused

-- this property of a token's number holds of the token of the solution that begins at this byte
abbrev pub ComesBehind : List ℕ → (List Token → ℕ → Type 0) → ℕ → Type 0
ComesBehind text P at = (k : ℕ) × P (signs_of (solution_part text)) k × (at ≡ offset_of (length text) (solution_part text) k)

-- the game's text has no fault, and this one comes behind it
abbrev pub ComesLater : List ℕ → Cause → ℕ → Type 0
ComesLater text c at = HasNoFault (signs_of (tokens (game_part text))) × ComesBehind text (IsFirstFaultIn solution_form c) at

-- the token number k is an id of an entry, and none of these
abbrev pub IsStranger : List ℕ → List Token → ℕ → Type 0
IsStranger ids ts k = (before : List Token) × (t : Token) × IsAt ts k before t
    × ((n : ℕ) × (reference_at_place (place_in solution_form before) t ≡ n ∷ []) × (IsMember n ids → ⊥))

pub record IsFirstStranger (ids : List ℕ) (ts : List Token) (k : ℕ) : Type 0 where
  pub comes : IsStranger ids ts k
  pub first : (j : ℕ) → IsStranger ids ts j → k ≤ j

-- neither the game's text nor the solution has a fault, and here stands the first number that ought to be an id
abbrev pub ComesLast : List ℕ → ℕ → Type 0
ComesLast text at =
    HasNoFaultIn solution_form (signs_of (solution_part text))
    × (IsRefusedBy (game_part text) (refusal.Unknown at)
    ⊎ ((named : NamedGame) × IsReadAs (game_part text) named × ComesBehind text (IsFirstStranger named.ids) at))

abbrev pub IsCheckRefusedBy : List ℕ → GameTextRefusal → Type 0
IsCheckRefusedBy text (refusal.Syntax at) = IsRefusedBy (game_part text) (refusal.Syntax at) ⊎ ComesLater text Syntax at
IsCheckRefusedBy text (refusal.Repeated at) = IsRefusedBy (game_part text) (refusal.Repeated at) ⊎ ComesLater text Repeated at
IsCheckRefusedBy text (refusal.Unknown at) = ComesLast text at
IsCheckRefusedBy text (refusal.TooMany at) = IsRefusedBy (game_part text) (refusal.TooMany at) ⊎ ComesLater text TooMany at
IsCheckRefusedBy text (refusal.TooLarge at) = IsRefusedBy (game_part text) (refusal.TooLarge at) ⊎ ComesLater text TooLarge at
-- want of memory is the one answer that says nothing of the text
IsCheckRefusedBy text refusal.NoMemory = Unit {0}
