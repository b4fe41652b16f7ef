-- Tokens as the reader knows them.
--
--   fitting n            == n, where it may stand in a text
--   owner_named digits   == the player that these digits name, if they are `0` or `1`
--   numeral_of digits    == the number that these digits are to the reader
--   sign_of t            == the token t to the reader
--   signs_in ps          == tokens with their places, to the reader
--   signs_from text i    == the tokens of a text from the byte i on, where no token is cut
--   capped_value digits  == the number that these digits are, or the cap where it is greater
use Rattle.std.specs.Prelude.{ℕ, ◌+◌, ◌*◌, ◌-◌, min, nat_le, ◌==◌, List, [], ◌∷◌, map, drop, slice_index, Option, Some, None, if◌then◌else◌}
use Rattle.ml_lines.specs.Reading.{value}
use Rattle.ml_parity.specs.declared.players.Player.{Player}
use Rattle.ml_parity.specs.declared.players.Player.TheVariants.{Even, Odd}
use Rattle.ml_pgsolver.specs.Tokens as token
use Rattle.ml_pgsolver.specs.Tokens.{Token, Placed, front_token, tokens_at}
use Rattle.ml_pgsolver.specs.Refusals.{greatest_number}
use Rattle.ml_pgsolver.specs.declared.scan.Numeral.{Numeral}
use Rattle.ml_pgsolver.specs.declared.scan.Sign.{Sign}
use Rattle.ml_pgsolver.specs.declared.scan.Sign.TheVariants as sign
use Rattle.ml_pgsolver.specs.declared.scan.TheConstants.{CAP}

abbrev pub fitting : ℕ → Option ℕ
fitting n = if nat_le n greatest_number then Some n else None

-- 48 and 49 are the digits 0 and 1
abbrev pub owner_named : List ℕ → Option Player
owner_named [] = None
owner_named (d ∷ []) = if d == 48 then Some Even else if d == 49 then Some Odd else None
owner_named (d ∷ e ∷ ds) = None

abbrev pub numeral_of : List ℕ → Numeral
numeral_of digits = record { value = fitting (value digits); owner = owner_named digits }

abbrev pub sign_of : Token → Sign
sign_of (token.Number digits) = sign.Number (numeral_of digits)
sign_of (token.Name inner) = sign.Name
sign_of token.Parity = sign.Parity
sign_of token.Comma = sign.Comma
sign_of token.Semicolon = sign.Semicolon
sign_of (token.Stray b) = sign.Stray

abbrev pub signs_in : List Placed → List (Sign × ℕ)
signs_in ps = map (λ p. (sign_of p.token, p.at)) ps

unfoldable pub signs_from : List ℕ → ℕ → List (Sign × ℕ)
signs_from text i = signs_in (tokens_at 0 i (drop i text))

-- the token that begins at this byte, which is no blank
abbrev pub token_at : List ℕ → ℕ → Token
token_at text i = front_token (slice_index text i) (drop (i + 1) text)

abbrev pub capped_on : ℕ → List ℕ → ℕ
capped_on n [] = n
capped_on n (c ∷ cs) = capped_on (min (10 * n + (c - 48)) CAP) cs

abbrev pub capped_value : List ℕ → ℕ
capped_value digits = capped_on 0 digits
