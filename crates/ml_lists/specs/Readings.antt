-- Which documents are readable, and how far they are read.
--
--   IsJudged rs l              == the line l keeps all rules rs, or there is a first one that it breaks
--   numbers rs                 == the numbers of the rules rs
--   IsReadable F p ls          == no line of ls is bad, the first of which stands at p, and none is missing behind them
--   Judges F                   == each line is judged at each place
--   NumbersRise F              == at each place the numbers of the rules rise, so that the first rule that a line breaks
--                                 is the one with the lowest number
--   Runs F p ls q              == the lines ls are good from the place p on, and behind them stands q
--   IsReadTo F k p ls j q rest == ls begins with good lines and goes on with rest, whose first line stands at q and has
--                                 the number j, where the first one of ls stands at p and has the number k
use Rattle.std.specs.Prelude.{ℕ, ◌+◌, ◌≡◌, ◌⊎◌, List, [], ◌∷◌}
use Rattle.ml_lists.specs.Ascending.{IsAscending}
use Rattle.ml_lists.specs.Documents.{Rule, Format, KeepsAll, IsFirstBroken, IsGood}

abbrev pub IsJudged : {Line : Type 0} → List (Rule Line) → Line → Type 0
IsJudged rules line = KeepsAll rules line ⊎ ((number : ℕ) × IsFirstBroken rules line number)

abbrev pub numbers : {Line : Type 0} → List (Rule Line) → List ℕ
numbers [] = []
numbers (first ∷ others) = first.number ∷ numbers others

module _ {Line Place : Type 0} (F : Format Line Place) where
  abbrev pub IsReadable : Place → List Line → Type 0
  IsReadable place [] = IsGood F place F.missing
  IsReadable place (line ∷ lines) = IsGood F place line × IsReadable (F.after place line) lines

  abbrev pub Judges : Type 0
  Judges = (place : Place) (line : Line) → IsJudged (F.rules place) line

  abbrev pub NumbersRise : Type 0
  NumbersRise = (place : Place) → IsAscending (numbers (F.rules place))

  abbrev pub Runs : Place → List Line → Place → Type 0
  Runs place [] behind = place ≡ behind
  Runs place (line ∷ lines) behind = IsGood F place line × Runs (F.after place line) lines behind

  pub data IsReadTo (k : ℕ) (place : Place) (lines : List Line) : ℕ → Place → List Line → Type 0 where
    nothing_read : IsReadTo k place lines k place lines
    line_read : (j : ℕ) (at : Place) (line : Line) (rest : List Line)
        → IsReadTo k place lines j at (line ∷ rest)
        → IsGood F at line
        → IsReadTo k place lines (j + 1) (F.after at line) rest
