-- Documents: lines that are read one by one, each of which keeps the rules of its place.
--
-- What stands at a line follows from the lines before it; this is the line's place. A format has the rules of each
-- place in their order, and the place behind a line. A document may end at a place exactly where the line that stands
-- for a missing one keeps the rules there: so that something has to follow, and that nothing may, are rules as any
-- others. What is left behind a document that goes on is free where its last place has no rules. What a line is, is no
-- matter of this theory.
--
--   Rule Line                  == a number, and which lines keep the rule
--   rule n Keeps               == the rule of this number
--   Format Line Place          == the rules of each place in their order, the place behind a line, and the line that
--                                 stands for a missing one
--   KeepsAll rs l              == the line l keeps each of the rules rs
--   IsFirstBroken rs l r       == r is the number of the first of the rules rs that the line l breaks
--   IsGood F p l               == l is good at the place p: it keeps the rules there
--   IsFirstBad F k p ls b r    == of the lines ls, the first of which stands at p and has the number k, the line b is the
--                                 first bad one, and r is the number of the first rule that it breaks
use Rattle.std.specs.Prelude.{ℕ, ◌+◌, ◌≡◌, ◌⊎◌, ⊤, List, [], ◌∷◌}

pub record Rule (Line : Type 0) : Type 1 where
  pub number : ℕ
  pub Keeps : Line → Type 0

abbrev pub rule : {Line : Type 0} → ℕ → (Line → Type 0) → Rule Line
rule n keeps = record { number = n; Keeps = keeps }

pub record Format (Line Place : Type 0) : Type 1 where
  pub rules : Place → List (Rule Line)
  pub after : Place → Line → Place
  pub missing : Line

abbrev pub KeepsAll : {Line : Type 0} → List (Rule Line) → Line → Type 0
KeepsAll [] line = ⊤
KeepsAll (first ∷ others) line = first.Keeps line × KeepsAll others line

abbrev pub IsFirstBroken : {Line : Type 0} → List (Rule Line) → Line → ℕ → Type 0
IsFirstBroken [] line number = ⊥
IsFirstBroken (first ∷ others) line number =
    ((number ≡ first.number) × (¬ (first.Keeps line))) ⊎ (first.Keeps line × IsFirstBroken others line number)

module _ {Line Place : Type 0} (F : Format Line Place) where
  abbrev pub IsGood : Place → Line → Type 0
  IsGood place line = KeepsAll (F.rules place) line

  abbrev pub IsFirstBad : ℕ → Place → List Line → ℕ → ℕ → Type 0
  IsFirstBad k place [] bad number = (bad ≡ k) × IsFirstBroken (F.rules place) F.missing number
  IsFirstBad k place (line ∷ lines) bad number =
      ((bad ≡ k) × IsFirstBroken (F.rules place) line number)
      ⊎ (IsGood place line × IsFirstBad (k + 1) (F.after place line) lines bad number)
