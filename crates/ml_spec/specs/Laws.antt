-- What holds of specification texts by their definitions alone.
--
--   KeepsLines   == a text has as many bytes without its comments, and its lines end at the same places
--   AreApart k is == no item of `is` begins before k, and each ends before the next one begins
--   ItemsApart   == the items of a text are apart, so what is found in one stands before all that is found in the next ones
--   SomeReading  == each text is a specification, or is refused
--   NeverBoth    == no text is both
--   OneSpecification == a text is one specification at most
--   AreSpecified == the items of each specification are of its logic, well formed, named, new and few
--   OneRefusal   == a text is refused at one line and column at most, and by one rule
use Rattle.std.specs.Prelude.{ℕ, ◌+◌, ◌≤◌, ◌≡◌, ◌⊎◌, ⊤, List, [], ◌∷◌, length, map}
use Rattle.ml_lines.specs.Reading.{is_line_end}
use Rattle.ml_spec.specs.Comments.{uncommented}
use Rattle.ml_front.specs.declared.logic.Logic.{Logic}
use Rattle.ml_spec.specs.Faults.{IsRefused}
use Rattle.ml_spec.specs.Items.{ItemText, items_of}
use Rattle.ml_spec.specs.Specification.{IsSpecification, IsSpecified}
use Rattle.ml_spec.specs.declared.rule.SpecRule.{SpecRule}
use Rattle.ml_spec.specs.declared.specification.Item.{Item}

abbrev pub KeepsLines : Type 0
KeepsLines = (text : List ℕ) → map is_line_end (uncommented text) ≡ map is_line_end text

abbrev pub AreApart : ℕ → List ItemText → Type 0
AreApart k [] = ⊤
AreApart k (i ∷ is) = (k ≤ i.at) × AreApart (i.at + length i.bytes + 1) is

abbrev pub ItemsApart : Type 0
ItemsApart = (text : List ℕ) → AreApart 0 (items_of text)

-- ---- specifications and refusals

abbrev pub SomeReading : Type 0
SomeReading = (text : List ℕ)
    → ((l : Logic) × (xs : List Item) × IsSpecification text l xs)
    ⊎ ((line : ℕ) × (column : ℕ) × (r : SpecRule) × IsRefused text line column r)

abbrev pub NeverBoth : Type 0
NeverBoth = (text : List ℕ) (l : Logic) (xs : List Item) (line column : ℕ) (r : SpecRule)
    → IsSpecification text l xs → IsRefused text line column r → ⊥

abbrev pub OneSpecification : Type 0
OneSpecification = (text : List ℕ) (l k : Logic) (xs ys : List Item)
    → IsSpecification text l xs → IsSpecification text k ys → (l ≡ k) × (xs ≡ ys)

abbrev pub OneRefusal : Type 0
OneRefusal = (text : List ℕ) (line column : ℕ) (r : SpecRule) (row place : ℕ) (s : SpecRule)
    → IsRefused text line column r → IsRefused text row place s → (line ≡ row) × (column ≡ place) × (r ≡ s)

-- ---- what holds of specifications

abbrev pub AreSpecified : Type 0
AreSpecified = (text : List ℕ) (l : Logic) (xs : List Item) → IsSpecification text l xs → IsSpecified l xs
