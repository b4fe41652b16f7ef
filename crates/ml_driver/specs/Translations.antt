-- What `automaton` answers of the text of a formula of LTL.
--
-- What is written is the text of a Büchi automaton that accepts exactly the words that satisfy the formula; but if the
-- formula's word automaton has too many nodes, or has more places than the limit, that alone is said.
--
--   large_line               == the line for a formula whose word automaton has too many nodes
--   many_places_line n       == the line for one whose word automaton has more than n places
--   IsUntranslated f n out   == f is such a formula, and out is its line
--   IsRefusedFormula text out == out says why the text is refused, and at which byte
use Rattle.std.specs.Prelude.{ℕ, ◌≡◌, List, Some}
use Rattle.ml_base.specs.declared.parse_refusal.ParseRefusal.{ParseRefusal}
use Rattle.ml_ctl.specs.Formula.{Formula}
use Rattle.ml_ctl.specs.Parsing.{IsRefusedBy}
use Rattle.ml_ctl.specs.declared.language.Language.TheVariants.{Ltl}
use Rattle.ml_translate.specs.Translation.{HasTooManyPlaces, IsLarge, most_nodes}
use Rattle.ml_driver.specs.Said.{said_text}
use Rattle.ml_driver.specs.Statuses.{refusal_line}
use Rattle.ml_driver.specs.declared.said.Said.TheVariants.{Undecided}
use Rattle.ml_driver.specs.declared.said.Size.TheVariants.{Closure, Positions}

abbrev pub large_line : List ℕ
large_line = said_text (Undecided Closure most_nodes)

abbrev pub many_places_line : ℕ → List ℕ
many_places_line limit = said_text (Undecided Positions limit)

pub data IsUntranslated (f : Formula) (limit : ℕ) (out : List ℕ) : Type 0 where
  is_large : IsLarge f → out ≡ large_line → IsUntranslated f limit out
  has_many_places : HasTooManyPlaces f limit → out ≡ many_places_line limit → IsUntranslated f limit out

pub record IsRefusedFormula (text out : List ℕ) : Type 0 where
  pub refusal : ParseRefusal
  pub is_refused : IsRefusedBy Ltl text refusal
  pub is_written : Some out ≡ refusal_line refusal
