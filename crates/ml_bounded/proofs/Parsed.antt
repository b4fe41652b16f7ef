-- From what the reader found to what is answered.
--
--   found_parsed     == a text of which a formula is found is parsed as it
--   comes_first      == a cause that is found is the first
--   refused_first    == a refusal comes first
--   parsed_well      == what is parsed is well formed
--   found_well       == so is what was found
use Rattle.std.proofs.Common.{◌≡◌, ℕ, List, length, subst, arith}
use Rattle.ml_text.proofs.TableItems.{counted_items}
use Rattle.ml_base.specs.declared.parse_refusal.ParseRefusal.{ParseRefusal}
use Rattle.ml_text.specs.declared.token.WordStart.TheVariants.{LowerCase}
use Rattle.ml_text.specs.Tokens.{tokens}
use Rattle.ml_text.specs.Refusals.{Cause, TooMany, ComesFirst}
use Rattle.ml_text.specs.private.Reading.{Outcome, Found, Refused, text_outcome}
use Rattle.ml_text.specs.private.Progress.{IsRefusal}
use Rattle.ml_text.proofs.Exact.{IsOutcome, exact, few_items}
use Rattle.ml_text.proofs.OneAnswer as answer
use Rattle.ml_bounded.specs.Formula.{Formula}
use Rattle.ml_bounded.specs.Grammar.{IsReadAs}
use Rattle.ml_bounded.specs.Parsing.{IsParsedAs, IsRefusedBy}
use Rattle.ml_bounded.specs.Text.{bounded_signs, items}
use Rattle.ml_bounded.specs.WellFormed.{IsWellFormed}
use Rattle.ml_bounded.specs.private.Tables.{bounded_grammar}
use Rattle.ml_bounded.proofs.Counting.{counts}
use Rattle.ml_bounded.proofs.BoundedGrammar.{bounded_fits}
use Rattle.ml_bounded.proofs.ReadNames.{text_short, text_spelled}

abbrev pub bounded_outcome : List ℕ → Outcome Formula
bounded_outcome text = text_outcome bounded_grammar (length text) (items text)

abbrev IsRight : List ℕ → Outcome Formula → Type 0
IsRight text out = IsOutcome bounded_grammar IsReadAs (items text) (length text) out

comes_of : (text : List ℕ) → IsRight text (bounded_outcome text)
comes_of text = exact bounded_grammar IsReadAs bounded_fits (items text) (length text)

pub found_parsed : (text : List ℕ) (f : Formula) → bounded_outcome text ≡ Found f → IsParsedAs text f
found_parsed text f is = subst (IsRight text) is (comes_of text)

pub comes_first : (text : List ℕ) (c : Cause) (at : ℕ)
    → bounded_outcome text ≡ Refused c at
    → ComesFirst IsReadAs (items text) (length text) c at
comes_first text c at is = subst (IsRight text) is (comes_of text)

pub refused_first : (text : List ℕ) (e : ParseRefusal) → IsRefusal e (bounded_outcome text) → IsRefusedBy text e
refused_first text e = answer.refused_first IsReadAs (items text) (length text) (bounded_outcome text) (comes_first text) e

pub parsed_well : (text : List ℕ) (f : Formula) → IsParsedAs text f → IsWellFormed f
parsed_well text f parsed =
    let few = few_items (items text) (λ k fault. parsed.keeps TooMany k fault) in
    let same = counted_items bounded_signs text tt (tokens LowerCase text) in
    let has = counts parsed.stands in
    record {
      is_small = omega (arith, few, same, has);
      names_are_short = text_short text f parsed;
      names_are_spelled = text_spelled text f parsed;
    }

pub found_well : (text : List ℕ) (f : Formula) → bounded_outcome text ≡ Found f → IsWellFormed f
found_well text f is = parsed_well text f (found_parsed text f is)
