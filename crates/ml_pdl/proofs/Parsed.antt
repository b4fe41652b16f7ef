-- From what the reader found to what `parse` answers.
--
--   comes_of         == what comes of a text is right by the tables of PDL
--   found_parsed     == a text of which a tree is found is parsed as the formula that the tree is
--   comes_first      == a cause that is found is the first
--   refused_first    == a refusal comes first
--   parsed_well      == what is parsed is well formed
--   found_well       == so is what was found
use Rattle.std.proofs.Common.{◌≡◌, ℕ, false, List, length, subst, arith}
use Rattle.ml_text.proofs.TableItems.{counted_items}
use Rattle.ml_base.specs.declared.parse_refusal.ParseRefusal.{ParseRefusal}
use Rattle.ml_text.specs.declared.token.WordStart.TheVariants.{AnyLetter}
use Rattle.ml_text.specs.Grammar.{StandsFor}
use Rattle.ml_text.specs.Tokens.{tokens}
use Rattle.ml_text.specs.Refusals.{Cause, TooMany, ComesFirst}
use Rattle.ml_text.specs.private.Reading.{Outcome, Found, Refused, text_outcome}
use Rattle.ml_text.specs.private.Progress.{IsRefusal}
use Rattle.ml_text.proofs.Exact.{IsOutcome, exact, few_items}
use Rattle.ml_text.proofs.SameTexts.{refused_same}
use Rattle.ml_text.proofs.OneAnswer as answer
use Rattle.ml_pdl.specs.Formula.{Formula}
use Rattle.ml_pdl.specs.Grammar.{IsReadAs}
use Rattle.ml_pdl.specs.Parsing.{IsParsedAs, IsRefusedBy}
use Rattle.ml_pdl.specs.Tables.{Phrase, formula_of, pdl_grammar}
use Rattle.ml_pdl.specs.Text.{pdl_signs, items}
use Rattle.ml_pdl.specs.WellFormed.{IsWellFormed}
use Rattle.ml_pdl.proofs.Counting.{counts}
use Rattle.ml_pdl.proofs.Refusals.{pdl_fits, pdl_same, accepted}
use Rattle.ml_pdl.proofs.ReadNames.{text_short, text_spelled}

abbrev pub pdl_outcome : List ℕ → Outcome Phrase
pdl_outcome text = text_outcome pdl_grammar (length text) (items text)

abbrev IsRight : List ℕ → Outcome Phrase → Type 0
IsRight text out = IsOutcome pdl_grammar (StandsFor pdl_grammar) (items text) (length text) out

pub comes_of : (text : List ℕ)
    → IsOutcome pdl_grammar (StandsFor pdl_grammar) (items text) (length text) (pdl_outcome text)
comes_of text = exact pdl_grammar (StandsFor pdl_grammar) pdl_fits (items text) (length text)

pub found_parsed : (text : List ℕ) (v : Phrase) → pdl_outcome text ≡ Found v → IsParsedAs text (formula_of v)
found_parsed text v is = accepted (items text) v (subst (IsRight text) is (comes_of text))

pub comes_first : (text : List ℕ) (c : Cause) (at : ℕ)
    → pdl_outcome text ≡ Refused c at
    → ComesFirst IsReadAs (items text) (length text) c at
comes_first text c at is =
    let first : IsRight text (Refused c at) = subst (IsRight text) is (comes_of text) in
    (first.0, refused_same (StandsFor pdl_grammar) IsReadAs pdl_same (items text) c first.0 first.1, first.2)

pub refused_first : (text : List ℕ) (e : ParseRefusal) → IsRefusal e (pdl_outcome text) → IsRefusedBy text e
refused_first text e = answer.refused_first IsReadAs (items text) (length text) (pdl_outcome text) (comes_first text) e

pub parsed_well : (text : List ℕ) (f : Formula) → IsParsedAs text f → IsWellFormed f
parsed_well text f parsed =
    let few = few_items (items text) (λ k fault. parsed.keeps TooMany k fault) in
    let same = counted_items pdl_signs text false (tokens AnyLetter text) in
    let has = counts parsed.stands in
    record {
      is_small = omega (arith, few, same, has);
      names_are_short = text_short text f parsed;
      names_are_spelled = text_spelled text f parsed;
    }

pub found_well : (text : List ℕ) (v : Phrase) → pdl_outcome text ≡ Found v → IsWellFormed (formula_of v)
found_well text v is = parsed_well text (formula_of v) (found_parsed text v is)
