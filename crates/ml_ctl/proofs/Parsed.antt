-- From what the reader found to what is answered.
--
--   comes_of         == what comes of a text is right by the grammar of the logic
--   found_parsed     == a text of which a formula is found is parsed as it
--   comes_first      == a cause that is found is the first
--   refused_first    == a refusal comes first
--   parsed_well      == what is parsed is well formed
--   found_well       == so is what was found
use Rattle.std.proofs.Common.{◌≡◌, ℕ, List, length, subst, arith}
use Rattle.ml_text.proofs.TableItems.{counted_items}
use Rattle.ml_base.specs.declared.parse_refusal.ParseRefusal.{ParseRefusal}
use Rattle.ml_text.specs.declared.token.WordStart.TheVariants.{LowerCase}
use Rattle.ml_text.specs.Tokens.{tokens}
use Rattle.ml_text.specs.Refusals.{Cause, TooMany, ComesFirst}
use Rattle.ml_text.specs.private.Reading.{Outcome, Found, Refused, text_outcome}
use Rattle.ml_text.specs.private.Progress.{IsRefusal}
use Rattle.ml_text.proofs.Exact.{IsOutcome, exact, few_items}
use Rattle.ml_text.proofs.OneAnswer as answer
use Rattle.ml_ctl.specs.Formula.{Formula}
use Rattle.ml_ctl.specs.declared.language.Language.{Language}
use Rattle.ml_ctl.specs.Grammar.{IsReadAs}
use Rattle.ml_ctl.specs.Parsing.{IsParsedAs, IsRefusedBy}
use Rattle.ml_ctl.specs.ParsingLaws.{ParsedAreWellFormed}
use Rattle.ml_ctl.specs.Text.{ctl_signs, items}
use Rattle.ml_ctl.specs.WellFormed.{IsWellFormed}
use Rattle.ml_ctl.specs.private.Tables.{ctl_grammar}
use Rattle.ml_ctl.proofs.Counting.{counts}
use Rattle.ml_ctl.proofs.CtlGrammar.{ctl_fits}
use Rattle.ml_ctl.proofs.ReadNames.{text_short, text_spelled}
use Rattle.ml_ctl.proofs.Sorts.{reads_fits, fits_is_of}

abbrev pub ctl_outcome : Language → List ℕ → Outcome Formula
ctl_outcome w text = text_outcome (ctl_grammar w) (length text) (items text)

abbrev IsRight : Language → List ℕ → Outcome Formula → Type 0
IsRight w text out = IsOutcome (ctl_grammar w) (IsReadAs w) (items text) (length text) out

pub comes_of : (w : Language) (text : List ℕ)
    → IsOutcome (ctl_grammar w) (IsReadAs w) (items text) (length text) (ctl_outcome w text)
comes_of w text = exact (ctl_grammar w) (IsReadAs w) (ctl_fits w) (items text) (length text)

pub found_parsed : (w : Language) (text : List ℕ) (f : Formula) → ctl_outcome w text ≡ Found f → IsParsedAs w text f
found_parsed w text f is = subst (IsRight w text) is (comes_of w text)

pub comes_first : (w : Language) (text : List ℕ) (c : Cause) (at : ℕ)
    → ctl_outcome w text ≡ Refused c at
    → ComesFirst (IsReadAs w) (items text) (length text) c at
comes_first w text c at is = subst (IsRight w text) is (comes_of w text)

pub refused_first : (w : Language) (text : List ℕ) (e : ParseRefusal)
    → IsRefusal e (ctl_outcome w text)
    → IsRefusedBy w text e
refused_first w text e = answer.refused_first (IsReadAs w) (items text) (length text) (ctl_outcome w text) (comes_first w text) e

pub parsed_well : ParsedAreWellFormed
parsed_well w text f parsed =
    let few = few_items (items text) (λ k fault. parsed.keeps TooMany k fault) in
    let same = counted_items ctl_signs text tt (tokens LowerCase text) in
    let has = counts parsed.stands in
    record {
      is_small = omega (arith, few, same, has);
      names_are_short = text_short w text f parsed;
      names_are_spelled = text_spelled w text f parsed;
      is_of_logic = fits_is_of w f (reads_fits parsed.stands);
    }

pub found_well : (w : Language) (text : List ℕ) (f : Formula) → ctl_outcome w text ≡ Found f → IsWellFormed w f
found_well w text f is = parsed_well w text f (found_parsed w text f is)
