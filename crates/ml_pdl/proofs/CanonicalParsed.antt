-- The canonical text of a well-formed formula is parsed as it.
--
--   canonical_accepted == the text keeps all limits
--   canonical_parsed  == that of a well-formed formula is parsed as it
--   canonical_one     == that of a formula with spelled names stands for it and for no other
use Rattle.std.proofs.Common.{false, [], arith}
use Rattle.ml_text.proofs.TableItems.{counted_items}
use Rattle.ml_text.specs.declared.token.WordStart.TheVariants.{AnyLetter}
use Rattle.ml_text.specs.Tokens.{tokens}
use Rattle.ml_text.specs.Refusals.{signs_of, IsAccepted}
use Rattle.ml_text.specs.Signs.{bracket_of}
use Rattle.ml_text.proofs.AcceptedTexts.{accepted}
use Rattle.ml_pdl.specs.Formula.{Formula}
use Rattle.ml_pdl.specs.Canonical.{canonical_text}
use Rattle.ml_pdl.specs.Grammar.{IsReadAs}
use Rattle.ml_pdl.specs.ParsingLaws.{CanonicalIsParsed, CanonicalStandsForOne}
use Rattle.ml_pdl.specs.Signs.{own}
use Rattle.ml_pdl.specs.Text.{pdl_signs, items}
use Rattle.ml_pdl.proofs.PdlGrammar.{one_formula}
use Rattle.ml_pdl.proofs.CanonicalTexts.{canonical_tokens, canonical_stands, sign_spelt, tokens_onto}
use Rattle.ml_pdl.proofs.Counting.{counts}
use Rattle.ml_pdl.specs.WellFormed.{IsWellFormed}
use Rattle.ml_pdl.proofs.CanonicalLimits.{few_open, tokens_short, token_bracket}

canonical_accepted : (f : Formula) → IsWellFormed f → IsAccepted IsReadAs (items (canonical_text f)) f
canonical_accepted f well =
    let text = canonical_text f in
    let read = canonical_stands f well.names_are_spelled in
    accepted pdl_signs IsReadAs text f (λ s. bracket_of own (sign_spelt s)) (tokens_onto f []) (record {
      tokens_are = canonical_tokens f well.names_are_spelled;
      brackets = token_bracket text;
      stands = read;
      few = omega (arith, counted_items pdl_signs text false (tokens AnyLetter text), counts read, well.is_small);
      flat = omega (arith, few_open f [], well.is_small);
      short = tokens_short f well.names_are_short [] tt;
    })

pub canonical_parsed : CanonicalIsParsed
canonical_parsed f well = canonical_accepted f well

-- a canonical text stands for its formula and for no other
pub canonical_one : CanonicalStandsForOne
canonical_one f g is =
    let stands = canonical_stands f is in
    (stands, λ other. one_formula (signs_of (items (canonical_text f))) g f other stands)
