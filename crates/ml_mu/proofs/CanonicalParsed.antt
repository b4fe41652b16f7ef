-- The canonical text of a well-formed formula is parsed as it.
--
--   canonical_accepted == the text keeps all limits
--   canonical_parsed  == that of a well-formed formula is parsed as it
use Rattle.std.proofs.Common.{false, [], refl, arith}
use Rattle.ml_text.proofs.TableItems.{counted_items}
use Rattle.ml_text.specs.declared.token.WordStart.TheVariants.{AnyLetter}
use Rattle.ml_text.specs.Tokens.{tokens}
use Rattle.ml_text.specs.Refusals.{IsAccepted}
use Rattle.ml_text.specs.Signs.{bracket_of}
use Rattle.ml_text.proofs.AcceptedTexts.{accepted}
use Rattle.ml_mu.specs.Formula.{Formula}
use Rattle.ml_mu.specs.Canonical.{canonical_text}
use Rattle.ml_mu.specs.Grammar.{IsReadAs}
use Rattle.ml_mu.specs.ParsingLaws.{CanonicalIsParsed}
use Rattle.ml_mu.specs.Signs.{own}
use Rattle.ml_mu.specs.Text.{mu_signs, items}
use Rattle.ml_mu.proofs.CanonicalTexts.{canonical_tokens, canonical_stands, sign_spelt, tokens_onto}
use Rattle.ml_mu.proofs.Counting.{counts}
use Rattle.ml_mu.specs.WellFormed.{IsWellFormed}
use Rattle.ml_mu.proofs.CanonicalLimits.{few_open, tokens_short}
use Rattle.ml_mu.proofs.FaultFree.{well_fine}

canonical_accepted : (f : Formula) → IsWellFormed f → IsAccepted IsReadAs (items (canonical_text f)) f
canonical_accepted f well =
    let text = canonical_text f in
    let read = canonical_stands f well.names_are_spelled in
    accepted mu_signs IsReadAs text f (λ s. bracket_of own (sign_spelt s)) (tokens_onto f []) (record {
      tokens_are = canonical_tokens f well.names_are_spelled;
      brackets = λ p. refl;
      stands = read;
      few = omega (arith, counted_items mu_signs text false (tokens AnyLetter text), counts read, well.is_small);
      flat = omega (arith, few_open f [], well.is_small);
      short = tokens_short f well.names_are_short [] tt;
    })

pub canonical_parsed : CanonicalIsParsed
canonical_parsed f well = record {
  accepted = canonical_accepted f well;
  fine = well_fine f well.variables_are_bound well.variables_are_positive;
}
