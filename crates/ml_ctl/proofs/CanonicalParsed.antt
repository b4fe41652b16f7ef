-- Canonical texts are parsed.
--
--   canonical_parsed  == the canonical text of a well-formed formula is parsed as it
--   canonical_one     == that of a formula with spelled names stands for it and for no other
use Rattle.std.proofs.Common.{[], refl, arith}
use Rattle.ml_text.proofs.TableItems.{counted_items}
use Rattle.ml_text.specs.declared.token.WordStart.TheVariants.{LowerCase}
use Rattle.ml_text.specs.Tokens.{tokens}
use Rattle.ml_text.specs.Refusals.{signs_of}
use Rattle.ml_text.specs.Signs.{bracket_of}
use Rattle.ml_text.proofs.AcceptedTexts.{accepted}
use Rattle.ml_ctl.specs.Canonical.{canonical_text}
use Rattle.ml_ctl.specs.Grammar.{IsReadAs}
use Rattle.ml_ctl.specs.ParsingLaws.{CanonicalIsParsed, CanonicalStandsForOne}
use Rattle.ml_ctl.specs.Signs.{own}
use Rattle.ml_ctl.specs.Text.{ctl_signs, items}
use Rattle.ml_ctl.proofs.CanonicalLimits.{few_open, tokens_short}
use Rattle.ml_ctl.proofs.CanonicalTexts.{canonical_tokens, canonical_stands, sign_spelt, tokens_onto}
use Rattle.ml_ctl.proofs.Counting.{counts}
use Rattle.ml_ctl.proofs.CtlGrammar.{one_formula}

pub canonical_parsed : CanonicalIsParsed
canonical_parsed w f well =
    let text = canonical_text f in
    let read = canonical_stands w f well.names_are_spelled well.is_of_logic in
    accepted ctl_signs (IsReadAs w) text f (λ s. bracket_of own (sign_spelt s)) (tokens_onto f []) (record {
      tokens_are = canonical_tokens f well.names_are_spelled;
      brackets = λ p. refl;
      stands = read;
      few = omega (arith, counted_items ctl_signs text tt (tokens LowerCase text), counts read, well.is_small);
      flat = omega (arith, few_open f [], well.is_small);
      short = tokens_short f well.names_are_short [] tt;
    })

pub canonical_one : CanonicalStandsForOne
canonical_one w f g is stand =
    let stands = canonical_stands w f is stand in
    (stands, λ other. one_formula w (signs_of (items (canonical_text f))) g f other stands)
