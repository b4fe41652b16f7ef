-- Conjunctions of the mu-calculus whose parts are written in canonical form, without parentheses round the whole.
--
--   chain f gs      == f & g & .. of the formulas gs, grouped to the left
--   chain_text f gs == its text
--   IsPart g        == g is spelled, its names are short, and it has no variable that is at fault
--   chain_parsed    == where all are parts and the whole has few occurrences, the text is parsed as the chain
use Rattle.std.proofs.Common.{◌≡◌, ℕ, ◌+◌, ◌≤◌, true, false, List, [], ◌∷◌, ◌++◌, map, codes, refl, sym, ap, subst, ◌∙◌, arith}
use Rattle.std.specs.List.{AllByRecursion}
use Rattle.std.proofs.lemmas.Bool.{and_from}
use Rattle.ml_text.specs.declared.token.Operator.TheVariants as operator
use Rattle.ml_text.specs.declared.token.WordStart.TheVariants.{AnyLetter}
use Rattle.ml_text.specs.Levels.{Joined}
use Rattle.ml_text.specs.Tokens.{tokens}
use Rattle.ml_text.specs.Refusals.{signs_of}
use Rattle.ml_text.specs.Limits.{most_occurrences}
use Rattle.ml_text.specs.Signs.{bracket_of}
use Rattle.ml_text.proofs.AcceptedTexts.{accepted}
use Rattle.ml_text.proofs.LooserLevels.{raised, loosest}
use Rattle.ml_text.proofs.Pieces.{and_piece, ends_word}
use Rattle.ml_text.proofs.Scans.{Spelt, spelt_at, Scans, ends, scans_tokens}
use Rattle.ml_text.proofs.TableItems.{IsShort, counted_items, signs_spelt}
use Rattle.ml_mu.specs.Canonical.{canonical_text}
use Rattle.ml_text.specs.Names.{IsShortName}
use Rattle.ml_lists.proofs.AllOf.{all_both}
use Rattle.ml_text.proofs.Names.{spelled_both}
use Rattle.ml_mu.specs.Formula.{Formula, Binary, occurrences}
use Rattle.ml_mu.specs.FormulaNames.{names}
use Rattle.ml_mu.specs.Grammar.{IsReadAs, Reads, alone, joined}
use Rattle.ml_mu.specs.Parsing.{IsParsedAs}
use Rattle.ml_mu.specs.Signs.{Sign, own}
use Rattle.ml_mu.specs.Spelling.{HasShortNames, is_spelled}
use Rattle.ml_mu.specs.Text.{mu_signs, items}
use Rattle.ml_mu.specs.Variables.{is_bound, is_positive}
use Rattle.ml_mu.proofs.CanonicalLimits.{few_open, opens_of, tokens_short}
use Rattle.ml_mu.proofs.CanonicalTexts.{reads_formula, scans_formula, sign_spelt, tokens_onto}
use Rattle.ml_mu.proofs.Counting.{counts}
use Rattle.ml_mu.proofs.FaultFree.{well_fine}
use Rattle.ml_gen.proofs.Chains as chains
use Rattle.ml_gen.proofs.Chains.{and_sign}

abbrev pub chain : Formula → List Formula → Formula
chain = chains.chain (Binary operator.And)

abbrev pub more_text : List Formula → List ℕ
more_text [] = []
more_text (g ∷ gs) = codes " & " ++ (canonical_text g ++ more_text gs)

abbrev pub chain_text : Formula → List Formula → List ℕ
chain_text f gs = canonical_text f ++ more_text gs

pub record IsPart (f : Formula) : Type 0 where
  pub spelled : is_spelled f ≡ true
  pub short : HasShortNames f
  pub bound : is_bound [] f ≡ true
  pub positive : is_positive f ≡ true

both : (f g : Formula) → IsPart f → IsPart g → IsPart (Binary operator.And f g)
both f g p q = record {
  spelled = spelled_both own (names f) (names g) p.spelled q.spelled;
  short = all_both IsShortName (names f) (names g) p.short q.short;
  bound = and_from _ _ p.bound q.bound;
  positive = and_from _ _ p.positive q.positive;
}

chain_part : (gs : List Formula) (f : Formula) → IsPart f → AllByRecursion IsPart gs → IsPart (chain f gs)
chain_part [] f p all = p
chain_part (g ∷ gs) f p all = chain_part gs (Binary operator.And f g) (both f g p all.0) all.1

-- ---- the tokens

abbrev more_tokens : List Formula → List Spelt
more_tokens = chains.more_tokens tokens_onto

stops : (gs : List Formula) → ends_word (more_text gs) ≡ true
stops [] = refl
stops (g ∷ gs) = refl

scans_more : (gs : List Formula) → AllByRecursion IsPart gs → Scans AnyLetter (more_text gs) (more_tokens gs)
scans_more [] all = ends
scans_more (g ∷ gs) all =
    let rest = scans_formula g all.0.spelled (more_text gs) (more_tokens gs) (stops gs) (scans_more gs all.1) in
    and_piece AnyLetter (canonical_text g ++ more_text gs) (tokens_onto g (more_tokens gs)) rest

reads_more : (gs : List Formula)
    → AllByRecursion IsPart gs
    → (f : Formula) (ts : List Sign)
    → Reads (Joined operator.And) ts f (map sign_spelt (more_tokens gs))
    → Reads (Joined operator.And) ts (chain f gs) []
reads_more [] all f ts r = r
reads_more (g ∷ gs) all f ts r =
    reads_more gs all.1 (Binary operator.And f g) ts (joined operator.And r (reads_formula g all.0.spelled (more_tokens gs)))

short_part : (g : Formula) (ss : List Spelt) → IsPart g → AllByRecursion IsShort ss
    → AllByRecursion IsShort (tokens_onto g ss)
short_part g ss part short = tokens_short g part.short ss short

short_more : (gs : List Formula) → AllByRecursion IsPart gs → AllByRecursion IsShort (more_tokens gs)
short_more = chains.short_more tokens_onto IsPart short_part

few_part : (f g : Formula) (ss : List Spelt)
    → occurrences f + opens_of (and_sign ∷ tokens_onto g ss) ≤ occurrences (Binary operator.And f g) + opens_of ss
few_part f g ss = omega (arith, few_open g ss)

few_more : (gs : List Formula) (f : Formula) → occurrences f + opens_of (more_tokens gs) ≤ occurrences (chain f gs)
few_more = chains.few_more tokens_onto (Binary operator.And) occurrences opens_of refl few_part

-- ---- the text

module _ (f : Formula) (gs : List Formula) (part : IsPart f) (parts : AllByRecursion IsPart gs)
    (small : occurrences (chain f gs) ≤ most_occurrences) where
  abbrev text : List ℕ
  text = chain_text f gs

  abbrev spelt : List Spelt
  spelt = tokens_onto f (more_tokens gs)

  tokens_are : map (spelt_at text) (tokens AnyLetter text) ≡ spelt
  tokens_are =
      scans_tokens AnyLetter text spelt
      (scans_formula f part.spelled (more_text gs) (more_tokens gs) (stops gs) (scans_more gs parts))

  stands : IsReadAs (signs_of (items text)) (chain f gs)
  stands =
      let here = map sign_spelt spelt in
      let first =
      raised (λ l. Reads l here f (map sign_spelt (more_tokens gs))) alone operator.And
      (reads_formula f part.spelled (more_tokens gs))
      in
      let all = reads_more gs parts f here first in
      subst (λ ts. IsReadAs ts (chain f gs)) (sym (signs_spelt mu_signs sign_spelt text (λ p. refl) false (tokens AnyLetter text)
      ∙ ap (map sign_spelt) tokens_are))
      (loosest (λ l. Reads l here (chain f gs) []) alone operator.And all)

  pub chain_parsed : IsParsedAs (chain_text f gs) (chain f gs)
  chain_parsed =
      let whole = chain_part gs f part parts in
      record {
        accepted = accepted mu_signs IsReadAs text (chain f gs) (λ s. bracket_of own (sign_spelt s)) spelt (record {
          tokens_are = tokens_are;
          brackets = λ p. refl;
          stands = stands;
          few = omega (arith, counted_items mu_signs text false (tokens AnyLetter text), counts stands, small);
          flat = omega (arith, few_open f (more_tokens gs), few_more gs f, small);
          short = tokens_short f part.short (more_tokens gs) (short_more gs parts);
        });
        fine = well_fine (chain f gs) whole.bound whole.positive;
      }
