-- Conjunctions of LTL whose parts are written in canonical form between parentheses, without parentheses round the whole.
--
--   chain f gs      == f & g & .. of the formulas gs, grouped to the left
--   chain_text f gs == its text
--   IsPart g        == g is a spelled formula of LTL whose names are short
--   chain_parsed    == where all are parts and the whole has few occurrences, the text is parsed as the chain
use Rattle.std.proofs.Common.{◌≡◌, ℕ, ◌+◌, ◌<◌, ◌≤◌, true, List, [], ◌∷◌, ◌++◌, map, codes, refl, sym, ap, subst, ◌∙◌, arith}
use Rattle.std.specs.List.{AllByRecursion}
use Rattle.ml_text.specs.declared.token.Operator.TheVariants as operator
use Rattle.ml_text.specs.declared.token.WordStart.TheVariants.{LowerCase}
use Rattle.ml_text.specs.Levels.{Joined, Tight}
use Rattle.ml_text.specs.Tokens.{tokens}
use Rattle.ml_text.specs.Refusals.{signs_of}
use Rattle.ml_text.specs.Limits.{most_occurrences}
use Rattle.ml_text.specs.Signs.{bracket_of}
use Rattle.ml_text.proofs.AcceptedTexts.{accepted}
use Rattle.ml_text.proofs.LooserLevels.{raised, loosest}
use Rattle.ml_text.proofs.Pieces.{lone, lone_piece, and_piece}
use Rattle.ml_text.proofs.Scans.{Spelt, spelt_at, Scans, ends, scans_tokens}
use Rattle.ml_text.proofs.TableItems.{IsShort, counted_items, signs_spelt}
use Rattle.ml_ctl.specs.Canonical.{canonical_text}
use Rattle.ml_ctl.specs.Formula.{Formula, Binary, occurrences}
use Rattle.ml_ctl.specs.declared.language.Language.TheVariants.{Ltl}
use Rattle.ml_ctl.specs.Grammar.{IsReadAs, Reads, alone, joined, pair_alone, group}
use Rattle.ml_ctl.specs.declared.language.Sort.TheVariants.{Path}
use Rattle.ml_ctl.specs.Signs.{Sign, own}
use Rattle.ml_ctl.specs.Spelling.{HasShortNames, is_spelled}
use Rattle.ml_ctl.specs.Text.{ctl_signs, items}
use Rattle.ml_ctl.proofs.CanonicalLimits.{few_open, opens_of, tokens_short}
use Rattle.ml_ctl.proofs.CanonicalTexts.{as_text, reads_formula, scans_formula, sign_spelt, tokens_onto}
use Rattle.ml_ctl.proofs.Counting.{counts}
use Rattle.ml_ctl.proofs.Sorts.{fits}
use Rattle.ml_ctl.specs.Parsing.{IsParsedAs}
use Rattle.ml_gen.proofs.Chains as chains
use Rattle.ml_gen.proofs.Chains.{and_sign}

abbrev pub chain : Formula → List Formula → Formula
chain = chains.chain (Binary operator.And)

abbrev pub more_text : List Formula → List ℕ
more_text [] = []
more_text (g ∷ gs) = codes " & (" ++ (canonical_text g ++ (codes ")" ++ more_text gs))

abbrev pub chain_text : Formula → List Formula → List ℕ
chain_text f gs = codes "(" ++ (canonical_text f ++ (codes ")" ++ more_text gs))

pub record IsPart (f : Formula) : Type 0 where
  pub spelled : is_spelled f ≡ true
  pub short : HasShortNames f
  pub stands : fits Ltl Path f ≡ true

-- ---- the tokens

abbrev grouped : Formula → List Spelt → List Spelt
grouped f ss = lone 40 ∷ tokens_onto f (lone 41 ∷ ss)

abbrev more_tokens : List Formula → List Spelt
more_tokens = chains.more_tokens grouped

scans_grouped : (f : Formula) → IsPart f → (rest : List ℕ) (ss : List Spelt)
    → Scans LowerCase rest ss
    → Scans LowerCase (codes "(" ++ (canonical_text f ++ (codes ")" ++ rest))) (grouped f ss)
scans_grouped f part rest ss r =
    let close = lone_piece LowerCase 41 rest ss refl r in
    let inside = scans_formula f part.spelled (41 ∷ rest) (lone 41 ∷ ss) refl close in
    lone_piece LowerCase 40 (canonical_text f ++ (41 ∷ rest)) (tokens_onto f (lone 41 ∷ ss)) refl inside

scans_more : (gs : List Formula) → AllByRecursion IsPart gs → Scans LowerCase (more_text gs) (more_tokens gs)
scans_more [] all = ends
scans_more (g ∷ gs) all =
    let rest = scans_grouped g all.0 (more_text gs) (more_tokens gs) (scans_more gs all.1) in
    and_piece LowerCase (codes "(" ++ (canonical_text g ++ (codes ")" ++ more_text gs))) (grouped g (more_tokens gs)) rest

reads_grouped : (f : Formula) → IsPart f → (ss : List Spelt)
    → Reads Ltl Path Tight (map sign_spelt (grouped f ss)) f (map sign_spelt ss)
reads_grouped f part ss =
    group (as_text (pair_alone (reads_formula Ltl Path f part.spelled part.stands (lone 41 ∷ ss))))

reads_more : (gs : List Formula)
    → AllByRecursion IsPart gs
    → (f : Formula) (ts : List Sign)
    → Reads Ltl Path (Joined operator.And) ts f (map sign_spelt (more_tokens gs))
    → Reads Ltl Path (Joined operator.And) ts (chain f gs) []
reads_more [] all f ts r = r
reads_more (g ∷ gs) all f ts r =
    reads_more gs all.1 (Binary operator.And f g) ts (joined operator.And r (pair_alone (reads_grouped g all.0 (more_tokens gs))))

short_part : (g : Formula) (ss : List Spelt) → IsPart g → AllByRecursion IsShort ss
    → AllByRecursion IsShort (grouped g ss)
short_part g ss part short = (refl, tokens_short g part.short (lone 41 ∷ ss) (refl, short))

short_more : (gs : List Formula) → AllByRecursion IsPart gs → AllByRecursion IsShort (more_tokens gs)
short_more = chains.short_more grouped IsPart short_part

-- a part opens one parenthesis more than its canonical text
few_part : (f g : Formula) (ss : List Spelt)
    → occurrences f + opens_of (and_sign ∷ grouped g ss) ≤ occurrences (Binary operator.And f g) + opens_of ss
few_part f g ss = omega (arith, few_open g (lone 41 ∷ ss))

few_more : (gs : List Formula) (f : Formula) → occurrences f + opens_of (more_tokens gs) ≤ occurrences (chain f gs)
few_more = chains.few_more grouped (Binary operator.And) occurrences opens_of refl few_part

-- ---- the text

module _ (f : Formula) (gs : List Formula) (part : IsPart f) (parts : AllByRecursion IsPart gs)
    (small : occurrences (chain f gs) < most_occurrences) where
  abbrev text : List ℕ
  text = chain_text f gs

  abbrev spelt : List Spelt
  spelt = grouped f (more_tokens gs)

  tokens_are : map (spelt_at text) (tokens LowerCase text) ≡ spelt
  tokens_are =
      scans_tokens LowerCase text spelt (scans_grouped f part (more_text gs) (more_tokens gs) (scans_more gs parts))

  stands : IsReadAs Ltl (signs_of (items text)) (chain f gs)
  stands =
      let here = map sign_spelt spelt in
      let first =
      raised (λ l. Reads Ltl Path l here f (map sign_spelt (more_tokens gs))) alone operator.And
      (pair_alone (reads_grouped f part (more_tokens gs)))
      in
      let all = reads_more gs parts f here first in
      subst (λ ts. IsReadAs Ltl ts (chain f gs)) (sym (signs_spelt ctl_signs sign_spelt text (λ p. refl) tt (tokens LowerCase text)
      ∙ ap (map sign_spelt) tokens_are))
      (loosest (λ l. Reads Ltl Path l here (chain f gs) []) alone operator.And all)

  pub chain_parsed : IsParsedAs Ltl (chain_text f gs) (chain f gs)
  chain_parsed =
      let behind = lone 41 ∷ more_tokens gs in
      accepted ctl_signs (IsReadAs Ltl) text (chain f gs) (λ s. bracket_of own (sign_spelt s)) spelt (record {
        tokens_are = tokens_are;
        brackets = λ p. refl;
        stands = stands;
        few = omega (arith, counted_items ctl_signs text tt (tokens LowerCase text), counts stands, small);
        flat = omega (arith, few_open f behind, few_more gs f, small);
        short = (refl, tokens_short f part.short behind (refl, short_more gs parts));
      })
