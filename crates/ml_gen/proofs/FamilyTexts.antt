-- The text of each family is parsed as its formula, and as no other.
--
--   are_parsed    == each is parsed as its formula
--   parsed_as_one == and as no other
use Rattle.std.proofs.Common.{◌≡◌, ℕ, zero, suc, ◌+◌, ◌*◌, ◌<◌, ◌≤◌, true, nat_le, List, [], ◌∷◌, ◌++◌, map, codes, refl, sym, ap, subst, ◌∙◌, append_assoc, arith}
use Rattle.std.specs.Cmp.{first_so, second_so}
use Rattle.std.specs.List.{flat_map, list_all, range_with_len}
use Rattle.std.proofs.lemmas.Bool.{and_from, leb-true}
use Rattle.ml_lines.specs.Lines.{number}
use Rattle.ml_text.specs.declared.token.Operator.TheVariants as operator
use Rattle.ml_text.specs.Bytes.{is_word_byte}
use Rattle.ml_text.specs.Limits.{most_occurrences}
use Rattle.ml_mu.specs.Canonical.{canonical_text}
use Rattle.ml_mu.specs.Formula as mu
use Rattle.ml_mu.specs.Parsing as mu_parsing
use Rattle.ml_mu.proofs.OneAnswer as mu_answer
use Rattle.ml_pdl.specs.Formula as pdl
use Rattle.ml_pdl.specs.declared.term.Modality.TheVariants as modality
use Rattle.ml_pdl.specs.Parsing as pdl_parsing
use Rattle.ml_pdl.proofs.OneAnswer as pdl_answer
use Rattle.ml_ctl.specs.Formula as ltl
use Rattle.ml_ctl.specs.declared.language.Language.TheVariants as language
use Rattle.ml_ctl.proofs.OneAnswer as ctl_answer
use Rattle.ml_ctl.specs.Parsing as ltl_parsing
use Rattle.ml_gen.specs.Families.{part}
use Rattle.ml_gen.specs.FamilyRanges.{greatest, is_in_range}
use Rattle.ml_gen.specs.Formulas.{act, acts, and_formula, and_part, fair_formula, fair_part, loop_formula, or_formula, or_part, step_formula}
use Rattle.ml_gen.specs.Parsed.{AreParsed, ParsedAsOne}
use Rattle.ml_gen.specs.declared.family.Family.{Family}
use Rattle.ml_gen.specs.declared.family.Family.TheVariants.{And, Or, Step, Fair, Loop}
use Rattle.ml_gen.proofs.Joined.{onto, onto_joined}
use Rattle.ml_gen.proofs.LtlChains as ltl_chains
use Rattle.ml_gen.proofs.MuChains as mu_chains
use Rattle.ml_gen.proofs.NumberedNames.{in_range, name_bytes, number_short}
use Rattle.ml_gen.proofs.PdlSequences as pdl_sequences

range_parts : (family : Family) (n : ℕ) → is_in_range family n ≡ true → (1 ≤ n) × (n ≤ greatest family)
range_parts family n is = (
  leb-true 1 n (first_so (nat_le 1 n) (nat_le n (greatest family)) is),
  leb-true n (greatest family) (second_so (nat_le 1 n) (nat_le n (greatest family)) is),
)

-- ---- conjunctions of the mu-calculus

and_is_part : (i : ℕ) → i ≤ 500 → mu_chains.IsPart (and_part i)
and_is_part i low = record {
  spelled = and_from _ true (and_from (list_all is_word_byte (number i)) true (name_bytes i (omega arith)) refl) refl;
  short = (omega (arith, number_short i low), tt);
  bound = refl;
  positive = refl;
}

or_is_part : (i : ℕ) → i ≤ 500 → mu_chains.IsPart (or_part i)
or_is_part i low =
    let named = and_from (list_all is_word_byte (number i)) true (name_bytes i (omega arith)) refl in
    record {
      spelled = and_from _ _ named (and_from _ true named refl);
      short = (omega (arith, number_short i low), (omega (arith, number_short i low), tt));
      bound = refl;
      positive = refl;
    }

and_count : (k a : ℕ) (f : mu.Formula)
    → mu.occurrences (mu_chains.chain f (map and_part (range_with_len a k))) ≡ mu.occurrences f + 2 * k
and_count zero a f = omega arith
and_count (suc k) a f = omega (arith, and_count k (a + 1) (mu.Binary operator.And f (and_part a)))

or_count : (k a : ℕ) (f : mu.Formula)
    → mu.occurrences (mu_chains.chain f (map or_part (range_with_len a k))) ≡ mu.occurrences f + 4 * k
or_count zero a f = omega arith
or_count (suc k) a f = omega (arith, or_count k (a + 1) (mu.Binary operator.And f (or_part a)))

and_text : (k a : ℕ)
    → mu_chains.more_text (map and_part (range_with_len a k)) ≡ flat_map (λ i. codes " & " ++ part And i) (range_with_len a k)
and_text zero a = refl
and_text (suc k) a = ap (λ rest. codes " & p" ++ (number a ++ rest)) (and_text k (a + 1))

-- the part for a number that is written so
abbrev or_bytes : List ℕ → List ℕ
or_bytes w = 40 ∷ 112 ∷ (w ++ (32 ∷ 124 ∷ 32 ∷ 113 ∷ (w ++ (41 ∷ []))))

between : (a sp b : List ℕ)
    → codes "(" ++ a ++ codes " " ++ sp ++ codes " " ++ b ++ codes ")"
    ≡ 40 ∷ (a ++ (codes " " ++ (sp ++ (codes " " ++ (b ++ codes ")")))))
between a sp b = simp append_assoc

or_canonical : (i : ℕ) → canonical_text (or_part i) ≡ or_bytes (number i)
or_canonical i = between (codes "p" ++ number i) (codes "|") (codes "q" ++ number i)

or_written : (i : ℕ) → part Or i ≡ or_bytes (number i)
or_written i = or_same (number i)
  where
    or_same : (w : List ℕ) → codes "(p" ++ w ++ codes " | q" ++ w ++ codes ")" ≡ or_bytes w
    or_same w = simp append_assoc

or_text : (k a : ℕ)
    → mu_chains.more_text (map or_part (range_with_len a k)) ≡ flat_map (λ i. codes " & " ++ part Or i) (range_with_len a k)
or_text zero a = refl
or_text (suc k) a =
    ap (λ bytes. codes " & " ++ (bytes ++ mu_chains.more_text (map or_part (range_with_len (a + 1) k))))
    (or_canonical a ∙ sym (or_written a))
    ∙ ap (λ rest. codes " & " ++ (part Or a ++ rest)) (or_text k (a + 1))

-- ---- actions

acts_text : (k a : ℕ) (after : List ℕ)
    → flat_map (λ i. codes ";" ++ codes "a") (range_with_len a k) ++ after ≡ pdl_sequences.more_text k after
acts_text zero a after = refl
acts_text (suc k) a after = ap (λ rest. codes ";a" ++ rest) (acts_text k (a + 1) after)

-- ---- conjunctions of LTL

fair_is_part : (i : ℕ) → i ≤ 500 → ltl_chains.IsPart (fair_part i)
fair_is_part i low = record {
  spelled = and_from _ true (and_from (list_all is_word_byte (number i)) true (name_bytes i (omega arith)) refl) refl;
  short = (omega (arith, number_short i low), tt);
  stands = refl;
}

fair_count : (k a : ℕ) (f : ltl.Formula)
    → ltl.occurrences (ltl_chains.chain f (map fair_part (range_with_len a k))) ≡ ltl.occurrences f + 4 * k
fair_count zero a f = omega arith
fair_count (suc k) a f = omega (arith, fair_count k (a + 1) (ltl.Binary operator.And f (fair_part a)))

fair_text : (k a : ℕ)
    → ltl_chains.more_text (map fair_part (range_with_len a k)) ≡ flat_map (λ i. codes " & " ++ part Fair i) (range_with_len a k)
fair_text zero a = refl
fair_text (suc k) a =
    ap (λ rest. codes " & (G F p" ++ (number a ++ (codes ")" ++ rest))) (fair_text k (a + 1))
    ∙ ap (λ bytes. codes " & (G F p" ++ bytes)
    (sym (append_assoc (number a) (codes ")") (flat_map (λ i. codes " & " ++ part Fair i) (range_with_len (a + 1) k))))

fair_first : (w rest : List ℕ)
    → (codes "(G F p" ++ w ++ codes ")") ++ rest ≡ codes "(G F p" ++ (w ++ (codes ")" ++ rest))
fair_first w rest = simp append_assoc

-- ---- all families

mu_onto : (part_at : ℕ → mu.Formula) (k a : ℕ) (f : mu.Formula)
    → mu_chains.chain f (map part_at (range_with_len a k)) ≡ onto (mu.Binary operator.And) part_at k a f
mu_onto part_at zero a f = refl
mu_onto part_at (suc k) a f = mu_onto part_at k (a + 1) (mu.Binary operator.And f (part_at a))

ltl_onto : (part_at : ℕ → ltl.Formula) (k a : ℕ) (f : ltl.Formula)
    → ltl_chains.chain f (map part_at (range_with_len a k)) ≡ onto (ltl.Binary operator.And) part_at k a f
ltl_onto part_at zero a f = refl
ltl_onto part_at (suc k) a f = ltl_onto part_at k (a + 1) (ltl.Binary operator.And f (part_at a))

acts_onto : (k a : ℕ) (p : pdl.Program) → pdl_sequences.more_acts k p ≡ onto pdl.Seq (λ i. act) k a p
acts_onto zero a p = refl
acts_onto (suc k) a p = acts_onto k (a + 1) (pdl.Seq p act)

acts_joined : (k : ℕ) → pdl_sequences.acts k ≡ acts (suc k)
acts_joined k = acts_onto k 2 act ∙ onto_joined pdl.Seq (λ i. act) k

pub are_parsed : AreParsed
are_parsed And zero is = absurd (omega (arith, (range_parts And zero is).0))
are_parsed And (suc k) is =
    let low = (range_parts And (suc k) is).1 in
    let gs = map and_part (range_with_len 2 k) in
    let all = in_range mu_chains.IsPart and_part and_is_part k 2 (omega (arith, low)) in
    let small : mu.occurrences (mu_chains.chain (and_part 1) gs) ≤ most_occurrences = omega (arith, and_count k 2 (and_part 1), low) in
    subst (λ more. mu_parsing.IsParsedAs (part And 1 ++ more) (and_formula (suc k))) (and_text k 2)
    (subst (mu_parsing.IsParsedAs (mu_chains.chain_text (and_part 1) gs))
    (mu_onto and_part k 2 (and_part 1) ∙ onto_joined (mu.Binary operator.And) and_part k)
    (mu_chains.chain_parsed (and_part 1) gs (and_is_part 1 (omega arith)) all small))
are_parsed Or zero is = absurd (omega (arith, (range_parts Or zero is).0))
are_parsed Or (suc k) is =
    let low = (range_parts Or (suc k) is).1 in
    let gs = map or_part (range_with_len 2 k) in
    let all = in_range mu_chains.IsPart or_part or_is_part k 2 (omega (arith, low)) in
    let small : mu.occurrences (mu_chains.chain (or_part 1) gs) ≤ most_occurrences = omega (arith, or_count k 2 (or_part 1), low) in
    let more = flat_map (λ i. codes " & " ++ part Or i) (range_with_len 2 k) in
    subst (λ first. mu_parsing.IsParsedAs (first ++ more) (or_formula (suc k))) (or_canonical 1 ∙ sym (or_written 1))
    (subst (λ rest. mu_parsing.IsParsedAs (canonical_text (or_part 1) ++ rest) (or_formula (suc k))) (or_text k 2)
    (subst (mu_parsing.IsParsedAs (mu_chains.chain_text (or_part 1) gs))
    (mu_onto or_part k 2 (or_part 1) ∙ onto_joined (mu.Binary operator.And) or_part k)
    (mu_chains.chain_parsed (or_part 1) gs (or_is_part 1 (omega arith)) all small)))
are_parsed Step zero is = absurd (omega (arith, (range_parts Step zero is).0))
are_parsed Step (suc k) is =
    let low = (range_parts Step (suc k) is).1 in
    subst (λ more. pdl_parsing.IsParsedAs (codes "<a" ++ more) (step_formula (suc k)))
    (sym (acts_text k 2 (codes ">p & [a*]!p")))
    (subst (λ p. pdl_parsing.IsParsedAs (pdl_sequences.step_text k) (step_of p)) (acts_joined k)
    (pdl_sequences.step_parsed k (omega (arith, low))))
  where
    step_of : pdl.Program → pdl.Formula
    step_of p = pdl.Binary operator.And (pdl.Modal modality.Diamond p pdl_sequences.prop) pdl_sequences.box
are_parsed Fair zero is = absurd (omega (arith, (range_parts Fair zero is).0))
are_parsed Fair (suc k) is =
    let low = (range_parts Fair (suc k) is).1 in
    let gs = map fair_part (range_with_len 2 k) in
    let all = in_range ltl_chains.IsPart fair_part fair_is_part k 2 (omega (arith, low)) in
    let small : ltl.occurrences (ltl_chains.chain (fair_part 1) gs) < most_occurrences = omega (arith, fair_count k 2 (fair_part 1), low) in
    let rest = flat_map (λ i. codes " & " ++ part Fair i) (range_with_len 2 k) in
    subst (λ text. ltl_parsing.IsParsedAs language.Ltl text (fair_formula (suc k)))
    (ap (λ more. codes "(G F p" ++ (number 1 ++ (codes ")" ++ more))) (fair_text k 2) ∙ sym (fair_first (number 1) rest))
    (subst (ltl_parsing.IsParsedAs language.Ltl (ltl_chains.chain_text (fair_part 1) gs))
    (ltl_onto fair_part k 2 (fair_part 1) ∙ onto_joined (ltl.Binary operator.And) fair_part k)
    (ltl_chains.chain_parsed (fair_part 1) gs (fair_is_part 1 (omega arith)) all small))
are_parsed Loop zero is = absurd (omega (arith, (range_parts Loop zero is).0))
are_parsed Loop (suc k) is =
    let low = (range_parts Loop (suc k) is).1 in
    subst (λ more. pdl_parsing.IsParsedAs (codes "repeat(a" ++ more) (loop_formula (suc k))) (sym (acts_text k 2 (codes ")")))
    (subst (λ p. pdl_parsing.IsParsedAs (pdl_sequences.loop_text k) (pdl.Repeat p)) (acts_joined k)
    (pdl_sequences.loop_parsed k (omega (arith, low))))

pub parsed_as_one : ParsedAsOne
parsed_as_one And n is = λ f parsed. mu_answer.one_answer.parsed _ f (and_formula n) parsed (are_parsed And n is)
parsed_as_one Or n is = λ f parsed. mu_answer.one_answer.parsed _ f (or_formula n) parsed (are_parsed Or n is)
parsed_as_one Step n is = λ f parsed. pdl_answer.one_answer.parsed _ f (step_formula n) parsed (are_parsed Step n is)
parsed_as_one Fair n is =
    λ f parsed. (ctl_answer.one_answer language.Ltl).parsed _ f (fair_formula n) parsed (are_parsed Fair n is)
parsed_as_one Loop n is = λ f parsed. pdl_answer.one_answer.parsed _ f (loop_formula n) parsed (are_parsed Loop n is)
