-- Texts of PDL with one action that is done again and again, written without parentheses: `a;a;..`.
--
--   acts k          == the program of the action a, done k times more
--   acts_text k after, acts_tokens k ss == what is written of these k times, in front of what stands behind
--   step_formula k, step_text k == `<a;a;..>p & [a*]!p`, with k times more
--   loop_formula k, loop_text k == `repeat(a;a;..)`, with k times more
--   step_parsed, loop_parsed    == where k is at most 400, the text is parsed as the formula
use Rattle.std.proofs.Common.{◌≡◌, ℕ, zero, suc, ◌+◌, ◌*◌, ◌≤◌, true, false, List, [], ◌∷◌, ◌++◌, map, codes, refl, sym, ap, subst, ◌∙◌, arith}
use Rattle.std.specs.List.{AllByRecursion}
use Rattle.ml_text.specs.declared.token.Operator.TheVariants as operator
use Rattle.ml_text.specs.declared.token.Token.TheVariants as token
use Rattle.ml_text.specs.declared.token.WordStart.TheVariants.{AnyLetter}
use Rattle.ml_text.specs.Levels.{Operand}
use Rattle.ml_text.specs.Tokens.{tokens}
use Rattle.ml_text.specs.Words.{constant_of}
use Rattle.ml_text.specs.Refusals.{signs_of}
use Rattle.ml_text.specs.Limits.{most_occurrences}
use Rattle.ml_text.specs.Signs.{bracket_of, word_sign}
use Rattle.ml_text.proofs.AcceptedTexts.{accepted}
use Rattle.ml_text.proofs.Pieces.{lone, lone_piece, less_piece, and_piece, ends_word, word_piece}
use Rattle.ml_text.proofs.Scans.{Spelt, spelt_at, Scans, ends, scans_tokens}
use Rattle.ml_text.proofs.TableItems.{IsShort, counted_items}
use Rattle.ml_pdl.specs.Canonical.{canonical_text}
use Rattle.ml_pdl.specs.Formula as plain
use Rattle.ml_pdl.specs.Formula.{Formula, Program, Seq, Star, occurrences, program_occurrences}
use Rattle.ml_pdl.specs.declared.term.Modality.TheVariants.{Diamond, Square}
use Rattle.ml_pdl.specs.Grammar as grammar
use Rattle.ml_pdl.specs.Grammar.{IsReadAs, Reads, ReadsProgram, alt_alone, seq, seq_alone, modal, repetition}
use Rattle.ml_pdl.specs.Marks.{asks, is_test_behind, mark_of, with_mark}
use Rattle.ml_pdl.specs.MarkLaws.{marked}
use Rattle.ml_pdl.specs.Parsing.{IsParsedAs}
use Rattle.ml_pdl.specs.Signs.{Sign, own}
use Rattle.ml_text.specs.declared.named_signs.Sign.TheVariants.{Added}
use Rattle.ml_pdl.specs.declared.signs.Own.TheVariants.{Paren, Repeats}
use Rattle.ml_pdl.specs.Text.{pdl_signs, items}
use Rattle.ml_pdl.proofs.CanonicalLimits.{opens_of, token_bracket, few_open, program_few, program_short, tokens_short}
use Rattle.ml_pdl.proofs.CanonicalTexts.{operand_read, operands_read, plain_signs, program_onto, reads_formula, reads_program, scans_formula, scans_program, sign_spelt, signs_with_marks, tokens_onto, plain_spelt}
use Rattle.ml_pdl.proofs.Counting.{counts}
use Rattle.ml_pdl.proofs.MarkedTexts.{marks_are_of_texts}
use Rattle.ml_gen.specs.Formulas.{act}

-- a program, and then the action so many times
abbrev pub more_acts : ℕ → Program → Program
more_acts zero p = p
more_acts (suc k) p = more_acts k (Seq p act)

abbrev pub acts : ℕ → Program
acts k = more_acts k act

abbrev pub more_text : ℕ → List ℕ → List ℕ
more_text zero after = after
more_text (suc k) after = codes ";a" ++ more_text k after

abbrev more_tokens : ℕ → List Spelt → List Spelt
more_tokens zero ss = ss
more_tokens (suc k) ss = lone 59 ∷ program_onto act (more_tokens k ss)

-- ---- sequences

stops : (k : ℕ) (after : List ℕ) → ends_word after ≡ true → ends_word (more_text k after) ≡ true
stops zero after end = end
stops (suc k) after end = refl

scans_acts : (k : ℕ) (after : List ℕ) (ss : List Spelt)
    → ends_word after ≡ true
    → Scans AnyLetter after ss
    → Scans AnyLetter (codes "a" ++ more_text k after) (program_onto act (more_tokens k ss))
scans_acts zero after ss end r = scans_program act refl after ss end r
scans_acts (suc k) after ss end r =
    let rest = codes "a" ++ more_text k after in
    let toks = program_onto act (more_tokens k ss) in
    let sign = lone_piece AnyLetter 59 rest toks refl (scans_acts k after ss end r) in
    scans_program act refl (59 ∷ rest) (lone 59 ∷ toks) refl sign

-- no `?` stands behind the action
no_test : (k : ℕ) (ss : List Spelt) → asks (plain_signs ss) ≡ false → asks (plain_signs (more_tokens k ss)) ≡ false
no_test zero ss none = none
no_test (suc k) ss none = refl

reads_more : (k : ℕ) (p : Program) (ts : List Sign) (ss : List Spelt)
    → asks (plain_signs ss) ≡ false
    → ReadsProgram grammar.Seq ts p (signs_with_marks (more_tokens k ss))
    → ReadsProgram grammar.Seq ts (more_acts k p) (signs_with_marks ss)
reads_more zero p ts ss none r = r
reads_more (suc k) p ts ss none r =
    reads_more k (Seq p act) ts ss none (seq r (reads_program act refl (more_tokens k ss) (no_test k ss none)))

reads_acts : (k : ℕ) (ss : List Spelt)
    → asks (plain_signs ss) ≡ false
    → ReadsProgram grammar.Prog (signs_with_marks (program_onto act (more_tokens k ss))) (acts k) (signs_with_marks ss)
reads_acts k ss none =
    let first = seq_alone (reads_program act refl (more_tokens k ss) (no_test k ss none)) in
    alt_alone (reads_more k act (signs_with_marks (program_onto act (more_tokens k ss))) ss none first)

short_acts : (k : ℕ) (ss : List Spelt)
    → AllByRecursion IsShort ss
    → AllByRecursion IsShort (program_onto act (more_tokens k ss))
short_acts zero ss all = program_short act (omega arith, tt) ss all
short_acts (suc k) ss all =
    program_short act (omega arith, tt) (more_tokens (suc k) ss) (refl, short_acts k ss all)

few_acts : (k : ℕ) (ss : List Spelt) → opens_of (program_onto act (more_tokens k ss)) ≤ k + 1 + opens_of ss
few_acts zero ss = omega (arith, program_few act ss)
few_acts (suc k) ss = omega (arith, program_few act (more_tokens (suc k) ss), few_acts k ss)

more_count : (k : ℕ) (p : Program) → program_occurrences (more_acts k p) ≡ program_occurrences p + 2 * k
more_count zero p = omega arith
more_count (suc k) p = omega (arith, more_count k (Seq p act))

-- ---- texts, by their tokens

module _ (text : List ℕ) (spelt : List Spelt) (f : Formula) (scans : Scans AnyLetter text spelt)
    (reads : IsReadAs (signs_with_marks spelt) f) (small : occurrences f ≤ most_occurrences)
    (short : AllByRecursion IsShort spelt) (flat : opens_of spelt ≤ most_occurrences) where
  tokens_are : map (spelt_at text) (tokens AnyLetter text) ≡ spelt
  tokens_are = scans_tokens AnyLetter text spelt scans

  stands : IsReadAs (signs_of (items text)) f
  stands =
      let signs_are : signs_of (items text) ≡ signs_with_marks spelt =
      marks_are_of_texts text ∙ ap marked (plain_spelt text (tokens AnyLetter text) ∙ ap plain_signs tokens_are) in
      subst (λ ts. IsReadAs ts f) (sym signs_are) reads

  spelt_parsed : IsParsedAs text f
  spelt_parsed =
      accepted pdl_signs IsReadAs text f (λ s. bracket_of own (sign_spelt s)) spelt (record {
        tokens_are = tokens_are;
        brackets = token_bracket text;
        stands = stands;
        few = omega (arith, counted_items pdl_signs text false (tokens AnyLetter text), counts stands, small);
        flat = omega (arith, flat);
        short = short;
      })

-- ---- `<a;a;..>p & [a*]!p`

abbrev pub prop : Formula
prop = plain.Prop (codes "p")

abbrev pub box : Formula
box = plain.Modal Square (Star act) (plain.Not prop)

abbrev pub step_formula : ℕ → Formula
step_formula k = plain.Binary operator.And (plain.Modal Diamond (acts k) prop) box

abbrev pub step_text : ℕ → List ℕ
step_text k = codes "<a" ++ more_text k (codes ">p & [a*]!p")

abbrev step_end : List Spelt
step_end = lone 62 ∷ tokens_onto prop ((token.Operator operator.And, codes "&") ∷ tokens_onto box [])

abbrev step_spelt : ℕ → List Spelt
step_spelt k = lone 60 ∷ program_onto act (more_tokens k step_end)

scans_end : Scans AnyLetter (codes ">p & [a*]!p") step_end
scans_end =
    let last = scans_formula box refl [] [] refl ends in
    let and_last = and_piece AnyLetter (canonical_text box) (tokens_onto box []) last in
    let first = scans_formula prop refl (codes " & [a*]!p") ((token.Operator operator.And, codes "&") ∷ tokens_onto box []) refl and_last in
    lone_piece AnyLetter 62 (codes "p & [a*]!p") (tokens_onto prop ((token.Operator operator.And, codes "&") ∷ tokens_onto box [])) refl
    first

scans_step : (k : ℕ) → Scans AnyLetter (step_text k) (step_spelt k)
scans_step k =
    let inside = scans_acts k (codes ">p & [a*]!p") step_end refl scans_end in
    less_piece AnyLetter 97 (more_text k (codes ">p & [a*]!p")) (program_onto act (more_tokens k step_end)) refl refl inside

reads_step : (k : ℕ) → IsReadAs (signs_with_marks (step_spelt k)) (step_formula k)
reads_step k =
    let last = reads_formula box refl [] in
    let first = reads_formula prop refl ((token.Operator operator.And, codes "&") ∷ tokens_onto box []) in
    operands_read operator.And (modal Diamond (reads_acts k step_end refl) first) last

pub step_parsed : (k : ℕ) → k ≤ 400 → IsParsedAs (step_text k) (step_formula k)
step_parsed k few =
    let end_short = tokens_short prop (omega arith, tt) ((token.Operator operator.And, codes "&") ∷ tokens_onto box [])
    (refl, tokens_short box (omega arith, (omega arith, tt)) [] tt) in
    let end_few = few_open prop ((token.Operator operator.And, codes "&") ∷ tokens_onto box []) in
    spelt_parsed (step_text k) (step_spelt k) (step_formula k) (scans_step k) (reads_step k)
    (omega (arith, more_count k act, few)) (refl, short_acts k step_end (refl, end_short))
    (omega (arith, few_acts k step_end, end_few, few_open box [], few))

-- ---- `repeat(a;a;..)`

abbrev pub loop_formula : ℕ → Formula
loop_formula k = plain.Repeat (acts k)

abbrev pub loop_text : ℕ → List ℕ
loop_text k = codes "repeat(a" ++ more_text k (codes ")")

abbrev loop_spelt : ℕ → List Spelt
loop_spelt k = (token.Word, codes "repeat") ∷ lone 40 ∷ program_onto act (more_tokens k (lone 41 ∷ []))

scans_loop : (k : ℕ) → Scans AnyLetter (loop_text k) (loop_spelt k)
scans_loop k =
    let close = lone_piece AnyLetter 41 [] [] refl ends in
    let inside = scans_acts k (codes ")") (lone 41 ∷ []) refl close in
    let rest = codes "a" ++ more_text k (codes ")") in
    let toks = program_onto act (more_tokens k (lone 41 ∷ [])) in
    word_piece AnyLetter (codes "repeat") (40 ∷ rest) (lone 40 ∷ toks) refl refl
    (lone_piece AnyLetter 40 rest toks refl inside)

repeat_sign : word_sign own (codes "repeat") ≡ Added Repeats
unfolding constant_of
repeat_sign = refl

reads_loop : (k : ℕ) → IsReadAs (signs_with_marks (loop_spelt k)) (loop_formula k)
reads_loop k =
    let toks = program_onto act (more_tokens k (lone 41 ∷ [])) in
    let b = is_test_behind 0 (plain_signs toks) in
    operand_read
    (subst
    (λ t. Reads Operand
    (with_mark (is_test_behind 0 (plain_signs (lone 40 ∷ toks))) t ∷ Added (Paren (mark_of b)) ∷ signs_with_marks toks)
    (loop_formula k) [])
    (sym repeat_sign) (repetition (mark_of b) (reads_acts k (lone 41 ∷ []) refl)))

closed_repeat : opens_of ((token.Word, codes "repeat") ∷ []) ≡ 0
unfolding constant_of
closed_repeat = refl

pub loop_parsed : (k : ℕ) → k ≤ 400 → IsParsedAs (loop_text k) (loop_formula k)
loop_parsed k few =
    spelt_parsed (loop_text k) (loop_spelt k) (loop_formula k) (scans_loop k) (reads_loop k)
    (omega (arith, more_count k act, few)) (refl, (refl, short_acts k (lone 41 ∷ []) (refl, tt)))
    (omega (arith, closed_repeat, few_acts k (lone 41 ∷ []), few))
