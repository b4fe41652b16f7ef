-- What a text counts is what its formula has.
--
--   count_signs b ts   == the occurrences that the signs count, where b says whether they stand directly behind `<` or `[`
--   counts, program_counts, tested_counts == what is read has as many occurrences as its signs count
--   few_names          == a formula has no more names than occurrences
use Rattle.std.proofs.Common.{◌≡◌, ℕ, ◌+◌, ◌≤◌, Bool, true, false, List, ◌∷◌, length, Some, refl, arith, length-append}
use Rattle.ml_text.specs.Levels.{Level}
use Rattle.ml_text.proofs.TableItems.{count_from}
use Rattle.ml_pdl.specs.Formula as plain
use Rattle.ml_pdl.specs.Formula.{Formula, Program, occurrences, program_occurrences}
use Rattle.ml_pdl.specs.FormulaNames.{names, program_names}
use Rattle.ml_text.specs.declared.named_signs.Sign.TheVariants.{Lower, Upper, Added}
use Rattle.ml_pdl.specs.Signs.{Sign, action_of}
use Rattle.ml_pdl.specs.declared.signs.Own.TheVariants.{Blank}
use Rattle.ml_pdl.specs.Grammar as grammar
use Rattle.ml_pdl.specs.Grammar.{Reads, alone, joined, negation, modal, modal_blank, repetition}
use Rattle.ml_pdl.specs.Grammar.{group, constant, proposition, ReadsProgram, alt_alone, alt, seq_alone, seq, star_alone, star, action, test}
use Rattle.ml_pdl.specs.Grammar.{program_group, ReadsTested, tested_negation, tested_constant, tested_proposition, tested_group}
use Rattle.ml_pdl.specs.Text.{pdl_signs}

abbrev pub count_signs : Bool → List Sign → ℕ
count_signs = count_from pdl_signs

-- the first sign of a program counts the same, wherever it stands
action_first : (a : List ℕ) (s : Sign) (ts : List Sign)
    → action_of s ≡ Some a
    → count_signs true (s ∷ ts) ≡ count_signs false (s ∷ ts)
action_first a (Added Blank) ts is = refl
action_first a (Lower b) ts is = refl
action_first a (Upper b) ts is = refl
action_first a _ ts is = absurd (cc)

mutual
  program_first : {l : grammar.ProgramLevel} {ts rest : List Sign} {p : Program}
      → ReadsProgram l ts p rest
      → count_signs true ts ≡ count_signs false ts
  program_first (alt_alone r) = program_first r
  program_first (alt a b) = program_first a
  program_first (seq_alone r) = program_first r
  program_first (seq a b) = program_first a
  program_first (star_alone r) = program_first r
  program_first (star r) = program_first r
  program_first (action {rest = rest} a s is) = action_first a s rest is
  program_first (test e r) = tested_first r
  program_first (program_group r) = refl

  tested_first : {ts rest : List Sign} {f : Formula}
      → ReadsTested ts f rest
      → count_signs true ts ≡ count_signs false ts
  tested_first (tested_negation r) = refl
  tested_first (tested_constant b) = refl
  tested_first (tested_proposition p) = refl
  tested_first (tested_group k r) = refl

-- an action counts one
action_counts : (a : List ℕ) (s : Sign) (ts : List Sign)
    → action_of s ≡ Some a
    → count_signs false (s ∷ ts) ≡ 1 + count_signs false ts
action_counts a (Added Blank) ts is = refl
action_counts a (Lower b) ts is = refl
action_counts a (Upper b) ts is = refl
action_counts a _ ts is = absurd (cc)

mutual
  pub counts : {l : Level} {ts rest : List Sign} {f : Formula}
      → Reads l ts f rest
      → count_signs false ts ≡ occurrences f + count_signs false rest
  counts (alone o r) = counts r
  counts (joined o a b) = let x = counts a in let y = counts b in omega (arith, x, y)
  counts (negation r) = let x = counts r in omega (arith, x)
  counts (modal m a b) = let x = program_counts a in let y = counts b in let z = program_first a in omega (arith, x, y, z)
  counts (modal_blank m r) = let x = counts r in omega (arith, x)
  counts (repetition k a) = let x = program_counts a in omega (arith, x)
  counts (group k r) = let x = counts r in omega (arith, x)
  counts (constant b) = omega arith
  counts (proposition p) = omega arith

  pub program_counts : {l : grammar.ProgramLevel} {ts rest : List Sign} {p : Program}
      → ReadsProgram l ts p rest
      → count_signs false ts ≡ program_occurrences p + count_signs false rest
  program_counts (alt_alone r) = program_counts r
  program_counts (alt a b) = let x = program_counts a in let y = program_counts b in omega (arith, x, y)
  program_counts (seq_alone r) = program_counts r
  program_counts (seq a b) = let x = program_counts a in let y = program_counts b in omega (arith, x, y)
  program_counts (star_alone r) = program_counts r
  program_counts (star r) = let x = program_counts r in omega (arith, x)
  program_counts (action {rest = rest} a s is) = action_counts a s rest is
  program_counts (test e r) = let x = tested_counts r in omega (arith, x)
  program_counts (program_group r) = let x = program_counts r in omega (arith, x)

  pub tested_counts : {ts rest : List Sign} {f : Formula}
      → ReadsTested ts f rest
      → count_signs false ts ≡ occurrences f + count_signs false rest
  tested_counts (tested_negation r) = let x = tested_counts r in omega (arith, x)
  tested_counts (tested_constant b) = omega arith
  tested_counts (tested_proposition p) = omega arith
  tested_counts (tested_group k r) = let x = counts r in omega (arith, x)

mutual
  pub few_names : (f : Formula) → length (names f) ≤ occurrences f
  few_names (plain.Const b) = omega arith
  few_names (plain.Prop p) = omega arith
  few_names (plain.Not f) = omega (arith, few_names f)
  few_names (plain.Binary op f g) = omega (arith, length-append (names f) (names g), few_names f, few_names g)
  few_names (plain.Modal m p f) =
      omega (arith, length-append (program_names p) (names f), program_few_names p, few_names f)
  few_names (plain.Repeat p) = omega (arith, program_few_names p)

  program_few_names : (p : Program) → length (program_names p) ≤ program_occurrences p
  program_few_names (plain.Act a) = omega arith
  program_few_names (plain.Seq p q) =
      omega (arith, length-append (program_names p) (program_names q), program_few_names p, program_few_names q)
  program_few_names (plain.Alt p q) =
      omega (arith, length-append (program_names p) (program_names q), program_few_names p, program_few_names q)
  program_few_names (plain.Star p) = omega (arith, program_few_names p)
  program_few_names (plain.Test f) = omega (arith, few_names f)
