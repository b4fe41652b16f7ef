-- PDL: the words of the signs that begin in lower case are the names of the formula that do.
--
--   pdl_told, program_told, tested_told == so of what is read from signs
use Rattle.std.proofs.Common.{◌≡◌, ℕ, List, [], ◌∷◌, ◌++◌, Some, codes, refl, sym, ap, subst}
use Rattle.ml_text.specs.Levels.{Level}
use Rattle.ml_text.specs.Names.{Action, Proposition}
use Rattle.ml_text.specs.declared.named_signs.Sign.TheVariants.{Added}
use Rattle.ml_pdl.specs.Formula.{Formula, Program}
use Rattle.ml_pdl.specs.FormulaNames.{names, program_names}
use Rattle.ml_pdl.specs.Grammar as grammar
use Rattle.ml_pdl.specs.Grammar.{Reads, alone, joined, negation, modal, modal_blank, repetition, group, constant, proposition}
use Rattle.ml_pdl.specs.Grammar.{ReadsProgram, alt_alone, alt, seq_alone, seq, star_alone, star, action, test, program_group}
use Rattle.ml_pdl.specs.Grammar.{ReadsTested, tested_negation, tested_constant, tested_proposition, tested_group}
use Rattle.ml_pdl.specs.Signs.{Sign, action_of}
use Rattle.ml_pdl.specs.declared.signs.Own.TheVariants.{Blank}
use Rattle.ml_written.proofs.LowerNames.{All, Starts, Tells, both_told, lower_of, lower_one, lower_words, named_told, word_before}

action_told : (s : Sign) (a : List ℕ) (ws : List (List ℕ))
    → action_of s ≡ Some a
    → Starts s
    → word_before s ws ≡ lower_of ((Action, a) ∷ []) ++ ws
action_told (Added Blank) a ws is starts =
    let same : codes "_" ≡ a = cc in subst (λ b. ws ≡ lower_of ((Action, b) ∷ []) ++ ws) same refl
action_told s a ws is starts = named_told Action s a ws is starts

mutual
  pub pdl_told : {l : Level} {ts rest : List Sign} {f : Formula} → Reads l ts f rest → All ts → Tells (names f) ts rest
  pdl_told (alone o r) is = pdl_told r is
  pdl_told (joined {ts = ts} {us = us} {rest = rest} {f = f} {g = g} o a b) is =
      let x = pdl_told a is in both_told (names f) (names g) ts us rest x.0 (pdl_told b (x.1).1)
  pdl_told (negation r) is = pdl_told r is.1
  pdl_told (modal {ts = ts} {us = us} {rest = rest} {p = p} {f = f} m a b) is =
      let x = program_told a is.1 in both_told (program_names p) (names f) ts us rest x.0 (pdl_told b (x.1).1)
  pdl_told (modal_blank m r) is = pdl_told r (is.1).1
  pdl_told (repetition k a) is = let x = program_told a (is.1).1 in (x.0, (x.1).1)
  pdl_told (group k r) is = let x = pdl_told r is.1 in (x.0, (x.1).1)
  pdl_told (constant b) is = (refl, is.1)
  pdl_told (proposition {rest = rest} p) is =
      (ap (λ l. l ++ lower_words rest) (sym (lower_one Proposition p [] is.0)), is.1)

  program_told : {l : grammar.ProgramLevel} {ts rest : List Sign} {p : Program}
      → ReadsProgram l ts p rest
      → All ts
      → Tells (program_names p) ts rest
  program_told (alt_alone r) is = program_told r is
  program_told (alt {ts = ts} {us = us} {rest = rest} {p = p} {q = q} a b) is =
      let x = program_told a is in both_told (program_names p) (program_names q) ts us rest x.0 (program_told b (x.1).1)
  program_told (seq_alone r) is = program_told r is
  program_told (seq {ts = ts} {us = us} {rest = rest} {p = p} {q = q} a b) is =
      let x = program_told a is in both_told (program_names p) (program_names q) ts us rest x.0 (program_told b (x.1).1)
  program_told (star_alone r) is = program_told r is
  program_told (star r) is = let x = program_told r is in (x.0, (x.1).1)
  program_told (action {rest = rest} a s e) is = (action_told s a (lower_words rest) e is.0, is.1)
  program_told (test e r) is = let x = tested_told r is in (x.0, (x.1).1)
  program_told (program_group r) is = let x = program_told r is.1 in (x.0, (x.1).1)

  tested_told : {ts rest : List Sign} {f : Formula} → ReadsTested ts f rest → All ts → Tells (names f) ts rest
  tested_told (tested_negation r) is = tested_told r is.1
  tested_told (tested_constant b) is = (refl, is.1)
  tested_told (tested_proposition {rest = rest} p) is =
      (ap (λ l. l ++ lower_words rest) (sym (lower_one Proposition p [] is.0)), is.1)
  tested_told (tested_group k r) is = let x = pdl_told r is.1 in (x.0, (x.1).1)
