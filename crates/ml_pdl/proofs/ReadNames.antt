-- The names of a formula that is read are those of its signs, each as what it stands there.
--
--   spelled_mark, short_mark == a mark has no name
--   reads_names, program_reads_names, tested_reads_names == what holds of the names of signs, and of the action `_`, holds of
--                    the names of what is read from them
--   text_spelled  == the names of a formula that a text stands for are spelled as they must be
--   text_short    == and they are short, where the text has no long names
use Rattle.std.proofs.Common.{◌≡◌, ℕ, Bool, ◌-◌, true, false, List, ◌++◌, Some, codes, refl, subst, arith}
use Rattle.std.specs.List.{AllByRecursion}
use Rattle.ml_text.specs.declared.token.WordStart.TheVariants.{AnyLetter}
use Rattle.ml_text.specs.Tokens.{tokens}
use Rattle.ml_text.specs.Refusals.{NameTooLong, IsAccepted}
use Rattle.ml_text.specs.Items.{bytes_of}
use Rattle.ml_text.specs.Levels.{Level}
use Rattle.ml_text.specs.Names.{Action, KindedName, IsShortName}
use Rattle.ml_text.specs.SignKinds.{HasShortName}
use Rattle.ml_text.specs.declared.named_signs.Sign.TheVariants.{Open, Lower, Upper, Added}
use Rattle.ml_text.proofs.Cover.{are_tokens}
use Rattle.ml_text.proofs.NamedSigns.{IsSpelledSign, short_name, spelled_sign}
use Rattle.ml_lists.proofs.AllOf.{all_both}
use Rattle.ml_text.proofs.Names.{Bears, IsSpelledName, bears_short, bears_spelled, spelled_all}
use Rattle.ml_text.proofs.TableItems.{signs_all, signs_short}
use Rattle.ml_pdl.specs.Formula.{Formula, Program}
use Rattle.ml_pdl.specs.FormulaNames.{names, program_names}
use Rattle.ml_pdl.specs.Grammar as grammar
use Rattle.ml_pdl.specs.Grammar.{IsReadAs, Reads, alone, joined, negation, modal, modal_blank}
use Rattle.ml_pdl.specs.Grammar.{repetition, group, constant, proposition, ReadsProgram, alt_alone, alt, seq_alone, seq, star_alone, star, action}
use Rattle.ml_pdl.specs.Grammar.{test, program_group, ReadsTested, tested_negation, tested_constant, tested_proposition, tested_group}
use Rattle.ml_pdl.specs.Signs.{Sign, action_of, own}
use Rattle.ml_pdl.specs.declared.signs.Own.TheVariants.{Blank}
use Rattle.ml_pdl.specs.Marks.{is_test_behind, with_mark}
use Rattle.ml_pdl.specs.Spelling.{HasShortNames, is_spelled}
use Rattle.ml_pdl.specs.Text.{pdl_signs, items, sign_at, sign_by, signs_behind}

-- a mark has no name
pub spelled_mark : (b : Bool) (s : Sign) → IsSpelledSign own s → IsSpelledSign own (with_mark b s)
spelled_mark b Open is = tt
spelled_mark b (Lower p) is = is
spelled_mark b (Upper p) is = is
spelled_mark b _ is = tt

pub short_mark : (b : Bool) (s : Sign) → HasShortName s → HasShortName (with_mark b s)
short_mark b Open is = tt
short_mark b (Lower p) is = is
short_mark b (Upper p) is = is
short_mark b _ is = tt

-- ---- what holds of the names of signs

module _ (P : KindedName → Type 0) (any : P (Action, codes "_")) where
  abbrev All : List Sign → Type 0
  All ts = AllByRecursion (Bears P) ts

  read_action : (s : Sign) (a : List ℕ) → action_of s ≡ Some a → Bears P s → P (Action, a)
  read_action (Added Blank) a is bears = let same : codes "_" ≡ a = cc in subst (λ b. P (Action, b)) same any
  read_action (Lower b) a is bears = let same : b ≡ a = cc in subst (λ b. P (Action, b)) same bears.1
  read_action (Upper b) a is bears = let same : b ≡ a = cc in subst (λ b. P (Action, b)) same bears.1
  read_action _ a is bears = absurd (cc)

  abbrev Keep : List KindedName → List Sign → Type 0
  Keep xs rest = AllByRecursion P xs × All rest

  both : (xs ys : List KindedName) (rest : List Sign) → AllByRecursion P xs → Keep ys rest → Keep (xs ++ ys) rest
  both xs ys rest left right = (all_both P xs ys left right.0, right.1)

  mutual
    pub reads_names : {l : Level} {ts rest : List Sign} {f : Formula}
        → Reads l ts f rest
        → All ts
        → Keep (names f) rest
    reads_names (alone o r) is = reads_names r is
    reads_names (joined {f = f} {g = g} o a b) is =
        let x = reads_names a is in both (names f) (names g) _ x.0 (reads_names b (x.1).1)
    reads_names (negation r) is = reads_names r is.1
    reads_names (modal {p = p} {f = f} m a b) is =
        let x = program_reads_names a is.1 in both (program_names p) (names f) _ x.0 (reads_names b (x.1).1)
    reads_names (modal_blank m r) is = let x = reads_names r (is.1).1 in ((any, x.0), x.1)
    reads_names (repetition k a) is = let x = program_reads_names a (is.1).1 in (x.0, (x.1).1)
    reads_names (group k r) is = let x = reads_names r is.1 in (x.0, (x.1).1)
    reads_names (constant b) is = (tt, is.1)
    reads_names (proposition p) is = ((is.0.0, tt), is.1)

    program_reads_names : {l : grammar.ProgramLevel} {ts rest : List Sign} {p : Program}
        → ReadsProgram l ts p rest
        → All ts
        → Keep (program_names p) rest
    program_reads_names (alt_alone r) is = program_reads_names r is
    program_reads_names (alt {p = p} {q = q} a b) is =
        let x = program_reads_names a is in both (program_names p) (program_names q) _ x.0 (program_reads_names b (x.1).1)
    program_reads_names (seq_alone r) is = program_reads_names r is
    program_reads_names (seq {p = p} {q = q} a b) is =
        let x = program_reads_names a is in both (program_names p) (program_names q) _ x.0 (program_reads_names b (x.1).1)
    program_reads_names (star_alone r) is = program_reads_names r is
    program_reads_names (star r) is = let x = program_reads_names r is in (x.0, (x.1).1)
    program_reads_names (action a s e) is = ((read_action s a e is.0, tt), is.1)
    program_reads_names (test e r) is = let x = tested_reads_names r is in (x.0, (x.1).1)
    program_reads_names (program_group r) is = let x = program_reads_names r is.1 in (x.0, (x.1).1)

    tested_reads_names : {ts rest : List Sign} {f : Formula} → ReadsTested ts f rest → All ts → Keep (names f) rest
    tested_reads_names (tested_negation r) is = tested_reads_names r is.1
    tested_reads_names (tested_constant b) is = (tt, is.1)
    tested_reads_names (tested_proposition p) is = ((is.0.0, tt), is.1)
    tested_reads_names (tested_group k r) is = let x = reads_names r is.1 in (x.0, (x.1).1)

-- ---- the names of a text

pub text_spelled : (text : List ℕ) (f : Formula) → IsAccepted IsReadAs (items text) f → is_spelled f ≡ true
text_spelled text f accepted =
    let signs = signs_all pdl_signs (Bears (IsSpelledName own)) text
    (λ p. bears_spelled own refl (sign_at text p)
    (spelled_mark (is_test_behind 0 (signs_behind text p.end)) (sign_by text p) (spelled_sign own p.token (bytes_of text p))))
    false (tokens AnyLetter text) in
    spelled_all own (names f) (reads_names (IsSpelledName own) refl accepted.stands signs).0

pub text_short : (text : List ℕ) (f : Formula) → IsAccepted IsReadAs (items text) f → HasShortNames f
unfolding tokens
text_short text f accepted =
    let signs = signs_short pdl_signs (Bears IsShortName) AnyLetter text
    (λ p short size. bears_short (sign_at text p)
    (short_mark (is_test_behind 0 (signs_behind text p.end)) (sign_by text p)
    (short_name own p.token (bytes_of text p) (p.end - p.start) short size)))
    0 false (tokens AnyLetter text) (are_tokens AnyLetter text 0) (accepted.keeps NameTooLong) in
    (reads_names IsShortName (omega arith) accepted.stands signs).0
