-- What the grammar of PDL texts reads, its tables read.
--
-- A program that is one lower-case name is read as that name, so programs are read up to the program that a tree is.
--
--   Tabled p ts v rest           == the tables read ts as the tree v
--   TabledProgram p ts q rest    == the tables read ts as a tree that is the program q
--   TabledTested ts f rest       == behind so many negations, the tables go on with ts to a test of f behind these
--   pdl_groups                   == the tables group the connectives as the grammar does
--   tabled, tabled_program, tabled_tested == what the grammar reads, the tables read
use Rattle.std.proofs.Common.{◌≡◌, ℕ, ◌≤◌, suc, false, List, [], ◌∷◌, Option, Some, None, refl, sym, ◌∙◌, ap, subst, arith, codes}
use Rattle.ml_text.specs.declared.token.Operator.TheVariants as operator
use Rattle.ml_text.specs.Grammar as tables
use Rattle.ml_text.specs.Grammar.{More, Inner, Opens, Part, Level, Operand, Rest, Behind, alone, joined, postfixed, form, whole, sign, read, inner, opens, takes, front}
use Rattle.ml_text.proofs.Fronts.{BeginsWith, begins_with}
use Rattle.ml_text.specs.Levels as levels
use Rattle.ml_text.specs.Operators.{operator_level}
use Rattle.ml_text.proofs.Levels.{loosen}
use Rattle.ml_text.proofs.LevelNumbers.{GroupsConnectives, number, tighter_above, left_below, right_below}
use Rattle.ml_pdl.specs.Formula as plain
use Rattle.ml_pdl.specs.Formula.{Formula, Program}
use Rattle.ml_pdl.specs.declared.term.Modality.{Modality}
use Rattle.ml_pdl.specs.declared.term.Modality.TheVariants.{Diamond, Square}
use Rattle.ml_pdl.specs.declared.signs.Own.TheVariants as signs
use Rattle.ml_text.specs.declared.named_signs.Sign.TheVariants.{Connective, Close, Lower, Upper, Added}
use Rattle.ml_pdl.specs.Signs.{Sign, action_of}
use Rattle.ml_pdl.specs.declared.signs.Own.TheVariants.{Begins, Ends, Repeats, Plus, Semicolon, Question, Blank, Paren}
use Rattle.ml_pdl.specs.declared.signs.Mark.{Mark}
use Rattle.ml_pdl.specs.declared.signs.Mark.TheVariants.{Marked, Unmarked}
use Rattle.ml_pdl.specs.Grammar as grammar
use Rattle.ml_pdl.specs.Grammar.{Reads, negation, modal, modal_blank, repetition, group}
use Rattle.ml_pdl.specs.Grammar.{constant, proposition, ReadsProgram, alt_alone, alt, seq_alone, seq, star_alone, star, action, test, program_group}
use Rattle.ml_pdl.specs.Grammar.{ReadsTested, tested_negation, tested_constant, tested_proposition, tested_group, opens_program}
use Rattle.ml_pdl.specs.Tables.{Phrase, OfFormula, OfProgram, Name, program_of, negated, Formulas, Programs, BehindBegin, BehindProgram}
use Rattle.ml_pdl.specs.Tables.{BehindNegations, BehindTested, ModalProgram, Modal, PdlTurn, Wait, blank, shift, shift_program, pdl_grammar}

abbrev pub Tabled : Part pdl_grammar → List Sign → Phrase → List Sign → Type 0
Tabled p ts v rest = tables.Reads pdl_grammar p ts v rest

abbrev pub TabledProgram : Part pdl_grammar → List Sign → Program → List Sign → Type 0
TabledProgram p ts q rest = (v : Phrase) × Tabled p ts v rest × (program_of v ≡ q)

abbrev pub TabledTested : List Sign → Formula → List Sign → Type 0
TabledTested ts f rest =
    (n : ℕ) (v : Phrase) (out : List Sign)
    → Tabled (Rest (More (BehindTested (negated n f)))) rest v out
    → Tabled (Rest (More (BehindNegations n))) ts v out

abbrev pub program_part : grammar.ProgramLevel → Part pdl_grammar
program_part grammar.Prog = Level Programs 0
program_part grammar.Seq = Level Programs 1
program_part grammar.Star = Operand Programs
program_part grammar.Base = Operand Programs

-- ---- no operand of the level of un goes on

pub tight : (n : Option Sign) → takes pdl_grammar Formulas 4 n ≡ false
tight None = refl
tight (Some (Connective operator.Iff)) = refl
tight (Some (Connective operator.Implies)) = refl
tight (Some (Connective operator.Or)) = refl
tight (Some (Connective operator.And)) = refl
tight (Some _) = refl

-- ---- modalities

-- a sign of a form, by what it does
pub sign_by : {q : Wait} {t : Sign} {ts rest : List Sign} {v : Phrase} (turn : Option PdlTurn)
    → shift q t ≡ turn
    → Tabled (Behind t turn) ts v rest
    → Tabled (Rest (More q)) (t ∷ ts) v rest
sign_by {q} {t} {ts} {rest} {v} turn is r = sign (subst (λ x. Tabled (Behind t x) ts v rest) (sym is) r)

pub begin_end : (m : Modality) → shift (BehindBegin m) (Added (Ends m)) ≡ Some (Inner (Modal m blank))
begin_end Diamond = refl
begin_end Square = refl

pub program_end : (m : Modality) (p : Program) → shift (BehindProgram m p) (Added (Ends m)) ≡ Some (Inner (Modal m p))
program_end Diamond p = refl
program_end Square p = refl

-- a sign with which a program begins
begin_program : (m : Modality) (t : Sign)
    → (shift_program t ≡ None → ⊥)
    → shift (BehindBegin m) t ≡ Some (Opens (ModalProgram m))
begin_program Diamond (Added (Ends n)) goes = absurd (goes refl)
begin_program Square (Added (Ends n)) goes = absurd (goes refl)
begin_program Diamond _ goes = refl
begin_program Square _ goes = refl

pub modal_read : {t : Sign} {ts rest : List Sign} {f : Formula} (m : Modality) (p : Program)
    → Tabled (Level Formulas 4) ts (OfFormula f) rest
    → Tabled (Behind t (Some (Inner (Modal m p)))) ts (OfFormula (plain.Modal m p f)) rest
modal_read {rest = rest} m p r = inner r (tight (front rest)) whole

-- behind the program of a modality
program_read : {ts rest : List Sign} {f : Formula} (m : Modality) (p q : Program)
    → p ≡ q
    → Tabled (Level Formulas 4) ts (OfFormula f) rest
    → Tabled (Rest (More (BehindProgram m p))) (Added (Ends m) ∷ ts) (OfFormula (plain.Modal m q f)) rest
program_read {ts} {rest} {f} m p q same r =
    subst (λ x. Tabled (Rest (More (BehindProgram m p))) (Added (Ends m) ∷ ts) (OfFormula (plain.Modal m x f)) rest) same
    (sign_by (Some (Inner (Modal m p))) (program_end m p) (modal_read m p r))

stop_end : (m : Modality) → takes pdl_grammar Programs 0 (Some (Added (Ends m))) ≡ false
stop_end m = refl

opened : (m : Modality) (ts us rest : List Sign) (v w : Phrase)
    → Tabled (Level Programs 0) ts v (Added (Ends m) ∷ us)
    → BeginsWith pdl_grammar Wait.ProgramStart ts
    → Tabled (Rest (More (BehindProgram m (program_of v)))) (Added (Ends m) ∷ us) w rest
    → Tabled (Rest (More (BehindBegin m))) ts w rest
opened m [] us rest v w r begins later = absurd begins
opened m (t ∷ ts) us rest v w r begins later = sign_by (Some (Opens (ModalProgram m))) (begin_program m t begins) (opens r (stop_end m) later)

modal_tabled : {ts us rest : List Sign} {p : Program} {f : Formula} (m : Modality)
    → TabledProgram (Level Programs 0) ts p (Added (Ends m) ∷ us)
    → Tabled (Level Formulas 4) us (OfFormula f) rest
    → Tabled (Operand Formulas) (Added (Begins m) ∷ ts) (OfFormula (plain.Modal m p f)) rest
modal_tabled {ts} {us} {rest} {p} {f} m a b =
    form
    (sign
    (read
    (opened m ts us rest a.0 (OfFormula (plain.Modal m p f)) a.1 (begins_with pdl_grammar a.1)
    (program_read m (program_of a.0) p a.2 b))))

-- ---- programs

program_loosened : {l : ℕ} {ts rest : List Sign} {p : Program} (k : ℕ)
    → k ≤ l
    → TabledProgram (Level Programs l) ts p rest
    → TabledProgram (Level Programs k) ts p rest
program_loosened k le a = (a.0, loosen pdl_grammar k le a.1, a.2)

alt_tabled : {ts us rest : List Sign} {p q : Program}
    → TabledProgram (Level Programs 0) ts p (Added Plus ∷ us)
    → TabledProgram (Level Programs 1) us q rest
    → TabledProgram (Level Programs 0) ts (plain.Alt p q) rest
alt_tabled {p = p} a b = (
  OfProgram (plain.Alt (program_of a.0) (program_of b.0)),
  joined (Added Plus) 0 refl (omega arith) a.1 b.1,
  ap (λ x. plain.Alt x (program_of b.0)) a.2 ∙ ap (plain.Alt p) b.2,
)

seq_tabled : {ts us rest : List Sign} {p q : Program}
    → TabledProgram (Level Programs 1) ts p (Added Semicolon ∷ us)
    → TabledProgram (Operand Programs) us q rest
    → TabledProgram (Level Programs 1) ts (plain.Seq p q) rest
seq_tabled {p = p} a b = (
  OfProgram (plain.Seq (program_of a.0) (program_of b.0)),
  joined (Added Semicolon) 1 refl (omega arith) a.1 (alone b.1),
  ap (λ x. plain.Seq x (program_of b.0)) a.2 ∙ ap (plain.Seq p) b.2,
)

star_tabled : {ts rest : List Sign} {p : Program}
    → TabledProgram (Operand Programs) ts p (Added signs.Star ∷ rest)
    → TabledProgram (Operand Programs) ts (plain.Star p) rest
star_tabled a = (OfProgram (plain.Star (program_of a.0)), postfixed (Added signs.Star) refl refl a.1, ap plain.Star a.2)

action_tabled : {rest : List Sign} (a : List ℕ) (s : Sign)
    → action_of s ≡ Some a
    → TabledProgram (Operand Programs) (s ∷ rest) (plain.Act a) rest
action_tabled a (Added Blank) is = let same : codes "_" ≡ a = cc in (OfProgram blank, form (sign (read whole)), ap plain.Act same)
action_tabled a (Lower b) is = let same : b ≡ a = cc in (Name b, form (sign (read whole)), ap plain.Act same)
action_tabled a (Upper b) is = let same : b ≡ a = cc in (OfProgram (plain.Act b), form (sign (read whole)), ap plain.Act same)
action_tabled a _ is = absurd (cc)

program_group_tabled : {ts rest : List Sign} {p : Program}
    → TabledProgram (Level Programs 0) ts p (Close ∷ rest)
    → TabledProgram (Operand Programs) (Added (Paren Unmarked) ∷ ts) p rest
program_group_tabled a = (OfProgram (program_of a.0), form (sign (inner a.1 refl (sign (read whole)))), a.2)

-- the test of f, read by the form of tests
test_tabled : {ts rest : List Sign} {f : Formula}
    → Tabled (Operand Programs) ts (OfProgram (plain.Test f)) rest
    → TabledProgram (Operand Programs) ts (plain.Test f) rest
test_tabled {f = f} r = (OfProgram (plain.Test f), r, refl)

question_read : {rest : List Sign} (f : Formula)
    → Tabled (Rest (More (BehindTested f))) (Added Question ∷ rest) (OfProgram (plain.Test f)) rest
question_read f = sign (read whole)

group_test : {ts rest : List Sign} {f : Formula} (k : Mark)
    → opens_program (Added (Paren k) ∷ ts) ≡ false
    → Tabled (Level Formulas 0) ts (OfFormula f) (Close ∷ Added Question ∷ rest)
    → TabledProgram (Operand Programs) (Added (Paren k) ∷ ts) (plain.Test f) rest
group_test {f = f} Marked e r = test_tabled (form (sign (inner r refl (sign (read (question_read f))))))
group_test Unmarked e r = absurd (cc)

repeat_tabled : {ts rest : List Sign} {p : Program} (k : Mark)
    → TabledProgram (Level Programs 0) ts p (Close ∷ rest)
    → Tabled (Operand Formulas) (Added Repeats ∷ Added (Paren k) ∷ ts) (OfFormula (plain.Repeat p)) rest
repeat_tabled {ts} {rest} {p} k a =
    subst (λ x. Tabled (Operand Formulas) (Added Repeats ∷ Added (Paren k) ∷ ts) (OfFormula (plain.Repeat x)) rest) a.2
    (form (sign (read (sign (inner a.1 refl (sign (read whole)))))))

-- ---- all of it

pub pdl_groups : GroupsConnectives pdl_grammar Formulas
pdl_groups operator.Iff = refl
pdl_groups operator.Implies = refl
pdl_groups operator.Or = refl
pdl_groups operator.And = refl

mutual
  pub tabled : {l : levels.Level} {ts rest : List Sign} {f : Formula}
      → Reads l ts f rest
      → Tabled (Level Formulas (number l)) ts (OfFormula f) rest
  tabled (grammar.alone o r) = loosen pdl_grammar (operator_level o) (tighter_above o) (tabled r)
  tabled (grammar.joined o a b) =
      joined (Connective o) (operator_level o) refl (omega arith)
      (loosen pdl_grammar _ (left_below pdl_grammar Formulas pdl_groups o) (tabled a))
      (loosen pdl_grammar _ (right_below pdl_grammar Formulas pdl_groups o) (tabled b))
  tabled (negation {rest = rest} r) = alone (form (sign (inner (tabled r) (tight (front rest)) whole)))
  tabled (modal m a b) = alone (modal_tabled m (tabled_program a) (tabled b))
  tabled (modal_blank m r) =
      alone (form (sign (read (sign_by (Some (Inner (Modal m blank))) (begin_end m) (modal_read m blank (tabled r))))))
  tabled (repetition k r) = alone (repeat_tabled k (tabled_program r))
  tabled (group k r) = alone (form (sign (inner (tabled r) refl (sign (read whole)))))
  tabled (constant b) = alone (form (sign (read whole)))
  tabled (proposition p) = alone (form (sign (read whole)))

  pub tabled_program : {l : grammar.ProgramLevel} {ts rest : List Sign} {p : Program}
      → ReadsProgram l ts p rest
      → TabledProgram (program_part l) ts p rest
  tabled_program (alt_alone r) = program_loosened 0 (omega arith) (tabled_program r)
  tabled_program (alt a b) = alt_tabled (tabled_program a) (tabled_program b)
  tabled_program (seq_alone r) = let a = tabled_program r in (a.0, alone a.1, a.2)
  tabled_program (seq a b) = seq_tabled (tabled_program a) (tabled_program b)
  tabled_program (star_alone r) = tabled_program r
  tabled_program (star r) = star_tabled (tabled_program r)
  tabled_program (action a s is) = action_tabled a s is
  tabled_program (test {rest = rest} e (tested_negation {f = f} r)) =
      test_tabled
      (form (sign (read (tabled_tested r 1 (OfProgram (plain.Test (plain.Not f))) rest (question_read (plain.Not f))))))
  tabled_program (test e (tested_constant b)) = test_tabled (form (sign (read (question_read (plain.Const b)))))
  tabled_program (test e (tested_proposition p)) = test_tabled (postfixed (Added Question) refl refl (form (sign (read whole))))
  tabled_program (test e (tested_group k r)) = group_test k e (tabled r)
  tabled_program (program_group r) = program_group_tabled (tabled_program r)

  pub tabled_tested : {ts rest : List Sign} {f : Formula} → ReadsTested ts f rest → TabledTested ts f rest
  tabled_tested (tested_negation r) = λ n v out later. sign (read (tabled_tested r (suc n) v out later))
  tabled_tested (tested_constant b) = λ n v out later. sign (read later)
  tabled_tested (tested_proposition p) = λ n v out later. sign (read later)
  tabled_tested (tested_group k r) = λ n v out later. sign (inner (tabled r) refl (sign (read later)))
