-- What the tables of PDL read, the grammar of its texts reads.
--
--   AsFormula l ts v rest, AsProgram l ts v rest == the grammar reads ts as the formula, or the program, that the tree v is
--   Completes, Enters, Opened, OfMode, OfTurn    == what the grammar reads behind signs of a form, by the form
--   Untabled p ts v rest                         == what the grammar reads where the tables read the part p
--   untabled                                     == what the tables read, the grammar reads
use Rattle.std.proofs.Common.{◌≡◌, ℕ, ◌≤◌, zero, suc, false, List, ◌∷◌, Option, Some, None, refl, sym, ap, subst, arith, codes}
use Rattle.ml_text.specs.declared.token.Operator.{Operator}
use Rattle.ml_text.specs.declared.token.Operator.TheVariants as operator
use Rattle.ml_text.specs.Grammar as tables
use Rattle.ml_text.specs.Grammar.{Whole, More, Read, Inner, Opens, Part, Rest, Behind, postfixed, form, whole, sign, read, inner, opens, left_level, right_level}
use Rattle.ml_text.specs.declared.forms.Role.TheVariants.{Infix, Postfix}
use Rattle.ml_text.specs.Operators.{operator_level}
use Rattle.ml_text.specs.Levels.{Level, Joined, Operand, tighter}
use Rattle.ml_text.proofs.Levels.{looser}
use Rattle.ml_text.proofs.LevelNumbers.{level_of, joined_is, left_is, right_is, loosened, from_top}
use Rattle.ml_pdl.specs.Formula as plain
use Rattle.ml_pdl.specs.Formula.{Formula, Program}
use Rattle.ml_pdl.specs.declared.term.Modality.{Modality}
use Rattle.ml_pdl.specs.declared.term.Modality.TheVariants.{Diamond, Square}
use Rattle.ml_pdl.specs.declared.signs.Own.TheVariants as signs
use Rattle.ml_text.specs.declared.named_signs.Sign.TheVariants.{Not, Connective, Const, Close, Lower, Upper, Added}
use Rattle.ml_pdl.specs.Signs.{Sign}
use Rattle.ml_pdl.specs.declared.signs.Own.TheVariants.{Begins, Ends, Repeats, Plus, Semicolon, Question, Blank, Paren}
use Rattle.ml_pdl.specs.declared.signs.Mark.{Mark}
use Rattle.ml_pdl.specs.declared.signs.Mark.TheVariants.{Marked, Unmarked}
use Rattle.ml_pdl.specs.Grammar as grammar
use Rattle.ml_pdl.specs.Grammar.{Reads, alone, joined, negation, modal, modal_blank, repetition}
use Rattle.ml_pdl.specs.Grammar.{group, constant, proposition, ReadsProgram, alt_alone, alt, seq_alone, seq, star_alone, star, action, test}
use Rattle.ml_pdl.specs.Grammar.{program_group, ReadsTested, tested_negation, tested_constant, tested_proposition, tested_group}
use Rattle.ml_pdl.specs.Tables.{Phrase, OfFormula, OfProgram, Name, formula_of, program_of, negated, Sort, Formulas, Programs, Wait, FormulaStart}
use Rattle.ml_pdl.specs.Tables.{ProgramStart, BehindBegin, BehindProgram, BehindRepeat, BehindRepeatInside, BehindFormulaInside, BehindProgramInside}
use Rattle.ml_pdl.specs.Tables.{BehindTestInside, BehindNegations, BehindTested, Hold, Negation, ModalProgram, Modal, FormulaGroup, ProgramGroup}
use Rattle.ml_pdl.specs.Tables.{RepeatGroup, TestGroup, PdlTurn, shift, resume, role, join, post, pdl_grammar}
use Rattle.ml_pdl.proofs.ToTables.{Tabled, pdl_groups}

-- ---- levels

-- the levels of programs that have operators between operands
abbrev pub program_level_of : ℕ → grammar.ProgramLevel
program_level_of zero = grammar.Prog
program_level_of (suc zero) = grammar.Seq
program_level_of (suc (suc l)) = grammar.Star

base_raised : (l : grammar.ProgramLevel) {ts rest : List Sign} {p : Program}
    → ReadsProgram grammar.Base ts p rest
    → ReadsProgram l ts p rest
base_raised grammar.Base r = r
base_raised grammar.Star r = star_alone r
base_raised grammar.Seq r = seq_alone (star_alone r)
base_raised grammar.Prog r = alt_alone (seq_alone (star_alone r))

-- ---- trees

abbrev pub AsFormula : Level → List Sign → Phrase → List Sign → Type 0
AsFormula l ts (OfFormula f) rest = Reads l ts f rest
AsFormula l ts _ rest = ⊥

-- a name alone is kept as it stands
abbrev pub AsProgram : grammar.ProgramLevel → List Sign → Phrase → List Sign → Type 0
AsProgram l ts (OfProgram p) rest = ReadsProgram l ts p rest
AsProgram l ts (Name a) rest = ts ≡ Lower a ∷ rest
AsProgram l ts (OfFormula f) rest = ⊥

formula_read : (l : Level) (ts rest : List Sign) (v : Phrase)
    → AsFormula l ts v rest
    → Reads l ts (formula_of v) rest
formula_read l ts rest (OfFormula f) r = r
formula_read l ts rest (OfProgram p) r = absurd r
formula_read l ts rest (Name a) r = absurd r

program_read : (l : grammar.ProgramLevel) (ts rest : List Sign) (v : Phrase)
    → AsProgram l ts v rest
    → ReadsProgram l ts (program_of v) rest
program_read l ts rest (OfFormula f) r = absurd r
program_read l ts rest (OfProgram p) r = r
program_read l ts rest (Name a) r = subst (λ us. ReadsProgram l us (plain.Act a) rest) (sym r) (base_raised l (action a (Lower a) refl))

-- ---- what is claimed

-- what the rest of a form makes of the signs that were read of it
abbrev pub Completes : Wait → List Sign → Phrase → List Sign → Type 0
Completes FormulaStart ts v rest = AsFormula Operand ts v rest
Completes ProgramStart ts v rest = AsProgram grammar.Base ts v rest
Completes (BehindBegin m) ts v rest = AsFormula Operand (Added (Begins m) ∷ ts) v rest
Completes (BehindProgram m p) ts v rest = (us : List Sign) → ReadsProgram grammar.Prog us p ts → AsFormula Operand (Added (Begins m) ∷ us) v rest
Completes BehindRepeat ts v rest = AsFormula Operand (Added Repeats ∷ ts) v rest
Completes (BehindRepeatInside p) ts v rest =
    (us : List Sign) (k : Mark)
    → ReadsProgram grammar.Prog us p ts
    → AsFormula Operand (Added Repeats ∷ Added (Paren k) ∷ us) v rest
Completes (BehindFormulaInside h) ts v rest = (us : List Sign) (k : Mark) → Reads (Joined operator.Iff) us h ts → AsFormula Operand (Added (Paren k) ∷ us) v rest
Completes (BehindProgramInside p) ts v rest =
    (us : List Sign) → ReadsProgram grammar.Prog us p ts → AsProgram grammar.Base (Added (Paren Unmarked) ∷ us) v rest
Completes (BehindTestInside h) ts v rest = (ts ≡ Close ∷ Added Question ∷ rest) × (OfProgram (plain.Test h) ≡ v)
Completes (BehindNegations n) ts v rest = (h : Formula) × ReadsTested ts h (Added Question ∷ rest) × (OfProgram (plain.Test (negated n h)) ≡ v)
Completes (BehindTested h) ts v rest = (ts ≡ Added Question ∷ rest) × (OfProgram (plain.Test h) ≡ v)

-- a held operand with what its form makes of it
abbrev pub Enters : Hold → List Sign → Phrase → List Sign → Type 0
Enters Negation ts v rest = (h : Formula) × Reads Operand ts h rest × (OfFormula (plain.Not h) ≡ v)
Enters (ModalProgram m) ts v rest = Unit {0}
Enters (Modal m p) ts v rest = (h : Formula) × Reads Operand ts h rest × (OfFormula (plain.Modal m p h) ≡ v)
Enters FormulaGroup ts v rest = (k : Mark) → AsFormula Operand (Added (Paren k) ∷ ts) v rest
Enters RepeatGroup ts v rest = (k : Mark) → AsFormula Operand (Added Repeats ∷ Added (Paren k) ∷ ts) v rest
Enters ProgramGroup ts v rest = AsProgram grammar.Base (Added (Paren Unmarked) ∷ ts) v rest
Enters (TestGroup n) ts v rest = (h : Formula) × Reads (Joined operator.Iff) ts h (Close ∷ Added Question ∷ rest) × (OfProgram (plain.Test (negated n h)) ≡ v)

-- the same of an operand that begins with the sign itself
abbrev pub Opened : Hold → List Sign → Phrase → List Sign → Type 0
Opened (ModalProgram m) ts v rest = AsFormula Operand (Added (Begins m) ∷ ts) v rest
Opened _ ts v rest = Unit {0}

abbrev pub OfMode : tables.Mode Phrase Wait → List Sign → Phrase → List Sign → Type 0
OfMode (Whole w) ts v rest = (w ≡ v) × (ts ≡ rest)
OfMode (More q) ts v rest = Completes q ts v rest

abbrev pub OfTurn : Sign → Option PdlTurn → List Sign → Phrase → List Sign → Type 0
OfTurn t None ts v rest = ⊥
OfTurn t (Some (Read m)) ts v rest = OfMode m ts v rest
OfTurn t (Some (Inner k)) ts v rest = Enters k ts v rest
OfTurn t (Some (Opens k)) ts v rest = Opened k (t ∷ ts) v rest

abbrev pub AtLevel : Sort → ℕ → List Sign → Phrase → List Sign → Type 0
AtLevel Formulas l ts v rest = AsFormula (level_of Operand l) ts v rest
AtLevel Programs l ts v rest = AsProgram (program_level_of l) ts v rest

abbrev pub AsOperand : Sort → List Sign → Phrase → List Sign → Type 0
AsOperand Formulas ts v rest = AsFormula Operand ts v rest
AsOperand Programs ts v rest = AsProgram grammar.Star ts v rest

abbrev pub Untabled : Part pdl_grammar → List Sign → Phrase → List Sign → Type 0
Untabled (tables.Level s l) ts v rest = AtLevel s l ts v rest
Untabled (tables.Operand s) ts v rest = AsOperand s ts v rest
Untabled (Rest m) ts v rest = OfMode m ts v rest
Untabled (Behind t turn) ts v rest = OfTurn t turn ts v rest

-- ---- operands alone, and forms

phrase_alone : (o : Operator) (ts rest : List Sign) (v : Phrase)
    → AsFormula (tighter o) ts v rest
    → AsFormula (Joined o) ts v rest
phrase_alone o ts rest (OfFormula f) r = alone o r
phrase_alone o ts rest _ r = absurd r

before : (ts rest : List Sign) (v : Phrase) (l : ℕ) → AtLevel Programs (suc l) ts v rest → AtLevel Programs l ts v rest
before ts rest (OfProgram p) zero r = alt_alone r
before ts rest (OfProgram p) (suc zero) r = seq_alone r
before ts rest (OfProgram p) (suc (suc l)) r = r
before ts rest _ l r = r

looser_back : (s : Sort) (ts rest : List Sign) (v : Phrase) (l m : ℕ) → l ≤ m → AtLevel s m ts v rest → AtLevel s l ts v rest
looser_back Formulas ts rest v l m le r =
    loosened Operand (λ x. AsFormula x ts v rest) (λ o. phrase_alone o ts rest v) (λ x. x) l m le r
looser_back Programs ts rest v l m le r = looser (λ n. AtLevel Programs n ts v rest) (before ts rest v) l m le r

alone_back : (s : Sort) (l : ℕ) (ts rest : List Sign) (v : Phrase) → AsOperand s ts v rest → AtLevel s l ts v rest
alone_back Formulas l ts rest v r =
    from_top Operand (λ x. AsFormula x ts v rest) (λ o. phrase_alone o ts rest v) (λ x. x) l r
alone_back Programs l ts rest v r = looser_back Programs ts rest v l (suc (suc l)) (omega arith) r

form_back : (s : Sort) (ts rest : List Sign) (v : Phrase)
    → Completes (Rattle.ml_pdl.specs.Tables.start s) ts v rest
    → AsOperand s ts v rest
form_back Programs ts rest (OfProgram p) r = star_alone r
form_back _ ts rest _ r = r

-- ---- signs of forms

-- a formula, or a program, that is equal to the one that is read, with an equal rest
whole_formula : (ts us rest : List Sign) (f : Formula) (v : Phrase)
    → (OfFormula f ≡ v) × (us ≡ rest)
    → Reads Operand ts f us
    → AsFormula Operand ts v rest
whole_formula ts us rest f v e r = subst (λ x. AsFormula Operand ts x rest) e.0 (subst (λ x. Reads Operand ts f x) e.1 r)

whole_program : (ts us rest : List Sign) (p : Program) (v : Phrase)
    → (OfProgram p ≡ v) × (us ≡ rest)
    → ReadsProgram grammar.Base ts p us
    → AsProgram grammar.Base ts v rest
whole_program ts us rest p v e r = subst (λ x. AsProgram grammar.Base ts x rest) e.0 (subst (λ x. ReadsProgram grammar.Base ts p x) e.1 r)

whole_name : (ts rest : List Sign) (a : List ℕ) (v : Phrase)
    → (Name a ≡ v) × (ts ≡ rest)
    → AsProgram grammar.Base (Lower a ∷ ts) v rest
whole_name ts rest a v e = subst (λ x. AsProgram grammar.Base (Lower a ∷ ts) x rest) e.0 (ap (λ us. Lower a ∷ us) e.1)

-- the test of what was read behind no negation
tested_program : (ts rest : List Sign) (v : Phrase)
    → Rattle.ml_pdl.specs.Grammar.opens_program ts ≡ false
    → Completes (BehindNegations 0) ts v rest
    → AsProgram grammar.Base ts v rest
tested_program ts rest v e c = subst (λ x. AsProgram grammar.Base ts x rest) c.2 (test e c.1)

test_completes : (n : ℕ) (t : Sign) (ts rest : List Sign) (v : Phrase)
    → OfTurn t (shift (BehindNegations n) t) ts v rest
    → Completes (BehindNegations n) (t ∷ ts) v rest
test_completes n Not ts rest v r = (plain.Not r.0, tested_negation r.1, r.2)
test_completes n (Const b) ts rest v r = (plain.Const b, subst (λ us. ReadsTested (Const b ∷ ts) (plain.Const b) us) r.0 (tested_constant b), r.1)
test_completes n (Lower p) ts rest v r = (plain.Prop p, subst (λ us. ReadsTested (Lower p ∷ ts) (plain.Prop p) us) r.0 (tested_proposition p), r.1)
test_completes n (Added (Paren k)) ts rest v r = (r.0, tested_group k r.1, r.2)
test_completes n _ ts rest v r = absurd r

program_completes : (t : Sign) (ts rest : List Sign) (v : Phrase)
    → OfTurn t (shift ProgramStart t) ts v rest
    → AsProgram grammar.Base (t ∷ ts) v rest
program_completes (Added Blank) ts rest v r = whole_program (Added Blank ∷ ts) ts rest (plain.Act (codes "_")) v r (action (codes "_") (Added Blank) refl)
program_completes (Lower a) ts rest v r = whole_name ts rest a v r
program_completes (Upper a) ts rest v r = whole_program (Upper a ∷ ts) ts rest (plain.Act a) v r (action a (Upper a) refl)
program_completes (Added (Paren Unmarked)) ts rest v r = r
program_completes (Added (Paren Marked)) ts rest v r = tested_program (Added (Paren Marked) ∷ ts) rest v refl (test_completes 0 (Added (Paren Marked)) ts rest v r)
program_completes Not ts rest v r = tested_program (Not ∷ ts) rest v refl (test_completes 0 Not ts rest v r)
program_completes (Const b) ts rest v r = tested_program (Const b ∷ ts) rest v refl (test_completes 0 (Const b) ts rest v r)
program_completes _ ts rest v r = absurd r

-- a formula that a form made of the one that it held
made_formula : (ts rest : List Sign) (f : Formula) (v : Phrase)
    → OfFormula f ≡ v
    → Reads Operand ts f rest
    → AsFormula Operand ts v rest
made_formula ts rest f v e r = subst (λ x. AsFormula Operand ts x rest) e r

formula_completes : (t : Sign) (ts rest : List Sign) (v : Phrase)
    → OfTurn t (shift FormulaStart t) ts v rest
    → AsFormula Operand (t ∷ ts) v rest
formula_completes Not ts rest v r = made_formula (Not ∷ ts) rest (plain.Not r.0) v r.2 (negation r.1)
formula_completes (Const b) ts rest v r = whole_formula (Const b ∷ ts) ts rest (plain.Const b) v r (constant b)
formula_completes (Lower p) ts rest v r = whole_formula (Lower p ∷ ts) ts rest (plain.Prop p) v r (proposition p)
formula_completes (Added (Paren k)) ts rest v r = r k
formula_completes (Added (Begins m)) ts rest v r = r
formula_completes (Added Repeats) ts rest v r = r
formula_completes _ ts rest v r = absurd r

begin_completes : (m : Modality) (t : Sign) (ts rest : List Sign) (v : Phrase)
    → OfTurn t (shift (BehindBegin m) t) ts v rest
    → AsFormula Operand (Added (Begins m) ∷ t ∷ ts) v rest
begin_completes Diamond (Added (Ends Diamond)) ts rest v r =
    made_formula (Added (Begins Diamond) ∷ Added (Ends Diamond) ∷ ts) rest (plain.Modal Diamond (plain.Act (codes "_")) r.0) v r.2
    (modal_blank Diamond r.1)
begin_completes Square (Added (Ends Square)) ts rest v r =
    made_formula (Added (Begins Square) ∷ Added (Ends Square) ∷ ts) rest (plain.Modal Square (plain.Act (codes "_")) r.0) v r.2
    (modal_blank Square r.1)
begin_completes Diamond (Added (Ends Square)) ts rest v r = r
begin_completes Square (Added (Ends Diamond)) ts rest v r = r
begin_completes Diamond _ ts rest v r = r
begin_completes Square _ ts rest v r = r

end_completes : (m : Modality) (p : Program) (t : Sign) (ts rest : List Sign) (v : Phrase)
    → OfTurn t (shift (BehindProgram m p) t) ts v rest
    → (us : List Sign)
    → ReadsProgram grammar.Prog us p (t ∷ ts)
    → AsFormula Operand (Added (Begins m) ∷ us) v rest
end_completes Diamond p (Added (Ends Diamond)) ts rest v r us a =
    made_formula (Added (Begins Diamond) ∷ us) rest (plain.Modal Diamond p r.0) v r.2 (modal Diamond a r.1)
end_completes Square p (Added (Ends Square)) ts rest v r us a = made_formula (Added (Begins Square) ∷ us) rest (plain.Modal Square p r.0) v r.2 (modal Square a r.1)
end_completes Diamond p (Added (Ends Square)) ts rest v r us a = absurd r
end_completes Square p (Added (Ends Diamond)) ts rest v r us a = absurd r
end_completes Diamond p _ ts rest v r us a = absurd r
end_completes Square p _ ts rest v r us a = absurd r

sign_completes : (q : Wait) (t : Sign) (ts rest : List Sign) (v : Phrase)
    → OfTurn t (shift q t) ts v rest
    → Completes q (t ∷ ts) v rest
sign_completes FormulaStart t ts rest v r = formula_completes t ts rest v r
sign_completes ProgramStart t ts rest v r = program_completes t ts rest v r
sign_completes (BehindBegin m) t ts rest v r = begin_completes m t ts rest v r
sign_completes (BehindProgram m p) t ts rest v r = end_completes m p t ts rest v r
sign_completes BehindRepeat (Added (Paren k)) ts rest v r = r k
sign_completes BehindRepeat _ ts rest v r = absurd r
sign_completes (BehindRepeatInside p) Close ts rest v r =
    λ us k a. whole_formula (Added Repeats ∷ Added (Paren k) ∷ us) ts rest (plain.Repeat p) v r (repetition k a)
sign_completes (BehindRepeatInside p) _ ts rest v r = absurd r
sign_completes (BehindFormulaInside h) Close ts rest v r = λ us k a. whole_formula (Added (Paren k) ∷ us) ts rest h v r (group k a)
sign_completes (BehindFormulaInside h) _ ts rest v r = absurd r
sign_completes (BehindProgramInside p) Close ts rest v r = λ us a. whole_program (Added (Paren Unmarked) ∷ us) ts rest p v r (program_group a)
sign_completes (BehindProgramInside p) _ ts rest v r = absurd r
sign_completes (BehindTestInside h) Close ts rest v r = (ap (λ us. Close ∷ us) r.0, r.1)
sign_completes (BehindTestInside h) _ ts rest v r = absurd r
sign_completes (BehindNegations n) t ts rest v r = test_completes n t ts rest v r
sign_completes (BehindTested h) (Added Question) ts rest v r = (ap (λ us. Added Question ∷ us) r.1, r.0)
sign_completes (BehindTested h) _ ts rest v r = absurd r

-- ---- held operands

-- what is held as a formula, and then passed on
held_formula : (ts us : List Sign) (w : Phrase) → AtLevel Formulas 4 ts w us → Reads Operand ts (formula_of w) us
held_formula ts us w a = formula_read Operand ts us w a

held_group : (ts us : List Sign) (w : Phrase) → AtLevel Formulas 0 ts w us → Reads (Joined operator.Iff) ts (formula_of w) us
held_group ts us w a = formula_read (Joined operator.Iff) ts us w a

held_program : (ts us : List Sign) (w : Phrase)
    → AtLevel Programs 0 ts w us
    → ReadsProgram grammar.Prog ts (program_of w) us
held_program ts us w a = program_read grammar.Prog ts us w a

inner_enters : (k : Hold) (ts us rest : List Sign) (w v : Phrase)
    → AtLevel (Rattle.ml_pdl.specs.Tables.sort k) (Rattle.ml_pdl.specs.Tables.level k) ts w us
    → OfMode (resume k w) us v rest
    → Enters k ts v rest
inner_enters Negation ts us rest w v a r = (formula_of w, subst (λ x. Reads Operand ts (formula_of w) x) r.1 (held_formula ts us w a), r.0)
inner_enters (ModalProgram m) ts us rest w v a r = tt
inner_enters (Modal m p) ts us rest w v a r = (formula_of w, subst (λ x. Reads Operand ts (formula_of w) x) r.1 (held_formula ts us w a), r.0)
inner_enters FormulaGroup ts us rest w v a r = λ k. r ts k (held_group ts us w a)
inner_enters RepeatGroup ts us rest w v a r = λ k. r ts k (held_program ts us w a)
inner_enters ProgramGroup ts us rest w v a r = r ts (held_program ts us w a)
inner_enters (TestGroup n) ts us rest w v a r = (formula_of w, subst (λ x. Reads (Joined operator.Iff) ts (formula_of w) x) r.0 (held_group ts us w a), r.1)

opens_enters : (k : Hold) (ts us rest : List Sign) (w v : Phrase)
    → AtLevel (Rattle.ml_pdl.specs.Tables.sort k) (Rattle.ml_pdl.specs.Tables.level k) ts w us
    → OfMode (resume k w) us v rest
    → Opened k ts v rest
opens_enters (ModalProgram m) ts us rest w v a r = r ts (held_program ts us w a)
opens_enters _ ts us rest w v a r = tt

-- ---- operators

-- what is read at the level that an operator has
abbrev pub Joins : Sort → ℕ → Sign → List Sign → Phrase → Phrase → List Sign → Type 0
Joins s m o ts v w rest =
    (us : List Sign)
    → AtLevel s (left_level pdl_grammar s m) ts v (o ∷ us)
    → AtLevel s (right_level pdl_grammar s m) us w rest
    → AtLevel s m ts (join o v w) rest

joined_back : (s : Sort) (o : Sign) (m : ℕ) (ts rest : List Sign) (v w : Phrase)
    → role s o ≡ Infix m
    → Joins s m o ts v w rest
joined_back Formulas (Connective o) m ts rest v w is =
    let same : operator_level o ≡ m = cc in
    λ us a b.
    let left = subst (λ l. AsFormula l ts v (Connective o ∷ us)) (left_is pdl_grammar Formulas pdl_groups Operand o m same) a in
    let right = subst (λ l. AsFormula l us w rest) (right_is pdl_grammar Formulas pdl_groups Operand o m same) b in
    subst (λ l. AsFormula l ts (join (Connective o) v w) rest) (sym (joined_is Operand o m same))
    (joined o (formula_read _ ts (Connective o ∷ us) v left) (formula_read _ us rest w right))
joined_back Formulas _ m ts rest v w is = absurd (cc)
joined_back Programs (Added Plus) m ts rest v w is =
    let same : 0 ≡ m = cc in
    subst (λ n. Joins Programs n (Added Plus) ts v w rest) same
    (λ us a b. alt (program_read grammar.Prog ts (Added Plus ∷ us) v a) (program_read grammar.Seq us rest w b))
joined_back Programs (Added Semicolon) m ts rest v w is =
    let same : 1 ≡ m = cc in
    subst (λ n. Joins Programs n (Added Semicolon) ts v w rest) same
    (λ us a b. seq (program_read grammar.Seq ts (Added Semicolon ∷ us) v a) (program_read grammar.Star us rest w b))
joined_back Programs _ m ts rest v w is = absurd (cc)

star_back : (ts rest : List Sign) (v h : Phrase)
    → post (Added signs.Star) v ≡ Some h
    → AsProgram grammar.Star ts v (Added signs.Star ∷ rest)
    → AsProgram grammar.Star ts h rest
star_back ts rest v h makes r =
    let same : OfProgram (plain.Star (program_of v)) ≡ h = cc in
    subst (λ x. AsProgram grammar.Star ts x rest) same (star (program_read grammar.Star ts (Added signs.Star ∷ rest) v r))

question_back : (ts rest : List Sign) (v h : Phrase)
    → post (Added Question) v ≡ Some h
    → AsProgram grammar.Star ts v (Added Question ∷ rest)
    → AsProgram grammar.Star ts h rest
question_back ts rest (Name a) h makes r =
    let same : OfProgram (plain.Test (plain.Prop a)) ≡ h = cc in
    let read_test : ReadsProgram grammar.Star (Lower a ∷ Added Question ∷ rest) (plain.Test (plain.Prop a)) rest =
    star_alone (test refl (tested_proposition a))
    in
    subst (λ x. AsProgram grammar.Star ts x rest) same (subst (λ us. ReadsProgram grammar.Star us (plain.Test (plain.Prop a)) rest) (sym r) read_test)
question_back ts rest (OfFormula f) h makes r = absurd r
question_back ts rest (OfProgram p) h makes r = absurd (cc)

post_back : (s : Sort) (o : Sign) (ts rest : List Sign) (v h : Phrase)
    → role s o ≡ Postfix
    → post o v ≡ Some h
    → AsOperand s ts v (o ∷ rest)
    → AsOperand s ts h rest
post_back Formulas (Connective o) ts rest v h is makes r = absurd (cc)
post_back Formulas _ ts rest v h is makes r = absurd (cc)
post_back Programs (Added signs.Star) ts rest v h is makes r = star_back ts rest v h makes r
post_back Programs (Added Question) ts rest v h is makes r = question_back ts rest v h makes r
post_back Programs _ ts rest v h is makes r = absurd (cc)

-- ---- all of it

pub untabled : {p : Part pdl_grammar} {ts rest : List Sign} {v : Phrase} → Tabled p ts v rest → Untabled p ts v rest
untabled (tables.alone {s = s} {l = l} {ts = ts} {rest = rest} {f = v} r) = alone_back s l ts rest v (untabled r)
untabled (tables.joined {s = s} {l = l} {ts = ts} {us = us} {rest = rest} {f = v} {h = w} o m is le a b) =
    looser_back s ts rest (join o v w) l m le
    (joined_back s o m ts rest v w is us (untabled a) (untabled b))
untabled (postfixed {s = s} {ts = ts} {rest = rest} {f = v} {h = h} o is makes r) = post_back s o ts rest v h is makes (untabled r)
untabled (form {s = s} {ts = ts} {rest = rest} {f = v} r) = form_back s ts rest v (untabled r)
untabled whole = (refl, refl)
untabled (sign {q = q} {t = t} {ts = ts} {rest = rest} {f = v} r) = sign_completes q t ts rest v (untabled r)
untabled (read r) = untabled r
untabled (inner {k = k} {ts = ts} {us = us} {rest = rest} {v = w} {f = v} a un b) = inner_enters k ts us rest w v (untabled a) (untabled b)
untabled (opens {t = t} {k = k} {ts = ts} {us = us} {rest = rest} {v = w} {f = v} a un b) =
    opens_enters k (t ∷ ts) us rest w v (untabled a) (untabled b)
