-- The tables of PDL are regular and can be completed, so all that is proved of the machine holds of PDL texts.
--
--   pdl_regular     == no form of PDL that begins an operand opens into another
--   pdl_completable == each form of PDL can be ended
--   stands_read     == what the tables stand for is a formula that the grammar reads
--   read_stands     == what the grammar reads, the tables stand for
--   one_formula     == signs stand for one formula at most
use Rattle.std.proofs.Common.{◌≡◌, true, List, [], ◌∷◌, ◌++◌, Some, refl, ap, subst}
use Rattle.ml_text.specs.Grammar.{More, Inner, Opens, Behind, Operand, Rest, alone, inner, sign, read, form, whole, front, IsStop, IsRegular, Ending, IsCompletable, StandsFor}
use Rattle.ml_text.specs.declared.token.Operator.TheVariants.{Iff}
use Rattle.ml_text.specs.Levels.{Joined}
use Rattle.ml_text.proofs.Complete.{one_tree}
use Rattle.ml_pdl.specs.Formula as plain
use Rattle.ml_pdl.specs.Formula.{Formula, Program}
use Rattle.ml_pdl.specs.declared.term.Modality.{Modality}
use Rattle.ml_text.specs.declared.named_signs.Sign.TheVariants.{Not, Const, Close, Added}
use Rattle.ml_pdl.specs.Signs.{Sign}
use Rattle.ml_pdl.specs.declared.signs.Own.TheVariants.{Begins, Blank, Ends, Paren, Question, Repeats}
use Rattle.ml_pdl.specs.declared.signs.Mark.TheVariants.{Marked, Unmarked}
use Rattle.ml_pdl.specs.Grammar.{IsReadAs}
use Rattle.ml_pdl.specs.Tables.{Phrase, OfFormula, OfProgram, Name, formula_of, program_of, negated, Sort, Formulas, Programs, Wait}
use Rattle.ml_pdl.specs.Tables.{FormulaStart, ProgramStart, BehindBegin, BehindProgram, BehindRepeat, BehindRepeatInside, BehindFormulaInside}
use Rattle.ml_pdl.specs.Tables.{BehindProgramInside, BehindTestInside, BehindNegations, BehindTested, Hold, Negation, ModalProgram, Modal}
use Rattle.ml_pdl.specs.Tables.{FormulaGroup, ProgramGroup, RepeatGroup, TestGroup, blank, shift, start, resume, pdl_grammar}
use Rattle.ml_pdl.proofs.ToTables.{Tabled, begin_end, modal_read, program_end, sign_by, tabled}
use Rattle.ml_pdl.proofs.FromTables.{AsFormula, untabled}

never_opens : (s : Sort) (t : Sign) (k : Hold) → shift (start s) t ≡ Some (Opens k) → ⊥
never_opens Formulas Not k is = cc
never_opens Formulas (Added (Paren m)) k is = cc
never_opens Formulas (Added (Begins m)) k is = cc
never_opens Formulas (Added Repeats) k is = cc
never_opens Formulas (Added _) k is = cc
never_opens Formulas _ k is = cc
never_opens Programs (Added (Paren Marked)) k is = cc
never_opens Programs (Added (Paren Unmarked)) k is = cc
never_opens Programs (Added Blank) k is = cc
never_opens Programs (Added _) k is = cc
never_opens Programs _ k is = cc

pub pdl_regular : IsRegular pdl_grammar
pdl_regular s t k is = never_opens s t k is

-- `tt` is read as an operand, whatever follows
read_true : (rest : List Sign) → Tabled (Operand Formulas) (Const true ∷ rest) (OfFormula (plain.Const true)) rest
read_true rest = form (sign (read whole))

modal_true : (t : Sign) (m : Modality) (p : Program) (rest : List Sign)
    → Tabled (Behind t (Some (Inner (Modal m p)))) (Const true ∷ rest) (OfFormula (plain.Modal m p (plain.Const true))) rest
modal_true t m p rest = modal_read m p (alone (read_true rest))

test_end : (f : Formula) (rest : List Sign)
    → Tabled (Rest (More (BehindTested f))) (Added Question ∷ rest) (OfProgram (plain.Test f)) rest
test_end f rest = sign (read whole)

-- `_)` ends a repetition
read_blank : (rest : List Sign) → Tabled (Operand Programs) (Added Blank ∷ rest) (OfProgram blank) rest
read_blank rest = form (sign (read whole))

ending : (q : Wait) → Ending pdl_grammar q
ending FormulaStart = record { signs = Const true ∷ []; tree = OfFormula (plain.Const true); reads = λ rest stop. sign (read whole) }
ending ProgramStart = record { signs = Added Blank ∷ []; tree = OfProgram blank; reads = λ rest stop. sign (read whole) }
ending (BehindBegin m) =
    record {
      signs = Added (Ends m) ∷ Const true ∷ [];
      tree = OfFormula (plain.Modal m blank (plain.Const true));
      reads = λ rest stop. sign_by (Some (Inner (Modal m blank))) (begin_end m) (modal_true (Added (Ends m)) m blank rest);
    }
ending (BehindProgram m p) =
    record {
      signs = Added (Ends m) ∷ Const true ∷ [];
      tree = OfFormula (plain.Modal m p (plain.Const true));
      reads = λ rest stop. sign_by (Some (Inner (Modal m p))) (program_end m p) (modal_true (Added (Ends m)) m p rest);
    }
ending BehindRepeat = record {
  signs = Added (Paren Unmarked) ∷ Added Blank ∷ Close ∷ [];
  tree = OfFormula (plain.Repeat blank);
  reads = λ rest stop. sign (inner (alone (read_blank (Close ∷ rest))) refl (sign (read whole)));
}
ending (BehindRepeatInside p) = record { signs = Close ∷ []; tree = OfFormula (plain.Repeat p); reads = λ rest stop. sign (read whole) }
ending (BehindFormulaInside f) = record { signs = Close ∷ []; tree = OfFormula f; reads = λ rest stop. sign (read whole) }
ending (BehindProgramInside p) = record { signs = Close ∷ []; tree = OfProgram p; reads = λ rest stop. sign (read whole) }
ending (BehindTestInside f) =
    record {
      signs = Close ∷ Added Question ∷ [];
      tree = OfProgram (plain.Test f);
      reads = λ rest stop. sign (read (test_end f rest));
    }
ending (BehindNegations n) =
    record {
      signs = Const true ∷ Added Question ∷ [];
      tree = OfProgram (plain.Test (negated n (plain.Const true)));
      reads = λ rest stop. sign (read (test_end (negated n (plain.Const true)) rest));
    }
ending (BehindTested f) = record { signs = Added Question ∷ []; tree = OfProgram (plain.Test f); reads = λ rest stop. test_end f rest }

stop_close : (rest : List Sign) → IsStop pdl_grammar (Some Close)
stop_close rest Formulas l = refl
stop_close rest Programs l = refl

stop_end : (m : Modality) → IsStop pdl_grammar (Some (Added (Ends m)))
stop_end m Formulas l = refl
stop_end m Programs l = refl

closes : (k : Hold) (v : Phrase) (q : Wait)
    → resume k v ≡ More q
    → (rest : List Sign)
    → IsStop pdl_grammar (front ((ending q).signs ++ rest))
unfolding ending
closes Negation v q is rest = absurd (cc)
closes (Modal m p) v q is rest = absurd (cc)
closes (ModalProgram m) v q is rest =
    let same : BehindProgram m (program_of v) ≡ q = cc in
    subst (λ w. IsStop pdl_grammar (front ((ending w).signs ++ rest))) same (stop_end m)
closes FormulaGroup v q is rest =
    let same : BehindFormulaInside (formula_of v) ≡ q = cc in
    subst (λ w. IsStop pdl_grammar (front ((ending w).signs ++ rest))) same (stop_close rest)
closes RepeatGroup v q is rest =
    let same : BehindRepeatInside (program_of v) ≡ q = cc in
    subst (λ w. IsStop pdl_grammar (front ((ending w).signs ++ rest))) same (stop_close rest)
closes ProgramGroup v q is rest =
    let same : BehindProgramInside (program_of v) ≡ q = cc in
    subst (λ w. IsStop pdl_grammar (front ((ending w).signs ++ rest))) same (stop_close rest)
closes (TestGroup n) v q is rest =
    let same : BehindTestInside (negated n (formula_of v)) ≡ q = cc in
    subst (λ w. IsStop pdl_grammar (front ((ending w).signs ++ rest))) same (stop_close rest)

pub pdl_completable : IsCompletable pdl_grammar
unfolding ending closes
pdl_completable = record { ending = ending; closes = closes }

-- the tree of a whole text is a formula
formula_stands : (ts : List Sign) (v : Phrase)
    → AsFormula (Joined Iff) ts v []
    → (f : Formula) × (OfFormula f ≡ v) × IsReadAs ts f
formula_stands ts (OfFormula f) r = (f, refl, r)
formula_stands ts (OfProgram p) r = absurd r
formula_stands ts (Name a) r = absurd r

pub stands_read : (ts : List Sign) (v : Phrase)
    → StandsFor pdl_grammar ts v
    → (f : Formula) × (OfFormula f ≡ v) × IsReadAs ts f
stands_read ts v is = formula_stands ts v (untabled is)

pub read_stands : (ts : List Sign) (f : Formula) → IsReadAs ts f → StandsFor pdl_grammar ts (OfFormula f)
read_stands ts f is = tabled is

pub one_formula : (ts : List Sign) (f g : Formula) → IsReadAs ts f → IsReadAs ts g → f ≡ g
one_formula ts f g a b = ap formula_of (one_tree pdl_grammar pdl_regular ts (OfFormula f) (OfFormula g) (read_stands ts f a) (read_stands ts g b))
