-- What each logic proves of its words, texts and problems, said of all: a further logic adds its line to each of these.
--
--   PlainOf l, any l e == the formulas of the logic l; such a formula as one of any logic
--   of_logic           == a formula whose logic is l is one of these
--   logic_read         == the word of a logic names it
--   one_logic          == no two logics have one word
--   formula_once       == a text stands for one formula of a logic at most
--   formula_or_refused == a text that stands for one is refused for want of memory alone
--   some_answer        == a text stands for one, or is refused for a reason of its own
--   has_formula        == whether a text stands for one is decided
--   text_in_line       == the canonical text of a formula stands in one line
--   text_parsed        == and is read back
--   parsed_well        == a formula that a text stands for is well formed
use Rattle.std.proofs.Common.{◌≡◌, ◌≢◌, ℕ, ◌⊎◌, List, inl, inr, refl, sym, ap, subst, ◌∙◌}
use Rattle.ml_base.specs.declared.parse_refusal.ParseRefusal.{ParseRefusal}
use Rattle.ml_base.specs.declared.parse_refusal.ParseRefusal.TheVariants as refusal
use Rattle.ml_lines.proofs.LineFronts.{IsInLine}
use Rattle.ml_lists.proofs.Decided.{Decided}
use Rattle.ml_text.specs.Answers.{HaveOneAnswer}
use Rattle.ml_ctl.specs.Formula as ctl_formula
use Rattle.ml_ctl.specs.declared.language.Language.TheVariants as language
use Rattle.ml_ctl.proofs.CanonicalParsed as ctl_canonical
use Rattle.ml_ctl.proofs.OneAnswer as ctl_answer
use Rattle.ml_ctl.proofs.Parsed as ctl_parsed
use Rattle.ml_mu.specs.Formula as mu_formula
use Rattle.ml_mu.proofs.CanonicalParsed as mu_canonical
use Rattle.ml_mu.proofs.OneAnswer as mu_answer
use Rattle.ml_mu.proofs.Parsed as mu_parsed
use Rattle.ml_pdl.specs.Formula as pdl_formula
use Rattle.ml_pdl.proofs.CanonicalParsed as pdl_canonical
use Rattle.ml_pdl.proofs.OneAnswer as pdl_answer
use Rattle.ml_pdl.proofs.Parsed as pdl_parsed
use Rattle.ml_front.specs.HeadRules.{IsFormulaOf}
use Rattle.ml_front.specs.Logics.{canonical_text, logic_of, logic_word, some_logic, IsParsedAs, IsRefusedBy}
use Rattle.ml_front.specs.WellFormed.{IsWellFormed}
use Rattle.ml_front.specs.declared.logic.Logic.{Logic}
use Rattle.ml_front.specs.declared.logic.Logic.TheVariants as logic
use Rattle.ml_front.specs.declared.problem.AnyFormula.{AnyFormula}
use Rattle.ml_front.specs.declared.problem.AnyFormula.TheVariants.{Mu, Pdl, Ctl, Ltl, Word}
use Rattle.ml_mu.proofs.CanonicalLines as mu_lines
use Rattle.ml_ctl.proofs.CanonicalLines as ctl_lines
use Rattle.ml_pdl.proofs.CanonicalLines as pdl_lines

-- ---- formulas by their logics

abbrev PlainOf : Logic → Type 0
PlainOf logic.Mu = mu_formula.Formula
PlainOf logic.Pdl = pdl_formula.Formula
PlainOf logic.Ctl = ctl_formula.Formula
PlainOf logic.Ltl = ctl_formula.Formula
PlainOf logic.Word = ctl_formula.Formula

abbrev any : (l : Logic) → PlainOf l → AnyFormula
any logic.Mu e = Mu e
any logic.Pdl e = Pdl e
any logic.Ctl e = Ctl e
any logic.Ltl e = Ltl e
any logic.Word e = Word e

logic_of_any : (l : Logic) (e : PlainOf l) → logic_of (any l e) ≡ l
logic_of_any logic.Mu e = refl
logic_of_any logic.Pdl e = refl
logic_of_any logic.Ctl e = refl
logic_of_any logic.Ltl e = refl
logic_of_any logic.Word e = refl

abbrev IsAny : AnyFormula → Logic → Type 0
IsAny f l = (e : PlainOf l) × (f ≡ any l e)

is_any : (f : AnyFormula) → IsAny f (logic_of f)
is_any (Mu e) = (e, refl)
is_any (Pdl e) = (e, refl)
is_any (Ctl e) = (e, refl)
is_any (Ltl e) = (e, refl)
is_any (Word e) = (e, refl)

of_logic : (l : Logic) (f : AnyFormula) → logic_of f ≡ l → IsAny f l
of_logic l f same = subst (IsAny f) same (is_any f)

-- ---- words

pub logic_read : (l : Logic) → some_logic (logic_word l) ≡ l
logic_read logic.Mu = refl
logic_read logic.Pdl = refl
logic_read logic.Ctl = refl
logic_read logic.Ltl = refl
logic_read logic.Word = refl

pub one_logic : (l k : Logic) → logic_word l ≡ logic_word k → l ≡ k
one_logic l k same = sym (logic_read l) ∙ ap some_logic same ∙ logic_read k

-- ---- texts

answers : (l : Logic) → HaveOneAnswer (λ text (e : PlainOf l). IsParsedAs text (any l e)) (IsRefusedBy l)
answers logic.Mu = mu_answer.one_answer
answers logic.Pdl = pdl_answer.one_answer
answers logic.Ctl = ctl_answer.one_answer language.Ctl
answers logic.Ltl = ctl_answer.one_answer language.Ltl
answers logic.Word = ctl_answer.one_answer language.Ltl

pub formula_once : (text : List ℕ) (f g : AnyFormula)
    → logic_of f ≡ logic_of g
    → IsParsedAs text f
    → IsParsedAs text g
    → f ≡ g
formula_once text f g same parsed again =
    let l = logic_of g in
    let here = of_logic l f same in
    let there = is_any g in
    here.1
    ∙ ap (any l) ((answers l).parsed text here.0 there.0 (subst (IsParsedAs text) here.1 parsed) (subst (IsParsedAs text) there.1 again))
    ∙ sym there.1

pub formula_or_refused : (l : Logic) (text : List ℕ) (f : AnyFormula) (e : ParseRefusal)
    → logic_of f ≡ l
    → IsParsedAs text f
    → IsRefusedBy l text e
    → e ≡ refusal.NoMemory
formula_or_refused l text f e same parsed refused =
    let here = of_logic l f same in
    (answers l).exclusive text here.0 e (subst (IsParsedAs text) here.1 parsed) refused

-- a text that is refused for a reason of its own
abbrev IsRefused : Logic → List ℕ → Type 0
IsRefused l text = (e : ParseRefusal) × (e ≢ refusal.NoMemory) × IsRefusedBy l text e

in_logic : (l : Logic) (text : List ℕ)
    → ((e : PlainOf l) × IsParsedAs text (any l e)) ⊎ IsRefused l text
    → IsFormulaOf l text ⊎ IsRefused l text
in_logic l text (inl (e, parsed)) = inl (any l e, logic_of_any l e, parsed)
in_logic l text (inr refused) = inr refused

pub some_answer : (l : Logic) (text : List ℕ) → IsFormulaOf l text ⊎ IsRefused l text
some_answer l text = in_logic l text ((answers l).some text)

pub has_formula : (l : Logic) (text : List ℕ) → Decided (IsFormulaOf l text)
has_formula l text = go (some_answer l text)
  where
    go : IsFormulaOf l text ⊎ IsRefused l text → Decided (IsFormulaOf l text)
    go (inl formula) = inl formula
    go (inr (e, some, refused)) = inr (λ (f, same, parsed). some (formula_or_refused l text f e same parsed refused))

pub text_in_line : (f : AnyFormula) → IsWellFormed f → IsInLine (canonical_text f)
text_in_line (Mu f) well = mu_lines.canonical_in_line f well.names_are_spelled
text_in_line (Pdl f) well = pdl_lines.canonical_in_line f well.names_are_spelled
text_in_line (Ctl f) well = ctl_lines.canonical_in_line f well.names_are_spelled
text_in_line (Ltl f) well = ctl_lines.canonical_in_line f well.names_are_spelled
text_in_line (Word f) well = ctl_lines.canonical_in_line f well.names_are_spelled

pub text_parsed : (f : AnyFormula) → IsWellFormed f → IsParsedAs (canonical_text f) f
text_parsed (Mu f) well = mu_canonical.canonical_parsed f well
text_parsed (Pdl f) well = pdl_canonical.canonical_parsed f well
text_parsed (Ctl f) well = ctl_canonical.canonical_parsed language.Ctl f well
text_parsed (Ltl f) well = ctl_canonical.canonical_parsed language.Ltl f well
text_parsed (Word f) well = ctl_canonical.canonical_parsed language.Ltl f well

pub parsed_well : (text : List ℕ) (f : AnyFormula) → IsParsedAs text f → IsWellFormed f
parsed_well text (Mu f) parsed = mu_parsed.parsed_well text f parsed
parsed_well text (Pdl f) parsed = pdl_parsed.parsed_well text f parsed
parsed_well text (Ctl f) parsed = ctl_parsed.parsed_well language.Ctl text f parsed
parsed_well text (Ltl f) parsed = ctl_parsed.parsed_well language.Ltl text f parsed
parsed_well text (Word f) parsed = ctl_parsed.parsed_well language.Ltl text f parsed
