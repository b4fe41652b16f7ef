-- Definitions as the program holds them, and what they are written out to.
--
--   mu_back, pdl_back, ctl_back, ltl_back, word_back == what is picked of the entries of a logic are these
--   mu_replaced, pdl_replaced, ctl_replaced, ltl_replaced, word_replaced == so replacing is that of the logic
--   mu_inserted, pdl_inserted, ctl_inserted, ltl_inserted, word_inserted == an entry is added to definitions as to the entries
use Rattle.std.proofs.Common.{◌≡◌, ℕ, Bool, true, false, if◌then◌else◌, List, [], ◌∷◌, map, refl, sym, ap, bytes_eq}
use Rattle.indexmap.specs.IndexMap.{insert_entry}
use Rattle.ml_ctl.specs.Formula as ctl_formulas
use Rattle.ml_ctl.specs.Replaced as ctl
use Rattle.ml_mu.specs.Formula as mu_formulas
use Rattle.ml_mu.specs.Replaced as mu
use Rattle.ml_pdl.specs.Formula as pdl_formulas
use Rattle.ml_pdl.specs.Replaced as pdl
use Rattle.ml_front.specs.Definitions.{defined_by}
use Rattle.ml_front.specs.Replaced.{Definition, mu_formula, path_formula, pdl_formula, picked, replaced}
use Rattle.ml_front.specs.declared.problem.AnyFormula.{AnyFormula}
use Rattle.ml_front.specs.declared.problem.AnyFormula.TheVariants.{Mu, Pdl, Ctl, Ltl, Word}

mu_back : (es : List mu.Definition) → picked mu_formula (defined_by Mu es) ≡ es
mu_back [] = refl
mu_back (e ∷ es) = ap (λ r. e ∷ r) (mu_back es)

pdl_back : (es : List pdl.Definition) → picked pdl_formula (defined_by Pdl es) ≡ es
pdl_back [] = refl
pdl_back (e ∷ es) = ap (λ r. e ∷ r) (pdl_back es)

ctl_back : (es : List ctl.Definition) → picked path_formula (defined_by Ctl es) ≡ es
ctl_back [] = refl
ctl_back (e ∷ es) = ap (λ r. e ∷ r) (ctl_back es)

ltl_back : (es : List ctl.Definition) → picked path_formula (defined_by Ltl es) ≡ es
ltl_back [] = refl
ltl_back (e ∷ es) = ap (λ r. e ∷ r) (ltl_back es)

word_back : (es : List ctl.Definition) → picked path_formula (defined_by Word es) ≡ es
word_back [] = refl
word_back (e ∷ es) = ap (λ r. e ∷ r) (word_back es)

pub mu_replaced : (es : List mu.Definition) (f : mu_formulas.Formula)
    → replaced (defined_by Mu es) (Mu f) ≡ Mu (mu.replaced es f)
mu_replaced es f = ap (λ ds. Mu (mu.replaced ds f)) (mu_back es)

pub pdl_replaced : (es : List pdl.Definition) (f : pdl_formulas.Formula)
    → replaced (defined_by Pdl es) (Pdl f) ≡ Pdl (pdl.replaced es f)
pdl_replaced es f = ap (λ ds. Pdl (pdl.replaced ds f)) (pdl_back es)

pub ctl_replaced : (es : List ctl.Definition) (f : ctl_formulas.Formula)
    → replaced (defined_by Ctl es) (Ctl f) ≡ Ctl (ctl.replaced es f)
ctl_replaced es f = ap (λ ds. Ctl (ctl.replaced ds f)) (ctl_back es)

pub ltl_replaced : (es : List ctl.Definition) (f : ctl_formulas.Formula)
    → replaced (defined_by Ltl es) (Ltl f) ≡ Ltl (ctl.replaced es f)
ltl_replaced es f = ap (λ ds. Ltl (ctl.replaced ds f)) (ltl_back es)

pub word_replaced : (es : List ctl.Definition) (f : ctl_formulas.Formula)
    → replaced (defined_by Word es) (Word f) ≡ Word (ctl.replaced es f)
word_replaced es f = ap (λ ds. Word (ctl.replaced ds f)) (word_back es)

-- ---- one definition more

one_more : {F : Type 0} (of : F → AnyFormula) (here : Bool) (e : List ℕ × F) (f : F) (es more : List (List ℕ × F))
    (ds : List Definition)
    → defined_by of more ≡ ds
    → defined_by of (if here then (e.0, f) ∷ es else e ∷ more)
    ≡ (if here then (e.0, of f) ∷ defined_by of es else (e.0, of e.1) ∷ ds)
one_more of true e f es more ds is = refl
one_more of false e f es more ds is = ap (λ r. (e.0, of e.1) ∷ r) is

inserted : {F : Type 0} (of : F → AnyFormula) (es : List (List ℕ × F)) (n : List ℕ) (f : F)
    → defined_by of (insert_entry bytes_eq es n f) ≡ insert_entry bytes_eq (defined_by of es) n (of f)
inserted of [] n f = refl
inserted of (e ∷ es) n f = one_more of (bytes_eq n e.0) e f es (insert_entry bytes_eq es n f) _ (inserted of es n f)

pub mu_inserted : (es : List mu.Definition) (n : List ℕ) (f : mu_formulas.Formula)
    → insert_entry bytes_eq (defined_by Mu es) n (Mu f) ≡ defined_by Mu (insert_entry bytes_eq es n f)
mu_inserted es n f = sym (inserted Mu es n f)

pub pdl_inserted : (es : List pdl.Definition) (n : List ℕ) (f : pdl_formulas.Formula)
    → insert_entry bytes_eq (defined_by Pdl es) n (Pdl f) ≡ defined_by Pdl (insert_entry bytes_eq es n f)
pdl_inserted es n f = sym (inserted Pdl es n f)

pub ctl_inserted : (es : List ctl.Definition) (n : List ℕ) (f : ctl_formulas.Formula)
    → insert_entry bytes_eq (defined_by Ctl es) n (Ctl f) ≡ defined_by Ctl (insert_entry bytes_eq es n f)
ctl_inserted es n f = sym (inserted Ctl es n f)

pub ltl_inserted : (es : List ctl.Definition) (n : List ℕ) (f : ctl_formulas.Formula)
    → insert_entry bytes_eq (defined_by Ltl es) n (Ltl f) ≡ defined_by Ltl (insert_entry bytes_eq es n f)
ltl_inserted es n f = sym (inserted Ltl es n f)

pub word_inserted : (es : List ctl.Definition) (n : List ℕ) (f : ctl_formulas.Formula)
    → insert_entry bytes_eq (defined_by Word es) n (Word f) ≡ defined_by Word (insert_entry bytes_eq es n f)
word_inserted es n f = sym (inserted Word es n f)
