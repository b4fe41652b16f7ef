-- Formulas with definitions written out: they aren't smaller, and well formed if they are small enough.
--
--   stands           == what holds of a proposition, and of all formulas of definitions, holds of what it stands for
--   replaced_larger  == a formula that is written out has no fewer occurrences
--   replaced_logic   == it is of the same logic
--   replaced_well    == it is well formed where it is small enough, and the formulas of the definitions are
use Rattle.std.proofs.Common.{◌≡◌, ℕ, ◌≤◌, Bool, true, false, cond, List, [], ◌∷◌, Some, bytes_eq, unwrap_or, refl, arith}
use Rattle.std.specs.List.{AllByRecursion}
use Rattle.std.specs.Map.{lookup}
use Rattle.ml_text.specs.Limits.{most_occurrences}
use Rattle.ml_text.specs.Operators.{weight}
use Rattle.ml_text.specs.declared.token.Operator.{Operator}
use Rattle.ml_text.specs.declared.token.Operator.TheVariants.{And, Iff, Implies, Or}
use Rattle.ml_ctl.specs.Formula as ctl
use Rattle.ml_ctl.specs.Replaced as ctl_replaced
use Rattle.ml_ctl.specs.WellFormed as ctl_well
use Rattle.ml_ctl.specs.declared.language.Language.{Language}
use Rattle.ml_ctl.specs.declared.language.Language.TheVariants as language
use Rattle.ml_ctl.specs.private.AsSound as ctl_sound
use Rattle.ml_ctl.proofs.SoundReplaced as ctl_kept
use Rattle.ml_mu.specs.Formula as mu
use Rattle.ml_mu.specs.Replaced as mu_replaced
use Rattle.ml_mu.specs.WellFormed as mu_well
use Rattle.ml_mu.specs.private.AsSound as mu_sound
use Rattle.ml_mu.proofs.SoundReplaced as mu_kept
use Rattle.ml_pdl.specs.Formula as pdl
use Rattle.ml_pdl.specs.FormulaNames.{names, program_names}
use Rattle.ml_pdl.specs.Replaced as pdl_replaced
use Rattle.ml_pdl.specs.WellFormed as pdl_well
use Rattle.ml_pdl.specs.private.AsSound as pdl_sound
use Rattle.ml_pdl.proofs.SoundReplaced as pdl_kept
use Rattle.ml_front.specs.Connectives.{occurrences}
use Rattle.ml_front.specs.Logics.{logic_of}
use Rattle.ml_front.specs.Replaced.{Definition, mu_formula, path_formula, pdl_formula, picked, replaced}
use Rattle.ml_front.specs.WellFormed.{IsWellFormed}
use Rattle.ml_front.specs.declared.logic.Logic.{Logic}
use Rattle.ml_front.specs.declared.logic.Logic.TheVariants as logic
use Rattle.ml_front.specs.declared.problem.AnyFormula.{AnyFormula}
use Rattle.ml_front.specs.declared.problem.AnyFormula.TheVariants.{Mu, Pdl, Ctl, Ltl, Word}

pub stands : {F : Type 0} (P : F → Type 0) (test : List ℕ → Bool) (ds : List (List ℕ × F)) (f : F)
    → P f
    → AllByRecursion (λ d. P d.1) ds
    → P (unwrap_or (lookup test ds) f)
stands P test [] f holds all = holds
stands P test (d ∷ ds) f holds all = by (test d.0) (stands P test ds f holds all.1)
  where
    by : (b : Bool) → P (unwrap_or (lookup test ds) f) → P (unwrap_or (cond b (Some d.1) (lookup test ds)) f)
    by true rest = all.0
    by false rest = rest

all_so : {F : Type 0} (P Q : F → Type 0) → ((f : F) → P f → Q f) → (ds : List (List ℕ × F)) → AllByRecursion (λ d. P d.1) ds
    → AllByRecursion (λ d. Q d.1) ds
all_so P Q so [] all = tt
all_so P Q so (d ∷ ds) all = (so d.1 all.0, all_so P Q so ds all.1)

each_so : {F : Type 0} (Q : F → Type 0) → ((f : F) → Q f) → (ds : List (List ℕ × F)) → AllByRecursion (λ d. Q d.1) ds
each_so Q so [] = tt
each_so Q so (d ∷ ds) = (so d.1, each_so Q so ds)

some_weight : (op : Operator) → 1 ≤ weight op
some_weight And = omega arith
some_weight Or = omega arith
some_weight Implies = omega arith
some_weight Iff = omega arith

-- ---- CTL* and LTL

ctl_some : (f : ctl.Formula) → 1 ≤ ctl.occurrences f
ctl_some (ctl.Const b) = omega arith
ctl_some (ctl.Prop p) = omega arith
ctl_some (ctl.Not f) = omega arith
ctl_some (ctl.Binary op f g) = omega (arith, some_weight op)
ctl_some (ctl.Temporal t f) = omega arith
ctl_some (ctl.Paired p f g) = omega arith
ctl_some (ctl.Quantified q f) = omega arith

module _ (ds : List ctl_replaced.Definition) where
  ctl_larger : (f : ctl.Formula) → ctl.occurrences f ≤ ctl.occurrences (ctl_replaced.replaced ds f)
  ctl_larger (ctl.Const b) = omega arith
  ctl_larger (ctl.Prop p) =
      stands (λ g. 1 ≤ ctl.occurrences g) (bytes_eq p) ds (ctl.Prop p) (omega arith)
      (each_so (λ g. 1 ≤ ctl.occurrences g) ctl_some ds)
  ctl_larger (ctl.Not f) = omega (arith, ctl_larger f)
  ctl_larger (ctl.Binary op f g) = omega (arith, ctl_larger f, ctl_larger g)
  ctl_larger (ctl.Temporal t f) = omega (arith, ctl_larger f)
  ctl_larger (ctl.Paired p f g) = omega (arith, ctl_larger f, ctl_larger g)
  ctl_larger (ctl.Quantified q f) = omega (arith, ctl_larger f)

  module _ (w : Language) (all : AllByRecursion (λ d. ctl_well.IsWellFormed w d.1) ds) where
    ctl_as_sound : (f : ctl.Formula) → ctl_sound.IsAsSound w f (ctl_replaced.replaced ds f)
    ctl_as_sound (ctl.Const b) = ctl_kept.itself w (ctl.Const b)
    ctl_as_sound (ctl.Prop p) =
        stands (ctl_sound.IsAsSound w (ctl.Prop p)) (bytes_eq p) ds (ctl.Prop p) (ctl_kept.itself w (ctl.Prop p))
        (all_so (ctl_well.IsWellFormed w) (ctl_sound.IsAsSound w (ctl.Prop p)) (ctl_kept.sound w (ctl.Prop p)) ds all)
    ctl_as_sound (ctl.Not f) = ctl_kept.behind_not w f (ctl_replaced.replaced ds f) (ctl_as_sound f)
    ctl_as_sound (ctl.Binary op f g) =
        ctl_kept.under_operator w op f (ctl_replaced.replaced ds f) g (ctl_replaced.replaced ds g) (ctl_as_sound f) (ctl_as_sound g)
    ctl_as_sound (ctl.Temporal t f) = ctl_kept.behind_tense w t f (ctl_replaced.replaced ds f) (ctl_as_sound f)
    ctl_as_sound (ctl.Paired p f g) =
        ctl_kept.under_pairing w p f (ctl_replaced.replaced ds f) g (ctl_replaced.replaced ds g) (ctl_as_sound f) (ctl_as_sound g)
    ctl_as_sound (ctl.Quantified q f) = ctl_kept.behind_quantifier w q f (ctl_replaced.replaced ds f) (ctl_as_sound f)

-- ---- the mu-calculus

mu_some : (f : mu.Formula) → 1 ≤ mu.occurrences f
mu_some (mu.Const b) = omega arith
mu_some (mu.Prop p) = omega arith
mu_some (mu.Var x) = omega arith
mu_some (mu.Not f) = omega arith
mu_some (mu.Binary op f g) = omega (arith, some_weight op)
mu_some (mu.Modal m a f) = omega arith
mu_some (mu.Binder q x f) = omega arith

module _ (ds : List mu_replaced.Definition) where
  mu_larger : (f : mu.Formula) → mu.occurrences f ≤ mu.occurrences (mu_replaced.replaced ds f)
  mu_larger (mu.Const b) = omega arith
  mu_larger (mu.Var x) = omega arith
  mu_larger (mu.Prop p) =
      stands (λ g. 1 ≤ mu.occurrences g) (bytes_eq p) ds (mu.Prop p) (omega arith)
      (each_so (λ g. 1 ≤ mu.occurrences g) mu_some ds)
  mu_larger (mu.Not f) = omega (arith, mu_larger f)
  mu_larger (mu.Binary op f g) = omega (arith, mu_larger f, mu_larger g)
  mu_larger (mu.Modal m a f) = omega (arith, mu_larger f)
  mu_larger (mu.Binder q x f) = omega (arith, mu_larger f)

  module _ (all : AllByRecursion (λ d. mu_well.IsWellFormed d.1) ds) where
    mu_as_sound : (f : mu.Formula) → mu_sound.IsAsSound f (mu_replaced.replaced ds f)
    mu_as_sound (mu.Const b) = mu_kept.itself (mu.Const b)
    mu_as_sound (mu.Var x) = mu_kept.itself (mu.Var x)
    mu_as_sound (mu.Prop p) =
        stands (mu_sound.IsAsSound (mu.Prop p)) (bytes_eq p) ds (mu.Prop p) (mu_kept.itself (mu.Prop p))
        (all_so mu_well.IsWellFormed (mu_sound.IsAsSound (mu.Prop p)) (mu_kept.sound (mu.Prop p)) ds all)
    mu_as_sound (mu.Not f) = mu_kept.behind_not f (mu_replaced.replaced ds f) (mu_as_sound f)
    mu_as_sound (mu.Binary op f g) =
        mu_kept.under_operator op f (mu_replaced.replaced ds f) g (mu_replaced.replaced ds g) (mu_as_sound f) (mu_as_sound g)
    mu_as_sound (mu.Modal m a f) = mu_kept.behind_modality m a f (mu_replaced.replaced ds f) (mu_as_sound f)
    mu_as_sound (mu.Binder q x f) = mu_kept.behind_binder q x f (mu_replaced.replaced ds f) (mu_as_sound f)

-- ---- PDL

pdl_some : (f : pdl.Formula) → 1 ≤ pdl.occurrences f
pdl_some (pdl.Const b) = omega arith
pdl_some (pdl.Prop p) = omega arith
pdl_some (pdl.Not f) = omega arith
pdl_some (pdl.Binary op f g) = omega (arith, some_weight op)
pdl_some (pdl.Modal m p f) = omega arith
pdl_some (pdl.Repeat p) = omega arith

module _ (ds : List pdl_replaced.Definition) where
  mutual
    pdl_larger : (f : pdl.Formula) → pdl.occurrences f ≤ pdl.occurrences (pdl_replaced.replaced ds f)
    pdl_larger (pdl.Const b) = omega arith
    pdl_larger (pdl.Prop p) =
        stands (λ g. 1 ≤ pdl.occurrences g) (bytes_eq p) ds (pdl.Prop p) (omega arith)
        (each_so (λ g. 1 ≤ pdl.occurrences g) pdl_some ds)
    pdl_larger (pdl.Not f) = omega (arith, pdl_larger f)
    pdl_larger (pdl.Binary op f g) = omega (arith, pdl_larger f, pdl_larger g)
    pdl_larger (pdl.Modal m p f) = omega (arith, program_larger p, pdl_larger f)
    pdl_larger (pdl.Repeat p) = omega (arith, program_larger p)

    program_larger : (p : pdl.Program) → pdl.program_occurrences p ≤ pdl.program_occurrences (pdl_replaced.replaced_program ds p)
    program_larger (pdl.Act a) = omega arith
    program_larger (pdl.Seq p q) = omega (arith, program_larger p, program_larger q)
    program_larger (pdl.Alt p q) = omega (arith, program_larger p, program_larger q)
    program_larger (pdl.Star p) = omega (arith, program_larger p)
    program_larger (pdl.Test f) = omega (arith, pdl_larger f)

  module _ (all : AllByRecursion (λ d. pdl_well.IsWellFormed d.1) ds) where
    mutual
      pdl_as_sound : (f : pdl.Formula) → pdl_sound.IsAsSound f (pdl_replaced.replaced ds f)
      pdl_as_sound (pdl.Const b) = pdl_kept.itself (names (pdl.Const b))
      pdl_as_sound (pdl.Prop p) =
          stands (pdl_sound.IsAsSound (pdl.Prop p)) (bytes_eq p) ds (pdl.Prop p) (pdl_kept.itself (names (pdl.Prop p)))
          (all_so pdl_well.IsWellFormed (pdl_sound.IsAsSound (pdl.Prop p)) (pdl_kept.sound (names (pdl.Prop p))) ds all)
      pdl_as_sound (pdl.Not f) = pdl_as_sound f
      pdl_as_sound (pdl.Binary op f g) =
          pdl_kept.both (names f) (names (pdl_replaced.replaced ds f)) (names g) (names (pdl_replaced.replaced ds g))
          (pdl_as_sound f) (pdl_as_sound g)
      pdl_as_sound (pdl.Modal m p f) =
          pdl_kept.both (program_names p) (program_names (pdl_replaced.replaced_program ds p)) (names f)
          (names (pdl_replaced.replaced ds f)) (program_as_sound p) (pdl_as_sound f)
      pdl_as_sound (pdl.Repeat p) = program_as_sound p

      program_as_sound : (p : pdl.Program) → pdl_sound.IsAsSoundProgram p (pdl_replaced.replaced_program ds p)
      program_as_sound (pdl.Act a) = pdl_kept.itself (program_names (pdl.Act a))
      program_as_sound (pdl.Seq p q) =
          pdl_kept.both (program_names p) (program_names (pdl_replaced.replaced_program ds p)) (program_names q)
          (program_names (pdl_replaced.replaced_program ds q)) (program_as_sound p) (program_as_sound q)
      program_as_sound (pdl.Alt p q) =
          pdl_kept.both (program_names p) (program_names (pdl_replaced.replaced_program ds p)) (program_names q)
          (program_names (pdl_replaced.replaced_program ds q)) (program_as_sound p) (program_as_sound q)
      program_as_sound (pdl.Star p) = program_as_sound p
      program_as_sound (pdl.Test f) = pdl_as_sound f

-- ---- any logic

pub replaced_larger : (ds : List Definition) (f : AnyFormula) → occurrences f ≤ occurrences (replaced ds f)
replaced_larger ds (Mu f) = mu_larger (picked mu_formula ds) f
replaced_larger ds (Pdl f) = pdl_larger (picked pdl_formula ds) f
replaced_larger ds (Ctl f) = ctl_larger (picked path_formula ds) f
replaced_larger ds (Ltl f) = ctl_larger (picked path_formula ds) f
replaced_larger ds (Word f) = ctl_larger (picked path_formula ds) f

pub replaced_logic : (ds : List Definition) (f : AnyFormula) → logic_of (replaced ds f) ≡ logic_of f
replaced_logic ds (Mu f) = refl
replaced_logic ds (Pdl f) = refl
replaced_logic ds (Ctl f) = refl
replaced_logic ds (Ltl f) = refl
replaced_logic ds (Word f) = refl

-- definitions of a logic whose formulas are well formed
abbrev pub AreWellDefined : Logic → List Definition → Type 0
AreWellDefined l ds = AllByRecursion (λ d. (logic_of d.1 ≡ l) × IsWellFormed d.1) ds

picked_mu : (ds : List Definition) → AreWellDefined logic.Mu ds → AllByRecursion (λ d. mu_well.IsWellFormed d.1) (picked mu_formula ds)
picked_mu [] all = tt
picked_mu ((p, Mu f) ∷ ds) all = (all.0.1, picked_mu ds all.1)
picked_mu ((p, Pdl f) ∷ ds) all = let wrong = all.0.0 in absurd cc
picked_mu ((p, Ctl f) ∷ ds) all = let wrong = all.0.0 in absurd cc
picked_mu ((p, Ltl f) ∷ ds) all = let wrong = all.0.0 in absurd cc
picked_mu ((p, Word f) ∷ ds) all = let wrong = all.0.0 in absurd cc

picked_pdl : (ds : List Definition)
    → AreWellDefined logic.Pdl ds
    → AllByRecursion (λ d. pdl_well.IsWellFormed d.1) (picked pdl_formula ds)
picked_pdl [] all = tt
picked_pdl ((p, Pdl f) ∷ ds) all = (all.0.1, picked_pdl ds all.1)
picked_pdl ((p, Mu f) ∷ ds) all = let wrong = all.0.0 in absurd cc
picked_pdl ((p, Ctl f) ∷ ds) all = let wrong = all.0.0 in absurd cc
picked_pdl ((p, Ltl f) ∷ ds) all = let wrong = all.0.0 in absurd cc
picked_pdl ((p, Word f) ∷ ds) all = let wrong = all.0.0 in absurd cc

picked_ctl : (ds : List Definition)
    → AreWellDefined logic.Ctl ds
    → AllByRecursion (λ d. ctl_well.IsWellFormed language.Ctl d.1) (picked path_formula ds)
picked_ctl [] all = tt
picked_ctl ((p, Ctl f) ∷ ds) all = (all.0.1, picked_ctl ds all.1)
picked_ctl ((p, Mu f) ∷ ds) all = let wrong = all.0.0 in absurd cc
picked_ctl ((p, Pdl f) ∷ ds) all = let wrong = all.0.0 in absurd cc
picked_ctl ((p, Ltl f) ∷ ds) all = let wrong = all.0.0 in absurd cc
picked_ctl ((p, Word f) ∷ ds) all = let wrong = all.0.0 in absurd cc

picked_ltl : (ds : List Definition)
    → AreWellDefined logic.Ltl ds
    → AllByRecursion (λ d. ctl_well.IsWellFormed language.Ltl d.1) (picked path_formula ds)
picked_ltl [] all = tt
picked_ltl ((p, Ltl f) ∷ ds) all = (all.0.1, picked_ltl ds all.1)
picked_ltl ((p, Mu f) ∷ ds) all = let wrong = all.0.0 in absurd cc
picked_ltl ((p, Pdl f) ∷ ds) all = let wrong = all.0.0 in absurd cc
picked_ltl ((p, Ctl f) ∷ ds) all = let wrong = all.0.0 in absurd cc
picked_ltl ((p, Word f) ∷ ds) all = let wrong = all.0.0 in absurd cc

picked_word : (ds : List Definition)
    → AreWellDefined logic.Word ds
    → AllByRecursion (λ d. ctl_well.IsWellFormed language.Ltl d.1) (picked path_formula ds)
picked_word [] all = tt
picked_word ((p, Word f) ∷ ds) all = (all.0.1, picked_word ds all.1)
picked_word ((p, Mu f) ∷ ds) all = let wrong = all.0.0 in absurd cc
picked_word ((p, Pdl f) ∷ ds) all = let wrong = all.0.0 in absurd cc
picked_word ((p, Ctl f) ∷ ds) all = let wrong = all.0.0 in absurd cc
picked_word ((p, Ltl f) ∷ ds) all = let wrong = all.0.0 in absurd cc

pub replaced_well : (ds : List Definition) (f : AnyFormula)
    → AreWellDefined (logic_of f) ds
    → IsWellFormed f
    → occurrences (replaced ds f) ≤ most_occurrences
    → IsWellFormed (replaced ds f)
replaced_well ds (Mu f) all well small =
    let es = picked mu_formula ds in
    mu_kept.replaced_is_held f (mu_replaced.replaced es f) well (mu_as_sound es (picked_mu ds all) f) small
replaced_well ds (Pdl f) all well small =
    let es = picked pdl_formula ds in
    pdl_kept.replaced_is_held f (pdl_replaced.replaced es f) well (pdl_as_sound es (picked_pdl ds all) f) small
replaced_well ds (Ctl f) all well small =
    let es = picked path_formula ds in
    ctl_kept.replaced_is_held language.Ctl f (ctl_replaced.replaced es f) well
    (ctl_as_sound es language.Ctl (picked_ctl ds all) f) small
replaced_well ds (Ltl f) all well small =
    let es = picked path_formula ds in
    ctl_kept.replaced_is_held language.Ltl f (ctl_replaced.replaced es f) well
    (ctl_as_sound es language.Ltl (picked_ltl ds all) f) small
replaced_well ds (Word f) all well small =
    let es = picked path_formula ds in
    ctl_kept.replaced_is_held language.Ltl f (ctl_replaced.replaced es f) well
    (ctl_as_sound es language.Ltl (picked_word ds all) f) small
