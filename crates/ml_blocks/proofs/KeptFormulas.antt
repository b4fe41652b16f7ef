-- What is kept of a formula, and of its operands.
--
--   formula_is, occurrence_is, eventualities_are == what is read at its number
--   of_not, of_left, of_right, of_tense, before, behind, of_quantifier == an operand is kept too, where it stands
--   kept_at          == what stands somewhere is kept there
use Rattle.std.proofs.Common.{ℕ, ◌≡◌, ◌+◌, Bool, true, [], ◌++◌, Option, None, Some, sym, subst}
use Rattle.std.specs.List.{AllByRecursion}
use Rattle.std.proofs.lemmas.Option.{get_or_from_slice_get}
use Rattle.ml_text.specs.Names.{Proposition, of_kind}
use Rattle.ml_text.proofs.NameLists.{is_among}
use Rattle.ml_text.proofs.Names.{kind_parts}
use Rattle.ml_text.specs.declared.token.Operator.{Operator}
use Rattle.ml_text.specs.Operators.{weight}
use Rattle.ml_ctl.specs.Formula.{Formula, Const, Not, Binary, Temporal, Paired, Quantified, occurrences}
use Rattle.ml_ctl.specs.FormulaNames.{names}
use Rattle.ml_ctl.specs.declared.term.Tense.{Tense}
use Rattle.ml_ctl.specs.declared.term.Pairing.{Pairing}
use Rattle.ml_ctl.specs.declared.term.Quantifier.{Quantifier}
use Rattle.ml_blocks.specs.private.Occurrences.{formula_here, occurrence_here, eventualities_here, entry_at, eventualities_at, entry, sign_of}
use Rattle.ml_blocks.specs.private.Views.{AreAmong, Kept, Stands, IsKept, formula_at}
use Rattle.ml_blocks.specs.declared.table.Symbol.TheVariants as symbol
use Rattle.ml_blocks.proofs.SpreadLists.{head_stands}

module _ (K : Kept) where
  pub formula_is : (i : ℕ) (f : Formula) (o : Option Bool) → Stands K i f o → formula_at K.formulas i ≡ f
  formula_is i f o s =
      get_or_from_slice_get K.formulas i f (Const true) (head_stands formula_here K.formulas i f o s.formulas)

  pub occurrence_is : (i : ℕ) (f : Formula) (o : Option Bool)
      → Stands K i f o
      → entry_at K.occurrences i ≡ occurrence_here K.names i f o
  occurrence_is i f o s =
      get_or_from_slice_get K.occurrences i (occurrence_here K.names i f o) (entry (symbol.Const true) 0 0)
      (head_stands (occurrence_here K.names) K.occurrences i f o s.occurrences)

  pub eventualities_are : (i : ℕ) (f : Formula) (o : Option Bool)
      → Stands K i f o
      → eventualities_at K.eventualities i ≡ eventualities_here i f o
  eventualities_are i f o s =
      get_or_from_slice_get K.eventualities i (eventualities_here i f o) []
      (head_stands eventualities_here K.eventualities i f o s.eventualities)

  pub kept_at : (i : ℕ) (f : Formula) (o : Option Bool) → Stands K i f o → IsKept K i
  kept_at i f o s = record { first = o; stands = subst (λ g. Stands K i g o) (sym (formula_is i f o s)) s }

  operands_among : (f g : Formula)
      → AllByRecursion (λ p. is_among K.names p ≡ true) (of_kind Proposition (names f ++ names g))
      → AreAmong K.names f × AreAmong K.names g
  operands_among f g all = kind_parts (λ p. is_among K.names p ≡ true) Proposition (names f) (names g) all

  pub of_not : (i : ℕ) (f : Formula) (o : Option Bool) → Stands K i (Not f) o → Stands K (i + 1) f None
  of_not i f o s =
      record { formulas = s.formulas.1; occurrences = s.occurrences.1; eventualities = s.eventualities.1; among = s.among }

  pub of_left : (op : Operator) (i : ℕ) (f g : Formula) (o : Option Bool)
      → Stands K i (Binary op f g) o
      → Stands K (i + weight op) f None
  of_left op i f g o s =
      let parts = operands_among f g s.among in
      record { formulas = s.formulas.1; occurrences = s.occurrences.1; eventualities = s.eventualities.1; among = parts.0 }

  pub of_right : (op : Operator) (i : ℕ) (f g : Formula) (o : Option Bool)
      → Stands K i (Binary op f g) o
      → Stands K (i + weight op + occurrences f) g None
  of_right op i f g o s =
      let parts = operands_among f g s.among in
      record { formulas = s.formulas.2; occurrences = s.occurrences.2; eventualities = s.eventualities.2; among = parts.1 }

  pub of_tense : (t : Tense) (i : ℕ) (f : Formula) (o : Option Bool)
      → Stands K i (Temporal t f) o
      → Stands K (i + 1) f None
  of_tense t i f o s =
      record { formulas = s.formulas.1; occurrences = s.occurrences.1; eventualities = s.eventualities.1; among = s.among }

  pub before : (p : Pairing) (i : ℕ) (f g : Formula) (o : Option Bool)
      → Stands K i (Paired p f g) o
      → Stands K (i + 1) f None
  before p i f g o s =
      let parts = operands_among f g s.among in
      record { formulas = s.formulas.1; occurrences = s.occurrences.1; eventualities = s.eventualities.1; among = parts.0 }

  pub behind : (p : Pairing) (i : ℕ) (f g : Formula) (o : Option Bool)
      → Stands K i (Paired p f g) o
      → Stands K (i + 1 + occurrences f) g None
  behind p i f g o s =
      let parts = operands_among f g s.among in
      record { formulas = s.formulas.2; occurrences = s.occurrences.2; eventualities = s.eventualities.2; among = parts.1 }

  pub of_quantifier : (q : Quantifier) (i : ℕ) (f : Formula) (o : Option Bool)
      → Stands K i (Quantified q f) o
      → Stands K (i + 1) f (Some (sign_of q))
  of_quantifier q i f o s =
      record { formulas = s.formulas.1; occurrences = s.occurrences.1; eventualities = s.eventualities.1; among = s.among }
