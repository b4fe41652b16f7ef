-- How many occurrences the parts of a formula have, as a program counts them once.
--
--   operator_sizes op n         == the number n, as often as the connective counts
--   sizes_of f, program_sizes p == for each occurrence of f, or of p, in preorder, how many its part has
--   IsSize sizes at n           == the size at this place is n
--   Measures sizes i f, ProgramMeasures sizes i p == the sizes have, from the occurrence i on, those that the program asks
--                                  for: at each part that another one stands behind, that of the first
use Rattle.std.specs.Prelude.{ℕ, ◌≡◌, ◌+◌, ◌<◌, ⊤, List, [], ◌∷◌, ◌++◌, length, slice_index}
use Rattle.ml_text.specs.declared.token.Operator.{Operator}
use Rattle.ml_text.specs.declared.token.Operator.TheVariants as operator
use Rattle.ml_text.specs.Operators.{weight}
use Rattle.ml_pdl.specs.Formula.{Formula, Const, Prop, Not, Binary, Modal, Repeat, Program, Act, Seq, Alt, Star, Test, occurrences, program_occurrences}

abbrev pub operator_sizes : Operator → ℕ → List ℕ
operator_sizes operator.And n = n ∷ []
operator_sizes operator.Or n = n ∷ []
operator_sizes operator.Implies n = n ∷ []
operator_sizes operator.Iff n = n ∷ n ∷ n ∷ []

abbrev mutual
  pub sizes_of : Formula → List ℕ
  sizes_of (Const b) = 1 ∷ []
  sizes_of (Prop p) = 1 ∷ []
  sizes_of (Not f) = occurrences (Not f) ∷ sizes_of f
  sizes_of (Binary op f h) = operator_sizes op (occurrences (Binary op f h)) ++ (sizes_of f ++ sizes_of h)
  sizes_of (Modal m p f) = occurrences (Modal m p f) ∷ (program_sizes p ++ sizes_of f)
  sizes_of (Repeat p) = occurrences (Repeat p) ∷ program_sizes p

  pub program_sizes : Program → List ℕ
  program_sizes (Act a) = 1 ∷ []
  program_sizes (Seq p q) = program_occurrences (Seq p q) ∷ (program_sizes p ++ program_sizes q)
  program_sizes (Alt p q) = program_occurrences (Alt p q) ∷ (program_sizes p ++ program_sizes q)
  program_sizes (Star p) = program_occurrences (Star p) ∷ program_sizes p
  program_sizes (Test f) = program_occurrences (Test f) ∷ sizes_of f

abbrev pub IsSize : List ℕ → ℕ → ℕ → Type 0
IsSize sizes at n = (at < length sizes) × (slice_index sizes at ≡ n)

abbrev mutual
  pub Measures : List ℕ → ℕ → Formula → Type 0
  Measures sizes at (Const b) = ⊤
  Measures sizes at (Prop p) = ⊤
  Measures sizes at (Not f) = Measures sizes (at + 1) f
  Measures sizes at (Binary op f h) =
      let l = at + weight op in let n = occurrences f in
      IsSize sizes l n × Measures sizes l f × Measures sizes (l + n) h
  Measures sizes at (Modal m p f) =
      let l = at + 1 in let n = program_occurrences p in
      IsSize sizes l n × ProgramMeasures sizes l p × Measures sizes (l + n) f
  Measures sizes at (Repeat p) = ProgramMeasures sizes (at + 1) p

  pub ProgramMeasures : List ℕ → ℕ → Program → Type 0
  ProgramMeasures sizes at (Act a) = ⊤
  ProgramMeasures sizes at (Seq p q) =
      let l = at + 1 in let n = program_occurrences p in
      IsSize sizes l n × ProgramMeasures sizes l p × ProgramMeasures sizes (l + n) q
  ProgramMeasures sizes at (Alt p q) =
      let l = at + 1 in let n = program_occurrences p in
      IsSize sizes l n × ProgramMeasures sizes l p × ProgramMeasures sizes (l + n) q
  ProgramMeasures sizes at (Star p) = ProgramMeasures sizes (at + 1) p
  ProgramMeasures sizes at (Test f) = Measures sizes (at + 1) f
