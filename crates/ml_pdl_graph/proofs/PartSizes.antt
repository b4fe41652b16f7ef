-- The sizes of a formula's parts, as a program looks them up.
--
--   length-sizes, length-program_sizes == there is one for each occurrence
--   measures, program_measures         == sizes that stand in a list from a place on are those that are looked up there
--   all_measured                       == so are those of a whole formula
use Rattle.std.proofs.Common.{◌≡◌, ℕ, ◌+◌, List, [], ◌∷◌, ◌++◌, length, append-nil, refl, sym, ap, ◌∙◌, arith, length-append}
use Rattle.ml_text.specs.declared.token.Operator.{Operator}
use Rattle.ml_text.specs.declared.token.Operator.TheVariants as operator
use Rattle.ml_text.specs.Operators.{weight}
use Rattle.ml_pdl.specs.Formula.{Formula, Const, Prop, Not, Binary, Modal, Repeat, Program, Act, Seq, Alt, Star, Test, occurrences, program_occurrences}
use Rattle.ml_nodes.proofs.Holding.{Holds, held_at, held_first, held_later, held_left, held_right}
use Rattle.ml_pdl_graph.specs.private.Sizes.{IsSize, Measures, ProgramMeasures, operator_sizes, program_sizes, sizes_of}

length-operator : (op : Operator) (n : ℕ) → length (operator_sizes op n) ≡ weight op
length-operator operator.And n = refl
length-operator operator.Or n = refl
length-operator operator.Implies n = refl
length-operator operator.Iff n = refl

mutual
  pub length-sizes : (f : Formula) → length (sizes_of f) ≡ occurrences f
  length-sizes (Const b) = refl
  length-sizes (Prop p) = refl
  length-sizes (Not f) = omega (arith, length-sizes f)
  length-sizes (Binary op f h) =
      let own = operator_sizes op (occurrences (Binary op f h)) in
      omega (
        arith,
        length-append own (sizes_of f ++ sizes_of h),
        length-append (sizes_of f) (sizes_of h),
        length-operator op (occurrences (Binary op f h)),
        length-sizes f,
        length-sizes h,
      )
  length-sizes (Modal m p f) =
      omega (arith, length-append (program_sizes p) (sizes_of f), length-program_sizes p, length-sizes f)
  length-sizes (Repeat p) = omega (arith, length-program_sizes p)

  pub length-program_sizes : (p : Program) → length (program_sizes p) ≡ program_occurrences p
  length-program_sizes (Act a) = refl
  length-program_sizes (Seq p q) =
      omega (arith, length-append (program_sizes p) (program_sizes q), length-program_sizes p, length-program_sizes q)
  length-program_sizes (Alt p q) =
      omega (arith, length-append (program_sizes p) (program_sizes q), length-program_sizes p, length-program_sizes q)
  length-program_sizes (Star p) = omega (arith, length-program_sizes p)
  length-program_sizes (Test f) = omega (arith, length-sizes f)

module _ (sizes : List ℕ) where
  first_is : (at y : ℕ) (ys : List ℕ) → Holds sizes at (y ∷ ys) → IsSize sizes at y
  first_is at y ys h =
      let split = ap length h.split in
      let whole = length-append h.before ((y ∷ ys) ++ h.behind) in
      (omega (arith, split, whole, h.starts), held_first sizes at y ys 0 h)

  size_is : (at : ℕ) (f : Formula) → Holds sizes at (sizes_of f) → IsSize sizes at (occurrences f)
  size_is at (Const b) h = first_is at _ _ h
  size_is at (Prop p) h = first_is at _ _ h
  size_is at (Not f) h = first_is at _ _ h
  size_is at (Binary operator.And f e) h = first_is at _ _ h
  size_is at (Binary operator.Or f e) h = first_is at _ _ h
  size_is at (Binary operator.Implies f e) h = first_is at _ _ h
  size_is at (Binary operator.Iff f e) h = first_is at _ _ h
  size_is at (Modal m p f) h = first_is at _ _ h
  size_is at (Repeat p) h = first_is at _ _ h

  program_size_is : (at : ℕ) (p : Program) → Holds sizes at (program_sizes p) → IsSize sizes at (program_occurrences p)
  program_size_is at (Act a) h = first_is at _ _ h
  program_size_is at (Seq p q) h = first_is at _ _ h
  program_size_is at (Alt p q) h = first_is at _ _ h
  program_size_is at (Star p) h = first_is at _ _ h
  program_size_is at (Test f) h = first_is at _ _ h

  -- behind n sizes
  behind : (at n : ℕ) (xs ys : List ℕ) → length xs ≡ n → Holds sizes at (xs ++ ys) → Holds sizes (at + n) ys
  behind at n xs ys long h = held_at sizes (at + length xs) (at + n) ys (ap (λ k. at + k) long) (held_right sizes at xs ys h)

  mutual
    pub measures : (at : ℕ) (f : Formula) → Holds sizes at (sizes_of f) → Measures sizes at f
    measures at (Const b) h = tt
    measures at (Prop p) h = tt
    measures at (Not f) h = measures (at + 1) f (held_later sizes at (occurrences (Not f)) (sizes_of f) h)
    measures at (Binary op f e) h =
        let l = at + weight op in
        let n = occurrences (Binary op f e) in
        let parts = behind at (weight op) (operator_sizes op n) (sizes_of f ++ sizes_of e) (length-operator op n) h in
        let left = held_left sizes l (sizes_of f) (sizes_of e) parts in (
          size_is l f left,
          measures l f left,
          measures (l + occurrences f) e (behind l (occurrences f) (sizes_of f) (sizes_of e) (length-sizes f) parts),
        )
    measures at (Modal m p f) h =
        let l = at + 1 in
        let n = program_occurrences p in
        let parts = held_later sizes at (occurrences (Modal m p f)) (program_sizes p ++ sizes_of f) h in
        let left = held_left sizes l (program_sizes p) (sizes_of f) parts in (
          program_size_is l p left,
          program_measures l p left,
          measures (l + n) f (behind l n (program_sizes p) (sizes_of f) (length-program_sizes p) parts),
        )
    measures at (Repeat p) h =
        program_measures (at + 1) p (held_later sizes at (occurrences (Repeat p)) (program_sizes p) h)

    pub program_measures : (at : ℕ) (p : Program) → Holds sizes at (program_sizes p) → ProgramMeasures sizes at p
    program_measures at (Act a) h = tt
    program_measures at (Seq p q) h =
        let l = at + 1 in
        let n = program_occurrences p in
        let parts = held_later sizes at (program_occurrences (Seq p q)) (program_sizes p ++ program_sizes q) h in
        let left = held_left sizes l (program_sizes p) (program_sizes q) parts in (
          program_size_is l p left,
          program_measures l p left,
          program_measures (l + n) q (behind l n (program_sizes p) (program_sizes q) (length-program_sizes p) parts),
        )
    program_measures at (Alt p q) h =
        let l = at + 1 in
        let n = program_occurrences p in
        let parts = held_later sizes at (program_occurrences (Alt p q)) (program_sizes p ++ program_sizes q) h in
        let left = held_left sizes l (program_sizes p) (program_sizes q) parts in (
          program_size_is l p left,
          program_measures l p left,
          program_measures (l + n) q (behind l n (program_sizes p) (program_sizes q) (length-program_sizes p) parts),
        )
    program_measures at (Star p) h =
        program_measures (at + 1) p (held_later sizes at (program_occurrences (Star p)) (program_sizes p) h)
    program_measures at (Test f) h =
        measures (at + 1) f (held_later sizes at (program_occurrences (Test f)) (sizes_of f) h)

  pub all_measured : (f : Formula) → sizes ≡ sizes_of f → Measures sizes 0 f
  all_measured f are =
      measures 0 f (record { before = []; behind = []; split = are ∙ sym (append-nil (sizes_of f)); starts = refl })
