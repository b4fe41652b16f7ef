-- Each formula has an occurrence, and so does each program.
use Rattle.std.proofs.Common.{◌≤◌, arith}
use Rattle.ml_pdl.specs.Formula.{Formula, Const, Prop, Not, Binary, Modal, Repeat, Program, Act, Seq, Alt, Star, Test, occurrences, program_occurrences}

pub some_occurrence : (f : Formula) → 1 ≤ occurrences f
some_occurrence (Const b) = omega arith
some_occurrence (Prop p) = omega arith
some_occurrence (Not f) = omega arith
some_occurrence (Binary op f g) = omega (arith, some_occurrence f)
some_occurrence (Modal m p f) = omega arith
some_occurrence (Repeat p) = omega arith

pub some_program_occurrence : (p : Program) → 1 ≤ program_occurrences p
some_program_occurrence (Act a) = omega arith
some_program_occurrence (Seq p q) = omega arith
some_program_occurrence (Alt p q) = omega arith
some_program_occurrence (Star p) = omega arith
some_program_occurrence (Test f) = omega arith
