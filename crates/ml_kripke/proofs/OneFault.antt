-- A text is a model's or has one first bad line, and never both.
--
--   fault_or_model   == never both
--   model_or_fault   == one of the two
--   one_fault        == a text has one first bad line at most
--   rules_rise       == the numbers of the rules of a line rise
use Rattle.std.proofs.Common.{⊎_elim, inl, inr, arith, [], ◌∷◌}
use Rattle.ml_base.specs.declared.doc_fault.DocFault.{DocFault}
use Rattle.ml_lines.specs.Reading.{left_of}
use Rattle.ml_lines.proofs.Faults as text
use Rattle.ml_lists.proofs.Ascending.{ascending-one, ascending-cons}
use Rattle.ml_kripke.specs.BodyRules.{AtStates, AtStart, AtState, AtEdge, AtNothing, body, IsFaultOf, IsReadableBody}
use Rattle.ml_kripke.specs.Laws.{FaultOrModel, ModelOrFault, OneFault, ReadableIsModel, RulesRise}
use Rattle.ml_kripke.proofs.JudgedLines.{judges}
use Rattle.ml_kripke.proofs.ReadableBodies.{model_readable, readable_model}

pub readable_is_model : ReadableIsModel
readable_is_model t = (readable_model t, model_readable t)

pub fault_or_model : FaultOrModel
fault_or_model t first fault is found = text.readable_no_fault body first AtStates t fault (model_readable t is) found

pub model_or_fault : ModelOrFault
model_or_fault t first =
    ⊎_elim
    (λ (readable : IsReadableBody t). inl (readable_model t readable))
    (λ (fault : (f : DocFault) × IsFaultOf t first f). inr fault)
    (text.readable_or_fault body first AtStates t (judges (left_of t)))

pub one_fault : OneFault
one_fault t first e f x y = text.one_fault body first AtStates t e f x y

pub rules_rise : RulesRise
rules_rise left AtStates =
    ascending-cons 11 12 (13 ∷ []) (omega arith) (ascending-cons 12 13 [] (omega arith) (ascending-one 13))
rules_rise left (AtStart n) =
    ascending-cons 11 12 (14 ∷ []) (omega arith) (ascending-cons 12 14 [] (omega arith) (ascending-one 14))
rules_rise left (AtState n i) =
    ascending-cons 11 12 (15 ∷ 16 ∷ []) (omega arith)
    (ascending-cons 12 15 (16 ∷ []) (omega arith) (ascending-cons 15 16 [] (omega arith) (ascending-one 16)))
rules_rise left (AtEdge n before) =
    ascending-cons 11 12 (17 ∷ []) (omega arith) (ascending-cons 12 17 [] (omega arith) (ascending-one 17))
rules_rise left AtNothing = ascending-one 11
