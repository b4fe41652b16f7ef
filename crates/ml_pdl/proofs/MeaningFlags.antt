-- A meaning has one flag for each state.
--
--   meaning_flags  == it has
use Rattle.std.proofs.Common.{◌≡◌, ℕ, zero, suc, true, not, length, ◌∙◌}
use Rattle.std.proofs.lemmas.List.{length-map, length-replicate}
use Rattle.std.proofs.lemmas.List.FromFn.{length-map-range_with_len}
use Rattle.ml_lists.specs.Iterate.{iterate}
use Rattle.ml_base.specs.Structure.{Structure, lists, is_member, everywhere}
use Rattle.ml_pdl.specs.Formula.{Formula, Const, Prop, Not, Binary, Modal, Repeat}
use Rattle.ml_pdl.specs.declared.term.Modality.TheVariants.{Diamond, Square}
use Rattle.ml_text.specs.Operators.{truth_of}
use Rattle.ml_pdl.specs.Meaning.{Relation, some_run, every_run, modal, meaning, relation}

iterate_flags : (m : Structure) (r : Relation) (k : ℕ)
    → length (iterate k (modal m Diamond r) (everywhere m)) ≡ m.states
iterate_flags m r zero = length-replicate m.states true
iterate_flags m r (suc k) =
    length-map-range_with_len (some_run m r (iterate k (modal m Diamond r) (everywhere m))) 0 m.states

pub meaning_flags : (m : Structure) (f : Formula) → length (meaning m f) ≡ m.states
meaning_flags m (Const b) = length-map-range_with_len (λ s. b) 0 m.states
meaning_flags m (Prop p) = length-map-range_with_len (λ s. lists m s p) 0 m.states
meaning_flags m (Not f) = length-map (meaning m f) not ∙ meaning_flags m f
meaning_flags m (Binary op f h) =
    length-map-range_with_len (λ s. truth_of op (is_member (meaning m f) s) (is_member (meaning m h) s)) 0 m.states
meaning_flags m (Modal Diamond p f) = length-map-range_with_len (some_run m (relation m p) (meaning m f)) 0 m.states
meaning_flags m (Modal Square p f) = length-map-range_with_len (every_run m (relation m p) (meaning m f)) 0 m.states
meaning_flags m (Repeat p) = iterate_flags m (relation m p) m.states
