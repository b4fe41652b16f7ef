-- What the evaluator's parts compute, as meanings.
--
--   body_step m g x f   == what the body f makes of the set that x means
--   constant_value      == all flags one value: the meaning of a constant
--   binary_value        == two meanings joined flag by flag: the meaning of a connective
--   binary_flags        == and it has as many flags
--   stops_early         == an iterate that is its own next one is the last one too
--   iterates_once_more  == the next iterate
use Rattle.std.proofs.Common.{◌≡◌, ℕ, ◌+◌, ◌≤◌, Bool, false, List, ◌∷◌, length, map, replicate, sym, ap, ◌∙◌, arith}
use Rattle.std.specs.List.{range_with_len, zip}
use Rattle.std.proofs.lemmas.List.{length-map}
use Rattle.std.proofs.lemmas.Slice.Zip.{length-zip}
use Rattle.ml_lists.specs.Iterate.{iterate}
use Rattle.ml_lists.proofs.Iterates.{iterate_once_more, iterate_stays}
use Rattle.ml_lists.proofs.Tables.{table_const, table_zip}
use Rattle.ml_text.specs.declared.token.Operator.{Operator}
use Rattle.ml_base.specs.Structure.{Structure, StateSet, is_member}
use Rattle.ml_mu.specs.Formula.{Formula, Const, Binary}
use Rattle.ml_text.specs.Operators.{truth_of}
use Rattle.ml_mu.specs.Meaning.{Given, meaning}

abbrev pub body_step : Structure → Given → List ℕ → Formula → StateSet → StateSet
body_step m g x f set = meaning m ((x, set) ∷ g) f

pub constant_value : (m : Structure) (g : Given) (b : Bool) (set : StateSet)
    → set ≡ replicate m.states b
    → set ≡ meaning m g (Const b)
constant_value m g b set is = is ∙ table_const b 0 m.states

pub binary_value : (m : Structure) (g : Given) (op : Operator) (f h : Formula) (left right set : StateSet)
    → left ≡ meaning m g f → right ≡ meaning m g h → length left ≡ m.states → length right ≡ m.states
    → set ≡ map (λ (p : Bool × Bool). truth_of op p.0 p.1) (zip left right) → set ≡ meaning m g (Binary op f h)
binary_value m g op f h left right set left_is right_is left_long right_long is =
    is ∙ table_zip (truth_of op) left right false m.states left_long right_long
    ∙ ap (λ a. map (λ s. truth_of op (is_member a s) (is_member right s)) (range_with_len 0 m.states)) left_is
    ∙ ap (λ b. map (λ s. truth_of op (is_member (meaning m g f) s) (is_member b s)) (range_with_len 0 m.states)) right_is

pub iterates_once_more : (step : StateSet → StateSet) (first set next : StateSet) (k : ℕ)
    → set ≡ iterate k step first
    → next ≡ step set
    → next ≡ iterate (k + 1) step first
iterates_once_more step first set next k so_far is = is ∙ ap step so_far ∙ sym (iterate_once_more step first k)

pub stops_early : (step : StateSet → StateSet) (first set next : StateSet) (k n : ℕ)
    → set ≡ iterate k step first
    → next ≡ step set
    → next ≡ set
    → k ≤ n
    → set ≡ iterate n step first
stops_early step first set next k n so_far is same within =
    so_far ∙ sym (iterate_stays step first k n (ap step (sym so_far) ∙ sym is ∙ same ∙ so_far) within)

pub binary_flags : (n : ℕ) (op : Operator) (left right set : StateSet) → length left ≡ n → length right ≡ n
    → set ≡ map (λ (p : Bool × Bool). truth_of op p.0 p.1) (zip left right) → length set ≡ n
binary_flags n op left right set left_long right_long is =
    let mapped = length-map (zip left right) (λ (p : Bool × Bool). truth_of op p.0 p.1) in
    ap length is ∙ mapped ∙ omega (arith, length-zip left right)
