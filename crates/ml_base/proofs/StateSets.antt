-- Sets of states, as lists of flags.
--
--   member_where  == a state is in the set of those that pass a test exactly where it passes
--   member_below  == what is in a set is one of its flags
--   same_flags    == two lists of flags that pass the test for equality are equal
use Rattle.std.proofs.Common.{◌≡◌, ℕ, ◌<◌, ◌≤◌, Bool, true, false, length, refl, sym, ◌∙◌, ⊎_elim, arith}
use Rattle.std.specs.Cmp.{booleans_Decides}
use Rattle.std.specs.Cmp.Lexicographic.{pointwise}
use Rattle.std.proofs.Math.Bool.{beq}
use Rattle.std.proofs.lemmas.Bool.{cases_lt, true≢false}
use Rattle.std.proofs.lemmas.List.{get_or_past}
use Rattle.std.proofs.lemmas.List.FromFn.{get_or-map-range_with_len}
use Rattle.std.proofs.lemmas.Slice.Eq.{slice_eq-Decides}
use Rattle.ml_base.specs.Structure.{Structure, StateSet, is_member, states_where}

pub member_where : (m : Structure) (test : ℕ → Bool) (s : ℕ) → s < m.states → is_member (states_where m test) s ≡ test s
member_where m test s low = get_or-map-range_with_len test 0 m.states s s false low (omega arith)

pub member_below : (set : StateSet) (k : ℕ) → is_member set k ≡ true → k < length set
member_below set k inside =
    ⊎_elim
    (λ (below : k < length set). below)
    (λ (past : length set ≤ k). absurd (true≢false (sym inside ∙ get_or_past set k false past)))
    (cases_lt k (length set))

pub same_flags : (left right : StateSet) → true ≡ pointwise beq left right → left ≡ right
same_flags left right test = (slice_eq-Decides booleans_Decides left right true test).0 refl
