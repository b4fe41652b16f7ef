-- Sets of states by inclusion: the members of one set of flags are members of another.
--
--   Within s t         == each member of s is a member of t
--   within_both        == two sets of as many flags that lie within one another are equal
--   nowhere_within     == the empty set lies within each set
--   within_everywhere  == each set of n flags lies within the set of all
--   within_not         == complements turn inclusion round
--   within_where       == so do the states that pass one test lie within those that pass a weaker one
--   truth_implied      == a truth value implies another
use Rattle.std.proofs.Common.{◌≡◌, ℕ, ◌<◌, Bool, true, false, not, length, map, replicate, get_or, refl, sym, ap, ◌∙◌, arith}
use Rattle.std.specs.List.{range_with_len}
use Rattle.std.proofs.lemmas.Bool.{true≢false}
use Rattle.std.proofs.lemmas.List.{length-map, length-replicate, get_or-map, get_or-replicate, get_or_default, same_lists}
use Rattle.std.proofs.lemmas.List.FromFn.{length-map-range_with_len, get_or-map-range_with_len}
use Rattle.ml_lists.proofs.Says.{same_truth}
use Rattle.ml_base.specs.Structure.{StateSet, is_member}
use Rattle.ml_base.proofs.StateSets.{member_below}

abbrev pub Implies : Bool → Bool → Type 0
Implies a b = a ≡ true → b ≡ true

-- each member of the one set is one of the other
abbrev pub Within : StateSet → StateSet → Type 0
Within s t = (k : ℕ) → Implies (is_member s k) (is_member t k)

pub implies_not : (a b : Bool) → Implies a b → Implies (not b) (not a)
implies_not true b there h = absurd (true≢false (sym h ∙ ap not (there refl)))
implies_not false b there h = refl

pub within_both : (s t : StateSet) → length s ≡ length t → Within s t → Within t s → s ≡ t
within_both s t long there back =
    same_lists s t long
    (λ k d below.
    get_or_default s k d false below ∙ same_truth (get_or s k false) (get_or t k false) (there k) (back k)
    ∙ get_or_default t k false d (omega (arith, long)))

pub nowhere_within : (n : ℕ) (t : StateSet) → Within (replicate n false) t
nowhere_within n t k inside =
    let below : k < n = omega (arith, member_below (replicate n false) k inside, length-replicate n false) in
    absurd (true≢false (sym inside ∙ get_or-replicate n k false false below))

pub within_everywhere : (n : ℕ) (s : StateSet) → length s ≡ n → Within s (replicate n true)
within_everywhere n s long k inside =
    let below : k < n = omega (arith, member_below s k inside, long) in get_or-replicate n k true false below

pub within_not : (n : ℕ) (s t : StateSet) → length s ≡ n → length t ≡ n → Within s t → Within (map not t) (map not s)
within_not n s t s_long t_long there k inside =
    let below : k < n = omega (arith, member_below (map not t) k inside, length-map t not, t_long) in
    let here : is_member (map not t) k ≡ not (is_member t k) = get_or-map not t k false false (omega (arith, t_long)) in
    let there' : is_member (map not s) k ≡ not (is_member s k) = get_or-map not s k false false (omega (arith, s_long)) in
    there' ∙ implies_not (is_member s k) (is_member t k) (there k) (sym here ∙ inside)

pub within_where : (n : ℕ) (f g : ℕ → Bool)
    → ((k : ℕ) → Implies (f k) (g k))
    → Within (map f (range_with_len 0 n)) (map g (range_with_len 0 n))
within_where n f g there k inside =
    let below : k < n = omega (arith, member_below (map f (range_with_len 0 n)) k inside, length-map-range_with_len f 0 n) in
    get_or-map-range_with_len g 0 n k k false below (omega arith)
    ∙ there k (sym (get_or-map-range_with_len f 0 n k k false below (omega arith)) ∙ inside)
