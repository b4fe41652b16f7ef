-- The game over one automaton in the game over another one, whose states are those of the first under other names.
--
--   valuation_low     == the valuation of a set of inputs and a set of outputs is one of their valuations
--   Renames d e s t i o == the states of d, from s on, have names as states of e, which goes alike from t on
--   image             == a position under the new names
--   more_positions    == so where the game over d has more than n positions, that over e has
use Rattle.std.proofs.Common.{◌≡◌, ℕ, suc, ◌+◌, ◌*◌, ◌^◌, ◌<◌, ◌≤◌, List, [], ◌∷◌, map, inl, inr, refl, sym, ap, subst, arith}
use Rattle.std.proofs.Math.Nat.{mul-le-mul_left, mul-suc}
use Rattle.std.proofs.lemmas.Nat.{pow-add}
use Rattle.std.proofs.lemmas.List.{length-map}
use Rattle.ml_lists.specs.Member.{IsMember}
use Rattle.ml_lists.proofs.FirstEntries.{AreApart}
use Rattle.ml_lists.proofs.Member.{Image, member-map_from}
use Rattle.ml_trace.specs.WordAutomata.{DetAutomaton}
use Rattle.ml_synthesis.specs.Game.{HasMorePositions, IsReached, Moves, Position, along, at_start, at_state, by_inputs, by_outputs, with_inputs}
use Rattle.ml_synthesis.specs.Machines.{valuation}

-- ---- valuations

pub valuation_low : (i o ins outs : ℕ) → ins < 2 ^ i → outs < 2 ^ o → valuation i ins outs < 2 ^ (i + o)
valuation_low i o ins outs low few =
    let more : 2 ^ i * suc outs ≤ 2 ^ i * 2 ^ o = mul-le-mul_left (2 ^ i) few in
    let next = mul-suc (2 ^ i) outs in
    let whole = pow-add 2 i o in
    omega (arith, low, more, next, whole)

-- ---- names

pub record Renames {S T : Type 0} (d : DetAutomaton S ℕ) (e : DetAutomaton T ℕ) (s : S) (t : T) (i o : ℕ) : Type 1 where
  pub Has : S → Type 0
  pub name : S → T
  pub starts : Has s
  pub goes_on : (x : S) (v : ℕ) → Has x → v < 2 ^ (i + o) → Has (d.next x v)
  pub begins : name s ≡ t
  pub next : (x : S) (v : ℕ) → Has x → v < 2 ^ (i + o) → name (d.next x v) ≡ e.next (name x) v
  pub priority : (x : S) (v : ℕ) → Has x → v < 2 ^ (i + o) → d.priority x v ≡ e.priority (name x) v
  pub one : (x y : S) → Has x → Has y → name x ≡ name y → x ≡ y

module _ {S T : Type 0} (d : DetAutomaton S ℕ) (e : DetAutomaton T ℕ) (s : S) (t : T) (i o : ℕ)
    (r : Renames d e s t i o) where
  abbrev image : Position S → Position T
  image (at_state q p) = at_state (r.name q) p
  image (with_inputs q ins) = with_inputs (r.name q) ins

  abbrev HasState : Position S → Type 0
  HasState (at_state q p) = r.Has q
  HasState (with_inputs q ins) = r.Has q

  module _ (neutral : ℕ) where
    -- a position that is reached has a name, and this is reached
    record IsNamed (x : Position S) : Type 0 where
      pub has : HasState x
      pub reached : IsReached e t neutral i o (image x)

    to_inputs : (q : S) (p ins : ℕ) → ins < 2 ^ i → IsNamed (at_state q p) → IsNamed (with_inputs q ins)
    to_inputs q p ins low n = record {
      has = n.has;
      reached =
          along (at_state (r.name q) p) (with_inputs (r.name q) ins) n.reached (by_inputs (r.name q) p ins low);
    }

    to_outputs : (q : S) (ins outs : ℕ)
        → valuation i ins outs < 2 ^ (i + o)
        → outs < 2 ^ o
        → IsNamed (with_inputs q ins)
        → IsNamed (at_state (d.next q (valuation i ins outs)) (d.priority q (valuation i ins outs)))
    to_outputs q ins outs low few n =
        let v = valuation i ins outs in
        let next = r.next q v n.has low in
        let priority = r.priority q v n.has low in
        record {
          has = r.goes_on q v n.has low;
          reached =
              subst (IsReached e t neutral i o) (λ j. at_state (sym next j) (sym priority j))
              (along (with_inputs (r.name q) ins) (at_state (e.next (r.name q) v) (e.priority (r.name q) v)) n.reached
              (by_outputs (r.name q) ins outs few));
        }

    -- a set of inputs that is chosen is one
    IsSet : Position S → Type 0
    IsSet (at_state q p) = Unit {0}
    IsSet (with_inputs q ins) = ins < 2 ^ i

    set_on : (x y : Position S) → Moves d i o x y → IsSet y
    unfolding IsSet
    set_on x y (by_inputs q p ins low) = low
    set_on x y (by_outputs q ins outs few) = tt

    is_set : (x : Position S) → IsReached d s neutral i o x → IsSet x
    unfolding IsSet
    is_set x at_start = tt
    is_set x (along y z is_reached move) = set_on y z move

    named_on : (x y : Position S) → IsSet x → IsNamed x → Moves d i o x y → IsNamed y
    unfolding IsSet
    named_on x y set n (by_inputs q p ins low) = to_inputs q p ins low n
    named_on x y set n (by_outputs q ins outs few) = to_outputs q ins outs (valuation_low i o ins outs set few) few n

    named : (x : Position S) → IsReached d s neutral i o x → IsNamed x
    named x at_start = record {
      has = r.starts;
      reached = subst (λ u. IsReached e t neutral i o (at_state u neutral)) (sym r.begins) at_start;
    }
    named x (along y z is_reached move) = named_on y z (is_set y is_reached) (named y is_reached) move

    -- ---- different positions have different names

    abbrev key_of : {U : Type 0} → Position U → U
    key_of (at_state u p) = u
    key_of (with_inputs u ins) = u

    abbrev number_of : {U : Type 0} → Position U → ℕ
    number_of (at_state u p) = p
    number_of (with_inputs u ins) = ins

    abbrev kind_of : {U : Type 0} → Position U → ℕ
    kind_of (at_state u p) = 0
    kind_of (with_inputs u ins) = 1

    one_position : (x y : Position S) → HasState x → HasState y → image x ≡ image y → x ≡ y
    one_position (at_state q p) (at_state k m) here there same =
        let states = r.one q k here there (ap key_of same) in
        let numbers : p ≡ m = ap number_of same in
        λ j. at_state (states j) (numbers j)
    one_position (with_inputs q p) (with_inputs k m) here there same =
        let states = r.one q k here there (ap key_of same) in
        let numbers : p ≡ m = ap number_of same in
        λ j. with_inputs (states j) (numbers j)
    one_position (at_state q p) (with_inputs k m) here there same = absurd (omega (arith, ap kind_of same))
    one_position (with_inputs q p) (at_state k m) here there same = absurd (omega (arith, ap kind_of same))

    apart_images : (xs : List (Position S))
        → ((x : Position S) → IsMember x xs → HasState x)
        → AreApart xs
        → AreApart (map image xs)
    apart_images [] has apart = tt
    apart_images (x ∷ xs) has apart =
        (λ m. by (member-map_from image (image x) xs m), apart_images xs (λ y m. has y (inr m)) apart.1)
      where
        by : Image image (image x) xs → ⊥
        by found =
            apart.0
            (subst (λ y. IsMember y xs)
            (sym (one_position x found.from (has x (inl refl)) (has found.from (inr found.member)) found.holds))
            found.member)

    pub more_positions : (n : ℕ) → HasMorePositions d s neutral i o n → HasMorePositions e t neutral i o n
    more_positions n more = record {
      positions = map image more.positions;
      are_apart = apart_images more.positions (λ x m. (named x (more.are_reached x m)).has) more.are_apart;
      are_reached = λ y m. by y (member-map_from image y more.positions m);
      are_more = subst (λ k. n < k) (sym (length-map more.positions image)) more.are_more;
    }
      where
        by : (y : Position T) → Image image y more.positions → IsReached e t neutral i o y
        by y found =
            subst (IsReached e t neutral i o) (sym found.holds) (named found.from (more.are_reached found.from found.member)).reached
