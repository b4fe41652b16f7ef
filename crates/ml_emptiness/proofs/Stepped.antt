-- Steps along the arcs of a walk make a way.
--
--   stepped_more      == one step more
--   stepped_way       == a way between the ends of the walk
--   stepped_accepting == an accepting one, where an arc has the priority 0
use Rattle.std.proofs.Common.{ℕ, ◌≡◌, ◌+◌, ◌<◌, ◌⊎◌, inl, inr, arith, Bool, true, false, List, [], ◌∷◌, ◌++◌, Some}
use Rattle.std.proofs.Common.{refl, sym, ap, ◌∙◌, subst, cond, eqb}
use Rattle.std.specs.List.{slice_get}
use Rattle.std.proofs.lemmas.Option.{same_Some}
use Rattle.ml_parity.specs.declared.one_sided.graph.Arc.{Arc}
use Rattle.ml_parity.specs.OneSided.{IsWalk, OneSidedGraph, count_at}
use Rattle.ml_trace.specs.declared.letters.Transition.{Transition}
use Rattle.ml_emptiness.specs.Systems.{SystemTable}
use Rattle.ml_emptiness.specs.private.Pairs.{AcceptingWay, AreStepped, IsStepped, Joins, Way, weight}
use Rattle.ml_emptiness.specs.declared.pairs.Pair.{Pair}

module _ (row : List (List Transition)) (s : SystemTable) (pairs : List Pair) where
  pub stepped_more : (arcs : List Arc) (ns ls : List ℕ) (a : Arc) (n l : ℕ)
      → AreStepped row s pairs arcs ns ls
      → IsStepped row s pairs a n l
      → AreStepped row s pairs (arcs ++ a ∷ []) (ns ++ n ∷ []) (ls ++ l ∷ [])
  stepped_more [] [] [] a n l all one = (one, tt)
  stepped_more [] [] (k ∷ ls) a n l all one = absurd all
  stepped_more [] (m ∷ ns) ls a n l all one = absurd all
  stepped_more (b ∷ arcs) [] ls a n l all one = absurd all
  stepped_more (b ∷ arcs) (m ∷ ns) [] a n l all one = absurd all
  stepped_more (b ∷ arcs) (m ∷ ns) (k ∷ ls) a n l all one = (all.0, stepped_more arcs ns ls a n l all.1 one)

  module _ (g : OneSidedGraph) (p : ℕ) where
    -- the source of the first step, as the pair with its number
    own : (v : ℕ) (a : Arc) (n l : ℕ) (x : Pair)
        → IsStepped row s pairs a n l
        → a.from ≡ v
        → slice_get pairs v ≡ Some x
        → (st : IsStepped row s pairs a n l)
        → st.source ≡ x
    own v a n l x one from at st =
        same_Some st.source x (sym st.is_source ∙ ap (slice_get pairs) from ∙ at)

    pub stepped_way : (v : ℕ) (arcs : List Arc) (ns ls : List ℕ) (w : ℕ) (x y : Pair)
        → IsWalk g p v arcs w
        → AreStepped row s pairs arcs ns ls
        → slice_get pairs v ≡ Some x
        → slice_get pairs w ≡ Some y
        → Way row s x ns ls y
    stepped_way v [] [] [] w x y walk all at_x at_y = same_Some x y (sym at_x ∙ ap (slice_get pairs) walk ∙ at_y)
    stepped_way v [] [] (l ∷ ls) w x y walk all at_x at_y = absurd all
    stepped_way v [] (n ∷ ns) ls w x y walk all at_x at_y = absurd all
    stepped_way v (a ∷ arcs) [] ls w x y walk all at_x at_y = absurd all
    stepped_way v (a ∷ arcs) (n ∷ ns) [] w x y walk all at_x at_y = absurd all
    stepped_way v (a ∷ arcs) (n ∷ ns) (l ∷ ls) w x y walk all at_x at_y =
        let st = all.0 in
        let e = own v a n l x st walk.0.leaves at_x st in (
          ap (λ (z : Pair). z.state) (sym e) ∙ st.from_state,
          (
            st.target,
            st.accepting,
            subst (λ z. Joins row s z l st.target st.accepting) e st.joins,
            stepped_way a.to arcs ns ls w st.target y walk.1 all.1 st.is_target at_y,
          ),
        )

    pub stepped_accepting : (v : ℕ) (arcs : List Arc) (ns ls : List ℕ) (w : ℕ) (x y : Pair)
        → IsWalk g p v arcs w
        → AreStepped row s pairs arcs ns ls
        → slice_get pairs v ≡ Some x
        → slice_get pairs w ≡ Some y
        → 0 < count_at 0 arcs
        → AcceptingWay row s x ns ls y
    stepped_accepting v [] ns ls w x y walk all at_x at_y met = absurd (omega (arith, met))
    stepped_accepting v (a ∷ arcs) [] ls w x y walk all at_x at_y met = absurd all
    stepped_accepting v (a ∷ arcs) (n ∷ ns) [] w x y walk all at_x at_y met = absurd all
    stepped_accepting v (a ∷ arcs) (n ∷ ns) (l ∷ ls) w x y walk all at_x at_y met = (
      ap (λ (z : Pair). z.state) (sym e) ∙ st.from_state,
      by_kind st.accepting refl (stepped_accepting a.to arcs ns ls w st.target y walk.1 all.1 st.is_target at_y),
    )
      where
        st : IsStepped row s pairs a n l
        st = all.0

        e : st.source ≡ x
        e = own v a n l x st walk.0.leaves at_x st

        joins : Joins row s x l st.target st.accepting
        joins = subst (λ z. Joins row s z l st.target st.accepting) e st.joins

        by_kind : (b : Bool) → st.accepting ≡ b
            → (0 < count_at 0 arcs → AcceptingWay row s st.target ns ls y)
            → ((z : Pair) × Joins row s x l z true × Way row s z ns ls y)
            ⊎ ((z : Pair) × (accepting : Bool) × Joins row s x l z accepting × AcceptingWay row s z ns ls y)
        by_kind true is rest = inl (
          st.target,
          subst (Joins row s x l st.target) is joins,
          stepped_way a.to arcs ns ls w st.target y walk.1 all.1 st.is_target at_y,
        )
        by_kind false is rest = inr (
          st.target,
          st.accepting,
          joins,
          rest later,
        )
          where
            later : 0 < count_at 0 arcs
            later =
                let one : a.priority ≡ 1 = st.has_weight ∙ ap weight is in
                let more = subst (λ n. 0 < cond (eqb n 0) 1 0 + count_at 0 arcs) one met in
                omega (arith, more)
