-- The way back from a pair to the start.
--
--   way_here    == the way without a step
--   way_longer  == so do the trails, which are kept backwards
--   way_earlier == a way from the pair from which another one was met first
use Rattle.std.proofs.Common.{ℕ, ◌≡◌, List, [], ◌∷◌, ◌++◌, get_or, reverse, Some, sym, ap, ◌∙◌, subst}
use Rattle.std.proofs.lemmas.List.{reverse-append}
use Rattle.std.specs.List.{slice_get}
use Rattle.std.proofs.lemmas.Option.{get_or_from_slice_get, same_Some}
use Rattle.ml_trace.specs.declared.letters.Transition.{Transition}
use Rattle.ml_emptiness.specs.Systems.{SystemTable}
use Rattle.ml_emptiness.specs.private.Pairs.{IsMet, IsWayBetween, Joins}
use Rattle.ml_emptiness.specs.declared.pairs.Origin.{Origin}
use Rattle.ml_emptiness.specs.declared.pairs.Pair.{Pair}

module _ (row : List (List Transition)) (s : SystemTable) (pairs : List Pair) where
  pub way_here : (i : ℕ) → IsWayBetween row s pairs i [] [] i
  way_here i x y at_x at_y = same_Some x y (sym at_x ∙ at_y)

  pub way_earlier : (o : Origin) (i n : ℕ) (ns ls : List ℕ) (j : ℕ)
      → IsMet row s pairs o i
      → ((x : Pair) → slice_get pairs o.from ≡ Some x → x.state ≡ n)
      → IsWayBetween row s pairs i ns ls j
      → IsWayBetween row s pairs o.from (n ∷ ns) (o.letter ∷ ls) j
  way_earlier o i n ns ls j met state way x y at_x at_y =
      let e : met.source ≡ x = same_Some met.source x (sym met.is_source ∙ at_x) in (
        state x at_x,
        (
          met.target,
          met.accepting,
          subst (λ z. Joins row s z o.letter met.target met.accepting) e met.joins,
          way met.target y met.is_target at_y,
        ),
      )

  pub way_longer : (ns ls ns' ls' : List ℕ) (o : Origin) (d : Pair) (i j : ℕ)
      → ns' ≡ ns ++ (get_or pairs o.from d).state ∷ []
      → ls' ≡ ls ++ o.letter ∷ []
      → IsMet row s pairs o i
      → IsWayBetween row s pairs i (reverse ns) (reverse ls) j
      → IsWayBetween row s pairs o.from (reverse ns') (reverse ls') j
  way_longer ns ls ns' ls' o d i j states letters met way =
      let n = (get_or pairs o.from d).state in
      let more_states : reverse ns' ≡ n ∷ reverse ns = ap reverse states ∙ reverse-append ns (n ∷ []) in
      let more_letters : reverse ls' ≡ o.letter ∷ reverse ls = ap reverse letters ∙ reverse-append ls (o.letter ∷ []) in
      subst (λ us. IsWayBetween row s pairs o.from us (reverse ls') j) (sym more_states)
      (subst (λ us. IsWayBetween row s pairs o.from (n ∷ reverse ns) us j) (sym more_letters)
      (way_earlier o i n (reverse ns) (reverse ls) j met
      (λ x h. ap (λ (y : Pair). y.state) (sym (get_or_from_slice_get pairs o.from x d h))) way))
