-- Searches that go on from one child, where all else was visited before.
--
--   search_continued == the places of a closed set and a child were visited, and those of the set need not go on
use Rattle.std.proofs.Common.{ℕ, ◌≡◌, ◌<◌, ◌⊎◌, inl, inr, min, List, [], ◌∷◌, map, length, get_or, refl, sym, ap, ◌∙◌, subst, arith, length-append}
use Rattle.std.proofs.lemmas.List.{get_or_append_left}
use Rattle.ml_lists.specs.Member.{IsMember}
use Rattle.ml_lists.proofs.Member.{Image, member-append, member-append_left, member-map, member-map_from, place-member}
use Rattle.ml_graph.specs.Graph.{Graph}
use Rattle.ml_sequent.specs.declared.choice.Side.{Side}
use Rattle.ml_sequent.specs.declared.reach.Visit.{Visit}
use Rattle.ml_sequent.specs.LocalWalk.{children}
use Rattle.ml_sequent.specs.private.Reach.{behind, onto, unranked, IsVisited, IsSearch}
use Rattle.ml_sequent.proofs.Floors.{all_above}
use Rattle.ml_sequent.proofs.Reaching.{search_continues}

module _ (g : Graph) (c : List (ℕ × Side)) (ranks : List ℕ) (nodes : List ℕ) (child : ℕ) where
  -- a place behind an unranked one is unranked
  unranked_behind : (n : ℕ) (e : Visit)
      → ((m : ℕ) → IsMember m (children g c n) → IsMember m (child ∷ nodes))
      → IsMember e (behind g c ranks 0 (unranked n))
      → IsMember e (map unranked (child ∷ nodes))
  unranked_behind n e closed h =
      from (member-map_from (onto ranks 0) e (children g c n)
      (subst (λ (next : Visit → List Visit). IsMember e (next (unranked n))) (all_above g c ranks) h))
    where
      from : Image (onto ranks 0) e (children g c n) → IsMember e (map unranked (child ∷ nodes))
      from i =
          let same : onto ranks 0 i.from ≡ unranked i.from =
          λ j. record { node = i.from; rank = zero_min (get_or ranks i.from 0) j } in
          subst (λ x. IsMember x (map unranked (child ∷ nodes))) (sym (i.holds ∙ same))
          (member-map unranked i.from (child ∷ nodes) (closed i.from i.member))
        where
          zero_min : (k : ℕ) → min 0 k ≡ 0
          zero_min k = omega arith

  -- the places of a closed set and a child were visited, and those of the set need not go on
  pub search_continued : (found found2 : List Visit) (done : ℕ)
      → done ≡ length found
      → ((n m : ℕ) → IsMember n nodes → IsMember m (children g c n) → IsMember m (child ∷ nodes))
      → IsVisited (map unranked nodes) [] found
      → IsVisited (unranked child ∷ []) found found2
      → IsSearch (behind g c ranks 0) (map unranked (child ∷ nodes)) done found2
  search_continued found found2 done is closed one two =
      search_continues (behind g c ranks 0) (map unranked (child ∷ nodes)) done found2 both
      (omega (arith, ap length two.grown, length-append found two.new)) leads
    where
      both : IsVisited (map unranked (child ∷ nodes)) [] found2
      both = record {
        new = found2;
        grown = refl;
        all = all;
        only = λ k h. only k (member-append k found two.new (subst (IsMember k) two.grown h));
      }
        where
          all : (k : Visit) → IsMember k (map unranked (child ∷ nodes)) → IsMember k found2
          all k (inl e) = two.all k (inl e)
          all k (inr h) = subst (IsMember k) (sym two.grown) (member-append_left k found two.new (one.all k h))

          of_child : (k : Visit) → IsMember k (unranked child ∷ []) → IsMember k (map unranked (child ∷ nodes))
          of_child k (inl e) = inl e
          of_child k (inr none) = absurd none

          only : (k : Visit) → IsMember k found ⊎ IsMember k two.new → IsMember k (map unranked (child ∷ nodes))
          only k (inl old) = inr (one.only k (subst (IsMember k) one.grown old))
          only k (inr new) = of_child k (two.only k new)

      leads : (k : ℕ) (d : Visit) → k < done → (e : Visit) → IsMember e (behind g c ranks 0 (get_or found2 k d))
          → IsMember e (map unranked (child ∷ nodes))
      leads k d low e h =
          let here = place-member found k d (omega (arith, is)) in
          let first = one.only (get_or found k d) (subst (IsMember (get_or found k d)) one.grown here) in
          from (member-map_from unranked (get_or found k d) nodes first)
          (subst (λ x. IsMember e (behind g c ranks 0 x)) same h)
        where
          same : get_or found2 k d ≡ get_or found k d
          same = ap (λ xs. get_or xs k d) two.grown ∙ get_or_append_left found two.new d k (omega (arith, is))

          from : Image unranked (get_or found k d) nodes → IsMember e (behind g c ranks 0 (get_or found k d))
              → IsMember e (map unranked (child ∷ nodes))
          from i at =
              unranked_behind i.from e (λ m. closed i.from m i.member)
              (subst (λ x. IsMember e (behind g c ranks 0 x)) i.holds at)
