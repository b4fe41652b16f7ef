-- The places of an automaton are found, within a limit, or there are more.
--
--   some_behind == the places behind a place
--   some_begun  == where walks begin
--   some_places == all places, or more than the limit
use Rattle.std.proofs.Common.{ℕ, zero, suc, ◌≡◌, ◌+◌, ◌<◌, ◌≤◌, ◌⊎◌, ◌↔◌, inl, inr, arith, add-one, List, [], ◌∷◌, length, refl, subst}
use Rattle.std.proofs.lemmas.Bool.{cases_eq, cases_lt}
use Rattle.ml_graph.specs.Graph.{Graph, node_at}
use Rattle.ml_graph.specs.declared.node.Node.{Node}
use Rattle.ml_graph.specs.declared.node.Node.TheVariants as node
use Rattle.ml_lists.specs.Added.{HasOnePlace}
use Rattle.ml_lists.specs.Ascending.{IsAscending}
use Rattle.ml_lists.specs.Member.{IsMember}
use Rattle.ml_labelled.specs.declared.labelled.Literal.{Literal}
use Rattle.ml_word_automaton.specs.Letters.{Automaton}
use Rattle.ml_translate.specs.Places.{HasMorePlaces, IsJoined, Place, begin, further}
use Rattle.ml_translate.specs.private.Finding.{ArePlaces, Follows, IsBegun, IsBehindLiteral, IsFound, IsFull, IsPast, Overflows, place_at, props_of}
use Rattle.ml_translate.proofs.CubeWalks.{KnowsLiterals, ascends_place}
use Rattle.ml_translate.proofs.Cubes.{joined_or_not}
use Rattle.ml_translate.proofs.FollowedPlaces.{none_behind, on_either, on_nothing, on_past, on_same, one_behind, past_literal, past_other}
use Rattle.ml_translate.proofs.FollowedPlaces as followed_places
use Rattle.ml_translate.proofs.FoundPlaces.{Grown, added_or_full, all_found, begun_full, begun_more, begun_none, entry_place, followed, found_first, found_full, found_more, grown_or_full, passed_limit}

-- ---- the places behind a place

-- the places to which this applies, listed
abbrev pub Listed : (Place → Type 0) → Type 0
Listed P = (ts : List Place) × ((t : Place) → IsMember t ts ↔ P t)

module _ (g : Graph) (props : List (List ℕ)) (once : HasOnePlace props) (knows : KnowsLiterals g props) (s : Place)
    (ascend : IsAscending (props_of s.cube)) where
  behind_literal : (n : ℕ) (l : Literal) → Listed (IsBehindLiteral s n l)
  behind_literal n l = by (joined_or_not s.cube l ascend)
    where
      by : ((d : List Literal) × IsJoined s.cube l d) ⊎ ((d : List Literal) → ¬ (IsJoined s.cube l d))
          → Listed (IsBehindLiteral s n l)
      by (inl j) = (further s n j.0 ∷ [], one_behind s n l j.0 j.1)
      by (inr none) = ([], none_behind s n l none)

  past : (m n : ℕ) (v : Node) → node_at g m ≡ v → Listed (IsPast g props s m n)
  past m n node.True is = (further s n s.cube ∷ [], followed_places.past_true g props s m n is)
  past m n (node.Lit k b) is =
      let named = knows m k b is in
      let ts = behind_literal n (record { prop = named.0; positive = b }) in
      (ts.0, past_literal g props s m n k b named.0 ts.0 is once named.1 ts.1)
  past m n node.False is = ([], past_other g props s m n node.False is (λ c d none. none))
  past m n (node.And x y) is = ([], past_other g props s m n (node.And x y) is (λ c d none. none))
  past m n (node.Or x y) is = ([], past_other g props s m n (node.Or x y) is (λ c d none. none))
  past m n (node.Diamond x y) is = ([], past_other g props s m n (node.Diamond x y) is (λ c d none. none))
  past m n (node.Square x y) is = ([], past_other g props s m n (node.Square x y) is (λ c d none. none))

  behind_at : (v : Node) → node_at g s.node ≡ v → Listed (Follows g props s)
  behind_at (node.And l r) is = by (cases_eq l r)
    where
      by : (l ≡ r) ⊎ (l ≡ r → ⊥) → Listed (Follows g props s)
      by (inl same) = (further s r s.cube ∷ [], on_same g props s l r is same)
      by (inr other) = let ts = past l r (node_at g l) refl in (ts.0, on_past g props s l r ts.0 is other ts.1)
  behind_at (node.Or l r) is = (further s l s.cube ∷ further s r s.cube ∷ [], on_either g props s l r is)
  behind_at node.True is = ([], on_nothing g props s node.True is (λ c d n none. none))
  behind_at node.False is = ([], on_nothing g props s node.False is (λ c d n none. none))
  behind_at (node.Lit k b) is = ([], on_nothing g props s (node.Lit k b) is (λ c d n none. none))
  behind_at (node.Diamond x y) is = ([], on_nothing g props s (node.Diamond x y) is (λ c d n none. none))
  behind_at (node.Square x y) is = ([], on_nothing g props s (node.Square x y) is (λ c d n none. none))

  pub some_behind : Listed (Follows g props s)
  some_behind = behind_at (node_at g s.node) refl

-- ---- all places

module _ (a : Automaton) (props : List (List ℕ)) (limit : ℕ) where
  -- all places, which are no more than the limit
  pub record Few : Type 0 where
    pub places : List Place
    pub are_places : ArePlaces a props places
    pub few : length places ≤ limit

  abbrev Begun : ℕ → Type 0
  Begun n = ((xs : List Place) × IsBegun a props n limit xs) ⊎ HasMorePlaces a props limit

  begun_next : (n : ℕ) → n < length a.states → Begun n → Begun (suc n)
  begun_next n low (inr many) = inr many
  begun_next n low (inl (xs, b)) = by (added_or_full limit xs (begin a n) b.few)
    where
      by : Grown limit (begin a n ∷ []) xs ⊎ IsFull limit xs (begin a n) → Begun (suc n)
      by (inl g) =
          inl (
            g.places,
            subst (λ k. IsBegun a props k limit g.places) (add-one n)
                (begun_more a props limit n xs g.places low b g.is_grown g.few),
          )
      by (inr full) = inr (begun_full a props limit n xs low b full)

  some_begun : (n : ℕ) → n ≤ length a.states → Begun n
  some_begun zero low = inl ([], begun_none a props limit)
  some_begun (suc n) low = begun_next n (omega arith) (some_begun n (omega arith))

  module _ (once : HasOnePlace props) (knows : KnowsLiterals a.graph props) where
    abbrev Going : Type 0
    Going = (done : ℕ) (xs : List Place) → IsFound a props done limit xs → Few ⊎ HasMorePlaces a props limit

    go : (fuel done : ℕ) (xs : List Place)
        → limit < done + fuel
        → IsFound a props done limit xs
        → Few ⊎ HasMorePlaces a props limit
    go zero done xs enough f =
        let short = f.short in let few = (f.begun).few in absurd (omega (arith, enough, short, few))
    go (suc fuel) done xs enough f = by (cases_lt done (length xs)) (λ ys next. go fuel (done + 1) ys (omega (arith, enough)) next)
      where
        by : (done < length xs) ⊎ (length xs ≤ done)
            → ((ys : List Place) → IsFound a props (done + 1) limit ys → Few ⊎ HasMorePlaces a props limit)
            → Few ⊎ HasMorePlaces a props limit
        by (inr past) again =
            inl (record { places = xs; are_places = all_found a props limit done xs past f; few = (f.begun).few })
        by (inl low) again = added (grown_or_full limit behind.0 xs (f.begun).few)
          where
            s : Place
            s = place_at xs done

            behind : Listed (Follows a.graph props s)
            behind =
                some_behind a.graph props once knows s
                (ascends_place a props s (entry_place a props limit done done xs low f))

            added : Grown limit behind.0 xs ⊎ Overflows limit behind.0 xs → Few ⊎ HasMorePlaces a props limit
            added (inl g) =
                again g.places
                (found_more a props limit done xs g.places low f
                (followed a.graph props xs done behind.0 behind.1 g.places g.is_grown) g.few)
            added (inr o) =
                inr (found_full a props limit done xs low f (passed_limit a.graph props xs done behind.0 behind.1 limit o))

    pub some_places : Few ⊎ HasMorePlaces a props limit
    some_places = by (some_begun (length a.states) (omega arith))
      where
        by : Begun (length a.states) → Few ⊎ HasMorePlaces a props limit
        by (inl (xs, b)) = go (suc limit) 0 xs (omega arith) (found_first a props limit xs b)
        by (inr many) = inr many
