-- What an exploration has found.
--
--   turned_all   == where what was recorded has as many entries as there are positions, these are all that are reached
--   are_apart    == different positions stand apart
--   few_reached  == so different positions that all stand in a list are no more than its entries
--   not_more     == so no more positions are reached than stand in that list
--   passed       == where a new position finds no room, more are reached than are allowed
--   is_arena     == the positions with what was recorded are the decision game
use Rattle.std.proofs.Common.{ℕ, ◌≡◌, ◌≤◌, ◌⊎◌, inl, inr, List, [], ◌∷◌, ◌++◌, length, map, slice_get, get_or, Some, sym, ◌∙◌, subst, arith}
use Rattle.std.proofs.lemmas.List.{length-map, get_or-map}
use Rattle.std.proofs.lemmas.Option.{slice_get_within, get_or_from_slice_get}
use Rattle.ml_lists.specs.Member.{IsMember}
use Rattle.ml_graph.specs.Graph.{Graph}
use Rattle.ml_parity.specs.declared.players.Player.TheVariants.{Even}
use Rattle.ml_product.specs.Position.{Position, start_of}
use Rattle.ml_product.specs.DecisionGame.{To, AreDifferent, HasMoreThan, IsReached, at_start, by_move, Turn}
use Rattle.ml_product.specs.Arena.{Arena, AreVertices, IsPlayed, IsArenaOf}
use Rattle.ml_product.specs.declared.pool.Pool.{Pool}
use Rattle.ml_product.specs.declared.recorded.Recorded.{Recorded}
use Rattle.ml_product.specs.declared.recorded.Recorded.TheVariants as recorded
use Rattle.ml_product.specs.private.Pools.{positions_of, IsLonger}
use Rattle.ml_product.specs.private.Recorded.{owner_of, moves_of, IsRecorded}
use Rattle.ml_product.specs.private.Exploring.{Explores, IsNumbered, HasNoRoom, AreTurned, Becomes}
use Rattle.ml_lists.proofs.Member.{member_of_get}
use Rattle.ml_lists.proofs.FirstEntries.{AreApart}
use Rattle.ml_lists.proofs.Different.{different_within}
use Rattle.ml_product.proofs.OnePlace.{PlaceOf, place_of}
use Rattle.ml_product.proofs.OneTurn.{same_targets}
use Rattle.ml_product.proofs.Vertices.{target_stands, at_the_end, longer_self}

-- ---- counting

are_apart : (ps : List Position) → AreDifferent ps → AreApart ps
are_apart [] different = tt
are_apart (p ∷ ps) different = (different.0, are_apart ps different.1)

pub few_reached : (qs ps : List Position)
    → AreDifferent qs
    → ((q : Position) → IsMember q qs → IsMember q ps)
    → length qs ≤ length ps
few_reached qs ps different inside = different_within qs ps (are_apart qs different) inside

-- ---- what is reached

module _ (g : Graph) (limit : ℕ) (b : Pool) (rs : List Recorded) (t : AreTurned g limit b rs)
    (whole : length rs ≡ length (positions_of b)) where
  found : (v : ℕ) (p : Position)
      → slice_get (positions_of b) v ≡ Some p
      → IsRecorded g (positions_of b) p (get_or rs v recorded.Lost)
  found v p at =
      let low = slice_get_within (positions_of b) v p at in
      subst (λ q. IsRecorded g (positions_of b) q (get_or rs v recorded.Lost))
      (get_or_from_slice_get (positions_of b) v p (start_of g) at) (t.recorded v (omega arith))

  onward : (p q : Position)
      → IsMember p (positions_of b)
      → (u : Turn g p)
      → IsMember (To q) u.targets
      → IsMember q (positions_of b)
  onward p q m u leads = from (place_of p (positions_of b) m)
    where
      from : PlaceOf p (positions_of b) → IsMember q (positions_of b)
      from at =
          let r = found at.place p at.stands in
          target_stands 0 (positions_of b) r.turn.targets (moves_of 0 (get_or rs at.place recorded.Lost)) q
          (r.moves_are 0)
          (subst (IsMember (To q)) (same_targets g p u r.turn) leads)

  -- all that are reached stand there
  pub turned_all : (p : Position) → IsReached g p → IsMember p (positions_of b)
  turned_all p at_start = member_of_get (positions_of b) 0 (start_of g) t.starts
  turned_all p (by_move before _ u reached m) = onward before p (turned_all before reached) u m

  -- so no more are reached
  pub not_more : ¬ (HasMoreThan g limit)
  not_more more =
      let few = few_reached more.positions (positions_of b) more.are_different
      (λ p m. turned_all p (more.are_reached p m)) in
      omega (arith, more.are_more, t.explores.few)

  -- the positions with what was recorded are the decision game
  abbrev arena : Arena
  arena = record {
    positions = positions_of b;
    owners = map owner_of rs;
    moves = map (moves_of (length (positions_of b))) rs;
  }

  played : (v : ℕ) (p : Position) → slice_get (positions_of b) v ≡ Some p
      → IsPlayed g (positions_of b) p (get_or (map owner_of rs) v Even)
      (get_or (map (moves_of (length (positions_of b))) rs) v [])
  played v p at =
      let low = slice_get_within (positions_of b) v p at in
      let r = found v p at in
      let n = length (positions_of b) in
      let owner : get_or (map owner_of rs) v Even ≡ owner_of (get_or rs v recorded.Lost) =
      get_or-map owner_of rs v recorded.Lost Even (omega arith) in
      let moves : get_or (map (moves_of n) rs) v [] ≡ moves_of n (get_or rs v recorded.Lost) =
      get_or-map (moves_of n) rs v recorded.Lost [] (omega arith) in
      record {
        turn = r.turn;
        owner_is = owner ∙ r.owner_is;
        moves_are = subst (AreVertices (positions_of b) r.turn.targets) (sym moves)
            (at_the_end (positions_of b) r.turn.targets (moves_of n (get_or rs v recorded.Lost)) (r.moves_are n));
      }

  pub is_arena : IsArenaOf g arena
  is_arena = record {
    starts = t.starts;
    are_different = t.explores.is_pool.are_different;
    are_reached = λ p. (t.explores.are_reached p, turned_all p);
    an_owner_each = length-map rs owner_of ∙ whole;
    moves_each = length-map rs (moves_of (length (positions_of b))) ∙ whole;
    played = played;
  }

-- ---- one position more

module _ (g : Graph) (limit : ℕ) (b : Pool) (e : Explores g limit b) (p : Position) (reached : IsReached g p) where
  -- where a new position finds no room, more are reached than are allowed
  pub passed : HasNoRoom limit (positions_of b) p → HasMoreThan g limit
  passed full = record {
    positions = p ∷ positions_of b;
    are_different = (full.is_new, e.is_pool.are_different);
    are_reached = λ q m. by_place q m;
    are_more = omega (arith, full.full);
  }
    where
      by_place : (q : Position) → (q ≡ p) ⊎ IsMember q (positions_of b) → IsReached g q
      by_place q (inl same) = subst (IsReached g) (sym same) reached
      by_place q (inr m) = e.are_reached q m

  -- a position that is reached may join
  pub joined : (d : Pool) (v : ℕ) → IsNumbered limit b p d v → Becomes g limit b d
  joined d v is = by_kind is.added.grown
    where
      more : (positions_of d ≡ positions_of b ++ p ∷ []) → (q : Position) → IsMember q (positions_of d) → IsReached g q
      more e2 q m = among (positions_of b) (λ r i. e.are_reached r i) (subst (IsMember q) e2 m)
        where
          among : (ps : List Position)
              → ((r : Position) → IsMember r ps → IsReached g r)
              → IsMember q (ps ++ p ∷ [])
              → IsReached g q
          among [] all (inl same) = subst (IsReached g) (sym same) reached
          among [] all (inr none) = absurd none
          among (x ∷ ps) all (inl same) = all q (inl same)
          among (x ∷ ps) all (inr later) = among ps (λ r i. all r (inr i)) later

      by_kind : (positions_of d ≡ positions_of b)
          ⊎ ((positions_of d ≡ positions_of b ++ p ∷ []) × ¬ (IsMember p (positions_of b)))
          → Becomes g limit b d
      by_kind (inl old) = record {
        explores = record {
          is_pool = is.is_pool;
          are_reached = λ q m. e.are_reached q (subst (IsMember q) old m);
          few = is.few;
        };
        longer = subst (IsLonger (positions_of b)) (sym old) (longer_self (positions_of b));
        stored = is.stored;
      }
      by_kind (inr new) = record {
        explores = record { is_pool = is.is_pool; are_reached = more new.0; few = is.few };
        longer = record { more = p ∷ []; is = new.0 };
        stored = is.stored;
      }
