-- The decision game of a graph has an arena, or it has more positions than are allowed.
--
-- Positions that are reached are listed, each once. While a move leads to one that isn't listed it joins the list; and
-- where none does, these are all, and the arena is made of their turns.
--
--   same_position  == the equality of positions is decided
--   Missing ps     == a position that is reached and doesn't stand in the list ps
--   IsClosed ps qs == where the moves from positions of qs lead stands in ps
--   played_by      == owners and moves of positions
--   arena_of       == the arena of a list that is closed
--   some_arena     == the theorem
use Rattle.std.proofs.Common.{◌≡◌, ℕ, zero, suc, ◌+◌, ◌<◌, ◌≤◌, ◌⊎◌, List, [], ◌∷◌, length, get_or, slice_get, Some, inl, inr, ⊎_elim, refl, sym, ap, subst, arith}
use Rattle.std.proofs.lemmas.Bool.{cases_lt}
use Rattle.ml_lists.specs.Member.{IsMember}
use Rattle.ml_lists.proofs.Decided.{Decided, decided_same, decided_both, decided_list, decided_number, decided_test}
use Rattle.ml_graph.specs.Graph.{Graph, IsGraph}
use Rattle.ml_parity.specs.declared.players.Player.{Player}
use Rattle.ml_parity.specs.declared.players.Player.TheVariants.{Even}
use Rattle.ml_sequent.specs.declared.choice.Side.{Side}
use Rattle.ml_sequent.specs.ChoiceEquality.{choice_eq, choice_eq-decides}
use Rattle.ml_trace.specs.Stack.{Item}
use Rattle.ml_product.specs.Position.{Position, start_of}
use Rattle.ml_product.specs.DecisionGame.{Target, To, Lost, Won, Turn, IsReached, at_start, by_move, AreDifferent, HasMoreThan}
use Rattle.ml_product.specs.Movers.{mover}
use Rattle.ml_product.specs.Arena.{Arena, AreVertices, IsVertexOf, IsPlayed, IsArenaOf}
use Rattle.ml_product.proofs.Ended.{start_alone_reached}
use Rattle.ml_product.proofs.OnePlace.{place_of}
use Rattle.ml_product.proofs.OneTurn.{same_targets}
use Rattle.ml_product.proofs.ReachedSequents.{reached_low}
use Rattle.ml_lists.proofs.Deciding.{decided_member}
use Rattle.ml_decide.proofs.SomeTurn.{some_turn}

-- ---- equality of positions

same_item : (a b : Item ℕ) → Decided (a ≡ b)
same_item a b =
    decided_same (λ (both : (a.state ≡ b.state) × (a.stack ≡ b.stack)) i. record { state = both.0 i; stack = both.1 i })
    (λ e. (ap (λ (x : Item ℕ). x.state) e, ap (λ (x : Item ℕ). x.stack) e))
    (decided_both (decided_number a.state b.state) (decided_list decided_number a.stack b.stack))

same_choice : (c d : List (ℕ × Side)) → Decided (c ≡ d)
same_choice c d =
    let test = choice_eq-decides c d in decided_same test.0 test.1 (decided_test (choice_eq c d))

abbrev Parts : Position → Position → Type 0
Parts p q = (p.sequent ≡ q.sequent) × ((p.history ≡ q.history) × ((p.priority ≡ q.priority) × (p.choice ≡ q.choice)))

pub same_position : (p q : Position) → Decided (p ≡ q)
same_position p q =
    decided_same there back
    (decided_both (decided_list decided_number p.sequent q.sequent)
    (decided_both (decided_list same_item p.history q.history)
    (decided_both (decided_number p.priority q.priority) (same_choice p.choice q.choice))))
  where
    there : Parts p q → p ≡ q
    there e = λ i. record { sequent = e.0 i; history = e.1.0 i; priority = e.1.1.0 i; choice = e.1.1.1 i }

    back : p ≡ q → Parts p q
    back e = (
      ap (λ (x : Position). x.sequent) e,
      (
        ap (λ (x : Position). x.history) e,
        (ap (λ (x : Position). x.priority) e, ap (λ (x : Position). x.choice) e),
      ),
    )

module _ (g : Graph) (ok : IsGraph g) where
  turn_of : (p : Position) → IsReached g p → Turn g p
  turn_of p reached = some_turn g ok p (reached_low g ok p reached)

  -- ---- positions that aren't listed

  record Missing (ps : List Position) : Type 0 where
    pub position : Position
    pub is_new : IsMember position ps → ⊥
    pub is_reached : IsReached g position

  -- where these targets are positions, they are listed
  abbrev AreListed : List Position → List Target → Type 0
  AreListed ps ts = (q : Position) → IsMember (To q) ts → IsMember q ps

  abbrev IsClosed : List Position → List Position → Type 0
  IsClosed ps qs = (p : Position) → IsMember p qs → (t : Turn g p) → AreListed ps t.targets

  listed_more : (ps : List Position) (t : Target) (ts : List Target)
      → ((q : Position) → To q ≡ t → IsMember q ps)
      → AreListed ps ts ⊎ Missing ps
      → AreListed ps (t ∷ ts) ⊎ Missing ps
  listed_more ps t ts here (inr missing) = inr missing
  listed_more ps t ts here (inl rest) = inl all
    where
      all : (q : Position) → (To q ≡ t) ⊎ IsMember (To q) ts → IsMember q ps
      all q (inl same) = here q same
      all q (inr later) = rest q later

  module _ (ps : List Position) (p : Position) (reached : IsReached g p) (turn : Turn g p) where
    look : (ts : List Target) → ((t : Target) → IsMember t ts → IsMember t turn.targets) → AreListed ps ts ⊎ Missing ps
    look [] inside = inl (λ q m. absurd m)
    look (Lost ∷ ts) inside =
        listed_more ps Lost ts (λ q same. absurd (cc)) (look ts (λ t m. inside t (inr m)))
    look (Won ∷ ts) inside =
        listed_more ps Won ts (λ q same. absurd (cc)) (look ts (λ t m. inside t (inr m)))
    look (To r ∷ ts) inside =
        by_member (decided_member same_position r ps) (look ts (λ t m. inside t (inr m)))
      where
        by_member : Decided (IsMember r ps) → AreListed ps ts ⊎ Missing ps → AreListed ps (To r ∷ ts) ⊎ Missing ps
        by_member (inl there) rest =
            listed_more ps (To r) ts
            (λ q same. let e : r ≡ q = cc in subst (λ x. IsMember x ps) e there)
            rest
        by_member (inr new) rest = inr (record {
          position = r;
          is_new = new;
          is_reached = by_move p r turn reached (inside (To r) (inl refl));
        })

  look_all : (ps qs : List Position) → ((p : Position) → IsMember p qs → IsReached g p) → IsClosed ps qs ⊎ Missing ps
  look_all ps [] reached = inl (λ p m. absurd m)
  look_all ps (p ∷ qs) reached =
      by_both (look ps p here (turn_of p here) (turn_of p here).targets (λ t m. m))
      (look_all ps qs (λ q m. reached q (inr m)))
    where
      here : IsReached g p
      here = reached p (inl refl)

      by_both : AreListed ps (turn_of p here).targets ⊎ Missing ps
          → IsClosed ps qs ⊎ Missing ps
          → IsClosed ps (p ∷ qs) ⊎ Missing ps
      by_both (inr missing) rest = inr missing
      by_both (inl listed) (inr missing) = inr missing
      by_both (inl listed) (inl rest) = inl all
        where
          of_first : (t : Turn g p) → AreListed ps t.targets
          of_first t r m = listed r (subst (IsMember (To r)) (same_targets g p t (turn_of p here)) m)

          all : (q : Position) → (q ≡ p) ⊎ IsMember q qs → (t : Turn g q) → AreListed ps t.targets
          all q (inl same) = subst (λ x. (t : Turn g x) → AreListed ps t.targets) (sym same) of_first
          all q (inr later) = rest q later

  -- ---- the arena of a closed list

  vertices : (ps : List Position) (ts : List Target) → AreListed ps ts → (vs : List ℕ) × AreVertices ps ts vs
  vertices ps [] listed = ([], refl)
  vertices ps (t ∷ ts) listed =
      let first = of_kind t (λ q same. listed q (inl same)) in
      let rest = vertices ps ts (λ q m. listed q (inr m)) in
      (first.0 ∷ rest.0, (first.0, rest.0, first.1, rest.1, refl))
    where
      of_kind : (u : Target) → ((q : Position) → To q ≡ u → IsMember q ps) → (v : ℕ) × IsVertexOf ps u v
      of_kind Lost inside = (length ps, refl)
      of_kind Won inside = (length ps + 1, refl)
      of_kind (To q) inside = let at = place_of q ps (inside q refl) in (at.place, at.stands)

  record Played (ps qs : List Position) : Type 0 where
    pub owners : List Player
    pub moves : List (List ℕ)
    pub an_owner_each : length owners ≡ length qs
    pub moves_each : length moves ≡ length qs
    pub played : (v : ℕ) (p : Position) → slice_get qs v ≡ Some p
        → IsPlayed g ps p (get_or owners v Even) (get_or moves v [])

  played_by : (ps qs : List Position) → ((p : Position) → IsMember p qs → IsReached g p) → IsClosed ps qs → Played ps qs
  played_by ps [] reached closed = record {
    owners = [];
    moves = [];
    an_owner_each = refl;
    moves_each = refl;
    played = λ v p is. absurd (cc);
  }
  played_by ps (p ∷ qs) reached closed =
      more (played_by ps qs (λ q m. reached q (inr m)) (λ q m. closed q (inr m)))
    where
      turn : Turn g p
      turn = turn_of p (reached p (inl refl))

      to : (vs : List ℕ) × AreVertices ps turn.targets vs
      to = vertices ps turn.targets (closed p (inl refl) turn)

      more : Played ps qs → Played ps (p ∷ qs)
      more rest = record {
        owners = mover turn.verdict ∷ rest.owners;
        moves = to.0 ∷ rest.moves;
        an_owner_each = ap suc rest.an_owner_each;
        moves_each = ap suc rest.moves_each;
        played = at;
      }
        where
          at : (v : ℕ) (q : Position) → slice_get (p ∷ qs) v ≡ Some q
              → IsPlayed g ps q (get_or (mover turn.verdict ∷ rest.owners) v Even) (get_or (to.0 ∷ rest.moves) v [])
          at zero q is =
              let same : p ≡ q = cc in
              subst (λ x. IsPlayed g ps x (mover turn.verdict) to.0) same
              (record { turn = turn; owner_is = refl; moves_are = to.1 })
          at (suc v) q is = rest.played v q is

  -- different positions that are reached, behind the start
  record Listed (others : List Position) : Type 0 where
    pub are_different : AreDifferent (start_of g ∷ others)
    pub are_reached : (p : Position) → IsMember p (start_of g ∷ others) → IsReached g p

  listed_all : (others : List Position) → IsClosed (start_of g ∷ others) (start_of g ∷ others)
      → (p : Position) → IsReached g p → IsMember p (start_of g ∷ others)
  listed_all others closed p at_start = inl refl
  listed_all others closed p (by_move before _ turn reached m) =
      closed before (listed_all others closed before reached) turn p m

  arena_of : (others : List Position) → Listed others → IsClosed (start_of g ∷ others) (start_of g ∷ others)
      → (a : Arena) × (IsArenaOf g a × (length a.positions ≡ length (start_of g ∷ others)))
  arena_of others l closed =
      let played = played_by (start_of g ∷ others) (start_of g ∷ others) l.are_reached closed in (
        record { positions = start_of g ∷ others; owners = played.owners; moves = played.moves },
        (
          record {
            starts = refl;
            are_different = l.are_different;
            are_reached = λ p. (l.are_reached p, listed_all others closed p);
            an_owner_each = played.an_owner_each;
            moves_each = played.moves_each;
            played = played.played;
          },
          refl,
        ),
      )

  -- ---- the list grows

  one_more : (others : List Position) → Listed others → (m : Missing (start_of g ∷ others))
      → Listed (m.position ∷ others)
  one_more others l m = record { are_different = (apart, ((λ i. m.is_new (inr i)), l.are_different.1)); are_reached = all }
    where
      apart : (start_of g ≡ m.position) ⊎ IsMember (start_of g) others → ⊥
      apart (inl same) = m.is_new (inl (sym same))
      apart (inr i) = l.are_different.0 i

      all : (p : Position) → (p ≡ start_of g) ⊎ ((p ≡ m.position) ⊎ IsMember p others) → IsReached g p
      all p (inl same) = l.are_reached p (inl same)
      all p (inr (inl same)) = subst (IsReached g) (sym same) m.is_reached
      all p (inr (inr i)) = l.are_reached p (inr i)

  abbrev Answer : ℕ → Type 0
  Answer n = ((a : Arena) × (IsArenaOf g a × (length a.positions ≤ n))) ⊎ HasMoreThan g n

  too_many : (n : ℕ) (others : List Position) → Listed others → n < length (start_of g ∷ others) → HasMoreThan g n
  too_many n others l more = record {
    positions = start_of g ∷ others;
    are_different = l.are_different;
    are_reached = l.are_reached;
    are_more = more;
  }

  grown : (n fuel : ℕ) (others : List Position) → Listed others → n < length (start_of g ∷ others) + fuel → Answer n
  grown n zero others l enough = inr (too_many n others l (omega arith))
  grown n (suc fuel) others l enough =
      by_look (look_all (start_of g ∷ others) (start_of g ∷ others) l.are_reached) (grown n fuel)
    where
      by_look : IsClosed (start_of g ∷ others) (start_of g ∷ others) ⊎ Missing (start_of g ∷ others)
          → ((more : List Position) → Listed more → n < length (start_of g ∷ more) + fuel → Answer n)
          → Answer n
      by_look (inr missing) again = again (missing.position ∷ others) (one_more others l missing) (omega arith)
      by_look (inl closed) again =
          ⊎_elim
          (λ (more : n < length (start_of g ∷ others)). inr (too_many n others l more))
          (λ (few : length (start_of g ∷ others) ≤ n).
          let made = arena_of others l closed in inl (made.0, (made.1.0, omega (arith, made.1.1))))
          (cases_lt n (length (start_of g ∷ others)))

  pub some_arena : (n : ℕ) → Answer n
  some_arena n = grown n n [] (record { are_different = ((λ i. i), tt); are_reached = start_alone_reached g }) (omega arith)
