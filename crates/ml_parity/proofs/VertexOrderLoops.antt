-- Loops over the places of a row: what holds so far, and one place more.
--
--   LowestSoFar   == the lowest priority at the first places
--   written_here, written_elsewhere == one entry of a list is written, at the vertex of a place
--   given_more    == one vertex more is given to a player
--   chosen_more, chosen_less == one vertex more has a choice
use Rattle.std.proofs.Common.{ℕ, ◌≡◌, ◌+◌, ◌<◌, ◌≤◌, ◌⊎◌, inl, inr, arith, List, length, get_or, set, subst, sym, ap, ◌∙◌, get_or-set_same, get_or-set_other}
use Rattle.std.proofs.lemmas.Bool.{cases_eq}
use Rattle.ml_parity.specs.declared.players.Player.{Player}
use Rattle.ml_parity.specs.declared.players.Player.TheVariants.{Even}
use Rattle.ml_parity.specs.Game.{ParityGame, HasMove, owner_of, priority_of}
use Rattle.ml_parity.specs.Solution.{winner_at, choice_at}
use Rattle.ml_parity.specs.private.SolverSteps.{place_of, IsRow, Gives, ChoosesInside}
use Rattle.ml_parity.proofs.VertexOrder.{is_vertex, at_place}

-- the lowest priority at the first places
pub record LowestSoFar (g : ParityGame) (order : List ℕ) (a p : ℕ) : Type 0 where
  pub at : ℕ
  pub below : at < a
  pub is : priority_of g (get_or order at 0) ≡ p
  pub least : (k : ℕ) → k < a → p ≤ priority_of g (get_or order k 0)

module _ (order place : List ℕ) (row : IsRow order place) (k u : ℕ) (low : k < length place) (is : u ≡ get_or order k 0)
  where
    -- the vertex of a place stands there
    pub stands : place_of place u ≡ k
    stands = ap (place_of place) is ∙ row.back k low

    -- where one entry of a list is written, it stands there
    pub written_here : {A : Type 0}
        → (xs : List A) (x d : A)
        → length place ≡ length xs
        → (v : ℕ)
        → place_of place v ≡ k
        → get_or (set xs u x) v d ≡ x
    written_here xs x d long v here =
        let same : v ≡ u = at_place order place row v k low here ∙ sym is in
        let inside : u < length place = is_vertex place u (length place) (omega arith) (omega (arith, stands)) in
        ap (λ j. get_or (set xs u x) j d) same ∙ get_or-set_same xs u x d (omega arith)

    -- elsewhere nothing changes
    pub written_elsewhere : {A : Type 0}
        → (xs : List A) (x d : A) (v : ℕ)
        → (place_of place v ≡ k → ⊥)
        → get_or (set xs u x) v d ≡ get_or xs v d
    written_elsewhere xs x d v other = get_or-set_other xs u v x d (λ same. other (ap (place_of place) same ∙ stands))

    -- one vertex more is given to a player
    pub given_more : (rest : ℕ) (q : Player) (old win : List Player) → rest ≤ k → length place ≡ length win
        → Gives (place_of place) k rest q (winner_at old) (winner_at win)
        → Gives (place_of place) (k + 1) rest q (winner_at old) (winner_at (set win u q))
    given_more rest q old win from long g = record {
      given = λ v late early. by_place v late early (cases_eq (place_of place v) k);
      behind = λ v far. written_elsewhere win q Even v (λ same. omega arith) ∙ g.behind v (omega arith);
      early = λ v front. written_elsewhere win q Even v (λ same. omega arith) ∙ g.early v front;
    }
      where
        by_place : (v : ℕ)
            → rest ≤ place_of place v
            → place_of place v < k + 1
            → (place_of place v ≡ k) ⊎ (place_of place v ≡ k → ⊥)
            → winner_at (set win u q) v ≡ q
        by_place v late early (inl here) = written_here win q Even long v here
        by_place v late early (inr other) = written_elsewhere win q Even v other ∙ g.given v late (omega arith)

    module _ (g : ParityGame) (n mid : ℕ) (q : Player) (old : ℕ → ℕ) (choice : List ℕ)
        (c : ChoosesInside g (place_of place) n mid k q old (choice_at choice)) where
      -- one vertex more that is not q's
      pub chosen_less : (owner_of g u ≡ q → ⊥) → ChoosesInside g (place_of place) n mid (k + 1) q old (choice_at choice)
      chosen_less other = record {
        chosen = λ v late early own. by_place v late early own (cases_eq (place_of place v) k);
        behind = λ v far. c.behind v (omega arith);
        early = c.early;
      }
        where
          by_place : (v : ℕ)
              → mid ≤ place_of place v
              → place_of place v < k + 1
              → owner_of g v ≡ q
              → (place_of place v ≡ k) ⊎ (place_of place v ≡ k → ⊥)
              → HasMove g v (choice_at choice v) × (place_of place (choice_at choice v) < n)
          by_place v late early own (inl here) =
              absurd (other (ap (owner_of g) (is ∙ sym (at_place order place row v k low here)) ∙ own))
          by_place v late early own (inr differs) = c.chosen v late (omega arith) own

      -- one vertex more has a choice
      pub chosen_more : (w : ℕ) → mid ≤ k → length place ≡ length choice → HasMove g u w → place_of place w < n
          → ChoosesInside g (place_of place) n mid (k + 1) q old (choice_at (set choice u w))
      chosen_more w from long move inside = record {
        chosen = λ v late early own. by_place v late early own (cases_eq (place_of place v) k);
        behind = λ v far. written_elsewhere choice w 0 v (λ same. omega arith) ∙ c.behind v (omega arith);
        early = λ v front. written_elsewhere choice w 0 v (λ same. omega arith) ∙ c.early v front;
      }
        where
          by_place : (v : ℕ)
              → mid ≤ place_of place v
              → place_of place v < k + 1
              → owner_of g v ≡ q
              → (place_of place v ≡ k) ⊎ (place_of place v ≡ k → ⊥)
              → HasMove g v (choice_at (set choice u w) v) × (place_of place (choice_at (set choice u w) v) < n)
          by_place v late early own (inl here) =
              let same : v ≡ u = at_place order place row v k low here ∙ sym is in
              let at : HasMove g v w = subst (λ j. HasMove g j w) (sym same) move in
              subst (λ x. HasMove g v x × (place_of place x < n)) (sym (written_here choice w 0 long v here)) (at, inside)
          by_place v late early own (inr other) =
              subst (λ x. HasMove g v x × (place_of place x < n)) (sym (written_elsewhere choice w 0 v other))
              (c.chosen v late (omega arith) own)
