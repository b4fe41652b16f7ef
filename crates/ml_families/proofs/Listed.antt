-- The positions of a decision game, listed.
--
--   IsListed g ps  == ps has different positions that are reached, with the start among them, and is closed under moves
--   all_listed     == then it has all positions that are reached
--   Kinds          == positions of kinds 0 to n, where moves lead from each kind to the next one, or behind the last one to
--                     a kind of one position alone
--   line_listed    == then n + 1 positions are reached
use Rattle.std.proofs.Common.{◌≡◌, ℕ, zero, suc, ◌+◌, ◌<◌, ◌≤◌, ◌⊎◌, List, [], ◌∷◌, length, inl, inr, refl, sym, subst, ◌∙◌, arith}
use Rattle.std.proofs.lemmas.Bool.{cases_lt}
use Rattle.ml_lists.specs.Member.{IsMember}
use Rattle.ml_graph.specs.Graph.{Graph}
use Rattle.ml_product.specs.Position.{Position, start_of}
use Rattle.ml_product.specs.DecisionGame.{Target, To, Turn, IsReached, at_start, by_move, AreDifferent}
use Rattle.ml_product.proofs.OneTurn.{same_targets}

-- to a position among these alone
abbrev pub LeadInto : List Position → List Target → Type 0
LeadInto ps ts = (q : Position) → IsMember (To q) ts → IsMember q ps

pub record IsListed (g : Graph) (ps : List Position) : Type 0 where
  pub starts : IsMember (start_of g) ps
  pub are_different : AreDifferent ps
  pub are_reached : (p : Position) → IsMember p ps → IsReached g p
  pub closed : (p : Position) → IsMember p ps → (t : Turn g p) → LeadInto ps t.targets

pub all_listed : (g : Graph) (ps : List Position) → IsListed g ps → (p : Position) → IsReached g p → IsMember p ps
all_listed g ps is p at_start = is.starts
all_listed g ps is p (by_move before _ t reached m) = is.closed before (all_listed g ps is before reached) t p m

-- ---- one position behind the other

-- a position of kind j to which there is no other one
pub record IsLone (Kind : ℕ → Position → Type 0) (j : ℕ) (q : Position) : Type 0 where
  pub is_of : Kind j q
  pub alone : (r : Position) → Kind j r → r ≡ q

pub record Kinds (g : Graph) (Kind : ℕ → Position → Type 0) (n : ℕ) : Type 0 where
  pub apart : (i j : ℕ) (p : Position) → Kind i p → Kind j p → i ≡ j
  pub starts : Kind 0 (start_of g)
  pub goes : (i : ℕ) → i < n → (p : Position) → Kind i p → (t : Turn g p)
      → (q : Position) × (t.targets ≡ To q ∷ []) × Kind (suc i) q
  pub ends : (p : Position) → Kind n p → (t : Turn g p) → (q : Position) → IsMember (To q) t.targets
      → (j : ℕ) × (0 < j) × (j ≤ n) × IsLone Kind j q

module _ (g : Graph) (Kind : ℕ → Position → Type 0) (n : ℕ) (k : Kinds g Kind n)
    (turn_of : (p : Position) → IsReached g p → Turn g p) where
  -- what stands behind a position of kind i
  record Behind (i : ℕ) (p : Position) : Type 0 where
    pub others : List Position
    pub long : length others + i ≡ n
    pub kinds : (q : Position) → IsMember q others → (j : ℕ) × (i < j) × Kind j q
    pub each : (j : ℕ) → i < j → j ≤ n → (q : Position) × IsMember q others × Kind j q
    pub are_different : AreDifferent others
    pub are_reached : (q : Position) → IsMember q others → IsReached g q
    -- a move from one of these leads to one of the others, unless it is from the last
    pub closed : (q : Position) → IsMember q (p ∷ others) → (t : Turn g q) → (r : Position) → IsMember (To r) t.targets
        → Kind n q ⊎ IsMember r others

  behind : (d i : ℕ) (p : Position) → d + i ≡ n → Kind i p → IsReached g p → Behind i p
  behind zero i p e kind reached =
      let last : i ≡ n = omega arith in
      record {
        others = [];
        long = e;
        kinds = λ q m. absurd m;
        each = λ j low high. absurd (omega arith);
        are_different = tt;
        are_reached = λ q m. absurd m;
        closed = λ q m t r to. inl (here last q m);
      }
    where
      here : i ≡ n → (q : Position) → (q ≡ p) ⊎ ⊥ → Kind n q
      here last q (inl same) = subst (λ (x : Position). Kind n x) (sym same) (subst (λ (j : ℕ). Kind j p) last kind)
      here last q (inr none) = absurd none
  behind (suc d) i p e kind reached =
      let t = turn_of p reached in
      let next = k.goes i (omega arith) p kind t in
      let there = by_move p next.0 t reached (subst (IsMember (To next.0)) (sym next.1) (inl refl)) in
      more t next (behind d (suc i) next.0 (omega arith) next.2 there) there
    where
      more : (t : Turn g p) (next : (q : Position) × (t.targets ≡ To q ∷ []) × Kind (suc i) q)
          → Behind (suc i) next.0
          → IsReached g next.0
          → Behind i p
      more t (q, is, of_next) b there = record {
        others = q ∷ b.others;
        long = omega (arith, b.long);
        kinds = kinds;
        each = each;
        are_different = (new, b.are_different);
        are_reached = reach;
        closed = closed;
      }
        where
          kinds : (r : Position) → (r ≡ q) ⊎ IsMember r b.others → (j : ℕ) × (i < j) × Kind j r
          kinds r (inl same) = (suc i, omega arith, subst (Kind (suc i)) (sym same) of_next)
          kinds r (inr m) = let later = b.kinds r m in (later.0, omega (arith, later.1), later.2)

          each : (j : ℕ) → i < j → j ≤ n → (r : Position) × IsMember r (q ∷ b.others) × Kind j r
          each j low high = by_place (cases_lt (suc i) j)
            where
              by_place : (suc i < j) ⊎ (j ≤ suc i) → (r : Position) × IsMember r (q ∷ b.others) × Kind j r
              by_place (inl later) = let f = b.each j later high in (f.0, inr f.1, f.2)
              by_place (inr now) =
                  let same : suc i ≡ j = omega arith in
                  (q, inl refl, subst (λ (x : ℕ). Kind x q) same of_next)

          new : IsMember q b.others → ⊥
          new m = let later = b.kinds q m in
              let same = k.apart (suc i) later.0 q of_next later.2 in omega (arith, same, later.1)

          reach : (r : Position) → (r ≡ q) ⊎ IsMember r b.others → IsReached g r
          reach r (inl same) = subst (IsReached g) (sym same) there
          reach r (inr m) = b.are_reached r m

          of_first : (u : Turn g p) (r : Position) → IsMember (To r) u.targets → IsMember r (q ∷ b.others)
          of_first u r to = by_one (subst (IsMember (To r)) (same_targets g p u t ∙ is) to)
            where
              by_one : (To r ≡ To q) ⊎ ⊥ → IsMember r (q ∷ b.others)
              by_one (inl same) = inl (cc)
              by_one (inr none) = absurd none

          later_on : (r : Position) (s : Position) → Kind n s ⊎ IsMember r b.others
              → Kind n s ⊎ IsMember r (q ∷ b.others)
          later_on r s (inl last) = inl last
          later_on r s (inr m) = inr (inr m)

          closed : (s : Position) → (s ≡ p) ⊎ IsMember s (q ∷ b.others) → (u : Turn g s)
              → (r : Position) → IsMember (To r) u.targets
              → Kind n s ⊎ IsMember r (q ∷ b.others)
          closed s (inl same) =
              subst (λ (x : Position). (u : Turn g x) → (r : Position) → IsMember (To r) u.targets
              → Kind n x ⊎ IsMember r (q ∷ b.others)) (sym same) (λ u r to. inr (of_first u r to))
          closed s (inr m) = λ u r to. later_on r s (b.closed s m u r to)

  pub line_listed : (ps : List Position) × IsListed g ps × (length ps ≡ n + 1)
  line_listed = whole (behind n 0 (start_of g) (omega arith) k.starts at_start)
    where
      whole : Behind 0 (start_of g) → (ps : List Position) × IsListed g ps × (length ps ≡ n + 1)
      whole b = (
        start_of g ∷ b.others,
        record {
          starts = inl refl;
          are_different = (new, b.are_different);
          are_reached = reach;
          closed = closed;
        },
        omega (arith, b.long),
      )
        where
          new : IsMember (start_of g) b.others → ⊥
          new m = let later = b.kinds (start_of g) m in
              let same = k.apart 0 later.0 (start_of g) k.starts later.2 in omega (arith, same, later.1)

          reach : (p : Position) → (p ≡ start_of g) ⊎ IsMember p b.others → IsReached g p
          reach p (inl same) = subst (IsReached g) (sym same) at_start
          reach p (inr m) = b.are_reached p m

          closed : (p : Position) → IsMember p (start_of g ∷ b.others) → (t : Turn g p)
              → (q : Position) → IsMember (To q) t.targets → IsMember q (start_of g ∷ b.others)
          closed p m t q to = by_end (b.closed p m t q to)
            where
              by_end : Kind n p ⊎ IsMember q b.others → IsMember q (start_of g ∷ b.others)
              by_end (inr inside) = inr inside
              by_end (inl last) =
                  let back = k.ends p last t q to in
                  let there = b.each back.0 back.1 back.2 in
                  let same = back.3.alone there.0 there.2 in
                  inr (subst (λ x. IsMember x b.others) same there.1)
