-- States that aren't settled any more: those from which an edge leads to a state that was renamed.
--
--   unchanged       == an edge of a settled state leads to one that wasn't renamed, or the state is alone in its class
--   refined_again   == so settled states of one class match each other's edges by the new classes
--   grows_too       == and where no state was renamed, all are settled
--   falls           == so the rounds end
--   nothing_left    == and then states of one class match each other's edges
use Rattle.std.proofs.Common.{ℕ, ◌≡◌, ◌+◌, ◌-◌, ◌<◌, ◌⊎◌, inl, inr, Bool, List, [], ◌∷◌, length, get_or, All, Contains, refl, sym, ap, ◌∙◌, subst, arith}
use Rattle.std.specs.Global.{Vec}
use Rattle.std.proofs.lemmas.Grind.{get_or_default_zero}
use Rattle.ml_base.specs.Structure.{Structure, IsStructure}
use Rattle.ml_lists.proofs.Members.{contains_none}
use Rattle.ml_bisim.specs.Bisimilar.{HasEdge}
use Rattle.ml_bisim.specs.Quotient.{class_of}
use Rattle.ml_bisim.specs.declared.partition.Partition.{Partition}
use Rattle.ml_bisim.specs.private.Rounds.{AreListed, AreSettled, Grows, HasMembers, IsAlone, IsCutOff, IsFiner, IsLoose, IsPartition, IsRefined, IsSettled, IsSplit, different, rows}
use Rattle.ml_bisim.specs.private.Signatures.{SameSteps}
use Rattle.ml_bisim.proofs.Classes.{edge_from}
use Rattle.ml_bisim.proofs.Different.{different_le, some_left}
use Rattle.ml_bisim.proofs.Stable.{finer_is}

module _ (m : Structure) (m_ok : IsStructure m) (class after renamed : List ℕ) (flags : List Bool)
    (finer : IsFiner m class after)
    (has : (s : ℕ) → (class_of after s ≡ class_of class s) ⊎ Contains renamed s)
    (cut_off : (i : ℕ) → i < length renamed → IsCutOff m.edges after m.states flags (get_or renamed i 0)) where
  unchanged : (s : ℕ) (a : List ℕ) (x : ℕ)
      → IsSettled flags s
      → HasEdge m s a x
      → (class_of after x ≡ class_of class x) ⊎ IsAlone after m.states s
  unchanged s a x is edge = by_case (has x)
    where
      of_loose : IsLoose after m.states flags s → (class_of after x ≡ class_of class x) ⊎ IsAlone after m.states s
      of_loose (inl off) = absurd (off is)
      of_loose (inr alone) = inr alone

      by_case : (class_of after x ≡ class_of class x) ⊎ Contains renamed x
          → (class_of after x ≡ class_of class x) ⊎ IsAlone after m.states s
      by_case (inl same) = inl same
      by_case (inr (i, low, at)) =
          of_loose (cut_off i low (edge_from s a x) edge (sym (sym (get_or_default_zero renamed i x low) ∙ at)))

  module _ (s t : ℕ) (s_low : s < m.states) (t_low : t < m.states) (s_is : IsSettled flags s) (t_is : IsSettled flags t)
      (e : class_of after s ≡ class_of after t) where
    -- by an edge of one that is alone in the class of both
    itself : (a : List ℕ) (x : ℕ) → HasEdge m s a x → t ≡ s
        → (y : ℕ) × HasEdge m t a y × (class_of after x ≡ class_of after y)
    itself a x edge same = (x, subst (λ u. HasEdge m u a x) (sym same) edge, refl)

    matched : ((a : List ℕ) (x : ℕ) → HasEdge m s a x → (y : ℕ) × HasEdge m t a y × (class_of class x ≡ class_of class y))
        → (a : List ℕ) (x : ℕ)
        → HasEdge m s a x
        → (y : ℕ) × HasEdge m t a y × (class_of after x ≡ class_of after y)
    matched matches a x edge =
        let there = matches a x edge in
        by_case there.0 there.1 there.2 (unchanged s a x s_is edge) (unchanged t a there.0 t_is there.1)
      where
        by_case : (y : ℕ) → HasEdge m t a y → class_of class x ≡ class_of class y
            → (class_of after x ≡ class_of class x) ⊎ IsAlone after m.states s
            → (class_of after y ≡ class_of class y) ⊎ IsAlone after m.states t
            → (y : ℕ) × HasEdge m t a y × (class_of after x ≡ class_of after y)
        by_case y other one (inr alone) c = itself a x edge (alone t t_low (sym e))
        by_case y other one (inl same) (inr alone) = itself a x edge (sym (alone s s_low e))
        by_case y other one (inl same) (inl also) = (y, other, same ∙ one ∙ sym also)

  pub still_settled : AreSettled m after flags
  still_settled s t s_low t_low s_is t_is e =
      let same = ((finer.same s t s_low t_low).0 e).1 in
      record {
        forth = matched s t s_low t_low s_is t_is e same.forth;
        back = λ a y edge.
            let there = matched t s t_low s_low t_is s_is (sym e)
            (λ b x one. let other = same.back b x one in (other.0, other.1, sym other.2)) a y edge in
            (there.0, there.1, sym there.2);
      }

pub refined_again : (m : Structure) → IsStructure m → (class : List ℕ) → IsPartition m class → (p q : Partition)
    → (renamed next : List ℕ)
    → IsSplit m class p renamed
    → q.class ≡ p.class
    → q.members ≡ p.members
    → q.keeper ≡ p.keeper
    → length q.is_settled.items ≡ m.states
    → All (λ s. s < m.states) next
    → AreListed q.is_settled.items m.states next
    → ((i : ℕ) → i < length renamed → IsCutOff m.edges p.class.items m.states q.is_settled.items (get_or renamed i 0))
    → IsRefined m q next
refined_again m m_ok class part p q renamed next split classes members keepers long low listed cut_off =
    let same : q.class.items ≡ p.class.items = ap (λ (v : Vec ℕ). v.items) classes in
    let after = p.class.items in
    record {
      part = subst (IsPartition m) (sym same) (finer_is m m_ok class part after split.finer);
      members =
          subst (λ c. HasMembers c m.states (rows q.members.items)) (sym same)
          (subst (λ (v : Vec (Vec ℕ)). HasMembers after m.states (rows v.items)) (sym members) split.members);
      keepers =
          ap (λ (v : Vec ℕ). length v.items) keepers ∙ split.keepers
          ∙ ap (λ (v : Vec (Vec ℕ)). length v.items) (sym members);
      flags = long;
      settled =
          subst (λ c. AreSettled m c q.is_settled.items) (sym same)
          (still_settled m m_ok class after renamed q.is_settled.items split.finer split.has cut_off);
      listed = listed;
      in_range = low;
    }

pub grows_too : (old new renamed next : List ℕ) → Grows old new renamed → (length renamed ≡ 0 → next ≡ [])
    → Grows old new next
grows_too old new renamed next (inl more) none = inl more
grows_too old new renamed next (inr (same, no_fewer)) none = inr (none (ap length same), no_fewer)

-- with fewer numbers left, or no more and nothing to look at, the measure of the rounds falls
pub falls : (n : ℕ) (old new next unsettled : List ℕ)
    → length new ≡ n
    → (unsettled ≡ [] → ⊥)
    → Grows old new next
    → (n - different new) + some_left next < (n - different old) + some_left unsettled
falls n old new next [] long some grows = absurd (some refl)
falls n old new next (x ∷ xs) long some (inr (none, no_fewer)) =
    let left = ap some_left none in omega (arith, left, no_fewer)
falls n old new [] (x ∷ xs) long some (inl more) = let le = different_le new in omega (arith, more, le, long)
falls n old new (y ∷ ys) (x ∷ xs) long some (inl more) = let le = different_le new in omega (arith, more, le, long)

-- where no state is to be looked at, all are settled
pub nothing_left : (m : Structure) (p : Partition) (states : List ℕ) → IsRefined m p states → states ≡ [] → (s t : ℕ)
    → s < m.states
    → t < m.states
    → class_of p.class.items s ≡ class_of p.class.items t
    → SameSteps m p.class.items s t
nothing_left m p states is none s t s_low t_low = is.settled s t s_low t_low (settled s s_low) (settled t t_low)
  where
    settled : (s : ℕ) → s < m.states → IsSettled p.is_settled.items s
    settled s low = by_case (is.listed s low)
      where
        by_case : IsSettled p.is_settled.items s ⊎ Contains states s → IsSettled p.is_settled.items s
        by_case (inl h) = h
        by_case (inr h) = absurd (contains_none s (subst (λ xs. Contains xs s) none h))
