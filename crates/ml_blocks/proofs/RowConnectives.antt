-- What rows say, of plain propositions: each line of the table, and what its formula says.
--
--   Also P R      == P, and what the rest says
--   unless, weakly, released, unreleased, some, all  == rows of temporal operators
--   not_not, both, not_both, either, not_either, implies, not_implies, iff, not_iff == rows of connectives
use Rattle.std.proofs.Common.{◌⊎◌, ◌↔◌, inl, inr, ⊎_elim}
use Rattle.ml_ctl.specs.Laws.{IsDecided}

abbrev pub Nothing : Type 0
Nothing = Unit {0}

abbrev pub Also : Type 0 → Type 0 → Type 0
Also P R = P × R

abbrev pub Fails : Type 0 → Type 0
Fails P = P → ⊥

-- ---- temporal operators: P and Q are asked of the next place

module _ {F G P Q : Type 0} (same : P ↔ Q) where
  pub unless : (G ⊎ (F × P)) ↔ (Also G Nothing ⊎ Also F (Also Q Nothing))
  unless = (there, back)
    where
      there : G ⊎ (F × P) → Also G Nothing ⊎ Also F (Also Q Nothing)
      there (inl g) = inl (g, tt)
      there (inr (f, p)) = inr (f, (same.0 p, tt))

      back : Also G Nothing ⊎ Also F (Also Q Nothing) → G ⊎ (F × P)
      back (inl (g, t)) = inl g
      back (inr (f, (q, t))) = inr (f, same.1 q)

  pub weakly : ((F ⊎ G) × (G ⊎ P)) ↔ (Also G Nothing ⊎ Also F (Also Q Nothing))
  weakly = (there, back)
    where
      there : (F ⊎ G) × (G ⊎ P) → Also G Nothing ⊎ Also F (Also Q Nothing)
      there (either, inl g) = inl (g, tt)
      there (inl f, inr p) = inr (f, (same.0 p, tt))
      there (inr g, inr p) = inl (g, tt)

      back : Also G Nothing ⊎ Also F (Also Q Nothing) → (F ⊎ G) × (G ⊎ P)
      back (inl (g, t)) = (inr g, inl g)
      back (inr (f, (q, t))) = (inl f, inr (same.1 q))

  pub released : (G × (F ⊎ P)) ↔ (Also G (Also F Nothing) ⊎ Also G (Also Q Nothing))
  released = (there, back)
    where
      there : G × (F ⊎ P) → Also G (Also F Nothing) ⊎ Also G (Also Q Nothing)
      there (g, inl f) = inl (g, (f, tt))
      there (g, inr p) = inr (g, (same.0 p, tt))

      back : Also G (Also F Nothing) ⊎ Also G (Also Q Nothing) → G × (F ⊎ P)
      back (inl (g, (f, t))) = (g, inl f)
      back (inr (g, (q, t))) = (g, inr (same.1 q))

  pub unreleased : (Fails (F ⊎ G) ⊎ (Fails G × P))
      ↔ (Also (Fails G) (Also (Fails F) Nothing) ⊎ Also (Fails G) (Also Q Nothing))
  unreleased = (there, back)
    where
      there : Fails (F ⊎ G) ⊎ (Fails G × P)
          → Also (Fails G) (Also (Fails F) Nothing) ⊎ Also (Fails G) (Also Q Nothing)
      there (inl none) = inl ((λ g. none (inr g)), ((λ f. none (inl f)), tt))
      there (inr (not_g, p)) = inr (not_g, (same.0 p, tt))

      back : Also (Fails G) (Also (Fails F) Nothing) ⊎ Also (Fails G) (Also Q Nothing)
          → Fails (F ⊎ G) ⊎ (Fails G × P)
      back (inl (not_g, (not_f, t))) = inl (⊎_elim not_f not_g)
      back (inr (not_g, (q, t))) = inr (not_g, same.1 q)

  pub some : F → (G ⊎ (F × P)) ↔ (Also G Nothing ⊎ Also Q Nothing)
  some always = (there, back)
    where
      there : G ⊎ (F × P) → Also G Nothing ⊎ Also Q Nothing
      there (inl g) = inl (g, tt)
      there (inr (f, p)) = inr (same.0 p, tt)

      back : Also G Nothing ⊎ Also Q Nothing → G ⊎ (F × P)
      back (inl (g, t)) = inl g
      back (inr (q, t)) = inr (always, same.1 q)

  pub all : Fails F → (G × (F ⊎ P)) ↔ Also G (Also Q Nothing)
  all never = (there, back)
    where
      there : G × (F ⊎ P) → Also G (Also Q Nothing)
      there (g, inl f) = absurd (never f)
      there (g, inr p) = (g, (same.0 p, tt))

      back : Also G (Also Q Nothing) → G × (F ⊎ P)
      back (g, (q, t)) = (g, inr (same.1 q))

-- ---- connectives

pub only : {P : Type 0} → P ↔ Also P Nothing
only = ((λ p. (p, tt)), (λ one. one.0))

pub not_not : {P : Type 0} → IsDecided P → Fails (Fails P) ↔ Also P Nothing
not_not {P = P} decided = (
  (λ fails. (⊎_elim (λ (p : P). p) (λ (not_p : Fails P). absurd (fails not_p)) decided, tt)),
  (λ one not_p. not_p one.0),
)

module _ {P Q : Type 0} where
  pub both : (P × Q) ↔ Also P (Also Q Nothing)
  both = ((λ pair. (pair.0, (pair.1, tt))), there)
    where
      there : Also P (Also Q Nothing) → P × Q
      there (p, (q, t)) = (p, q)

  pub not_both : IsDecided P → Fails (P × Q) ↔ (Also (Fails P) Nothing ⊎ Also (Fails Q) Nothing)
  not_both decided = (there decided, back)
    where
      there : IsDecided P → Fails (P × Q) → Also (Fails P) Nothing ⊎ Also (Fails Q) Nothing
      there (inl p) none = inr ((λ q. none (p, q)), tt)
      there (inr not_p) none = inl (not_p, tt)

      back : Also (Fails P) Nothing ⊎ Also (Fails Q) Nothing → Fails (P × Q)
      back (inl (not_p, t)) pair = not_p pair.0
      back (inr (not_q, t)) pair = not_q pair.1

  pub either : (P ⊎ Q) ↔ (Also P Nothing ⊎ Also Q Nothing)
  either = (there, back)
    where
      there : P ⊎ Q → Also P Nothing ⊎ Also Q Nothing
      there (inl p) = inl (p, tt)
      there (inr q) = inr (q, tt)

      back : Also P Nothing ⊎ Also Q Nothing → P ⊎ Q
      back (inl (p, t)) = inl p
      back (inr (q, t)) = inr q

  pub not_either : Fails (P ⊎ Q) ↔ Also (Fails P) (Also (Fails Q) Nothing)
  not_either = ((λ none. ((λ p. none (inl p)), ((λ q. none (inr q)), tt))), back)
    where
      back : Also (Fails P) (Also (Fails Q) Nothing) → Fails (P ⊎ Q)
      back (not_p, (not_q, t)) = ⊎_elim not_p not_q

  pub implies : IsDecided P → (P → Q) ↔ (Also (Fails P) Nothing ⊎ Also Q Nothing)
  implies decided = (there decided, back)
    where
      there : IsDecided P → (P → Q) → Also (Fails P) Nothing ⊎ Also Q Nothing
      there (inl p) f = inr (f p, tt)
      there (inr not_p) f = inl (not_p, tt)

      back : Also (Fails P) Nothing ⊎ Also Q Nothing → P → Q
      back (inl (not_p, t)) p = absurd (not_p p)
      back (inr (q, t)) p = q

  pub not_implies : IsDecided P → Fails (P → Q) ↔ Also P (Also (Fails Q) Nothing)
  not_implies decided = (there decided, back)
    where
      there : IsDecided P → Fails (P → Q) → Also P (Also (Fails Q) Nothing)
      there (inl p) none = (p, ((λ q. none (λ p. q)), tt))
      there (inr not_p) none = absurd (none (λ p. absurd (not_p p)))

      back : Also P (Also (Fails Q) Nothing) → Fails (P → Q)
      back (p, (not_q, t)) f = not_q (f p)

  pub iff : IsDecided P
      → ((P → Q) × (Q → P)) ↔ (Also P (Also Q Nothing) ⊎ Also (Fails P) (Also (Fails Q) Nothing))
  iff decided = (there decided, back)
    where
      there : IsDecided P
          → (P → Q) × (Q → P)
          → Also P (Also Q Nothing) ⊎ Also (Fails P) (Also (Fails Q) Nothing)
      there (inl p) ways = inl (p, (ways.0 p, tt))
      there (inr not_p) ways = inr (not_p, ((λ q. not_p (ways.1 q)), tt))

      back : Also P (Also Q Nothing) ⊎ Also (Fails P) (Also (Fails Q) Nothing) → (P → Q) × (Q → P)
      back (inl (p, (q, t))) = ((λ a. q), (λ b. p))
      back (inr (not_p, (not_q, t))) = ((λ p. absurd (not_p p)), (λ q. absurd (not_q q)))

  pub not_iff : IsDecided P
      → IsDecided Q
      → Fails ((P → Q) × (Q → P)) ↔ (Also P (Also (Fails Q) Nothing) ⊎ Also (Fails P) (Also Q Nothing))
  not_iff first second = (there first second, back)
    where
      there : IsDecided P
          → IsDecided Q
          → Fails ((P → Q) × (Q → P))
          → Also P (Also (Fails Q) Nothing) ⊎ Also (Fails P) (Also Q Nothing)
      there (inl p) q none = inl (p, ((λ q. none ((λ a. q), (λ b. p))), tt))
      there (inr not_p) (inl q) none = inr (not_p, (q, tt))
      there (inr not_p) (inr not_q) none =
          absurd (none ((λ p. absurd (not_p p)), (λ q. absurd (not_q q))))

      back : Also P (Also (Fails Q) Nothing) ⊎ Also (Fails P) (Also Q Nothing) → Fails ((P → Q) × (Q → P))
      back (inl (p, (not_q, t))) ways = not_q (ways.0 p)
      back (inr (not_p, (q, t))) ways = not_p (ways.1 q)
