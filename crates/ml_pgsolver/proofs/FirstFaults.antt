-- The first fault of tokens.
--
--   token_fault  == the token behind some that are not at fault is the first one, for its lowest cause
--   end_fault    == so is the end of tokens of which none is at fault, and that are no text
use Rattle.std.proofs.Common.{◌≡◌, ℕ, ◌<◌, ◌≤◌, ◌⊎◌, List, ◌∷◌, ◌++◌, length, refl, sym, ◌∙◌, ap, subst, arith, inl, inr, length-append}
use Rattle.ml_pgsolver.specs.Tokens.{Token}
use Rattle.ml_pgsolver.specs.Refusals.{Begins, Cause, Form, IsFaultIn, IsFaultyIn, IsFirstFaultIn, Syntax, rank}
use Rattle.ml_pgsolver.proofs.Splits.{Splits, before, same, behind, splits}

-- of these tokens, the first ones of which are not at fault, the next one is
module _ (f : Form) (ts first : List Token) (t : Token) (rest : List Token) (c : Cause) (cut : ts ≡ first ++ t ∷ rest)
    (faultless : (d : Cause) (b : List Token) (u : Token) (more : List Token) → first ≡ b ++ u ∷ more → IsFaultyIn f d b u → ⊥)
    (faulty : IsFaultyIn f c first t)
    (lowest : (d : Cause) → IsFaultyIn f d first t → rank c ≤ rank d) where
  later : (d : Cause) (j : ℕ) (b : List Token) (u : Token) (more : List Token)
      → Splits t first rest u b more
      → j ≡ length b
      → IsFaultyIn f d b u
      → (length first < j) ⊎ ((length first ≡ j) × (rank c ≤ rank d))
  later d j b u more (before ws is) number wrong =
      inl (omega (arith, ap length is, length-append first (t ∷ ws)))
  later d j b u more (same front one all) number wrong =
      inr (
        ap length front ∙ sym number,
        lowest d (subst (λ v. IsFaultyIn f d first v) (sym one) (subst (λ xs. IsFaultyIn f d xs u) (sym front) wrong)),
      )
  later d j b u more (behind ws is) number wrong = absurd (faultless d b u ws is wrong)

  by_fault : (d : Cause) (j : ℕ) → IsFaultIn f d ts j → (length first < j) ⊎ ((length first ≡ j) × (rank c ≤ rank d))
  by_fault d j (inl (b, u, there, wrong)) =
      later d j b u there.behind (splits t u first rest b there.behind (sym cut ∙ there.all)) there.number wrong
  by_fault d j (inr (is, ends)) = inl (omega (arith, ap length cut, length-append first (t ∷ rest), ends.0))

  pub token_fault : IsFirstFaultIn f c ts (length first)
  token_fault = record {
    comes = inl (first, t, record { behind = rest; all = cut; number = refl }, faulty);
    first = by_fault;
  }

-- tokens of which none is at fault, and that are no game text
pub end_fault : (f : Form) (ts : List Token)
    → ((d : Cause) (b : List Token) (u : Token) (more : List Token) → ts ≡ b ++ u ∷ more → IsFaultyIn f d b u → ⊥)
    → Begins f ts
    → (f.Is ts → ⊥)
    → IsFirstFaultIn f Syntax ts (length ts)
end_fault f ts faultless begins none = record { comes = inr (refl, (refl, begins, none)); first = by }
  where
    by : (d : Cause) (j : ℕ) → IsFaultIn f d ts j → (length ts < j) ⊎ ((length ts ≡ j) × (1 ≤ rank d))
    by d j (inl (b, u, there, wrong)) = absurd (faultless d b u there.behind there.all wrong)
    by d j (inr (is, ends)) = inr (sym ends.0, let e : rank d ≡ 1 = ap rank is in omega arith)
