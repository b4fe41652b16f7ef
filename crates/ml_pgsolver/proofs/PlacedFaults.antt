-- Where tokens are at fault, by the bytes at which they begin.
--
--   offset-behind, offset-end   == the byte of the token behind some; that of the end
--   signs-length, signs-cut     == of placed tokens there are as many as of tokens; they are cut in two as those are
--   place-is                    == a token begins at the byte of its number
--   FaultAt f all end c at      == of the tokens of such a text the first fault has the cause c, and stands at the byte `at`
--   RefusedIn f all end e       == tokens, and the end of the text, are refused with e for one of the first four causes
--   end_at                      == where none is at fault, the end is, if they are no such text
--   fault_here                  == where none before a token is at fault, it is, for its lowest cause
--   syntax_here                 == so it is where no such text goes on with it
use Rattle.std.proofs.Common.{◌≡◌, ℕ, suc, ◌≤◌, List, [], ◌∷◌, ◌++◌, length, refl, sym, ◌∙◌, ap, arith}
use Rattle.std.proofs.lemmas.List.{map-append}
use Rattle.ml_pgsolver.specs.Tokens.{Token, Placed, signs_of}
use Rattle.ml_pgsolver.specs.Refusals.{Begins, Cause, Form, IsFaultyIn, IsFirstFaultIn, Syntax, Repeated, TooMany, TooLarge, offset_of, rank}
use Rattle.ml_pgsolver.specs.declared.refusal.GameTextRefusal.{GameTextRefusal}
use Rattle.ml_pgsolver.specs.declared.refusal.GameTextRefusal.TheVariants as refusal
use Rattle.ml_pgsolver.proofs.FirstFaults.{end_fault, token_fault}

-- ---- places

pub offset-behind : (end : ℕ) (front : List Placed) (p : Placed) (rest : List Placed)
    → offset_of end (front ++ p ∷ rest) (length front) ≡ p.at
offset-behind end [] p rest = refl
offset-behind end (q ∷ front) p rest = offset-behind end front p rest

pub offset-end : (end : ℕ) (all : List Placed) → offset_of end all (length all) ≡ end
offset-end end [] = refl
offset-end end (q ∷ all) = offset-end end all

pub signs-length : (ps : List Placed) → length (signs_of ps) ≡ length ps
signs-length [] = refl
signs-length (p ∷ ps) = ap (λ n. suc n) (signs-length ps)

pub signs-cut : (front : List Placed) (p : Placed) (rest : List Placed)
    → signs_of (front ++ p ∷ rest) ≡ signs_of front ++ p.token ∷ signs_of rest
signs-cut front p rest = map-append (λ (q : Placed). q.token) front (p ∷ rest)

pub place-is : (end : ℕ) (front : List Placed) (t : Placed) (rest : List Placed)
    → t.at ≡ offset_of end (front ++ t ∷ rest) (length (signs_of front))
place-is end front t rest =
    sym (ap (offset_of end (front ++ t ∷ rest)) (signs-length front) ∙ offset-behind end front t rest)

-- ---- faults

module _ (f : Form) where
  abbrev pub FaultAt : List Placed → ℕ → Cause → ℕ → Type 0
  FaultAt all end c at = (k : ℕ) × IsFirstFaultIn f c (signs_of all) k × (at ≡ offset_of end all k)

  abbrev pub RefusedIn : List Placed → ℕ → GameTextRefusal → Type 0
  RefusedIn all end (refusal.Syntax at) = FaultAt all end Syntax at
  RefusedIn all end (refusal.Repeated at) = FaultAt all end Repeated at
  RefusedIn all end (refusal.Unknown at) = ⊥
  RefusedIn all end (refusal.TooMany at) = FaultAt all end TooMany at
  RefusedIn all end (refusal.TooLarge at) = FaultAt all end TooLarge at
  RefusedIn all end refusal.NoMemory = ⊥

  abbrev pub AreFaultless : List Token → Type 0
  AreFaultless ts = (c : Cause) (b : List Token) (u : Token) (more : List Token) → ts ≡ b ++ u ∷ more → IsFaultyIn f c b u → ⊥

  pub end_at : (all : List Placed) (end : ℕ)
      → AreFaultless (signs_of all)
      → Begins f (signs_of all)
      → (f.Is (signs_of all) → ⊥)
      → FaultAt all end Syntax end
  end_at all end faultless begins none = (
    length (signs_of all),
    end_fault f (signs_of all) faultless begins none,
    sym (ap (offset_of end all) (signs-length all) ∙ offset-end end all),
  )

  module _ (front : List Placed) (t : Placed) (rest : List Placed) (end : ℕ) (faultless : AreFaultless (signs_of front)) where
    pub fault_here : (c : Cause)
        → IsFaultyIn f c (signs_of front) t.token
        → ((d : Cause) → IsFaultyIn f d (signs_of front) t.token → rank c ≤ rank d)
        → FaultAt (front ++ t ∷ rest) end c t.at
    fault_here c faulty lowest = (
      length (signs_of front),
      token_fault f (signs_of (front ++ t ∷ rest)) (signs_of front) t.token (signs_of rest) c (signs-cut front t rest) faultless faulty
          lowest,
      place-is end front t rest,
    )

    pub syntax_here : Begins f (signs_of front)
        → (Begins f (signs_of front ++ t.token ∷ []) → ⊥)
        → FaultAt (front ++ t ∷ rest) end Syntax t.at
    syntax_here begins none = fault_here Syntax (begins, none) (λ d faulty. first_of_all d)
      where
        first_of_all : (d : Cause) → 1 ≤ rank d
        first_of_all Syntax = omega arith
        first_of_all Repeated = omega arith
        first_of_all TooMany = omega arith
        first_of_all TooLarge = omega arith
