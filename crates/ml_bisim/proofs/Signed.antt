-- Signatures, as they are made one after the other.
--
--   Signed P i ks == of each of the first i places there is a signature with P
--   signed_more, are_signed == with one more, and in the end
use Rattle.std.proofs.Common.{ℕ, ◌≡◌, ◌+◌, ◌<◌, ◌⊎◌, inl, inr, List, [], ◌∷◌, ◌++◌, length, length-append, get_or, slice_get, Some, sym, ap, ◌∙◌, subst, arith}
use Rattle.std.proofs.lemmas.Bool.{cases_eq}
use Rattle.std.proofs.lemmas.List.{get_or_append_left}
use Rattle.std.proofs.lemmas.Option.{slice_get-get_or, slice_get_within}
use Rattle.ml_base.specs.declared.structure.Edge.{Edge}
use Rattle.ml_bisim.specs.declared.signatures.Signature.{Signature}
use Rattle.ml_bisim.specs.private.Signatures.{AreSignatures, IsSignature}
use Rattle.ml_bisim.proofs.Links.{last_entry}

module _ (P : ℕ → Signature → Type 0) where
  pub record Signed (i : ℕ) (ks : List Signature) : Type 0 where
    pub long : length ks ≡ i
    pub each : (j : ℕ) → j < i → (k : Signature) × (slice_get ks j ≡ Some k) × P j k

  pub signed_more : (i : ℕ) (ks new : List Signature) (k : Signature) → Signed i ks → P i k → new ≡ ks ++ k ∷ []
      → Signed (i + 1) new
  signed_more i ks new k is here pushed = record {
    long = let added = length-append ks (k ∷ []) in let is_new = ap length pushed in omega (arith, added, is_new, is.long);
    each = λ j low. each j low (cases_eq j i);
  }
    where
      each : (j : ℕ) → j < i + 1 → (j ≡ i) ⊎ (j ≡ i → ⊥) → (l : Signature) × (slice_get new j ≡ Some l) × P j l
      each j low (inl same) =
          let long = length-append ks (k ∷ []) in (
            k,
            ap (λ xs. slice_get xs j) pushed
                ∙ slice_get-get_or (ks ++ k ∷ []) j k (omega (arith, long, low, is.long))
                ∙ ap Some (last_entry ks k k j (same ∙ sym is.long)),
            subst (λ n. P n k) (sym same) here,
          )
      each j low (inr other) =
          let before = is.each j (omega (arith, low, other)) in
          let within = slice_get_within ks j before.0 before.1 in
          let long = length-append ks (k ∷ []) in (
            before.0,
            ap (λ xs. slice_get xs j) pushed
                ∙ slice_get-get_or (ks ++ k ∷ []) j k (omega (arith, long, within))
                ∙ ap Some (get_or_append_left ks (k ∷ []) k j within)
                ∙ sym (slice_get-get_or ks j k within)
                ∙ before.1,
            before.2,
          )

pub are_signed : (edges : List Edge) (actions class states : List ℕ) (i : ℕ) (ks : List Signature)
    → Signed (λ j k. IsSignature edges actions class (get_or states j 0) k) i ks
    → i ≡ length states
    → AreSignatures edges actions class states ks
are_signed edges actions class states i ks is all = record {
  each_state = is.long ∙ all;
  signs = λ j low. is.each j (omega (arith, low, all));
}
