-- What is kept of each occurrence of a formula stands at its number.
--
--   stands_in      == in a list that has what is spread over a formula
--   head_stands    == first of all for the formula itself
--   length-spread  == there are as many numbers as occurrences
use Rattle.std.proofs.Common.{ℕ, ◌≡◌, ◌+◌, Bool, List, [], ◌∷◌, ◌++◌, length, Option, None, Some, refl, sym, ap, ◌∙◌, arith, append_assoc, length-append}
use Rattle.std.specs.List.{slice_get}
use Rattle.ml_text.specs.declared.token.Operator.{Operator}
use Rattle.ml_text.specs.declared.token.Operator.TheVariants as operator
use Rattle.ml_text.specs.Operators.{weight}
use Rattle.ml_ctl.specs.Formula.{Formula, Const, Prop, Not, Binary, Temporal, Paired, Quantified, occurrences}
use Rattle.ml_blocks.specs.private.Occurrences.{spread, fill, sign_of}
use Rattle.ml_blocks.specs.private.Views.{StandsIn}

module _ {X : Type 0} (here : ℕ → Formula → Option Bool → X) where
  length-fill : (op : Operator) (i : ℕ) → length (fill here op i) + 1 ≡ weight op
  length-fill operator.Iff i = refl
  length-fill operator.Implies i = refl
  length-fill operator.Or i = refl
  length-fill operator.And i = refl

  pub length-spread : (i : ℕ) (f : Formula) (o : Option Bool) → length (spread here i f o) ≡ occurrences f
  length-spread i (Const b) o = refl
  length-spread i (Prop p) o = refl
  length-spread i (Not f) o = let rest = length-spread (i + 1) f None in omega (arith, rest)
  length-spread i (Binary op f g) o =
      let l = length-spread (i + weight op) f None in
      let r = length-spread (i + weight op + occurrences f) g None in
      let whole =
      length-append (fill here op i) (spread here (i + weight op) f None
      ++ spread here (i + weight op + occurrences f) g None) in
      let both =
      length-append (spread here (i + weight op) f None) (spread here (i + weight op + occurrences f) g None) in
      let own = length-fill op i in
      omega (arith, l, r, whole, both, own)
  length-spread i (Temporal t f) o = let rest = length-spread (i + 1) f None in omega (arith, rest)
  length-spread i (Paired p f g) o =
      let l = length-spread (i + 1) f None in
      let r = length-spread (i + 1 + occurrences f) g None in
      let both =
      length-append (spread here (i + 1) f None) (spread here (i + 1 + occurrences f) g None) in
      omega (arith, l, r, both)
  length-spread i (Quantified q f) o = let rest = length-spread (i + 1) f (Some (sign_of q)) in omega (arith, rest)

  at_length : (pre rest : List X) (x : X) → slice_get (pre ++ x ∷ rest) (length pre) ≡ Some x
  at_length [] rest x = refl
  at_length (y ∷ pre) rest x = at_length pre rest x

  module _ (xs : List X) where
    -- the head of what is spread
    head_at : (i : ℕ) (x : X) (pre rest suf : List X)
        → xs ≡ pre ++ ((x ∷ rest) ++ suf)
        → length pre ≡ i
        → slice_get xs i ≡ Some x
    head_at i x pre rest suf is long =
        ap (λ l. slice_get l i) is
        ∙ ap (slice_get (pre ++ ((x ∷ rest) ++ suf))) (sym long)
        ∙ at_length pre (rest ++ suf) x

    -- behind it
    behind : (x : X) (pre rest suf : List X)
        → xs ≡ pre ++ ((x ∷ rest) ++ suf)
        → xs ≡ (pre ++ x ∷ []) ++ (rest ++ suf)
    behind x pre rest suf is = is ∙ sym (append_assoc pre (x ∷ []) (rest ++ suf))

    -- the first of two parts, and the second
    first_part : (pre ys zs suf : List X) → xs ≡ pre ++ ((ys ++ zs) ++ suf) → xs ≡ pre ++ (ys ++ (zs ++ suf))
    first_part pre ys zs suf is = is ∙ ap (λ l. pre ++ l) (append_assoc ys zs suf)

    second_part : (pre ys zs suf : List X) → xs ≡ pre ++ ((ys ++ zs) ++ suf) → xs ≡ (pre ++ ys) ++ (zs ++ suf)
    second_part pre ys zs suf is = first_part pre ys zs suf is ∙ sym (append_assoc pre ys (zs ++ suf))

    one_longer : (pre : List X) (x : X) (i : ℕ) → length pre ≡ i → length (pre ++ x ∷ []) ≡ i + 1
    one_longer pre x i long = length-append pre (x ∷ []) ∙ ap (λ n. n + 1) long

    longer : (pre ys : List X) (i n : ℕ) → length pre ≡ i → length ys ≡ n → length (pre ++ ys) ≡ i + n
    longer pre ys i n long more = length-append pre ys ∙ ap (λ k. k + length ys) long ∙ ap (λ k. i + k) more

    pub stands_in : (i : ℕ) (f : Formula) (o : Option Bool) (pre suf : List X)
        → xs ≡ pre ++ (spread here i f o ++ suf)
        → length pre ≡ i
        → StandsIn here xs i f o
    stands_in i (Const b) o pre suf is long = head_at i (here i (Const b) o) pre [] suf is long
    stands_in i (Prop p) o pre suf is long = head_at i (here i (Prop p) o) pre [] suf is long
    stands_in i (Not f) o pre suf is long =
        let h = here i (Not f) o in
        let rest = spread here (i + 1) f None in (
          head_at i h pre rest suf is long,
          stands_in (i + 1) f None (pre ++ h ∷ []) suf (behind h pre rest suf is) (one_longer pre h i long),
        )
    stands_in i (Binary op f g) o pre suf is long =
        let h = here i (Binary op f g) o in
        let w = i + weight op in
        let l = spread here w f None in
        let r = spread here (w + occurrences f) g None in
        let own = fill here op i in
        let whole = second_part (pre ++ h ∷ []) own (l ++ r) suf (behind h pre (own ++ (l ++ r)) suf is) in
        let front = (pre ++ h ∷ []) ++ own in
        let at_l : length front ≡ w =
        longer (pre ++ h ∷ []) own (i + 1) (length own) (one_longer pre h i long) refl
        ∙ plus_weight i (length own) (weight op) (length-fill op i) in (
          head_at i h pre (own ++ (l ++ r)) suf is long,
          stands_in w f None front (r ++ suf) (first_part front l r suf whole) at_l,
          stands_in (w + occurrences f) g None (front ++ l) suf (second_part front l r suf whole)
              (longer front l w (occurrences f) at_l (length-spread w f None)),
        )
      where
        plus_weight : (i k w : ℕ) → k + 1 ≡ w → (i + 1) + k ≡ i + w
        plus_weight i k w e = omega (arith, e)
    stands_in i (Temporal t f) o pre suf is long =
        let h = here i (Temporal t f) o in
        let rest = spread here (i + 1) f None in (
          head_at i h pre rest suf is long,
          stands_in (i + 1) f None (pre ++ h ∷ []) suf (behind h pre rest suf is) (one_longer pre h i long),
        )
    stands_in i (Paired p f g) o pre suf is long =
        let h = here i (Paired p f g) o in
        let w = i + 1 in
        let l = spread here w f None in
        let r = spread here (w + occurrences f) g None in
        let whole = behind h pre (l ++ r) suf is in
        let front = pre ++ h ∷ [] in
        let at_l = one_longer pre h i long in (
          head_at i h pre (l ++ r) suf is long,
          stands_in w f None front (r ++ suf) (first_part front l r suf whole) at_l,
          stands_in (w + occurrences f) g None (front ++ l) suf (second_part front l r suf whole)
              (longer front l w (occurrences f) at_l (length-spread w f None)),
        )
    stands_in i (Quantified q f) o pre suf is long =
        let h = here i (Quantified q f) o in
        let rest = spread here (i + 1) f (Some (sign_of q)) in (
          head_at i h pre rest suf is long,
          stands_in (i + 1) f (Some (sign_of q)) (pre ++ h ∷ []) suf (behind h pre rest suf is) (one_longer pre h i long),
        )

    pub head_stands : (i : ℕ) (f : Formula) (o : Option Bool)
        → StandsIn here xs i f o
        → slice_get xs i ≡ Some (here i f o)
    head_stands i (Const b) o s = s
    head_stands i (Prop p) o s = s
    head_stands i (Not f) o s = s.0
    head_stands i (Binary op f g) o s = s.0
    head_stands i (Temporal t f) o s = s.0
    head_stands i (Paired p f g) o s = s.0
    head_stands i (Quantified q f) o s = s.0
