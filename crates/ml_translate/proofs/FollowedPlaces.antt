-- The places behind a place.
--
--   one_cube       == a cube with a literal more is the only one
--   children_apart == a node has one pair of children
--   one_behind, none_behind == what stands behind a literal
--   past_true, past_literal, past_none, past_other == what stands past a state node
--   on_same, on_past, on_either, on_nothing == what a walk goes on to
--   joined_some, joined_none, numbered_some, numbered_none == what a program holds
use Rattle.std.proofs.Common.{ℕ, ◌≡◌, ◌≢◌, ◌<◌, ◌⊎◌, ◌↔◌, inl, inr, arith, Bool, List, [], ◌∷◌, length, Option, Some, None, MatchOption, slice_get, refl, sym, ap, ◌∙◌, subst}
use Rattle.ml_lists.specs.Added.{HasOnePlace}
use Rattle.ml_lists.specs.Ascending.{IsAscending}
use Rattle.ml_lists.specs.Member.{IsMember}
use Rattle.ml_graph.specs.Graph.{Graph, node_at, prop_at}
use Rattle.ml_graph.specs.declared.node.Node.{Node}
use Rattle.ml_graph.specs.declared.node.Node.TheVariants as node
use Rattle.ml_labelled.specs.declared.labelled.Literal.{Literal}
use Rattle.ml_translate.specs.Places.{GoesOnAt, IsJoined, Passes, PassesNode, Place, further}
use Rattle.ml_translate.specs.private.Finding.{AreNumbers, Follows, IsBehindLiteral, IsPast, number_at, props_of}
use Rattle.ml_translate.proofs.Cubes.{prop_above}

-- ---- nodes

-- children that differ differ where the node is written again
pub children_apart : (v : Node) (l r x y : ℕ) → v ≡ node.And l r → v ≡ node.And x y → (l ≡ r → ⊥) → x ≢ y
children_apart v l r x y is also other same = other (ap left (sym is ∙ also) ∙ same ∙ sym (ap right (sym is ∙ also)))
  where
    left : Node → ℕ
    left (node.And m n) = m
    left w = 0

    right : Node → ℕ
    right (node.And m n) = n
    right w = 0

-- ---- cubes are sets

same_cube : (c d : List Literal)
    → IsAscending (props_of c)
    → IsAscending (props_of d)
    → ((m : Literal) → IsMember m c → IsMember m d)
    → ((m : Literal) → IsMember m d → IsMember m c)
    → c ≡ d
same_cube [] [] ascend_c ascend_d there back = refl
same_cube [] (y ∷ ys) ascend_c ascend_d there back = absurd (back y (inl refl))
same_cube (x ∷ xs) [] ascend_c ascend_d there back = absurd (there x (inl refl))
same_cube (x ∷ xs) (y ∷ ys) (above_c, ascend_c) (above_d, ascend_d) there back =
    let head = heads (there x (inl refl)) (back y (inl refl)) in
    let tail = same_cube xs ys ascend_c ascend_d (λ m k. onward m k (there m (inr k)) head) (λ m k. backward m k (back m (inr k)) head) in
    λ i. head i ∷ tail i
  where
    heads : (x ≡ y) ⊎ IsMember x ys → (y ≡ x) ⊎ IsMember y xs → x ≡ y
    heads (inl same) other = same
    heads (inr k) (inl same) = sym same
    heads (inr k) (inr j) =
        let one = prop_above y.prop ys above_d x k in let two = prop_above x.prop xs above_c y j in absurd (omega arith)

    onward : (m : Literal) → IsMember m xs → (m ≡ y) ⊎ IsMember m ys → x ≡ y → IsMember m ys
    onward m k (inr j) head = j
    onward m k (inl same) head =
        let less = prop_above x.prop xs above_c m k in
        let e : m.prop ≡ x.prop = ap (λ (l : Literal). l.prop) (same ∙ sym head) in absurd (omega arith)

    backward : (m : Literal) → IsMember m ys → (m ≡ x) ⊎ IsMember m xs → x ≡ y → IsMember m xs
    backward m k (inr j) head = j
    backward m k (inl same) head =
        let less = prop_above y.prop ys above_d m k in
        let e : m.prop ≡ y.prop = ap (λ (l : Literal). l.prop) (same ∙ head) in absurd (omega arith)

one_cube : (c d e : List Literal) (l : Literal) → IsJoined c l d → IsJoined c l e → d ≡ e
one_cube c d e l j k =
    same_cube d e j.ascends k.ascends (λ m i. (k.literals m).1 ((j.literals m).0 i)) (λ m i. (j.literals m).1 ((k.literals m).0 i))

-- ---- one place

same_place : (s t : Place) → t.state ≡ s.state → t.node ≡ s.node → t.cube ≡ s.cube → t ≡ s
same_place s t state at cube = λ i. record { state = state i; node = at i; cube = cube i }

pub one_behind : (s : Place) (n : ℕ) (l : Literal) (d : List Literal)
    → IsJoined s.cube l d
    → (t : Place) → IsMember t (further s n d ∷ []) ↔ IsBehindLiteral s n l t
one_behind s n l d j t = (there, back)
  where
    there : IsMember t (further s n d ∷ []) → IsBehindLiteral s n l t
    there (inl same) = subst (IsBehindLiteral s n l) (sym same) (record { same_state = refl; at_node = refl; is_joined = j })
    there (inr none) = absurd none

    back : IsBehindLiteral s n l t → IsMember t (further s n d ∷ [])
    back b = inl (same_place (further s n d) t b.same_state b.at_node (one_cube s.cube t.cube d l b.is_joined j))

pub none_behind : (s : Place) (n : ℕ) (l : Literal)
    → ((d : List Literal) → ¬ (IsJoined s.cube l d))
    → (t : Place) → IsMember t [] ↔ IsBehindLiteral s n l t
none_behind s n l none t = ((λ m. absurd m), (λ b. absurd (none t.cube b.is_joined)))

-- ---- past a state node

module _ (g : Graph) (props : List (List ℕ)) (s : Place) (m n : ℕ) where
  pub past_true : node_at g m ≡ node.True → (t : Place) → IsMember t (further s n s.cube ∷ []) ↔ IsPast g props s m n t
  past_true is t = (there, back)
    where
      there : IsMember t (further s n s.cube ∷ []) → IsPast g props s m n t
      there (inl same) =
          subst (IsPast g props s m n) (sym same)
          (record {
            same_state = refl;
            at_node = refl;
            passes = subst (λ v. PassesNode g props v s.cube s.cube) (sym is) refl;
          })
      there (inr none) = absurd none

      back : IsPast g props s m n t → IsMember t (further s n s.cube ∷ [])
      back p =
          inl (same_place (further s n s.cube) t p.same_state p.at_node
          (subst (λ v. PassesNode g props v s.cube t.cube) is p.passes))

  pub past_literal : (k : ℕ) (b : Bool) (i : ℕ) (ts : List Place)
      → node_at g m ≡ node.Lit k b
      → HasOnePlace props
      → slice_get props i ≡ Some (prop_at g k)
      → ((t : Place) → IsMember t ts ↔ IsBehindLiteral s n (record { prop = i; positive = b }) t)
      → (t : Place) → IsMember t ts ↔ IsPast g props s m n t
  past_literal k b i ts is once named behind t = (there, back)
    where
      l : Literal
      l = record { prop = i; positive = b }

      there : IsMember t ts → IsPast g props s m n t
      there j =
          let p = (behind t).0 j in record {
            same_state = p.same_state;
            at_node = p.at_node;
            passes =
                subst (λ v. PassesNode g props v s.cube t.cube) (sym is)
                (record { prop = i; positive = b }, record { name = named; sign = refl }, p.is_joined);
          }

      from : PassesNode g props (node.Lit k b) s.cube t.cube → IsJoined s.cube (record { prop = i; positive = b }) t.cube
      from (x, names, joined) =
          let at = once x.prop i (prop_at g k) names.name named in
          let sign = names.sign in
          subst (λ (y : Literal). IsJoined s.cube y t.cube) (λ j. record { prop = at j; positive = sign j }) joined

      back : IsPast g props s m n t → IsMember t ts
      back p =
          (behind t).1
          (record {
            same_state = p.same_state;
            at_node = p.at_node;
            is_joined = from (subst (λ v. PassesNode g props v s.cube t.cube) is p.passes);
          })

  pub past_none : (k : ℕ) (b : Bool)
      → node_at g m ≡ node.Lit k b
      → ((i : ℕ) → slice_get props i ≢ Some (prop_at g k))
      → (t : Place) → IsMember t [] ↔ IsPast g props s m n t
  past_none k b is none t = ((λ j. absurd j), back)
    where
      from : PassesNode g props (node.Lit k b) s.cube t.cube → ⊥
      from (x, names, joined) = none x.prop names.name

      back : IsPast g props s m n t → IsMember t []
      back p = absurd (from (subst (λ v. PassesNode g props v s.cube t.cube) is p.passes))

  pub past_other : (v : Node)
      → node_at g m ≡ v
      → ((c d : List Literal) → PassesNode g props v c d → ⊥)
      → (t : Place) → IsMember t [] ↔ IsPast g props s m n t
  past_other v is none t =
      ((λ j. absurd j), (λ p. absurd (none s.cube t.cube (subst (λ w. PassesNode g props w s.cube t.cube) is p.passes))))

-- ---- what a walk goes on to

module _ (g : Graph) (props : List (List ℕ)) (s : Place) where
  pub on_same : (l r : ℕ)
      → node_at g s.node ≡ node.And l r
      → l ≡ r
      → (t : Place) → IsMember t (further s r s.cube ∷ []) ↔ Follows g props s t
  on_same l r is same t = (there, back)
    where
      there : IsMember t (further s r s.cube ∷ []) → Follows g props s t
      there (inl e) =
          subst (Follows g props s) (sym e)
          (record {
            same_state = refl;
            goes_on = subst (λ v. GoesOnAt g props v s.cube r s.cube) (sym is) (refl, inl (same, refl));
          })
      there (inr none) = absurd none

      from : GoesOnAt g props (node.And l r) s.cube t.node t.cube → (t.node ≡ r) × (t.cube ≡ s.cube)
      from (at, inl both) = (at, both.1)
      from (at, inr both) = absurd (both.0 same)

      back : Follows g props s t → IsMember t (further s r s.cube ∷ [])
      back f =
          let so = from (subst (λ v. GoesOnAt g props v s.cube t.node t.cube) is f.goes_on) in
          inl (same_place (further s r s.cube) t f.same_state so.0 so.1)

  pub on_past : (l r : ℕ) (ts : List Place)
      → node_at g s.node ≡ node.And l r
      → l ≢ r
      → ((t : Place) → IsMember t ts ↔ IsPast g props s l r t)
      → (t : Place) → IsMember t ts ↔ Follows g props s t
  on_past l r ts is other past t = (there, back)
    where
      there : IsMember t ts → Follows g props s t
      there m =
          let p = (past t).0 m in record {
            same_state = p.same_state;
            goes_on =
                subst (λ v. GoesOnAt g props v s.cube t.node t.cube) (sym is) (p.at_node, inr (other, p.passes));
          }

      from : GoesOnAt g props (node.And l r) s.cube t.node t.cube → (t.node ≡ r) × Passes g props l s.cube t.cube
      from (at, inl both) = absurd (other both.0)
      from (at, inr both) = (at, both.1)

      back : Follows g props s t → IsMember t ts
      back f =
          let so = from (subst (λ v. GoesOnAt g props v s.cube t.node t.cube) is f.goes_on) in
          (past t).1 (record { same_state = f.same_state; at_node = so.0; passes = so.1 })

  pub on_either : (l r : ℕ)
      → node_at g s.node ≡ node.Or l r
      → (t : Place) → IsMember t (further s l s.cube ∷ further s r s.cube ∷ []) ↔ Follows g props s t
  on_either l r is t = (there, back)
    where
      step : (n : ℕ) → (n ≡ l) ⊎ (n ≡ r) → t ≡ further s n s.cube → Follows g props s t
      step n at e =
          subst (Follows g props s) (sym e)
          (record { same_state = refl; goes_on = subst (λ v. GoesOnAt g props v s.cube n s.cube) (sym is) (at, refl) })

      there : IsMember t (further s l s.cube ∷ further s r s.cube ∷ []) → Follows g props s t
      there (inl e) = step l (inl refl) e
      there (inr (inl e)) = step r (inr refl) e
      there (inr (inr none)) = absurd none

      from : Follows g props s t → GoesOnAt g props (node.Or l r) s.cube t.node t.cube
          → IsMember t (further s l s.cube ∷ further s r s.cube ∷ [])
      from f (inl at, kept) = inl (same_place (further s l s.cube) t f.same_state at kept)
      from f (inr at, kept) = inr (inl (same_place (further s r s.cube) t f.same_state at kept))

      back : Follows g props s t → IsMember t (further s l s.cube ∷ further s r s.cube ∷ [])
      back f = from f (subst (λ v. GoesOnAt g props v s.cube t.node t.cube) is f.goes_on)

  pub on_nothing : (v : Node)
      → node_at g s.node ≡ v
      → ((c d : List Literal) (n : ℕ) → GoesOnAt g props v c n d → ⊥)
      → (t : Place) → IsMember t [] ↔ Follows g props s t
  on_nothing v is none t = (
    (λ m. absurd m),
    (λ f. absurd (none s.cube t.cube t.node (subst (λ w. GoesOnAt g props w s.cube t.node t.cube) is f.goes_on))),
  )

-- ---- what a program holds

pub joined_some : (s : Place) (n : ℕ) (l : Literal) (c d : List Literal) (o : Option (List Literal)) (ts : List Place)
    → c ≡ s.cube
    → MatchOption o ((e : List Literal) → ¬ (IsJoined c l e)) (IsJoined c l)
    → o ≡ Some d
    → ts ≡ further s n d ∷ []
    → (t : Place) → IsMember t ts ↔ IsBehindLiteral s n l t
joined_some s n l c d o ts same told is made t =
    let j = subst (λ p. MatchOption p ((e : List Literal) → ¬ (IsJoined c l e)) (IsJoined c l)) is told in
    subst (λ us. IsMember t us ↔ IsBehindLiteral s n l t) (sym made)
    (one_behind s n l d (subst (λ (e : List Literal). IsJoined e l d) same j) t)

pub joined_none : (s : Place) (n : ℕ) (l : Literal) (c : List Literal) (o : Option (List Literal)) (ts : List Place)
    → c ≡ s.cube
    → MatchOption o ((e : List Literal) → ¬ (IsJoined c l e)) (IsJoined c l)
    → o ≡ None
    → ts ≡ []
    → (t : Place) → IsMember t ts ↔ IsBehindLiteral s n l t
joined_none s n l c o ts same told is made t =
    let j = subst (λ p. MatchOption p ((e : List Literal) → ¬ (IsJoined c l e)) (IsJoined c l)) is told in
    subst (λ us. IsMember t us ↔ IsBehindLiteral s n l t) (sym made)
    (none_behind s n l (λ d k. j d (subst (λ (e : List Literal). IsJoined e l d) (sym same) k)) t)

-- the number of a literal's proposition, where it has one
pub numbered_some : (g : Graph) (props : List (List ℕ)) (numbers : List (Option ℕ)) (k i : ℕ)
    → AreNumbers g props numbers
    → k < length g.props
    → number_at numbers k ≡ Some i
    → slice_get props i ≡ Some (prop_at g k)
numbered_some g props numbers k i are low is =
    subst (λ o. MatchOption o ((n : ℕ) → slice_get props n ≢ Some (prop_at g k)) (λ n. slice_get props n ≡ Some (prop_at g k))) is
    (are.are k low)

pub numbered_none : (g : Graph) (props : List (List ℕ)) (numbers : List (Option ℕ)) (k : ℕ)
    → AreNumbers g props numbers
    → k < length g.props
    → number_at numbers k ≡ None
    → (n : ℕ) → slice_get props n ≢ Some (prop_at g k)
numbered_none g props numbers k are low is =
    subst (λ o. MatchOption o ((n : ℕ) → slice_get props n ≢ Some (prop_at g k)) (λ n. slice_get props n ≡ Some (prop_at g k))) is
    (are.are k low)
