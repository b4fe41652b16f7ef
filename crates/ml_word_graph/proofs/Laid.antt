-- Where the nodes of all occurrences stand.
--
--   places_of i f       == the nodes as values, in the order in which they are laid out, True where there is none
--   nodes_are, priorities_are == the nodes and priorities that are laid out are theirs
--   StandIn xs b ys     == ys stands in xs from the place b on
--   found               == each node stands at its key
--   all_places          == the same of a problem
use Rattle.std.proofs.Common.{◌≡◌, ℕ, ◌+◌, ◌*◌, ◌<◌, Bool, true, false, List, [], ◌∷◌, ◌++◌, map, length, get_or}
use Rattle.std.proofs.Common.{inl, inr, refl, sym, ap, subst, ◌∙◌, ⊎_elim, arith, length-append}
use Rattle.std.proofs.lemmas.List.{map-append, get_or_append_left, get_or-append-add}
use Rattle.ml_lists.specs.Member.{IsMember}
use Rattle.ml_lists.proofs.Member.{member-append}
use Rattle.ml_text.specs.declared.token.Operator.{Operator}
use Rattle.ml_text.specs.declared.token.Operator.TheVariants as operator
use Rattle.ml_text.specs.Operators.{weight}
use Rattle.ml_ctl.specs.Formula.{Formula, Const, Prop, Not, Binary, Temporal, Paired, Quantified, occurrences}
use Rattle.ml_ctl.specs.declared.term.Pairing.{Pairing}
use Rattle.ml_word_graph.specs.WordGraph.{Place, Root, Total, HasEdge, LeadsOn, True, Now, Later, Rest, Both, Neither, priority_of, right_at, start_of}
use Rattle.ml_word_graph.specs.private.Layout as layout
use Rattle.ml_word_graph.specs.private.Layout.{key, made}
use Rattle.ml_word_graph.proofs.Sizes as sizes
use Rattle.ml_word_graph.proofs.Sizes.{parts}

abbrev pub rest_places : ℕ → Formula → List Place
rest_places i (Paired p f g) = Rest i p f g true ∷ Rest i p f g false ∷ []
rest_places i f = True ∷ True ∷ []

abbrev pub own_places : ℕ → Formula → List Place
own_places i f = Now i f true ∷ Now i f false ∷ Later i f true ∷ Later i f false ∷ rest_places i f

abbrev pub case_places : Place → Place → List Place
case_places one other = one ∷ other ∷ True ∷ True ∷ True ∷ True ∷ []

abbrev pub iff_places : Operator → ℕ → (f g : Formula) → List Place
iff_places operator.Iff i f g = case_places (Both i f g true) (Both i f g false) ++ case_places (Neither i f g true) (Neither i f g false)
iff_places op i f g = []

abbrev pub places_of : ℕ → Formula → List Place
places_of i (Const b) = own_places i (Const b)
places_of i (Prop p) = own_places i (Prop p)
places_of i (Not f) = own_places i (Not f) ++ places_of (i + 1) f
places_of i (Binary op f g) =
    let l = i + weight op in
    own_places i (Binary op f g) ++ (iff_places op i f g ++ (places_of l f ++ places_of (right_at l f) g))
places_of i (Temporal t f) = own_places i (Temporal t f) ++ places_of (i + 1) f
places_of i (Paired p f g) = own_places i (Paired p f g) ++ (places_of (i + 1) f ++ places_of (right_at (i + 1) f) g)
places_of i (Quantified q f) = own_places i (Quantified q f) ++ places_of (i + 1) f

-- ---- what is laid out

module _ (ps : List (List ℕ)) where
  two_maps : (xs ys : List Place) (us vs : List _) → us ≡ map (made ps) xs → vs ≡ map (made ps) ys → us ++ vs ≡ map (made ps) (xs ++ ys)
  two_maps xs ys us vs x y =
      ap (λ ws. ws ++ vs) x ∙ ap (λ ws. map (made ps) xs ++ ws) y ∙ sym (map-append (made ps) xs ys)

  iff_are : (op : Operator) (i : ℕ) (f g : Formula) → layout.iff_nodes ps op i f g ≡ map (made ps) (iff_places op i f g)
  iff_are operator.And i f g = refl
  iff_are operator.Or i f g = refl
  iff_are operator.Implies i f g = refl
  iff_are operator.Iff i f g = refl

  pub nodes_are : (i : ℕ) (f : Formula) → layout.nodes_of ps i f ≡ map (made ps) (places_of i f)
  nodes_are i (Const b) = refl
  nodes_are i (Prop p) = refl
  nodes_are i (Not f) = two_maps (own_places i (Not f)) (places_of (i + 1) f) (layout.own_nodes ps i (Not f)) _ refl (nodes_are (i + 1) f)
  nodes_are i (Binary op f g) =
      let l = i + weight op in
      let r = right_at l f in
      two_maps (own_places i (Binary op f g)) (iff_places op i f g ++ (places_of l f ++ places_of r g))
      (layout.own_nodes ps i (Binary op f g)) _ refl
      (two_maps (iff_places op i f g) (places_of l f ++ places_of r g) (layout.iff_nodes ps op i f g) _ (iff_are op i f g)
      (two_maps (places_of l f) (places_of r g) (layout.nodes_of ps l f) (layout.nodes_of ps r g) (nodes_are l f) (nodes_are r g)))
  nodes_are i (Temporal t f) =
      two_maps (own_places i (Temporal t f)) (places_of (i + 1) f) (layout.own_nodes ps i (Temporal t f)) _ refl (nodes_are (i + 1) f)
  nodes_are i (Paired p f g) =
      let r = right_at (i + 1) f in
      two_maps (own_places i (Paired p f g)) (places_of (i + 1) f ++ places_of r g) (layout.own_nodes ps i (Paired p f g)) _ refl
      (two_maps (places_of (i + 1) f) (places_of r g) (layout.nodes_of ps (i + 1) f) (layout.nodes_of ps r g) (nodes_are (i + 1) f)
      (nodes_are r g))
  nodes_are i (Quantified q f) =
      two_maps (own_places i (Quantified q f)) (places_of (i + 1) f) (layout.own_nodes ps i (Quantified q f)) _ refl (nodes_are (i + 1) f)

-- ---- their priorities

two_ranks : (xs ys : List Place) (us vs : List ℕ) → us ≡ map priority_of xs → vs ≡ map priority_of ys
    → us ++ vs ≡ map priority_of (xs ++ ys)
two_ranks xs ys us vs x y =
    ap (λ ws. ws ++ vs) x ∙ ap (λ ws. map priority_of xs ++ ws) y ∙ sym (map-append priority_of xs ys)

iff_ranks : (op : Operator) (i : ℕ) (f g : Formula) → layout.iff_priorities op ≡ map priority_of (iff_places op i f g)
iff_ranks operator.And i f g = refl
iff_ranks operator.Or i f g = refl
iff_ranks operator.Implies i f g = refl
iff_ranks operator.Iff i f g = refl

pub priorities_are : (i : ℕ) (f : Formula) → layout.priorities_of f ≡ map priority_of (places_of i f)
priorities_are i (Const b) = refl
priorities_are i (Prop p) = refl
priorities_are i (Not f) =
    two_ranks (own_places i (Not f)) (places_of (i + 1) f) (layout.own_priorities (Not f)) (layout.priorities_of f) refl
    (priorities_are (i + 1) f)
priorities_are i (Binary op f g) =
    let l = i + weight op in
    let r = right_at l f in
    two_ranks (own_places i (Binary op f g)) (iff_places op i f g ++ (places_of l f ++ places_of r g))
    (layout.own_priorities (Binary op f g))
    (layout.iff_priorities op ++ (layout.priorities_of f ++ layout.priorities_of g)) refl
    (two_ranks (iff_places op i f g) (places_of l f ++ places_of r g) (layout.iff_priorities op)
    (layout.priorities_of f ++ layout.priorities_of g) (iff_ranks op i f g)
    (two_ranks (places_of l f) (places_of r g) (layout.priorities_of f) (layout.priorities_of g) (priorities_are l f)
    (priorities_are r g)))
priorities_are i (Temporal t f) =
    two_ranks (own_places i (Temporal t f)) (places_of (i + 1) f) (layout.own_priorities (Temporal t f))
    (layout.priorities_of f) refl (priorities_are (i + 1) f)
priorities_are i (Paired p f g) =
    let r = right_at (i + 1) f in
    two_ranks (own_places i (Paired p f g)) (places_of (i + 1) f ++ places_of r g) (layout.own_priorities (Paired p f g))
    (layout.priorities_of f ++ layout.priorities_of g) refl
    (two_ranks (places_of (i + 1) f) (places_of r g) (layout.priorities_of f) (layout.priorities_of g)
    (priorities_are (i + 1) f) (priorities_are r g))
priorities_are i (Quantified q f) =
    two_ranks (own_places i (Quantified q f)) (places_of (i + 1) f) (layout.own_priorities (Quantified q f))
    (layout.priorities_of f) refl (priorities_are (i + 1) f)

-- ---- where they stand

abbrev pub StandIn : List Place → ℕ → List Place → Type 0
StandIn xs b ys = (k : ℕ) → k < length ys → get_or xs (b + k) True ≡ get_or ys k True

stand_left : (xs : List Place) (b : ℕ) (ys zs : List Place) → StandIn xs b (ys ++ zs) → StandIn xs b ys
stand_left xs b ys zs stand k low =
    stand k (omega (arith, low, length-append ys zs)) ∙ get_or_append_left ys zs True k low

stand_right : (xs : List Place) (b : ℕ) (ys zs : List Place) → StandIn xs b (ys ++ zs) → StandIn xs (b + length ys) zs
stand_right xs b ys zs stand k low =
    let same : b + length ys + k ≡ b + (length ys + k) = omega arith in
    ap (λ n. get_or xs n True) same ∙ stand (length ys + k) (omega (arith, low, length-append ys zs)) ∙ get_or-append-add ys zs k True

-- the two cases of an iff
abbrev pub cases_of : ℕ → Formula → List Place
cases_of i (Binary op f g) = iff_places op i f g
cases_of i f = []

own_length : (i : ℕ) (f : Formula) → length (own_places i f) ≡ 6
own_length i (Const b) = refl
own_length i (Prop p) = refl
own_length i (Not f) = refl
own_length i (Binary op f g) = refl
own_length i (Temporal t f) = refl
own_length i (Paired p f g) = refl
own_length i (Quantified q f) = refl

cases_length : (op : Operator) (i : ℕ) (f g : Formula) → length (iff_places op i f g) + 6 ≡ 6 * weight op
cases_length operator.And i f g = refl
cases_length operator.Or i f g = refl
cases_length operator.Implies i f g = refl
cases_length operator.Iff i f g = refl

pub places_length : (i : ℕ) (f : Formula) → length (places_of i f) ≡ 6 * occurrences f
places_length i (Const b) = refl
places_length i (Prop p) = refl
places_length i (Not f) = omega (arith, length-append (own_places i (Not f)) (places_of (i + 1) f), own_length i (Not f), places_length (i + 1) f)
places_length i (Binary op f g) =
    let l = i + weight op in
    let r = right_at l f in
    omega (
      arith,
      length-append (own_places i (Binary op f g)) (iff_places op i f g ++ (places_of l f ++ places_of r g)),
      length-append (iff_places op i f g) (places_of l f ++ places_of r g),
      length-append (places_of l f) (places_of r g),
      own_length i (Binary op f g),
      cases_length op i f g,
      places_length l f,
      places_length r g,
    )
places_length i (Temporal t f) =
    omega (arith, length-append (own_places i (Temporal t f)) (places_of (i + 1) f), own_length i (Temporal t f), places_length (i + 1) f)
places_length i (Paired p f g) =
    let r = right_at (i + 1) f in
    omega (
      arith,
      length-append (own_places i (Paired p f g)) (places_of (i + 1) f ++ places_of r g),
      length-append (places_of (i + 1) f) (places_of r g),
      own_length i (Paired p f g),
      places_length (i + 1) f,
      places_length r g,
    )
places_length i (Quantified q f) =
    omega (arith, length-append (own_places i (Quantified q f)) (places_of (i + 1) f), own_length i (Quantified q f), places_length (i + 1) f)

module _ (xs : List Place) where
  -- the node p stands at its key
  abbrev pub Found : Place → Type 0
  Found p = get_or xs (key p) True ≡ p

  here : (b : ℕ) (ys : List Place) (k : ℕ) (p : Place) → StandIn xs b ys → k < length ys → get_or ys k True ≡ p → key p ≡ b + k → Found p
  here b ys k p stand low is at = ap (λ n. get_or xs n True) at ∙ stand k low ∙ is

  now_found : (i : ℕ) (f : Formula) (sign : Bool) → StandIn xs (5 + 6 * i) (own_places i f) → Found (Now i f sign)
  now_found i f true stand = here (5 + 6 * i) (own_places i f) 0 (Now i f true) stand (omega arith) refl (omega arith)
  now_found i f false stand = here (5 + 6 * i) (own_places i f) 1 (Now i f false) stand (omega arith) refl (omega arith)

  later_found : (i : ℕ) (f : Formula) (sign : Bool) → StandIn xs (5 + 6 * i) (own_places i f) → Found (Later i f sign)
  later_found i f true stand = here (5 + 6 * i) (own_places i f) 2 (Later i f true) stand (omega arith) refl (omega arith)
  later_found i f false stand = here (5 + 6 * i) (own_places i f) 3 (Later i f false) stand (omega arith) refl (omega arith)

  rest_found : (i : ℕ) (p : Pairing) (f g : Formula) (sign : Bool) → StandIn xs (5 + 6 * i) (own_places i (Paired p f g)) → Found (Rest i p f g sign)
  rest_found i p f g true stand = here (5 + 6 * i) (own_places i (Paired p f g)) 4 (Rest i p f g true) stand (omega arith) refl (omega arith)
  rest_found i p f g false stand = here (5 + 6 * i) (own_places i (Paired p f g)) 5 (Rest i p f g false) stand (omega arith) refl (omega arith)

  case_found : (i : ℕ) (f g : Formula) (sign : Bool) → StandIn xs (5 + 6 * i + 6) (iff_places operator.Iff i f g)
      → Found (Both i f g sign) × Found (Neither i f g sign)
  case_found i f g true stand = (
    here (5 + 6 * i + 6) (iff_places operator.Iff i f g) 0 (Both i f g true) stand (omega arith) refl (omega arith),
    here (5 + 6 * i + 6) (iff_places operator.Iff i f g) 6 (Neither i f g true) stand (omega arith) refl (omega arith),
  )
  case_found i f g false stand = (
    here (5 + 6 * i + 6) (iff_places operator.Iff i f g) 1 (Both i f g false) stand (omega arith) refl (omega arith),
    here (5 + 6 * i + 6) (iff_places operator.Iff i f g) 7 (Neither i f g false) stand (omega arith) refl (omega arith),
  )

  is_found : (p q : Place) → p ≡ q → Found q → Found p
  is_found p q same found = subst Found (sym same) found

  one_found : (p q : Place) → IsMember p (q ∷ []) → Found q → Found p
  one_found p q (inl same) found = is_found p q same found
  one_found p q (inr none) found = absurd none

  own_found : (i : ℕ) (f : Formula) (sign : Bool) (p : Place) → StandIn xs (5 + 6 * i) (own_places i f)
      → StandIn xs (5 + 6 * i + 6) (cases_of i f)
      → IsMember p (sizes.own i f sign)
      → Found p
  own_found i (Const b) sign p stand cases h = one_found p (Now i (Const b) sign) h (now_found i (Const b) sign stand)
  own_found i (Prop x) sign p stand cases h = one_found p (Now i (Prop x) sign) h (now_found i (Prop x) sign stand)
  own_found i (Not f) sign p stand cases h = one_found p (Now i (Not f) sign) h (now_found i (Not f) sign stand)
  own_found i (Quantified q f) sign p stand cases h = one_found p (Now i (Quantified q f) sign) h (now_found i (Quantified q f) sign stand)
  own_found i (Binary operator.And f g) sign p stand cases h =
      one_found p (Now i (Binary operator.And f g) sign) h (now_found i (Binary operator.And f g) sign stand)
  own_found i (Binary operator.Or f g) sign p stand cases h =
      one_found p (Now i (Binary operator.Or f g) sign) h (now_found i (Binary operator.Or f g) sign stand)
  own_found i (Binary operator.Implies f g) sign p stand cases h =
      one_found p (Now i (Binary operator.Implies f g) sign) h (now_found i (Binary operator.Implies f g) sign stand)
  own_found i (Binary operator.Iff f g) sign p stand cases (inl same) =
      is_found p (Now i (Binary operator.Iff f g) sign) same (now_found i (Binary operator.Iff f g) sign stand)
  own_found i (Binary operator.Iff f g) sign p stand cases (inr (inl same)) =
      is_found p (Both i f g sign) same (case_found i f g sign cases).0
  own_found i (Binary operator.Iff f g) sign p stand cases (inr (inr h)) =
      one_found p (Neither i f g sign) h (case_found i f g sign cases).1
  own_found i (Temporal t f) sign p stand cases (inl same) = is_found p (Now i (Temporal t f) sign) same (now_found i (Temporal t f) sign stand)
  own_found i (Temporal t f) sign p stand cases (inr h) = one_found p (Later i (Temporal t f) sign) h (later_found i (Temporal t f) sign stand)
  own_found i (Paired k f g) sign p stand cases (inl same) = is_found p (Now i (Paired k f g) sign) same (now_found i (Paired k f g) sign stand)
  own_found i (Paired k f g) sign p stand cases (inr (inl same)) = is_found p (Rest i k f g sign) same (rest_found i k f g sign stand)
  own_found i (Paired k f g) sign p stand cases (inr (inr h)) = one_found p (Later i (Paired k f g) sign) h (later_found i (Paired k f g) sign stand)

  none_stand : (b : ℕ) → StandIn xs b []
  none_stand b k low = absurd (omega (arith, low))

  moved : (a b : ℕ) (ys : List Place) → a ≡ b → StandIn xs a ys → StandIn xs b ys
  moved a b ys same stand = subst (λ n. StandIn xs n ys) same stand

  -- behind the occurrence itself
  behind_own : (i : ℕ) (f : Formula) (ys : List Place) → StandIn xs (5 + 6 * i) (own_places i f ++ ys) → StandIn xs (5 + 6 * i + 6) ys
  behind_own i f ys stand =
      moved (5 + 6 * i + length (own_places i f)) (5 + 6 * i + 6) ys (ap (λ n. 5 + 6 * i + n) (own_length i f))
      (stand_right xs (5 + 6 * i) (own_places i f) ys stand)

  next_at : (i : ℕ) (f : Formula) (ys : List Place) → StandIn xs (5 + 6 * i) (own_places i f ++ ys) → StandIn xs (5 + 6 * (i + 1)) ys
  next_at i f ys stand =
      let same : 5 + 6 * i + 6 ≡ 5 + 6 * (i + 1) = omega arith in
      moved (5 + 6 * i + 6) (5 + 6 * (i + 1)) ys same (behind_own i f ys stand)

  -- of two operands
  second_at : (i : ℕ) (f g : Formula) → StandIn xs (5 + 6 * i) (places_of i f ++ places_of (right_at i f) g)
      → StandIn xs (5 + 6 * right_at i f) (places_of (right_at i f) g)
  second_at i f g stand =
      let same : 5 + 6 * i + length (places_of i f) ≡ 5 + 6 * right_at i f = omega (arith, places_length i f) in
      moved (5 + 6 * i + length (places_of i f)) (5 + 6 * right_at i f) (places_of (right_at i f) g) same
      (stand_right xs (5 + 6 * i) (places_of i f) (places_of (right_at i f) g) stand)

  both_found : (i : ℕ) (f g : Formula) → StandIn xs (5 + 6 * i) (places_of i f ++ places_of (right_at i f) g) → (p : Place)
      → ((p : Place) → IsMember p (sizes.nodes_of i f) → Found p)
      → ((p : Place) → IsMember p (sizes.nodes_of (right_at i f) g) → Found p)
      → IsMember p (sizes.nodes_of i f ++ sizes.nodes_of (right_at i f) g)
      → Found p
  both_found i f g stand p one other h =
      ⊎_elim (λ (x : IsMember p (sizes.nodes_of i f)). one p x)
      (λ (x : IsMember p (sizes.nodes_of (right_at i f) g)). other p x)
      (member-append p (sizes.nodes_of i f) (sizes.nodes_of (right_at i f) g) h)

  pub found : (i : ℕ) (f : Formula) → StandIn xs (5 + 6 * i) (places_of i f) → (p : Place) → IsMember p (sizes.nodes_of i f) → Found p
  found i (Const b) stand p h =
      parts i (Const b) [] p (Found p) h (λ sign x. own_found i (Const b) sign p stand (none_stand (5 + 6 * i + 6)) x) (λ none. absurd none)
  found i (Prop y) stand p h =
      parts i (Prop y) [] p (Found p) h (λ sign x. own_found i (Prop y) sign p stand (none_stand (5 + 6 * i + 6)) x) (λ none. absurd none)
  found i (Not f) stand p h =
      parts i (Not f) (sizes.nodes_of (i + 1) f) p (Found p) h
      (λ sign x. own_found i (Not f) sign p (stand_left xs (5 + 6 * i) (own_places i (Not f)) (places_of (i + 1) f) stand)
      (none_stand (5 + 6 * i + 6)) x)
      (λ x. found (i + 1) f (next_at i (Not f) (places_of (i + 1) f) stand) p x)
  found i (Temporal t f) stand p h =
      let w : Formula = Temporal t f in
      parts i w (sizes.nodes_of (i + 1) f) p (Found p) h
      (λ sign x. own_found i w sign p (stand_left xs (5 + 6 * i) (own_places i w) (places_of (i + 1) f) stand)
      (none_stand (5 + 6 * i + 6)) x)
      (λ x. found (i + 1) f (next_at i w (places_of (i + 1) f) stand) p x)
  found i (Quantified q f) stand p h =
      let w : Formula = Quantified q f in
      parts i w [] p (Found p) h
      (λ sign x. own_found i w sign p (stand_left xs (5 + 6 * i) (own_places i w) (places_of (i + 1) f) stand)
      (none_stand (5 + 6 * i + 6)) x)
      (λ none. absurd none)
  found i (Paired k f g) stand p h =
      let w : Formula = Paired k f g in
      let r : ℕ = right_at (i + 1) f in
      let ys : List Place = places_of (i + 1) f ++ places_of r g in
      let both = next_at i w ys stand in
      parts i w (sizes.nodes_of (i + 1) f ++ sizes.nodes_of r g) p (Found p) h
      (λ sign x. own_found i w sign p (stand_left xs (5 + 6 * i) (own_places i w) ys stand) (none_stand (5 + 6 * i + 6)) x)
      (λ x. both_found (i + 1) f g both p (found (i + 1) f (stand_left xs (5 + 6 * (i + 1)) (places_of (i + 1) f) (places_of r g) both))
      (found r g (second_at (i + 1) f g both)) x)
  found i (Binary op f g) stand p h =
      let w : Formula = Binary op f g in
      let l : ℕ = i + weight op in
      let r : ℕ = right_at l f in
      let ys : List Place = places_of l f ++ places_of r g in
      let zs : List Place = iff_places op i f g in
      let behind = behind_own i w (zs ++ ys) stand in
      let same : 5 + 6 * i + 6 + length zs ≡ 5 + 6 * l = omega (arith, cases_length op i f g) in
      let both = moved (5 + 6 * i + 6 + length zs) (5 + 6 * l) ys same (stand_right xs (5 + 6 * i + 6) zs ys behind) in
      parts i w (sizes.nodes_of l f ++ sizes.nodes_of r g) p (Found p) h
      (λ sign x. own_found i w sign p (stand_left xs (5 + 6 * i) (own_places i w) (zs ++ ys) stand)
      (stand_left xs (5 + 6 * i + 6) zs ys behind) x)
      (λ x. both_found l f g both p (found l f (stand_left xs (5 + 6 * l) (places_of l f) (places_of r g) both))
      (found r g (second_at l f g both)) x)

-- ---- a problem

abbrev pub all_places : Formula → Bool → List Place
all_places f negated = Root (start_of f negated) ∷ Total ∷ HasEdge ∷ LeadsOn ∷ True ∷ places_of 0 f

-- each node that is reached stands at its key
pub all_found : (f : Formula) (negated : Bool) (p : Place) → IsMember p (sizes.all_nodes f negated)
    → get_or (all_places f negated) (key p) True ≡ p
all_found f negated p (inl same) = subst (λ q. get_or (all_places f negated) (key q) True ≡ q) (sym same) refl
all_found f negated p (inr (inl same)) = subst (λ q. get_or (all_places f negated) (key q) True ≡ q) (sym same) refl
all_found f negated p (inr (inr (inl same))) = subst (λ q. get_or (all_places f negated) (key q) True ≡ q) (sym same) refl
all_found f negated p (inr (inr (inr (inl same)))) = subst (λ q. get_or (all_places f negated) (key q) True ≡ q) (sym same) refl
all_found f negated p (inr (inr (inr (inr (inl same))))) = subst (λ q. get_or (all_places f negated) (key q) True ≡ q) (sym same) refl
all_found f negated p (inr (inr (inr (inr (inr h))))) = found (all_places f negated) 0 f stand p h
  where
    stand : StandIn (all_places f negated) (5 + 6 * 0) (places_of 0 f)
    stand k low = get_or-append-add (Root (start_of f negated) ∷ Total ∷ HasEdge ∷ LeadsOn ∷ True ∷ []) (places_of 0 f) k True
