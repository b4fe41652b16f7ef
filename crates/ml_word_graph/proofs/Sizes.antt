-- How many nodes the graph of a formula has.
--
--   nodes_of i f        == the nodes of the formula f at the occurrence i, and of its operands
--   nodes_few           == at most four for each occurrence
--   nodes_closed        == from one of them one comes to others of them
--   few_places          == a list without repetitions whose members stand in a list is no longer than it
--   graphs_are_small    == so a graph has at most four nodes for each occurrence, and five more
use Rattle.std.proofs.Common.{◌≡◌, ℕ, ◌+◌, ◌*◌, ◌<◌, ◌≤◌, ◌⊎◌, Bool, true, false, not, List, [], ◌∷◌, ◌++◌, Some}
use Rattle.std.proofs.Common.{length, get_or, slice_get, inl, inr, refl, sym, ap, subst, ◌∙◌, ⊎_elim, arith, length-append}
use Rattle.std.proofs.lemmas.Bool.{cases_lt}
use Rattle.ml_lists.specs.Member.{IsMember}
use Rattle.ml_lists.specs.Pigeons.{Twice}
use Rattle.ml_lists.proofs.Member.{member-append, member-append_left, member-append_right, member-place, member_of_get}
use Rattle.ml_lists.proofs.Pigeons.{pigeons}
use Rattle.ml_text.specs.declared.token.Operator.TheVariants as operator
use Rattle.ml_text.specs.Operators.{weight}
use Rattle.ml_ctl.specs.Formula.{Formula, Const, Prop, Not, Binary, Temporal, Paired, Quantified, occurrences}
use Rattle.ml_ctl.specs.declared.term.Tense.{Tense}
use Rattle.ml_ctl.specs.declared.term.Tense.TheVariants as tense
use Rattle.ml_ctl.specs.declared.term.Pairing.{Pairing}
use Rattle.ml_ctl.specs.declared.term.Pairing.TheVariants as pairing
use Rattle.ml_word_graph.specs.Laws.{GraphsAreSmall}
use Rattle.ml_word_graph.specs.WordGraph.{Place, Root, Total, HasEdge, LeadsOn, True, Now, Later, Rest, Both, Neither}
use Rattle.ml_word_graph.specs.WordGraph.{IsReached, all_of, at_root, behind, children, form_of, right_at, start_of}
use Rattle.ml_lists.proofs.Entries.{some_entry}

-- the nodes of the occurrence itself with this sign
abbrev pub own : ℕ → Formula → Bool → List Place
own i (Const b) sign = Now i (Const b) sign ∷ []
own i (Prop p) sign = Now i (Prop p) sign ∷ []
own i (Not f) sign = Now i (Not f) sign ∷ []
own i (Binary operator.And f g) sign = Now i (Binary operator.And f g) sign ∷ []
own i (Binary operator.Or f g) sign = Now i (Binary operator.Or f g) sign ∷ []
own i (Binary operator.Implies f g) sign = Now i (Binary operator.Implies f g) sign ∷ []
own i (Binary operator.Iff f g) sign = Now i (Binary operator.Iff f g) sign ∷ Both i f g sign ∷ Neither i f g sign ∷ []
own i (Temporal t f) sign = Now i (Temporal t f) sign ∷ Later i (Temporal t f) sign ∷ []
own i (Paired p f g) sign = Now i (Paired p f g) sign ∷ Rest i p f g sign ∷ Later i (Paired p f g) sign ∷ []
own i (Quantified q f) sign = Now i (Quantified q f) sign ∷ []

abbrev pub both_signs : ℕ → Formula → List Place → List Place
both_signs i f rest = own i f true ++ (own i f false ++ rest)

abbrev pub nodes_of : ℕ → Formula → List Place
nodes_of i (Const b) = both_signs i (Const b) []
nodes_of i (Prop p) = both_signs i (Prop p) []
nodes_of i (Not f) = both_signs i (Not f) (nodes_of (i + 1) f)
nodes_of i (Binary op f g) =
    both_signs i (Binary op f g) (nodes_of (i + weight op) f ++ nodes_of (right_at (i + weight op) f) g)
nodes_of i (Temporal t f) = both_signs i (Temporal t f) (nodes_of (i + 1) f)
nodes_of i (Paired p f g) = both_signs i (Paired p f g) (nodes_of (i + 1) f ++ nodes_of (right_at (i + 1) f) g)
nodes_of i (Quantified q f) = both_signs i (Quantified q f) []

-- ---- at most four for each occurrence

nodes_few : (i : ℕ) (f : Formula) → length (nodes_of i f) + 2 ≤ 4 * occurrences f
nodes_few i (Const b) = omega arith
nodes_few i (Prop p) = omega arith
nodes_few i (Not f) = let few = nodes_few (i + 1) f in omega (arith, few)
nodes_few i (Binary operator.And f g) =
    let l = nodes_few (i + 1) f in
    let r = nodes_few (right_at (i + 1) f) g in
    omega (arith, l, r, length-append (nodes_of (i + 1) f) (nodes_of (right_at (i + 1) f) g))
nodes_few i (Binary operator.Or f g) =
    let l = nodes_few (i + 1) f in
    let r = nodes_few (right_at (i + 1) f) g in
    omega (arith, l, r, length-append (nodes_of (i + 1) f) (nodes_of (right_at (i + 1) f) g))
nodes_few i (Binary operator.Implies f g) =
    let l = nodes_few (i + 1) f in
    let r = nodes_few (right_at (i + 1) f) g in
    omega (arith, l, r, length-append (nodes_of (i + 1) f) (nodes_of (right_at (i + 1) f) g))
nodes_few i (Binary operator.Iff f g) =
    let l = nodes_few (i + 3) f in
    let r = nodes_few (right_at (i + 3) f) g in
    omega (arith, l, r, length-append (nodes_of (i + 3) f) (nodes_of (right_at (i + 3) f) g))
nodes_few i (Temporal t f) = let few = nodes_few (i + 1) f in omega (arith, few)
nodes_few i (Paired p f g) =
    let l = nodes_few (i + 1) f in
    let r = nodes_few (right_at (i + 1) f) g in
    omega (arith, l, r, length-append (nodes_of (i + 1) f) (nodes_of (right_at (i + 1) f) g))
nodes_few i (Quantified q f) = omega arith

-- ---- from one of them one comes to others of them

own_in : (i : ℕ) (f : Formula) (sign : Bool) (p : Place) (rest : List Place) → IsMember p (own i f sign) → IsMember p (both_signs i f rest)
own_in i f true p rest h = member-append_left p (own i f true) (own i f false ++ rest) h
own_in i f false p rest h =
    member-append_right p (own i f true) (own i f false ++ rest) (member-append_left p (own i f false) rest h)

rest_in : (i : ℕ) (f : Formula) (p : Place) (rest : List Place) → IsMember p rest → IsMember p (both_signs i f rest)
rest_in i f p rest h = member-append_right p (own i f true) (own i f false ++ rest) (member-append_right p (own i f false) rest h)

now_own : (i : ℕ) (f : Formula) (sign : Bool) → IsMember (Now i f sign) (own i f sign)
now_own i (Const b) sign = inl refl
now_own i (Prop p) sign = inl refl
now_own i (Not f) sign = inl refl
now_own i (Binary operator.And f g) sign = inl refl
now_own i (Binary operator.Or f g) sign = inl refl
now_own i (Binary operator.Implies f g) sign = inl refl
now_own i (Binary operator.Iff f g) sign = inl refl
now_own i (Temporal t f) sign = inl refl
now_own i (Paired p f g) sign = inl refl
now_own i (Quantified q f) sign = inl refl

own_there : (i : ℕ) (f : Formula) (sign : Bool) (p : Place) → IsMember p (own i f sign) → IsMember p (nodes_of i f)
own_there i (Const b) sign p h = own_in i (Const b) sign p [] h
own_there i (Prop x) sign p h = own_in i (Prop x) sign p [] h
own_there i (Not f) sign p h = own_in i (Not f) sign p (nodes_of (i + 1) f) h
own_there i (Binary op f g) sign p h =
    own_in i (Binary op f g) sign p (nodes_of (i + weight op) f ++ nodes_of (right_at (i + weight op) f) g) h
own_there i (Temporal t f) sign p h = own_in i (Temporal t f) sign p (nodes_of (i + 1) f) h
own_there i (Paired k f g) sign p h =
    own_in i (Paired k f g) sign p (nodes_of (i + 1) f ++ nodes_of (right_at (i + 1) f) g) h
own_there i (Quantified k f) sign p h = own_in i (Quantified k f) sign p [] h

now_in : (i : ℕ) (f : Formula) (sign : Bool) → IsMember (Now i f sign) (nodes_of i f)
now_in i f sign = own_there i f sign (Now i f sign) (now_own i f sign)

two_in : (c : Bool) (l r q : Place) (xs : List Place) → IsMember l xs → IsMember r xs → IsMember q (children (all_of c l r)) → IsMember q xs
two_in true l r q xs x y (inl same) = subst (λ p. IsMember p xs) (sym same) x
two_in true l r q xs x y (inr (inl same)) = subst (λ p. IsMember p xs) (sym same) y
two_in true l r q xs x y (inr (inr none)) = absurd none
two_in false l r q xs x y (inl same) = subst (λ p. IsMember p xs) (sym same) x
two_in false l r q xs x y (inr (inl same)) = subst (λ p. IsMember p xs) (sym same) y
two_in false l r q xs x y (inr (inr none)) = absurd none

one_in : (r q : Place) (xs : List Place) → IsMember r xs → IsMember q (r ∷ []) → IsMember q xs
one_in r q xs x (inl same) = subst (λ p. IsMember p xs) (sym same) x
one_in r q xs x (inr none) = absurd none

-- the children of a node, in a list
abbrev ChildrenIn : List Place → Place → Type 0
ChildrenIn xs p = (q : Place) → IsMember q (children (form_of p)) → IsMember q xs

at_place : (xs : List Place) (p r : Place) → p ≡ r → ChildrenIn xs r → ChildrenIn xs p
at_place xs p r same each q h = each q (subst (λ x. IsMember q (children (form_of x))) same h)

-- of two operands, the nodes of the occurrence itself
module _ (i : ℕ) (w : Formula) (l r : ℕ) (f g : Formula) where
  abbrev rest : List Place
  rest = nodes_of l f ++ nodes_of r g

  abbrev all : List Place
  all = both_signs i w rest

  left_in : (sign : Bool) → IsMember (Now l f sign) all
  left_in sign = rest_in i w (Now l f sign) rest (member-append_left (Now l f sign) (nodes_of l f) (nodes_of r g) (now_in l f sign))

  right_in : (sign : Bool) → IsMember (Now r g sign) all
  right_in sign = rest_in i w (Now r g sign) rest (member-append_right (Now r g sign) (nodes_of l f) (nodes_of r g) (now_in r g sign))

tense_closed : (i : ℕ) (t : Tense) (f : Formula) (sign : Bool) → ChildrenIn (nodes_of i (Temporal t f)) (Now i (Temporal t f) sign)
tense_closed i tense.Next f sign q h =
    one_in (Now (i + 1) f sign) q (nodes_of i (Temporal tense.Next f)) (rest_in i (Temporal tense.Next f) (Now (i + 1) f sign) (nodes_of (i + 1) f) (now_in (i + 1) f sign)) h
tense_closed i tense.Finally f sign q h =
    let w : Formula = Temporal tense.Finally f in
    two_in (not sign) (Now (i + 1) f sign) (Later i w sign) q (nodes_of i w) (rest_in i w (Now (i + 1) f sign) (nodes_of (i + 1) f) (now_in (i + 1) f sign))
    (own_there i w sign (Later i w sign) (inr (inl refl))) h
tense_closed i tense.Globally f sign q h =
    let w : Formula = Temporal tense.Globally f in
    two_in sign (Now (i + 1) f sign) (Later i w sign) q (nodes_of i w) (rest_in i w (Now (i + 1) f sign) (nodes_of (i + 1) f) (now_in (i + 1) f sign))
    (own_there i w sign (Later i w sign) (inr (inl refl))) h

now_closed : (i : ℕ) (k : Pairing) (f g : Formula) (sign : Bool) → ChildrenIn (nodes_of i (Paired k f g)) (Now i (Paired k f g) sign)
now_closed i pairing.Until f g sign q h =
    let w : Formula = Paired pairing.Until f g in
    two_in (not sign) (Now (right_at (i + 1) f) g sign) (Rest i pairing.Until f g sign) q (nodes_of i w) (right_in i w (i + 1) (right_at (i + 1) f) f g sign)
    (own_there i w sign (Rest i pairing.Until f g sign) (inr (inl refl))) h
now_closed i pairing.Weak f g sign q h =
    let w : Formula = Paired pairing.Weak f g in
    two_in (not sign) (Now (right_at (i + 1) f) g sign) (Rest i pairing.Weak f g sign) q (nodes_of i w) (right_in i w (i + 1) (right_at (i + 1) f) f g sign)
    (own_there i w sign (Rest i pairing.Weak f g sign) (inr (inl refl))) h
now_closed i pairing.Release f g sign q h =
    let w : Formula = Paired pairing.Release f g in
    two_in sign (Now (right_at (i + 1) f) g sign) (Rest i pairing.Release f g sign) q (nodes_of i w) (right_in i w (i + 1) (right_at (i + 1) f) f g sign)
    (own_there i w sign (Rest i pairing.Release f g sign) (inr (inl refl))) h

rest_closed : (i : ℕ) (k : Pairing) (f g : Formula) (sign : Bool) → ChildrenIn (nodes_of i (Paired k f g)) (Rest i k f g sign)
rest_closed i pairing.Until f g sign q h =
    let w : Formula = Paired pairing.Until f g in
    two_in sign (Now (i + 1) f sign) (Later i w sign) q (nodes_of i w) (left_in i w (i + 1) (right_at (i + 1) f) f g sign)
    (own_there i w sign (Later i w sign) (inr (inr (inl refl)))) h
rest_closed i pairing.Weak f g sign q h =
    let w : Formula = Paired pairing.Weak f g in
    two_in sign (Now (i + 1) f sign) (Later i w sign) q (nodes_of i w) (left_in i w (i + 1) (right_at (i + 1) f) f g sign)
    (own_there i w sign (Later i w sign) (inr (inr (inl refl)))) h
rest_closed i pairing.Release f g sign q h =
    let w : Formula = Paired pairing.Release f g in
    two_in (not sign) (Now (i + 1) f sign) (Later i w sign) q (nodes_of i w) (left_in i w (i + 1) (right_at (i + 1) f) f g sign)
    (own_there i w sign (Later i w sign) (inr (inr (inl refl)))) h

own_closed : (i : ℕ) (f : Formula) (sign : Bool) (p : Place) → IsMember p (own i f sign) → ChildrenIn (nodes_of i f) p
own_closed i (Const b) sign p (inl same) = at_place (nodes_of i (Const b)) p (Now i (Const b) sign) same (λ q h. absurd h)
own_closed i (Const b) sign p (inr none) = absurd none
own_closed i (Prop x) sign p (inl same) = at_place (nodes_of i (Prop x)) p (Now i (Prop x) sign) same (λ q h. absurd h)
own_closed i (Prop x) sign p (inr none) = absurd none
own_closed i (Quantified k f) sign p (inl same) = at_place (nodes_of i (Quantified k f)) p (Now i (Quantified k f) sign) same (λ q h. absurd h)
own_closed i (Quantified k f) sign p (inr none) = absurd none
own_closed i (Not f) sign p (inl same) =
    let next = rest_in i (Not f) (Now (i + 1) f (not sign)) (nodes_of (i + 1) f) (now_in (i + 1) f (not sign)) in
    at_place (nodes_of i (Not f)) p (Now i (Not f) sign) same (λ q h. two_in true (Now (i + 1) f (not sign)) (Now (i + 1) f (not sign)) q (nodes_of i (Not f)) next next h)
own_closed i (Not f) sign p (inr none) = absurd none
own_closed i (Binary operator.And f g) sign p (inl same) =
    let w : Formula = Binary operator.And f g in
    at_place (nodes_of i (Binary operator.And f g)) p (Now i w sign) same (λ q h. two_in sign (Now (i + 1) f sign) (Now (right_at (i + 1) f) g sign) q (nodes_of i w) (left_in i w (i + 1) (right_at (i + 1) f) f g sign)
    (right_in i w (i + 1) (right_at (i + 1) f) f g sign) h)
own_closed i (Binary operator.And f g) sign p (inr none) = absurd none
own_closed i (Binary operator.Or f g) sign p (inl same) =
    let w : Formula = Binary operator.Or f g in
    at_place (nodes_of i (Binary operator.Or f g)) p (Now i w sign) same (λ q h. two_in (not sign) (Now (i + 1) f sign) (Now (right_at (i + 1) f) g sign) q (nodes_of i w) (left_in i w (i + 1) (right_at (i + 1) f) f g sign)
    (right_in i w (i + 1) (right_at (i + 1) f) f g sign) h)
own_closed i (Binary operator.Or f g) sign p (inr none) = absurd none
own_closed i (Binary operator.Implies f g) sign p (inl same) =
    let w : Formula = Binary operator.Implies f g in
    at_place (nodes_of i (Binary operator.Implies f g)) p (Now i w sign) same (λ q h. two_in (not sign) (Now (i + 1) f (not sign)) (Now (right_at (i + 1) f) g sign) q (nodes_of i w) (left_in i w (i + 1) (right_at (i + 1) f) f g (not sign))
    (right_in i w (i + 1) (right_at (i + 1) f) f g sign) h)
own_closed i (Binary operator.Implies f g) sign p (inr none) = absurd none
own_closed i (Binary operator.Iff f g) sign p (inl same) =
    let w : Formula = Binary operator.Iff f g in
    at_place (nodes_of i (Binary operator.Iff f g)) p (Now i w sign) same (λ q h. two_in false (Both i f g sign) (Neither i f g sign) q (nodes_of i w)
    (own_there i w sign (Both i f g sign) (inr (inl refl))) (own_there i w sign (Neither i f g sign) (inr (inr (inl refl)))) h)
own_closed i (Binary operator.Iff f g) sign p (inr (inl same)) =
    let w : Formula = Binary operator.Iff f g in
    at_place (nodes_of i (Binary operator.Iff f g)) p (Both i f g sign) same (λ q h. two_in true (Now (i + 3) f true) (Now (right_at (i + 3) f) g sign) q (nodes_of i w) (left_in i w (i + 3) (right_at (i + 3) f) f g true)
    (right_in i w (i + 3) (right_at (i + 3) f) f g sign) h)
own_closed i (Binary operator.Iff f g) sign p (inr (inr (inl same))) =
    let w : Formula = Binary operator.Iff f g in
    at_place (nodes_of i (Binary operator.Iff f g)) p (Neither i f g sign) same (λ q h. two_in true (Now (i + 3) f false) (Now (right_at (i + 3) f) g (not sign)) q (nodes_of i w) (left_in i w (i + 3) (right_at (i + 3) f) f g false)
    (right_in i w (i + 3) (right_at (i + 3) f) f g (not sign)) h)
own_closed i (Binary operator.Iff f g) sign p (inr (inr (inr none))) = absurd none
own_closed i (Temporal t f) sign p (inl same) = at_place (nodes_of i (Temporal t f)) p (Now i (Temporal t f) sign) same (tense_closed i t f sign)
own_closed i (Temporal t f) sign p (inr (inl same)) =
    at_place (nodes_of i (Temporal t f)) p (Later i (Temporal t f) sign) same (λ q h. one_in (Now i (Temporal t f) sign) q (nodes_of i (Temporal t f)) (now_in i (Temporal t f) sign) h)
own_closed i (Temporal t f) sign p (inr (inr none)) = absurd none
own_closed i (Paired k f g) sign p (inl same) = at_place (nodes_of i (Paired k f g)) p (Now i (Paired k f g) sign) same (now_closed i k f g sign)
own_closed i (Paired k f g) sign p (inr (inl same)) = at_place (nodes_of i (Paired k f g)) p (Rest i k f g sign) same (rest_closed i k f g sign)
own_closed i (Paired k f g) sign p (inr (inr (inl same))) =
    at_place (nodes_of i (Paired k f g)) p (Later i (Paired k f g) sign) same (λ q h. one_in (Now i (Paired k f g) sign) q (nodes_of i (Paired k f g)) (now_in i (Paired k f g) sign) h)
own_closed i (Paired k f g) sign p (inr (inr (inr none))) = absurd none

-- a node of the occurrence itself, or of its operands
pub parts : (i : ℕ) (f : Formula) (rest : List Place) (p : Place) (P : Type 0) → IsMember p (both_signs i f rest)
    → ((sign : Bool) → IsMember p (own i f sign) → P)
    → (IsMember p rest → P)
    → P
parts i f rest p P h one other =
    ⊎_elim (λ (x : IsMember p (own i f true)). one true x)
    (λ (later : IsMember p (own i f false ++ rest)).
    ⊎_elim (λ (x : IsMember p (own i f false)). one false x) (λ (x : IsMember p rest). other x) (member-append p (own i f false) rest later))
    (member-append p (own i f true) (own i f false ++ rest) h)

nodes_closed : (i : ℕ) (f : Formula) (p : Place) → IsMember p (nodes_of i f) → ChildrenIn (nodes_of i f) p
nodes_closed i (Const b) p h = parts i (Const b) [] p (ChildrenIn (nodes_of i (Const b)) p) h (λ sign x. own_closed i (Const b) sign p x) (λ none. absurd none)
nodes_closed i (Prop x) p h = parts i (Prop x) [] p (ChildrenIn (nodes_of i (Prop x)) p) h (λ sign y. own_closed i (Prop x) sign p y) (λ none. absurd none)
nodes_closed i (Quantified k f) p h =
    parts i (Quantified k f) [] p (ChildrenIn (nodes_of i (Quantified k f)) p) h (λ sign x. own_closed i (Quantified k f) sign p x) (λ none. absurd none)
nodes_closed i (Not f) p h =
    parts i (Not f) (nodes_of (i + 1) f) p (ChildrenIn (nodes_of i (Not f)) p) h (λ sign x. own_closed i (Not f) sign p x)
    (λ x q c. rest_in i (Not f) q (nodes_of (i + 1) f) (nodes_closed (i + 1) f p x q c))
nodes_closed i (Temporal t f) p h =
    parts i (Temporal t f) (nodes_of (i + 1) f) p (ChildrenIn (nodes_of i (Temporal t f)) p) h (λ sign x. own_closed i (Temporal t f) sign p x)
    (λ x q c. rest_in i (Temporal t f) q (nodes_of (i + 1) f) (nodes_closed (i + 1) f p x q c))
nodes_closed i (Binary op f g) p h =
    let l : ℕ = i + weight op in
    let r : ℕ = right_at l f in
    let w : Formula = Binary op f g in
    parts i w (nodes_of l f ++ nodes_of r g) p (ChildrenIn (nodes_of i w) p) h (λ sign x. own_closed i w sign p x)
    (λ x q c. rest_in i w q (nodes_of l f ++ nodes_of r g)
    (⊎_elim (λ (y : IsMember p (nodes_of l f)). member-append_left q (nodes_of l f) (nodes_of r g) (nodes_closed l f p y q c))
    (λ (y : IsMember p (nodes_of r g)). member-append_right q (nodes_of l f) (nodes_of r g) (nodes_closed r g p y q c))
    (member-append p (nodes_of l f) (nodes_of r g) x)))
nodes_closed i (Paired k f g) p h =
    let l : ℕ = i + 1 in
    let r : ℕ = right_at l f in
    let w : Formula = Paired k f g in
    parts i w (nodes_of l f ++ nodes_of r g) p (ChildrenIn (nodes_of i w) p) h (λ sign x. own_closed i w sign p x)
    (λ x q c. rest_in i w q (nodes_of l f ++ nodes_of r g)
    (⊎_elim (λ (y : IsMember p (nodes_of l f)). member-append_left q (nodes_of l f) (nodes_of r g) (nodes_closed l f p y q c))
    (λ (y : IsMember p (nodes_of r g)). member-append_right q (nodes_of l f) (nodes_of r g) (nodes_closed r g p y q c))
    (member-append p (nodes_of l f) (nodes_of r g) x)))

-- ---- all nodes

abbrev pub all_nodes : Formula → Bool → List Place
all_nodes f negated = Root (start_of f negated) ∷ Total ∷ HasEdge ∷ LeadsOn ∷ True ∷ nodes_of 0 f

module _ (f : Formula) (negated : Bool) where
  abbrev nodes : List Place
  nodes = all_nodes f negated

  total_in : IsMember Total nodes
  total_in = inr (inl refl)

  all_closed : (p : Place) → IsMember p nodes → ChildrenIn nodes p
  all_closed p (inl same) =
      at_place nodes p (Root (start_of f negated)) same (λ q h. two_in true (start_of f negated) Total q nodes
      (inr (inr (inr (inr (inr (now_in 0 f (not negated))))))) total_in h)
  all_closed p (inr (inl same)) =
      at_place nodes p Total same (λ q h. two_in true HasEdge LeadsOn q nodes (inr (inr (inl refl))) (inr (inr (inr (inl refl)))) h)
  all_closed p (inr (inr (inl same))) =
      at_place nodes p HasEdge same (λ q h. one_in True q nodes (inr (inr (inr (inr (inl refl))))) h)
  all_closed p (inr (inr (inr (inl same)))) = at_place nodes p LeadsOn same (λ q h. one_in Total q nodes total_in h)
  all_closed p (inr (inr (inr (inr (inl same))))) = at_place nodes p True same (λ q h. absurd h)
  all_closed p (inr (inr (inr (inr (inr h))))) = λ q c. inr (inr (inr (inr (inr (nodes_closed 0 f p h q c)))))

  pub reached_in : (p : Place) → IsReached (Root (start_of f negated)) p → IsMember p nodes
  reached_in p at_root = inl refl
  reached_in p (behind q _ reached child) = all_closed q (reached_in q reached) p child

-- ---- lists without repetitions

few_places : (xs ys : List Place)
    → ((i j : ℕ) (p : Place) → slice_get xs i ≡ Some p → slice_get xs j ≡ Some p → i ≡ j)
    → ((p : Place) → IsMember p xs → IsMember p ys)
    → length xs ≤ length ys
few_places xs ys once within =
    ⊎_elim (λ (more : length ys < length xs). absurd (never more (pigeons (length ys) (λ k. place_of k (cases_lt k (length xs))) (λ k low. below more k low))))
    (λ (le : length xs ≤ length ys). le) (cases_lt (length ys) (length xs))
  where
    stands : (k : ℕ) → k < length xs → (p : Place) × (slice_get xs k ≡ Some p)
    stands k low = some_entry xs k low

    place_of : (k : ℕ) → (k < length xs) ⊎ (length xs ≤ k) → ℕ
    place_of k (inl low) =
        let x = stands k low in (member-place x.0 ys (within x.0 (member_of_get xs k x.0 x.1))).place
    place_of k (inr past) = 0

    below : length ys < length xs → (k : ℕ) → k ≤ length ys → place_of k (cases_lt k (length xs)) < length ys
    below more k low = by_case (cases_lt k (length xs))
      where
        by_case : (c : (k < length xs) ⊎ (length xs ≤ k)) → place_of k c < length ys
        by_case (inl in_xs) =
            let x = stands k in_xs in (member-place x.0 ys (within x.0 (member_of_get xs k x.0 x.1))).below
        by_case (inr past) = absurd (omega (arith, more, low, past))

    same_place : (i j : ℕ) (c : (i < length xs) ⊎ (length xs ≤ i)) (d : (j < length xs) ⊎ (length xs ≤ j)) → i < length xs → j < length xs
        → place_of i c ≡ place_of j d → i ≡ j
    same_place i j (inr past) d i_low j_low same = absurd (omega (arith, past, i_low))
    same_place i j (inl low) (inr past) i_low j_low same = absurd (omega (arith, past, j_low))
    same_place i j (inl a) (inl b) i_low j_low same =
        let x = stands i a in
        let y = stands j b in
        let at_x = member-place x.0 ys (within x.0 (member_of_get xs i x.0 x.1)) in
        let at_y = member-place y.0 ys (within y.0 (member_of_get xs j y.0 y.1)) in
        let one : x.0 ≡ y.0 = sym (at_x.holds True) ∙ ap (λ k. get_or ys k True) same ∙ at_y.holds True in
        once i j y.0 (x.1 ∙ ap Some one) y.1

    never : length ys < length xs → Twice (λ k. place_of k (cases_lt k (length xs))) (length ys) → ⊥
    never more t =
        let same =
        same_place t.first t.second (cases_lt t.first (length xs)) (cases_lt t.second (length xs)) (omega (arith, t.apart, t.within, more))
        (omega (arith, t.within, more)) t.same in
        omega (arith, same, t.apart)

-- so many nodes are reached at most
pub few_reached : (f : Formula) (negated : Bool) (places : List Place)
    → ((i j : ℕ) (p : Place) → slice_get places i ≡ Some p → slice_get places j ≡ Some p → i ≡ j)
    → ((p : Place) → IsMember p places → IsReached (Root (start_of f negated)) p)
    → length places ≤ 4 * occurrences f + 5
few_reached f negated places once reached =
    let few = few_places places (all_nodes f negated) once (λ p h. reached_in f negated p (reached p h)) in
    omega (arith, few, nodes_few 0 f)

pub graphs_are_small : GraphsAreSmall
graphs_are_small f negated g is =
    let numbered = is.is_numbered.1 in
    let few =
    few_reached f negated is.is_numbered.0 numbered.is_closure.once (λ p h. (numbered.is_closure.are_reached p).0 h) in
    omega (arith, few, numbered.one_each)
