-- What is asked of a branch is told by its trail.
--
--   in_spread, on_trail == what stands on the trail is in the spread, and the other way round
--   not_told       == a test that fails tells what it has to
--   diamond_told, false_told, open_told, pair_told, cycle_told == so do these tests of what is in the spread
--   begun          == the spread of a sequent
--   chosen_more    == the spread with a side more
--   low_in         == nodes on the trail are nodes
use Rattle.std.proofs.Common.{ℕ, ◌≡◌, ◌<◌, ◌↔◌, Bool, false, IsTrue, List, [], ◌∷◌, length, All, Result, Ok, Err, IfOk, OnOk, sym, ap, ◌∙◌, subst}
use Rattle.ml_lists.specs.Member.{IsMember}
use Rattle.ml_lists.proofs.Ascending.{ascending-member, member-ascending}
use Rattle.ml_lists.proofs.Member.{member-All}
use Rattle.ml_graph.specs.declared.node.Node.{Node}
use Rattle.ml_graph.specs.Graph.{Graph, IsGraph, size, node_at}
use Rattle.ml_sequent.specs.declared.choice.Side.{Side}
use Rattle.ml_sequent.specs.declared.clashes.ClashCause.TheVariants as cause
use Rattle.ml_sequent.specs.Choice.{chosen, with_side}
use Rattle.ml_sequent.specs.Spread.{SpreadList, IsSpread, IsSpreadOf, IsCause, IsPair, IsOddCycle, IsOpenNode, IsOpenOr, is_diamond}
use Rattle.ml_sequent.specs.Step.{IsDiamondOf}
use Rattle.ml_sequent.specs.private.Tests.{is_false}
use Rattle.ml_sequent.specs.private.Trails.{IsJoined, IsUnderway, HasSpread, spread_at}
use Rattle.ml_sequent.proofs.Causes.{is_false-is}
use Rattle.ml_sequent.proofs.OwnSpreads.{own_spread}
use Rattle.ml_sequent.proofs.RankedWalks.{spread_low}
use Rattle.ml_sequent.proofs.Traces.{sequent_low}
use Rattle.ml_sequent.proofs.TrailSearches.{search_started, search_longer, trail_spread}

-- a test that fails tells what it has to
pub not_told : {P : Type 0} (b : Bool) → b ≡ false → (P → IsTrue b) → IsTrue b ↔ P
not_told b is tells = ((λ h. absurd (cc)), tells)

module _ (g g2 : Graph) (nodes : List ℕ) (c : List (ℕ × Side)) (same : g2 ≡ g) where
  pub diamond_told : (n : ℕ) (x : Node) (b : Bool) → IsMember n nodes → x ≡ node_at g2 n → b ≡ is_diamond x
      → IsTrue b ↔ IsDiamondOf g (spread_at nodes c) n
  diamond_told n x b h at is = (
    (λ t. record { member = member-ascending n nodes h; holds = sym whole ∙ t }),
    (λ d. whole ∙ d.holds),
  )
    where
      whole : b ≡ is_diamond (node_at g n)
      whole = is ∙ ap is_diamond (at ∙ ap (λ k. node_at k n) same)

  pub false_told : (n : ℕ) (x : Node) (b : Bool) → IsMember n nodes → x ≡ node_at g2 n → b ≡ is_false x
      → IsTrue b ↔ IsCause g (spread_at nodes c) (cause.False n)
  false_told n x b h at is = (
    (λ t. (member-ascending n nodes h, is_false-is (node_at g n) (sym whole ∙ t))),
    (λ d. whole ∙ ap is_false d.1),
  )
    where
      whole : b ≡ is_false (node_at g n)
      whole = is ∙ ap is_false (at ∙ ap (λ k. node_at k n) same)

  pub open_told : (n : ℕ) (b : Bool) → IsMember n nodes → (IsTrue b ↔ IsOpenNode g2 c n)
      → IsTrue b ↔ IsOpenOr g (spread_at nodes c) n
  open_told n b h told = (
    (λ t. record { member = member-ascending n nodes h; is_open = here.0 t }),
    (λ o. here.1 o.is_open),
  )
    where
      here : IsTrue b ↔ IsOpenNode g c n
      here = subst (λ k. IsTrue b ↔ IsOpenNode k c n) same told

  pub pair_told : (p q : ℕ) (b : Bool) → IsMember p nodes → IsMember q nodes → (IsTrue b ↔ IsPair g2 p q)
      → IsTrue b ↔ IsCause g (spread_at nodes c) (cause.Pair p q)
  pair_told p q b h i told = (
    (λ t. (member-ascending p nodes h, member-ascending q nodes i, here.0 t)),
    (λ o. here.1 o.2),
  )
    where
      here : IsTrue b ↔ IsPair g p q
      here = subst (λ k. IsTrue b ↔ IsPair k p q) same told

pub cycle_told : {E : Type 0} → (g : Graph) (nodes : List ℕ) (c : List (ℕ × Side)) (n : ℕ) (answer : Result Bool E)
    → IsMember n nodes
    → IfOk answer (λ b. IsTrue b ↔ IsOddCycle g c n)
    → IfOk answer (λ b. IsTrue b ↔ IsCause g (spread_at nodes c) (cause.Cycle n))
cycle_told g nodes c n (Ok b) h told = ((λ t. (member-ascending n nodes h, told.0 t)), (λ o. told.1 o.1))
cycle_told g nodes c n (Err e) h told = told

-- the spread of a sequent
pub begun : {T E : Type 0} → (g : Graph) (C start nodes : List ℕ) (c : List (ℕ × Side)) (answer : Result T E)
    → IsGraph g
    → All (λ n. n < size g) C
    → IsJoined C [] start
    → c ≡ []
    → OnOk answer ((D : List ℕ) → IsUnderway g c D 0 start → HasSpread g c D nodes)
    → OnOk answer (IsSpreadOf g C [] (spread_at nodes c))
begun g C start nodes c (Ok u) ok low joined none search =
    let has = search C (search_started g c C start joined) in
    subst (λ d. IsSpreadOf g C d (spread_at nodes c)) none
    (trail_spread g c C nodes (λ m h. spread_low g ok C low c m ((has m).0 h)) has)
begun g C start nodes c (Err e) ok low joined none search = search

-- the spread with a side more
pub chosen_more : {T E : Type 0} → (g g2 : Graph) (at : ℕ) (s : Side) (child : ℕ) (nodes start nodes2 : List ℕ) (c c2 : List (ℕ × Side)) (answer : Result T E)
    → IsGraph g
    → g2 ≡ g
    → (o : IsOpenOr g (spread_at nodes c) at)
    → child ≡ chosen s o.is_open.left o.is_open.right
    → IsJoined (child ∷ []) nodes start
    → c2 ≡ with_side c at s
    → OnOk answer ((D : List ℕ) → IsUnderway g2 c2 D (length nodes) start → HasSpread g2 c2 D nodes2)
    → OnOk answer ((C : List ℕ) → IsSpreadOf g C c (spread_at nodes c) → IsSpreadOf g C (with_side c at s) (spread_at nodes2 c2))
chosen_more g g2 at s child nodes start nodes2 c c2 (Ok u) ok same o is joined choice search = λ C of.
    let joined2 = subst (λ k. IsJoined (k ∷ []) nodes start) is joined in
    let under = search_longer g c at s o.is_open.left o.is_open.right o.is_open.is_or o.is_open.unchosen C nodes start of
    (ascending-member at nodes o.member) joined2 in
    let under2 = subst (λ d. IsUnderway g d C (length nodes) start) (sym choice) under in
    let under3 = subst (λ k. IsUnderway k c2 C (length nodes) start) (sym same) under2 in
    let has = subst (λ k. HasSpread k c2 C nodes2) same (search C under3) in
    let low = member-All (λ n. n < size g) C (λ n h. sequent_low g C (spread_at nodes c) n of h) in
    subst (λ d. IsSpreadOf g C d (spread_at nodes2 c2)) choice
    (trail_spread g c2 C nodes2 (λ m h. spread_low g ok C low c2 m ((has m).0 h)) has)
chosen_more g g2 at s child nodes start nodes2 c c2 (Err e) ok same o is joined choice search = search

-- so it is the spread of its own nodes
pub chosen_own : {T E : Type 0} → (g : Graph) (sp sp2 : SpreadList) (c : List (ℕ × Side)) (answer : Result T E)
    → IsSpread g sp
    → OnOk answer ((C : List ℕ) → IsSpreadOf g C sp.choice sp → IsSpreadOf g C c sp2)
    → OnOk answer (IsSpread g sp2)
chosen_own g sp sp2 c (Ok u) is of = own_spread g sp.nodes c sp2 (of sp.nodes is)
chosen_own g sp sp2 c (Err e) is of = of

pub begun_own : {T E : Type 0} → (g : Graph) (C : List ℕ) (sp : SpreadList) (c : List (ℕ × Side)) (answer : Result T E)
    → OnOk answer (IsSpreadOf g C c sp)
    → OnOk answer (IsSpread g sp)
begun_own g C sp c (Ok u) of = own_spread g C c sp of
begun_own g C sp c (Err e) of = of
