-- Decisions from one position, with the entries numbered in two ways.
--
--   IsPaired ps qs f h    == f and h are the numbers of one position
--   AreAlike ps qs d e    == the decisions are one, but for the numbers of entries, which are paired
--   decisions_alike       == decisions from one position are alike
--   ArePaired             == lists of paired numbers
--   leads_paired          == alike decisions lead to paired entries, in one order
--   paired_at             == at each place
--   one_decision          == where the entries are numbered in one way, alike decisions are one
use Rattle.std.proofs.Common.{ℕ, zero, suc, ◌≡◌, ◌<◌, ◌≤◌, ◌⊎◌, inl, inr, List, [], ◌∷◌, ◌++◌, Some, length, get_or, slice_get, sym, ap, ◌∙◌, subst, arith}
use Rattle.std.proofs.lemmas.Bool.{cases_lt, cases_eq}
use Rattle.ml_graph.specs.Graph.{Graph}
use Rattle.ml_parity.specs.Solution.{GameSolution, choice_at}
use Rattle.ml_product.specs.Arena.{Arena}
use Rattle.ml_product.specs.DecisionGame.{IsResolved, AreDifferent}
use Rattle.ml_product.specs.Position.{Position, neutral, with_chosen, Follows}
use Rattle.ml_product.proofs.OnePlace.{same_spread, same_place}
use Rattle.ml_refutation.specs.Refutation.{Decision, Split, Clash, Go}
use Rattle.ml_sequent.specs.declared.choice.Side.TheVariants.{Left, Right}
use Rattle.ml_sequent.specs.Spread.{SpreadList, IsLeastOpenOr}
use Rattle.ml_sequent.specs.FirstCause.{IsFirstCause}
use Rattle.ml_trace.specs.declared.marks.Mark.{Mark}
use Rattle.ml_refute.specs.Extracted.{leads_to, Chooses, IsGo, IsDecisionAt}
use Rattle.ml_refute.proofs.FirstCauses.{one_first_cause}
use Rattle.ml_refute.proofs.GoSteps.{same_mark}

-- f and h are the numbers of one position
pub record IsPaired (ps qs : List Position) (f h : ℕ) : Type 0 where
  pub position : Position
  pub left : slice_get ps f ≡ Some position
  pub right : slice_get qs h ≡ Some position

-- the decisions are one, but for the numbers of entries, which are paired
abbrev pub AreAlike : List Position → List Position → Decision → Decision → Type 0
AreAlike ps qs (Split n l r) (Split m k s) = (n ≡ m) × AreAlike ps qs l k × AreAlike ps qs r s
AreAlike ps qs (Split n l r) (Clash y) = ⊥
AreAlike ps qs (Split n l r) (Go e h k) = ⊥
AreAlike ps qs (Clash x) (Split m k s) = ⊥
AreAlike ps qs (Clash x) (Clash y) = x ≡ y
AreAlike ps qs (Clash x) (Go e h k) = ⊥
AreAlike ps qs (Go d f m) (Split n k s) = ⊥
AreAlike ps qs (Go d f m) (Clash y) = ⊥
AreAlike ps qs (Go d f m) (Go e h k) = (d ≡ e) × (m ≡ k) × IsPaired ps qs f h

-- of two least numbers neither is lower
one_least : (m n : ℕ) → (m < n → ⊥) → (n < m → ⊥) → m ≡ n
one_least m n early late = by_case (cases_eq m n) (cases_lt m n)
  where
    by_case : (m ≡ n) ⊎ (m ≡ n → ⊥) → (m < n) ⊎ (n ≤ m) → m ≡ n
    by_case (inl same) order = same
    by_case (inr differ) (inl less) = absurd (early less)
    by_case (inr differ) (inr le) = absurd (late (omega (arith, differ)))

module _ (g : Graph) (a : Arena) (different : AreDifferent a.positions) (s : GameSolution) (ps qs : List Position) where
  -- a position has one choice
  one_choice : (p x y : Position) → Chooses a s p x → Chooses a s p y → x ≡ y
  one_choice p x y c e =
      let here : c.vertex ≡ e.vertex = same_place a.positions different c.vertex e.vertex p c.is_here e.is_here in
      let same : Some x ≡ Some y = sym c.chosen ∙ ap (λ v. slice_get a.positions (choice_at s.choice v)) here
      ∙ e.chosen in
      cc

  goes_alike : (p : Position) (sp : SpreadList) (d f : ℕ) (m : Mark) (e h : ℕ) (k : Mark)
      → IsGo g a s ps p sp d f m
      → IsGo g a s qs p sp e h k
      → AreAlike ps qs (Go d f m) (Go e h k)
  goes_alike p sp d f m e h k x y =
      (one_diamond, one_mark, record { position = x.next; left = x.is_entry; right = y.is_entry ∙ ap Some (sym same) })
    where
      same : x.next ≡ y.next
      same = one_choice p x.next y.next x.is_choice y.is_choice

      one_diamond : d ≡ e
      one_diamond =
          one_least d e
          (λ early. y.is_diamond.least d early x.is_diamond.is_diamond
          (subst (Follows g p sp d) same x.is_diamond.leads))
          (λ late. x.is_diamond.least e late y.is_diamond.is_diamond
          (subst (Follows g p sp e) (sym same) y.is_diamond.leads))

      one_mark : m ≡ k
      one_mark = same_mark (neutral g) m k x.is_mark y.is_mark (sym x.marked ∙ ap (λ (q : Position). q.priority) same
          ∙ y.marked)

  -- decisions from one position are alike
  pub decisions_alike : (d e : Decision) (p : Position)
      → IsDecisionAt g a s ps p d
      → IsDecisionAt g a s qs p e
      → AreAlike ps qs d e
  decisions_alike (Split n l r) (Split m k t) p x y = (
    same,
    decisions_alike l k (with_chosen g p n Left) x.1 (subst (λ i. IsDecisionAt g a s qs (with_chosen g p i Left) k)
        (sym same) y.1),
    decisions_alike r t (with_chosen g p n Right) x.2 (subst (λ i. IsDecisionAt g a s qs (with_chosen g p i Right) t)
        (sym same) y.2),
  )
    where
      spreads : y.0.spread ≡ x.0.spread
      spreads = same_spread g p.sequent p.choice y.0.spread x.0.spread y.0.is_spread x.0.is_spread

      there : IsLeastOpenOr g x.0.spread m
      there = subst (λ sp. IsLeastOpenOr g sp m) spreads y.0.holds.1

      same : n ≡ m
      same = one_least n m (λ early. there.least n early x.0.holds.1.is_open)
          (λ late. x.0.holds.1.least m late there.is_open)
  decisions_alike (Split n l r) (Clash c) p x y =
      let spreads = same_spread g p.sequent p.choice y.spread x.0.spread y.is_spread x.0.is_spread in
      absurd (x.0.holds.0 c (subst (λ sp. IsFirstCause g sp c) spreads y.holds).is_cause)
  decisions_alike (Split n l r) (Go e h k) p x y =
      let spreads = same_spread g p.sequent p.choice y.spread x.0.spread y.is_spread x.0.is_spread in
      absurd ((subst (IsResolved g) spreads y.holds.0).none_open n x.0.holds.1.is_open)
  decisions_alike (Clash c) (Split m k t) p x y =
      let spreads = same_spread g p.sequent p.choice x.spread y.0.spread x.is_spread y.0.is_spread in
      absurd (y.0.holds.0 c (subst (λ sp. IsFirstCause g sp c) spreads x.holds).is_cause)
  decisions_alike (Clash c) (Clash b) p x y =
      let spreads = same_spread g p.sequent p.choice y.spread x.spread y.is_spread x.is_spread in
      one_first_cause g x.spread c b x.holds (subst (λ sp. IsFirstCause g sp b) spreads y.holds)
  decisions_alike (Clash c) (Go e h k) p x y =
      let spreads = same_spread g p.sequent p.choice x.spread y.spread x.is_spread y.is_spread in
      absurd (y.holds.0.no_clash c (subst (λ sp. IsFirstCause g sp c) spreads x.holds).is_cause)
  decisions_alike (Go d f m) (Split n k t) p x y =
      let spreads = same_spread g p.sequent p.choice x.spread y.0.spread x.is_spread y.0.is_spread in
      absurd ((subst (IsResolved g) spreads x.holds.0).none_open n y.0.holds.1.is_open)
  decisions_alike (Go d f m) (Clash b) p x y =
      let spreads = same_spread g p.sequent p.choice y.spread x.spread y.is_spread x.is_spread in
      absurd (x.holds.0.no_clash b (subst (λ sp. IsFirstCause g sp b) spreads y.holds).is_cause)
  decisions_alike (Go d f m) (Go e h k) p x y =
      let spreads = same_spread g p.sequent p.choice y.spread x.spread y.is_spread x.is_spread in
      goes_alike p x.spread d f m e h k x.holds.1 (subst (λ sp. IsGo g a s qs p sp e h k) spreads y.holds.1)

-- ---- lists of paired numbers

abbrev pub ArePaired : List Position → List Position → List ℕ → List ℕ → Type 0
ArePaired ps qs [] [] = Unit {0}
ArePaired ps qs [] (y ∷ ys) = ⊥
ArePaired ps qs (x ∷ xs) [] = ⊥
ArePaired ps qs (x ∷ xs) (y ∷ ys) = IsPaired ps qs x y × ArePaired ps qs xs ys

module _ (ps qs : List Position) where
  pub paired_append : (xs ys zs ws : List ℕ)
      → ArePaired ps qs xs ys
      → ArePaired ps qs zs ws
      → ArePaired ps qs (xs ++ zs) (ys ++ ws)
  paired_append [] [] zs ws p q = q
  paired_append [] (y ∷ ys) zs ws p q = absurd p
  paired_append (x ∷ xs) [] zs ws p q = absurd p
  paired_append (x ∷ xs) (y ∷ ys) zs ws p q = (p.0, paired_append xs ys zs ws p.1 q)

  -- alike decisions lead to paired entries, in one order
  pub leads_paired : (d e : Decision) → AreAlike ps qs d e → ArePaired ps qs (leads_to d) (leads_to e)
  leads_paired (Split n l r) (Split m k t) x =
      paired_append (leads_to l) (leads_to k) (leads_to r) (leads_to t) (leads_paired l k x.1) (leads_paired r t x.2)
  leads_paired (Split n l r) (Clash y) x = absurd x
  leads_paired (Split n l r) (Go e h k) x = absurd x
  leads_paired (Clash c) (Split m k t) x = absurd x
  leads_paired (Clash c) (Clash b) x = tt
  leads_paired (Clash c) (Go e h k) x = absurd x
  leads_paired (Go d f m) (Split n k t) x = absurd x
  leads_paired (Go d f m) (Clash b) x = absurd x
  leads_paired (Go d f m) (Go e h k) x = (x.2, tt)

  -- at each place
  pub record PairedAt (ys : List ℕ) (x k : ℕ) : Type 0 where
    pub fits : k < length ys
    pub pair : IsPaired ps qs x (get_or ys k 0)

  pub paired_at : (xs ys : List ℕ) → ArePaired ps qs xs ys → (k : ℕ) → k < length xs → PairedAt ys (get_or xs k 0) k
  paired_at [] ys p k low = absurd (omega arith)
  paired_at (x ∷ xs) [] p k low = absurd p
  paired_at (x ∷ xs) (y ∷ ys) p zero low = record { fits = omega arith; pair = p.0 }
  paired_at (x ∷ xs) (y ∷ ys) p (suc k) low =
      let rest = paired_at xs ys p.1 k (omega arith) in
      record { fits = omega (arith, rest.fits); pair = rest.pair }

-- where the entries are numbered in one way, alike decisions are one
pub one_decision : (ps : List Position) → AreDifferent ps → (d e : Decision) → AreAlike ps ps d e → d ≡ e
one_decision ps apart (Split n l r) (Split m k t) x =
    let left = one_decision ps apart l k x.1 in
    let right = one_decision ps apart r t x.2 in
    λ i. Split (x.0 i) (left i) (right i)
one_decision ps apart (Split n l r) (Clash y) x = absurd x
one_decision ps apart (Split n l r) (Go e h k) x = absurd x
one_decision ps apart (Clash c) (Split m k t) x = absurd x
one_decision ps apart (Clash c) (Clash b) x = ap Clash x
one_decision ps apart (Clash c) (Go e h k) x = absurd x
one_decision ps apart (Go d f m) (Split n k t) x = absurd x
one_decision ps apart (Go d f m) (Clash b) x = absurd x
one_decision ps apart (Go d f m) (Go e h k) x =
    let entries : f ≡ h = same_place ps apart f h x.2.position x.2.left x.2.right in
    λ i. Go (x.0 i) (entries i) (x.1 i)
