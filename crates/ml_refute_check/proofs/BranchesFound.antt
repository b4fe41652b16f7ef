-- What checking the branches of a decision finds.
--
--   found_same           == what is found of the branches of the same decision
--   of_spread_has, of_spread_is == what holds of the spread of a sequent, and what isn't true of it
--   split_refused, split_left, split_right, split_kept == a split, by what is found of it and of its sides
--   clash_kept, clash_refused == a clash
--   go_kept, go_refused  == a `go`, by its rules
--   counted_parts, left_less, right_less == as many branches as are counted, and fewer on each side of a split
--   longer_stands        == a spread with one side more stands for the same sequent
use Rattle.std.proofs.Common.{◌≡◌, ◌↔◌, ℕ, ◌+◌, ◌<◌, Bool, true, false, List, [], ◌∷◌, ◌++◌, Option, None, Some, All, length, map, IsTrue, inl, inr, refl, sym, ap, ◌∙◌, subst, arith}
use Rattle.std.proofs.lemmas.Bool.{true≢false}
use Rattle.std.proofs.lemmas.List.{map-append, length-append}
use Rattle.ml_graph.specs.Graph.{Graph, IsGraph, size}
use Rattle.ml_trace.specs.declared.marks.Mark.{Mark}
use Rattle.ml_sequent.specs.declared.choice.Side.{Side}
use Rattle.ml_sequent.specs.declared.choice.Side.TheVariants.{Left, Right}
use Rattle.ml_sequent.specs.declared.clashes.ClashCause.{ClashCause}
use Rattle.ml_sequent.specs.Choice.{with_side}
use Rattle.ml_sequent.specs.Spread.{SpreadList, IsSpreadOf, IsSpread, IsOpenOr, IsCause}
use Rattle.ml_sequent.specs.Step.{IsDiamondOf}
use Rattle.ml_refutation.specs.Refutation.{Decision, Split, Clash, Go}
use Rattle.ml_refutation.specs.Views.{decision_of}
use Rattle.ml_refutation.specs.declared.refutation.Decision as program
use Rattle.ml_refutation.specs.Acceptance.{entry_at, OfSpread, Part, Decided, branches, LeadsWithinTargets, TracesNames, HeightsFall}
use Rattle.ml_refute_check.specs.declared.finding.BadPart.{BadPart}
use Rattle.ml_refute_check.specs.private.Parts.{Question, Finds, Stands, branch_parts, count_branches}
use Rattle.ml_refute_check.proofs.DecidedSpreads.{one_spread}
use Rattle.ml_refute_check.proofs.PartsFound.{found_next, found_behind, found_before, none_behind, none_at_all, none_next, found_first}

-- a false test of a property, which doesn't hold then
pub test_fails : (P : Type 0) (b : Bool) → (IsTrue b ↔ P) → b ≡ false → ¬ P
test_fails P b told is = λ p. true≢false (sym (told.1 p) ∙ is)

-- what is found of the branches of the same decision
pub found_same : (q : Question) (e : ℕ) (c : List (ℕ × Side)) {d d' : program.Decision} {found found' : Option BadPart}
    → d ≡ d'
    → found ≡ found'
    → Finds q e (branch_parts c (decision_of d)) found
    → Finds q e (branch_parts c (decision_of d')) found'
found_same q e c {d' = d'} {found = found} same is finds =
    subst (Finds q e (branch_parts c (decision_of d'))) is
    (subst (λ x. Finds q e (branch_parts c (decision_of x)) found) same finds)

-- as many branches as are counted
pub counted_parts : (c : List (ℕ × Side)) (d : Decision) → length (branch_parts c d) ≡ count_branches d
unfolding branch_parts
counted_parts c (Split n l r) =
    let left = counted_parts (with_side c n Left) l in
    let right = counted_parts (with_side c n Right) r in
    let whole = ap length (map-append Decided (branches (with_side c n Left) l) (branches (with_side c n Right) r)) in
    let sum =
    length-append (map Decided (branches (with_side c n Left) l)) (map Decided (branches (with_side c n Right) r)) in
    omega (arith, left, right, whole, sum)
counted_parts c (Clash x) = refl
counted_parts c (Go d f m) = refl

one_branch : (d : Decision) → 0 < count_branches d
one_branch (Split n left right) = omega arith
one_branch (Clash x) = omega arith
one_branch (Go d f m) = omega arith

-- a side of a split has fewer branches
pub left_less : (whole l r d : Decision) (n : ℕ) → whole ≡ Split n l r → d ≡ l → count_branches d < count_branches whole
left_less whole l r d n is same =
    omega (arith, ap count_branches is, ap count_branches same, one_branch r)

pub right_less : (whole l r d : Decision) (n : ℕ)
    → whole ≡ Split n l r
    → d ≡ r
    → count_branches d < count_branches whole
right_less whole l r d n is same =
    omega (arith, ap count_branches is, ap count_branches same, one_branch l)

module _ (q : Question) (e : ℕ) (nodes : List ℕ) (sp : SpreadList) (ok : IsGraph q.graph)
    (stands : Stands q e nodes sp) where
  abbrev sequent : List ℕ
  sequent = (entry_at q.refutation e).sequent

  abbrev low : All (λ n. n < size q.graph) sequent
  low = subst (All (λ n. n < size q.graph)) stands.of_entry stands.low

  abbrev is_spread : IsSpreadOf q.graph sequent sp.choice sp
  is_spread = subst (λ ns. IsSpreadOf q.graph ns sp.choice sp) stands.of_entry stands.is_spread

  pub of_spread_has : (P : SpreadList → Type 0) → P sp → OfSpread q.graph sequent sp.choice P
  of_spread_has P holds = record { spread = sp; is_spread = is_spread; holds = holds }

  pub of_spread_is : (P : SpreadList → Type 0) → OfSpread q.graph sequent sp.choice P → P sp
  of_spread_is P o =
      subst P (one_spread q.graph ok sequent low sp.choice o.spread sp o.is_spread is_spread) o.holds

  pub of_spread_fails : (P : SpreadList → Type 0) (b : Bool)
      → (IsTrue b ↔ P sp)
      → b ≡ false
      → ¬ (OfSpread q.graph sequent sp.choice P)
  of_spread_fails P b told is = λ o. test_fails (P sp) b told is (of_spread_is P o)

  -- ---- splits

  split_parts : (n : ℕ) (l r : Decision)
      → Decided (record { choice = sp.choice; decision = Split n l r })
      ∷ (branch_parts (with_side sp.choice n Left) l ++ branch_parts (with_side sp.choice n Right) r)
      ≡ branch_parts sp.choice (Split n l r)
  unfolding branch_parts
  split_parts n l r =
      ap (λ ps. Decided (record { choice = sp.choice; decision = Split n l r }) ∷ ps)
      (sym (map-append Decided (branches (with_side sp.choice n Left) l) (branches (with_side sp.choice n Right) r)))

  pub split_refused : (n : ℕ) (l r : Decision) (b : Bool) → (IsTrue b ↔ IsOpenOr q.graph sp n) → b ≡ false
      → Finds q e (branch_parts sp.choice (Split n l r)) (Some (record { part = 0; rule = 5 }))
  split_refused n l r b told is =
      subst (λ ps. Finds q e ps (Some (record { part = 0; rule = 5 }))) (split_parts n l r)
      (found_first q e (Decided (record { choice = sp.choice; decision = Split n l r }))
      (branch_parts (with_side sp.choice n Left) l ++ branch_parts (with_side sp.choice n Right) r)
      (record { part = 0; rule = 5 }) refl
      (inl (refl, of_spread_fails (λ s. IsOpenOr q.graph s n) b told is)))

  module _ (n : ℕ) (l r : Decision) (b : Bool) (told : IsTrue b ↔ IsOpenOr q.graph sp n) (is : b ≡ true) where
    keeps : OfSpread q.graph sequent sp.choice (λ s. IsOpenOr q.graph s n) × Unit {0}
    keeps = (of_spread_has (λ s. IsOpenOr q.graph s n) (told.0 is), tt)

    pub split_left : (left : List (ℕ × Side)) (bad moved : BadPart) → left ≡ with_side sp.choice n Left
        → moved.part ≡ 1 + bad.part → moved.rule ≡ bad.rule
        → Finds q e (branch_parts left l) (Some bad) → Finds q e (branch_parts sp.choice (Split n l r)) (Some moved)
    split_left left bad moved at part rule found =
        subst (λ ps. Finds q e ps (Some moved)) (split_parts n l r)
        (found_next q e (Decided (record { choice = sp.choice; decision = Split n l r }))
        (branch_parts (with_side sp.choice n Left) l ++ branch_parts (with_side sp.choice n Right) r) bad
        moved part rule keeps
        (found_before q e (branch_parts (with_side sp.choice n Left) l)
        (branch_parts (with_side sp.choice n Right) r) bad
        (subst (λ c. Finds q e (branch_parts c l) (Some bad)) at found)))

    pub split_right : (left right : List (ℕ × Side)) (bad mid moved : BadPart) (count : ℕ)
        → left ≡ with_side sp.choice n Left
        → right ≡ with_side sp.choice n Right
        → count ≡ count_branches l
        → mid.part ≡ count + bad.part → mid.rule ≡ bad.rule
        → moved.part ≡ 1 + mid.part → moved.rule ≡ mid.rule
        → Finds q e (branch_parts left l) None → Finds q e (branch_parts right r) (Some bad)
        → Finds q e (branch_parts sp.choice (Split n l r)) (Some moved)
    split_right left right bad mid moved count at there counted mid_part mid_rule part rule none found =
        subst (λ ps. Finds q e ps (Some moved)) (split_parts n l r)
        (found_next q e (Decided (record { choice = sp.choice; decision = Split n l r }))
        (branch_parts (with_side sp.choice n Left) l ++ branch_parts (with_side sp.choice n Right) r) mid
        moved part rule keeps
        (found_behind q e (branch_parts (with_side sp.choice n Left) l)
        (branch_parts (with_side sp.choice n Right) r) bad mid
        (mid_part ∙ ap (λ k. k + bad.part) (counted ∙ sym (counted_parts (with_side sp.choice n Left) l))) mid_rule
        (subst (λ c. Finds q e (branch_parts c l) None) at none)
        (subst (λ c. Finds q e (branch_parts c r) (Some bad)) there found)))

    pub split_kept : (left right : List (ℕ × Side))
        → left ≡ with_side sp.choice n Left
        → right ≡ with_side sp.choice n Right
        → Finds q e (branch_parts left l) None → Finds q e (branch_parts right r) None
        → Finds q e (branch_parts sp.choice (Split n l r)) None
    split_kept left right at there none others =
        subst (λ ps. Finds q e ps None) (split_parts n l r)
        (none_next q e (Decided (record { choice = sp.choice; decision = Split n l r }))
        (branch_parts (with_side sp.choice n Left) l ++ branch_parts (with_side sp.choice n Right) r) keeps
        (none_behind q e (branch_parts (with_side sp.choice n Left) l) (branch_parts (with_side sp.choice n Right) r)
        (subst (λ c. Finds q e (branch_parts c l) None) at none)
        (subst (λ c. Finds q e (branch_parts c r) None) there others)))

  -- ---- leaves

  alone : (d : Decision) → ((c : List (ℕ × Side)) → branches c d ≡ record { choice = c; decision = d } ∷ [])
      → Decided (record { choice = sp.choice; decision = d }) ∷ [] ≡ branch_parts sp.choice d
  unfolding branch_parts
  alone d is = sym (ap (map Decided) (is sp.choice))

  pub clash_kept : (x : ClashCause) (b : Bool) → (IsTrue b ↔ IsCause q.graph sp x) → b ≡ true
      → Finds q e (branch_parts sp.choice (Clash x)) None
  clash_kept x b told is =
      subst (λ ps. Finds q e ps None) (alone (Clash x) (λ c. refl))
      (none_next q e (Decided (record { choice = sp.choice; decision = Clash x })) []
      (of_spread_has (λ s. IsCause q.graph s x) (told.0 is), tt) (none_at_all q e))

  pub clash_refused : (x : ClashCause) (b : Bool) → (IsTrue b ↔ IsCause q.graph sp x) → b ≡ false
      → Finds q e (branch_parts sp.choice (Clash x)) (Some (record { part = 0; rule = 6 }))
  clash_refused x b told is =
      subst (λ ps. Finds q e ps (Some (record { part = 0; rule = 6 }))) (alone (Clash x) (λ c. refl))
      (found_first q e (Decided (record { choice = sp.choice; decision = Clash x })) []
      (record { part = 0; rule = 6 }) refl
      (inl (refl, of_spread_fails (λ s. IsCause q.graph s x) b told is)))

  module _ (d f : ℕ) (m : Mark) where
    abbrev part : Part
    part = Decided (record { choice = sp.choice; decision = Go d f m })

    abbrev Leaves : Type 0
    Leaves = IsDiamondOf q.graph sp d

    abbrev Within : Type 0
    Within = LeadsWithinTargets sequent sp.choice d (entry_at q.refutation f).sequent q.graph

    abbrev Names : Type 0
    Names = TracesNames (entry_at q.refutation e) sp.choice d (entry_at q.refutation f) m q.graph

    abbrev Falls : Type 0
    Falls = HeightsFall q.refutation e f m

    leaves : Leaves → OfSpread q.graph sequent sp.choice (λ s. IsDiamondOf q.graph s d)
    leaves h = of_spread_has (λ s. IsDiamondOf q.graph s d) h

    pub go_kept : Leaves → Within → Names → Falls → Finds q e (branch_parts sp.choice (Go d f m)) None
    go_kept h w n falls =
        subst (λ ps. Finds q e ps None) (alone (Go d f m) (λ c. refl))
        (none_next q e part [] (leaves h, (w, (n, (falls, tt)))) (none_at_all q e))

    pub go_refused_7 : ¬ Leaves → Finds q e (branch_parts sp.choice (Go d f m)) (Some (record { part = 0; rule = 7 }))
    go_refused_7 not =
        subst (λ ps. Finds q e ps (Some (record { part = 0; rule = 7 }))) (alone (Go d f m) (λ c. refl))
        (found_first q e part [] (record { part = 0; rule = 7 }) refl
        (inl (refl, λ o. not (of_spread_is (λ s. IsDiamondOf q.graph s d) o))))

    pub go_refused_8 : Leaves → ¬ Within
        → Finds q e (branch_parts sp.choice (Go d f m)) (Some (record { part = 0; rule = 8 }))
    go_refused_8 h not =
        subst (λ ps. Finds q e ps (Some (record { part = 0; rule = 8 }))) (alone (Go d f m) (λ c. refl))
        (found_first q e part [] (record { part = 0; rule = 8 }) refl (inr (leaves h, inl (refl, not))))

    pub go_refused_9 : Leaves → Within → ¬ Names
        → Finds q e (branch_parts sp.choice (Go d f m)) (Some (record { part = 0; rule = 9 }))
    go_refused_9 h w not =
        subst (λ ps. Finds q e ps (Some (record { part = 0; rule = 9 }))) (alone (Go d f m) (λ c. refl))
        (found_first q e part [] (record { part = 0; rule = 9 }) refl (inr (leaves h, inr (w, inl (refl, not)))))

    pub go_refused_10 : Leaves → Within → Names → ¬ Falls
        → Finds q e (branch_parts sp.choice (Go d f m)) (Some (record { part = 0; rule = 10 }))
    go_refused_10 h w n not =
        subst (λ ps. Finds q e ps (Some (record { part = 0; rule = 10 }))) (alone (Go d f m) (λ c. refl))
        (found_first q e part [] (record { part = 0; rule = 10 }) refl
        (inr (leaves h, inr (w, inr (n, inl (refl, not))))))

  -- ---- one side more

  -- with which choice the longer spread stands for the same sequent
  pub record LongerStands (n : ℕ) (s : Side) (longer : SpreadList) : Type 0 where
    pub stands_on : Stands q e nodes longer
    pub choice : longer.choice ≡ with_side sp.choice n s

  pub longer_stands : (n : ℕ) (s : Side) (longer : SpreadList) (h : Graph)
      → h ≡ q.graph
      → ((C : List ℕ) → IsSpreadOf h C sp.choice sp → IsSpreadOf h C (with_side sp.choice n s) longer)
      → IsSpread h longer
      → LongerStands n s longer
  longer_stands n s longer h same goes own =
      let of_h = subst (λ g. IsSpreadOf g nodes sp.choice sp) (sym same) stands.is_spread in
      let is = subst (λ g. IsSpreadOf g nodes (with_side sp.choice n s) longer) same (goes nodes of_h) in
      record {
        stands_on = record {
          of_entry = stands.of_entry;
          low = stands.low;
          is_spread = subst (λ c. IsSpreadOf q.graph nodes c longer) (sym is.choice) is;
          is_own = subst (λ g. IsSpread g longer) same own;
        };
        choice = is.choice;
      }
