-- What is satisfiable on words is what is satisfiable on some path.
--
-- The places of a path make a word: each place is a state, with the propositions of the state that stands there and one edge to
-- the next place. The lasso of this word is true to the path at each place.
--
--   word_of m l        == the structure of the places of l
--   word_admitted      == each of its states has exactly one edge
--   lasso_of_word      == the lasso through its states from 0
--   same_truth         == formulas have the same values along it
--   as_satisfiable     == so satisfiable problems are the same
use Rattle.std.proofs.Common.{◌≡◌, ◌↔◌, ℕ, zero, suc, ◌+◌, ◌<◌, ◌==◌, Bool, true, false, ◌&&◌, ◌||◌, not, List, [], map}
use Rattle.std.proofs.Common.{cond, ltb, get_or, slice_index_or, codes, bytes_eq, refl, sym, ap, subst, subst₂, ◌∙◌, eqb-true, arith}
use Rattle.std.specs.List.{list_any, range_with_len}
use Rattle.std.proofs.lemmas.Bool.{and_parts, and_from, eq-eqb}
use Rattle.std.proofs.lemmas.List.FromFn.{length-range_with_len, get_or-range_with_len, length-map-range_with_len, get_or-map-range_with_len}
use Rattle.std.proofs.lemmas.Slice.Eq.{bytes_eq-Decides}
use Rattle.ml_lists.specs.Lasso.{Lasso, entry, next_place, round}
use Rattle.ml_lists.specs.Member.{IsMember}
use Rattle.ml_lists.proofs.Lasso.{round-entry}
use Rattle.ml_lists.proofs.Member.{list_any-member, member-list_any, member-map, member-map_from, member-All}
use Rattle.ml_lists.proofs.Unrolling.{next_place_low, next_place-entry}
use Rattle.ml_lists.proofs.Ranges.{range-member, member-range}
use Rattle.ml_base.specs.declared.structure.Edge.{Edge}
use Rattle.ml_base.specs.Structure.{Structure, lists}
use Rattle.ml_ctl.specs.Formula.{Formula, Const, Prop, Not, Binary, Temporal, Paired, Quantified}
use Rattle.ml_ctl.specs.Sorts.{is_linear}
use Rattle.ml_ctl.specs.declared.term.Tense.TheVariants as tense
use Rattle.ml_ctl.specs.declared.term.Pairing.TheVariants as pairing
use Rattle.ml_ctl.specs.Meaning.{Satisfies}
use Rattle.ml_ctl.specs.Paths.{has_step, places}
use Rattle.ml_ctl.specs.Problem as ctl
use Rattle.ml_ltl.specs.Problem as ltl
use Rattle.ml_word_graph.specs.Laws.{AsSatisfiable}
use Rattle.ml_word_graph.specs.Problem.{HasOneStep, IsAdmitted, IsSatisfiable, IsWordFrom}
use Rattle.ml_word_graph.proofs.Values.{truth, says_truth, untils, releases, connective_value}

abbrev edge_from : Lasso → ℕ → Edge
edge_from l i = record { source = i; action = codes "_"; target = next_place l i }

abbrev pub word_of : Structure → Lasso → Structure
word_of m l = record {
  states = places l;
  labels = map (λ i. slice_index_or m.labels (entry l i) []) (range_with_len 0 (places l));
  edges = map (edge_from l) (range_with_len 0 (places l));
}

abbrev pub lasso_of_word : Lasso → Lasso
lasso_of_word l = record { entries = range_with_len 0 (places l); start = l.start }

-- ---- operators along two lassos with the same next places

module _ (n : ℕ) (next other : ℕ → ℕ) (f g p q : ℕ → Bool) (same_next : (i : ℕ) → other i ≡ next i)
    (closed : (i : ℕ) → i < n → next i < n) (same_f : (i : ℕ) → i < n → p i ≡ f i) (same_g : (i : ℕ) → i < n → q i ≡ g i) where
  same_untils : (k i : ℕ) → i < n → untils other p q k i ≡ untils next f g k i
  same_untils zero i low = refl
  same_untils (suc k) i low =
      let later = ap (untils other p q k) (same_next i) ∙ same_untils k (next i) (closed i low) in
      ap (λ x. x || (p i && untils other p q k (other i))) (same_g i low)
      ∙ ap (λ x. g i || (x && untils other p q k (other i))) (same_f i low)
      ∙ ap (λ x. g i || (f i && x)) later

  same_releases : (k i : ℕ) → i < n → releases other p q k i ≡ releases next f g k i
  same_releases zero i low = refl
  same_releases (suc k) i low =
      let later = ap (releases other p q k) (same_next i) ∙ same_releases k (next i) (closed i low) in
      ap (λ x. x && (p i || releases other p q k (other i))) (same_g i low)
      ∙ ap (λ x. g i && (x || releases other p q k (other i))) (same_f i low)
      ∙ ap (λ x. g i && (f i || x)) later

abbrev goes : ℕ → ℕ → Edge → Bool
goes s t e = (e.source == s) && bytes_eq e.action (codes "_") && (e.target == t)

module _ (m : Structure) (l : Lasso) (starts : l.start < places l) where
  abbrev w : Structure
  w = word_of m l

  abbrev lw : Lasso
  lw = lasso_of_word l

  abbrev n : ℕ
  n = places l

  -- ---- the word

  pub word_admitted : IsAdmitted w
  word_admitted = record {
    is_structure = record {
      has_state = omega (arith, starts);
      labels_states = length-map-range_with_len (λ i. slice_index_or m.labels (entry l i) []) 0 n;
      joins_states = member-All (λ (e : Edge). (e.source < n) × (e.target < n)) w.edges within;
    };
    one_step = one;
  }
    where
      within : (e : Edge) → IsMember e w.edges → (e.source < n) × (e.target < n)
      within e h =
          let image = member-map_from (edge_from l) e (range_with_len 0 n) h in
          let low = range-member n image.from image.member in
          subst (λ (d : Edge). (d.source < n) × (d.target < n)) (sym image.holds) (low, next_place_low l starts image.from low)

      blank : bytes_eq (codes "_") (codes "_") ≡ true
      blank = (bytes_eq-Decides (codes "_") (codes "_")).1 refl

      one : (s : ℕ) → s < n → HasOneStep w s
      one s low = record {
        target = next_place l s;
        leads =
            member-list_any (goes s (next_place l s)) (edge_from l s) w.edges
            (member-map (edge_from l) s (range_with_len 0 n) (member-range n s low))
            (and_from ((s == s) && bytes_eq (codes "_") (codes "_")) (next_place l s == next_place l s)
            (and_from (s == s) (bytes_eq (codes "_") (codes "_")) (eq-eqb s s refl) blank)
            (eq-eqb (next_place l s) (next_place l s) refl));
        only = λ t leads.
            let some = list_any-member (goes s t) w.edges leads in
            let image = member-map_from (edge_from l) some.item (range_with_len 0 n) some.member in
            let parts = and_parts ((some.item.source == s) && bytes_eq some.item.action (codes "_")) (some.item.target == t) some.passes in
            let from = eqb-true some.item.source s (and_parts (some.item.source == s) (bytes_eq some.item.action (codes "_")) parts.0).0 in
            let to = eqb-true some.item.target t parts.1 in
            sym to ∙ ap (λ (e : Edge). e.target) image.holds
            ∙ ap (next_place l) (sym (ap (λ (e : Edge). e.source) image.holds) ∙ from);
      }

  -- ---- its lasso

  same_length : places lw ≡ n
  same_length = length-range_with_len 0 n

  pub entry_is : (i : ℕ) → i < n → entry lw i ≡ i
  entry_is i low = omega (arith, get_or-range_with_len 0 n i 0 low)

  next_same : (i : ℕ) → next_place lw i ≡ next_place l i
  next_same i = ap (λ k. cond (ltb (suc i) k) (suc i) l.start) same_length

  closed : (i : ℕ) → i < n → next_place l i < n
  closed i low = next_place_low l starts i low

  pub is_word : IsWordFrom w 0 lw
  unfolding word_admitted
  is_word = record {
    is_path = record {
      is_path = record { starts = omega (arith, starts, same_length); joined = joined };
      starts_at = entry_is 0 (omega (arith, starts));
    };
    differ = λ i j i_low j_low same.
        sym (entry_is i (omega (arith, i_low, same_length))) ∙ same ∙ entry_is j (omega (arith, j_low, same_length));
  }
    where
      joined : (k : ℕ) → k < places lw → has_step w (get_or (round lw) k 0) (get_or (round lw) (k + 1) 0) ≡ true
      joined k k_low =
          let low : k < n = omega (arith, k_low, same_length) in
          let here : k ≡ get_or (round lw) k 0 = sym (round-entry lw k k_low ∙ entry_is k low) in
          let there : next_place l k ≡ get_or (round lw) (k + 1) 0 =
          sym (sym (next_place-entry lw k k_low) ∙ ap (entry lw) (next_same k) ∙ entry_is (next_place l k) (closed k low)) in
          subst₂ (λ s t. has_step w s t ≡ true) here there (word_admitted.one_step k low).leads

  -- ---- the same values

  same_prop : (p : List ℕ) (i : ℕ) → i < n → lists w (entry lw i) p ≡ lists m (entry l i) p
  same_prop p i low =
      ap (λ s. lists w s p) (entry_is i low)
      ∙ ap (list_any (λ q. bytes_eq q p))
      (get_or-map-range_with_len (λ j. slice_index_or m.labels (entry l j) []) 0 n i i [] low (omega arith))

  until_same : (f g p q : ℕ → Bool) → ((i : ℕ) → i < n → p i ≡ f i) → ((i : ℕ) → i < n → q i ≡ g i) → (i : ℕ) → i < n
      → untils (next_place lw) p q (places lw) i ≡ untils (next_place l) f g (places l) i
  until_same f g p q x y i low =
      ap (λ k. untils (next_place lw) p q k i) same_length
      ∙ same_untils n (next_place l) (next_place lw) f g p q next_same closed x y n i low

  release_same : (f g p q : ℕ → Bool) → ((i : ℕ) → i < n → p i ≡ f i) → ((i : ℕ) → i < n → q i ≡ g i) → (i : ℕ) → i < n
      → releases (next_place lw) p q (places lw) i ≡ releases (next_place l) f g (places l) i
  release_same f g p q x y i low =
      ap (λ k. releases (next_place lw) p q k i) same_length
      ∙ same_releases n (next_place l) (next_place lw) f g p q next_same closed x y n i low

  pub same_truth : (f : Formula) (i : ℕ) → i < n → truth w lw f i ≡ truth m l f i
  same_truth (Const b) i low = refl
  same_truth (Prop p) i low = same_prop p i low
  same_truth (Not f) i low = ap not (same_truth f i low)
  same_truth (Binary op f g) i low =
      ap (λ x. connective_value op x (truth w lw g i)) (same_truth f i low)
      ∙ ap (connective_value op (truth m l f i)) (same_truth g i low)
  same_truth (Temporal tense.Next f) i low =
      ap (truth w lw f) (next_same i) ∙ same_truth f (next_place l i) (closed i low)
  same_truth (Temporal tense.Finally f) i low =
      until_same (λ j. true) (truth m l f) (λ j. true) (truth w lw f) (λ j j_low. refl) (same_truth f) i low
  same_truth (Temporal tense.Globally f) i low =
      release_same (λ j. false) (truth m l f) (λ j. false) (truth w lw f) (λ j j_low. refl) (same_truth f) i low
  same_truth (Paired pairing.Until f g) i low =
      until_same (truth m l f) (truth m l g) (truth w lw f) (truth w lw g) (same_truth f) (same_truth g) i low
  same_truth (Paired pairing.Release f g) i low =
      release_same (truth m l f) (truth m l g) (truth w lw f) (truth w lw g) (same_truth f) (same_truth g) i low
  same_truth (Paired pairing.Weak f g) i low =
      release_same (truth m l g) (λ j. truth m l f j || truth m l g j) (truth w lw g) (λ j. truth w lw f j || truth w lw g j)
      (same_truth g)
      (λ j j_low. ap (λ x. x || truth w lw g j) (same_truth f j j_low) ∙ ap (λ x. truth m l f j || x) (same_truth g j j_low)) i low
  same_truth (Quantified q f) i low = refl

  pub satisfies_alike : (f : Formula) → is_linear f ≡ true → Satisfies m l f ↔ Satisfies w lw f
  satisfies_alike f linear =
      let here = says_truth m l f linear 0 in
      let there = says_truth w lw f linear 0 in
      let same = same_truth f 0 (omega (arith, starts)) in
      (λ t. there.1 (same ∙ here.0 t), λ t. here.1 (sym same ∙ there.0 t))

-- ---- problems

as_ltl : (m : Structure) (l : Lasso) (f : Formula) (negated : Bool) → ctl.in_sense negated (Satisfies m l f)
    → Satisfies m l (ltl.in_sense negated f)
as_ltl m l f false h = h
as_ltl m l f true h = h

as_word : (m : Structure) (l : Lasso) (f : Formula) (negated : Bool) → l.start < places l → is_linear f ≡ true
    → Satisfies m l (ltl.in_sense negated f)
    → ctl.in_sense negated (Satisfies (word_of m l) (lasso_of_word l) f)
as_word m l f false starts linear h = (satisfies_alike m l starts f linear).0 h
as_word m l f true starts linear h = λ t. h ((satisfies_alike m l starts f linear).1 t)

pub as_satisfiable : AsSatisfiable
as_satisfiable f negated linear = (there, back)
  where
    there : IsSatisfiable f negated → ltl.IsSatisfiable f negated
    there (m, ok, s, low, (l, word, holds)) = (
      m,
      record {
        is_structure = ok.is_structure;
        is_total = λ t t_low. let one = ok.one_step t t_low in (one.target, one.leads);
      },
      s,
      low,
      (l, word.is_path, as_ltl m l f negated holds),
    )

    back : ltl.IsSatisfiable f negated → IsSatisfiable f negated
    back (m, ok, s, low, (l, path, holds)) =
        let starts = path.is_path.starts in (
          word_of m l,
          word_admitted m l starts,
          0,
          omega (arith, starts),
          (lasso_of_word l, is_word m l starts, as_word m l f negated starts linear holds),
        )
