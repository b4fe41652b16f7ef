-- Labels and edges of a word, as the program gathers them.
--
--   pair         == a name with its place
--   edges_more   == the edges of one place more
--   pairs_more   == the labels of one place more
--   names_more   == the labels of a place, with one name more
--   pairs_low    == labels are those of places
--   none_bad     == so labels and edges name places alone
--   given_iff    == the names that labels give a place are those with its number
--   run_is       == what is built of them is the structure of the word of the names at each place
--   gathered_run == so it is of the word of some letters, where the labels are theirs
--   along_is     == the word of the labels along a path is made of the letters at its places
use Rattle.std.proofs.Common.{ℕ, suc, ◌≡◌, ◌↔◌, ◌+◌, ◌<◌, ◌≤◌, ◌⊎◌, inl, inr, arith, Bool, true, false, cond, ltb, Contains, None, All, List, [], ◌∷◌, ◌++◌}
use Rattle.std.proofs.Common.{length, map, get_or, take, refl, sym, ap, ◌∙◌, ◌==◌, eq-eqb, eqb-true, subst}
use Rattle.std.specs.List.{filter, flat_map, range_with_len}
use Rattle.std.proofs.lemmas.Bool.{cases_lt, cond-false, cond-true, le-ltb, lt-ltb}
use Rattle.std.proofs.lemmas.Grind.{flat_map-append}
use Rattle.std.proofs.lemmas.List.{ext_get_or, get_or-map, length-map, map-append, take_more}
use Rattle.std.proofs.lemmas.List.FromFn.{get_or-map-range_with_len, length-map-range_with_len, map-range_with_len_more}
use Rattle.ml_base.specs.Structure.{Structure, lists}
use Rattle.ml_base.specs.declared.structure.Edge.{Edge}
use Rattle.ml_base.proofs.Listing.{among_iff, lists_iff}
use Rattle.ml_kripke.specs.Built.{IsBuiltFrom, first_bad_state, labels_at as given}
use Rattle.ml_lists.specs.Lasso.{Lasso}
use Rattle.ml_kripke.proofs.Range as range
use Rattle.ml_lists.specs.Member.{IsMember}
use Rattle.ml_lists.proofs.Member.{All-member, Image, InList, member-All, member-filter, member-filter_from, member-flat_map, member-flat_map_from, member-map, member-map_from}
use Rattle.ml_lists.proofs.Members.{contains_of_member, member_of_contains}
use Rattle.ml_lists.proofs.Ranges.{member-range, range-member, range-more}
use Rattle.ml_trace.specs.WordAutomata.{WordLasso}
use Rattle.ml_word_automaton.specs.Words.{Letter, has, word_structure}
use Rattle.ml_paths.specs.Paths.{labels_at}
use Rattle.ml_paths.specs.Runs.{IsRunOf, word_along, word_at}
use Rattle.ml_paths.specs.private.Built.{letter_of, pairs_at, pairs_of, round_edge, round_edges}

abbrev pair : ℕ → List ℕ → ℕ × List ℕ
pair k p = (k, p)

pub edges_more : (n start i : ℕ) (edges more : List Edge) (e : Edge)
    → edges ≡ map (round_edge n start) (range_with_len 0 i)
    → more ≡ edges ++ e ∷ []
    → e ≡ round_edge n start i
    → more ≡ map (round_edge n start) (range_with_len 0 (i + 1))
edges_more n start i edges more e so_far is here =
    is
    ∙ (λ j. so_far j ++ here j ∷ [])
    ∙ sym (map-range_with_len_more (round_edge n start) 0 i i (omega arith))

pub pairs_more : (letters : ℕ → Letter) (i : ℕ) → pairs_of letters (i + 1) ≡ pairs_of letters i ++ pairs_at i (letters i)
pairs_more letters i =
    ap (flat_map (λ k. pairs_at k (letters k))) (range-more i)
    ∙ flat_map-append (λ k. pairs_at k (letters k)) (range_with_len 0 i) (i ∷ [])
    ∙ ap (λ xs. pairs_of letters i ++ xs) (none_more (pairs_at i (letters i)))
  where
    none_more : (xs : List (ℕ × List ℕ)) → xs ++ [] ≡ xs
    none_more [] = refl
    none_more (x ∷ xs) = ap (λ ys. x ∷ ys) (none_more xs)

pub names_more : (labels more : List (ℕ × List ℕ)) (k i : ℕ) (names : List (List ℕ)) (p d : List ℕ) (old : List (ℕ × List ℕ))
    → i < length names
    → p ≡ get_or names i d
    → labels ≡ old ++ pairs_at k (take i names)
    → more ≡ labels ++ pair k p ∷ []
    → more ≡ old ++ pairs_at k (take (i + 1) names)
names_more labels more k i names p d old low is so_far added =
    added
    ∙ (λ j. so_far j ++ pair k (is j) ∷ [])
    ∙ assoc old (pairs_at k (take i names)) (pair k (get_or names i d) ∷ [])
    ∙ ap (λ xs. old ++ xs)
    (sym (map-append (pair k) (take i names) (get_or names i d ∷ []))
    ∙ ap (pairs_at k) (sym (take_more names i d low)))
  where
    assoc : (xs ys zs : List (ℕ × List ℕ)) → (xs ++ ys) ++ zs ≡ xs ++ (ys ++ zs)
    assoc [] ys zs = refl
    assoc (x ∷ xs) ys zs = ap (λ us. x ∷ us) (assoc xs ys zs)

-- ---- what labels and edges name

module _ (letters : ℕ → Letter) (n : ℕ) where
  pub pair_of : (k : ℕ) (p : List ℕ) → IsMember (pair k p) (pairs_of letters n) → (k < n) × IsMember p (letters k)
  pair_of k p member = from (member-flat_map_from (λ i. pairs_at i (letters i)) (pair k p) (range_with_len 0 n) member)
    where
      here : (i : ℕ) → i < n → Image (pair i) (pair k p) (letters i) → (k < n) × IsMember p (letters k)
      here i low image =
          let place : k ≡ i = ap (λ (x : ℕ × List ℕ). x.0) image.holds in
          let name : p ≡ image.from = ap (λ (x : ℕ × List ℕ). x.1) image.holds in (
            subst (λ j. j < n) (sym place) low,
            subst (λ q. IsMember q (letters k)) (sym name) (subst (λ j. IsMember image.from (letters j)) (sym place) image.member),
          )

      from : InList (λ i. pairs_at i (letters i)) (pair k p) (range_with_len 0 n) → (k < n) × IsMember p (letters k)
      from i =
          here i.from (range-member n i.from i.member)
          (member-map_from (pair i.from) (pair k p) (letters i.from) i.inside)

  pub of_pair : (k : ℕ) (p : List ℕ) → k < n → IsMember p (letters k) → IsMember (pair k p) (pairs_of letters n)
  of_pair k p low member =
      member-flat_map (λ i. pairs_at i (letters i)) k (pair k p) (range_with_len 0 n) (member-range n k low)
      (member-map (pair k) p (letters k) member)

  pub pairs_low : All (λ (label : ℕ × List ℕ). label.0 < n) (pairs_of letters n)
  pairs_low =
      member-All (λ (label : ℕ × List ℕ). label.0 < n) (pairs_of letters n) (λ label m. (pair_of label.0 label.1 m).0)

pub none_bad : (n start : ℕ) (labels : List (ℕ × List ℕ)) (edges : List Edge)
    → start < n
    → All (λ (label : ℕ × List ℕ). label.0 < n) labels
    → edges ≡ round_edges n start
    → first_bad_state n labels edges ≡ None
none_bad n start labels edges loops low are =
    range.none_bad n labels edges (All-member (λ (label : ℕ × List ℕ). label.0 < n) labels low)
    (λ e m. of_edge e (member-map_from (round_edge n start) e (range_with_len 0 n) (subst (IsMember e) are m)))
  where
    next_low : (i : ℕ) → (suc i < n) ⊎ (n ≤ suc i) → cond (ltb (suc i) n) (suc i) start < n
    next_low i (inl inner) =
        subst (λ k. k < n) (sym (cond-true (ltb (suc i) n) (suc i) start (lt-ltb (suc i) n inner))) inner
    next_low i (inr last) =
        subst (λ k. k < n) (sym (cond-false (ltb (suc i) n) (suc i) start (le-ltb (suc i) n last))) loops

    of_edge : (e : Edge) → Image (round_edge n start) e (range_with_len 0 n) → (e.source < n) × (e.target < n)
    of_edge e i = (
      subst (λ k. k < n) (sym (ap (λ (x : Edge). x.source) i.holds)) (range-member n i.from i.member),
      subst (λ k. k < n) (sym (ap (λ (x : Edge). x.target) i.holds)) (next_low i.from (cases_lt (suc i.from) n)),
    )

-- ---- what is built

same_truth : (a b : Bool) → (a ≡ true) ↔ (b ≡ true) → a ≡ b
same_truth true b same = sym (same.0 refl)
same_truth false true same = absurd (let wrong = same.1 refl in cc)
same_truth false false same = refl

-- the names that labels give a place
module _ (labels : List (ℕ × List ℕ)) (k : ℕ) (p : List ℕ) where
  abbrev name : ℕ × List ℕ → List ℕ
  name label = label.1

  abbrev here : ℕ × List ℕ → Bool
  here label = label.0 == k

  given_pair : IsMember p (given labels k) → IsMember (pair k p) labels
  given_pair member =
      let i = member-map_from name p (filter here labels) member in
      let from = member-filter_from here i.from labels i.member in
      let place : i.from.0 ≡ k = eqb-true i.from.0 k from.1 in
      let text : i.from.1 ≡ p = sym i.holds in
      subst (λ x. IsMember x labels) (λ j. (place j, text j)) from.0

  pair_given : IsMember (pair k p) labels → IsMember p (given labels k)
  pair_given member =
      member-map name (pair k p) (filter here labels) (member-filter here (pair k p) labels member (eq-eqb k k refl))

  pub given_iff : (has (given labels k) p ≡ true) ↔ IsMember (pair k p) labels
  given_iff = (
    λ h. given_pair (member_of_contains p (given labels k) ((among_iff (given labels k) p).0 h)),
    λ h. (among_iff (given labels k) p).1 (contains_of_member p (given labels k) (pair_given h)),
  )

-- the letter at a place of a word that is made of letters
letter_is : (letters : ℕ → Letter) (n start k : ℕ) → k < n → get_or (word_at letters n start).word k [] ≡ letters k
letter_is letters n start k low = get_or-map-range_with_len letters 0 n k k [] low (omega arith)

word_long : (letters : ℕ → Letter) (n start : ℕ) → length (word_at letters n start).word ≡ n
word_long letters n start = length-map-range_with_len letters 0 n

pub run_is : (n start : ℕ) (labels : List (ℕ × List ℕ)) (edges : List Edge) (m : Structure)
    → edges ≡ round_edges n start
    → IsBuiltFrom n labels edges m
    → IsRunOf (word_at (given labels) n start) m
run_is n start labels edges m edges_are built = record {
  one_each = built.has_states ∙ sym long;
  labels = λ k p low. label k p (omega (arith, low, long));
  edges = λ e. (
    λ h. subst (λ es. Contains es e) same_edges ((built.has_edges e).0 h),
    λ h. (built.has_edges e).1 (subst (λ es. Contains es e) (sym same_edges) h),
  );
}
  where
    w : WordLasso Letter
    w = word_at (given labels) n start

    long : length w.word ≡ n
    long = word_long (given labels) n start

    same_edges : edges ≡ (word_structure w).edges
    same_edges = edges_are ∙ ap (λ k. round_edges k start) (sym long)

    label : (k : ℕ) (p : List ℕ) → k < n → lists m k p ≡ has (get_or w.word k []) p
    label k p low =
        same_truth (lists m k p) (has (given labels k) p) (
          λ h.
              (given_iff labels k p).1
              (member_of_contains (pair k p) labels ((built.has_labels k p).0 ((lists_iff m k p).0 h))),
          λ h.
              (lists_iff m k p).1
              ((built.has_labels k p).1 (contains_of_member (pair k p) labels ((given_iff labels k p).0 h))),
        )
        ∙ ap (λ l. has l p) (sym (letter_is (given labels) n start k low))

pub gathered_run : (letters : ℕ → Letter) (n start : ℕ) (labels : List (ℕ × List ℕ)) (m : Structure)
    → labels ≡ pairs_of letters n
    → IsRunOf (word_at (given labels) n start) m
    → IsRunOf (word_at letters n start) m
gathered_run letters n start labels m are run = record {
  one_each = run.one_each ∙ word_long (given labels) n start ∙ sym long;
  labels = λ k p low. label k p (omega (arith, low, long));
  edges = λ e. subst (λ k. Contains m.edges e ↔ Contains (round_edges k start) e) same_long (run.edges e);
}
  where
    long : length (word_at letters n start).word ≡ n
    long = word_long letters n start

    same_long : length (word_at (given labels) n start).word ≡ length (word_at letters n start).word
    same_long = word_long (given labels) n start ∙ sym long

    has_same : (k : ℕ) (p : List ℕ) → k < n → has (given labels k) p ≡ has (letters k) p
    has_same k p low =
        same_truth (has (given labels k) p) (has (letters k) p) (
          λ h.
              (among_iff (letters k) p).1
              (contains_of_member p (letters k)
              (pair_of letters n k p (subst (IsMember (pair k p)) are ((given_iff labels k p).0 h))).1),
          λ h.
              (given_iff labels k p).1
              (subst (IsMember (pair k p)) (sym are)
              (of_pair letters n k p low (member_of_contains p (letters k) ((among_iff (letters k) p).0 h)))),
        )

    label : (k : ℕ) (p : List ℕ) → k < n → lists m k p ≡ has (get_or (word_at letters n start).word k []) p
    label k p low =
        run.labels k p (omega (arith, low, word_long (given labels) n start))
        ∙ ap (λ l. has l p) (letter_is (given labels) n start k low)
        ∙ has_same k p low
        ∙ ap (λ l. has l p) (sym (letter_is letters n start k low))

pub along_is : (m : Structure) (l : Lasso) → word_at (letter_of m l.entries) (length l.entries) l.start ≡ word_along m l
along_is m l = λ j. record { word = at j; loop_start = l.start }
  where
    made : List Letter
    made = map (letter_of m l.entries) (range_with_len 0 (length l.entries))

    long : length made ≡ length l.entries
    long = length-map-range_with_len (letter_of m l.entries) 0 (length l.entries)

    at : made ≡ map (labels_at m) l.entries
    at =
        ext_get_or [] made (map (labels_at m) l.entries) (long ∙ sym (length-map l.entries (labels_at m)))
        (λ k low.
        let inside : k < length l.entries = omega (arith, low, long) in
        get_or-map-range_with_len (letter_of m l.entries) 0 (length l.entries) k k [] inside (omega arith)
        ∙ sym (get_or-map (labels_at m) l.entries k 0 [] inside))
