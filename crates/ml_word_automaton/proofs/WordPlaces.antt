-- A word read as a structure: one step goes from each place, and one path from the first.
--
--   step_is           == a step leads to the next place
--   has_next          == and there is one
--   word_is_structure, word_is_total == so it is a structure of LTL
--   path_is           == the word's path is one, from the first place
--   some_as_satisfied == some path from there satisfies a formula exactly if the word does
use Rattle.std.proofs.Common.{ℕ, zero, suc, ◌≡◌, ◌<◌, ◌≤◌, ◌⊎◌, ◌↔◌, ◌==◌, ◌&&◌, inl, inr, ltb, arith, true, false, Bool, not, length, cond, codes, bytes_eq, refl, sym, ap, subst, subst₂, ◌∙◌, lt-ltb, le-ltb, eqb-true, eq-eqb}
use Rattle.std.specs.List.{range_with_len}
use Rattle.std.proofs.lemmas.Bool.{and_parts, and_from, cases_lt, cond-true, cond-false}
use Rattle.std.proofs.lemmas.List.FromFn.{length-range_with_len, get_or-range_with_len}
use Rattle.ml_lists.specs.Lasso.{Lasso, entry, next_place}
use Rattle.ml_lists.specs.Member.{IsMember}
use Rattle.ml_lists.specs.Walk.{walk}
use Rattle.ml_lists.proofs.Lasso.{round-entry}
use Rattle.ml_lists.proofs.Member.{Image, member-map, member-map_from, list_any-member, member-list_any, member-All}
use Rattle.ml_lists.proofs.Ranges.{range-member, member-range}
use Rattle.ml_lists.proofs.Unrolling.{next_step, next_place_low, next_place-entry}
use Rattle.ml_base.specs.declared.structure.Edge.{Edge}
use Rattle.ml_base.specs.Structure.{Structure, IsStructure}
use Rattle.ml_trace.specs.WordAutomata.{WordLasso, IsWordLasso}
use Rattle.ml_ctl.specs.Formula.{Formula}
use Rattle.ml_ctl.specs.Meaning.{TruthAt}
use Rattle.ml_ctl.specs.Paths.{IsPathFrom, IsTotal, has_step}
use Rattle.ml_ctl.specs.Unrolled.{IsPlace, after}
use Rattle.ml_ctl.proofs.SamePaths.{follows_the_path}
use Rattle.ml_ltl.specs.Problem.{in_sense}
use Rattle.ml_blocks.specs.Laws.{signed}
use Rattle.ml_word_automaton.specs.Words.{Letter, next_letter, word_structure, word_path, SatisfiedBy}

module _ (w : WordLasso Letter) (ok : IsWordLasso w) where
  abbrev m : Structure
  m = word_structure w

  abbrev many : ℕ
  many = length w.word

  abbrev edge : ℕ → Edge
  edge i = record { source = i; action = codes "_"; target = next_letter w i }

  abbrev leaves : ℕ → ℕ → Edge → Bool
  leaves s t e = (e.source == s) && bytes_eq e.action (codes "_") && (e.target == t)

  pub next_inner : (i : ℕ) → suc i < many → next_letter w i ≡ suc i
  next_inner i low = cond-true (ltb (suc i) many) (suc i) w.loop_start (lt-ltb (suc i) many low)

  pub next_last : (i : ℕ) → many ≤ suc i → next_letter w i ≡ w.loop_start
  next_last i past = cond-false (ltb (suc i) many) (suc i) w.loop_start (le-ltb (suc i) many past)

  pub next_low : (i : ℕ) → next_letter w i < many
  next_low i = by_place (cases_lt (suc i) many)
    where
      by_place : (suc i < many) ⊎ (many ≤ suc i) → next_letter w i < many
      by_place (inl inner) = let is = next_inner i inner in omega (arith, is, inner)
      by_place (inr last) = let is = next_last i last in omega (arith, is, ok)

  -- ---- steps

  edge_of : (e : Edge) → IsMember e m.edges → Image edge e (range_with_len 0 many)
  edge_of e member = member-map_from edge e (range_with_len 0 many) member

  pub step_is : (s t : ℕ) → has_step m s t ≡ true → t ≡ next_letter w s
  step_is s t is =
      let found = list_any-member (leaves s t) m.edges is in
      let e : Edge = found.item in
      let parts = and_parts ((e.source == s) && bytes_eq e.action (codes "_")) (e.target == t) found.passes in
      let first = and_parts (e.source == s) (bytes_eq e.action (codes "_")) parts.0 in
      let image = edge_of e found.member in
      let source : image.from ≡ s = sym (ap (λ x. x.source) image.holds) ∙ eqb-true e.source s first.0 in
      sym (eqb-true e.target t parts.1) ∙ ap (λ x. x.target) image.holds ∙ ap (next_letter w) source

  pub has_next : (s : ℕ) → s < many → has_step m s (next_letter w s) ≡ true
  has_next s low =
      member-list_any (leaves s (next_letter w s)) (edge s) m.edges
      (member-map edge s (range_with_len 0 many) (member-range many s low))
      (and_from ((s == s) && bytes_eq (codes "_") (codes "_")) (next_letter w s == next_letter w s)
      (and_from (s == s) (bytes_eq (codes "_") (codes "_")) (eq-eqb s s refl) refl)
      (eq-eqb (next_letter w s) (next_letter w s) refl))

  pub word_is_total : IsTotal m
  word_is_total s low = (next_letter w s, has_next s low)

  pub word_is_structure : IsStructure m
  word_is_structure = record {
    has_state = omega (arith, ok);
    labels_states = refl;
    joins_states =
        member-All (λ (e : Edge). (e.source < many) × (e.target < many)) m.edges
        (λ e member.
        let image = edge_of e member in
        let low = range-member many image.from image.member in (
          subst (λ n. n < many) (sym (ap (λ x. x.source) image.holds)) low,
          subst (λ n. n < many) (sym (ap (λ x. x.target) image.holds)) (next_low image.from),
        ));
  }

  -- ---- the path

  long : length (range_with_len 0 many) ≡ many
  long = length-range_with_len 0 many

  entry_is : (k : ℕ) → k < many → entry (word_path w) k ≡ k
  entry_is k low = let is = get_or-range_with_len 0 many k 0 low in omega (arith, is)

  next_is : (k : ℕ) → next_place (word_path w) k ≡ next_letter w k
  next_is k = ap (λ n. cond (ltb (suc k) n) (suc k) w.loop_start) long

  pub path_is : IsPathFrom m 0 (word_path w)
  path_is = record {
    is_path = record {
      starts = let size = long in omega (arith, size, ok);
      joined = λ k below.
          let size = long in
          let low : k < many = omega (arith, size, below) in
          let here = round-entry (word_path w) k below ∙ entry_is k low in
          let there =
          sym (next_place-entry (word_path w) k below) ∙ ap (entry (word_path w)) (next_is k)
          ∙ entry_is (next_letter w k) (next_low k) in
          subst₂ (λ s t. has_step m s t ≡ true) (sym here) (sym there) (has_next k low);
    };
    starts_at = entry_is 0 (omega (arith, ok));
  }

  record Goes (l : Lasso) (k : ℕ) : Type 0 where
    pub place : IsPlace l (after l 0 k)
    pub is : entry l (after l 0 k) ≡ walk (next_letter w) 0 k

  goes : (l : Lasso) → IsPathFrom m 0 l → (k : ℕ) → Goes l k
  goes l from zero =
      let starts = from.is_path.starts in record { place = (starts, omega (arith, starts)); is = from.starts_at }
  goes l from (suc k) =
      let so_far = goes l from k in
      let p : ℕ = after l 0 k in
      let step = next_step (λ s t. has_step m s t ≡ true) l from.is_path p so_far.place.1 in
      record {
        place = (so_far.place.0, next_place_low l so_far.place.0 p so_far.place.1);
        is = step_is (entry l p) (entry l (next_place l p)) step ∙ ap (next_letter w) so_far.is;
      }

  true_on : (l k : Lasso) → IsPathFrom m 0 l → IsPathFrom m 0 k → (f : Formula) → TruthAt m l f 0 → TruthAt m k f 0
  true_on l k from also f =
      follows_the_path m f l k 0 0 (goes l from 0).place (goes k also 0).place
      (λ n. (goes l from n).is ∙ sym (goes k also n).is)

  abbrev pub SomePath : Formula → Bool → Type 0
  SomePath f negated = (l : Lasso) × IsPathFrom m 0 l × signed (not negated) (TruthAt m l f 0)

  pub some_as_satisfied : (f : Formula) (negated : Bool) → SomePath f negated ↔ SatisfiedBy w (in_sense negated f)
  some_as_satisfied f false = (
    (λ some. true_on some.0 (word_path w) some.1 path_is f some.2),
    (λ t. (word_path w, path_is, t)),
  )
  some_as_satisfied f true = (
    (λ some t. some.2 (true_on (word_path w) some.0 path_is some.1 f t)),
    (λ none. (word_path w, path_is, none)),
  )
