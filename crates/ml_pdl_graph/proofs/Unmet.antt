-- The nodes of a program from which no run leads into a set.
--
--   Start p i K s n   == n is the first node of p at i, and no run of p leads from s into K
--   Unmet p i K s n   == n is a node of p at i, and from s what is still to be run at n doesn't lead into K
--   seq_unmet, left_unmet, right_unmet, here_unmet, round_unmet, test_unmet == what that means, program by program
use Rattle.std.proofs.Common.{◌≡◌, ℕ, ◌+◌, ◌<◌, ◌==◌, ◌⊎◌, Bool, true, false, ◌&&◌, List, inl, refl, sym, subst, ◌∙◌}
use Rattle.std.specs.Str.{bytes_eq}
use Rattle.std.proofs.lemmas.Bool.{false≢true, and_parts, and_from, or_left, or_right, eq-eqb}
use Rattle.ml_lists.specs.Member.{IsMember}
use Rattle.ml_lists.proofs.Member.{member-map_from, member-filter_from, member-list_any}
use Rattle.ml_base.specs.declared.structure.Edge.{Edge}
use Rattle.ml_base.specs.Structure.{Structure, is_member}
use Rattle.ml_graph.specs.CheckingGame.{targets}
use Rattle.ml_pdl.specs.Formula.{Formula, Program, Act, Seq, Alt, Star, Test, program_occurrences}
use Rattle.ml_pdl.specs.Meaning.{has_edge, meaning, relation}
use Rattle.ml_pdl.proofs.RunsInto.{into, of_run, no_run, never_run}
use Rattle.ml_pdl.proofs.StarRelations.{star_stays, star_first}
use Rattle.ml_pdl_graph.proofs.Players.{node_of}

-- the first node of a program, where no run leads into the set
abbrev pub Start : Structure → Bool → Program → ℕ → (ℕ → Bool) → ℕ → ℕ → Type 0
Start m e p i K s n = (n ≡ node_of e i) × (into m (relation m p) K s ≡ false)

abbrev pub Unmet : Structure → Bool → Program → ℕ → (ℕ → Bool) → ℕ → ℕ → Type 0
Unmet m e (Act name) i K s n = Start m e (Act name) i K s n
Unmet m e (Seq p q) i K s n =
    Start m e (Seq p q) i K s n
    ⊎ (Unmet m e p (i + 1) (into m (relation m q) K) s n ⊎ Unmet m e q (i + 1 + program_occurrences p) K s n)
Unmet m e (Alt p q) i K s n =
    Start m e (Alt p q) i K s n ⊎ (Unmet m e p (i + 1) K s n ⊎ Unmet m e q (i + 1 + program_occurrences p) K s n)
Unmet m e (Star p) i K s n =
    Start m e (Star p) i K s n ⊎ Unmet m e p (i + 1) (into m (relation m (Star p)) K) s n
Unmet m e (Test f) i K s n = Start m e (Test f) i K s n

pub start_unmet : (m : Structure) (e : Bool) (p : Program) (i : ℕ) (K : ℕ → Bool) (s : ℕ)
    → into m (relation m p) K s ≡ false
    → Unmet m e p i K s (node_of e i)
start_unmet m e (Act name) i K s never = (refl, never)
start_unmet m e (Seq p q) i K s never = inl (refl, never)
start_unmet m e (Alt p q) i K s never = inl (refl, never)
start_unmet m e (Star p) i K s never = inl (refl, never)
start_unmet m e (Test f) i K s never = (refl, never)

three : (a b c : Bool) → a ≡ true → b ≡ true → c ≡ true → (a && b && c) ≡ true
three true true true x y z = refl
three true true false x y z = absurd (false≢true z)
three true false c x y z = absurd (false≢true y)
three false b c x y z = absurd (false≢true x)

pub target_edge : (m : Structure) (a : List ℕ) (s t : ℕ) → IsMember t (targets m s a) → has_edge m a s t ≡ true
target_edge m a s t h =
    let image = member-map_from (λ (d : Edge). d.target) t _ h in
    let kept = member-filter_from (λ d. (d.source == s) && bytes_eq d.action a) image.from m.edges image.member in
    let parts = and_parts (image.from.source == s) (bytes_eq image.from.action a) kept.1 in
    member-list_any (λ d. (d.source == s) && bytes_eq d.action a && (d.target == t)) image.from m.edges kept.0
    (three (image.from.source == s) (bytes_eq image.from.action a) (image.from.target == t) parts.0 parts.1
    (subst (λ x. (image.from.target == x) ≡ true) (sym image.holds) (eq-eqb image.from.target image.from.target refl)))

module _ (m : Structure) (K : ℕ → Bool) (s : ℕ) (s_low : s < m.states) where
  pub seq_unmet : (p q : Program)
      → into m (relation m (Seq p q)) K s ≡ false
      → into m (relation m p) (into m (relation m q) K) s ≡ false
  seq_unmet p q never = never_run m (relation m p) (into m (relation m q) K) s
      (λ u u_low run inside. absurd (false≢true (sym (none u u_low run) ∙ inside)))
    where
      none : (u : ℕ) → u < m.states → relation m p s u ≡ true → into m (relation m q) K u ≡ false
      none u u_low run = never_run m (relation m q) K u
          (λ t t_low more inside. absurd (false≢true (sym (no_run m (relation m (Seq p q)) K s never t t_low
          (of_run m (relation m p) (λ v. relation m q v t) s u u_low run more)) ∙ inside)))

  pub left_unmet : (p q : Program) → into m (relation m (Alt p q)) K s ≡ false → into m (relation m p) K s ≡ false
  left_unmet p q never = never_run m (relation m p) K s
      (λ t t_low run inside. absurd (false≢true
      (sym (no_run m (relation m (Alt p q)) K s never t t_low (or_left (relation m p s t) (relation m q s t) run))
      ∙ inside)))

  pub right_unmet : (p q : Program) → into m (relation m (Alt p q)) K s ≡ false → into m (relation m q) K s ≡ false
  right_unmet p q never = never_run m (relation m q) K s
      (λ t t_low run inside. absurd (false≢true
      (sym (no_run m (relation m (Alt p q)) K s never t t_low (or_right (relation m p s t) (relation m q s t) run))
      ∙ inside)))

  pub here_unmet : (p : Program) → into m (relation m (Star p)) K s ≡ false → K s ≡ false
  here_unmet p never = no_run m (relation m (Star p)) K s never s s_low (star_stays m p s)

  pub round_unmet : (p : Program)
      → into m (relation m (Star p)) K s ≡ false
      → into m (relation m p) (into m (relation m (Star p)) K) s ≡ false
  round_unmet p never = never_run m (relation m p) (into m (relation m (Star p)) K) s
      (λ u u_low run inside. absurd (false≢true (sym (none u u_low run) ∙ inside)))
    where
      none : (u : ℕ) → u < m.states → relation m p s u ≡ true → into m (relation m (Star p)) K u ≡ false
      none u u_low run = never_run m (relation m (Star p)) K u
          (λ t t_low more inside. absurd (false≢true (sym (no_run m (relation m (Star p)) K s never t t_low
          (star_first m p s u t s_low u_low t_low run more)) ∙ inside)))

  pub test_unmet : (f : Formula)
      → into m (relation m (Test f)) K s ≡ false
      → is_member (meaning m f) s ≡ true
      → K s ≡ false
  test_unmet f never shown =
      no_run m (relation m (Test f)) K s never s s_low
      (and_from (s == s) (is_member (meaning m f) s) (eq-eqb s s refl) shown)
