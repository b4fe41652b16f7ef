-- Runs of a program that lead into a set.
--
--   into m r K s    == is s related by r to some state of K?
--   run_of, of_run  == it is exactly if some state of K is one to which r relates s
--   no_run          == where it isn't, r relates s to no state of K
use Rattle.std.proofs.Common.{◌≡◌, ℕ, ◌<◌, Bool, true, false, ◌&&◌, sym, ◌∙◌, ⊎_elim}
use Rattle.std.specs.List.{list_any, range_with_len}
use Rattle.std.proofs.lemmas.Bool.{false≢true, and_parts, and_from, cases_Bool}
use Rattle.ml_lists.proofs.Member.{list_any-member, member-list_any}
use Rattle.ml_lists.proofs.Ranges.{range-member, member-range}
use Rattle.ml_base.specs.Structure.{Structure}
use Rattle.ml_pdl.specs.Meaning.{Relation}

abbrev pub into : Structure → Relation → (ℕ → Bool) → ℕ → Bool
into m r K s = list_any (λ t. r s t && K t) (range_with_len 0 m.states)

pub record RunInto (m : Structure) (r : Relation) (K : ℕ → Bool) (s : ℕ) : Type 0 where
  pub state : ℕ
  pub low : state < m.states
  pub run : r s state ≡ true
  pub inside : K state ≡ true

module _ (m : Structure) (r : Relation) (K : ℕ → Bool) (s : ℕ) where
  pub run_of : into m r K s ≡ true → RunInto m r K s
  run_of is =
      let some = list_any-member (λ t. r s t && K t) (range_with_len 0 m.states) is in
      let parts = and_parts (r s some.item) (K some.item) some.passes in
      record { state = some.item; low = range-member m.states some.item some.member; run = parts.0; inside = parts.1 }

  pub of_run : (t : ℕ) → t < m.states → r s t ≡ true → K t ≡ true → into m r K s ≡ true
  of_run t low run inside =
      member-list_any (λ u. r s u && K u) t (range_with_len 0 m.states) (member-range m.states t low)
      (and_from (r s t) (K t) run inside)

  pub no_run : into m r K s ≡ false → (t : ℕ) → t < m.states → r s t ≡ true → K t ≡ false
  no_run never t low run =
      ⊎_elim
      (λ (is : K t ≡ true). absurd (false≢true (sym never ∙ of_run t low run is)))
      (λ (out : K t ≡ false). out)
      (cases_Bool (K t))

  pub never_run : ((t : ℕ) → t < m.states → r s t ≡ true → K t ≡ true → ⊥) → into m r K s ≡ false
  never_run never =
      ⊎_elim
      (λ (is : into m r K s ≡ true). let some = run_of is in absurd (never some.state some.low some.run some.inside))
      (λ (out : into m r K s ≡ false). out)
      (cases_Bool (into m r K s))
