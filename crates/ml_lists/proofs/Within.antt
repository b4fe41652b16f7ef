-- Lists of which one has the members of another.
--
--   members-list_any == a test that some entry passes, some entry of a list with the same members passes
use Rattle.std.proofs.Common.{◌≡◌, ◌⊎◌, inl, inr, Bool, true, false, List, sym, ◌∙◌}
use Rattle.std.specs.List.{list_any}
use Rattle.std.proofs.lemmas.Bool.{cases_Bool}
use Rattle.ml_lists.specs.Within.{Within}
use Rattle.ml_lists.proofs.Member.{list_any-member, member-list_any}

-- a test that some entry passes, some entry of a list with the same members passes
pub members-list_any : {X : Type 0}
    → (test : X → Bool) (xs ys : List X)
    → Within xs ys
    → Within ys xs
    → list_any test xs ≡ list_any test ys
members-list_any test xs ys to from = by_test (cases_Bool (list_any test xs)) (cases_Bool (list_any test ys))
  where
    by_test : (list_any test xs ≡ true) ⊎ (list_any test xs ≡ false)
        → (list_any test ys ≡ true) ⊎ (list_any test ys ≡ false)
        → list_any test xs ≡ list_any test ys
    by_test (inl p) (inl q) = p ∙ sym q
    by_test (inr p) (inr q) = p ∙ sym q
    by_test (inl p) (inr q) = let s = list_any-member test xs p in let r =
        member-list_any test s.item ys (to s.item s.member) s.passes in absurd (cc)
    by_test (inr p) (inl q) = let s = list_any-member test ys q in let r =
        member-list_any test s.item xs (from s.item s.member) s.passes in absurd (cc)
