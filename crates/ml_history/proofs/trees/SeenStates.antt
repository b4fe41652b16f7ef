-- States that were seen: what the walk over a tree keeps of them.
--
--   with_all-append, news-append == joined lists of states
--   news-seen, news-new == a state that was seen, and one that was not
--   news_next, seen_next == what is new of a list, and what is seen then, with one state more
use Rattle.std.proofs.Common.{ℕ, ◌≡◌, ◌+◌, ◌<◌, ◌⊎◌, inl, inr, Bool, true, false, List, [], ◌∷◌, ◌++◌, length, get_or, take, refl, sym, ap, ◌∙◌}
use Rattle.std.proofs.lemmas.Bool.{cases_Bool, cond-true, cond-false}
use Rattle.std.proofs.lemmas.List.{take_more}
use Rattle.ml_history.specs.private.TreeStep.{with_one, with_all, news}
use Rattle.ml_history.proofs.trees.FirstOffers.{with_one-again}

-- joined lists of states
pub with_all-append : (xs ys : List ℕ) (seen : ℕ → Bool) → with_all (xs ++ ys) seen ≡ with_all ys (with_all xs seen)
with_all-append [] ys seen = refl
with_all-append (x ∷ xs) ys seen = with_all-append xs ys (with_one x seen)

-- a state that was seen
pub news-seen : (seen : ℕ → Bool) (q : ℕ) (qs : List ℕ) → seen q ≡ true → news seen (q ∷ qs) ≡ news seen qs
news-seen seen q qs t = cond-true (seen q) (news seen qs) (q ∷ news (with_one q seen) qs) t

-- one that was not
pub news-new : (seen : ℕ → Bool) (q : ℕ) (qs : List ℕ)
    → seen q ≡ false
    → news seen (q ∷ qs) ≡ q ∷ news (with_one q seen) qs
news-new seen q qs f = cond-false (seen q) (news seen qs) (q ∷ news (with_one q seen) qs) f

pub news-append : (seen : ℕ → Bool) (xs ys : List ℕ) → news seen (xs ++ ys) ≡ news seen xs ++ news (with_all xs seen) ys
news-append seen [] ys = refl
news-append seen (x ∷ xs) ys = by_test (cases_Bool (seen x)) (news-append seen xs ys)
    (news-append (with_one x seen) xs ys)
  where
    by_test : (seen x ≡ true) ⊎ (seen x ≡ false)
        → news seen (xs ++ ys) ≡ news seen xs ++ news (with_all xs seen) ys
        → news (with_one x seen) (xs ++ ys) ≡ news (with_one x seen) xs ++ news (with_all xs (with_one x seen)) ys
        → news seen ((x ∷ xs) ++ ys) ≡ news seen (x ∷ xs) ++ news (with_all (x ∷ xs) seen) ys
    by_test (inl t) same more =
        news-seen seen x (xs ++ ys) t
        ∙ same
        ∙ ap (λ v. news seen xs ++ news (with_all xs v) ys) (sym (with_one-again x seen t))
        ∙ ap (λ v. v ++ news (with_all (x ∷ xs) seen) ys) (sym (news-seen seen x xs t))
    by_test (inr f) same more =
        news-new seen x (xs ++ ys) f
        ∙ ap (λ v. x ∷ v) more
        ∙ ap (λ v. v ++ news (with_all (x ∷ xs) seen) ys) (sym (news-new seen x xs f))

-- one state more of a list: what is new, and what is seen then
pub news_next : (seen : ℕ → Bool) (s : List ℕ) (i : ℕ) (before : ℕ → Bool) (found after : List ℕ)
    → i < length s
    → found ≡ news seen (take i s)
    → before ≡ with_all (take i s) seen
    → after ≡ found ++ news before (get_or s i 0 ∷ [])
    → after ≡ news seen (take (i + 1) s)
news_next seen s i before found after low f b a =
    a
    ∙ (λ k. f k ++ news (b k) (get_or s i 0 ∷ []))
    ∙ sym (news-append seen (take i s) (get_or s i 0 ∷ []))
    ∙ ap (news seen) (sym (take_more s i 0 low))

pub seen_next : (seen : ℕ → Bool) (s : List ℕ) (i : ℕ) (before after : ℕ → Bool)
    → i < length s
    → before ≡ with_all (take i s) seen
    → after ≡ with_one (get_or s i 0) before
    → after ≡ with_all (take (i + 1) s) seen
seen_next seen s i before after low b a =
    a
    ∙ ap (with_one (get_or s i 0)) b
    ∙ sym (with_all-append (take i s) (get_or s i 0 ∷ []) seen)
    ∙ ap (λ l. with_all l seen) (sym (take_more s i 0 low))
