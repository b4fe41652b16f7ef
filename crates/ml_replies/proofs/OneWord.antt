-- From each state of a structure in which each state has exactly one edge by `_` goes one word. (Belongs in ml_word_graph.)
--
--   one_word == two words from a state are the same
use Rattle.std.proofs.Common.{◌≡◌, ℕ, zero, suc, ◌<◌, ◌≤◌, ◌⊎◌, inl, inr, cond, refl, sym, ap, subst, ◌∙◌, lt-ltb, le-ltb, arith}
use Rattle.std.proofs.lemmas.Bool.{cases_lt}
use Rattle.std.proofs.lemmas.Grind.{same_number_lists}
use Rattle.ml_lists.specs.Lasso.{Lasso, entry, next_place}
use Rattle.ml_lists.specs.Walk.{walk}
use Rattle.ml_lists.proofs.Walks.{walk_keeps}
use Rattle.ml_base.specs.Structure.{Structure}
use Rattle.ml_ctl.specs.Paths.{places}
use Rattle.ml_word_graph.specs.Problem.{IsAdmitted, IsWordFrom}
use Rattle.ml_word_graph.proofs.Words.{next_low, next_state, path_step}

inner_place : (l : Lasso) (i : ℕ) → suc i < places l → next_place l i ≡ suc i
inner_place l i low = ap (λ b. cond b (suc i) l.start) (lt-ltb (suc i) (places l) low)

last_place : (l : Lasso) (i : ℕ) → places l ≤ suc i → next_place l i ≡ l.start
last_place l i past = ap (λ b. cond b (suc i) l.start) (le-ltb (suc i) (places l) past)

module _ (m : Structure) (ok : IsAdmitted m) (s : ℕ) (low : s < m.states) where
  passed : ℕ → ℕ
  passed i = walk (next_state m ok) s i

  passed_low : (i : ℕ) → passed i < m.states
  unfolding passed
  passed_low i = walk_keeps (next_state m ok) (λ t. t < m.states) (next_low m ok) s low i

  passed_next : (i : ℕ) → next_state m ok (passed i) ≡ passed (suc i)
  unfolding passed
  passed_next i = refl

  passed_first : passed 0 ≡ s
  unfolding passed
  passed_first = refl

  module _ (l : Lasso) (w : IsWordFrom m s l) where
    starts : l.start < places l
    starts = w.is_path.is_path.starts

    goes : (i : ℕ) → i < places l → entry l i ≡ passed i → entry l (next_place l i) ≡ passed (suc i)
    goes i within is =
        path_step m ok l w.is_path.is_path i (starts, within) (subst (λ t. t < m.states) (sym is) (passed_low i))
        ∙ ap (next_state m ok) is
        ∙ passed_next i

    entry_is : (i : ℕ) → i < places l → entry l i ≡ passed i
    entry_is zero within = w.is_path.starts_at ∙ sym passed_first
    entry_is (suc i) within =
        let before : i < places l = omega (arith, within) in
        ap (entry l) (sym (inner_place l i within)) ∙ goes i before (entry_is i before)

    -- behind the last place it comes to its start again
    closes : passed (places l) ≡ passed l.start
    closes = at (places l) refl
      where
        at : (n : ℕ) → places l ≡ n → passed n ≡ passed l.start
        at zero none = absurd (omega (arith, starts, none))
        at (suc i) is =
            let within : i < places l = omega (arith, is) in
            sym (goes i within (entry_is i within))
            ∙ ap (entry l) (last_place l i (omega (arith, is)))
            ∙ entry_is l.start starts

    differ : (i j : ℕ) → i < places l → j < places l → passed i ≡ passed j → i ≡ j
    differ i j one other same = w.differ i j one other (entry_is i one ∙ same ∙ sym (entry_is j other))

  no_longer : (l k : Lasso) → IsWordFrom m s l → IsWordFrom m s k → ¬ (places l < places k)
  no_longer l k v w less =
      let again : places l ≡ l.start =
      differ k w (places l) l.start less (omega (arith, less, starts l v)) (closes l v) in
      omega (arith, again, starts l v)

  pub one_word : (l k : Lasso) → IsWordFrom m s l → IsWordFrom m s k → l ≡ k
  one_word l k v w =
      let long : places l ≡ places k = same (cases_lt (places l) (places k)) (cases_lt (places k) (places l)) in
      let entries = same_number_lists l.entries k.entries long
      (λ i within. entry_is l v i within ∙ sym (entry_is k w i (omega (arith, within, long)))) in
      let loops = differ l v l.start k.start (starts l v) (omega (arith, starts k w, long))
      (sym (closes l v) ∙ ap passed long ∙ closes k w) in
      λ i. record { entries = entries i; start = loops i }
    where
      same : (places l < places k) ⊎ (places k ≤ places l) → (places k < places l) ⊎ (places l ≤ places k)
          → places l ≡ places k
      same (inl less) b = absurd (no_longer l k v w less)
      same (inr most) (inl less) = absurd (no_longer k l w v less)
      same (inr most) (inr least) = omega (arith, most, least)
