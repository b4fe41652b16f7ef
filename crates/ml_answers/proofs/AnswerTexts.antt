-- Texts of answers, one behind the other.
--
--   blocks_of     == the text that they make is that of the answers' blocks
--   as_many       == they have as many first lines as there are answers
--   texts_more    == they are the texts of the answers with one more behind them
--   one_text_more == the text that they make with it
--   lines_more    == and the numbers of their first lines
use Rattle.std.proofs.Common.{◌≡◌, ℕ, suc, ◌+◌, List, [], ◌∷◌, ◌++◌, length, refl, sym, ap, ◌∙◌, arith}
use Rattle.std.proofs.lemmas.List.{append-nil, append_assoc}
use Rattle.ml_spec.specs.declared.specification.Item.{Item}
use Rattle.ml_replies.specs.Replies.{Replied}
use Rattle.ml_answers.specs.Checked.{lines_from, AreTexts}
use Rattle.ml_answers.specs.Documents.{AreBlocks, IsBlock}
use Rattle.ml_answers.specs.Texts.{line_count, one_text}
use Rattle.ml_answers.proofs.Reading.{count_append}

pub blocks_of : (xs : List Item) (rs : List Replied) (ts : List (List ℕ)) → AreTexts xs rs ts → AreBlocks xs rs (one_text ts)
blocks_of xs [] [] are = refl
blocks_of xs [] (t ∷ ts) are = absurd are
blocks_of xs (r ∷ rs) [] are = absurd are
blocks_of xs (r ∷ rs) (t ∷ ts) are = record {
  first = t;
  second = one_text ts;
  are_both = refl;
  is_first = are.0;
  is_second = blocks_of xs rs ts are.1;
}

pub as_many : (xs : List Item) (rs : List Replied) (ts : List (List ℕ)) (k : ℕ)
    → AreTexts xs rs ts
    → length (lines_from k ts) ≡ length rs
as_many xs [] [] k are = refl
as_many xs [] (t ∷ ts) k are = absurd are
as_many xs (r ∷ rs) [] k are = absurd are
as_many xs (r ∷ rs) (t ∷ ts) k are = ap suc (as_many xs rs ts (k + line_count t) are.1)

pub texts_more : (xs : List Item) (rs : List Replied) (ts : List (List ℕ)) (r : Replied) (t : List ℕ)
    → AreTexts xs rs ts
    → IsBlock xs r t
    → AreTexts xs (rs ++ r ∷ []) (ts ++ t ∷ [])
texts_more xs [] [] r t are is = (is, tt)
texts_more xs [] (u ∷ ts) r t are is = absurd are
texts_more xs (s ∷ rs) [] r t are is = absurd are
texts_more xs (s ∷ rs) (u ∷ ts) r t are is = (are.0, texts_more xs rs ts r t are.1 is)

pub one_text_more : (ts : List (List ℕ)) (t : List ℕ) → one_text (ts ++ t ∷ []) ≡ one_text ts ++ t
one_text_more [] t = append-nil t
one_text_more (u ∷ ts) t = ap (λ v. u ++ v) (one_text_more ts t) ∙ sym (append_assoc u (one_text ts) t)

pub lines_more : (k : ℕ) (ts : List (List ℕ)) (t : List ℕ)
    → lines_from k (ts ++ t ∷ []) ≡ lines_from k ts ++ (k + line_count (one_text ts)) ∷ []
lines_more k [] t = let same : k ≡ k + 0 = omega arith in ap (λ n. n ∷ []) same
lines_more k (u ∷ ts) t =
    let same : k + line_count u + line_count (one_text ts) ≡ k + line_count (u ++ one_text ts) =
    omega (arith, count_append u (one_text ts)) in
    ap (λ ks. k ∷ ks) (lines_more (k + line_count u) ts t ∙ ap (λ n. lines_from (k + line_count u) ts ++ n ∷ []) same)
