-- Items that are marked one by one.
--
--   IsScannedTo xs flags n ms a b c d == where the first n items are marked by ms, what is found of all in the words a and b is
--                       these marks, and what is found of the others in c and d
--   scanned_begin, scanned_more, scanned_end == it stays so
use Rattle.std.proofs.Common.{◌≡◌, ℕ, ◌+◌, ◌<◌, ◌≤◌, ◌&&◌, Bool, List, [], ◌∷◌, ◌++◌, length, drop, refl, sym, ap, ◌∙◌}
use Rattle.std.proofs.lemmas.List.{append-nil, append_assoc, drop_all}
use Rattle.ml_lines.specs.Lines.{Word}
use Rattle.ml_spec.specs.Kinds.{is_requirement}
use Rattle.ml_spec.specs.Questions.{is_in}
use Rattle.ml_spec.specs.declared.specification.Item.{Item}
use Rattle.ml_answers.specs.private.Marks.{is_needed, is_unsettled, left_by, mark_at, may_mark, scan, with_mark, Scanned}
use Rattle.ml_answers.specs.private.Words.{Agrees}
use Rattle.ml_answers.specs.declared.names.Mark.{Mark}

abbrev with_marks : List Mark → Scanned → Scanned
with_marks ms s = record { marks = ms ++ s.marks; needed = s.needed; unsettled = s.unsettled }

abbrev pub IsScannedTo : List Item → List Bool → ℕ → List Mark → (a b c d : List Word) → Type 0
IsScannedTo xs flags n ms a b c d =
    (S : ℕ → Bool) → Agrees xs S flags → scan S 0 xs a b ≡ with_marks ms (scan S n (drop n xs) c d)

pub scanned_begin : (xs : List Item) (flags : List Bool) (a b : List Word) → IsScannedTo xs flags 0 [] a b a b
scanned_begin xs flags a b = λ S agrees. refl

module _ (xs : List Item) (flags : List Bool) (n : ℕ) (ms : List Mark) (a b c d : List Word) (is : IsScannedTo xs flags n ms a b c d) where
  pub scanned_more : (x : Item) (may : Bool) (m : Mark) (e f : List Word)
      → n < length xs
      → drop n xs ≡ x ∷ drop (n + 1) xs
      → may ≡ (is_requirement x.kind && is_in flags n)
      → m ≡ mark_at may x.name c d
      → e ≡ left_by (is_needed m) c
      → f ≡ left_by (is_unsettled m) d
      → IsScannedTo xs flags (n + 1) (ms ++ m ∷ []) a b e f
  scanned_more x may m e f low is_next is_may is_m is_e is_f = λ S agrees.
      let same : may_mark S n x ≡ may =
      ap (λ t. is_requirement x.kind && t) (agrees n low) ∙ sym is_may in
      let mark : mark_at (may_mark S n x) x.name c d ≡ m = ap (λ t. mark_at t x.name c d) same ∙ sym is_m in
      let ys = drop (n + 1) xs in
      is S agrees
      ∙ ap (λ zs. with_marks ms (scan S n zs c d)) is_next
      ∙ ap (λ k. with_marks ms (with_mark k (scan S (n + 1) ys (left_by (is_needed k) c) (left_by (is_unsettled k) d)))) mark
      ∙ ap (λ v. with_marks ms (with_mark m (scan S (n + 1) ys v (left_by (is_unsettled m) d)))) (sym is_e)
      ∙ ap (λ v. with_marks ms (with_mark m (scan S (n + 1) ys e v))) (sym is_f)
      ∙ ap (λ ks. record {
        marks = ks;
        needed = (scan S (n + 1) ys e f).needed;
        unsettled = (scan S (n + 1) ys e f).unsettled;
      }) (sym (append_assoc ms (m ∷ []) (scan S (n + 1) ys e f).marks))

  pub scanned_end : length xs ≤ n
      → (S : ℕ → Bool)
      → Agrees xs S flags
      → scan S 0 xs a b ≡ record { marks = ms; needed = c; unsettled = d }
  scanned_end past = λ S agrees.
      is S agrees
      ∙ ap (λ zs. with_marks ms (scan S n zs c d)) (drop_all n xs past)
      ∙ ap (λ ks. record { marks = ks; needed = c; unsettled = d }) (append-nil ms)
