-- A set of names is written in one way, and its words are those of no other set.
--
--   Once ns        == no name of ns comes again behind itself
--   once_new       == names that are new one after the other come once each
--   no_member      == a word that is no name is the first member of no set
--   one_members, one_set == the members of a set, and its words, are those of no other set below 2^n
use Rattle.std.proofs.Common.{◌≡◌, ◌≢◌, ℕ, ◌<◌, ◌^◌, ◌/◌, ◌%◌, ◌⊎◌, Bool, true, false, not, List, [], ◌∷◌, ◌++◌, length, drop, get_or, codes, inl, inr, refl, sym, ap, ◌∙◌, arith}
use Rattle.std.specs.List.{list_any}
use Rattle.std.specs.Str.{bytes_eq}
use Rattle.std.proofs.lemmas.Bool.{and_parts, not-true, or_from, or_left, or_parts, or_right, true≢false}
use Rattle.std.proofs.lemmas.List.Folds.{list_any-append}
use Rattle.std.proofs.lemmas.Slice.Eq.{bytes_eq-Decides}
use Rattle.ml_lines.specs.Lines.{Word}
use Rattle.ml_task.specs.NameSets.{members}
use Rattle.ml_task.specs.Task.{are_new}
use Rattle.ml_realize_text.specs.RealizeText.{or_dash, set_words}
use Rattle.ml_realize_text.proofs.SetWords.{odd_or_even, twice, with_name, without_name}

abbrev pub is_in : Word → List Word → Bool
is_in w ns = list_any (bytes_eq w) ns

abbrev pub Once : List Word → Type 0
Once [] = Unit {0}
Once (n ∷ ns) = (is_in n ns ≡ false) × Once ns

same_in : (n : Word) → bytes_eq n n ≡ true
same_in n = (bytes_eq-Decides n n).1 refl

absent : (n : Word) (seen ns : List Word) → is_in n seen ≡ true → are_new seen ns ≡ true → is_in n ns ≡ false
absent n seen [] stood new = refl
absent n seen (w ∷ ws) stood new =
    let parts = and_parts (not (is_in w seen)) (are_new (seen ++ w ∷ []) ws) new in
    let later : is_in n (seen ++ w ∷ []) ≡ true =
    list_any-append (bytes_eq n) seen (w ∷ []) ∙ or_left (is_in n seen) (is_in n (w ∷ [])) stood in
    go (bytes_eq n w) refl parts.0 (absent n (seen ++ w ∷ []) ws later parts.1)
  where
    go : (b : Bool) → bytes_eq n w ≡ b → not (is_in w seen) ≡ true → is_in n ws ≡ false → is_in n (w ∷ ws) ≡ false
    go false other fresh rest = or_from (bytes_eq n w) (is_in n ws) other rest
    go true same fresh rest =
        let is : n ≡ w = (bytes_eq-Decides n w).0 same in
        absurd (true≢false (sym (ap (λ v. is_in v seen) (sym is) ∙ stood) ∙ not-true (is_in w seen) fresh))

pub once_new : (seen ns : List Word) → are_new seen ns ≡ true → Once ns
once_new seen [] new = tt
once_new seen (n ∷ ns) new =
    let parts = and_parts (not (is_in n seen)) (are_new (seen ++ n ∷ []) ns) new in
    let stood : is_in n (seen ++ n ∷ []) ≡ true =
    list_any-append (bytes_eq n) seen (n ∷ [])
    ∙ or_right (is_in n seen) (is_in n (n ∷ [])) (or_left (bytes_eq n n) false (same_in n)) in
    (absent n (seen ++ n ∷ []) ns stood parts.1, once_new (seen ++ n ∷ []) ns parts.1)

pub no_member : (w : Word) (ns : List Word) (t : ℕ) (ws : List Word) → is_in w ns ≡ false → w ∷ ws ≢ members ns t
no_member w [] t ws none same = cc
no_member w (n ∷ ns) t ws none same =
    let parts = or_parts (bytes_eq w n) (is_in w ns) none in
    go (odd_or_even t) parts.0 (no_member w ns (t / 2) ws parts.1)
  where
    go : (t % 2 ≡ 1) ⊎ (t % 2 ≢ 1) → bytes_eq w n ≡ false → w ∷ ws ≢ members ns (t / 2) → ⊥
    go (inl odd) other rest =
        let is : w ≡ n = ap (λ l. get_or l 0 []) (same ∙ with_name n ns t odd) in
        true≢false (sym ((bytes_eq-Decides w n).1 is) ∙ other)
    go (inr even) other rest = rest (same ∙ without_name n ns t even)

pub one_members : (ns : List Word) (s t : ℕ) → Once ns → s < 2 ^ length ns → t < 2 ^ length ns
    → members ns s ≡ members ns t
    → s ≡ t
one_members [] s t once first second same = omega (arith, first, second)
one_members (n ∷ ns) s t once first second same =
    go (odd_or_even s) (odd_or_even t)
    (one_members ns (s / 2) (t / 2) once.1 (omega (arith, first, twice n ns)) (omega (arith, second, twice n ns)))
  where
    go : (s % 2 ≡ 1) ⊎ (s % 2 ≢ 1)
        → (t % 2 ≡ 1) ⊎ (t % 2 ≢ 1)
        → (members ns (s / 2) ≡ members ns (t / 2) → s / 2 ≡ t / 2)
        → s ≡ t
    go (inl a) (inl b) rest =
        let half = rest (ap (drop 1) (sym (with_name n ns s a) ∙ same ∙ with_name n ns t b)) in omega (arith, a, b, half)
    go (inr a) (inr b) rest =
        let half = rest (sym (without_name n ns s a) ∙ same ∙ without_name n ns t b) in omega (arith, a, b, half)
    go (inl a) (inr b) rest =
        absurd (no_member n ns (t / 2) (members ns (s / 2)) once.0 (sym (with_name n ns s a) ∙ same ∙ without_name n ns t b))
    go (inr a) (inl b) rest =
        absurd (no_member n ns (s / 2) (members ns (t / 2)) once.0 (sym (with_name n ns t b) ∙ sym same ∙ without_name n ns s a))

dashes : (ns : List Word) (s t : ℕ) (vs ws : List Word)
    → is_in (codes "-") ns ≡ false
    → members ns s ≡ vs
    → members ns t ≡ ws
    → or_dash vs ≡ or_dash ws
    → vs ≡ ws
dashes ns s t [] [] none a b same = refl
dashes ns s t [] (w ∷ ws) none a b same = absurd (no_member (codes "-") ns t [] none (same ∙ sym b))
dashes ns s t (v ∷ vs) [] none a b same = absurd (no_member (codes "-") ns s [] none (sym same ∙ sym a))
dashes ns s t (v ∷ vs) (w ∷ ws) none a b same = same

pub one_set : (ns : List Word) (s t : ℕ)
    → Once ns
    → is_in (codes "-") ns ≡ false
    → s < 2 ^ length ns
    → t < 2 ^ length ns
    → set_words ns s ≡ set_words ns t
    → s ≡ t
one_set ns s t once none first second same =
    one_members ns s t once first second (dashes ns s t (members ns s) (members ns t) none refl refl same)
