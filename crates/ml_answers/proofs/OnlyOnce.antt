-- What is read of a text in one way only.
--
--   Once A P F        == a text has one front at most of which P is true, and that for one value; F tells no fault of a text
--                        with such a front, and one fault at most
--   line_next         == a line at the front of a text is its first line
--   fault_same        == a fault is its line and its rule
--   behind_as, behind_both == faults behind a front
--   once_as           == where the texts of some values are those of others, and so are the faults
--   once_line         == a line is read once
--   once_then         == so are two parts, one behind the other
--   once_behind_line  == and a part behind a line
use Rattle.std.proofs.Common.{◌≡◌, ℕ, ◌+◌, ◌⊎◌, List, [], ◌∷◌, ◌++◌, inl, inr, refl, sym, ap, subst, ◌∙◌, arith}
use Rattle.std.specs.List.{flat_map}
use Rattle.std.proofs.lemmas.List.{append_assoc, append_cancel_left}
use Rattle.ml_base.specs.declared.doc_fault.DocFault.{DocFault}
use Rattle.ml_lines.specs.Lines.{Line, next}
use Rattle.ml_lines.specs.Lines as lines
use Rattle.ml_lines.proofs.LineFronts.{line_front}
use Rattle.ml_lines.proofs.Unique.{body, no_end_in, IsPlain}
use Rattle.ml_lines.proofs.Words.{line_text-words}
use Rattle.ml_lines.proofs.WrittenLines.{line_read}
use Rattle.ml_lists.specs.Documents.{KeepsAll, Rule}
use Rattle.ml_lists.proofs.Documents.{kept_not_broken, one_broken}
use Rattle.ml_answers.specs.Rules.{IsBehind, IsLineFault}
use Rattle.ml_answers.specs.Texts.{first_of, line_count, next_line, IsLine, IsThen}
use Rattle.ml_answers.proofs.Reading.{count_append}

pub record Once (A : Type 0) (P : A → List ℕ → Type 0) (F : ℕ → List ℕ → DocFault → Type 0) : Type 0 where
  pub one : (a b : A) (f g r s : List ℕ) → P a f → P b g → f ++ r ≡ g ++ s → (a ≡ b) × (f ≡ g)
  pub never : (a : A) (f r : List ℕ) (k : ℕ) (e : DocFault) → P a f → F k (f ++ r) e → ⊥
  pub fault : (k : ℕ) (t : List ℕ) (e d : DocFault) → F k t e → F k t d → e ≡ d

-- ---- lines

pub line_next : (ws : Line) (text rest : List ℕ) → IsPlain ws → text ≡ lines.line_text ws → next_line (text ++ rest) ≡ ws
line_next [] text rest plain is = absurd plain
line_next (w ∷ ws) text rest plain is =
    let line : text ++ rest ≡ body w ws ++ 10 ∷ rest =
    ap (λ t. t ++ rest) (is ∙ line_text-words w ws ∙ sym (append_assoc w (flat_map next ws) (10 ∷ [])))
    ∙ append_assoc (body w ws) (10 ∷ []) rest in
    ap next_line line
    ∙ ap first_of (line_front (body w ws) rest (no_end_in w ws plain.1)).0
    ∙ line_read w ws plain.0

-- ---- faults

pub fault_same : (e d : DocFault) → e.line ≡ d.line → e.rule ≡ d.rule → e ≡ d
fault_same e d line rule = λ i. record { line = line i; rule = rule i }

pub behind_as : (P Q : List ℕ → Type 0) (F G : ℕ → List ℕ → DocFault → Type 0) (k : ℕ) (t : List ℕ) (e : DocFault)
    → ((u : List ℕ) → P u → Q u)
    → ((j : ℕ) (u : List ℕ) → F j u e → G j u e)
    → IsBehind P F k t e
    → IsBehind Q G k t e
behind_as P Q F G k t e turn faults b = record {
  front = b.front;
  rest = b.rest;
  are_both = b.are_both;
  is_front = turn b.front b.is_front;
  is_fault = faults (k + line_count b.front) b.rest b.is_fault;
}

pub behind_both : (P Q : List ℕ → Type 0) (F : ℕ → List ℕ → DocFault → Type 0) (k : ℕ) (t : List ℕ) (e : DocFault)
    → IsBehind P (IsBehind Q F) k t e
    → IsBehind (IsThen P Q) F k t e
behind_both P Q F k t e b =
    let c = b.is_fault in
    let line : k + line_count b.front + line_count c.front ≡ k + line_count (b.front ++ c.front) =
    omega (arith, count_append b.front c.front) in
    record {
      front = b.front ++ c.front;
      rest = c.rest;
      are_both =
          b.are_both ∙ ap (λ u. b.front ++ u) c.are_both ∙ sym (append_assoc b.front c.front c.rest);
      is_front = record {
        first = b.front;
        second = c.front;
        are_both = refl;
        is_first = b.is_front;
        is_second = c.is_front;
      };
      is_fault = subst (λ j. F j c.rest e) line c.is_fault;
    }

-- ---- other values

module _ (A B : Type 0) (P : A → List ℕ → Type 0) (Q : B → List ℕ → Type 0) (F G : ℕ → List ℕ → DocFault → Type 0)
    (from : A → B)
    (turn : (b : B) (t : List ℕ) → Q b t → (a : A) × P a t × (b ≡ from a))
    (faults : (k : ℕ) (t : List ℕ) (e : DocFault) → G k t e → F k t e) where
  pub once_as : Once A P F → Once B Q G
  once_as once = record {
    one = λ b c f g r s x y both.
        let u = turn b f x in
        let v = turn c g y in
        let same = once.one u.0 v.0 f g r s u.1 v.1 both in
        (u.2 ∙ ap from same.0 ∙ sym v.2, same.1);
    never = λ b f r k e x bad. let u = turn b f x in once.never u.0 f r k e u.1 (faults k (f ++ r) e bad);
    fault = λ k t e d x y. once.fault k t e d (faults k t e x) (faults k t d y);
  }

-- ---- a line

-- with its text as the value
abbrev pub IsLineAs : Line → List ℕ → List ℕ → Type 0
IsLineAs ws u t = (u ≡ t) × IsLine ws t

pub once_line : (ws : Line) (rules : List (Rule Line))
    → IsPlain ws
    → KeepsAll rules ws
    → Once (List ℕ) (IsLineAs ws) (IsLineFault rules)
once_line ws rules plain keeps = record {
  one = λ u v f g r s x y both.
      let same : f ≡ g = x.1 ∙ sym y.1 in
      (x.0 ∙ same ∙ sym y.0, same);
  never = λ u f r k e x bad.
      kept_not_broken (next_line (f ++ r)) rules e.rule
      (subst (KeepsAll rules) (sym (line_next ws f r plain x.1)) keeps) bad.1;
  fault = λ k t e d x y.
      fault_same e d (x.0 ∙ sym y.0) (one_broken (next_line t) rules e.rule d.rule x.1 y.1);
}

-- ---- two parts

module _ (A B : Type 0) (P : A → List ℕ → Type 0) (Fronts : List ℕ → Type 0) (Q : B → List ℕ → Type 0)
    (F G : ℕ → List ℕ → DocFault → Type 0)
    (some : (t : List ℕ) → Fronts t → (a : A) × P a t)
    (front : Once A P F)
    (back : Once B Q G) where
  abbrev pub Both : A × B → List ℕ → Type 0
  Both c t = IsThen (P c.0) (Q c.1) t

  abbrev pub EitherFault : ℕ → List ℕ → DocFault → Type 0
  EitherFault k t e = F k t e ⊎ IsBehind Fronts G k t e

  -- a text with a front, and the rest of it
  front_of : (c : A × B) (f r : List ℕ) (x : Both c f) → f ++ r ≡ x.first ++ (x.second ++ r)
  front_of c f r x = ap (λ t. t ++ r) x.are_both ∙ append_assoc x.first x.second r

  both_one : (c d : A × B) (f g r s : List ℕ) → Both c f → Both d g → f ++ r ≡ g ++ s → (c ≡ d) × (f ≡ g)
  both_one c d f g r s x y both =
      let whole : x.first ++ (x.second ++ r) ≡ y.first ++ (y.second ++ s) =
      sym (front_of c f r x) ∙ both ∙ front_of d g s y in
      let one = front.one c.0 d.0 x.first y.first (x.second ++ r) (y.second ++ s) x.is_first y.is_first whole in
      let rest : x.second ++ r ≡ y.second ++ s =
      append_cancel_left x.first (x.second ++ r) (y.second ++ s)
      (whole ∙ ap (λ u. u ++ (y.second ++ s)) (sym one.1)) in
      let other = back.one c.1 d.1 x.second y.second r s x.is_second y.is_second rest in
      let parts : x.first ++ x.second ≡ y.first ++ y.second = λ i. one.1 i ++ other.1 i in
      ((λ i. (one.0 i, other.0 i)), x.are_both ∙ parts ∙ sym y.are_both)

  -- what is behind the front of a fault is behind this front
  same_rest : (a : A) (f r : List ℕ) (k : ℕ) (e : DocFault)
      → P a f
      → (b : IsBehind Fronts G k (f ++ r) e)
      → G (k + line_count f) r e
  same_rest a f r k e x b =
      let got = some b.front b.is_front in
      let fronts = (front.one got.0 a b.front f b.rest r got.1 x (sym b.are_both)).1 in
      let rests : b.rest ≡ r =
      append_cancel_left f b.rest r (ap (λ u. u ++ b.rest) (sym fronts) ∙ sym b.are_both) in
      subst (λ u. G (k + line_count f) u e) rests
      (subst (λ u. G (k + line_count u) b.rest e) fronts b.is_fault)

  both_never : (c : A × B) (f r : List ℕ) (k : ℕ) (e : DocFault) → Both c f → EitherFault k (f ++ r) e → ⊥
  both_never c f r k e x (inl bad) =
      front.never c.0 x.first (x.second ++ r) k e x.is_first (subst (λ t. F k t e) (front_of c f r x) bad)
  both_never c f r k e x (inr bad) =
      back.never c.1 x.second r (k + line_count x.first) e x.is_second
      (same_rest c.0 x.first (x.second ++ r) k e x.is_first
      (subst (λ t. IsBehind Fronts G k t e) (front_of c f r x) bad))

  front_never : (k : ℕ) (t : List ℕ) (e d : DocFault) → F k t e → IsBehind Fronts G k t d → ⊥
  front_never k t e d x y =
      let got = some y.front y.is_front in
      front.never got.0 y.front y.rest k e got.1 (subst (λ u. F k u e) y.are_both x)

  both_fault : (k : ℕ) (t : List ℕ) (e d : DocFault) → EitherFault k t e → EitherFault k t d → e ≡ d
  both_fault k t e d (inl x) (inl y) = front.fault k t e d x y
  both_fault k t e d (inl x) (inr y) = absurd (front_never k t e d x y)
  both_fault k t e d (inr x) (inl y) = absurd (front_never k t d e y x)
  both_fault k t e d (inr x) (inr y) =
      let got = some y.front y.is_front in
      back.fault (k + line_count y.front) y.rest e d
      (same_rest got.0 y.front y.rest k e got.1 (subst (λ u. IsBehind Fronts G k u e) y.are_both x))
      y.is_fault

  pub once_then : Once (A × B) Both EitherFault
  once_then = record { one = both_one; never = both_never; fault = both_fault }

-- ---- behind a line

module _ (B : Type 0) (Q : B → List ℕ → Type 0) (G : ℕ → List ℕ → DocFault → Type 0) (ws : Line) (rules : List (Rule Line))
    (plain : IsPlain ws)
    (keeps : KeepsAll rules ws)
    (back : Once B Q G) where
  abbrev pub BehindLine : B → List ℕ → Type 0
  BehindLine b t = IsThen (IsLine ws) (Q b) t

  abbrev pub LineFault : ℕ → List ℕ → DocFault → Type 0
  LineFault k t e = IsLineFault rules k t e ⊎ IsBehind (IsLine ws) G k t e

  abbrev with_line : List ℕ × B → List ℕ → Type 0
  with_line c t = IsThen (IsLineAs ws c.0) (Q c.1) t

  line_turn : (b : B) (t : List ℕ) → BehindLine b t → (c : List ℕ × B) × with_line c t × (b ≡ c.1)
  line_turn b t x = (
    (x.first, b),
    record {
      first = x.first;
      second = x.second;
      are_both = x.are_both;
      is_first = (refl, x.is_first);
      is_second = x.is_second;
    },
    refl,
  )

  pub once_behind_line : Once B BehindLine LineFault
  once_behind_line =
      once_as (List ℕ × B) B with_line BehindLine LineFault LineFault (λ c. c.1) line_turn (λ k t e bad. bad)
      (once_then (List ℕ) B (IsLineAs ws) (IsLine ws) Q (IsLineFault rules) G (λ t is. (t, (refl, is)))
      (once_line ws rules plain keeps) back)
