-- The parts of the lines of a body, as they are read one after the other.
--
--   broken_more               == the first rule that a line breaks, with further rules behind
--   play_read                 == the words behind `play`
--   no_first_member           == where the first member of a set isn't the first word, the words don't begin with the members
--   on_read                   == what stands behind `on`, a set and a word
--   goto_read, goto_other     == the two words at the end
--   step_read, step_none      == the line of a step
--   reply_read                == the line of a next state
--   not_below                 == a number that isn't below another one
use Rattle.std.proofs.Common.{◌≡◌, ◌≢◌, ℕ, ◌<◌, ◌≤◌, ◌^◌, ◌/◌, ◌%◌, List, [], ◌∷◌, ◌++◌, length, drop, Option, None, Some, MatchOption, codes, inl, inr, sym, ap, ◌∙◌, append_assoc, length-append, arith}
use Rattle.std.proofs.lemmas.List.{append_cancel_left}
use Rattle.ml_lines.specs.Lines.{Line, Word, number}
use Rattle.ml_lines.specs.Reading.{AreWords, IsTextBehind, value}
use Rattle.ml_lists.specs.Documents.{IsFirstBroken, Rule}
use Rattle.ml_task.specs.NameSets.{members}
use Rattle.ml_realize_text.specs.RealizeRules.{IsReplyLine, IsStepLine}
use Rattle.ml_realize_text.specs.RealizeText.{set_words}
use Rattle.ml_realize_text.specs.private.Reads.{IsPlayed, on_words}
use Rattle.ml_realize_text.proofs.BodyLines.{value_back}
use Rattle.ml_realize_text.proofs.LineWords.{last_two}
use Rattle.ml_realize_text.proofs.SetWords.{with_name}

pub broken_more : (line : Line) (rules others : List (Rule Line)) (r : ℕ)
    → IsFirstBroken rules line r
    → IsFirstBroken (rules ++ others) line r
broken_more line [] others r broken = absurd broken
broken_more line (first ∷ rules) others r (inl here) = inl here
broken_more line (first ∷ rules) others r (inr later) = inr (later.0, broken_more line rules others r later.1)

some_behind : (fixed : Word) (line ws : Line) → 0 < length ws → line ≡ fixed ∷ ws → IsTextBehind fixed line
some_behind fixed line [] some is = absurd (omega (arith, some))
some_behind fixed line (w ∷ ws) some is = (w, ws, is)

module _ {A : Type 0} (rest : A → Line) (some : (x : A) → 0 < length (rest x)) (line : Line) where
  pub play_read : (r : Option A)
      → AreWords line
      → MatchOption r (¬ (IsTextBehind (codes "play") line)) (λ x. line ≡ codes "play" ∷ rest x)
      → MatchOption r (¬ (IsPlayed line)) (λ x. IsPlayed line × (line ≡ codes "play" ∷ rest x))
  play_read None are none = λ played. none played.1
  play_read (Some x) are is = ((are, some_behind (codes "play") line (rest x) (some x) is), is)

pub no_first_member : (words : Line) (n : Word) (ns : List Word) (s : ℕ)
    → s % 2 ≡ 1
    → ¬ (IsTextBehind n words)
    → (w : Word)
    → (ws : Line)
    → words ≢ members (n ∷ ns) s ++ w ∷ ws
no_first_member words n ns s odd none w ws is =
    none (some_behind n words (members ns (s / 2) ++ w ∷ ws) (omega (arith, length-append (members ns (s / 2)) (w ∷ ws)))
    (is ∙ ap (λ set. set ++ w ∷ ws) (with_name n ns s odd)))

module _ {A : Type 0} (rest : A → Line) (names : List Word) (s : ℕ) (fixed : Word) (line behind last : Line) where
  pub on_read : (r : Option A)
      → line ≡ codes "on" ∷ behind
      → behind ≡ set_words names s ++ last
      → MatchOption r (¬ (IsTextBehind fixed last)) (λ x. last ≡ fixed ∷ rest x)
      → MatchOption r ((w : Word) (ws : Line) → line ≢ on_words names s fixed (w ∷ ws)) (λ x. line ≡ on_words names s fixed (rest x))
  on_read None first second none = λ w ws is.
      none (w, ws, append_cancel_left (set_words names s) last (fixed ∷ w ∷ ws) (sym second ∙ ap (drop 1) (sym first ∙ is)))
  on_read (Some x) first second is =
      first ∙ ap (λ ls. codes "on" ∷ ls) (second ∙ ap (λ ls. set_words names s ++ ls) is)

module _ (text front given : Line) (goto last : Word) (first : text ≡ front ++ last ∷ []) (second : front ≡ given ++ goto ∷ []) where
  ends : text ≡ given ++ (goto ∷ last ∷ [])
  ends = first ∙ ap (λ ls. ls ++ last ∷ []) second ∙ append_assoc given (goto ∷ []) (last ∷ [])

  pub goto_read : goto ≡ codes "goto" → text ≡ given ++ (codes "goto" ∷ last ∷ [])
  goto_read is = ends ∙ ap (λ v. given ++ (v ∷ last ∷ [])) is

  pub goto_other : goto ≢ codes "goto"
      → (g : List Word)
      → (w : Word)
      → 0 < length g
      → text ≡ g ++ (codes "goto" ∷ w ∷ [])
      → ⊥
  goto_other other g w some is = other (last_two given g goto (codes "goto") last w (sym ends ∙ is)).1

-- what stands behind the set of a line
behind_on_set : (names : List Word) (s : ℕ) (w v : Word) (a b : Line)
    → on_words names s w a ≡ on_words names s v b
    → a ≡ b
behind_on_set names s w v a b same = ap (drop 1) (append_cancel_left (set_words names s) (w ∷ a) (v ∷ b) (ap (drop 1) same))

module _ (names : List Word) (s : ℕ) (line tail : Line) where
  pub step_read : {A : Type 0} (given : A → Line) (next : A → Word)
      → ((x : A) → 0 < length (given x))
      → (r : Option A)
      → AreWords line
      → line ≡ on_words names s (codes "give") tail
      → MatchOption r ((ws : List Word) (w : Word) → 0 < length ws → tail ≢ ws ++ (codes "goto" ∷ w ∷ []))
      (λ x. tail ≡ given x ++ (codes "goto" ∷ next x ∷ []))
      → MatchOption r ((ws : List Word) (w : Word) → ¬ (IsStepLine names s line ws w)) (λ x. IsStepLine names s line (given x) (next x))
  step_read given next some None are begins none = λ ws w step.
      none ws w step.some
      (behind_on_set names s (codes "give") (codes "give") tail (ws ++ (codes "goto" ∷ w ∷ [])) (sym begins ∙ step.line_is))
  step_read given next some (Some x) are begins is = record {
    are_words = are;
    line_is = begins ∙ ap (on_words names s (codes "give")) is;
    some = some x;
  }

  pub reply_read : {A : Type 0} (next : A → Word) (r : Option A)
      → AreWords line
      → line ≡ on_words names s (codes "goto") tail
      → MatchOption r (length tail ≢ 1) (λ x. tail ≡ next x ∷ [])
      → MatchOption r ((w : Word) → ¬ (IsReplyLine names s line w)) (λ x. IsReplyLine names s line (next x))
  reply_read next None are begins none = λ w reply.
      none (ap length (behind_on_set names s (codes "goto") (codes "goto") tail (w ∷ []) (sym begins ∙ reply.line_is)))
  reply_read next (Some x) are begins is =
      record { are_words = are; line_is = begins ∙ ap (on_words names s (codes "goto")) is }

pub step_none : (names : List Word) (s : ℕ) (line : Line)
    → ((w : Word) (ws : Line) → line ≢ on_words names s (codes "give") (w ∷ ws))
    → (given : List Word)
    → (w : Word)
    → ¬ (IsStepLine names s line given w)
step_none names s line none given w step = go given step.some step.line_is
  where
    go : (given : List Word)
        → 0 < length given
        → line ≡ on_words names s (codes "give") (given ++ (codes "goto" ∷ w ∷ []))
        → ⊥
    go [] some is = omega (arith, some)
    go (v ∷ vs) some is = none v (vs ++ (codes "goto" ∷ w ∷ [])) is

pub not_below : (w : Word) (k n : ℕ) → k < 2 ^ 32 → w ≡ number k → n ≤ k → ¬ (value w < n)
not_below w k n fits is most less = omega (arith, less, most, ap value is ∙ value_back k fits)
