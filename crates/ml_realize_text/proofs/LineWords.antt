-- The words of the lines of a body.
--
--   words_more         == words behind words, each with bytes
--   set_are_words      == the words of a set of words have bytes
--   number_is_word     == so has that of a number
--   step_are_words, reply_are_words, play_are_words == so have those of the lines of a state
--   last_two           == two words at an end stand apart from those before them in one way
--   one_step, one_reply == a line has one reading at its place
use Rattle.std.proofs.Common.{◌≡◌, ℕ, ◌<◌, ◌^◌, ◌/◌, ◌%◌, ◌==◌, Bool, true, false, List, [], ◌∷◌, ◌++◌, length, drop, get_or, codes, refl, sym, ap, ◌∙◌, length-append, arith, if◌then◌else◌}
use Rattle.std.specs.List.{list_all}
use Rattle.std.proofs.lemmas.Bool.{and_from, and_parts}
use Rattle.std.proofs.lemmas.List.{append_cancel_left}
use Rattle.std.proofs.lemmas.List.Folds.{list_all-append}
use Rattle.ml_lines.specs.Lines.{Line, Word, number}
use Rattle.ml_lines.specs.Reading.{AreWords, is_word}
use Rattle.ml_lines.proofs.WordBytes.{number-is_word}
use Rattle.ml_synthesis.specs.declared.machines.MachineStep.{MachineStep}
use Rattle.ml_task.specs.NameSets.{members}
use Rattle.ml_realize_text.specs.RealizeRules.{IsReplyLine, IsStepLine}
use Rattle.ml_realize_text.specs.RealizeText.{answer_line, or_dash, play_line, set_words, step_line}

pub words_more : (ws vs : List Word) → AreWords ws → AreWords vs → AreWords (ws ++ vs)
words_more ws vs first second =
    list_all-append is_word ws vs ∙ and_from (list_all is_word ws) (list_all is_word vs) first second

members_are_words : (ns : List Word) (s : ℕ) → AreWords ns → AreWords (members ns s)
members_are_words [] s all = refl
members_are_words (n ∷ ns) s all =
    let parts = and_parts (is_word n) (list_all is_word ns) all in
    go (s % 2 == 1) (members_are_words ns (s / 2) parts.1) parts.0
  where
    go : (b : Bool)
        → AreWords (members ns (s / 2))
        → is_word n ≡ true
        → AreWords (if b then n ∷ members ns (s / 2) else members ns (s / 2))
    go true rest first = and_from (is_word n) (list_all is_word (members ns (s / 2))) first rest
    go false rest first = rest

dash_are_words : (ws : List Word) → AreWords ws → AreWords (or_dash ws)
dash_are_words [] all = refl
dash_are_words (w ∷ ws) all = all

pub set_are_words : (ns : List Word) (s : ℕ) → AreWords ns → AreWords (set_words ns s)
set_are_words ns s all = dash_are_words (members ns s) (members_are_words ns s all)

pub number_is_word : (n : ℕ) → n < 2 ^ 32 → is_word (number n) ≡ true
number_is_word n fits = number-is_word n (omega (arith, fits))

goto_are_words : (n : ℕ) → n < 2 ^ 32 → AreWords (codes "goto" ∷ number n ∷ [])
goto_are_words n fits = and_from (is_word (number n)) true (number_is_word n fits) refl

module _ (ins outs : List Word) (s : ℕ) where
  pub step_are_words : (x : MachineStep) → AreWords ins → AreWords outs → x.next < 2 ^ 32 → AreWords (step_line ins outs (s, x))
  step_are_words x all_ins all_outs fits =
      words_more (set_words ins s) (codes "give" ∷ (set_words outs x.give ++ (codes "goto" ∷ number x.next ∷ [])))
      (set_are_words ins s all_ins)
      (words_more (set_words outs x.give) (codes "goto" ∷ number x.next ∷ []) (set_are_words outs x.give all_outs)
      (goto_are_words x.next fits))

  pub reply_are_words : (x : ℕ) → AreWords outs → x < 2 ^ 32 → AreWords (answer_line outs (s, x))
  reply_are_words x all fits =
      words_more (set_words outs s) (codes "goto" ∷ number x ∷ []) (set_are_words outs s all) (goto_are_words x fits)

  pub play_are_words : AreWords ins → AreWords (play_line ins s)
  play_are_words all = set_are_words ins s all

-- ---- one reading

abbrev first_of : Line → Word
first_of l = get_or l 0 []

pub last_two : (g h : List Word) (a b v w : Word)
    → g ++ (a ∷ v ∷ []) ≡ h ++ (b ∷ w ∷ [])
    → (g ≡ h) × (a ≡ b) × (v ≡ w)
last_two [] [] a b v w same = (refl, ap first_of same, ap (λ l. get_or l 1 []) same)
last_two [] (y ∷ ys) a b v w same =
    absurd (omega (arith, ap length same, length-append ys (b ∷ w ∷ [])))
last_two (x ∷ xs) [] a b v w same =
    absurd (omega (arith, ap length same, length-append xs (a ∷ v ∷ [])))
last_two (x ∷ xs) (y ∷ ys) a b v w same =
    let rest = last_two xs ys a b v w (ap (drop 1) same) in
    let first : x ≡ y = ap first_of same in
    (λ i. first i ∷ rest.0 i, rest.1, rest.2)

module _ (names : List Word) (s : ℕ) (line : Line) where
  pub one_step : (g h : List Word) (v w : Word)
      → IsStepLine names s line g v
      → IsStepLine names s line h w
      → (g ≡ h) × (v ≡ w)
  one_step g h v w a b =
      let same = ap (drop 1) (sym a.line_is ∙ b.line_is) in
      let behind =
      append_cancel_left (set_words names s) (codes "give" ∷ (g ++ (codes "goto" ∷ v ∷ [])))
      (codes "give" ∷ (h ++ (codes "goto" ∷ w ∷ []))) same in
      let parts = last_two g h (codes "goto") (codes "goto") v w (ap (drop 1) behind) in
      (parts.0, parts.2)

  pub one_reply : (v w : Word) → IsReplyLine names s line v → IsReplyLine names s line w → v ≡ w
  one_reply v w a b =
      let same = ap (drop 1) (sym a.line_is ∙ b.line_is) in
      let behind = append_cancel_left (set_words names s) (codes "goto" ∷ v ∷ []) (codes "goto" ∷ w ∷ []) same in
      ap (λ l. get_or l 1 []) behind
