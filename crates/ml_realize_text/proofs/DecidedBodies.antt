-- Whether a line keeps the rules of its place is decided.
--
--   decided_set      == that words are a set of names
--   decided_step, decided_reply == that a line is that of a step, or of a next state
--   judges           == each line is judged at each place
use Rattle.std.proofs.Common.{◌≡◌, ◌≢◌, ℕ, ◌+◌, ◌*◌, ◌<◌, ◌^◌, ◌⊎◌, List, [], ◌∷◌, ◌++◌, length, drop, get_or, codes, inl, inr, refl, sym, ap, subst, ◌∙◌, append_assoc, length-append, arith}
use Rattle.std.proofs.lemmas.List.{append_cancel_left}
use Rattle.ml_lines.specs.Lines.{Line, Word}
use Rattle.ml_lines.specs.Reading.{AreWords, IsTextBehind, value, word}
use Rattle.ml_lines.proofs.DecidedWords.{decided_behind, decided_front, decided_line, decided_number, decided_words}
use Rattle.ml_lists.specs.Readings.{Judges}
use Rattle.ml_lists.proofs.Decided as is
use Rattle.ml_lists.proofs.Decided.{Decided}
use Rattle.ml_lists.proofs.Deciding.{decided_not}
use Rattle.ml_lists.proofs.Documents.{judged}
use Rattle.ml_task.specs.TaskText as task
use Rattle.ml_task.proofs.JudgedLines as tasks
use Rattle.ml_task.specs.NameSets.{members}
use Rattle.ml_realize_text.specs.RealizeRules.{AtAnswer, AtEnd, AtFormula, AtInputs, AtNothing, AtOutputs, AtPlay, AtReply, AtState, AtStates}
use Rattle.ml_realize_text.specs.RealizeRules.{AtStep, AtTitle, IsReplyLine, IsSet, IsStepLine, realize, rules}
use Rattle.ml_realize_text.specs.RealizeText.{end_line, or_dash, set_words, title_line, told_line}
use Rattle.ml_realize_text.specs.declared.realizability.Realizability.{Realizability}
use Rattle.ml_realize_text.specs.declared.realizability.Realizability.TheVariants.{Realizable, Undecided, Unrealizable}
use Rattle.ml_realize_text.proofs.BodyLines.{reply_numbers, step_numbers, step_sets}
use Rattle.ml_realize_text.proofs.LineWords.{last_two, one_reply, one_step}
use Rattle.ml_realize_text.proofs.SetReads.{below_even, below_odd, first_found, first_missing, later_found, later_missing, members_are}
use Rattle.ml_realize_text.proofs.SetWords.{members_alone, no_words, none_members, some_sets}

-- ---- sets

abbrev AreMembers : List Word → Line → Type 0
AreMembers ns ws = (s : ℕ) × (s < 2 ^ length ns) × (ws ≡ members ns s)

members_or_none : (ns : List Word) (ws : Line) → AreMembers ns ws ⊎ ((s : ℕ) → ws ≢ members ns s)
members_or_none ns [] = inl (0, some_sets ns, sym (none_members ns))
members_or_none [] (w ∷ ws) = inr (λ s same. cc)
members_or_none (n ∷ ns) (w ∷ ws) = go (is.decided_bytes w n) (members_or_none ns ws) (members_or_none ns (w ∷ ws))
  where
    go : Decided (w ≡ n)
        → AreMembers ns ws ⊎ ((s : ℕ) → ws ≢ members ns s)
        → AreMembers ns (w ∷ ws) ⊎ ((s : ℕ) → w ∷ ws ≢ members ns s)
        → AreMembers (n ∷ ns) (w ∷ ws) ⊎ ((s : ℕ) → w ∷ ws ≢ members (n ∷ ns) s)
    go (inl same) (inl (s, below, found)) all =
        inl (2 * s + 1, below_odd n ns s below, first_found (w ∷ ws) n ns w ws refl s same found)
    go (inl same) (inr none) all = inr (first_missing (w ∷ ws) n ns w ws refl same none)
    go (inr other) others (inl (s, below, found)) =
        inl (2 * s, below_even n ns s below, later_found (w ∷ ws) n ns w ws refl s found)
    go (inr other) others (inr none) = inr (later_missing (w ∷ ws) n ns w ws refl other none)

pub decided_set : (ns : List Word) (ws : Line) → Decided (IsSet ns ws)
decided_set ns [] = inr (λ (s, below, same). some_dash (members ns s) same)
  where
    some_dash : (vs : List Word) → [] ≡ or_dash vs → ⊥
    some_dash [] same = cc
    some_dash (v ∷ vs) same = cc
decided_set ns (w ∷ ws) = go (decided_line (w ∷ ws) (codes "-" ∷ [])) (members_or_none ns (w ∷ ws))
  where
    go : Decided (w ∷ ws ≡ codes "-" ∷ [])
        → AreMembers ns (w ∷ ws) ⊎ ((s : ℕ) → w ∷ ws ≢ members ns s)
        → Decided (IsSet ns (w ∷ ws))
    go (inl dash) all = inl (0, some_sets ns, dash ∙ sym (no_words ns))
    go (inr other) (inl (s, below, found)) =
        inl (s, below, found ∙ sym (members_alone (members ns s) (omega (arith, ap length found))))
    go (inr other) (inr none) = inr (λ (s, below, same). none s (members_are ns (w ∷ ws) (members ns s) same other))

-- ---- lines with `goto`

abbrev Ends : Line → Type 0
Ends rest = (given : List Word) × (w : Word) × (rest ≡ given ++ (codes "goto" ∷ w ∷ []))

short : (rest : Line) → length rest < 2 → ¬ (Ends rest)
short rest few (given, w, same) = omega (arith, few, ap length same, length-append given (codes "goto" ∷ w ∷ []))

ends : (rest : Line) → Decided (Ends rest)
ends [] = inr (short [] (omega arith))
ends (x ∷ []) = inr (short (x ∷ []) (omega arith))
ends (x ∷ y ∷ []) =
    is.decided_same (λ (same : x ≡ codes "goto"). ([], y, ap (λ v. v ∷ y ∷ []) same))
    (λ (given, w, same). (last_two [] given x (codes "goto") y w same).1)
    (is.decided_bytes x (codes "goto"))
ends (x ∷ y ∷ z ∷ more) = go (ends (y ∷ z ∷ more))
  where
    longer : (given : List Word) (w : Word)
        → x ∷ y ∷ z ∷ more ≡ given ++ (codes "goto" ∷ w ∷ [])
        → Ends (y ∷ z ∷ more)
    longer [] w same = absurd (omega (arith, ap length same))
    longer (u ∷ us) w same = (us, w, ap (drop 1) same)

    go : Decided (Ends (y ∷ z ∷ more)) → Decided (Ends (x ∷ y ∷ z ∷ more))
    go (inl (given, w, same)) = inl (x ∷ given, w, ap (λ ls. x ∷ ls) same)
    go (inr none) = inr (λ (given, w, same). none (longer given w same))

abbrev Gives : Line → Type 0
Gives rest = (given : List Word) × (w : Word) × (0 < length given) × (rest ≡ given ++ (codes "goto" ∷ w ∷ []))

gives : (rest : Line) → Decided (Gives rest)
gives [] = inr (λ (given, w, some, same). short [] (omega arith) (given, w, same))
gives (x ∷ rest) = go (ends rest)
  where
    longer : (given : List Word) (w : Word)
        → 0 < length given
        → x ∷ rest ≡ given ++ (codes "goto" ∷ w ∷ [])
        → Ends rest
    longer [] w some same = absurd (omega (arith, some))
    longer (u ∷ us) w some same = (us, w, ap (drop 1) same)

    go : Decided (Ends rest) → Decided (Gives (x ∷ rest))
    go (inl (given, w, same)) = inl (x ∷ given, w, omega arith, ap (λ ls. x ∷ ls) same)
    go (inr none) = inr (λ (given, w, some, same). none (longer given w some same))

-- `on`, the words of a set, a word, and the rest
abbrev on_front : List Word → ℕ → Word → Line
on_front names s w = codes "on" ∷ (set_words names s ++ w ∷ [])

regroup : (names : List Word) (s : ℕ) (w : Word) (rest : Line)
    → on_front names s w ++ rest ≡ codes "on" ∷ (set_words names s ++ (w ∷ rest))
regroup names s w rest = ap (λ ws. codes "on" ∷ ws) (append_assoc (set_words names s) (w ∷ []) rest)

module _ (names : List Word) (s : ℕ) (line : Line) where
  same_rest : (w : Word) (a b : Line) → on_front names s w ++ a ≡ on_front names s w ++ b → a ≡ b
  same_rest w a b same = append_cancel_left (on_front names s w) a b same

  pub decided_step : Decided ((given : List Word) × (w : Word) × IsStepLine names s line given w)
  decided_step = go (decided_words line) (decided_front (on_front names s (codes "give")) line)
    where
      back : (rest : Line)
          → line ≡ on_front names s (codes "give") ++ rest
          → (given : List Word)
          → (w : Word)
          → IsStepLine names s line given w
          → Gives rest
      back rest begins given w step = (
        given,
        w,
        step.some,
        same_rest (codes "give") rest (given ++ (codes "goto" ∷ w ∷ []))
            (sym begins ∙ step.line_is ∙ sym (regroup names s (codes "give") (given ++ (codes "goto" ∷ w ∷ [])))),
      )

      behind : AreWords line
          → (rest : Line)
          → line ≡ on_front names s (codes "give") ++ rest
          → Decided (Gives rest)
          → Decided ((given : List Word) × (w : Word) × IsStepLine names s line given w)
      behind are rest begins (inl (given, w, some, same)) =
          inl (
            given,
            w,
            record {
              are_words = are;
              line_is =
                  begins ∙ ap (λ ls. on_front names s (codes "give") ++ ls) same
                  ∙ regroup names s (codes "give") (given ++ (codes "goto" ∷ w ∷ []));
              some = some;
            },
          )
      behind are rest begins (inr none) = inr (λ (given, w, step). none (back rest begins given w step))

      go : Decided (AreWords line)
          → Decided ((rest : Line) × (line ≡ on_front names s (codes "give") ++ rest))
          → Decided ((given : List Word) × (w : Word) × IsStepLine names s line given w)
      go (inr none) begins = inr (λ (given, w, step). none step.are_words)
      go (inl are) (inr none) =
          inr (λ (given, w, step).
          none (given ++ (codes "goto" ∷ w ∷ []), step.line_is ∙ sym (regroup names s (codes "give") (given ++ (codes "goto" ∷ w ∷ [])))))
      go (inl are) (inl (rest, begins)) = behind are rest begins (gives rest)

  pub decided_reply : Decided ((w : Word) × IsReplyLine names s line w)
  decided_reply = go (decided_words line) (decided_front (on_front names s (codes "goto")) line)
    where
      back : (rest : Line)
          → line ≡ on_front names s (codes "goto") ++ rest
          → (w : Word)
          → IsReplyLine names s line w
          → rest ≡ w ∷ []
      back rest begins w reply =
          same_rest (codes "goto") rest (w ∷ []) (sym begins ∙ reply.line_is ∙ sym (regroup names s (codes "goto") (w ∷ [])))

      behind : AreWords line
          → (rest : Line)
          → line ≡ on_front names s (codes "goto") ++ rest
          → Decided ((w : Word) × IsReplyLine names s line w)
      behind are [] begins = inr (λ (w, reply). absurd (omega (arith, ap length (back [] begins w reply))))
      behind are (x ∷ []) begins =
          inl (x, record { are_words = are; line_is = begins ∙ regroup names s (codes "goto") (x ∷ []) })
      behind are (x ∷ y ∷ more) begins =
          inr (λ (w, reply). absurd (omega (arith, ap length (back (x ∷ y ∷ more) begins w reply))))

      go : Decided (AreWords line)
          → Decided ((rest : Line) × (line ≡ on_front names s (codes "goto") ++ rest))
          → Decided ((w : Word) × IsReplyLine names s line w)
      go (inr none) begins = inr (λ (w, reply). none reply.are_words)
      go (inl are) (inr none) =
          inr (λ (w, reply). none (w ∷ [], reply.line_is ∙ sym (regroup names s (codes "goto") (w ∷ []))))
      go (inl are) (inl (rest, begins)) = behind are rest begins

-- ---- places

decided_told : (line : Line) → Decided ((a : Realizability) × (line ≡ told_line a))
decided_told line =
    go (decided_line line (told_line Realizable)) (decided_line line (told_line Unrealizable)) (decided_line line (told_line Undecided))
  where
    one : line ≢ told_line Realizable
        → line ≢ told_line Unrealizable
        → line ≢ told_line Undecided
        → (a : Realizability)
        → line ≢ told_line a
    one x y z Realizable = x
    one x y z Unrealizable = y
    one x y z Undecided = z

    go : Decided (line ≡ told_line Realizable)
        → Decided (line ≡ told_line Unrealizable)
        → Decided (line ≡ told_line Undecided)
        → Decided ((a : Realizability) × (line ≡ told_line a))
    go (inl x) y z = inl (Realizable, x)
    go (inr x) (inl y) z = inl (Unrealizable, y)
    go (inr x) (inr y) (inl z) = inl (Undecided, z)
    go (inr x) (inr y) (inr z) = inr (λ (a, same). one x y z a same)

text_behind : (fixed : Word) (line : Line) → Decided (IsTextBehind fixed line)
text_behind fixed [] = inr (λ (w, ws, same). cc)
text_behind fixed (x ∷ []) = inr (λ (w, ws, same). absurd (omega (arith, ap length same)))
text_behind fixed (x ∷ w ∷ ws) =
    is.decided_same (λ (same : x ≡ fixed). (w, ws, ap (λ v. v ∷ w ∷ ws) same))
    (λ (v, vs, same). ap (λ l. get_or l 0 []) same) (is.decided_bytes x fixed)

pub judges : (left : List ℕ) → Judges (realize left)
judges left AtTitle line = judged line (rules left AtTitle) (decided_line line title_line, λ _. tt)
judges left AtAnswer line =
    judged line (rules left AtAnswer)
    (decided_told line, λ _. (decided_not (decided_line line (told_line Undecided)), λ _. tt))
judges left (AtInputs a) line = tasks.judges task.AtInputs line
judges left (AtOutputs a inputs) line = tasks.judges (task.AtOutputs inputs) line
judges left (AtFormula g) line = tasks.judges (task.AtFormula (g.inputs ++ g.outputs)) line
judges left (AtStates g) line =
    judged line (rules left (AtStates g)) (
      decided_behind (codes "states") line,
      λ _. (decided_number (word line 1), λ _. (is.decided_less 0 (value (word line 1)), λ _. tt)),
    )
judges left (AtState g n i) line =
    judged line (rules left (AtState g n i)) (
      decided_behind (codes "state") line,
      λ _. (decided_number (word line 1), λ _. (is.decided_number (value (word line 1)) i, λ _. tt)),
    )
judges left (AtPlay g n i) line =
    judged line (rules left (AtPlay g n i)) (
      is.decided_both (decided_words line) (text_behind (codes "play") line),
      λ _. (decided_set g.inputs (drop 1 line), λ _. tt),
    )
judges left (AtStep g n i s) line =
    judged line (rules left (AtStep g n i s)) (
      decided_step g.inputs s line,
      λ (given, w, step). (
        is.decided_same (step_numbers g n i s line given w step) (λ all. all given w step) (decided_number w),
        λ _. (
          is.decided_same (step_sets g n i s line given w step) (λ all. all given w step) (decided_set g.outputs given),
          λ _. (
            is.decided_same
                (λ (below : value w < n) h v other. subst (λ u. value u < n) (one_step g.inputs s line given h w v step other).1 below)
                (λ all. all given w step) (is.decided_less (value w) n),
            λ _. tt,
          ),
        ),
      ),
    )
judges left (AtReply g n i s) line =
    judged line (rules left (AtReply g n i s)) (
      decided_reply g.outputs s line,
      λ (w, reply). (
        is.decided_same (reply_numbers g n i s line w reply) (λ all. all w reply) (decided_number w),
        λ _. (
          is.decided_same
              (λ (below : value w < n) v other. subst (λ u. value u < n) (one_reply g.outputs s line w v reply other) below)
              (λ all. all w reply) (is.decided_less (value w) n),
          λ _. tt,
        ),
      ),
    )
judges left AtEnd line = judged line (rules left AtEnd) (decided_line line end_line, λ _. tt)
judges left AtNothing line =
    judged line (rules left AtNothing)
    (is.decided_both (decided_line line []) (is.decided_bytes left []), λ _. tt)
