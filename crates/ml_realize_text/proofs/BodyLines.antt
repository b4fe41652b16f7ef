-- Which lines of a body are good, and which rule another one breaks first.
--
-- Of each kind of line: the rule that it breaks first, that a written line is good, and that a good line is a written one.
use Rattle.std.proofs.Common.{true, ◌≡◌, ◌≢◌, ℕ, ◌<◌, ◌^◌, List, [], ◌∷◌, ◌++◌, length, drop, codes, inl, inr, refl, sym, ap, subst, ◌∙◌, arith}
use Rattle.std.specs.List.{list_all}
use Rattle.std.proofs.lemmas.Bool.{and_from}
use Rattle.ml_lines.specs.Lines.{Line, Word, number}
use Rattle.ml_lines.specs.Reading.{AreWords, IsNumber, IsTextBehind, IsWordBehind, is_word, value, word}
use Rattle.ml_lines.proofs.Numbers.{value-number}
use Rattle.ml_lists.specs.Documents.{IsFirstBroken, KeepsAll, Rule, rule}
use Rattle.ml_synthesis.specs.declared.machines.MachineStep.{MachineStep}
use Rattle.ml_realize_text.specs.RealizeRules.{AtPlay, AtReply, AtState, AtStates, AtStep, IsReplyLine, IsSet, IsStepLine, Signals, rules}
use Rattle.ml_realize_text.specs.RealizeText.{play_line, set_words, state_line, states_line}
use Rattle.ml_realize_text.specs.private.Reads.{Breaks, IsPlayed, IsReply, IsStep, numbered_rules}
use Rattle.ml_realize_text.specs.declared.line_rule.LineRule.TheVariants.{HasStates, InRange, NextState, Numbers, OfKind, Sets}
use Rattle.ml_realize_text.proofs.LineWords.{number_is_word, one_reply, one_step, play_are_words, reply_are_words, step_are_words}
use Rattle.ml_realize_text.proofs.SetWords.{set_some}

pub value_back : (n : ℕ) → n < 2 ^ 32 → value (number n) ≡ n
value_back n fits = value-number n (omega (arith, fits))

value_of : (w : Word) (n : ℕ) → n < 2 ^ 32 → w ≡ number n → value w ≡ n
value_of w n fits is = ap value is ∙ value_back n fits

-- ---- a word and a number

module _ (fixed : Word) (line : Line) (others : List (Rule Line)) where
  pub no_kind : ¬ (IsWordBehind fixed line) → IsFirstBroken (numbered_rules fixed others) line 51
  no_kind none = inl (refl, none)

  module _ (w : Word) (are : AreWords line) (is : line ≡ fixed ∷ w ∷ []) where
    of_kind : IsWordBehind fixed line
    of_kind = (are, is ∙ ap (λ v. fixed ∷ v ∷ []) (sym (ap (λ l. word l 1) is)))

    pub no_number : ¬ (IsNumber w) → IsFirstBroken (numbered_rules fixed others) line 52
    no_number none = inr (of_kind, inl (refl, λ fits. none (subst IsNumber (ap (λ l. word l 1) is) fits)))

    pub behind_number : (n r : ℕ)
        → n < 2 ^ 32
        → w ≡ number n
        → IsFirstBroken others line r
        → IsFirstBroken (numbered_rules fixed others) line r
    behind_number n r fits spelt broken =
        inr (of_kind, inr (subst IsNumber (sym (ap (λ l. word l 1) is)) (n, fits, spelt), broken))

    pub kept_numbered : (n : ℕ) → n < 2 ^ 32 → w ≡ number n → KeepsAll others line → KeepsAll (numbered_rules fixed others) line
    kept_numbered n fits spelt kept = (of_kind, (subst IsNumber (sym (ap (λ l. word l 1) is)) (n, fits, spelt), kept))

numbered_are_words : (fixed : Word) (n : ℕ) → is_word fixed ≡ true → n < 2 ^ 32 → AreWords (fixed ∷ number n ∷ [])
numbered_are_words fixed n some fits =
    and_from (is_word fixed) (list_all is_word (number n ∷ [])) some (and_from (is_word (number n)) true (number_is_word n fits) refl)

numbered_value : (fixed : Word) (line : Line) (n : ℕ) → n < 2 ^ 32 → line ≡ fixed ∷ number n ∷ [] → value (word line 1) ≡ n
numbered_value fixed line n fits is = ap (λ l. value (word l 1)) is ∙ value_back n fits

-- ---- `states n` and `state i`

module _ (g : Signals) (line : Line) (n : ℕ) (fits : n < 2 ^ 32) (is : line ≡ states_line n) where
  states_kept : (P : List (Rule Line)) → KeepsAll P line → KeepsAll (numbered_rules (codes "states") P) line
  states_kept P kept =
      kept_numbered (codes "states") line P (number n)
      (subst AreWords (sym is) (numbered_are_words (codes "states") n refl fits)) is n fits refl kept

  pub no_states : n ≡ 0 → Breaks (AtStates g) line HasStates
  no_states none left =
      let told = numbered_value (codes "states") line n fits is in
      behind_number (codes "states") line (rule 53 (λ l. 0 < value (word l 1)) ∷ []) (number n)
      (subst AreWords (sym is) (numbered_are_words (codes "states") n refl fits)) is n 53 fits refl
      (inl (refl, λ some. omega (arith, some, told, none)))

  pub states_good : 0 < n → (left : List ℕ) → KeepsAll (rules left (AtStates g)) line
  states_good some left =
      states_kept (rule 53 (λ l. 0 < value (word l 1)) ∷ [])
      (subst (λ k. 0 < k) (sym (numbered_value (codes "states") line n fits is)) some, tt)

module _ (g : Signals) (n i : ℕ) (line : Line) (k : ℕ) (fits : k < 2 ^ 32) (is : line ≡ state_line k) where
  state_words : AreWords line
  state_words = subst AreWords (sym is) (numbered_are_words (codes "state") k refl fits)

  pub other_state : k ≢ i → Breaks (AtState g n i) line NextState
  other_state other left =
      behind_number (codes "state") line (rule 54 (λ l. value (word l 1) ≡ i) ∷ []) (number k) state_words is k 54 fits refl
      (inl (refl, λ same. other (sym (numbered_value (codes "state") line k fits is) ∙ same)))

  pub state_good : k ≡ i → (left : List ℕ) → KeepsAll (rules left (AtState g n i)) line
  state_good same left =
      kept_numbered (codes "state") line (rule 54 (λ l. value (word l 1) ≡ i) ∷ []) (number k) state_words is k fits refl
      (numbered_value (codes "state") line k fits is ∙ same, tt)

-- what such a line tells, where it is good
pub numbered_back : (fixed : Word) (others : List (Rule Line)) (line : Line)
    → KeepsAll (numbered_rules fixed others) line
    → (n : ℕ) × (n < 2 ^ 32) × (line ≡ fixed ∷ number n ∷ []) × (value (word line 1) ≡ n)
numbered_back fixed others line ((are, is), ((n, fits, spelt), kept)) =
    let line_is = is ∙ ap (λ w. fixed ∷ w ∷ []) spelt in (n, fits, line_is, value_of (word line 1) n fits spelt)

-- ---- the line of a step

module _ (g : Signals) (n i s : ℕ) (line : Line) where
  pub no_step : ((given : List Word) (w : Word) → ¬ (IsStepLine g.inputs s line given w)) → Breaks (AtStep g n i s) line OfKind
  no_step none left = inl (refl, λ (given, w, is). none given w is)

  module _ (given : List Word) (w : Word) (is : IsStepLine g.inputs s line given w) where
    pub step_numbers : IsNumber w → (h : List Word) (v : Word) → IsStepLine g.inputs s line h v → IsNumber v
    step_numbers fits h v other = subst IsNumber (one_step g.inputs s line given h w v is other).1 fits

    pub step_sets : IsSet g.outputs given → (h : List Word) (v : Word) → IsStepLine g.inputs s line h v → IsSet g.outputs h
    step_sets set h v other = subst (IsSet g.outputs) (one_step g.inputs s line given h w v is other).0 set

    pub step_no_number : ¬ (IsNumber w) → Breaks (AtStep g n i s) line Numbers
    step_no_number none left = inr ((given, w, is), inl (refl, λ all. none (all given w is)))

    pub step_no_set : IsNumber w → ¬ (IsSet g.outputs given) → Breaks (AtStep g n i s) line Sets
    step_no_set fits none left =
        inr ((given, w, is), inr (step_numbers fits, inl (refl, λ all. none (all given w is))))

    pub step_no_state : IsNumber w → IsSet g.outputs given → ¬ (value w < n) → Breaks (AtStep g n i s) line InRange
    step_no_state fits set none left =
        inr (
          (given, w, is),
          inr (step_numbers fits, inr (step_sets set, inl (refl, λ all. none (all given w is)))),
        )

    pub step_kept : IsNumber w → IsSet g.outputs given → value w < n → (left : List ℕ) → KeepsAll (rules left (AtStep g n i s)) line
    step_kept fits set leads left = (
      (given, w, is),
      (
        step_numbers fits,
        (
          step_sets set,
          (λ h v other. subst (λ u. value u < n) (one_step g.inputs s line given h w v is other).1 leads, tt),
        ),
      ),
    )

  pub step_good : (x : MachineStep)
      → IsStep g.inputs g.outputs n s line x
      → AreWords g.inputs
      → AreWords g.outputs
      → n < 2 ^ 32
      → (left : List ℕ)
      → KeepsAll (rules left (AtStep g n i s)) line
  step_good x step ins outs few =
      let next : x.next < 2 ^ 32 = omega (arith, step.fits.leads, few) in
      let reads : IsStepLine g.inputs s line (set_words g.outputs x.give) (number x.next) =
      record {
        are_words = subst AreWords (sym step.line_is) (step_are_words g.inputs g.outputs s x ins outs next);
        line_is = step.line_is;
        some = set_some g.outputs x.give;
      } in
      step_kept (set_words g.outputs x.give) (number x.next) reads (x.next, next, refl) (x.give, step.fits.gives, refl)
      (subst (λ k. k < n) (sym (value_back x.next next)) step.fits.leads)

  pub step_back : (left : List ℕ)
      → KeepsAll (rules left (AtStep g n i s)) line
      → (x : MachineStep) × IsStep g.inputs g.outputs n s line x
  step_back left ((given, w, is), (numbers, (sets, (leads, end)))) =
      let (k, fits, spelt) = numbers given w is in
      let (t, gives, set) = sets given w is in
      let next : k < n = subst (λ m. m < n) (value_of w k fits spelt) (leads given w is) in (
        record { give = t; next = k },
        record {
          line_is =
              is.line_is
              ∙ ap (λ ws. codes "on" ∷ (set_words g.inputs s ++ (codes "give" ∷ (ws ++ (codes "goto" ∷ w ∷ []))))) set
              ∙ ap
              (λ v. codes "on" ∷ (set_words g.inputs s ++ (codes "give" ∷ (set_words g.outputs t ++ (codes "goto" ∷ v ∷ [])))))
              spelt;
          fits = record { gives = gives; leads = next };
        },
      )

-- ---- the line of a set that comes back

module _ (g : Signals) (n i s : ℕ) (line : Line) where
  pub no_reply : ((w : Word) → ¬ (IsReplyLine g.outputs s line w)) → Breaks (AtReply g n i s) line OfKind
  no_reply none left = inl (refl, λ (w, is). none w is)

  module _ (w : Word) (is : IsReplyLine g.outputs s line w) where
    pub reply_numbers : IsNumber w → (v : Word) → IsReplyLine g.outputs s line v → IsNumber v
    reply_numbers fits v other = subst IsNumber (one_reply g.outputs s line w v is other) fits

    pub reply_no_number : ¬ (IsNumber w) → Breaks (AtReply g n i s) line Numbers
    reply_no_number none left = inr ((w, is), inl (refl, λ all. none (all w is)))

    pub reply_no_state : IsNumber w → ¬ (value w < n) → Breaks (AtReply g n i s) line InRange
    reply_no_state fits none left = inr ((w, is), inr (reply_numbers fits, inl (refl, λ all. none (all w is))))

    pub reply_kept : IsNumber w → value w < n → (left : List ℕ) → KeepsAll (rules left (AtReply g n i s)) line
    reply_kept fits leads left = (
      (w, is),
      (reply_numbers fits, (λ v other. subst (λ u. value u < n) (one_reply g.outputs s line w v is other) leads, tt)),
    )

  pub reply_good : (x : ℕ)
      → IsReply g.outputs n s line x
      → AreWords g.outputs
      → n < 2 ^ 32
      → (left : List ℕ)
      → KeepsAll (rules left (AtReply g n i s)) line
  reply_good x reply outs few =
      let next : x < 2 ^ 32 = omega (arith, reply.leads, few) in
      let reads : IsReplyLine g.outputs s line (number x) =
      record {
        are_words = subst AreWords (sym reply.line_is) (reply_are_words [] g.outputs s x outs next);
        line_is = reply.line_is;
      } in
      reply_kept (number x) reads (x, next, refl) (subst (λ k. k < n) (sym (value_back x next)) reply.leads)

  pub reply_back : (left : List ℕ)
      → KeepsAll (rules left (AtReply g n i s)) line
      → (x : ℕ) × IsReply g.outputs n s line x
  reply_back left ((w, is), (numbers, (leads, end))) =
      let (k, fits, spelt) = numbers w is in (
        k,
        record {
          line_is = is.line_is ∙ ap (λ v. codes "on" ∷ (set_words g.outputs s ++ (codes "goto" ∷ v ∷ []))) spelt;
          leads = subst (λ m. m < n) (value_of w k fits spelt) (leads w is);
        },
      )

-- ---- the line `play`

module _ (g : Signals) (n i : ℕ) (line : Line) where
  pub no_play : ¬ (IsPlayed line) → Breaks (AtPlay g n i) line OfKind
  no_play none left = inl (refl, none)

  pub play_no_set : (ws : List Word)
      → IsPlayed line
      → line ≡ codes "play" ∷ ws
      → ¬ (IsSet g.inputs ws)
      → Breaks (AtPlay g n i) line Sets
  play_no_set ws played is none left =
      inr (played, inl (refl, λ set. none (subst (IsSet g.inputs) (ap (drop 1) is) set)))

  pub play_good : (s : ℕ)
      → line ≡ play_line g.inputs s
      → s < 2 ^ length g.inputs
      → AreWords g.inputs
      → (left : List ℕ)
      → KeepsAll (rules left (AtPlay g n i)) line
  play_good s is below ins left = (
    (subst AreWords (sym is) (play_are_words g.inputs [] s ins), some_behind (set_words g.inputs s) is (set_some g.inputs s)),
    ((s, below, ap (drop 1) is), tt),
  )
    where
      some_behind : (ws : List Word) → line ≡ codes "play" ∷ ws → 0 < length ws → IsTextBehind (codes "play") line
      some_behind [] same some = absurd (omega (arith, some))
      some_behind (w ∷ ws) same some = (w, ws, same)

  pub play_back : (left : List ℕ)
      → KeepsAll (rules left (AtPlay g n i)) line
      → (s : ℕ) × (s < 2 ^ length g.inputs) × (line ≡ play_line g.inputs s)
  play_back left ((are, (w, ws, is)), ((s, below, set), end)) =
      (s, below, is ∙ ap (λ vs. codes "play" ∷ vs) (sym (ap (drop 1) is) ∙ set))
