-- Machines and environments as systems.
--
--   moves_none, step_more, reply_more == moves from a state, one after the other
--   of_none, of_more  == states, one after the other
--   step_goes, reply_goes == the moves of a state are what a machine, or an environment, does there
--   powers            == sets of few names are few
--   machine_is, environment_is == what is made of them is a system
--   word_of_system, system_word == their words are those of the system
--   checked_machine, checked_environment == what is found of the system is found of them
use Rattle.std.proofs.Common.{ℕ, ◌≡◌, ◌↔◌, ◌+◌, ◌^◌, ◌<◌, ◌≤◌, ◌⊎◌, inl, inr, arith, true, false, List, [], ◌∷◌, ◌++◌}
use Rattle.std.proofs.Common.{length, get_or, map, refl, sym, ap, ◌∙◌, subst, length-append}
use Rattle.std.proofs.Math.Pow.{pow_mono}
use Rattle.std.proofs.lemmas.Bool.{cases_lt}
use Rattle.std.proofs.lemmas.List.{get_or_append_left, get_or_push, length-map}
use Rattle.ml_ctl.specs.Laws.{IsDecided}
use Rattle.ml_emptiness.specs.Systems.{Goes, IsSystem, IsWordOn, SystemTable}
use Rattle.ml_emptiness.specs.declared.systems.Move.{Move}
use Rattle.ml_emptiness.proofs.Tables.{goes_low}
use Rattle.ml_lists.specs.Lasso.{Lasso, round}
use Rattle.ml_lists.specs.Member.{IsMember}
use Rattle.ml_lists.proofs.Member.{member-append, member-append_left, member-append_right}
use Rattle.ml_realize.specs.Realizing.{inputs_of, outputs_of, word_of}
use Rattle.ml_realize.proofs.GameImages.{valuation_low}
use Rattle.ml_realize.proofs.RightOutcomes.{linear_decided}
use Rattle.ml_synthesis.specs.Machines.{EnvironmentFits, EnvironmentGoes, EnvironmentTable, IsWordAlong, MachineFits, MachineGoes, MachineTable, play_at, step_at, valuation}
use Rattle.ml_synthesis.specs.declared.machines.MachineStep.{MachineStep}
use Rattle.ml_synthesis.specs.declared.outcome.Outcome.TheVariants as outcome
use Rattle.ml_synthesis.proofs.AlongWords.{states_low}
use Rattle.ml_task.specs.NameSets.{members}
use Rattle.ml_task.specs.Task.{IsTask, Task, names_of}
use Rattle.ml_trace.specs.WordAutomata.{WordLasso}
use Rattle.ml_word_automaton.specs.Words.{SatisfiedBy}
use Rattle.ml_machine_check.specs.Checked.{IsChecked}
use Rattle.ml_machine_check.specs.declared.found.MachineVerdict.{MachineVerdict}
use Rattle.ml_machine_check.specs.declared.found.MachineVerdict.TheVariants.{ClosureTooLarge, Fails, Holds}
use Rattle.ml_machine_check.specs.private.AsSystems.{AreMoves, AreMovesOf, IsFoundIn, IsReply, IsStep, step_in}

-- ---- moves from a state

abbrev pub move : ℕ → ℕ → Move
move l b = record { letter = l; to = b }

pub step_none : (i : ℕ) (steps : List MachineStep) → AreMoves (IsStep i steps 0) []
step_none i steps l b = (λ m. absurd m, λ x. absurd (let low = x.low in omega arith))

pub step_more : (i : ℕ) (steps : List MachineStep) (n : ℕ) (moves : List Move) (m : Move)
    → AreMoves (IsStep i steps n) moves
    → m ≡ move (valuation i n (step_in steps n).give) (step_in steps n).next
    → AreMoves (IsStep i steps (n + 1)) (moves ++ m ∷ [])
step_more i steps n moves m are is l b = (
  λ h. by_member (member-append (move l b) moves (m ∷ []) h),
  λ x. by_place x (cases_lt x.set n),
)
  where
    by_member : IsMember (move l b) moves ⊎ IsMember (move l b) (m ∷ []) → IsStep i steps (n + 1) l b
    by_member (inl old) =
        let x = (are l b).0 old in
        record { set = x.set; low = (let low = x.low in omega arith); letter_is = x.letter_is; to_is = x.to_is }
    by_member (inr (inl new)) =
        let e = new ∙ is in
        record { set = n; low = omega arith; letter_is = ap (λ (v : Move). v.letter) e; to_is = ap (λ (v : Move). v.to) e }
    by_member (inr (inr none)) = absurd none

    by_place : (x : IsStep i steps (n + 1) l b) → (x.set < n) ⊎ (n ≤ x.set) → IsMember (move l b) (moves ++ m ∷ [])
    by_place x (inl low) =
        member-append_left (move l b) moves (m ∷ [])
        ((are l b).1 (record { set = x.set; low = low; letter_is = x.letter_is; to_is = x.to_is }))
    by_place x (inr high) =
        let here : x.set ≡ n = let low = x.low in omega arith in
        let e : move l b ≡ m =
        (λ j. move (x.letter_is j) (x.to_is j))
        ∙ ap (λ k. move (valuation i k (step_in steps k).give) (step_in steps k).next) here
        ∙ sym is in
        member-append_right (move l b) moves (m ∷ []) (inl e)

pub reply_none : (i play : ℕ) (next : List ℕ) → AreMoves (IsReply i play next 0) []
reply_none i play next l b = (λ m. absurd m, λ x. absurd (let low = x.low in omega arith))

pub reply_more : (i play : ℕ) (next : List ℕ) (n : ℕ) (moves : List Move) (m : Move)
    → AreMoves (IsReply i play next n) moves
    → m ≡ move (valuation i play n) (get_or next n 0)
    → AreMoves (IsReply i play next (n + 1)) (moves ++ m ∷ [])
reply_more i play next n moves m are is l b = (
  λ h. by_member (member-append (move l b) moves (m ∷ []) h),
  λ x. by_place x (cases_lt x.set n),
)
  where
    by_member : IsMember (move l b) moves ⊎ IsMember (move l b) (m ∷ []) → IsReply i play next (n + 1) l b
    by_member (inl old) =
        let x = (are l b).0 old in
        record { set = x.set; low = (let low = x.low in omega arith); letter_is = x.letter_is; to_is = x.to_is }
    by_member (inr (inl new)) =
        let e = new ∙ is in
        record { set = n; low = omega arith; letter_is = ap (λ (v : Move). v.letter) e; to_is = ap (λ (v : Move). v.to) e }
    by_member (inr (inr none)) = absurd none

    by_place : (x : IsReply i play next (n + 1) l b) → (x.set < n) ⊎ (n ≤ x.set) → IsMember (move l b) (moves ++ m ∷ [])
    by_place x (inl low) =
        member-append_left (move l b) moves (m ∷ [])
        ((are l b).1 (record { set = x.set; low = low; letter_is = x.letter_is; to_is = x.to_is }))
    by_place x (inr high) =
        let here : x.set ≡ n = let low = x.low in omega arith in
        let e : move l b ≡ m =
        (λ j. move (x.letter_is j) (x.to_is j)) ∙ ap (λ k. move (valuation i play k) (get_or next k 0)) here ∙ sym is in
        member-append_right (move l b) moves (m ∷ []) (inl e)

-- ---- states

pub of_none : (goes : ℕ → ℕ → ℕ → Type 0) → AreMovesOf goes 0 []
of_none goes = record { one_each = refl; same = λ a l b low. absurd (omega (arith, low)) }

pub of_more : (goes : ℕ → ℕ → ℕ → Type 0) (n : ℕ) (s : SystemTable) (moves : List Move)
    → AreMovesOf goes n s
    → AreMoves (goes n) moves
    → AreMovesOf goes (n + 1) (s ++ moves ∷ [])
of_more goes n s moves of are = record {
  one_each = length-append s (moves ∷ []) ∙ ap (λ k. k + 1) of.one_each;
  same = λ a l b low. by_place a l b (cases_lt a n) low;
}
  where
    by_place : (a l b : ℕ) → (a < n) ⊎ (n ≤ a) → a < n + 1 → Goes (s ++ moves ∷ []) a l b ↔ goes a l b
    by_place a l b (inl before) low =
        let e = get_or_append_left s (moves ∷ []) [] a (let o = of.one_each in omega arith) in (
          λ h. (of.same a l b before).0 (subst (IsMember (move l b)) e h),
          λ h. subst (IsMember (move l b)) (sym e) ((of.same a l b before).1 h),
        )
    by_place a l b (inr high) low =
        let here : n ≡ a = omega arith in
        let e = get_or_push s moves [] a (of.one_each ∙ here) in (
          λ h. subst (λ k. goes k l b) here ((are l b).0 (subst (IsMember (move l b)) e h)),
          λ h. subst (IsMember (move l b)) (sym e) ((are l b).1 (subst (λ k. goes k l b) (sym here) h)),
        )

-- the steps of a state, as the machine goes from there
pub step_goes : (i : ℕ) (m : MachineTable) (a : ℕ) (steps : List MachineStep) (moves : List Move)
    → get_or m a [] ≡ steps
    → length steps ≡ 2 ^ i
    → AreMoves (IsStep i steps (length steps)) moves
    → AreMoves (MachineGoes i m a) moves
step_goes i m a steps moves is long are l b = (
  λ h. let x = (are l b).0 h in record {
    ins = x.set;
    is_set = subst (λ n. x.set < n) long x.low;
    valuation_is = x.letter_is ∙ ap (λ (ss : List MachineStep). valuation i x.set (step_in ss x.set).give) (sym is);
    next_is = x.to_is ∙ ap (λ (ss : List MachineStep). (step_in ss x.set).next) (sym is);
  },
  λ g. (are l b).1 (record {
    set = g.ins;
    low = subst (λ n. g.ins < n) (sym long) g.is_set;
    letter_is = g.valuation_is ∙ ap (λ (ss : List MachineStep). valuation i g.ins (step_in ss g.ins).give) is;
    to_is = g.next_is ∙ ap (λ (ss : List MachineStep). (step_in ss g.ins).next) is;
  }),
)

pub reply_goes : (i o : ℕ) (e : EnvironmentTable) (a play : ℕ) (next : List ℕ) (moves : List Move)
    → play_at e a ≡ play
    → get_or e.next a [] ≡ next
    → length next ≡ 2 ^ o
    → AreMoves (IsReply i play next (length next)) moves
    → AreMoves (EnvironmentGoes i o e a) moves
reply_goes i o e a play next moves play_is is long are l b = (
  λ h. let x = (are l b).0 h in record {
    outs = x.set;
    is_set = subst (λ n. x.set < n) long x.low;
    valuation_is = x.letter_is ∙ ap (λ p. valuation i p x.set) (sym play_is);
    next_is = x.to_is ∙ ap (λ (ns : List ℕ). get_or ns x.set 0) (sym is);
  },
  λ g. (are l b).1 (record {
    set = g.outs;
    low = subst (λ n. g.outs < n) (sym long) g.is_set;
    letter_is = g.valuation_is ∙ ap (λ p. valuation i p g.outs) play_is;
    to_is = g.next_is ∙ ap (λ (ns : List ℕ). get_or ns g.outs 0) is;
  }),
)

pub powers : (i : ℕ) → i ≤ 8 → 2 ^ i ≤ 256
powers i few = pow_mono few

-- ---- systems

module _ (i o : ℕ) (m : MachineTable) (fits : MachineFits i o m) (s : SystemTable)
    (of : AreMovesOf (MachineGoes i m) (length m) s) where
  machine_goes : (a l b : ℕ) → Goes s a l b → MachineGoes i m a l b
  machine_goes a l b g = (of.same a l b (subst (λ n. a < n) of.one_each (goes_low s a l b g))).0 g

  pub machine_is : IsSystem (2 ^ (i + o)) s
  machine_is = record {
    some = subst (λ n. 0 < n) (sym of.one_each) fits.some;
    read = λ a x h. reads a x (goes_low s a x.letter x.to h) (machine_goes a x.letter x.to h);
    leads = λ a x h. leads a x (goes_low s a x.letter x.to h) (machine_goes a x.letter x.to h);
  }
    where
      reads : (a : ℕ) (x : Move) → a < length s → MachineGoes i m a x.letter x.to → x.letter < 2 ^ (i + o)
      reads a x low g =
          subst (λ v. v < 2 ^ (i + o)) (sym g.valuation_is)
          (valuation_low i o g.ins (step_at m a g.ins).give g.is_set
          (fits.gives a g.ins (subst (λ n. a < n) of.one_each low) g.is_set))

      leads : (a : ℕ) (x : Move) → a < length s → MachineGoes i m a x.letter x.to → x.to < length s
      leads a x low g =
          subst (λ n. x.to < n) (sym of.one_each)
          (subst (λ v. v < length m) (sym g.next_is) (fits.leads a g.ins (subst (λ n. a < n) of.one_each low) g.is_set))

module _ (i o : ℕ) (e : EnvironmentTable) (fits : EnvironmentFits i o e) (s : SystemTable)
    (of : AreMovesOf (EnvironmentGoes i o e) (length e.plays) s) where
  environment_goes : (a l b : ℕ) → Goes s a l b → EnvironmentGoes i o e a l b
  environment_goes a l b g = (of.same a l b (subst (λ n. a < n) of.one_each (goes_low s a l b g))).0 g

  pub environment_is : IsSystem (2 ^ (i + o)) s
  environment_is = record {
    some = subst (λ n. 0 < n) (sym of.one_each) fits.some;
    read = λ a x h. reads a x (goes_low s a x.letter x.to h) (environment_goes a x.letter x.to h);
    leads = λ a x h. leads a x (goes_low s a x.letter x.to h) (environment_goes a x.letter x.to h);
  }
    where
      reads : (a : ℕ) (x : Move) → a < length s → EnvironmentGoes i o e a x.letter x.to → x.letter < 2 ^ (i + o)
      reads a x low g =
          subst (λ v. v < 2 ^ (i + o)) (sym g.valuation_is)
          (valuation_low i o (play_at e a) g.outs (fits.plays_sets a (subst (λ n. a < n) of.one_each low)) g.is_set)

      leads : (a : ℕ) (x : Move) → a < length s → EnvironmentGoes i o e a x.letter x.to → x.to < length s
      leads a x low g =
          subst (λ n. x.to < n) (sym of.one_each)
          (subst (λ v. v < length e.plays) (sym g.next_is)
          (fits.leads a g.outs (subst (λ n. a < n) of.one_each low) g.is_set))

-- ---- words

module _ (goes : ℕ → ℕ → ℕ → Type 0) (n : ℕ) (s : SystemTable) (of : AreMovesOf goes n s) where
  pub word_of_system : (lasso : Lasso) (w : WordLasso ℕ) → IsWordOn s lasso w → IsWordAlong goes w
  word_of_system lasso w on = record {
    states = lasso;
    begins = on.begins;
    one_length = on.one_length;
    one_loop = on.one_loop;
    loops = on.loops;
    goes_on = λ k low.
        let g = on.goes_on k low in
        let a = get_or (round lasso) k 0 in
        let l = get_or w.word k 0 in
        let b = get_or (round lasso) (k + 1) 0 in
        (of.same a l b (subst (λ j. a < j) of.one_each (goes_low s a l b g))).0 g;
  }

  pub system_word : (w : WordLasso ℕ)
      → 0 < n
      → ((a v b : ℕ) → a < n → goes a v b → b < n)
      → (along : IsWordAlong goes w)
      → IsWordOn s along.states w
  system_word w some leads along = record {
    begins = along.begins;
    one_length = along.one_length;
    one_loop = along.one_loop;
    loops = along.loops;
    goes_on = λ k low.
        (of.same (get_or (round along.states) k 0) (get_or w.word k 0) (get_or (round along.states) (k + 1) 0)
        (states_low goes w along n some leads k (omega (arith, low)))).1 (along.goes_on k low);
  }

-- ---- what is found

long_word : (t : Task) (w : WordLasso ℕ) → w.loop_start < length w.word → w.loop_start < length (word_of (names_of t) w).word
long_word t w loops = subst (λ n. w.loop_start < n) (sym (length-map w.word (members (names_of t)))) loops

module _ (t : Task) (ok : IsTask t) (s : SystemTable) where
  pub checked_machine : (m : MachineTable) → MachineFits (inputs_of t) (outputs_of t) m
      → AreMovesOf (MachineGoes (inputs_of t) m) (length m) s
      → (c : MachineVerdict) → IsFoundIn t true s c → IsChecked t (outcome.Made m) c
  checked_machine m fits of Holds found = (
    found.0,
    record {
      fits = fits;
      satisfies = λ w along.
          by w along (linear_decided (word_of (names_of t) w) t.formula ok.is_linear (long_word t w along.loops));
    },
  )
    where
      by : (w : WordLasso ℕ) → IsWordAlong (MachineGoes (inputs_of t) m) w
          → IsDecided (SatisfiedBy (word_of (names_of t) w) t.formula)
          → SatisfiedBy (word_of (names_of t) w) t.formula
      by w along (inl yes') = yes'
      by w along (inr none) =
          absurd (found.1 along.states w
          (system_word (MachineGoes (inputs_of t) m) (length m) s of w fits.some
          (λ a v b low g. subst (λ x. x < length m) (sym g.next_is) (fits.leads a g.ins low g.is_set)) along) none)
  checked_machine m fits of (Fails x) found = (
    found.0,
    record {
      is_word = word_of_system (MachineGoes (inputs_of t) m) (length m) s of found.1.0 x found.1.1;
      satisfies = found.1.2;
    },
  )
  checked_machine m fits of ClosureTooLarge found = found

  pub checked_environment : (e : EnvironmentTable) → EnvironmentFits (inputs_of t) (outputs_of t) e
      → AreMovesOf (EnvironmentGoes (inputs_of t) (outputs_of t) e) (length e.plays) s
      → (c : MachineVerdict) → IsFoundIn t false s c → IsChecked t (outcome.Defeated e) c
  checked_environment e fits of Holds found = (
    found.0,
    record {
      fits = fits;
      excludes = λ w along sat. found.1 along.states w
          (system_word (EnvironmentGoes (inputs_of t) (outputs_of t) e) (length e.plays) s of w fits.some
          (λ a v b low g. subst (λ x. x < length e.plays) (sym g.next_is) (fits.leads a g.outs low g.is_set)) along) sat;
    },
  )
  checked_environment e fits of (Fails x) found = (
    found.0,
    record {
      is_word =
          word_of_system (EnvironmentGoes (inputs_of t) (outputs_of t) e) (length e.plays) s of found.1.0 x
          found.1.1;
      satisfies = found.1.2;
    },
  )
  checked_environment e fits of ClosureTooLarge found = found
