-- Each text has one answer.
--
--   answer_of out end   == how a text is refused of which this comes, if it is
--   refused_so, read_so == what is said of a text is what comes of it
--   one_automaton, some_answer, one_refusal, never_both == so it is read or refused, in one way
use Rattle.std.proofs.Common.{◌≡◌, ◌≢◌, ℕ, ◌++◌, Bool, true, false, List, [], ◌∷◌, length, Option, Some, None, refl, sym, ◌∙◌, ap, ◌⊎◌, inl, inr, if◌then◌else◌}
use Rattle.ml_hoa.specs.declared.reader.Stage.{Stage}
use Rattle.ml_hoa.specs.declared.reader.Stage.TheVariants as stage
use Rattle.ml_hoa.specs.declared.refusal.HoaRefusal.{HoaRefusal}
use Rattle.ml_hoa.specs.declared.refusal.HoaRefusal.TheVariants as refusal
use Rattle.ml_hoa.specs.Automaton.{Automaton}
use Rattle.ml_hoa.specs.Tokens.{Token, Placed, tokens, signs_of}
use Rattle.ml_hoa.specs.Grammar.{Draft}
use Rattle.ml_hoa.specs.AutomatonText.{StandsFor}
use Rattle.ml_hoa.specs.Refusals.{Begins, BeginsSmall, IsReadAs, IsRefusedBy, IsAt, IsStuckAt, EndsEarly, IsTooManyAt}
use Rattle.ml_hoa.specs.private.Machine.{State, Turn, Next, Past, Stuck, turn, start, Outcome, Read, Refused, went, outcome}
use Rattle.ml_hoa.proofs.LabelRuns.{noted_by}
use Rattle.ml_hoa.proofs.Runs.{led, run, loose}
use Rattle.ml_hoa.proofs.Outcomes.{read_state, complete, begins, begins_small, begun_read, after_one, read_whole}
use Rattle.ml_hoa.proofs.Values.{held_fault}
use Rattle.ml_hoa.proofs.Answered.{outcome_of, held, whole_held, answered_whole, answered_range, answered_early, stopped_right}

abbrev is_done : Stage → Bool
is_done stage.Done = true
is_done q = false

abbrev range_of : Option ℕ → Option HoaRefusal
range_of None = None
range_of (Some at) = Some (refusal.Range at)

abbrev answer_of : Outcome → ℕ → Option HoaRefusal
answer_of (Refused e) end = Some e
answer_of (Read s) end = if is_done s.stage then range_of s.fault else Some (refusal.Syntax end)

-- ---- what comes of tokens

led_some : (t : Turn) (at : ℕ) (ps : List Placed) (to : State)
    → led true t (λ next. run true next (signs_of ps)) ≡ Some to
    → ((next : State) → run true next (signs_of ps) ≡ Some to → outcome next ps ≡ Read to)
    → went t at (λ next. outcome next ps) ≡ Read to
led_some (Next next) at ps to is more = more next is
led_some (Past next) at ps to is more = absurd (cc)
led_some Stuck at ps to is more = absurd (cc)

read_outcome : (s : State) (ps : List Placed) (to : State) → run true s (signs_of ps) ≡ Some to → outcome s ps ≡ Read to
unfolding outcome
read_outcome s [] to is = let same : s ≡ to = cc in ap Read same
read_outcome s (p ∷ ps) to is = led_some (turn s p.token) p.at ps to is (λ next so. read_outcome next ps to so)

led_at : (t : Turn) (at : ℕ) (first : List Placed) (p : Placed) (last : List Placed) (mid : State)
    → led true t (λ next. run true next (signs_of first)) ≡ Some mid
    → ((next : State) → run true next (signs_of first) ≡ Some mid
    → outcome next (first ++ p ∷ last) ≡ went (turn mid p.token) p.at (λ n. outcome n last))
    → went t at (λ next. outcome next (first ++ p ∷ last)) ≡ went (turn mid p.token) p.at (λ n. outcome n last)
led_at (Next next) at first p last mid is more = more next is
led_at (Past next) at first p last mid is more = absurd (cc)
led_at Stuck at first p last mid is more = absurd (cc)

outcome_at : (s : State) (first : List Placed) (p : Placed) (last : List Placed) (mid : State)
    → run true s (signs_of first) ≡ Some mid
    → outcome s (first ++ p ∷ last) ≡ went (turn mid p.token) p.at (λ n. outcome n last)
unfolding outcome
outcome_at s [] p last mid is =
    let same : s ≡ mid = cc in ap (λ x. went (turn x p.token) p.at (λ n. outcome n last)) same
outcome_at s (q ∷ first) p last mid is =
    led_at (turn s q.token) q.at first p last mid is (λ next so. outcome_at next first p last mid so)

-- where the text comes to a token
comes_at : (text : List ℕ) (at : ℕ) (before : List Token) (t : Token) (x : IsAt text at before t) (mid : State) (u : Turn)
    → run true start before ≡ Some mid
    → turn mid t ≡ u
    → outcome_of text ≡ went u at (λ n. outcome n x.last)
comes_at text at before t x mid u read is =
    ap (outcome start) x.all
    ∙ outcome_at start x.first (record { token = t; at = at }) x.last mid (ap (run true start) (sym x.before_is) ∙ read)
    ∙ ap (λ v. went v at (λ n. outcome n x.last)) is

small_run : (ts : List Token) → BeginsSmall ts → (s : State) × (run true start ts ≡ Some s)
small_run ts (us, d, text, small) = begun_read true ts us d text (λ on. small)

stuck_comes : (text : List ℕ) (at : ℕ) → IsStuckAt text at → outcome_of text ≡ Refused (refusal.Syntax at)
stuck_comes text at x = by (small_run x.before x.begins)
  where
    by : (s : State) × (run true start x.before ≡ Some s) → outcome_of text ≡ Refused (refusal.Syntax at)
    by (mid, read) = turned (turn mid x.token) refl
      where
        lower : run false start x.before ≡ Some mid
        lower = loose start x.before mid read

        turned : (u : Turn) → turn mid x.token ≡ u → outcome_of text ≡ Refused (refusal.Syntax at)
        turned Stuck is = comes_at text at x.before x.token x.there mid Stuck read is
        turned (Next next) is = absurd (x.none (begins (x.before ++ x.token ∷ []) next
            (after_one false x.before x.token mid lower ∙ ap (λ t. led false t (λ n. Some n)) is)))
        turned (Past next) is = absurd (x.none (begins (x.before ++ x.token ∷ []) next
            (after_one false x.before x.token mid lower ∙ ap (λ t. led false t (λ n. Some n)) is)))

many_comes : (text : List ℕ) (at : ℕ) → IsTooManyAt text at → outcome_of text ≡ Refused (refusal.TooMany at)
many_comes text at x = by (small_run x.before x.begins)
  where
    by : (s : State) × (run true start x.before ≡ Some s) → outcome_of text ≡ Refused (refusal.TooMany at)
    by (mid, read) = turned (turn mid x.token) refl x.goes_on
      where
        lower : run false start x.before ≡ Some mid
        lower = loose start x.before mid read

        turned : (u : Turn) → turn mid x.token ≡ u → Begins (x.before ++ x.token ∷ [])
            → outcome_of text ≡ Refused (refusal.TooMany at)
        turned (Past next) is more = comes_at text at x.before x.token x.there mid (Past next) read is
        turned (Next next) is more = absurd (x.not_small (begins_small (x.before ++ x.token ∷ []) next
            (after_one true x.before x.token mid read ∙ ap (λ t. led true t (λ n. Some n)) is)))
        turned Stuck is (us, d, text) =
            let r = begun_read false (x.before ++ x.token ∷ []) us d text (λ on. absurd (cc)) in
            let so = after_one false x.before x.token mid lower ∙ ap (λ t. led false t (λ n. Some n)) is in
            let a = r.1 in
            absurd (let e : Some r.0 ≡ None = sym a ∙ so in cc)

not_done : (q : Stage) → (q ≡ stage.Done → ⊥) → is_done q ≡ false
not_done stage.Done other = absurd (other refl)
not_done q other = refl

early_comes : (text : List ℕ) (at : ℕ) → EndsEarly text at → answer_of (outcome_of text) (length text) ≡ Some (refusal.Syntax at)
early_comes text at x = by (small_run (signs_of (tokens text)) x.begins)
  where
    by : (s : State) × (run true start (signs_of (tokens text)) ≡ Some s) → answer_of (outcome_of text) (length text) ≡ Some (refusal.Syntax at)
    by (s, read) =
        let out = read_outcome start (tokens text) s read in
        let other : s.stage ≡ stage.Done → ⊥ = λ done. let w = read_whole text s out done in x.no_text w.draft w.is_text in
        ap (λ o. answer_of o (length text)) out
        ∙ ap (λ b. if b then range_of s.fault else Some (refusal.Syntax (length text))) (not_done s.stage other)
        ∙ ap (λ n. Some (refusal.Syntax n)) (sym x.end)

stands_comes : (text : List ℕ) (d : Draft) → StandsFor text d → outcome_of text ≡ Read (read_state d)
stands_comes text d stands =
    read_outcome start (tokens text) (read_state d) (complete true (signs_of (tokens text)) d stands.is_text (λ on. stands.is_small))

refused_so : (text : List ℕ) (e : HoaRefusal) → e ≢ refusal.NoMemory → IsRefusedBy text e
    → answer_of (outcome_of text) (length text) ≡ Some e
refused_so text refusal.NoMemory other is = absurd (other refl)
refused_so text (refusal.Syntax at) other (inl x) = ap (λ o. answer_of o (length text)) (stuck_comes text at x)
refused_so text (refusal.Syntax at) other (inr x) = early_comes text at x
refused_so text (refusal.TooMany at) other x = ap (λ o. answer_of o (length text)) (many_comes text at x)
refused_so text (refusal.Range at) other x =
    ap (λ o. answer_of o (length text)) (stands_comes text x.draft x.stands)
    ∙ ap range_of (held_fault x.draft x.stands.is_small ∙ ap (noted_by None) x.first)

read_so : (text : List ℕ) (a : Automaton) → IsReadAs text a → answer_of (outcome_of text) (length text) ≡ None
read_so text a x =
    ap (λ o. answer_of o (length text)) (stands_comes text x.draft x.stands)
    ∙ ap range_of (held_fault x.draft x.stands.is_small ∙ ap (noted_by None) x.in_range)

-- ---- one answer

pub one_automaton : (text : List ℕ) (a b : Automaton) → IsReadAs text a → IsReadAs text b → a ≡ b
one_automaton text a b x y =
    let u = stands_comes text x.draft x.stands in
    let v = stands_comes text y.draft y.stands in
    let same : read_state x.draft ≡ read_state y.draft = (let e : Read (read_state x.draft) ≡ Read (read_state y.draft) = sym u ∙ v in cc) in
    x.is_automaton ∙ sym (whole_held x.draft x.stands.is_small x.in_range) ∙ ap held same
    ∙ whole_held y.draft y.stands.is_small y.in_range ∙ sym y.is_automaton

abbrev pub Answered : List ℕ → Type 0
Answered text = ((a : Automaton) × IsReadAs text a) ⊎ ((e : HoaRefusal) × (e ≢ refusal.NoMemory) × IsRefusedBy text e)

done_or : (q : Stage) → (q ≡ stage.Done) ⊎ (q ≡ stage.Done → ⊥)
done_or stage.Done = inl refl
done_or q = inr (λ is. cc)

syntax_other : (at : ℕ) → refusal.Syntax at ≢ refusal.NoMemory
syntax_other at e = cc

range_other : (at : ℕ) → refusal.Range at ≢ refusal.NoMemory
range_other at e = cc

pub some_answer : (text : List ℕ) → Answered text
some_answer text = by (outcome_of text) refl
  where
    whole : (s : State) → outcome_of text ≡ Read s → (s.stage ≡ stage.Done) ⊎ (s.stage ≡ stage.Done → ⊥) → (f : Option ℕ) → s.fault ≡ f → Answered text
    whole s out (inl done) None is = inl (held s, (answered_whole text s out done is).read)
    whole s out (inl done) (Some at) is = inr (refusal.Range at, range_other at, answered_range text s at out done is)
    whole s out (inr other) f is = inr (refusal.Syntax (length text), syntax_other (length text), answered_early text s out other)

    by : (out : Outcome) → outcome_of text ≡ out → Answered text
    by (Read s) is = whole s is (done_or s.stage) s.fault refl
    by (Refused e) is = let r = stopped_right text e is in inr (e, r.0, r.1)

pub one_refusal : (text : List ℕ) (e d : HoaRefusal) → e ≢ refusal.NoMemory → d ≢ refusal.NoMemory
    → IsRefusedBy text e
    → IsRefusedBy text d
    → e ≡ d
one_refusal text e d e_other d_other x y = let a = refused_so text e e_other x in let b = refused_so text d d_other y in cc

no_memory_or : (e : HoaRefusal) → (e ≡ refusal.NoMemory) ⊎ (e ≢ refusal.NoMemory)
no_memory_or refusal.NoMemory = inl refl
no_memory_or e = inr (λ is. cc)

pub never_both : (text : List ℕ) (a : Automaton) (e : HoaRefusal) → IsReadAs text a → IsRefusedBy text e → e ≡ refusal.NoMemory
never_both text a e read refused = by (no_memory_or e)
  where
    by : (e ≡ refusal.NoMemory) ⊎ (e ≢ refusal.NoMemory) → e ≡ refusal.NoMemory
    by (inl is) = is
    by (inr other) =
        let x = read_so text a read in let y = refused_so text e other refused in absurd (let z : Some e ≡ None = sym y ∙ x in cc)
