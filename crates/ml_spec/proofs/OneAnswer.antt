-- Each text is one specification, or has one refusal, exactly one of the two.
--
--   first_logic  == where a text tells no logic, that is its first fault
--   tells_text   == the first fault of the items behind the first one, or of what they mean, is the first of the text
--   read_whole   == a text whose items are read and mean no formula that is too large is read
use Rattle.std.proofs.Common.{◌≡◌, ℕ, ◌<◌, ◌≤◌, ◌⊎◌, ◌==◌, if◌then◌else◌, List, [], ◌∷◌, codes, inl, inr, refl, sym, ap, subst, ◌∙◌, ⊎_elim, arith}
use Rattle.std.proofs.lemmas.Bool.{cases_lt}
use Rattle.ml_lists.proofs.Decided.{Decided, decided_bytes, decided_number}
use Rattle.ml_front.specs.Logics.{logic_word}
use Rattle.ml_front.specs.declared.logic.Logic.{Logic}
use Rattle.ml_front.specs.declared.logic.Logic.TheVariants as logic
use Rattle.ml_spec.specs.Comments.{uncommented}
use Rattle.ml_spec.specs.Faults.{in_item, no_logic, too_large, IsFault, IsFirstFault, IsRefused}
use Rattle.ml_spec.specs.Items.{ItemText, behind_word, first_word, items_of}
use Rattle.ml_spec.specs.Laws.{NeverBoth, OneRefusal, OneSpecification, SomeReading}
use Rattle.ml_spec.specs.Meaning.{items_meant, HasLarge}
use Rattle.ml_spec.specs.Places.{column_at, line_at}
use Rattle.ml_spec.specs.RuleNumbers.{rule_number}
use Rattle.ml_spec.specs.Specification.{first_filled, items_behind, AreRead, IsReadAs, IsSpecification, TellsLogic}
use Rattle.ml_spec.specs.Statements.{AreStatements, Statement}
use Rattle.ml_spec.specs.declared.fault.Fault.{Fault}
use Rattle.ml_spec.specs.declared.fault.Fault.TheVariants.{Breaks, NoMemory}
use Rattle.ml_spec.specs.declared.rule.SpecRule.{SpecRule}
use Rattle.ml_spec.specs.declared.rule.SpecRule.TheVariants.{Syntax, Unbound, NotPositive, TooMany, TooNested, NameTooLong}
use Rattle.ml_spec.specs.declared.rule.SpecRule.TheVariants.{NoLogic, NoKind, NoName, NoColon, NameTaken, TooManyItems, TooLarge, Undeclared, DefinedLate}
use Rattle.ml_spec.specs.declared.specification.Item.{Item}
use Rattle.ml_spec.specs.private.Stages.{AreReadAs, IsFirstLarge, IsLargeAmong, IsReadTo, IsStopped, TellsAmong, TellsInText}
use Rattle.ml_spec.proofs.LargeFormulas.{has_first, large_answer, large_first}
use Rattle.ml_spec.proofs.Readings.{items_answer}
use Rattle.ml_spec.proofs.TextFaults.{found_item, item_first, no_item_fault, one_logic, one_reading, read_to_end, text_apart}
use Rattle.ml_spec.proofs.WordLists.{ComesBehind}

-- ---- where the text tells no logic

pub first_logic : (text : List ℕ) → ((l : Logic) → ¬ (TellsLogic text l)) → IsFirstFault text NoLogic (first_filled text)
first_logic text none = record { comes = no_logic none refl; first = by }
  where
    by : (s : SpecRule) (k : ℕ) → IsFault text k s → ComesBehind NoLogic (first_filled text) s k
    by s k (no_logic again is) = inr (sym is, omega arith)
    by s k (in_item found) = absurd (none found.logic found.told_logic)
    by s k (too_large found) = absurd (none found.logic found.told_logic)

-- ---- where an item is at fault

module _ (text : List ℕ) (l : Logic) (told : TellsLogic text l) where
  pub stopped_first : (r : SpecRule) (at : ℕ) → IsStopped l (items_behind text) r at → IsFirstFault text r at
  stopped_first r at stopped = record { comes = in_item (found_item text l r at told stopped); first = by }
    where
      by : (s : SpecRule) (k : ℕ) → IsFault text k s → ComesBehind r at s k
      by s k (no_logic none is) = absurd (none l told)
      by s k (in_item found) = item_first text l r at told stopped s k found
      by s k (too_large found) =
          let same = one_logic text found.logic l found.told_logic told in
          absurd
          (no_item_fault text l found.read told (subst (λ m. AreRead m (items_behind text) found.read) same found.are_read) r at
          (found_item text l r at told stopped))

  -- ---- where a formula is too large

  pub large_is_first : (at : ℕ) → IsLargeAmong l (items_behind text) at → IsFirstFault text TooLarge at
  large_is_first at large = record {
    comes = too_large (record {
      logic = l;
      told_logic = told;
      read = large.statements;
      are_read = large.are_read;
      is_large = has_first l large.statements at large.is_first;
    });
    first = by;
  }
    where
      first_of : (ss : List Statement) (k : ℕ)
          → ss ≡ large.statements
          → HasLarge l ss k
          → at ≤ k
      first_of ss k same has =
          let apart = text_apart text in
          large_first l apart.0 (items_behind text) large.statements at k apart.1 large.are_read.are_statements large.is_first
          (subst (λ ts. HasLarge l ts k) same has)

      behind : (k : ℕ) → at ≤ k → ComesBehind TooLarge at TooLarge k
      behind k le =
          ⊎_elim (λ (less : at < k). inl less) (λ (more : k ≤ at). inr (omega (arith, le, more), omega arith)) (cases_lt at k)

      by : (s : SpecRule) (k : ℕ) → IsFault text k s → ComesBehind TooLarge at s k
      by s k (no_logic none is) = absurd (none l told)
      by s k (in_item found) = absurd (no_item_fault text l large.statements told large.are_read s k found)
      by s k (too_large found) =
          let same = one_logic text found.logic l found.told_logic told in
          let read = subst (λ m. AreRead m (items_behind text) found.read) same found.are_read in
          behind k
          (first_of found.read k
          (one_reading l (items_behind text) found.read large.statements read.are_statements large.are_read.are_statements)
          (subst (λ m. HasLarge m found.read k) same found.is_large))

  pub tells_text : (all : List ItemText) (e : Fault) → items_behind text ≡ all → TellsAmong l all e → TellsInText text e
  tells_text all (Breaks r at) is (inl stopped) = stopped_first r at (subst (λ is. IsStopped l is r at) (sym is) stopped)
  tells_text all (Breaks r at) is (inr (same, large)) =
      subst (λ s. IsFirstFault text s at) (sym same)
      (large_is_first at (subst (λ is. IsLargeAmong l is at) (sym is) large))
  tells_text all NoMemory is tells = tt

  pub read_whole : (all : List ItemText) (xs : List Item) → items_behind text ≡ all → AreReadAs l all xs → IsReadAs text l xs
  read_whole all xs is read = record {
    tells_logic = told;
    statements = read.statements;
    are_read = subst (λ is. AreRead l is read.statements) (sym is) read.are_read;
    none_is_large = read.none_is_large;
    are_meant = read.are_meant;
  }

-- ---- some answer

abbrev TellsOne : List ℕ → Type 0
TellsOne text = (l : Logic) × TellsLogic text l

abbrev HasOne : List ℕ → Type 0
HasOne w = (l : Logic) × (w ≡ logic_word l)

decided_word : (w : List ℕ) → Decided (HasOne w)
decided_word w =
    by (decided_bytes w (logic_word logic.Mu)) (decided_bytes w (logic_word logic.Pdl)) (decided_bytes w (logic_word logic.Ctl))
    (decided_bytes w (logic_word logic.Ltl)) (decided_bytes w (logic_word logic.Word))
  where
    by : Decided (w ≡ logic_word logic.Mu)
        → Decided (w ≡ logic_word logic.Pdl)
        → Decided (w ≡ logic_word logic.Ctl)
        → Decided (w ≡ logic_word logic.Ltl)
        → Decided (w ≡ logic_word logic.Word)
        → Decided (HasOne w)
    by (inl is) p c t o = inl (logic.Mu, is)
    by (inr m) (inl is) c t o = inl (logic.Pdl, is)
    by (inr m) (inr p) (inl is) t o = inl (logic.Ctl, is)
    by (inr m) (inr p) (inr c) (inl is) o = inl (logic.Ltl, is)
    by (inr m) (inr p) (inr c) (inr t) (inl is) = inl (logic.Word, is)
    by (inr m) (inr p) (inr c) (inr t) (inr o) = inr (λ (l, is). none l is)
      where
        none : (l : Logic) → w ≡ logic_word l → ⊥
        none logic.Mu is = m is
        none logic.Pdl is = p is
        none logic.Ctl is = c is
        none logic.Ltl is = t is
        none logic.Word is = o is

decided_logic : (text : List ℕ) → Decided (TellsOne text)
decided_logic text = by (items_of text) refl
  where
    first_is : (i j : ItemText) (is js : List ItemText) → i ∷ is ≡ j ∷ js → i ≡ j
    first_is i j is js same = cc

    by : (is : List ItemText) → items_of text ≡ is → Decided (TellsOne text)
    by [] are = inr (λ (l, told). none (sym are ∙ told.are_items))
      where
        none : {i : ItemText} {is : List ItemText} → [] ≡ i ∷ is → ⊥
        none e = cc
    by (i ∷ is) are =
        go (decided_number i.at (first_filled text)) (decided_bytes (first_word i.bytes) (codes "logic")) (decided_word (behind_word i.bytes))
      where
        same : (l : Logic) (told : TellsLogic text l) → told.first ≡ i
        same l told = first_is told.first i told.others is (sym told.are_items ∙ are)

        go : Decided (i.at ≡ first_filled text)
            → Decided (first_word i.bytes ≡ codes "logic")
            → Decided (HasOne (behind_word i.bytes))
            → Decided (TellsOne text)
        go (inr no_front) b c = inr (λ (l, told). no_front (subst (λ j. j.at ≡ first_filled text) (same l told) told.is_at_front))
        go (inl front) (inr other) c = inr (λ (l, told). other (subst (λ j. first_word j.bytes ≡ codes "logic") (same l told) told.begins))
        go (inl front) (inl begins) (inr none) =
            inr (λ (l, told). none (l, subst (λ j. behind_word j.bytes ≡ logic_word l) (same l told) told.tells))
        go (inl front) (inl begins) (inl (l, tells)) =
            inl (
              l,
              record {
                first = i;
                others = is;
                are_items = are;
                is_at_front = front;
                begins = begins;
                tells = tells;
              },
            )

module _ (text : List ℕ) where
  abbrev plain : List ℕ
  plain = uncommented text

  abbrev Answered : Type 0
  Answered =
      ((l : Logic) × (xs : List Item) × IsSpecification text l xs)
      ⊎ ((line : ℕ) × (column : ℕ) × (r : SpecRule) × IsRefused text line column r)

  refused : (r : SpecRule) (at : ℕ) → IsFirstFault plain r at → Answered
  refused r at first =
      inr (line_at text at, column_at text at, r, record { at = at; is_first = first; is_line = refl; is_column = refl })

  by_items : (l : Logic) → TellsLogic plain l → Answered
  by_items l told = by (items_answer l (items_behind plain))
    where
      by_size : (ss : List Statement) → AreRead l (items_behind plain) ss
          → ((at : ℕ) → ¬ (HasLarge l ss at)) ⊎ ((at : ℕ) × IsFirstLarge l ss at)
          → Answered
      by_size ss read (inl none) = inl (
        l,
        items_meant l ss,
        record {
          tells_logic = told;
          statements = ss;
          are_read = read;
          none_is_large = none;
          are_meant = refl;
        },
      )
      by_size ss read (inr (at, first)) =
          refused TooLarge at
          (large_is_first plain l told at (record { statements = ss; are_read = read; is_first = first }))

      by : ((ss : List Statement) × IsReadTo l (items_behind plain) [] ss)
          ⊎ ((r : SpecRule) × (at : ℕ) × IsStopped l (items_behind plain) r at)
          → Answered
      by (inl (ss, read)) = by_size ss (read_to_end l (items_behind plain) ss read) (large_answer l ss)
      by (inr (r, at, stopped)) = refused r at (stopped_first plain l told r at stopped)

  by_logic : Decided (TellsOne plain) → Answered
  by_logic (inl (l, told)) = by_items l told
  by_logic (inr none) = refused NoLogic (first_filled plain) (first_logic plain (λ l told. none (l, told)))

pub some_reading : SomeReading
some_reading text = by_logic text (decided_logic (uncommented text))

-- ---- one at most, and never both

pub one_specification : OneSpecification
one_specification text l k xs ys one other =
    let plain = uncommented text in
    let same = one_logic plain l k one.tells_logic other.tells_logic in
    let read = subst (λ m. AreStatements m (items_behind plain) one.statements) same one.are_read.are_statements in
    let statements =
    one_reading k (items_behind plain) one.statements other.statements read other.are_read.are_statements in (
      same,
      one.are_meant
          ∙ ap (λ m. items_meant m one.statements) same
          ∙ ap (items_meant k) statements
          ∙ sym other.are_meant,
    )

pub never_both : NeverBoth
never_both text l xs line column r is no_spec = by r (no_spec.is_first.comes)
  where
    by : (r : SpecRule) → IsFault (uncommented text) no_spec.at r → ⊥
    by r (no_logic none at) = none l is.tells_logic
    by r (in_item found) = no_item_fault (uncommented text) l is.statements is.tells_logic is.are_read r no_spec.at found
    by r (too_large found) =
        let plain = uncommented text in
        let same = one_logic plain found.logic l found.told_logic is.tells_logic in
        let read = subst (λ m. AreRead m (items_behind plain) found.read) same found.are_read in
        is.none_is_large no_spec.at
        (subst (λ ss. HasLarge l ss no_spec.at)
        (one_reading l (items_behind plain) found.read is.statements read.are_statements is.are_read.are_statements)
        (subst (λ m. HasLarge m found.read no_spec.at) same found.is_large))

-- the rule with a number
abbrev rule_of : ℕ → SpecRule
rule_of n =
    if n == 1 then Syntax else
    if n == 2 then Unbound else
    if n == 3 then NotPositive else
    if n == 4 then TooMany else
    if n == 5 then TooNested else
    if n == 6 then NameTooLong else
    if n == 61 then NoLogic else
    if n == 62 then NoKind else
    if n == 63 then NoName else
    if n == 64 then NoColon else
    if n == 65 then NameTaken else
    if n == 66 then TooManyItems else
    if n == 67 then TooLarge else
    if n == 68 then Undeclared else
    DefinedLate

rule_read : (r : SpecRule) → rule_of (rule_number r) ≡ r
rule_read Syntax = refl
rule_read Unbound = refl
rule_read NotPositive = refl
rule_read TooMany = refl
rule_read TooNested = refl
rule_read NameTooLong = refl
rule_read NoLogic = refl
rule_read NoKind = refl
rule_read NoName = refl
rule_read NoColon = refl
rule_read NameTaken = refl
rule_read TooManyItems = refl
rule_read TooLarge = refl
rule_read Undeclared = refl
rule_read DefinedLate = refl

one_rule : (r s : SpecRule) → rule_number r ≡ rule_number s → r ≡ s
one_rule r s same = sym (rule_read r) ∙ ap rule_of same ∙ rule_read s

pub one_refusal : OneRefusal
one_refusal text line column r row place s one other =
    let same = one_fault (one.is_first.first s other.at other.is_first.comes) (other.is_first.first r one.at one.is_first.comes) in (
      one.is_line ∙ ap (line_at text) same.0 ∙ sym other.is_line,
      one.is_column ∙ ap (column_at text) same.0 ∙ sym other.is_column,
      one_rule r s same.1,
    )
  where
    one_fault : (one.at < other.at) ⊎ ((one.at ≡ other.at) × (rule_number r ≤ rule_number s))
        → (other.at < one.at) ⊎ ((other.at ≡ one.at) × (rule_number s ≤ rule_number r))
        → (one.at ≡ other.at) × (rule_number r ≡ rule_number s)
    one_fault (inl a) (inl b) = absurd (omega (arith, a, b))
    one_fault (inl a) (inr b) = absurd (omega (arith, a, b.0))
    one_fault (inr a) (inl b) = absurd (omega (arith, a.0, b))
    one_fault (inr a) (inr b) = (a.0, omega (arith, a.1, b.1))
