-- Reading on, from place to place.
--
--   count_append     == the LFs of a text of two parts
--   count_in_line    == there is none in a line
--   room_behind      == the room stays
--   takes_both       == what is read in two steps
--   takes_as         == what is read is also of another kind
--   fault_behind     == a fault behind what was read
--   fault_as         == a fault of another kind
--   takes_nothing    == nothing is read
--   next_is, no_next == the next line, and none
--   line_taken, next_room == it is read, and the room stays
--   told_here        == a line that breaks a rule
--   other_line       == a line of other words does
--   model_taken, tells_model, refutation_taken, tells_refutation == bodies
--   line_fits, body_taken == the body that comes next
--   if_ok_both == what is true of a result where two things are
use Rattle.std.proofs.Common.{◌≡◌, ℕ, ◌+◌, ◌<◌, ◌≤◌, ◌^◌, cond, List, [], ◌∷◌, ◌++◌, None, Some, Ok, Err, Result, length, take, drop, position, inl, refl, sym, ap, subst, ◌∙◌, arith}
use Rattle.std.specs.Prelude.{IfOk}
use Rattle.std.specs.List.{list_any}
use Rattle.std.specs.Result.{IsErrOf}
use Rattle.std.proofs.lemmas.Bool.{or_parts}
use Rattle.std.proofs.lemmas.List.{append_assoc, length-append}
use Rattle.std.proofs.lemmas.List.Splits.{join_with_byte-slice_split}
use Rattle.std.proofs.lemmas.List.Sums.{count_by-le-length, sum_by-append, sum_by-cons}
use Rattle.ml_base.specs.Structure.{IsStructure}
use Rattle.ml_base.specs.declared.doc_fault.DocFault.{DocFault}
use Rattle.ml_base.specs.declared.doc_refusal.DocRefusal.{DocRefusal}
use Rattle.ml_base.specs.declared.doc_refusal.DocRefusal.TheVariants as refusal
use Rattle.ml_base.specs.declared.version.Version.TheVariants.{Two}
use Rattle.ml_kripke.specs.BodyRules as model
use Rattle.ml_kripke.specs.ModelText.{model_text}
use Rattle.ml_kripke.specs.Ordered.{HasNames, IsOrdered}
use Rattle.ml_kripke.specs.declared.model.Model.{Model}
use Rattle.ml_lines.specs.Lines.{Line}
use Rattle.ml_lines.specs.Reading.{is_line_end, words_of}
use Rattle.ml_lines.proofs.Cuts.{line_at, line_none}
use Rattle.ml_lines.proofs.LineFronts.{IsInLine}
use Rattle.ml_lists.specs.Documents.{Rule, IsFirstBroken}
use Rattle.ml_refutation.specs.declared.refutation.Refutation.{Refutation}
use Rattle.ml_refutation_text.specs.BodyRules as refutation
use Rattle.ml_answers.specs.Documents.{IsModel, IsRefutationOf}
use Rattle.ml_answers.specs.RuleNumbers.{rule_number}
use Rattle.ml_answers.specs.Rules.{fixed_rules, IsBehind, IsLineFault, IsModelFault, IsRefutationFault}
use Rattle.ml_answers.specs.Texts.{first_of, line_count, next_line, up_to_end, IsLine, IsNothing, IsThen}
use Rattle.ml_answers.specs.declared.rest.Rest.{Rest}
use Rattle.ml_answers.specs.declared.rule.AnswersRule.TheVariants.{OfKind}
use Rattle.ml_answers.specs.private.Plain.{plain}
use Rattle.ml_answers.specs.private.Reads.{HasRoom, IsNext, Takes, TellsFault}
use Rattle.ml_answers.proofs.FirstLines.{first_in_line, text_at}

-- ---- LFs

pub count_append : (xs ys : List ℕ) → line_count (xs ++ ys) ≡ line_count xs + line_count ys
count_append xs ys = sum_by-append (λ b. cond (is_line_end b) 1 0) xs ys

count_le : (xs : List ℕ) → line_count xs ≤ length xs
count_le xs = count_by-le-length is_line_end xs

pub count_in_line : (xs : List ℕ) → IsInLine xs → line_count xs ≡ 0
count_in_line [] is = refl
count_in_line (x ∷ xs) is =
    let parts = or_parts (is_line_end x) (list_any is_line_end xs) is in
    sum_by-cons (λ b. cond (is_line_end b) 1 0) x xs
    ∙ ap (λ b. cond b 1 0 + line_count xs) parts.0
    ∙ omega (arith, count_in_line xs parts.1)

-- ---- steps

module _ (P Q : List ℕ → Type 0) (at rest : Rest) where
  pub room_behind : Takes P at rest → HasRoom at → HasRoom rest
  room_behind takes room =
      omega (
        arith,
        room,
        takes.is_line,
        count_le takes.front,
        ap length takes.are_both,
        length-append takes.front rest.text.now,
      )

  pub takes_as : ((t : List ℕ) → P t → Q t) → Takes P at rest → Takes Q at rest
  takes_as turn takes = record {
    front = takes.front;
    are_both = takes.are_both;
    is_front = turn takes.front takes.is_front;
    is_line = takes.is_line;
  }

  pub takes_both : (mid : Rest) → Takes P at mid → Takes Q mid rest → Takes (IsThen P Q) at rest
  takes_both mid one other = record {
    front = one.front ++ other.front;
    are_both =
        one.are_both
        ∙ ap (λ t. one.front ++ t) other.are_both
        ∙ sym (append_assoc one.front other.front rest.text.now);
    is_front = record {
      first = one.front;
      second = other.front;
      are_both = refl;
      is_first = one.is_front;
      is_second = other.is_front;
    };
    is_line = omega (arith, one.is_line, other.is_line, count_append one.front other.front);
  }

pub takes_nothing : (at : Rest) → Takes IsNothing at at
takes_nothing at = record { front = []; are_both = refl; is_front = refl; is_line = omega arith }

pub fault_behind : (P : List ℕ → Type 0) (F : ℕ → List ℕ → DocFault → Type 0) (at rest : Rest) (e : DocRefusal)
    → Takes P at rest
    → TellsFault F rest e
    → TellsFault (IsBehind P F) at e
fault_behind P F at rest (refusal.Fault fault) takes tells = record {
  front = takes.front;
  rest = rest.text.now;
  are_both = takes.are_both;
  is_front = takes.is_front;
  is_fault = subst (λ k. F k rest.text.now fault) takes.is_line tells;
}
fault_behind P F at rest refusal.NoMemory takes tells = tt

pub fault_as : (F G : ℕ → List ℕ → DocFault → Type 0) (at : Rest) (e : DocRefusal)
    → ((fault : DocFault) → F at.line at.text.now fault → G at.line at.text.now fault)
    → TellsFault F at e
    → TellsFault G at e
fault_as F G at (refusal.Fault fault) turn tells = turn fault tells
fault_as F G at refusal.NoMemory turn tells = tt

-- ---- lines

pub next_is : (at rest : Rest) (end : ℕ)
    → position is_line_end at.text.now ≡ Some end
    → rest.text.now ≡ drop (end + 1) at.text.now
    → rest.line ≡ at.line + 1
    → IsNext at (take end at.text.now) rest
next_is at rest end some behind line =
    let text = at.text.now in
    let front = take end text in
    let none = count_in_line front (first_in_line text end some) in
    record {
      has_words = ap first_of (line_at text end some).0;
      takes = record {
        front = front ++ 10 ∷ [];
        are_both =
            text_at text end some
            ∙ ap (λ t. front ++ 10 ∷ t) (sym behind)
            ∙ sym (append_assoc front (10 ∷ []) rest.text.now);
        is_front = ap (λ l. l ++ 10 ∷ []) (sym (join_with_byte-slice_split 32 front));
        is_line = omega (arith, line, none, count_append front (10 ∷ []));
      };
    }

pub no_next : (at : Rest) → position is_line_end at.text.now ≡ None → next_line at.text.now ≡ []
no_next at none = ap first_of (line_none at.text.now none).0

pub told_here : (rules : List (Rule Line)) (at : Rest) (e : DocRefusal) (n : ℕ)
    → e ≡ refusal.Fault (record { line = at.line; rule = n })
    → IsFirstBroken rules (next_line at.text.now) n
    → TellsFault (IsLineFault rules) at e
told_here rules at e n is broken = subst (TellsFault (IsLineFault rules) at) (sym is) (refl, broken)

pub other_line : (words ws : Line) → ¬ (words ≡ ws) → IsFirstBroken (fixed_rules ws) words (rule_number OfKind)
other_line words ws ne = inl (refl, ne)

-- ---- bodies

pub model_taken : (m : Model) (body : List ℕ) (at rest : Rest)
    → Takes (λ t. t ≡ body) at rest
    → body ≡ model_text m.structure m.start
    → HasNames m.structure
    → IsStructure m.structure
    → IsOrdered m.structure
    → m.structure.states < 2 ^ 32
    → Takes (IsModel m.structure m.start) at rest
model_taken m body at rest takes text names structure ordered fits =
    takes_as (λ t. t ≡ body) (IsModel m.structure m.start) at rest
    (λ t is. (
      record { is_structure = structure; has_names = names; fits = fits; is_state = m.is_state },
      ordered,
      is ∙ text,
    )) takes

pub tells_model : (at : Rest) (body : List ℕ) (e : DocRefusal)
    → body ≡ up_to_end at.text.now
    → ((fault : DocFault) → IsErrOf {T = Model} (Err e) (refusal.Fault fault) → model.IsFaultOf body at.line fault)
    → TellsFault IsModelFault at e
tells_model at body (refusal.Fault fault) is refused =
    subst (λ t. model.IsFaultOf t at.line fault) is (refused fault refl)
tells_model at body refusal.NoMemory is refused = tt

pub refutation_taken : (r : Refutation) (body : List ℕ) (at rest : Rest)
    → Takes (λ t. t ≡ body) at rest
    → refutation.IsTextOf Two body (plain r)
    → Takes (IsRefutationOf (plain r)) at rest
refutation_taken r body at rest takes text =
    takes_as (λ t. t ≡ body) (IsRefutationOf (plain r)) at rest
    (λ t is. (r.is_refutation, subst (λ b. refutation.IsTextOf Two b (plain r)) (sym is) text)) takes

pub tells_refutation : {R : Type 0} (at : Rest) (body : List ℕ) (e : DocRefusal)
    → body ≡ up_to_end at.text.now
    → ((fault : DocFault) → IsErrOf {T = R} (Err e) (refusal.Fault fault) → refutation.IsFaultOf Two body at.line fault)
    → TellsFault IsRefutationFault at e
tells_refutation at body (refusal.Fault fault) is refused =
    subst (λ t. refutation.IsFaultOf Two t at.line fault) is (refused fault refl)
tells_refutation at body refusal.NoMemory is refused = tt

-- ---- the body that comes next

pub line_fits : (at : Rest) (front rest : List ℕ)
    → at.text.now ≡ front ++ rest
    → HasRoom at
    → at.line + line_count front ≤ 2 ^ 63
line_fits at front rest both room = omega (arith, room, count_le front, ap length both, length-append front rest)

pub body_taken : (at rest : Rest) (body : List ℕ)
    → at.text.now ≡ body ++ rest.text.now
    → rest.line ≡ at.line + line_count body
    → Takes (λ t. t ≡ body) at rest
body_taken at rest body both line = record { front = body; are_both = both; is_front = refl; is_line = line }

pub line_taken : (at rest : Rest) (line : List ℕ) (ws : Line) → IsNext at line rest → words_of line ≡ ws → Takes (IsLine ws) at rest
line_taken at rest line ws next is = subst (λ vs. Takes (IsLine vs) at rest) is next.takes

pub next_room : (at rest : Rest) (line : List ℕ) → IsNext at line rest → HasRoom at → HasRoom rest
next_room at rest line next room = room_behind (IsLine (words_of line)) (IsLine (words_of line)) at rest next.takes room

pub if_ok_both : {R E : Type 0} (r : Result R E) (P Q W : R → Type 0)
    → ((x : R) → P x → Q x → W x)
    → IfOk r P
    → IfOk r Q
    → IfOk r W
if_ok_both (Ok x) P Q W turn is so = turn x is so
if_ok_both (Err e) P Q W turn is so = tt
