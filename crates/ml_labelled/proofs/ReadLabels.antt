-- What is written of a cube is a label of the grammar.
--
--   LiteralRead, RestRead, LabelRead == what stands in the text is such a part of a label, and has its guard
--   literal_read, rest_read, label_read == so it is
use Rattle.std.proofs.Common.{ℕ, ◌≡◌, ◌+◌, ◌*◌, ◌<◌, ◌≤◌, ◌^◌, Bool, true, false, cond, nat_le, List, [], ◌∷◌, ◌++◌, length, Option, Some, None, inl, inr, refl, sym, ap, ◌∙◌, arith, append_assoc}
use Rattle.std.specs.List.{flat_map}
use Rattle.std.proofs.lemmas.Bool.Decides.{nat_tests}
use Rattle.ml_lines.specs.Lines.{number}
use Rattle.ml_lines.proofs.Numbers.{value-number}
use Rattle.ml_text.specs.Bytes.{is_digit}
use Rattle.ml_lists.specs.Member.{IsMember}
use Rattle.ml_hoa.specs.Automaton as hoa
use Rattle.ml_hoa.specs.AutomatonText.{guard_with, joined, label_faults, most_inside, number_of, operators_in, past}
use Rattle.ml_hoa.specs.Grammar as grammar
use Rattle.ml_hoa.specs.Grammar.{Conjunction, Disjunction, Label, Numeral, label_tokens}
use Rattle.ml_hoa.specs.Tokens.{Plain, tokens_at}
use Rattle.ml_hoa.specs.declared.token.Mark.TheVariants as mark
use Rattle.ml_labelled.specs.declared.labelled.Literal.{Literal}
use Rattle.ml_labelled.specs.LabelledText.{guard_of, guard_on, label, literal_guard, literal_text, next_literal}
use Rattle.ml_labelled.proofs.WrittenTokens.{number_read, signs_at}

abbrev pub numeral : ℕ → ℕ → Numeral
numeral n i = record { digits = number n; at = i }

pub numeral_is : (n i : ℕ) → n < 2 ^ 32 → number_of (numeral n i) ≡ n
numeral_is n i small = value-number n (omega arith)

-- a number that is low enough is in range
pub in_range : (k : ℕ) (n : Numeral) → number_of n < k → past k n ≡ []
in_range k n low = by (nat_le k (number_of n)) refl
  where
    by : (b : Bool) → nat_le k (number_of n) ≡ b → past k n ≡ []
    by true is = let high : k ≤ number_of n = grind (arith, nat_tests) in absurd (omega arith)
    by false is = ap (λ b. cond b (n.at ∷ []) []) is

not_read : (i : ℕ) (rest : List ℕ) → signs_at i (33 ∷ rest) ≡ Plain mark.Not ∷ signs_at (i + 1) rest
unfolding tokens_at
not_read i rest = refl

and_read : (i : ℕ) (rest : List ℕ) → signs_at i (38 ∷ rest) ≡ Plain mark.And ∷ signs_at (i + 1) rest
unfolding tokens_at
and_read i rest = refl

truth_read : (i : ℕ) (rest : List ℕ) → signs_at i (116 ∷ 93 ∷ rest) ≡ Plain mark.Truth ∷ signs_at (i + 1) (93 ∷ rest)
unfolding tokens_at
truth_read i rest = refl

module _ (k : ℕ) (small : k < 2 ^ 32) where
  -- ---- literals, behind which a byte stands that is no digit

  pub record LiteralRead (l : Literal) (i b : ℕ) (r : List ℕ) : Type 0 where
    pub text : Label grammar.Literal
    pub behind : ℕ
    pub reads : signs_at i (literal_text l ++ b ∷ r) ≡ label_tokens text ++ signs_at behind (b ∷ r)
    pub guard : guard_with number_of None text ≡ literal_guard l
    pub no_fault : label_faults k text ≡ []
    pub few : operators_in text ≤ 1
    pub flat : most_inside text ≡ 0

  literal_read : (l : Literal) (i b : ℕ) (r : List ℕ) → l.prop < k → is_digit b ≡ false → LiteralRead l i b r
  literal_read l i b r low other = by l.positive refl
    where
      fits : (at : ℕ) → past k (numeral l.prop at) ≡ []
      fits at = let is = numeral_is l.prop at (omega arith) in in_range k (numeral l.prop at) (omega arith)

      by : (s : Bool) → l.positive ≡ s → LiteralRead l i b r
      by true is =
          let read = number_read l.prop i b r (omega arith) other in record {
            text = grammar.Ap (numeral l.prop i);
            behind = read.0;
            reads = ap (λ s. signs_at i (cond s (number l.prop) (33 ∷ number l.prop) ++ b ∷ r)) is ∙ read.1;
            guard =
                ap hoa.Ap (numeral_is l.prop i (omega arith))
                ∙ ap (λ s. cond s (hoa.Ap l.prop) (hoa.Not (hoa.Ap l.prop))) (sym is);
            no_fault = fits i;
            few = omega arith;
            flat = refl;
          }
      by false is =
          let read = number_read l.prop (i + 1) b r (omega arith) other in record {
            text = grammar.Not (grammar.Ap (numeral l.prop (i + 1)));
            behind = read.0;
            reads =
                ap (λ s. signs_at i (cond s (number l.prop) (33 ∷ number l.prop) ++ b ∷ r)) is
                ∙ not_read i (number l.prop ++ b ∷ r)
                ∙ ap (λ ts. Plain mark.Not ∷ ts) read.1;
            guard =
                ap (λ n. hoa.Not (hoa.Ap n)) (numeral_is l.prop (i + 1) (omega arith))
                ∙ ap (λ s. cond s (hoa.Ap l.prop) (hoa.Not (hoa.Ap l.prop))) (sym is);
            no_fault = fits (i + 1);
            few = omega arith;
            flat = refl;
          }

  -- ---- literals joined, up to the bracket

  pub record RestRead (l : Literal) (ls : List Literal) (i : ℕ) (r : List ℕ) : Type 0 where
    pub text : Label Conjunction
    pub behind : ℕ
    pub reads : signs_at i (literal_text l ++ (flat_map next_literal ls ++ 93 ∷ r)) ≡ label_tokens text ++ signs_at behind (93 ∷ r)
    pub guard : (before : Option hoa.Guard)
        → guard_with number_of before text ≡ guard_on (joined hoa.And before (literal_guard l)) ls
    pub no_fault : label_faults k text ≡ []
    pub few : operators_in text ≤ 2 * length ls + 1
    pub flat : most_inside text ≡ 0

  rest_read : (l : Literal) (ls : List Literal) (i : ℕ) (r : List ℕ)
      → l.prop < k
      → ((m : Literal) → IsMember m ls → m.prop < k)
      → RestRead l ls i r
  rest_read l [] i r low all =
      let here = literal_read l i 93 r low refl in record {
        text = grammar.Last here.text;
        behind = here.behind;
        reads = here.reads;
        guard = λ before. ap (joined hoa.And before) here.guard;
        no_fault = here.no_fault;
        few = let few = here.few in omega arith;
        flat = here.flat;
      }
  rest_read l (m ∷ ms) i r low all =
      let tail = literal_text m ++ (flat_map next_literal ms ++ 93 ∷ r) in
      let here = literal_read l i 38 tail low refl in
      let rest = rest_read m ms (here.behind + 1) r (all m (inl refl)) (λ n is. all n (inr is)) in record {
        text = grammar.And here.text rest.text;
        behind = rest.behind;
        reads =
            ap (λ text. signs_at i (literal_text l ++ text)) (append_assoc (next_literal m) (flat_map next_literal ms) (93 ∷ r))
            ∙ here.reads
            ∙ ap (λ ts. label_tokens here.text ++ ts)
            (and_read here.behind tail ∙ ap (λ ts. Plain mark.And ∷ ts) rest.reads)
            ∙ sym (append_assoc (label_tokens here.text) (Plain mark.And ∷ label_tokens rest.text) (signs_at rest.behind (93 ∷ r)));
        guard = λ before.
            ap (λ g. guard_with number_of (Some (joined hoa.And before g)) rest.text) here.guard
            ∙ rest.guard (Some (joined hoa.And before (literal_guard l)));
        no_fault = ap (λ fs. fs ++ label_faults k rest.text) here.no_fault ∙ rest.no_fault;
        few = let few = here.few in let more = rest.few in omega arith;
        flat = let one = here.flat in let other = rest.flat in omega arith;
      }

  -- ---- labels, up to the bracket

  pub record LabelRead (c : List Literal) (i : ℕ) (r : List ℕ) : Type 0 where
    pub text : Label Disjunction
    pub behind : ℕ
    pub reads : signs_at i (label c ++ 93 ∷ r) ≡ label_tokens text ++ signs_at behind (93 ∷ r)
    pub guard : guard_with number_of None text ≡ guard_of c
    pub no_fault : label_faults k text ≡ []
    pub few : operators_in text ≤ 2 * length c
    pub flat : most_inside text ≡ 0

  pub label_read : (c : List Literal) (i : ℕ) (r : List ℕ)
      → ((m : Literal) → IsMember m c → m.prop < k)
      → LabelRead c i r
  label_read [] i r all = record {
    text = grammar.Least (grammar.Last (grammar.Const true));
    behind = i + 1;
    reads = truth_read i r;
    guard = refl;
    no_fault = refl;
    few = omega arith;
    flat = refl;
  }
  label_read (l ∷ ls) i r all =
      let rest = rest_read l ls i r (all l (inl refl)) (λ n is. all n (inr is)) in record {
        text = grammar.Least rest.text;
        behind = rest.behind;
        reads =
            ap (signs_at i) (append_assoc (literal_text l) (flat_map next_literal ls) (93 ∷ r)) ∙ rest.reads;
        guard = rest.guard None;
        no_fault = rest.no_fault;
        few = let few = rest.few in omega arith;
        flat = rest.flat;
      }
