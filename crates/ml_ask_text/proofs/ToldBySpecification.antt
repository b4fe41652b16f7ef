-- What is told of a text depends on the specification alone that it is.
use Rattle.std.proofs.Common.{List, ℕ, subst}
use Rattle.ml_front.specs.declared.logic.Logic.{Logic}
use Rattle.ml_spec.specs.Specification.{IsSpecification}
use Rattle.ml_spec.specs.declared.specification.Item.{Item}
use Rattle.ml_spec.proofs.OneAnswer.{never_both, one_specification}
use Rattle.ml_ask_text.specs.Laws.{ToldBySpecification}
use Rattle.ml_ask_text.specs.Told.{IsAnswered}
use Rattle.ml_ask_text.specs.declared.told.Form.{Form}
use Rattle.ml_ask_text.specs.declared.told.Told.TheVariants.{Answered, Refused}
use Rattle.ml_ask_text.specs.declared.told.Verdict.{Verdict}

answered : (f : Form) (text other : List ℕ) (l : Logic) (xs : List Item) (n : ℕ) (v : Verdict) (out : List ℕ)
    → IsSpecification text l xs
    → IsSpecification other l xs
    → IsAnswered f text n v out
    → IsAnswered f other n v out
answered f text other l xs n v out one two told =
    let same = one_specification text l told.logic xs told.items one told.is_specification in
    record {
      logic = told.logic;
      items = told.items;
      replies = told.replies;
      is_specification =
          subst (λ k. IsSpecification other k told.items) same.0 (subst (λ ys. IsSpecification other l ys) same.1 two);
      are_replies = told.are_replies;
      is_verdict = told.is_verdict;
      is_written = told.is_written;
    }

pub told_by_specification : ToldBySpecification
told_by_specification f text other l xs n (Answered v out) one two told = answered f text other l xs n v out one two told
told_by_specification f text other l xs n (Refused line column rule) one two told =
    absurd (never_both text l xs line column rule one told)
