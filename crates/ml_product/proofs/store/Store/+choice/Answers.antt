-- The choice of the parent, with one side more.
use Rattle.std.proofs.Common.{ℕ, ◌≡◌, ◌<◌, List, None, subst, sym, ap, ◌∙◌, arith}
use Rattle.std.proofs.lemmas.Result.{IfOk-weaker}
use Rattle.ml_sequent.specs.declared.choice.Side.{Side}
use Rattle.ml_sequent.specs.Choice.{side_of, with_side}
use Rattle.ml_product.specs.declared.stored.Stored.{Stored}
use Rattle.ml_product.specs.declared.stored.Link.TheVariants as link
use Rattle.ml_product.specs.Placed.{Placed, choice_at}
use Rattle.ml_product.specs.private.Links.{choice_under, HasParent, IsLinked}
use Rattle.ml_product.proofs.store.Store.+choice.Goals as goal

parent_of : (ps : List Placed) (v : ℕ) (x : Stored) (parent node : ℕ) (side : Side) → IsLinked ps v x
    → x.link ≡ link.Chosen parent node side
    → (parent < v) × (side_of (choice_at ps parent) node ≡ None)
parent_of ps v x parent node side l is = subst (HasParent ps v) is l.parent

choice_is : (ps : List Placed) (v : ℕ) (x : Stored) (parent node : ℕ) (side : Side) → IsLinked ps v x
    → x.link ≡ link.Chosen parent node side
    → choice_at ps v ≡ with_side (choice_at ps parent) node side
choice_is ps v x parent node side l is = ap (λ (p : Placed). p.choice) l.is ∙ ap (choice_under ps) is

no_side : (ps : List Placed) (v : ℕ) (x : Stored) (parent node : ℕ) (side : Side) (c : List (ℕ × Side)) → IsLinked ps v x
    → x.link ≡ link.Chosen parent node side
    → c ≡ choice_at ps parent
    → side_of c node ≡ None
no_side ps v x parent node side c l is same =
    ap (λ d. side_of d node) same ∙ (parent_of ps v x parent node side l is).1

pub choice-requires : goal.choice-requires
choice-requires t c =
    let has = parent_of c.args.self.now c.args.v c.at.result.now c.in-Chosen.parent c.in-Chosen.node c.in-Chosen.side
    c.at.ensures c.in-Chosen.is in
    (omega (arith, has.0, c.decreases), tt)

pub with-requires : goal.with-requires
with-requires t c =
    no_side c.args.self.now c.args.v c.at.result.now c.in-Chosen.parent c.in-Chosen.node c.in-Chosen.side
    c.in_ok-choice-in-Chosen.field-0 c.at.ensures c.in-Chosen.is c.in_ok-choice-in-Chosen.ensures

pub returns-in-Unchosen : goal.returns-in-Unchosen
returns-in-Unchosen t c =
    c.empty-in-Unchosen.ensures
    ∙ sym (ap (λ (p : Placed). p.choice) c.at.ensures.is ∙ ap (choice_under c.args.self.now) c.in-Unchosen.is)

pub returns-in_ok-choice-in-Chosen : goal.returns-in_ok-choice-in-Chosen
returns-in_ok-choice-in-Chosen t c =
    IfOk-weaker c.with-in-Chosen.result _ _
    (λ d is. is ∙ ap (λ e. with_side e c.in-Chosen.node c.in-Chosen.side) c.in_ok-choice-in-Chosen.ensures
    ∙ sym (choice_is c.args.self.now c.args.v c.at.result.now c.in-Chosen.parent c.in-Chosen.node c.in-Chosen.side
    c.at.ensures c.in-Chosen.is))
    c.with-in-Chosen.ensures
