-- Signs that do the same, but for what they make: where a text goes on with the one, it goes on with the other.
--
--   goes_alike  == the machine has a step behind the one exactly where it has one behind the other
use Rattle.std.proofs.Common.{◌≡◌, Option, Some, None, is_some, refl, sym, ◌∙◌, ap}
use Rattle.ml_text.specs.Grammar.{Grammar, Mode, Whole, More, Turn, Read, Inner, Opens, role_takes}
use Rattle.ml_text.specs.declared.forms.Role.{Role}
use Rattle.ml_text.specs.declared.forms.Role.TheVariants.{Infix, Postfix, Outside}
use Rattle.ml_text.specs.private.Machine.{Stack, begin, enter, take_sign, sort_of, step, resolve, reduce}
use Rattle.ml_text.specs.private.Tables.{Shape, Stuck, Goes, Begins, shape_of, IsLike}
use Rattle.ml_text.proofs.Reduce.{resolved, behind-reduce, reduce-same}

-- does the machine have a step behind a sign of this shape with which no operand begins?
abbrev begins_by : (g : Grammar) → Shape g.Sort → Rattle.std.specs.Prelude.Bool
begins_by g Stuck = Rattle.std.specs.Prelude.false
begins_by g Goes = Rattle.std.specs.Prelude.true
begins_by g (Begins s) = Rattle.std.specs.Prelude.false

begins_shape : (g : Grammar) (stack : Stack g) (o : Option (Turn g.Tree g.Wait g.Hold))
    → is_some (begin g stack o) ≡ begins_by g (shape_of g o)
begins_shape g stack None = refl
begins_shape g stack (Some (Read m)) = refl
begins_shape g stack (Some (Inner k)) = refl
begins_shape g stack (Some (Opens k)) = refl

-- and behind a sign t of any shape?
abbrev enters_by : (g : Grammar) → g.Sign → Shape g.Sort → Rattle.std.specs.Prelude.Bool
enters_by g t Stuck = Rattle.std.specs.Prelude.false
enters_by g t Goes = Rattle.std.specs.Prelude.true
enters_by g t (Begins s) = begins_by g (shape_of g (g.shift (g.start s) t))

enters_shape : (g : Grammar) (stack : Stack g) (t : g.Sign) (o : Option (Turn g.Tree g.Wait g.Hold))
    → is_some (enter g stack t o) ≡ enters_by g t (shape_of g o)
enters_shape g stack t None = refl
enters_shape g stack t (Some (Read m)) = refl
enters_shape g stack t (Some (Inner k)) = refl
enters_shape g stack t (Some (Opens k)) = begins_shape g _ (g.shift (g.start (g.sort k)) t)

enters_same : (g : Grammar) (t u : g.Sign) → IsLike g t u → (a : Shape g.Sort) → enters_by g t a ≡ enters_by g u a
enters_same g t u like Stuck = refl
enters_same g t u like Goes = refl
enters_same g t u like (Begins s) = ap (begins_by g) (like.shift (g.start s))

enters_alike : (g : Grammar) (t u : g.Sign)
    → IsLike g t u
    → (stack : Stack g) (q : g.Wait)
    → is_some (enter g stack t (g.shift q t)) ≡ is_some (enter g stack u (g.shift q u))
enters_alike g t u like stack q =
    enters_shape g stack t (g.shift q t)
    ∙ ap (enters_by g t) (like.shift q)
    ∙ enters_same g t u like (shape_of g (g.shift q u))
    ∙ sym (enters_shape g stack u (g.shift q u))

postfix_some : {A B : Type 0} (f : A → B) (o : Option A) → is_some (Rattle.std.specs.Option.option_map f o) ≡ is_some o
postfix_some f None = refl
postfix_some f (Some a) = refl

takes_alike : (g : Grammar) (t u : g.Sign)
    → IsLike g t u
    → (stack : Stack g) (v : g.Tree) (r : Role)
    → is_some (take_sign g stack v t r) ≡ is_some (take_sign g stack v u r)
takes_alike g t u like stack v (Infix m) = refl
takes_alike g t u like stack v Postfix = postfix_some _ (g.post t v) ∙ like.post v ∙ sym (postfix_some _ (g.post u v))
takes_alike g t u like stack v Outside = refl

resolves_alike : (g : Grammar) (t u : g.Sign)
    → IsLike g t u
    → (m : Mode g.Tree g.Wait) (stack : Stack g)
    → is_some (resolve g m stack t) ≡ is_some (resolve g m stack u)
resolves_alike g t u like (Whole v) stack =
    takes_alike g t u like stack v (g.role (sort_of g stack) t)
    ∙ ap (λ r. is_some (take_sign g stack v u r)) (like.role (sort_of g stack))
resolves_alike g t u like (More q) stack = enters_alike g t u like stack q

pub goes_alike : (g : Grammar) (t u : g.Sign)
    → IsLike g t u
    → (m : Mode g.Tree g.Wait) (stack : Stack g)
    → is_some (step g m stack t) ≡ is_some (step g m stack u)
goes_alike g t u like (More q) stack = enters_alike g t u like stack q
goes_alike g t u like (Whole v) stack =
    ap is_some (behind-reduce g stack v t)
    ∙ ap (λ s. is_some (resolved g t s)) (reduce-same g (Some t) (Some u) (λ s l. ap (role_takes l) (like.role s)) stack
    v)
    ∙ resolves_alike g t u like (reduce g (Some u) stack v).0 (reduce g (Some u) stack v).1
    ∙ sym (ap is_some (behind-reduce g stack v u))
