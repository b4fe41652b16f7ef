-- The context behind one item more: what becomes known by each kind of statement.
--
--   no_context       == in front of all items nothing is known
--   repeated_context, signals_context, enumeration_context, definition_context, stated_context == the context behind such a
--                       statement
--   items_more       == the items that one statement more means
--   stated_meant, enumeration_meant, definition_meant == what is meant behind such a statement
--   stated_large     == a statement that means too large a formula is the first, or none before it was
use Rattle.std.proofs.Common.{◌≡◌, ℕ, ◌<◌, ◌≤◌, List, [], ◌∷◌, ◌++◌, Some, None, sym, ap, subst, ◌∙◌, arith, append_assoc}
use Rattle.std.proofs.lemmas.List.{append-nil}
use Rattle.ml_text.specs.Limits.{most_occurrences}
use Rattle.ml_front.specs.Connectives.{occurrences}
use Rattle.ml_front.specs.Definitions.{definitions_in, logic_defined}
use Rattle.ml_front.specs.declared.logic.Logic.{Logic}
use Rattle.ml_front.specs.declared.problem.AnyFormula.{AnyFormula}
use Rattle.ml_front.specs.declared.replacing.Definitions.{Definitions}
use Rattle.ml_spec.specs.Known.{known, known_behind, known_from, nothing, Known}
use Rattle.ml_spec.specs.Meaning.{formula_of, items_from, items_meant, items_of, IsLarge}
use Rattle.ml_spec.specs.Statements.{Statement}
use Rattle.ml_spec.specs.declared.context.Context.{Context}
use Rattle.ml_spec.specs.declared.specification.Item.{Item}
use Rattle.ml_spec.specs.private.Stages.{AreAllMeant, AreMeant, IsContextOf, IsFirstLarge}
use Rattle.ml_spec.proofs.LargeFormulas.{known_more, large_now, large_stays, none_more}

-- ---- the items of one statement more

items_from_more : (l : Logic) (k : Known) (ss : List Statement) (s : Statement)
    → items_from l k (ss ++ s ∷ []) ≡ items_from l k ss ++ items_of l (known_from k ss).definitions s.says
items_from_more l k [] s = append-nil (items_of l k.definitions s.says)
items_from_more l k (t ∷ ts) s =
    ap (λ xs. items_of l k.definitions t.says ++ xs) (items_from_more l (known_behind k t.says) ts s)
    ∙ sym (append_assoc (items_of l k.definitions t.says) (items_from l (known_behind k t.says) ts)
    (items_of l (known_from (known_behind k t.says) ts).definitions s.says))

pub items_more : (l : Logic) (ss : List Statement) (s : Statement)
    → items_meant l (ss ++ s ∷ []) ≡ items_meant l ss ++ items_of l (known ss).definitions s.says
items_more l ss s = items_from_more l nothing ss s

-- ---- what is meant

module _ (l : Logic) (ss : List Statement) (s : Statement) where
  -- a statement whose formula isn't too large
  pub meant_more : (xs ys : List Item) (ds es : Definitions)
      → AreAllMeant l ss xs ds
      → ¬ (IsLarge l (known ss).definitions s.says)
      → ys ≡ xs ++ items_of l (known ss).definitions s.says
      → definitions_in es ≡ (known_behind (known ss) s.says).definitions
      → AreAllMeant l (ss ++ s ∷ []) ys es
  meant_more xs ys ds es all small items definitions = record {
    are_items = items ∙ ap (λ zs. zs ++ items_of l (known ss).definitions s.says) all.are_items ∙ sym (items_more l ss s);
    are_definitions = definitions ∙ sym (ap (λ k. k.definitions) (known_more ss s));
    none_is_large = none_more l ss s all.none_is_large small;
  }

  -- a statement whose formula is
  pub meant_large : (xs : List Item) (ds : Definitions)
      → AreAllMeant l ss xs ds
      → IsLarge l (known ss).definitions s.says
      → IsFirstLarge l (ss ++ s ∷ []) s.at
  meant_large xs ds all large = large_now l ss s all.none_is_large large

  -- one behind such a statement
  pub meant_behind : (at : ℕ) → IsFirstLarge l ss at → IsFirstLarge l (ss ++ s ∷ []) at
  meant_behind at first = large_stays l ss s at first

  -- the formula that it means is all there is to it
  pub not_large : (f : AnyFormula)
      → formula_of l (known ss).definitions s.says ≡ Some f
      → occurrences f ≤ most_occurrences
      → ¬ (IsLarge l (known ss).definitions s.says)
  not_large f means small large =
      let same : large.formula ≡ f = one large.formula (sym large.means ∙ means) in
      let le = subst (λ g. most_occurrences < occurrences g) same large.is_large in
      omega (arith, small, le)
    where
      one : (g : AnyFormula) → Some g ≡ Some f → g ≡ f
      one g e = cc

  pub none_large : formula_of l (known ss).definitions s.says ≡ None → ¬ (IsLarge l (known ss).definitions s.says)
  none_large none large = never large.formula (sym none ∙ large.means)
    where
      never : (f : AnyFormula) → None ≡ Some f → ⊥
      never f e = cc

-- ---- the context

module _ (l : Logic) (ss : List Statement) (s : Statement) (c e : Context) (is : IsContextOf l ss c) where
  -- where each part is that behind s
  pub context_more : e.names.keys ≡ (known_behind (known ss) s.says).names
      → e.declared.entries ≡ (known_behind (known ss) s.says).declared
      → e.spoken.keys ≡ (known_behind (known ss) s.says).spoken
      → e.has_signals ≡ (known_behind (known ss) s.says).has_signals
      → logic_defined e.meanings.definitions ≡ l
      → AreMeant l (ss ++ s ∷ []) e.meanings.items.items e.meanings.definitions e.meanings.large
      → IsContextOf l (ss ++ s ∷ []) e
  context_more names declared spoken signals logic meant = record {
    are_names = names ∙ sym (ap (λ k. k.names) (known_more ss s));
    are_declared = declared ∙ sym (ap (λ k. k.declared) (known_more ss s));
    are_spoken = spoken ∙ sym (ap (λ k. k.spoken) (known_more ss s));
    are_signals = signals ∙ sym (ap (λ k. k.has_signals) (known_more ss s));
    of_logic = logic;
    are_meant = meant;
  }
