-- Items that are read as next statements, and the context behind each.
--
--   meant_same          == a statement without a formula changes nothing of what is meant
--   repeated_stepped, signals_stepped, enumeration_stepped, definition_stepped, stated_stepped == an item of each kind is a next
--                          statement, and this is the context behind it
use Rattle.std.proofs.Common.{◌≡◌, ℕ, ◌<◌, true, List, [], ◌∷◌, ◌++◌, length, bytes_eq, Contains, Option, None, Some, refl, sym, ap, subst, ◌∙◌, arith}
use Rattle.std.proofs.lemmas.List.{append-nil}
use Rattle.std.specs.Map.{keys_of}
use Rattle.indexmap.specs.IndexMap.{insert_entry}
use Rattle.ml_lists.specs.Member.{IsMember}
use Rattle.ml_text.specs.NameLists.{with_names}
use Rattle.ml_front.specs.Definitions.{logic_defined}
use Rattle.ml_front.specs.Logics.{logic_word}
use Rattle.ml_front.specs.declared.logic.Logic.{Logic}
use Rattle.ml_front.specs.declared.replacing.Definitions.{Definitions}
use Rattle.ml_spec.specs.ItemParts.{behind_kind, name_of, signals_of, text_of, values_of, HasColon, HasKind, HasText}
use Rattle.ml_spec.specs.Items.{ItemText}
use Rattle.ml_spec.specs.Known.{known, with_all, AreAllDeclared, IsDeclared}
use Rattle.ml_spec.specs.Known as knowing
use Rattle.ml_spec.specs.Meaning.{formula_of, items_of}
use Rattle.ml_spec.specs.Specification.{most_items}
use Rattle.ml_spec.specs.Statements.{is_value, value_names, IsWrittenIn, Statement}
use Rattle.ml_spec.specs.Statements as says
use Rattle.ml_spec.specs.Words.{words_of}
use Rattle.ml_spec.specs.declared.context.Context.{Context}
use Rattle.ml_spec.specs.declared.context.Declared.TheVariants.{Made, Signal}
use Rattle.ml_spec.specs.declared.kind.ItemKind.TheVariants as item
use Rattle.ml_spec.specs.declared.kind.Kind.{Kind}
use Rattle.ml_spec.specs.declared.specification.Item.{Item}
use Rattle.ml_spec.specs.private.Lists.{AreListed, IsMadeBehind, IsValueBehind}
use Rattle.ml_spec.specs.private.Stages.{AreMeant, IsContextOf, IsDefined, IsFresh, IsNoted, IsStepped}
use Rattle.ml_spec.proofs.WordLists.{as_many}
use Rattle.ml_spec.proofs.WordSteps.{words_at}
use Rattle.ml_spec.proofs.Contexts.{context_more, meant_behind, meant_more, none_large}
use Rattle.ml_written.specs.Places.{AreDeclared}
use Rattle.ml_written.specs.Propositions.{is_proposition, propositions}
use Rattle.ml_written.specs.declared.written.Written.{Written}

pub meant_same : (l : Logic) (ss : List Statement) (s : Statement) (xs : List Item) (ds : Definitions) (o : Option ℕ)
    → formula_of l (known ss).definitions s.says ≡ None
    → items_of l (known ss).definitions s.says ≡ []
    → (knowing.known_behind (known ss) s.says).definitions ≡ (known ss).definitions
    → AreMeant l ss xs ds o
    → AreMeant l (ss ++ s ∷ []) xs ds o
meant_same l ss s xs ds (Some at) no_formula no_items same meant = meant_behind l ss s at meant
meant_same l ss s xs ds None no_formula no_items same meant =
    meant_more l ss s xs xs ds ds meant (none_large l ss s no_formula)
    (sym (ap (λ ys. xs ++ ys) no_items ∙ append-nil xs))
    (meant.are_definitions ∙ sym same)

module _ (l : Logic) (ss : List Statement) (i : ItemText) (room : length ss < most_items) (c e : Context)
    (is : IsContextOf l ss c) where
  pub repeated_stepped : HasKind i item.Logics → behind_kind i ≡ logic_word l → e ≡ c → IsStepped l ss i e
  repeated_stepped has told same =
      let s : Statement = record { at = i.at; says = says.Repeated } in
      subst (IsStepped l ss i) (sym same) (record {
        statement = s;
        is_next = record {
          is_statement = record { is_at = refl; is_said = (has, told) };
          fits = tt;
          has_room = room;
        };
        is_context =
            context_more l ss s c c is is.are_names is.are_declared is.are_spoken is.are_signals is.of_logic
            (meant_same l ss s c.meanings.items.items c.meanings.definitions c.meanings.large refl refl refl is.are_meant);
      })

  pub signals_stepped : HasKind i item.Signals
      → AreListed (is_proposition l) (IsMadeBehind c.declared.entries) 1 (signals_of i)
      → e.names.keys ≡ c.names.keys
      → e.declared.entries ≡ with_all c.declared.entries Signal (words_of (signals_of i))
      → e.spoken.keys ≡ c.spoken.keys
      → e.has_signals ≡ true
      → e.meanings ≡ c.meanings
      → IsStepped l ss i e
  signals_stepped has listed names declared spoken signals meanings =
      let s : Statement = record { at = i.at; says = says.Signals (words_of (signals_of i)) } in
      let list = subst (λ ds. AreListed (is_proposition l) (IsMadeBehind ds) 1 (signals_of i)) is.are_declared listed in
      record {
        statement = s;
        is_next = record {
          is_statement = record {
            is_at = refl;
            is_said = (has, refl, list.are_good, omega (arith, list.are_enough, as_many (signals_of i)));
          };
          fits = list.are_free;
          has_room = room;
        };
        is_context =
            context_more l ss s c e is (names ∙ is.are_names)
            (declared ∙ ap (λ ds. with_all ds Signal (words_of (signals_of i))) is.are_declared) (spoken ∙ is.are_spoken) signals
            (ap (λ m. logic_defined m.definitions) meanings ∙ is.of_logic)
            (subst (λ m. AreMeant l (ss ++ s ∷ []) m.items.items m.definitions m.large) (sym meanings)
            (meant_same l ss s c.meanings.items.items c.meanings.definitions c.meanings.large refl refl refl is.are_meant));
      }

  pub enumeration_stepped : HasColon l i item.Enumeration
      → ¬ (Contains c.names.keys (name_of i))
      → AreListed (is_value (name_of i)) (IsValueBehind c.declared.entries (name_of i)) 2 (values_of i)
      → e.names.keys ≡ c.names.keys ++ name_of i ∷ []
      → e.declared.entries ≡ with_all c.declared.entries Made (value_names (name_of i) (words_of (values_of i)))
      → e.spoken.keys ≡ c.spoken.keys
      → e.has_signals ≡ c.has_signals
      → logic_defined e.meanings.definitions ≡ l
      → AreMeant l (ss ++ record { at = i.at; says = says.Enumeration (name_of i) (words_of (values_of i)) } ∷ [])
      e.meanings.items.items e.meanings.definitions e.meanings.large
      → IsStepped l ss i e
  enumeration_stepped has new listed names declared spoken signals logic meant =
      let s : Statement = record { at = i.at; says = says.Enumeration (name_of i) (words_of (values_of i)) } in
      let list =
      subst (λ ds. AreListed (is_value (name_of i)) (IsValueBehind ds (name_of i)) 2 (values_of i)) is.are_declared listed in
      record {
        statement = s;
        is_next = record {
          is_statement = record {
            is_at = refl;
            is_said = (has, refl, refl, list.are_good, omega (arith, list.are_enough, as_many (values_of i)));
          };
          fits = (subst (λ ns. ¬ (Contains ns (name_of i))) is.are_names new, list.are_free);
          has_room = room;
        };
        is_context =
            context_more l ss s c e is (names ∙ ap (λ ns. ns ++ name_of i ∷ []) is.are_names)
            (declared ∙ ap (λ ds. with_all ds Made (value_names (name_of i) (words_of (values_of i)))) is.are_declared)
            (spoken ∙ is.are_spoken) (signals ∙ is.are_signals) logic meant;
      }

  all_declared : (w : Written)
      → (c.has_signals ≡ true → AreDeclared (keys_of c.declared.entries) w)
      → AreAllDeclared (known ss) w
  all_declared w declared told =
      subst (λ ds. AreDeclared (keys_of ds) w) is.are_declared (declared (is.are_signals ∙ told))

  pub definition_stepped : (w : Written)
      → HasText l i item.Definition
      → IsWrittenIn l (text_of i) w
      → ¬ (IsDeclared c.declared.entries (name_of i))
      → ¬ (IsMember (name_of i) c.spoken.keys)
      → ¬ (IsMember (name_of i) (propositions w))
      → (c.has_signals ≡ true → AreDeclared (keys_of c.declared.entries) w)
      → e.names.keys ≡ c.names.keys
      → e.declared.entries ≡ insert_entry bytes_eq c.declared.entries (name_of i) Made
      → e.spoken.keys ≡ with_names c.spoken.keys (propositions w)
      → e.has_signals ≡ c.has_signals
      → logic_defined e.meanings.definitions ≡ l
      → AreMeant l (ss ++ record { at = i.at; says = says.Definition (name_of i) w } ∷ [])
      e.meanings.items.items e.meanings.definitions e.meanings.large
      → IsStepped l ss i e
  definition_stepped w has written new early other all names declared spoken signals logic meant =
      let s : Statement = record { at = i.at; says = says.Definition (name_of i) w } in
      record {
        statement = s;
        is_next = record {
          is_statement = record { is_at = refl; is_said = (has, refl, written) };
          fits = (
            subst (λ ds. ¬ (IsDeclared ds (name_of i))) is.are_declared new,
            subst (λ ps. ¬ (IsMember (name_of i) ps)) is.are_spoken early,
            other,
            all_declared w all,
          );
          has_room = room;
        };
        is_context =
            context_more l ss s c e is (names ∙ is.are_names)
            (declared ∙ ap (λ ds. insert_entry bytes_eq ds (name_of i) Made) is.are_declared)
            (spoken ∙ ap (λ ps. with_names ps (propositions w)) is.are_spoken) (signals ∙ is.are_signals) logic meant;
      }

  pub stated_stepped : (k : Kind) (w : Written)
      → HasText l i (item.Stated k)
      → IsWrittenIn l (text_of i) w
      → ¬ (Contains c.names.keys (name_of i))
      → (c.has_signals ≡ true → AreDeclared (keys_of c.declared.entries) w)
      → e.names.keys ≡ c.names.keys ++ name_of i ∷ []
      → e.declared.entries ≡ c.declared.entries
      → e.spoken.keys ≡ with_names c.spoken.keys (propositions w)
      → e.has_signals ≡ c.has_signals
      → logic_defined e.meanings.definitions ≡ l
      → AreMeant l (ss ++ record { at = i.at; says = says.Stated k (name_of i) w } ∷ [])
      e.meanings.items.items e.meanings.definitions e.meanings.large
      → IsStepped l ss i e
  stated_stepped k w has written new all names declared spoken signals logic meant =
      let s : Statement = record { at = i.at; says = says.Stated k (name_of i) w } in
      record {
        statement = s;
        is_next = record {
          is_statement = record { is_at = refl; is_said = (has, refl, written) };
          fits = (subst (λ ns. ¬ (Contains ns (name_of i))) is.are_names new, all_declared w all);
          has_room = room;
        };
        is_context =
            context_more l ss s c e is (names ∙ ap (λ ns. ns ++ name_of i ∷ []) is.are_names) (declared ∙ is.are_declared)
            (spoken ∙ ap (λ ps. with_names ps (propositions w)) is.are_spoken) (signals ∙ is.are_signals) logic meant;
      }

  -- an enumeration, by the name and the text that were read
  pub enumeration_read : (m n t : List ℕ)
      → m ≡ name_of i
      → n ≡ m
      → t ≡ text_of i
      → HasColon l i item.Enumeration
      → ¬ (Contains c.names.keys m)
      → AreListed (is_value m) (IsValueBehind c.declared.entries m) 2 (words_at i t)
      → e.names.keys ≡ c.names.keys ++ m ∷ []
      → e.declared.entries ≡ with_all c.declared.entries Made (value_names m (words_of (words_at i t)))
      → e.spoken.keys ≡ c.spoken.keys
      → e.has_signals ≡ c.has_signals
      → logic_defined e.meanings.definitions ≡ l
      → AreMeant l (ss ++ record { at = i.at; says = says.Enumeration n (words_of (words_at i t)) } ∷ [])
      e.meanings.items.items e.meanings.definitions e.meanings.large
      → IsStepped l ss i e
  enumeration_read m n t named is_n same has new listed names declared spoken signals logic meant =
      let ds = c.declared.entries in
      enumeration_stepped has (subst (λ k. ¬ (Contains c.names.keys k)) named new)
      (subst (λ k. AreListed (is_value k) (IsValueBehind ds k) 2 (values_of i)) named
      (subst (λ r. AreListed (is_value m) (IsValueBehind ds m) 2 (words_at i r)) same listed))
      (names ∙ ap (λ k. c.names.keys ++ k ∷ []) named)
      (declared
      ∙ ap (λ r. with_all ds Made (value_names m (words_of (words_at i r)))) same
      ∙ ap (λ k. with_all ds Made (value_names k (words_of (values_of i)))) named)
      spoken signals logic
      (subst
      (λ k. AreMeant l (ss ++ record { at = i.at; says = says.Enumeration k (words_of (values_of i)) } ∷ [])
      e.meanings.items.items e.meanings.definitions e.meanings.large)
      (is_n ∙ named)
      (subst
      (λ r. AreMeant l (ss ++ record { at = i.at; says = says.Enumeration n (words_of (words_at i r)) } ∷ [])
      e.meanings.items.items e.meanings.definitions e.meanings.large)
      same meant))

-- a definition that was noted and then added
pub definition_defined : (l : Logic) (ss : List Statement) (i : ItemText) (c d e : Context) (n : List ℕ) (w : Written)
    → length ss < most_items
    → IsContextOf l ss c
    → n ≡ name_of i
    → HasText l i item.Definition
    → IsWrittenIn l (text_of i) w
    → IsFresh c n
    → IsNoted n w c d
    → IsDefined l i.at n w d e
    → IsStepped l ss i e
definition_defined l ss i c d e n w room is named has written fresh noted defined =
    let before =
    subst (λ m. AreMeant l ss m.items.items m.definitions m.large) (sym noted.are_meanings) is.are_meant in
    definition_stepped l ss i room c e is w has written
    (subst (λ k. ¬ (IsDeclared c.declared.entries k)) named fresh.is_new)
    (subst (λ k. ¬ (IsMember k c.spoken.keys)) named fresh.is_early)
    (subst (λ k. ¬ (IsMember k (propositions w))) named noted.is_other)
    noted.all_declared (defined.are_names ∙ noted.are_names)
    (defined.are_declared
    ∙ ap (λ ds. insert_entry bytes_eq ds n Made) noted.are_declared
    ∙ ap (λ k. insert_entry bytes_eq c.declared.entries k Made) named)
    (defined.are_spoken ∙ noted.are_spoken) (defined.are_signals ∙ noted.are_signals) defined.of_logic
    (subst
    (λ k. AreMeant l (ss ++ record { at = i.at; says = says.Definition k w } ∷ []) e.meanings.items.items e.meanings.definitions e.meanings.large)
    named (defined.are_meant ss before))
