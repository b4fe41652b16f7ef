-- Edges that are replaced.
--
--   edges_labelled == edges that fit are those of an automaton
--   replaced_by   == where edges may be replaced, the automaton with the new ones accepts the same
--   replaced_from == so it is of what a program holds
use Rattle.std.proofs.Common.{ℕ, ◌≡◌, ◌<◌, ◌≤◌, ◌⊎◌, ◌^◌, inl, inr, List, [], All, length, get_or, refl, sym, subst}
use Rattle.std.specs.Global.{Vec}
use Rattle.std.proofs.lemmas.Bool.{cases_lt}
use Rattle.std.proofs.lemmas.List.{get_or_past}
use Rattle.ml_base.specs.Name.{IsName}
use Rattle.ml_lists.specs.Member.{IsMember}
use Rattle.ml_labelled.specs.Labelled.{AcceptSame, Automaton, Edge, IsEdge, IsLabelled}
use Rattle.ml_labelled.specs.declared.following.Ranks.{Ranks}
use Rattle.ml_labelled.specs.declared.labelled.CubeEdge.{CubeEdge}
use Rattle.ml_labelled.specs.private.Fitting.{AreEdges}
use Rattle.ml_labelled.specs.private.Replacing.{MayReplace}
use Rattle.ml_labelled.specs.private.Views.{held, rows_of}
use Rattle.ml_labelled.proofs.FollowedAutomata.{follower_accepts}

pub edges_labelled : (props names : List (List ℕ)) (old new : List (List Edge))
    → IsLabelled (record { props = props; edges = old })
    → names ≡ props
    → AreEdges (length names) new
    → IsLabelled (record { props = names; edges = new })
edges_labelled props names old new is same are = record {
  some_state = are.some_state;
  few_states = are.few_states;
  few_props = subst (λ ps. length ps < 2 ^ 32) (sym same) is.few_props;
  names = subst (All IsName) (sym same) is.names;
  edges = λ p e m. fits p e m (cases_lt p (length new));
}
  where
    fits : (p : ℕ) (e : Edge) → IsMember e (get_or new p []) → (p < length new) ⊎ (length new ≤ p)
        → IsEdge (length new) (length names) e
    fits p e m (inl low) = are.all_fit p low e m
    fits p e m (inr past) = absurd (subst (IsMember e) (get_or_past new p [] past) m)

pub record IsReplaced (a b : Automaton) : Type 0 where
  pub labelled : IsLabelled b
  pub same : AcceptSame a b
  pub props : b.props ≡ a.props
  pub few : length b.edges ≤ length a.edges

module _ (props : List (List ℕ)) (there back : Ranks) (old new : List (List Edge)) where
  abbrev a : Automaton
  a = record { props = props; edges = old }

  abbrev b : Automaton
  b = record { props = props; edges = new }

  pub replaced_by : IsLabelled a → MayReplace (length props) there back old new → IsReplaced a b
  replaced_by is may =
      let is_b : IsLabelled b = edges_labelled props props old new is refl may.are_edges in
      record {
        labelled = is_b;
        same = λ w lasso. (
          follower_accepts a b there refl is is_b may.follows may.first.0 may.first.1 w,
          follower_accepts b a back refl is_b is may.follows_back may.first_back.0 may.first_back.1 w,
        );
        props = refl;
        few = may.no_more;
      }

-- ---- what a program holds

pub replaced_from : (a : Automaton) (props : List (List ℕ)) (n : ℕ) (old new read also : List (Vec CubeEdge)) (there back : Ranks)
    → held props old ≡ a
    → IsLabelled a
    → n ≡ length props
    → read ≡ old
    → also ≡ new
    → MayReplace n there back (rows_of read) (rows_of also)
    → IsReplaced a (held props new)
replaced_from a props n old new read also there back parts is count read_is also_is may =
    subst (λ x. IsReplaced x (held props new)) parts
    (replaced_by props there back (rows_of old) (rows_of new) (subst IsLabelled (sym parts) is)
    (subst (λ m. MayReplace m there back (rows_of old) (rows_of new)) count
    (subst (λ xs. MayReplace n there back (rows_of xs) (rows_of new)) read_is
    (subst (λ xs. MayReplace n there back (rows_of read) (rows_of xs)) also_is may))))
