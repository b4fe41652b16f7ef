-- Where a graph holds at a node, as a truth value.
--
--   says_leads, says_and, says_or, says_literal, says_constant == at a node of each kind, by its children
--   says_diamond, says_square == at a modality, by an edge or every edge
--   Agree               == at each state, the nodes of an occurrence hold as the formula's meaning and its negation say
use Rattle.std.proofs.Common.{◌≡◌, ◌↔◌, ℕ, ◌<◌, ◌==◌, ◌⊎◌, Bool, true, false, ◌&&◌, ◌||◌, not, List, [], ◌∷◌, Contains, inl, inr, refl, sym, ap, subst, ◌∙◌}
use Rattle.std.specs.List.{list_any, list_all}
use Rattle.std.specs.Str.{bytes_eq}
use Rattle.std.proofs.lemmas.Bool.{false≢true, and_parts, and_from}
use Rattle.ml_lists.specs.Member.{IsMember}
use Rattle.ml_lists.proofs.Member.{member-map, member-map_from, member-filter, member-filter_from, list_any-member, member-list_any}
use Rattle.ml_lists.proofs.Members.{member_of_contains, contains_of_member}
use Rattle.ml_lists.proofs.Says.{Says, says_by, both_say, either_says}
use Rattle.ml_base.specs.declared.structure.Edge.{Edge}
use Rattle.ml_base.proofs.Edges.{target_within}
use Rattle.ml_base.specs.Structure.{Structure, IsStructure, lists}
use Rattle.ml_graph.specs.Graph.{Graph, IsGraph, size, node_at, prop_at, action_at}
use Rattle.ml_graph.specs.CheckingGame.{HoldsAt, targets}
use Rattle.ml_graph.specs.Laws.{NodeHolds}
use Rattle.ml_graph.specs.declared.node.Node.{Node}
use Rattle.ml_graph.specs.declared.node.Node.TheVariants as node
use Rattle.ml_graph.proofs.OneStep.{one_step_at}
use Rattle.ml_nodes.specs.Nodes.{constant}

-- of edges
all_pass : (test : Edge → Bool) (xs : List Edge) → list_all test xs ≡ true → (x : Edge) → IsMember x xs → test x ≡ true
all_pass test [] e x h = absurd h
all_pass test (y ∷ ys) e x (inl same) = ap test same ∙ (and_parts (test y) (list_all test ys) e).0
all_pass test (y ∷ ys) e x (inr later) = all_pass test ys (and_parts (test y) (list_all test ys) e).1 x later

pass_all : (test : Edge → Bool) (xs : List Edge) → ((x : Edge) → IsMember x xs → test x ≡ true) → list_all test xs ≡ true
pass_all test [] each = refl
pass_all test (y ∷ ys) each = and_from (test y) (list_all test ys) (each y (inl refl)) (pass_all test ys (λ x h. each x (inr h)))

or_not : (a b : Bool) → (not a || b) ≡ true → a ≡ true → b ≡ true
or_not true b e is = e
or_not false b e is = absurd (false≢true is)

not_or : (a b : Bool) → (a ≡ true → b ≡ true) → (not a || b) ≡ true
not_or true b e = e refl
not_or false b e = refl

abbrev pub leaves : ℕ → List ℕ → Edge → Bool
leaves s name e = (e.source == s) && bytes_eq e.action name

module _ (g : Graph) (m : Structure) (g_ok : IsGraph g) (m_ok : IsStructure m) (s n : ℕ) (s_low : s < m.states) (n_low : n < size g) where
  abbrev step : (x : Node) → node_at g n ≡ x → HoldsAt g m s n ↔ NodeHolds g m s x
  step = one_step_at g m g_ok m_ok s n s_low n_low

  pub says_constant : (b : Bool) → node_at g n ≡ constant b → Says (HoldsAt g m s n) b
  says_constant true is = let one = step node.True is in (λ h. refl, λ e. one.1 tt)
  says_constant false is = let one = step node.False is in (λ h. absurd (one.0 h), λ e. absurd (false≢true e))

  pub says_literal : (q : ℕ) (b : Bool) → node_at g n ≡ node.Lit q true → lists m s (prop_at g q) ≡ b → Says (HoldsAt g m s n) b
  says_literal q b is same = let one = step (node.Lit q true) is in (λ h. sym same ∙ one.0 h, λ e. one.1 (same ∙ e))

  pub says_negative : (q : ℕ) (b : Bool) → node_at g n ≡ node.Lit q false → lists m s (prop_at g q) ≡ b → Says (HoldsAt g m s n) (not b)
  says_negative q true is same = let one = step (node.Lit q false) is in (λ h. absurd (false≢true (sym (one.0 h) ∙ same)), λ e. absurd (false≢true e))
  says_negative q false is same = let one = step (node.Lit q false) is in (λ h. refl, λ e. one.1 same)

  pub says_and : (l r : ℕ) (a b : Bool) → node_at g n ≡ node.And l r → Says (HoldsAt g m s l) a → Says (HoldsAt g m s r) b
      → Says (HoldsAt g m s n) (a && b)
  says_and l r a b is x y =
      says_by (HoldsAt g m s n) (HoldsAt g m s l × HoldsAt g m s r) (a && b) (step (node.And l r) is)
      (both_say (HoldsAt g m s l) (HoldsAt g m s r) a b x y)

  pub says_or : (l r : ℕ) (a b : Bool) → node_at g n ≡ node.Or l r → Says (HoldsAt g m s l) a → Says (HoldsAt g m s r) b
      → Says (HoldsAt g m s n) (a || b)
  says_or l r a b is x y =
      says_by (HoldsAt g m s n) (HoldsAt g m s l ⊎ HoldsAt g m s r) (a || b) (step (node.Or l r) is)
      (either_says (HoldsAt g m s l) (HoldsAt g m s r) a b x y)

  pub says_leads : (t : ℕ) (a : Bool) → node_at g n ≡ node.And t t → Says (HoldsAt g m s t) a → Says (HoldsAt g m s n) a
  says_leads t a is x =
      let one = step (node.And t t) is in (λ h. x.0 (one.0 h).0, λ e. one.1 (x.1 e, x.1 e))

  pub says_diamond : (a to : ℕ) (name : List ℕ) (val : ℕ → Bool) → node_at g n ≡ node.Diamond a to → action_at g a ≡ name
      → ((t : ℕ) → t < m.states → Says (HoldsAt g m t to) (val t))
      → Says (HoldsAt g m s n) (list_any (λ e. (e.source == s) && bytes_eq e.action name && val e.target) m.edges)
  says_diamond a to name val is named each = (there, back)
    where
      one : HoldsAt g m s n ↔ ((t : ℕ) × Contains (targets m s name) t × HoldsAt g m t to)
      one = subst (λ p. HoldsAt g m s n ↔ ((t : ℕ) × Contains (targets m s p) t × HoldsAt g m t to)) named (step (node.Diamond a to) is)

      there : HoldsAt g m s n → list_any (λ e. (e.source == s) && bytes_eq e.action name && val e.target) m.edges ≡ true
      there h =
          let some = one.0 h in
          let image = member-map_from (λ e. e.target) some.0 _ (member_of_contains some.0 (targets m s name) some.1) in
          let kept = member-filter_from (leaves s name) image.from m.edges image.member in
          let holds = subst (λ t. HoldsAt g m t to) image.holds some.2 in
          member-list_any (λ e. (e.source == s) && bytes_eq e.action name && val e.target) image.from m.edges kept.0
          (and_from (leaves s name image.from) (val image.from.target) kept.1 ((each image.from.target (target_within m m_ok image.from kept.0)).0 holds))

      back : list_any (λ e. (e.source == s) && bytes_eq e.action name && val e.target) m.edges ≡ true → HoldsAt g m s n
      back e =
          let some = list_any-member (λ e. (e.source == s) && bytes_eq e.action name && val e.target) m.edges e in
          let parts = and_parts (leaves s name some.item) (val some.item.target) some.passes in
          one.1 (
            some.item.target,
            contains_of_member some.item.target (targets m s name) (member-map (λ e. e.target) some.item _ (member-filter (leaves s name) some.item m.edges some.member parts.0)),
            (each some.item.target (target_within m m_ok some.item some.member)).1 parts.1,
          )

  pub says_square : (a to : ℕ) (name : List ℕ) (val : ℕ → Bool) → node_at g n ≡ node.Square a to → action_at g a ≡ name
      → ((t : ℕ) → t < m.states → Says (HoldsAt g m t to) (val t))
      → Says (HoldsAt g m s n) (list_all (λ e. not ((e.source == s) && bytes_eq e.action name) || val e.target) m.edges)
  says_square a to name val is named each = (there, back)
    where
      one : HoldsAt g m s n ↔ ((t : ℕ) → Contains (targets m s name) t → HoldsAt g m t to)
      one = subst (λ p. HoldsAt g m s n ↔ ((t : ℕ) → Contains (targets m s p) t → HoldsAt g m t to)) named (step (node.Square a to) is)

      there : HoldsAt g m s n → list_all (λ e. not ((e.source == s) && bytes_eq e.action name) || val e.target) m.edges ≡ true
      there h =
          pass_all (λ e. not ((e.source == s) && bytes_eq e.action name) || val e.target) m.edges
          (λ e inside. not_or (leaves s name e) (val e.target)
          (λ leaving. (each e.target (target_within m m_ok e inside)).0
          (one.0 h e.target (contains_of_member e.target (targets m s name) (member-map (λ d. d.target) e _ (member-filter (leaves s name) e m.edges inside leaving))))))

      back : list_all (λ e. not ((e.source == s) && bytes_eq e.action name) || val e.target) m.edges ≡ true → HoldsAt g m s n
      back e =
          one.1 (λ t inside.
          let image = member-map_from (λ d. d.target) t _ (member_of_contains t (targets m s name) inside) in
          let kept = member-filter_from (leaves s name) image.from m.edges image.member in
          let passes = all_pass (λ d. not ((d.source == s) && bytes_eq d.action name) || val d.target) m.edges e image.from kept.0 in
          subst (λ x. HoldsAt g m x to) (sym image.holds) ((each image.from.target (target_within m m_ok image.from kept.0)).1 (or_not (leaves s name image.from) (val image.from.target) passes kept.1)))
