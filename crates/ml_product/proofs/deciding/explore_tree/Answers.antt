-- A sequent with a history that is new is explored; for another one what was found at its root is recorded.
use Rattle.std.proofs.Common.{ℕ, ◌≡◌, ◌<◌, inl, inr, List, [], ◌∷◌, ◌++◌, length, get_or, sym, ◌∙◌, subst, arith}
use Rattle.std.proofs.lemmas.Option.{slice_get_within}
use Rattle.std.proofs.lemmas.Result.{on_ok_weaker}
use Rattle.ml_lists.specs.Member.{IsMember}
use Rattle.ml_graph.specs.Graph.{Graph}
use Rattle.ml_product.specs.declared.pool.Pool.{Pool}
use Rattle.ml_product.specs.declared.recorded.Recorded.{Recorded}
use Rattle.ml_product.specs.declared.stored.Site.{Site}
use Rattle.ml_product.specs.private.Numbers.{HasName, GetsName, IsNamed}
use Rattle.ml_product.specs.Placed.{nowhere}
use Rattle.ml_product.specs.private.Links.{site_of}
use Rattle.ml_product.specs.private.Pools.{positions_of}
use Rattle.ml_product.specs.private.Exploring.{at_place, HasNoneBelow, IsWaiting, Repeats, IsUnderway, IsExplored, IsRoot, AreRooted}
use Rattle.ml_product.proofs.Roots.{fresh_root, root_twin, rooted_kept, rooted_explored}
use Rattle.ml_product.proofs.Underway.{repeated_explored}
use Rattle.ml_product.proofs.Vertices.{longer_self}
use Rattle.ml_product.proofs.deciding.explore_tree.Goals as goal

module _ (g : Graph) (limit : ℕ) (b : Pool) (rs : List Recorded) (v : ℕ) (ks ls : List Site) (ns ms : List ℕ)
    (s : Site) (top : ℕ)
    (u : IsUnderway g limit b rs)
    (low : v < length (positions_of b))
    (none : (at_place g (positions_of b) v).choice ≡ [])
    (waits : IsWaiting rs v)
    (rooted : AreRooted b.positions rs ks ns)
    (s_is : s ≡ site_of (get_or b.positions v nowhere))
    (named : IsNamed ks ns s v ls ms top) where
  -- the number that the table had is that of a root
  root : HasName ks ns s ls ms top → IsRoot b.positions rs (site_of (get_or b.positions v nowhere)) top
  root h =
      subst (λ (k : Site). IsRoot b.positions rs k top) s_is
      (subst (IsRoot b.positions rs s) (sym h.is) (rooted.roots h.place s h.stands))

  -- where it isn't that of the position, the table had it
  had : (top ≡ v → ⊥) → HasName ks ns s ls ms top
  had other = by_kind named
    where
      by_kind : IsNamed ks ns s v ls ms top → HasName ks ns s ls ms top
      by_kind (inl h) = h
      by_kind (inr n) = absurd (other n.is)

  -- else it is new
  is_new : top ≡ v → GetsName ks ns s v ls ms top
  is_new same = by_kind named
    where
      by_kind : IsNamed ks ns s v ls ms top → GetsName ks ns s v ls ms top
      by_kind (inl h) = absurd ((root h).found (subst (IsWaiting rs) (sym same) waits))
      by_kind (inr n) = n

  repeated : (ts : List Recorded) → (top ≡ v → ⊥) → Repeats rs v top ts → IsExplored g limit b rs v b ts
  repeated ts other is =
      let r = root (had other) in
      let twin = root_twin g b v low rs top r in
      repeated_explored g limit b rs ts v top u low twin.0 twin.1 (twin.2 ∙ sym none) r.found is

  repeated_rooted : (ts : List Recorded) → (top ≡ v → ⊥) → Repeats rs v top ts → AreRooted b.positions ts ls ms
  repeated_rooted ts other is =
      let h = had other in
      subst (λ js. AreRooted b.positions ts js ms) (sym h.keys)
      (subst (AreRooted b.positions ts ks) (sym h.numbers)
      (rooted_kept b.positions b.positions rs ts ks ns rooted (longer_self b.positions) (repeated ts other is).kept
      (λ w x high at. absurd (omega (arith, slice_get_within b.positions w x at)))))

  fresh : top ≡ v → HasNoneBelow (positions_of b) (at_place g (positions_of b) v)
  fresh same =
      fresh_root g b v low rs ks ns u.explores.is_pool rooted none
      (subst (λ (k : Site). ¬ (IsMember k ks)) s_is (is_new same).is_new)

  explored_rooted : (d : Pool) (ts : List Recorded) → top ≡ v → IsExplored g limit b rs v d ts
      → AreRooted d.positions ts ls ms
  explored_rooted d ts same is =
      let n = is_new same in
      subst (λ js. AreRooted d.positions ts js ms) (sym n.keys)
      (subst (AreRooted d.positions ts (ks ++ s ∷ [])) (sym n.numbers)
      (subst (λ (k : Site). AreRooted d.positions ts (ks ++ k ∷ []) (ns ++ v ∷ [])) (sym s_is)
      (rooted_explored g limit b d rs ts ks ns v rooted low none is)))

explored : (c : goal.In_ok-repeat) → IsExplored c.args.branch.now.graph c.args.limit c.args.pool.now c.args.turns.now c.args.v
    c.args.pool.now c.repeat.new.turns
explored c =
    repeated c.args.branch.now.graph c.args.limit c.args.pool.now c.args.turns.now c.args.v c.args.trees.now.sites.keys
    c.top.new.self.sites.keys c.args.trees.now.tops.items c.top.new.self.tops.items c.site.result c.in_ok-top.top
    c.requires.underway c.requires.at.number c.requires.unchosen c.requires.waiting c.requires.rooted c.site.ensures
    c.in_ok-top.ensures c.repeat.new.turns c.if-top-v.true c.in_ok-repeat.ensures

pub returns-then-top-v-clause-explored : goal.returns-then-top-v-clause-explored
returns-then-top-v-clause-explored c = explored c

pub returns-then-top-v-clause-rooted : goal.returns-then-top-v-clause-rooted
returns-then-top-v-clause-rooted c =
    repeated_rooted c.args.branch.now.graph c.args.limit c.args.pool.now c.args.turns.now c.args.v
    c.args.trees.now.sites.keys c.top.new.self.sites.keys c.args.trees.now.tops.items c.top.new.self.tops.items
    c.site.result c.in_ok-top.top c.requires.underway c.requires.at.number c.requires.unchosen c.requires.waiting
    c.requires.rooted c.site.ensures c.in_ok-top.ensures c.repeat.new.turns c.if-top-v.true c.in_ok-repeat.ensures

pub explore_open-requires-clause-fresh : goal.explore_open-requires-clause-fresh
explore_open-requires-clause-fresh c =
    fresh c.args.branch.now.graph c.args.limit c.args.pool.now c.args.turns.now c.args.v c.args.trees.now.sites.keys
    c.top.new.self.sites.keys c.args.trees.now.tops.items c.top.new.self.tops.items c.site.result c.in_ok-top.top
    c.requires.underway c.requires.at.number c.requires.unchosen c.requires.waiting c.requires.rooted c.site.ensures
    c.in_ok-top.ensures c.if-top-v.false

pub returns-clause-rooted : goal.returns-clause-rooted
returns-clause-rooted c =
    on_ok_weaker c.explore_open.result
    (explored_rooted c.args.branch.now.graph c.args.limit c.args.pool.now c.args.turns.now c.args.v
    c.args.trees.now.sites.keys c.top.new.self.sites.keys c.args.trees.now.tops.items c.top.new.self.tops.items
    c.site.result c.in_ok-top.top c.requires.underway c.requires.at.number c.requires.unchosen c.requires.waiting
    c.requires.rooted c.site.ensures c.in_ok-top.ensures c.explore_open.new.pool c.explore_open.new.turns c.if-top-v.false)
    c.explore_open.ensures.explored
