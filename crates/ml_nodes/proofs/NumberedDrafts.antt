-- A draft with one node more is a draft, and what overflows one tells of a large closure.
--
--   once_more      == nothing stands twice in a list with one thing more that isn't in it
--   Grows          == how the values by their numbers grow when those of a form get theirs
--   grown          == they do
--   begun          == the root alone is a draft
--   stepped        == one node more
--   longer         == fewer than `max` are left then
--   root_too_many  == where there is no room for the root, more values are met
--   no_room        == so they are where the next value leads to one too many
use Rattle.std.proofs.Common.{ℕ, ◌≡◌, ◌+◌, ◌-◌, ◌<◌, ◌≤◌, ◌⊎◌, inl, inr, arith, Bool, true, false, List, [], ◌∷◌, ◌++◌}
use Rattle.std.proofs.Common.{length, map, get_or, Some, refl, sym, ap, ◌∙◌, subst, ⊎_elim, length-append}
use Rattle.std.specs.List.{flat_map, slice_get}
use Rattle.std.proofs.lemmas.Bool.{cases_lt}
use Rattle.std.proofs.lemmas.List.{get_or_append_left, length-map, map-append}
use Rattle.std.proofs.lemmas.Option.{slice_get_within}
use Rattle.std.proofs.Math.Seq.{get_or-append_seam}
use Rattle.ml_lists.specs.Added.{IsAdded, HasOnePlace}
use Rattle.ml_lists.specs.InTurn.{RunsOn}
use Rattle.ml_lists.specs.Member.{IsMember}
use Rattle.ml_lists.proofs.Added.{added_all, added_once, added_keeps, added_runs, last_or}
use Rattle.ml_lists.proofs.Member.{member_of_get}
use Rattle.ml_lists.proofs.InTurn.{runs_append, runs_up}
use Rattle.ml_lists.proofs.RowsInTurn.{AreFromEarlier, earlier_more, turns_more}
use Rattle.ml_graph.specs.declared.node.Node.{Node}
use Rattle.ml_graph.specs.declared.node.Node.TheVariants as node
use Rattle.ml_nodes.specs.ClosureGraph.{row_of}
use Rattle.ml_nodes.specs.NumberedValues.{IsFull, Overflows, Numbers, constant_of, pair_of, edge_of, HasFormIn, children_of}
use Rattle.ml_nodes.specs.NumberedValues.{IsMet, at_root, behind, IsMade, IsDraft, IsStep, HasNoRoom, IsTooLarge}
use Rattle.ml_nodes.specs.declared.numbering.Form.{Form}
use Rattle.ml_nodes.specs.declared.numbering.Form.TheVariants as form

pair_row : (b : Bool) (i j : ℕ) → row_of (pair_of b i j) ≡ i ∷ j ∷ []
pair_row true i j = refl
pair_row false i j = refl

edge_row : (b : Bool) (i : ℕ) → row_of (edge_of b i) ≡ i ∷ []
edge_row true i = refl
edge_row false i = refl

constant_row : (b : Bool) → row_of (constant_of b) ≡ []
constant_row true = refl
constant_row false = refl

-- nothing stands twice in a list with one thing more
pub once_more : {X : Type 0} (xs : List X) (x : X) → HasOnePlace xs → ¬ (IsMember x xs) → HasOnePlace (xs ++ x ∷ [])
once_more xs x once new j k y at_j at_k = by_places (last_or xs x y j at_j) (last_or xs x y k at_k)
  where
    by_places : (slice_get xs j ≡ Some y) ⊎ ((j ≡ length xs) × (y ≡ x))
        → (slice_get xs k ≡ Some y) ⊎ ((k ≡ length xs) × (y ≡ x))
        → j ≡ k
    by_places (inl p) (inl q) = once j k y p q
    by_places (inl p) (inr q) = absurd (new (subst (λ z. IsMember z xs) q.1 (member_of_get xs j y p)))
    by_places (inr p) (inl q) = absurd (new (subst (λ z. IsMember z xs) p.1 (member_of_get xs k y q)))
    by_places (inr p) (inr q) = p.0 ∙ sym q.0

-- what has a number keeps it
abbrev Keeps : {X : Type 0} → (xs ys : List X) → Type 0
Keeps {X} xs ys = (k : ℕ) (x : X) → slice_get xs k ≡ Some x → slice_get ys k ≡ Some x

-- how the values by their numbers grow when those of a form get theirs
pub record Grows {X : Type 0} (P : X → Type 0) (xs ys : List X) (v : Node) (f : Form X) : Type 0 where
  pub once : HasOnePlace xs → HasOnePlace ys
  pub all : ((k : ℕ) (s : X) → slice_get xs k ≡ Some s → P s) → (k : ℕ) (s : X) → slice_get ys k ≡ Some s → P s
  pub keeps : Keeps xs ys
  pub runs : RunsOn (length xs) (row_of v) (length ys)
  pub has_form : HasFormIn ys v f

module _ {X : Type 0} (P : X → Type 0) (xs ys : List X) where
  stays : (v : Node) (f : Form X) → ys ≡ xs → row_of v ≡ [] → HasFormIn ys v f → Grows P xs ys v f
  stays v f same none has = record {
    once = λ o. subst HasOnePlace (sym same) o;
    all = λ a k s at. a k s (subst (λ zs. slice_get zs k ≡ Some s) same at);
    keeps = λ k s at. subst (λ zs. slice_get zs k ≡ Some s) (sym same) at;
    runs = subst (λ r. RunsOn (length xs) r (length ys)) (sym none) (sym (ap length same));
    has_form = has;
  }

  one_more : (s : X) (v : ℕ → Node) (w : Node) (i : ℕ) (f : Form X)
      → P s
      → IsAdded xs s ys i
      → RunsOn (length xs) (row_of w) (length ys)
      → HasFormIn ys w f
      → Grows P xs ys w f
  one_more s v w i f here a runs has = record {
    once = added_once xs ys s i a;
    all = λ all. added_all xs ys s i a P all here;
    keeps = added_keeps xs ys s i a;
    runs = runs;
    has_form = has;
  }

  -- twice the same
  twice_runs : (s : X) (i : ℕ) → IsAdded xs s ys i → RunsOn (length xs) (i ∷ i ∷ []) (length ys)
  twice_runs s i a =
      runs_append (length xs) (length ys) (length ys) (i ∷ []) (i ∷ []) (added_runs xs ys s i a)
      (inl (slice_get_within ys i s a.stands, refl))

  pub grown : (v : Node) (f : Form X)
      → ((s : X) → IsMember s (children_of f) → P s)
      → Numbers f xs ys v
      → Grows P xs ys v f
  grown v (form.Constant b) children n =
      stays v (form.Constant b) n.0 (ap row_of n.1 ∙ constant_row b) n.1
  grown v (form.Literal p b) children n = stays v (form.Literal p b) n.0 (ap row_of n.1) n.1
  grown v (form.Two b l r) children n =
      let zs = n.between in
      let one = added_runs xs zs l n.left n.first in
      let other = added_runs zs ys r n.right n.second in
      let row = ap row_of n.is ∙ pair_row b n.left n.right in record {
        once = λ o. added_once zs ys r n.right n.second (added_once xs zs l n.left n.first o);
        all = λ all.
            added_all zs ys r n.right n.second P
            (added_all xs zs l n.left n.first P all (children l (inl refl)))
            (children r (inr (inl refl)));
        keeps = λ k s at. added_keeps zs ys r n.right n.second k s (added_keeps xs zs l n.left n.first k s at);
        runs =
            subst (λ r. RunsOn (length xs) r (length ys)) (sym row)
            (runs_append (length xs) (length zs) (length ys) (n.left ∷ []) (n.right ∷ []) one other);
        has_form = (
          n.left,
          n.right,
          added_keeps zs ys r n.right n.second n.left l (n.first).stands,
          (n.second).stands,
          n.is,
        );
      }
  grown v (form.Twice b s) children n =
      let row = ap row_of n.is ∙ pair_row b n.to n.to in
      one_more s (λ i. pair_of b i i) v n.to (form.Twice b s) (children s (inl refl)) n.added
      (subst (λ r. RunsOn (length xs) r (length ys)) (sym row) (twice_runs s n.to n.added))
      (n.to, (n.added).stands, n.is)
  grown v (form.Edge b s) children n =
      let row = ap row_of n.is ∙ edge_row b n.to in
      one_more s (edge_of b) v n.to (form.Edge b s) (children s (inl refl)) n.added
      (subst (λ r. RunsOn (length xs) r (length ys)) (sym row) (added_runs xs ys s n.to n.added))
      (n.to, (n.added).stands, n.is)

-- a form stays where it is
still : {X : Type 0} (xs ys : List X)
    → Keeps xs ys
    → (v : Node) (f : Form X)
    → HasFormIn xs v f
    → HasFormIn ys v f
still xs ys keeps v (form.Constant b) h = h
still xs ys keeps v (form.Literal p b) h = h
still xs ys keeps v (form.Two b l r) h = (h.0, h.1, keeps h.0 l h.2, keeps h.1 r h.3, h.4)
still xs ys keeps v (form.Twice b s) h = (h.0, keeps h.0 s h.1, h.2)
still xs ys keeps v (form.Edge b s) h = (h.0, keeps h.0 s h.1, h.2)

module _ {X : Type 0} (F : X → Form X) (K : X → ℕ) (root : X) (max : ℕ) where
  abbrev Met : X → Type 0
  Met = IsMet F root

  -- the root alone, and nothing else
  root_once : HasOnePlace (root ∷ [])
  root_once = once_more [] root (λ j k x at_j at_k. absurd (cc)) (λ none. none)

  root_met : (n : ℕ) (x : X) → slice_get (root ∷ []) n ≡ Some x → Met x
  root_met n x at = by_place (last_or [] root x n at)
    where
      by_place : (slice_get {X = X} [] n ≡ Some x) ⊎ ((n ≡ 0) × (x ≡ root)) → Met x
      by_place (inl none) = absurd (cc)
      by_place (inr end) = subst Met (sym end.1) at_root

  one_value : 1 ≤ max → IsDraft F K root max (root ∷ []) [] []
  one_value few = record {
    once = root_once;
    begins = refl;
    are_met = root_met;
    few = few;
    short = omega arith;
    as_many = refl;
    made = λ n low. absurd (omega (arith, low));
    runs_on = inr (refl, refl);
    from_earlier = λ k some low. absurd (omega (arith, some, low));
  }

  pub begun : (xs : List X) (vs : List Node) (ps : List ℕ)
      → xs ≡ root ∷ []
      → vs ≡ []
      → ps ≡ []
      → 1 ≤ max
      → IsDraft F K root max xs vs ps
  begun xs vs ps alone none unranked few =
      subst (λ zs. IsDraft F K root max zs vs ps) (sym alone)
      (subst (λ us. IsDraft F K root max (root ∷ []) us ps) (sym none)
      (subst (IsDraft F K root max (root ∷ []) []) (sym unranked) (one_value few)))

  module _ (xs ys : List X) (vs ws : List Node) (ps qs : List ℕ)
      (D : IsDraft F K root max xs vs ps)
      (S : IsStep F K xs ys vs ws ps qs) (few : length ys ≤ max) where
    abbrev f : Form X
    f = F S.value

    growth : Grows Met xs ys S.put.node f
    growth =
        grown Met xs ys S.put.node f
        (λ s m. behind S.value s (D.are_met (length vs) S.value S.at) m) S.put.numbers

    long : length ws ≡ length vs + 1
    long = ap length S.put.nodes ∙ length-append vs (S.put.node ∷ [])

    rows : map row_of ws ≡ map row_of vs ++ row_of S.put.node ∷ []
    rows = ap (map row_of) S.put.nodes ∙ map-append row_of vs (S.put.node ∷ [])

    low_value : length vs < length xs
    low_value = slice_get_within xs (length vs) S.value S.at

    runs : RunsOn 0 (0 ∷ flat_map (λ (r : List ℕ). r) (map row_of ws)) (length ys)
    runs =
        subst (λ r. RunsOn 0 (0 ∷ flat_map (λ (s : List ℕ). s) r) (length ys)) (sym rows)
        (turns_more (map row_of vs) (row_of S.put.node) (length xs) (length ys) growth.runs D.runs_on)

    up : length xs ≤ length ys
    up = runs_up (length xs) (length ys) (row_of S.put.node) growth.runs

    made_at : (n : ℕ) → n < length ws → IsMade F K ys ws qs n
    made_at n low =
        ⊎_elim
        (λ (old : n < length vs).
        let m = D.made n old in record {
          value = m.value;
          at = growth.keeps n m.value m.at;
          has_form =
              subst (λ v. HasFormIn ys v (F m.value))
              (sym (ap (λ us. get_or us n node.True) S.put.nodes ∙ get_or_append_left vs (S.put.node ∷ []) node.True n old))
              (still xs ys growth.keeps (get_or vs n node.True) (F m.value) m.has_form);
          priority =
              ap (λ us. get_or us n 0) S.put.priorities
              ∙ get_or_append_left ps (K S.value ∷ []) 0 n
              (let same = D.as_many in omega (arith, old, same))
              ∙ m.priority;
        })
        (λ (new : length vs ≤ n).
        let is : n ≡ length vs = omega (arith, new, low, long) in record {
          value = S.value;
          at = growth.keeps n S.value (ap (slice_get xs) is ∙ S.at);
          has_form =
              subst (λ v. HasFormIn ys v f)
              (sym (ap (λ us. get_or us n node.True) S.put.nodes
              ∙ ap (λ k. get_or (vs ++ S.put.node ∷ []) k node.True) is
              ∙ get_or-append_seam vs S.put.node [] node.True)) growth.has_form;
          priority =
              ap (λ us. get_or us n 0) S.put.priorities
              ∙ ap (λ k. get_or (ps ++ K S.value ∷ []) k 0) (is ∙ sym D.as_many)
              ∙ get_or-append_seam ps (K S.value) [] 0;
        })
        (cases_lt n (length vs))

    earlier : AreFromEarlier (map row_of ws) (length ys)
    earlier =
        subst (λ r. AreFromEarlier r (length ys)) (sym rows)
        (earlier_more (map row_of vs) (row_of S.put.node) (length xs) (length ys) growth.runs
        (let l = length-map vs row_of in omega (arith, l, low_value)) D.from_earlier)

    pub longer : max - length ws < max - length vs
    longer = let few = D.few in omega (arith, long, low_value, few)

    pub stepped : IsDraft F K root max ys ws qs
    stepped = record {
      once = growth.once D.once;
      begins = growth.keeps 0 root D.begins;
      are_met = growth.all D.are_met;
      few = few;
      short = omega (arith, long, low_value, up);
      as_many =
          let q = ap length S.put.priorities ∙ length-append ps (K S.value ∷ []) in
          let same = D.as_many in
          omega (arith, q, long, same);
      made = made_at;
      runs_on = runs;
      from_earlier = earlier;
    }

  -- one node too many
  one_too_many : (zs : List X) (x : X)
      → HasOnePlace zs
      → ((k : ℕ) (s : X) → slice_get zs k ≡ Some s → Met s)
      → IsFull max zs x
      → Met x
      → IsTooLarge F root max
  one_too_many zs x once all full here = record {
    values = zs ++ x ∷ [];
    once = once_more zs x once full.is_new;
    are_met = met_more;
    more = let l = length-append zs (x ∷ []) in let is = full.full in omega (arith, l, is);
  }
    where
      met_more : (n : ℕ) (s : X) → slice_get (zs ++ x ∷ []) n ≡ Some s → Met s
      met_more n s at = by_place (last_or zs x s n at)
        where
          by_place : (slice_get zs n ≡ Some s) ⊎ ((n ≡ length zs) × (s ≡ x)) → Met s
          by_place (inl there) = all n s there
          by_place (inr end) = subst Met (sym end.1) here

  pub root_too_many : max ≡ 0 → IsTooLarge F root max
  root_too_many none = record {
    values = root ∷ [];
    once = root_once;
    are_met = root_met;
    more = omega (arith, none);
  }

  module _ (xs : List X) (vs : List Node) (ps : List ℕ) (D : IsDraft F K root max xs vs ps) where
    overflowed : (f : Form X)
        → ((t : X) → IsMember t (children_of f) → Met t)
        → Overflows max xs f
        → IsTooLarge F root max
    overflowed (form.Constant b) children none = absurd none
    overflowed (form.Literal p b) children none = absurd none
    overflowed (form.Two b l r) children (inl full) = one_too_many xs l D.once D.are_met full (children l (inl refl))
    overflowed (form.Two b l r) children (inr fills) =
        one_too_many fills.between r (added_once xs fills.between l fills.left fills.first D.once)
        (added_all xs fills.between l fills.left fills.first Met D.are_met (children l (inl refl)))
        fills.full (children r (inr (inl refl)))
    overflowed (form.Twice b t) children full = one_too_many xs t D.once D.are_met full (children t (inl refl))
    overflowed (form.Edge b t) children full = one_too_many xs t D.once D.are_met full (children t (inl refl))

    pub no_room : HasNoRoom F max xs (length vs) → IsTooLarge F root max
    no_room h =
        overflowed (F h.value)
        (λ t m. behind h.value t (D.are_met (length vs) h.value h.at) m) h.full
