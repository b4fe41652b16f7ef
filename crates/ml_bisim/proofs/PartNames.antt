-- The names of parts, as they are given in the order of the numbers of parts.
--
--   Named        == the parts of the first i states have names
--   named_none   == at first none has one
--   named_old    == a state whose part has a name already
--   named_more   == the next part gets a name
--   kept_name, new_name == its class, if it is kept, and else a number that no class has
--   NamedSo, class_added == the same with the members and the keepers of classes, and with one class more
use Rattle.std.proofs.Common.{ℕ, ◌≡◌, ◌≢◌, ◌+◌, ◌<◌, ◌≤◌, ◌⊎◌, inl, inr, List, [], ◌∷◌, ◌++◌, length, length-append, get_or, drop, refl, sym, ap, ◌∙◌, subst, arith}
use Rattle.std.proofs.lemmas.Bool.{cases_eq}
use Rattle.std.proofs.lemmas.List.{get_or_append_left, drop_more, map-append}
use Rattle.std.specs.Global.{Vec}
use Rattle.ml_lists.specs.InTurn.{RunsOn}
use Rattle.ml_bisim.specs.Quotient.{class_of}
use Rattle.ml_bisim.specs.private.Rounds.{HasMembers, name_at, rows}
use Rattle.ml_bisim.proofs.Links.{last_entry}
use Rattle.ml_bisim.proofs.MemberLists.{widened}

module _ (class states ns keeper : List ℕ) (count old : ℕ) where
  abbrev class_at : ℕ → ℕ
  class_at i = class_of class (get_or states i 0)

  abbrev part : ℕ → ℕ
  part i = get_or ns i 0

  abbrev keeper_of : ℕ → ℕ
  keeper_of c = get_or keeper c 0

  pub record Named (i cur : ℕ) (names : List ℕ) : Type 0 where
    pub runs : RunsOn (length names) (drop i ns) count
    pub grown : old ≤ cur
    pub part_low : (j : ℕ) → j < i → part j < length names
    pub kept : (j : ℕ) → j < length states → part j < length names → keeper_of (class_at j) ≡ part j
        → name_at names ns j ≡ class_at j
    pub fresh : (j : ℕ) → j < length states → part j < length names → keeper_of (class_at j) ≢ part j
        → old ≤ name_at names ns j
    pub back : (g : ℕ) → g < length names → get_or names g 0 < old → keeper_of (get_or names g 0) ≡ g
    pub low : (g : ℕ) → g < length names → get_or names g 0 < cur
    pub apart : (g h : ℕ) → g < length names → h < length names → get_or names g 0 ≡ get_or names h 0 → g ≡ h

  pub named_none : (names : List ℕ) → names ≡ [] → RunsOn 0 ns count → Named 0 old names
  named_none names none runs =
      let long : length names ≡ 0 = ap length none in
      record {
        runs = subst (λ n. RunsOn n ns count) (sym long) runs;
        grown = omega arith;
        part_low = λ j low. absurd (omega (arith, low));
        kept = λ j low part_low e. absurd (omega (arith, part_low, long));
        fresh = λ j low part_low e. absurd (omega (arith, part_low, long));
        back = λ g low e. absurd (omega (arith, low, long));
        low = λ g low. absurd (omega (arith, low, long));
        apart = λ g h low under e. absurd (omega (arith, low, long));
      }

  module _ (each : length ns ≡ length states)
      (one_class : (i j : ℕ) → i < length states → j < length states → get_or ns i 0 ≡ get_or ns j 0
      → class_at i ≡ class_at j) where
    module _ (i cur : ℕ) (names : List ℕ) (is : Named i cur names) (i_low : i < length states) where
      next : drop i ns ≡ part i ∷ drop (i + 1) ns
      next = drop_more ns i 0 (omega (arith, i_low, each))

      here : RunsOn (length names) (part i ∷ drop (i + 1) ns) count
      here = subst (λ xs. RunsOn (length names) xs count) next is.runs

      part_low_more : (n : ℕ) → length names ≤ n → part i < n → (j : ℕ) → j < i + 1 → part j < n
      part_low_more n more low j under = by_case (cases_eq j i)
        where
          by_case : (j ≡ i) ⊎ (j ≡ i → ⊥) → part j < n
          by_case (inl same) = subst (λ k. part k < n) (sym same) low
          by_case (inr other) = let before = is.part_low j (omega (arith, under, other)) in omega (arith, before, more)

      pub named_old : part i ≢ length names → Named (i + 1) cur names
      named_old other = by_run here
        where
          with_run : part i < length names → RunsOn (length names) (drop (i + 1) ns) count → Named (i + 1) cur names
          with_run low rest = record {
            runs = rest;
            grown = is.grown;
            part_low = part_low_more (length names) (omega arith) low;
            kept = is.kept;
            fresh = is.fresh;
            back = is.back;
            low = is.low;
            apart = is.apart;
          }

          by_run : RunsOn (length names) (part i ∷ drop (i + 1) ns) count → Named (i + 1) cur names
          by_run (inl (low, rest)) = with_run low rest
          by_run (inr (same, rest)) = absurd (other same)

      -- the next part gets the name w
      module _ (new : List ℕ) (w cur_new : ℕ) (met : part i ≡ length names) (pushed : new ≡ names ++ w ∷ [])
          (more : cur ≤ cur_new)
          (w_kept : keeper_of (class_at i) ≡ part i → w ≡ class_at i)
          (w_fresh : keeper_of (class_at i) ≢ part i → old ≤ w)
          (w_back : w < old → keeper_of w ≡ part i)
          (w_low : w < cur_new)
          (w_apart : (h : ℕ) → h < length names → get_or names h 0 ≢ w) where
        long : length new ≡ length names + 1
        long = let added = length-append names (w ∷ []) in let is_new = ap length pushed in omega (arith, is_new, added)

        before : (g : ℕ) → g < length names → get_or new g 0 ≡ get_or names g 0
        before g low = ap (λ xs. get_or xs g 0) pushed ∙ get_or_append_left names (w ∷ []) 0 g low

        at_end : (g : ℕ) → g ≡ length names → get_or new g 0 ≡ w
        at_end g same = ap (λ xs. get_or xs g 0) pushed ∙ last_entry names w 0 g same

        -- an older part, or this one
        split : (g : ℕ) → g < length new → (g < length names) ⊎ (g ≡ length names)
        split g low = by_case (cases_eq g (length names))
          where
            by_case : (g ≡ length names) ⊎ (g ≡ length names → ⊥) → (g < length names) ⊎ (g ≡ length names)
            by_case (inl same) = inr same
            by_case (inr other) = inl (omega (arith, low, long, other))

        of_this : (j : ℕ) → j < length states → part j ≡ length names → class_at j ≡ class_at i
        of_this j j_low e = one_class j i j_low i_low (e ∙ sym met)

        pub named_more : Named (i + 1) cur_new new
        named_more = by_run here
          where
            kept : (j : ℕ) → j < length states → (part j < length names) ⊎ (part j ≡ length names)
                → keeper_of (class_at j) ≡ part j
                → name_at new ns j ≡ class_at j
            kept j j_low (inl low) e = before (part j) low ∙ is.kept j j_low low e
            kept j j_low (inr same) e =
                let one = of_this j j_low same in
                at_end (part j) same ∙ w_kept (ap keeper_of (sym one) ∙ e ∙ same ∙ sym met) ∙ sym one

            fresh : (j : ℕ) → j < length states → (part j < length names) ⊎ (part j ≡ length names)
                → keeper_of (class_at j) ≢ part j
                → old ≤ name_at new ns j
            fresh j j_low (inl low) e = subst (λ v. old ≤ v) (sym (before (part j) low)) (is.fresh j j_low low e)
            fresh j j_low (inr same) e =
                let one = of_this j j_low same in
                subst (λ v. old ≤ v) (sym (at_end (part j) same))
                (w_fresh (λ k. e (ap keeper_of one ∙ k ∙ met ∙ sym same)))

            back : (g : ℕ) → (g < length names) ⊎ (g ≡ length names) → get_or new g 0 < old → keeper_of (get_or new g 0) ≡ g
            back g (inl low) under =
                let is_old = before g low in
                ap keeper_of is_old ∙ is.back g low (omega (arith, under, is_old))
            back g (inr same) under =
                let is_w = at_end g same in ap keeper_of is_w ∙ w_back (omega (arith, under, is_w)) ∙ met ∙ sym same

            low_new : (g : ℕ) → (g < length names) ⊎ (g ≡ length names) → get_or new g 0 < cur_new
            low_new g (inl low) = let is_old = before g low in let under = is.low g low in omega
                (arith, is_old, under, more)
            low_new g (inr same) = let is_w = at_end g same in omega (arith, is_w, w_low)

            apart : (g h : ℕ) → (g < length names) ⊎ (g ≡ length names) → (h < length names) ⊎ (h ≡ length names)
                → get_or new g 0 ≡ get_or new h 0
                → g ≡ h
            apart g h (inl g_low) (inl h_low) e = is.apart g h g_low h_low (sym (before g g_low) ∙ e ∙ before h h_low)
            apart g h (inl g_low) (inr same) e = absurd (w_apart g g_low (sym (before g g_low) ∙ e ∙ at_end h same))
            apart g h (inr same) (inl h_low) e = absurd (w_apart h h_low (sym (before h h_low) ∙ sym e ∙ at_end g same))
            apart g h (inr same) (inr also) e = same ∙ sym also

            with_run : RunsOn (length names + 1) (drop (i + 1) ns) count → Named (i + 1) cur_new new
            with_run rest = record {
              runs = subst (λ n. RunsOn n (drop (i + 1) ns) count) (sym long) rest;
              grown = omega (arith, is.grown, more);
              part_low = part_low_more (length new) (omega (arith, long)) (omega (arith, met, long));
              kept = λ j j_low low e. kept j j_low (split (part j) low) e;
              fresh = λ j j_low low e. fresh j j_low (split (part j) low) e;
              back = λ g low under. back g (split g low) under;
              low = λ g low. low_new g (split g low);
              apart = λ g h g_low h_low e. apart g h (split g g_low) (split h h_low) e;
            }

            by_run : RunsOn (length names) (part i ∷ drop (i + 1) ns) count → Named (i + 1) cur_new new
            by_run (inl (low, rest)) = absurd (omega (arith, low, met))
            by_run (inr (same, rest)) = with_run rest

      -- the part that is kept for its class
      pub kept_name : (new : List ℕ)
          → part i ≡ length names
          → class_at i < old
          → keeper_of (class_at i) ≡ part i
          → new ≡ names ++ class_at i ∷ []
          → Named (i + 1) cur new
      kept_name new met class_low keeps pushed =
          named_more new (class_at i) cur met pushed (omega arith) (λ e. refl) (λ other. absurd (other keeps))
          (λ low. keeps)
          (omega (arith, class_low, is.grown))
          (λ h low e. let under : get_or names h 0 < old = omega (arith, class_low, e) in
          let same : h ≡ part i = sym (is.back h low under) ∙ ap keeper_of e ∙ keeps in
          omega (arith, same, met, low))

      -- another one
      pub new_name : (new : List ℕ) (cur_new : ℕ)
          → part i ≡ length names
          → keeper_of (class_at i) ≢ part i
          → new ≡ names ++ cur ∷ []
          → cur_new ≡ cur + 1
          → Named (i + 1) cur_new new
      new_name new cur_new met other pushed one_more =
          named_more new cur cur_new met pushed (omega (arith, one_more)) (λ e. absurd (other e)) (λ e. is.grown)
          (λ low. absurd (omega (arith, low, is.grown))) (omega (arith, one_more))
          (λ h low e. let under = is.low h low in omega (arith, under, e))

-- ---- with the members and the keepers of classes

pub record NamedSo (class states ns : List ℕ) (count old : ℕ) (keeper : List ℕ) (i : ℕ) (members : List (Vec ℕ))
    (new_keeper names : List ℕ) : Type 0 where
  pub has_members : HasMembers class (length class) (rows members)
  pub keepers : length new_keeper ≡ length members
  pub as_before : (c : ℕ) → c < length keeper → get_or new_keeper c 0 ≡ get_or keeper c 0
  pub named : Named class states ns keeper count old i (length members) names

pub class_added : (class states ns : List ℕ) (count old : ℕ) (keeper : List ℕ) (i j : ℕ) (members more : List (Vec ℕ))
    (new_keeper more_keepers names more_names : List ℕ) (v : Vec ℕ) (k : ℕ)
    → NamedSo class states ns count old keeper i members new_keeper names
    → v.items ≡ []
    → more ≡ members ++ v ∷ []
    → more_keepers ≡ new_keeper ++ k ∷ []
    → length keeper ≡ old
    → Named class states ns keeper count old j (length more) more_names
    → NamedSo class states ns count old keeper j more more_keepers more_names
class_added class states ns count old keeper i j members more new_keeper more_keepers names more_names v k is none
    pushed put all named =
    let items = λ (u : Vec ℕ). u.items in
    let long = length-append members (v ∷ []) in
    let is_more = ap length pushed in
    let kept_long = length-append new_keeper (k ∷ []) in
    let is_kept = ap length put in
    record {
      has_members =
          widened class (length class) (rows members) (rows more) is.has_members
          (ap rows pushed ∙ map-append items members (v ∷ []) ∙ ap (λ row. rows members ++ row ∷ []) none);
      keepers = omega (arith, long, is_more, kept_long, is_kept, is.keepers);
      as_before = λ c low.
          let grown = is.named.grown in
          let inside : c < length new_keeper = omega (arith, low, is.keepers, all, grown) in
          ap (λ xs. get_or xs c 0) put ∙ get_or_append_left new_keeper (k ∷ []) 0 c inside ∙ is.as_before c low;
      named = named;
    }
