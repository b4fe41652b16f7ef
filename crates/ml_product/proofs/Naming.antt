-- Tables of keys with numbers, when a position joins.
--
--   named_before, named_now == what a table says behind an addition
--   stands_last   == what was added stands at the end
--   still_leads   == behind a position with a choice the table says what it said
--   leads_named   == behind one without a choice it says what it has to, with its key
--   met_before    == a position without a choice that has a number stands there
--   not_met       == one that gets a number didn't stand there
--   met_added, met_leads, new_added == so one with an earlier number is added, and one with the next number
use Rattle.std.proofs.Common.{ℕ, ◌≡◌, ◌<◌, ◌≤◌, ◌⊎◌, inl, inr, List, [], ◌∷◌, ◌++◌, length, length-append, slice_get, get_or, Some, refl, sym, ap, ◌∙◌, subst, arith}
use Rattle.std.proofs.lemmas.List.{get_or_append_left, get_or_default}
use Rattle.std.proofs.lemmas.Option.{slice_get_within, slice_get-get_or, get_or_from_slice_get}
use Rattle.ml_lists.specs.Added.{IsAdded}
use Rattle.ml_lists.specs.Member.{IsMember}
use Rattle.ml_lists.proofs.Added.{added_early, last_or}
use Rattle.ml_lists.proofs.Member.{member-append_left, member-append_right, member_of_get}
use Rattle.ml_product.specs.declared.stored.Top.{Top}
use Rattle.ml_product.specs.private.Numbers.{HasName, GetsName, IsNamed, IsTopAt, Leads}
use Rattle.ml_product.specs.Placed.{Placed}
use Rattle.ml_product.specs.private.Links.{top_of}
use Rattle.ml_product.proofs.OnePlace.{PlaceOf, place_of}
use Rattle.ml_product.proofs.Placing.{end_get}

module _ {K : Type 0} (ks ls : List K) (ns : List ℕ) (k : K) (i : ℕ) (even : length ks ≡ length ns)
    (added : IsAdded ks k ls i) where
  -- what a table says that had the key
  pub named_before : i < length ns → (n : ℕ) → n ≡ get_or ns i n → HasName ks ns k ls ns n
  named_before low n is =
      let same = added_early ks ls k i added (omega arith) in
      record {
        place = i;
        stands = subst (λ xs. slice_get xs i ≡ Some k) same added.stands;
        keys = same;
        numbers = refl;
        is = is ∙ get_or_default ns i n 0 low;
      }

  -- and one that has it now
  pub named_now : (next : ℕ) (ms : List ℕ) → length ns ≤ i → ms ≡ ns ++ next ∷ [] → GetsName ks ns k next ls ms next
  named_now next ms high pushed = by_kind added.grown
    where
      by_kind : (ls ≡ ks) ⊎ ((ls ≡ ks ++ k ∷ []) × ¬ (IsMember k ks)) → GetsName ks ns k next ls ms next
      by_kind (inl old) =
          let low = slice_get_within ls i k added.stands in
          let e = ap length old in
          absurd (omega arith)
      by_kind (inr new) = record { is_new = new.1; keys = new.0; numbers = pushed; is = refl }

-- what stands in a list stands there with one thing more
kept : {X : Type 0} (xs : List X) (x y : X) (k : ℕ) → slice_get xs k ≡ Some y → slice_get (xs ++ x ∷ []) k ≡ Some y
kept xs x y k at =
    let low = slice_get_within xs k y at in
    slice_get-get_or (xs ++ x ∷ []) k y (omega (arith, length-append xs (x ∷ [])))
    ∙ ap Some (get_or_append_left xs (x ∷ []) y k low ∙ get_or_from_slice_get xs k y y at)

-- what was added stands at the end
pub stands_last : {X : Type 0} (xs : List X) (x : X) → slice_get (xs ++ x ∷ []) (length xs) ≡ Some x
stands_last xs x =
    slice_get-get_or (xs ++ x ∷ []) (length xs) x (omega (arith, length-append xs (x ∷ []))) ∙ ap Some (end_get xs x x)

module _ {K : Type 0} (key : Placed → K) (xs : List Placed) (ks : List K) (ns : List ℕ) (table : Leads key xs ks ns)
    (x : Placed) where
  -- what stood at a place stands there
  top_later : (k : K) (w : ℕ) → IsTopAt key xs k w → IsTopAt key (xs ++ x ∷ []) k w
  top_later k w f = record {
    entry = f.entry;
    stands = kept xs x f.entry w f.stands;
    unchosen = f.unchosen;
    key_is = f.key_is;
  }

  -- behind a position with a choice the table says what it said
  pub still_leads : (x.choice ≡ [] → ⊥) → Leads key (xs ++ x ∷ []) ks ns
  still_leads chosen = record {
    even = table.even;
    leads = λ i k at. top_later k (get_or ns i 0) (table.leads i k at);
    all = λ v y at none. by_place v y none (last_or xs x y v at);
  }
    where
      by_place : (v : ℕ) (y : Placed) → y.choice ≡ [] → (slice_get xs v ≡ Some y) ⊎ ((v ≡ length xs) × (y ≡ x))
          → IsMember (key y) ks
      by_place v y none (inl there) = table.all v y there none
      by_place v y none (inr (here, same)) =
          absurd (chosen (ap (λ (z : Placed). z.choice) (sym same) ∙ none))

  module _ (none : x.choice ≡ []) where
    leads_old : IsMember (key x) ks → Leads key (xs ++ x ∷ []) ks ns
    leads_old had = record {
      even = table.even;
      leads = λ i k at. top_later k (get_or ns i 0) (table.leads i k at);
      all = λ v y at other. by_place v y other (last_or xs x y v at);
    }
      where
        by_place : (v : ℕ) (y : Placed) → y.choice ≡ [] → (slice_get xs v ≡ Some y) ⊎ ((v ≡ length xs) × (y ≡ x))
            → IsMember (key y) ks
        by_place v y other (inl there) = table.all v y there other
        by_place v y other (inr (here, same)) = subst (λ (z : Placed). IsMember (key z) ks) (sym same) had

    top_now : IsTopAt key (xs ++ x ∷ []) (key x) (length xs)
    top_now = record { entry = x; stands = stands_last xs x; unchosen = none; key_is = refl }

    leads_new : ¬ (IsMember (key x) ks) → Leads key (xs ++ x ∷ []) (ks ++ key x ∷ []) (ns ++ length xs ∷ [])
    leads_new new = record {
      even = let e = table.even in omega (
        arith,
        length-append ks (key x ∷ []),
        length-append ns (length xs ∷ []),
      );
      leads = λ i k at. by_key i k (last_or ks (key x) k i at);
      all = λ v y at other. by_place v y other (last_or xs x y v at);
    }
      where
        by_key : (i : ℕ) (k : K) → (slice_get ks i ≡ Some k) ⊎ ((i ≡ length ks) × (k ≡ key x))
            → IsTopAt key (xs ++ x ∷ []) k (get_or (ns ++ length xs ∷ []) i 0)
        by_key i k (inl there) =
            let low = slice_get_within ks i k there in
            let e = table.even in
            subst (IsTopAt key (xs ++ x ∷ []) k) (sym (get_or_append_left ns (length xs ∷ []) 0 i (omega arith)))
            (top_later k (get_or ns i 0) (table.leads i k there))
        by_key i k (inr (here, same)) =
            let place : length ns ≡ i = sym table.even ∙ sym here in
            let number : length xs ≡ get_or (ns ++ length xs ∷ []) i 0 =
            sym (end_get ns (length xs) 0) ∙ ap (λ j. get_or (ns ++ length xs ∷ []) j 0) place in
            subst (IsTopAt key (xs ++ x ∷ []) k) number
            (subst (λ (l : K). IsTopAt key (xs ++ x ∷ []) l (length xs)) (sym same) top_now)

        by_place : (v : ℕ) (y : Placed) → y.choice ≡ [] → (slice_get xs v ≡ Some y) ⊎ ((v ≡ length xs) × (y ≡ x))
            → IsMember (key y) (ks ++ key x ∷ [])
        by_place v y other (inl there) = member-append_left (key y) ks (key x ∷ []) (table.all v y there other)
        by_place v y other (inr (here, same)) =
            subst (λ (z : Placed). IsMember (key z) (ks ++ key x ∷ [])) (sym same)
            (member-append_right (key x) ks (key x ∷ []) (inl refl))

    -- behind one without a choice it says what it has to
    pub leads_named : (ls : List K) (ms : List ℕ) (n : ℕ) → IsNamed ks ns (key x) (length xs) ls ms n
        → Leads key (xs ++ x ∷ []) ls ms
    leads_named ls ms n (inl h) =
        subst (λ js. Leads key (xs ++ x ∷ []) js ms) (sym h.keys)
        (subst (Leads key (xs ++ x ∷ []) ks) (sym h.numbers) (leads_old (member_of_get ks h.place (key x) h.stands)))
    leads_named ls ms n (inr h) =
        subst (λ js. Leads key (xs ++ x ∷ []) js ms) (sym h.keys)
        (subst (Leads key (xs ++ x ∷ []) (ks ++ key x ∷ [])) (sym h.numbers) (leads_new h.is_new))

    -- one that gets a number didn't stand there
    pub not_met : ¬ (IsMember (key x) ks) → ¬ (IsMember x xs)
    not_met new m = let p : PlaceOf x xs = place_of x xs m in new (table.all p.place x p.stands none)

-- a position without a choice that has a number stands there
pub met_before : (xs : List Placed) (ks ls : List Top) (ns ms : List ℕ) (x : Placed) (n : ℕ) → Leads top_of xs ks ns
    → x.choice ≡ []
    → HasName ks ns (top_of x) ls ms n
    → slice_get xs n ≡ Some x
met_before xs ks ls ns ms x n table none h =
    let f = table.leads h.place (top_of x) h.stands in
    let sequents = ap (λ (t : Top). t.sequent) f.key_is in
    let histories = ap (λ (t : Top). t.history) f.key_is in
    let priorities = ap (λ (t : Top). t.priority) f.key_is in
    let choices : f.entry.choice ≡ x.choice = f.unchosen ∙ sym none in
    let same : f.entry ≡ x =
    λ i. record { sequent = sequents i; history = histories i; priority = priorities i; choice = choices i } in
    subst (λ k. slice_get xs k ≡ Some x) (sym h.is) (f.stands ∙ ap Some same)

module _ (xs : List Placed) (ks ls : List Top) (ns ms : List ℕ) (x : Placed) (n : ℕ) (table : Leads top_of xs ks ns)
    (none : x.choice ≡ []) (is : IsNamed ks ns (top_of x) (length xs) ls ms n) where
  -- a position with an earlier number stands there
  pub met_added : n < length xs → IsAdded xs x xs n
  met_added low = by_kind is
    where
      by_kind : IsNamed ks ns (top_of x) (length xs) ls ms n → IsAdded xs x xs n
      by_kind (inl h) = record { stands = met_before xs ks ls ns ms x n table none h; grown = inl refl }
      by_kind (inr h) = let e = h.is in absurd (omega arith)

  -- and the table is as it was
  pub met_leads : n < length xs → Leads top_of xs ls ms
  met_leads low = by_kind is
    where
      by_kind : IsNamed ks ns (top_of x) (length xs) ls ms n → Leads top_of xs ls ms
      by_kind (inl h) =
          subst (λ js. Leads top_of xs js ms) (sym h.keys) (subst (Leads top_of xs ks) (sym h.numbers) table)
      by_kind (inr h) = let e = h.is in absurd (omega arith)

  -- one with the next number is a new one
  pub new_added : length xs ≤ n → IsAdded xs x (xs ++ x ∷ []) (length xs)
  new_added high = by_kind is
    where
      by_kind : IsNamed ks ns (top_of x) (length xs) ls ms n → IsAdded xs x (xs ++ x ∷ []) (length xs)
      by_kind (inl h) =
          let low = slice_get_within xs n x (met_before xs ks ls ns ms x n table none h) in absurd (omega arith)
      by_kind (inr h) =
          record { stands = stands_last xs x; grown = inr (refl, not_met top_of xs ks ns table x none h.is_new) }
