-- What waits is kept: a change of places, winners and choices inside a part touches nothing that is said of a larger
-- part and of what stands behind the smaller one.
--
--   kept_part, kept_attracted, kept_first, kept_second == the records of a half
--   keeps_more, keeps_on, keeps_itself == what is the same behind a part is so behind a larger one; one change after
--                                         another; no change
use Rattle.std.proofs.Common.{ℕ, ◌≡◌, ◌<◌, ◌≤◌, ⊎_elim, arith, subst, sym, ◌∙◌, refl, lt-ltb}
use Rattle.std.proofs.lemmas.Bool.{cases_lt}
use borrow.Author.Tests.{ltb-true}
use Rattle.ml_parity.specs.declared.players.Player.{Player}
use Rattle.ml_parity.specs.private.Sinks.{Board}
use Rattle.ml_parity.specs.private.Parts.{IsPart, LeadsBack, IsAttracted, IsGiven, IsFirm, FirmMove, IsFirstHalf, IsSecondHalf, KeepsBehind}

module _ (r : ℕ) (place : ℕ → ℕ) (win : ℕ → Player) (s : ℕ → ℕ) (place2 : ℕ → ℕ) (win2 : ℕ → Player) (s2 : ℕ → ℕ)
    (kept : KeepsBehind r place win s place2 win2 s2) where
  -- a vertex of a larger part stays one
  pub in_to : (n : ℕ) → r ≤ n → (v : ℕ) → place v < n → place2 v < n
  in_to n fits v inside = ⊎_elim (λ (low : place v < r). omega (arith, kept.inside v low))
      (λ (late : r ≤ place v). omega (arith, kept.behind v late)) (cases_lt (place v) r)

  -- and was one
  pub in_from : (n : ℕ) → r ≤ n → (v : ℕ) → place2 v < n → place v < n
  in_from n fits v inside = ⊎_elim (λ (low : place v < r). omega arith)
      (λ (late : r ≤ place v). omega (arith, kept.behind v late)) (cases_lt (place v) r)

  -- a vertex behind a part from r on was behind it
  pub out_from : (n : ℕ) → r ≤ n → (v : ℕ) → n ≤ place2 v → n ≤ place v
  out_from n fits v late = ⊎_elim (λ (low : place v < n). absurd (omega (arith, in_to n fits v low)))
      (λ (out : n ≤ place v). out) (cases_lt (place v) n)

  -- and it has its place
  pub same_from : (n : ℕ) → r ≤ n → (v : ℕ) → n ≤ place2 v → place2 v ≡ place v
  same_from n fits v late = kept.behind v (omega (arith, out_from n fits v late))

  -- what is the same behind a part is so behind a larger one
  pub keeps_more : (n : ℕ) → r ≤ n → KeepsBehind n place win s place2 win2 s2
  keeps_more n fits = record {
    behind = λ v late. kept.behind v (omega arith);
    inside = in_to n fits;
    winners = λ v late. kept.winners v (omega arith);
    choices = λ v late. kept.choices v (omega arith);
  }

  -- no vertex of a part comes or goes
  pub kept_inside : (n : ℕ) → r ≤ n → (b : Board) → IsPart b place n win → IsPart b place2 n win2
  kept_inside n fits b p = record {
    leaves = λ v w inside move late.
        let out = out_from n fits w late in
        kept.winners w (omega arith) ∙ p.leaves v w (in_from n fits v inside) move out;
    stays = λ v inside.
        let m = p.stays v (in_from n fits v inside) in
        record { to = m.to; move = m.move; inside = in_to n fits m.to m.inside };
  }

  pub kept_given : (n : ℕ) (q : Player) → IsGiven place r n win q → r ≤ n → IsGiven place2 r n win2 q
  kept_given n q given fits v late inside =
      let out = out_from r (omega arith) v late in
      kept.winners v out ∙ given v out (in_from n fits v inside)

  module _ (b : Board) (n mid : ℕ) (q : Player) where
    pub kept_attracted : IsAttracted b place n mid r q s → IsAttracted b place2 n mid r q s2
    kept_attracted a = record {
      low = a.low;
      high = a.high;
      own = own;
      other = λ v w late below other move inside.
          let out = out_from r (omega arith) v late in
          let same = same_from r (omega arith) v late in
          let further = a.other v w out (omega arith) other move (in_from n fits w inside) in
          omega (arith, kept.behind w (omega arith));
      closed_own = λ v w low own move inside.
          in_to r (omega arith) w (a.closed_own v w (in_from r (omega arith) v low) own move (in_from n fits w inside));
      closed_other = λ v low other.
          let m = a.closed_other v (in_from r (omega arith) v low) other in
          record { to = m.to; move = m.move; inside = in_to r (omega arith) m.to m.inside };
    }
      where
        fits : r ≤ n
        fits = omega (arith, a.low, a.high)

        own : (v : ℕ) → r ≤ place2 v → place2 v < mid → b.owner v ≡ q → LeadsBack b place2 n v (s2 v)
        own v late below mine =
            let out = out_from r (omega arith) v late in
            let same = same_from r (omega arith) v late in
            let m = a.own v out (omega arith) mine in
            let there = kept.behind (s v) (omega (arith, m.behind)) in
            subst (λ w. LeadsBack b place2 n v w) (sym (kept.choices v out)) (record {
              move = m.move;
              behind = omega (arith, m.behind);
              inside = omega (arith, m.inside);
            })

    pub kept_firm : r ≤ mid → mid ≤ n → IsFirm b place n mid q win s → IsFirm b place2 n mid q win2 s2
    kept_firm low high f = record {
      own = λ v late inside own.
          let out = out_from mid low v late in
          let m = f.own v out (in_from n (omega arith) v inside) own in
          subst (λ w. FirmMove b place2 mid q win2 v w) (sym (kept.choices v (omega arith))) (record {
            move = m.move;
            behind = omega (arith, m.behind, kept.behind (s v) (omega (arith, m.behind)));
            wins = kept.winners (s v) (omega (arith, m.behind)) ∙ m.wins;
          });
      other = λ v w late inside other move.
          let m = f.other v w (out_from mid low v late) (in_from n (omega arith) v inside) other move in
          let far : mid ≤ place w = m.0 in (
            omega (arith, kept.behind w (omega arith)),
            kept.winners w (omega arith) ∙ m.1,
          );
      loops = λ c m loop late. f.loops c m (record {
        long = loop.long;
        closed = loop.closed;
        steps = λ k within.
            let out : mid ≤ place (c k) = out_from mid low (c k) (late k within) in
            let inside = ltb-true (place2 (c k)) n (loop.steps k within).alive in
            record {
              alive = lt-ltb (place (c k)) n (in_from n (omega arith) (c k) inside);
              mine = sym (kept.winners (c k) (omega arith)) ∙ (loop.steps k within).mine;
              move = (loop.steps k within).move;
              chosen = λ own. (loop.steps k within).chosen own ∙ kept.choices (c k) (omega arith);
            };
      }) (λ k within. out_from mid low (c k) (late k within));
    }

    pub kept_first : IsFirstHalf b place n mid r q win s → IsFirstHalf b place2 n mid r q win2 s2
    kept_first h = record {
      is_part = kept_inside n fits b h.is_part;
      attracted = kept_attracted h.attracted;
      given = kept_given n q h.given fits;
      lowest = λ t v late inside within.
          h.lowest t v (out_from mid low t late) (in_from n fits t inside) (in_from n fits v within);
      good = λ t late inside. h.good t (out_from mid low t late) (in_from n fits t inside);
      chosen = λ t late inside own.
          let out = out_from mid low t late in
          let m = h.chosen t out (in_from n fits t inside) own in
          let same = kept.choices t (omega arith) in
          subst (λ w. b.Move t w × (place2 w < n)) (sym same) (m.0, in_to n fits (s t) m.1);
    }
      where
        low : r ≤ mid
        low = h.attracted.low

        fits : r ≤ n
        fits = omega (arith, h.attracted.low, h.attracted.high)

    pub kept_second : IsSecondHalf b place n mid r q win s → IsSecondHalf b place2 n mid r q win2 s2
    kept_second h = record {
      is_part = kept_inside n (omega (arith, h.attracted.low, h.attracted.high)) b h.is_part;
      attracted = kept_attracted h.attracted;
      given = kept_given n q h.given (omega (arith, h.attracted.low, h.attracted.high));
      firm = kept_firm h.attracted.low h.attracted.high h.firm;
    }

-- one change after another
pub keeps_on : (r : ℕ) (place place2 place3 : ℕ → ℕ) (win win2 win3 : ℕ → Player) (s s2 s3 : ℕ → ℕ)
    → KeepsBehind r place win s place2 win2 s2 → KeepsBehind r place2 win2 s2 place3 win3 s3
    → KeepsBehind r place win s place3 win3 s3
keeps_on r place place2 place3 win win2 win3 s s2 s3 k l = record {
  behind = λ v late. let same = k.behind v late in l.behind v (omega arith) ∙ same;
  inside = λ v low. l.inside v (k.inside v low);
  winners = λ v late. let same = k.behind v late in l.winners v (omega arith) ∙ k.winners v late;
  choices = λ v late. let same = k.behind v late in l.choices v (omega arith) ∙ k.choices v late;
}

-- no change
pub keeps_itself : (r : ℕ) (place : ℕ → ℕ) (win : ℕ → Player) (s : ℕ → ℕ) → KeepsBehind r place win s place win s
keeps_itself r place win s = record {
  behind = λ v late. refl;
  inside = λ v low. low;
  winners = λ v late. refl;
  choices = λ v late. refl;
}
