-- What one decision more does to classes, marks and open terms: whatever was closed stays closed, and the pair decided is closed.
use Prim.Native.Nat.{ℕ}
use mathlib.Core.Bool.{Bool, true, false, cond, ◌&&◌, ◌||◌, or-true, false≢true}
use mathlib.Core.List.{List, [], ◌∷◌}
use mathlib.Core.Path.{◌≡◌, refl, sym, ap, ◌∙◌}
use borrow.Author.Tests.{eqb-true, eq-eqb}
use lib.Dec.{eqb}
use lib.ListN.{get_or}
use Rattle.sheet.specs.Conditions.{Term, same, apart}
use Rattle.equality.specs.Node.{Decisions, classes, smallest_lot, share, between, marked, marked_apart, is_true, is_false, is_open, value}
use Rattle.equality.proofs.Tests.{or_cases, and_true_both}
use Rattle.equality.specs.Opens.{closed, closed_term}
use Rattle.equality.proofs.Classes.{joined_to, same_class}

eqb_self : (n : ℕ) → eqb n n ≡ true
eqb_self n = eq-eqb n n refl

-- ---- a term is open exactly where its pair is not closed
pub open_not_closed : (ds : Decisions) (t : Term) → value ds t ≡ is_open → closed_term ds t ≡ false
unfolding value
open_not_closed ds (same a b) e = go (share ds a b) (marked_apart ds a b) e
  where
    go : (p q : Bool) → cond p is_true (cond q is_false is_open) ≡ is_open → (p || q) ≡ false
    go true q e = cc
    go false true e = cc
    go false false e = refl
open_not_closed ds (apart a b) e = go (share ds a b) (marked_apart ds a b) e
  where
    go : (p q : Bool) → cond p is_false (cond q is_true is_open) ≡ is_open → (p || q) ≡ false
    go true q e = cc
    go false true e = cc
    go false false e = refl

pub not_closed_open : (ds : Decisions) (t : Term) → closed_term ds t ≡ false → value ds t ≡ is_open
unfolding value
not_closed_open ds (same a b) e = go (share ds a b) (marked_apart ds a b) e
  where
    go : (p q : Bool) → (p || q) ≡ false → cond p is_true (cond q is_false is_open) ≡ is_open
    go true q e = absurd (false≢true (sym e))
    go false true e = absurd (false≢true (sym e))
    go false false e = refl
not_closed_open ds (apart a b) e = go (share ds a b) (marked_apart ds a b) e
  where
    go : (p q : Bool) → (p || q) ≡ false → cond p is_false (cond q is_true is_open) ≡ is_open
    go true q e = absurd (false≢true (sym e))
    go false true e = absurd (false≢true (sym e))
    go false false e = refl

-- ---- classes that are joined, or renamed in any way, keep their marks

module _ (cs cs' : List ℕ) (g : ℕ → ℕ) (renamed : (lot : ℕ) → get_or cs' lot 0 ≡ g (get_or cs lot 0)) where
  renamed_test : (lot x : ℕ) → eqb (get_or cs lot 0) x ≡ true → eqb (get_or cs' lot 0) (g x) ≡ true
  renamed_test lot x e = eq-eqb _ _ (renamed lot ∙ ap g (eqb-true _ x e))

  renamed_between : (x y a b : ℕ) → between cs x y a b ≡ true → between cs' (g x) (g y) a b ≡ true
  renamed_between x y a b e =
      or_cases (eqb (get_or cs a 0) x && eqb (get_or cs b 0) y) (eqb (get_or cs a 0) y && eqb (get_or cs b 0) x) e
      (λ h. let both = and_true_both _ _ h in simp (renamed_test a x both.0, renamed_test b y both.1))
      (λ h. let both = and_true_both _ _ h in simp (renamed_test a y both.0, renamed_test b x both.1, or-true))

  pub renamed_marked : (ds : Decisions) (x y : ℕ) → marked cs ds x y ≡ true → marked cs' ds (g x) (g y) ≡ true
  unfolding marked
  renamed_marked [] x y e = absurd (false≢true e)
  renamed_marked (same a b ∷ ds) x y e = renamed_marked ds x y e
  renamed_marked (apart a b ∷ ds) x y e =
      or_cases (between cs x y a b) (marked cs ds x y) e
      (λ h. simp (renamed_between x y a b h))
      (λ h. simp (renamed_marked ds x y h, or-true))

-- ---- one pair more

module _ (ds : Decisions) (a b : ℕ) where
  pub share_stays : (u v : ℕ) → share ds u v ≡ true → share (same a b ∷ ds) u v ≡ true
  share_stays u v e =
      eq-eqb _ _
      (same_class ds a b u
      ∙ ap (joined_to (smallest_lot ds a) (smallest_lot ds b)) (eqb-true _ _ e)
      ∙ sym (same_class ds a b v))

  pub marked_stays : (u v : ℕ) → marked_apart ds u v ≡ true → marked_apart (same a b ∷ ds) u v ≡ true
  unfolding marked
  marked_stays u v e =
      rw (same_class ds a b u, same_class ds a b v)
      (renamed_marked (classes ds) (classes (same a b ∷ ds)) (joined_to (smallest_lot ds a) (smallest_lot ds b)) (same_class ds a b) ds _ _ e)

  -- What was closed stays closed,
  pub same-closed : (u v : ℕ) → closed ds u v ≡ true → closed (same a b ∷ ds) u v ≡ true
  same-closed u v e =
      or_cases (share ds u v) (marked_apart ds u v) e
      (λ p. simp (share_stays u v p))
      (λ q. simp (marked_stays u v q, or-true))

  pub apart-closed : (u v : ℕ) → closed ds u v ≡ true → closed (apart a b ∷ ds) u v ≡ true
  unfolding classes marked
  apart-closed u v e =
      or_cases (share ds u v) (marked_apart ds u v) e
      (λ p. simp p)
      (λ q. simp (q, or-true))

  -- and the pair decided is closed.
  pub same_shares : share (same a b ∷ ds) a b ≡ true
  same_shares = eq-eqb _ _ (same_class ds a b a ∙ joined (smallest_lot ds a) (smallest_lot ds b) ∙ sym (same_class ds a b b))
    where
      joined : (x y : ℕ) → joined_to x y x ≡ joined_to x y y
      joined x y = simp (eqb_self, or-true)

  pub same_closes : closed (same a b ∷ ds) a b ≡ true
  same_closes = simp same_shares

  pub apart_closes : closed (apart a b ∷ ds) a b ≡ true
  unfolding classes marked
  apart_closes = simp (eqb_self, or-true)
