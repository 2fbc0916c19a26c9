-- Classes and marks say the truth of every assignment that respects the decisions (theorem 1).
use Prim.Native.Nat.{ℕ, zero, suc, ◌+◌, ◌≤◌, ◌<◌, min}
use mathlib.Core.Bool.{Bool, true, false, cond, ◌&&◌, ◌||◌, false≢true}
use mathlib.Core.List.{List, [], ◌∷◌, map}
use mathlib.Core.Logic.{◌⊎◌, inl, inr, ⊎_elim, ◌≢◌}
use mathlib.Core.Path.{◌≡◌, refl, sym, ap, ◌∙◌}
use native.Mathlib.Omega.{arith}
use borrow.Author.Tests.{eqb-true, leb-true, leb-false}
use lib.Dec.{eqb, leb}
use lib.ListN.{length, get_or, length-map}
use Rattle.sheet.specs.Format.{most_lots}
use Rattle.sheet.specs.Conditions.{Term, same, apart, count_up}
use Rattle.buffers.specs.Lists.{All}
use Rattle.sheet.proofs.Ranges.{length-count_up}
use Rattle.equality.specs.Meaning.{Holds}
use Rattle.equality.specs.Node.{Decisions, Respects, merged, class_of, classes, smallest_lot, share, between, marked, marked_apart, Value, is_true, is_false, is_open, value}
use Rattle.equality.specs.Opens.{Small}
use Rattle.equality.proofs.Tests.{or_cases, and_true_both}

-- ---- entries

-- A list whose entries are renamed; past its end both sides are 0.
pub get_d_map : (g : ℕ → ℕ) → g 0 ≡ 0 → (l : List ℕ) (i : ℕ) → get_or (map g l) i 0 ≡ g (get_or l i 0)
get_d_map g e [] i = sym e
get_d_map g e (x ∷ l) zero = refl
get_d_map g e (x ∷ l) (suc i) = get_d_map g e l i

pub classes-length : (ds : Decisions) → length (classes ds) ≡ suc most_lots
unfolding classes merged
classes-length [] = length-count_up (suc most_lots) 0
classes-length (same a b ∷ ds) = simp length-map (classes-length ds)
classes-length (apart a b ∷ ds) = classes-length ds

-- What becomes of a class when the classes x and y are joined.
abbrev pub joined_to : ℕ → ℕ → ℕ → ℕ
joined_to x y z = cond (eqb z x || eqb z y) (min x y) z

pub joined_zero : (x y : ℕ) → joined_to x y 0 ≡ 0
joined_zero x y = go (eqb 0 x) (eqb 0 y) refl refl
  where
    go : (p q : Bool) → eqb 0 x ≡ p → eqb 0 y ≡ q → cond (p || q) (min x y) 0 ≡ 0
    go true q ex ey = omega (arith, eqb-true 0 x ex)
    go false true ex ey = omega (arith, eqb-true 0 y ey)
    go false false ex ey = refl

-- So lot 0's class, where it is known by 0, stays so whichever two are joined.
pub merged_zero : (x y : ℕ) (cs : List ℕ) → class_of cs 0 ≡ 0 → class_of (merged x y cs) 0 ≡ 0
unfolding merged
merged_zero x y cs e = get_d_map _ (joined_zero x y) cs 0 ∙ ap (joined_to x y) e ∙ joined_zero x y

-- A lot's class after a pair is set same, and after a pair is set apart. A number that is no lot counts as class 0.
pub same_class : (ds : Decisions) (a b lot : ℕ)
    → smallest_lot (same a b ∷ ds) lot ≡ joined_to (smallest_lot ds a) (smallest_lot ds b) (smallest_lot ds lot)
unfolding classes merged
same_class ds a b lot = get_d_map _ (joined_zero (smallest_lot ds a) (smallest_lot ds b)) (classes ds) lot

pub apart_class : (ds : Decisions) (a b lot : ℕ) → smallest_lot (apart a b ∷ ds) lot ≡ smallest_lot ds lot
unfolding classes
apart_class ds a b lot = refl

count_up_at : (n from i : ℕ) → i < n → get_or (count_up n from) i 0 ≡ from + i
unfolding count_up
count_up_at zero from i h = absurd (omega arith)
count_up_at (suc n) from zero h = omega arith
count_up_at (suc n) from (suc i) h = count_up_at n (suc from) i (omega arith) ∙ omega arith

pub no_class : (lot : ℕ) → lot ≤ most_lots → smallest_lot [] lot ≡ lot
unfolding classes
no_class lot h = count_up_at (suc most_lots) 0 lot (omega arith) ∙ omega arith

count_up_past : (n from i : ℕ) → n ≤ i → get_or (count_up n from) i 0 ≡ 0
unfolding count_up
count_up_past zero from i h = refl
count_up_past (suc n) from zero h = absurd (omega arith)
count_up_past (suc n) from (suc i) h = count_up_past n (suc from) i (omega arith)

pub past_class : (lot : ℕ) → most_lots < lot → smallest_lot [] lot ≡ 0
unfolding classes
past_class lot h = count_up_past (suc most_lots) 0 lot (omega arith)

-- ---- what an assignment that respects the decisions makes of classes and marks

-- The smaller of two numbers is one of them.
pub min_either : (x y : ℕ) → (min x y ≡ x) ⊎ (min x y ≡ y)
min_either x y = go (leb x y) refl
  where
    go : (b : Bool) → leb x y ≡ b → (min x y ≡ x) ⊎ (min x y ≡ y)
    go true e = inl (omega (arith, leb-true))
    go false e = inr (omega (arith, leb-false))

module _ {A : Type 0} (f : ℕ → A) where
  min-value : (x y : ℕ) → f x ≡ f y → f (min x y) ≡ f x
  min-value x y e = ⊎_elim (λ h. ap f h) (λ h. ap f h ∙ sym e) (min_either x y)

  -- Where the classes joined have one value, each lot's class keeps its value.
  joined_value : (x y z : ℕ) → f x ≡ f y → f (joined_to x y z) ≡ f z
  joined_value x y z e = go (eqb z x) (eqb z y) refl refl
    where
      go : (p q : Bool) → eqb z x ≡ p → eqb z y ≡ q → f (cond (p || q) (min x y) z) ≡ f z
      go true q ex ey = min-value x y e ∙ ap f (sym (eqb-true z x ex))
      go false true ex ey = min-value x y e ∙ e ∙ ap f (sym (eqb-true z y ey))
      go false false ex ey = refl

  -- A lot has the value of its class.
  pub class_value : (ds : Decisions) → All Small ds → Respects f ds → (lot : ℕ) → lot ≤ most_lots → f (smallest_lot ds lot) ≡ f lot
  unfolding Respects
  class_value [] small holds lot h = ap f (no_class lot h)
  class_value (same a b ∷ ds) small holds lot h =
      let before = class_value ds small.1 holds.1 in
      ap f (same_class ds a b lot)
      ∙ joined_value _ _ _ (before a small.0.0 ∙ holds.0 ∙ sym (before b small.0.1))
      ∙ before lot h
  class_value (apart a b ∷ ds) small holds lot h =
      ap f (apart_class ds a b lot) ∙ class_value ds small.1 holds.1 lot h

  -- Classes that are marked apart have different values, by whatever classes give each lot its value.
  pub marked_differ : (cs : List ℕ) → ((lot : ℕ) → lot ≤ most_lots → f (get_or cs lot 0) ≡ f lot)
      → (ds : Decisions) → All Small ds → Respects f ds → (x y : ℕ) → marked cs ds x y ≡ true → f x ≢ f y
  unfolding Respects marked
  marked_differ cs valued [] small holds x y e = absurd (false≢true e)
  marked_differ cs valued (same a b ∷ ds) small holds x y e = marked_differ cs valued ds small.1 holds.1 x y e
  marked_differ cs valued (apart a b ∷ ds) small holds x y e =
      or_cases (between cs x y a b) (marked cs ds x y) e pair (marked_differ cs valued ds small.1 holds.1 x y)
    where
      one : (u v : ℕ) → eqb (get_or cs a 0) u ≡ true → eqb (get_or cs b 0) v ≡ true → f u ≢ f v
      one u v eu ev equal =
          holds.0
          (sym (valued a small.0.0) ∙ ap f (eqb-true _ u eu) ∙ equal ∙ ap f (sym (eqb-true _ v ev)) ∙ valued b small.0.1)

      pair : between cs x y a b ≡ true → f x ≢ f y
      pair h =
          or_cases (eqb (get_or cs a 0) x && eqb (get_or cs b 0) y) (eqb (get_or cs a 0) y && eqb (get_or cs b 0) x) h
          (λ g. let both = and_true_both _ _ g in one x y both.0 both.1)
          (λ g. let both = and_true_both _ _ g in λ equal. one y x both.0 both.1 (sym equal))

  -- ---- the values of terms

  module _ (ds : Decisions) (small : All Small ds) (holds : Respects f ds) where
    shared_equal : (a b : ℕ) → a ≤ most_lots → b ≤ most_lots → share ds a b ≡ true → f a ≡ f b
    shared_equal a b ha hb e =
        sym (class_value ds small holds a ha) ∙ ap f (eqb-true _ _ e) ∙ class_value ds small holds b hb

    apart_differ : (a b : ℕ) → a ≤ most_lots → b ≤ most_lots → marked_apart ds a b ≡ true → f a ≢ f b
    apart_differ a b ha hb e equal =
        marked_differ (classes ds) (class_value ds small holds) ds small holds _ _ e
        (class_value ds small holds a ha ∙ equal ∙ sym (class_value ds small holds b hb))

    -- What a value says of a term.
    abbrev pub Says : Value → Term → Type 0
    Says is_true t = Holds f t
    Says is_false t = ¬ Holds f t
    Says is_open t = Unit {0}

    -- Theorem 1: a term that the node rule calls true or false is so.
    pub value-says : (t : Term) → Small t → Says (value ds t) t
    unfolding value
    value-says (same a b) h = go (share ds a b) (marked_apart ds a b) refl refl
      where
        go : (p q : Bool) → share ds a b ≡ p → marked_apart ds a b ≡ q → Says (cond p is_true (cond q is_false is_open)) (same a b)
        go true q ep eq = shared_equal a b h.0 h.1 ep
        go false true ep eq = apart_differ a b h.0 h.1 eq
        go false false ep eq = tt
    value-says (apart a b) h = go (share ds a b) (marked_apart ds a b) refl refl
      where
        go : (p q : Bool) → share ds a b ≡ p → marked_apart ds a b ≡ q → Says (cond p is_false (cond q is_true is_open)) (apart a b)
        go true q ep eq = λ differ. differ (shared_equal a b h.0 h.1 ep)
        go false true ep eq = apart_differ a b h.0 h.1 eq
        go false false ep eq = tt
