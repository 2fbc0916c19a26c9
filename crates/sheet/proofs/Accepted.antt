-- What the checks have found of a sheet that they pass.
use Prim.Native.Nat.{ℕ, ◌≤◌}
use mathlib.Core.Bool.{Bool, true, false, ◌||◌, and-eq-true_iff}
use mathlib.Core.List.{List, []}
use mathlib.Core.Logic.{◌⊎◌, inl, inr, ⊎_map, ◌↔◌}
use mathlib.Core.Path.{◌≡◌, refl, sym, ap, ◌∙◌}
use native.Mathlib.Omega.{arith}
use lib.Dec.{leb}
use lib.ListN.{length}
use borrow.Author.Tests.{eqb-true, leb-true, le-leb, ltb-false, not-false}
use Rattle.sheet.specs.declared.Header.{Header}
use Rattle.sheet.specs.Verdicts.{Passes}
use Rattle.sheet.specs.Format.{lowest_lot, header_length, lot_count, condition_count, record_count, head_at, same_sign, apart_sign, sign_at, spare_at, first_lot_at, second_lot_at, next_at, vacant}
use Rattle.sheet.specs.Checks.{or_else, first_refusal, check2, check3, check4, check5, check17_and6, check7, lot_in_range, well_formed, Walk, reached, twice, into_vacant, member, walked, chains_verdict, reached_by, header_checks, sheet_checks_with, sheet_verdict, sheet_verdict_with, Accepted}
use Rattle.sheet.specs.Conditions.{InLots}
use Rattle.sheet.specs.Inner.{header_at, HasHeader, HasRecord}
use Rattle.sheet.proofs.Verdicts.{or_else_end, or_else_assoc, or_else-passes, first_refusal-passes, refuses_if-passes, lowest_passes}

-- The fields of record r are in range.
pub record SoundRecord (s : List ℕ) (r : ℕ) : Type 0 where
  pub sign : (sign_at s r ≡ same_sign) ⊎ (sign_at s r ≡ apart_sign)
  pub spare : spare_at s r ≡ 0
  pub first : InLots (lot_count s) (first_lot_at s r)
  pub second : InLots (lot_count s) (second_lot_at s r)
  pub next : next_at s r ≤ record_count s

-- All that the checks have found of an accepted sheet; `seen` are the records that their walk has reached, all that aren't vacant.
pub record Sound (s : List ℕ) : Type 0 where
  pub header : HasHeader s (header_at s)
  pub heads : (c : ℕ) → 1 ≤ c → c ≤ condition_count s → head_at s c ≤ record_count s
  pub records : (r : ℕ) → 1 ≤ r → r ≤ record_count s → vacant s r ≡ false → SoundRecord s r
  pub seen : List ℕ
  pub walk : walked s ≡ reached seen
  pub every : (r : ℕ) → 1 ≤ r → r ≤ record_count s → vacant s r ≡ false → member r seen ≡ true

-- ---- the order of the checks

-- The header's, then one after another.
pub in_order : (s : List ℕ)
    → sheet_verdict s ≡ or_else (first_refusal (header_checks s)) (or_else (check4 s) (or_else (check5 lowest_lot s) (or_else (check17_and6 s) (check7 s))))
unfolding sheet_verdict_with sheet_checks_with first_refusal
in_order s = simp (or_else_end, or_else_assoc)

-- ---- bytes with a header

-- The header's counts are theirs.
pub conditions-counted : {s : List ℕ} {h : Header} → HasHeader s h → h.conditions ≡ condition_count s
conditions-counted has = ap (λ (g : Header). g.conditions) has.counts

pub records-counted : {s : List ℕ} {h : Header} → HasHeader s h → h.records ≡ record_count s
records-counted has = ap (λ (g : Header). g.records) has.counts

-- The header stands whole in them, and so does each record.
pub header-whole : {s : List ℕ} {h : Header} → HasHeader s h → header_length ≤ length s
header-whole has = omega arith

pub has_record : {s : List ℕ} {h : Header} → HasHeader s h → (r : ℕ) → 1 ≤ r → r ≤ record_count s → HasRecord s (condition_count s) r
has_record has r low high = record { counted = refl; least = low; whole = omega arith }

-- ---- from tests to facts

either : (a b : Bool) → (a || b) ≡ true → (a ≡ true) ⊎ (b ≡ true)
either true b e = inl refl
either false b e = inr e

other : {a b : Bool} → a ≡ false → (a || b) ≡ true → b ≡ true
other absent e = rw absent at e

-- The test on a lot decides.
pub lot_in : (n lot : ℕ) → (lot_in_range lowest_lot n lot ≡ true) ↔ InLots n lot
lot_in n lot = (
  (λ e.
      let (low, high) = (and-eq-true_iff (leb lowest_lot lot) (leb lot n)).0 e in
      record { low = leb-true _ _ low; high = leb-true _ _ high }),
  (λ h. (and-eq-true_iff (leb lowest_lot lot) (leb lot n)).1 (le-leb _ _ h.low, le-leb _ _ h.high)),
)

well_formed_lem : (s : List ℕ) (r : ℕ) → well_formed lowest_lot s r ≡ true → SoundRecord s r
unfolding well_formed
well_formed_lem s r e =
    let (sign, e₁) = (and-eq-true_iff _ _).0 e in
    let (spare, e₂) = (and-eq-true_iff _ _).0 e₁ in
    let (first, e₃) = (and-eq-true_iff _ _).0 e₂ in
    let (second, next) = (and-eq-true_iff _ _).0 e₃ in
    record {
      sign = ⊎_map (eqb-true _ _) (eqb-true _ _) (either _ _ sign);
      spare = eqb-true _ _ spare;
      first = (lot_in _ _).0 first;
      second = (lot_in _ _).0 second;
      next = leb-true _ _ next;
    }

walk_passes : (w : Walk) → chains_verdict w ≡ Passes → (seen : List ℕ) × (w ≡ reached seen)
walk_passes (reached seen) e = (seen, refl)
walk_passes (twice r) e = ([], cc)
walk_passes (into_vacant r) e = ([], cc)

-- ---- what each check has found when it passes

module _ (s : List ℕ) where
  -- Checks 2 and 3.
  pub header_found : check2 s ≡ Passes → check3 s ≡ Passes → HasHeader s (header_at s)
  unfolding check2 check3
  header_found limits size =
      let (lots, e) = or_else-passes _ _ limits in
      let (conditions, records) = or_else-passes _ _ e in
      record {
        counts = refl;
        lots = ltb-false _ _ (refuses_if-passes _ 2 1 lots);
        conditions = ltb-false _ _ (refuses_if-passes _ 2 2 conditions);
        records = ltb-false _ _ (refuses_if-passes _ 2 3 records);
        whole = eqb-true _ _ (not-false _ (refuses_if-passes _ 3 0 size));
      }

  -- Checks 1 to 3.
  pub header-passed : first_refusal (header_checks s) ≡ Passes → HasHeader s (header_at s)
  header-passed e =
      let (p₁, e₁) = first_refusal-passes _ _ e in
      let (p₂, e₂) = first_refusal-passes _ _ e₁ in
      let (p₃, e₃) = first_refusal-passes _ _ e₂ in
      header_found p₂ p₃

  -- Check 4.
  pub heads_found : check4 s ≡ Passes → (c : ℕ) → 1 ≤ c → c ≤ condition_count s → head_at s c ≤ record_count s
  unfolding check4
  heads_found p c low high = ltb-false _ _ (lowest_passes 4 _ _ _ p c low (omega arith))

  -- Check 5.
  pub records_found : check5 lowest_lot s ≡ Passes → (r : ℕ) → 1 ≤ r → r ≤ record_count s → vacant s r ≡ false → SoundRecord s r
  unfolding check5
  records_found p r low high filled = well_formed_lem s r (other filled (not-false _ (lowest_passes 5 _ _ _ p r low (omega arith))))

  -- Checks 17 and 6.
  pub walk_found : check17_and6 s ≡ Passes → (seen : List ℕ) × (walked s ≡ reached seen)
  unfolding check17_and6
  walk_found p = walk_passes (walked s) p

  -- Check 7.
  pub every_found : check7 s ≡ Passes → (seen : List ℕ) → walked s ≡ reached seen
      → (r : ℕ) → 1 ≤ r → r ≤ record_count s → vacant s r ≡ false → member r seen ≡ true
  unfolding check7
  every_found p seen walk r low high filled =
      ap (λ (w : Walk). member r (reached_by w)) (sym walk) ∙ other filled (not-false _ (lowest_passes 7 _ _ _ p r low (omega arith)))

  -- All of them.
  pub sound : Accepted s → Sound s
  sound e =
      let (p, e₄) = or_else-passes _ _ (sym (in_order s) ∙ e) in
      let (p₄, e₅) = or_else-passes _ _ e₄ in
      let (p₅, e₆) = or_else-passes _ _ e₅ in
      let (p₆, p₇) = or_else-passes _ _ e₆ in
      let (seen, walk) = walk_found p₆ in
      record {
        header = header-passed p;
        heads = heads_found p₄;
        records = records_found p₅;
        seen = seen;
        walk = walk;
        every = every_found p₇ seen walk;
      }
