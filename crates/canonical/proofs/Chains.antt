-- Chains laid one after another through neighbouring records: what the checks and the conditions make of them.
use Prim.Native.Nat.{ℕ, zero, suc, ◌+◌, ◌≤◌, ◌<◌}
use mathlib.Core.Bool.{Bool, true, false, ◌||◌}
use mathlib.Core.List.{List, [], ◌∷◌, map, flatten}
use mathlib.Core.Logic.{◌⊎◌, inl, inr}
use mathlib.Core.Path.{◌≡◌, refl, ap, ap₂, ◌∙◌}
use native.Mathlib.Omega.{arith}
use lib.Dec.{eqb, leb}
use lib.ListN.{length, length-append}
use borrow.Author.Tests.{eqb-true, eqb-false, ne_eqb, leb-true, leb-false}
use Rattle.sheet.specs.Format.{lot_count, condition_count, record_count, head_at, same_sign, apart_sign, sign_at, spare_at, first_lot_at, second_lot_at, next_at, vacant}
use Rattle.sheet.specs.Inner.{header_at, HasHeader}
use Rattle.sheet.specs.Checks.{Accepted, reached, member, walk_chain, walk_chains, walked}
use Rattle.sheet.specs.Conditions.{Term, same, apart, term_at, chain, records_from, terms_from, count_up, condition_at, conditions, sign_of, first_lot, second_lot, TermIn}
use Rattle.canonical.specs.Canonical.{first_record}
use Rattle.buffers.specs.Lists.{All}
use Rattle.sheet.proofs.Vacant.{sign_filled}
use Rattle.sheet.proofs.Accepted.{SoundRecord}
use Rattle.sheet.proofs.Accepting.{accepted}

-- ---- what is laid

-- Record r has the term t and the given next.
pub record RecordIs (s : List ℕ) (r : ℕ) (t : Term) (next : ℕ) : Type 0 where
  pub sign : sign_at s r ≡ sign_of t
  pub spare : spare_at s r ≡ 0
  pub first : first_lot_at s r ≡ first_lot t
  pub second : second_lot_at s r ≡ second_lot t
  pub after : next_at s r ≡ next

-- After p records come those of the terms ts, one chain.
abbrev pub Runs : List ℕ → ℕ → List Term → Type 0
Runs s p [] = Unit {0}
Runs s p (t ∷ ts) = RecordIs s (suc p) t (first_record (suc (suc p)) ts) × Runs s (suc p) ts

-- After c conditions and p records come the conditions tss and their chains.
abbrev pub Laid : List ℕ → ℕ → ℕ → List (List Term) → Type 0
Laid s c p [] = Unit {0}
Laid s c p (ts ∷ tss) = (head_at s (suc c) ≡ first_record (suc p) ts) × Runs s p ts × Laid s (suc c) (p + length ts) tss

-- A chain begins at one of its records, or at the zero.
pub first-within : (p : ℕ) (ts : List Term) → first_record (suc p) ts ≤ p + length ts
first-within p [] = omega arith
first-within p (t ∷ ts) = omega arith

-- ---- the records that a walk has reached

-- The numbers from p down to 1.
count_down : ℕ → List ℕ
count_down zero = []
count_down (suc p) = suc p ∷ count_down p

-- A number above them is none of them;
above_absent : (p x : ℕ) → p < x → member x (count_down p) ≡ false
unfolding count_down member
above_absent zero x h = refl
above_absent (suc p) x h = rw (ne_eqb x (suc p) (λ e. omega arith)) (above_absent p x (omega arith))

-- each number from 1 to p is.
upto_member : (p x : ℕ) → 1 ≤ x → x ≤ p → member x (count_down p) ≡ true
unfolding count_down member
upto_member zero x low high = absurd (omega arith)
upto_member (suc p) x low high = go (eqb x (suc p)) refl (upto_member p x low)
  where
    go : (b : Bool) → eqb x (suc p) ≡ b → (x ≤ p → member x (count_down p) ≡ true) → (b || member x (count_down p)) ≡ true
    go true e ih = refl
    go false e ih = ih (omega (arith, eqb-false x (suc p) e))

-- ---- one chain

module _ (s : List ℕ) where
  -- (a record that a term is laid in has its sign, and so isn't vacant)
  record_signed : (r next : ℕ) (t : Term) → RecordIs s r t next → (sign_at s r ≡ same_sign) ⊎ (sign_at s r ≡ apart_sign)
  record_signed r next (same a b) is = inl is.sign
  record_signed r next (apart a b) is = inr is.sign

  record_filled : (r next : ℕ) (t : Term) → RecordIs s r t next → vacant s r ≡ false
  record_filled r next t is = sign_filled s r (record_signed r next t is)

  -- It is walked from its first record to its last,
  runs_walk : (ts : List Term) (fuel p : ℕ) → Runs s p ts → length ts < fuel
      → walk_chain s fuel (count_down p) (first_record (suc p) ts) ≡ reached (count_down (p + length ts))
  unfolding walk_chain count_down
  runs_walk ts zero p runs h = absurd (omega arith)
  runs_walk [] (suc fuel) p runs h = let e : p + 0 ≡ p = omega arith in rw e
  runs_walk (t ∷ ts) (suc fuel) p runs h =
      let e : p + suc (length ts) ≡ suc p + length ts = omega arith in
      rw (record_filled (suc p) _ t runs.0, above_absent p (suc p) (omega arith), runs.0.after, e) (runs_walk ts fuel (suc p) runs.1 (omega arith))

  -- (the term of a record is the one laid there)
  term_is : (r next : ℕ) (t : Term) → RecordIs s r t next → term_at s r ≡ t
  term_is r next (same a b) h = rw (h.sign, h.first, h.second)
  term_is r next (apart a b) h = rw (h.sign, h.first, h.second)

  -- its terms are those that were laid,
  runs_terms : (ts : List Term) (fuel p : ℕ) → Runs s p ts → length ts ≤ fuel → map (term_at s) (chain s fuel (first_record (suc p) ts)) ≡ ts
  unfolding chain
  runs_terms [] zero p runs h = refl
  runs_terms [] (suc fuel) p runs h = refl
  runs_terms (t ∷ ts) zero p runs h = absurd (omega arith)
  runs_terms (t ∷ ts) (suc fuel) p runs h =
      ap₂ {C = List Term} ◌∷◌ (term_is (suc p) _ t runs.0) (rw runs.0.after (runs_terms ts fuel (suc p) runs.1 (omega arith)))

  -- (a record is in range where its term and its next are)
  record_sound : (r next : ℕ) (t : Term) → RecordIs s r t next → TermIn (lot_count s) t → next ≤ record_count s → SoundRecord s r
  record_sound r next t is lots h =
      record {
        sign = record_signed r next t is;
        spare = is.spare;
        first = rw is.first lots.0;
        second = rw is.second lots.1;
        next = rw is.after h;
      }

  -- and its records are in range.
  runs_sound : (ts : List Term) (p : ℕ) → Runs s p ts → All (TermIn (lot_count s)) ts → p + length ts ≤ record_count s
      → (r : ℕ) → p < r → r ≤ p + length ts → SoundRecord s r
  runs_sound [] p runs lots room r low high = absurd (omega arith)
  runs_sound (t ∷ ts) p runs lots room r low high =
      go (eqb r (suc p)) refl (λ l. runs_sound ts (suc p) runs.1 lots.1 (omega arith) r l (omega arith))
    where
      go : (b : Bool) → eqb r (suc p) ≡ b → (suc p < r → SoundRecord s r) → SoundRecord s r
      go true e ih = rw (eqb-true r (suc p) e) (record_sound (suc p) _ t runs.0 lots.0 (omega (arith, first-within (suc p) ts)))
      go false e ih = ih (omega (arith, eqb-false r (suc p) e))

-- ---- chain after chain

-- The terms of one condition more.
pub terms-cons : (p : ℕ) (ts : List Term) (tss : List (List Term)) → p + length (flatten (ts ∷ tss)) ≡ p + length ts + length (flatten tss)
unfolding flatten
terms-cons p ts tss = omega (arith, length-append ts (flatten tss))

module _ (s : List ℕ) where
  -- The heads are records or the zero,
  laid_heads : (tss : List (List Term)) (c p : ℕ) → Laid s c p tss → p + length (flatten tss) ≤ record_count s
      → (i : ℕ) → c < i → i ≤ c + length tss → head_at s i ≤ record_count s
  laid_heads [] c p laid room i low high = absurd (omega arith)
  laid_heads (ts ∷ tss) c p laid room i low high =
      go (eqb i (suc c)) refl (λ l. laid_heads tss (suc c) (p + length ts) laid.2 (omega (arith, terms-cons p ts tss)) i l (omega arith))
    where
      go : (b : Bool) → eqb i (suc c) ≡ b → (suc c < i → head_at s i ≤ record_count s) → head_at s i ≤ record_count s
      go true e ih = rw (eqb-true i (suc c) e, laid.0) (omega (arith, first-within p ts, terms-cons p ts tss))
      go false e ih = ih (omega (arith, eqb-false i (suc c) e))

  -- the records are in range,
  laid_records : (tss : List (List Term)) (c p : ℕ) → Laid s c p tss → All (All (TermIn (lot_count s))) tss → p + length (flatten tss) ≤ record_count s
      → (r : ℕ) → p < r → r ≤ p + length (flatten tss) → SoundRecord s r
  unfolding flatten
  laid_records [] c p laid lots room r low high = absurd (omega arith)
  laid_records (ts ∷ tss) c p laid lots room r low high =
      let e = terms-cons p ts tss in
      go (leb r (p + length ts)) refl (λ l. laid_records tss (suc c) (p + length ts) laid.2 lots.1 (omega arith) r l (omega arith))
    where
      go : (b : Bool) → leb r (p + length ts) ≡ b → (p + length ts < r → SoundRecord s r) → SoundRecord s r
      go true e ih = runs_sound s ts p laid.1 lots.0 (omega (arith, terms-cons p ts tss)) r low (leb-true _ _ e)
      go false e ih = ih (leb-false _ _ e)

  -- the walk reaches each, the latest the last,
  laid_walk : (tss : List (List Term)) (c p : ℕ) → Laid s c p tss → p + length (flatten tss) ≤ record_count s
      → walk_chains s (length tss) (suc c) (reached (count_down p)) ≡ reached (count_down (p + length (flatten tss)))
  unfolding walk_chains flatten
  laid_walk [] c p laid room = let e : p + 0 ≡ p = omega arith in rw e
  laid_walk (ts ∷ tss) c p laid room =
      let e = terms-cons p ts tss in
      ap (walk_chains s (length tss) (suc (suc c))) one ∙ rw e (laid_walk tss (suc c) (p + length ts) laid.2 (omega arith))
    where
      one : walk_chain s (suc (record_count s)) (count_down p) (head_at s (suc c)) ≡ reached (count_down (p + length ts))
      one = rw laid.0 (runs_walk s ts (suc (record_count s)) p laid.1 (omega (arith, terms-cons p ts tss)))

  -- and the conditions are those that were laid.
  laid_terms : (tss : List (List Term)) (c p : ℕ) → Laid s c p tss → p + length (flatten tss) ≤ record_count s
      → map (condition_at s) (count_up (length tss) (suc c)) ≡ tss
  unfolding count_up terms_from records_from
  laid_terms [] c p laid room = refl
  laid_terms (ts ∷ tss) c p laid room =
      let e = terms-cons p ts tss in
      ap₂ {C = List (List Term)} ◌∷◌ (rw laid.0 (runs_terms s ts (record_count s) p laid.1 (omega arith)))
      (laid_terms tss (suc c) (p + length ts) laid.2 (omega arith))

-- ---- a whole sheet

module _ (s : List ℕ) (tss : List (List Term)) (m : condition_count s ≡ length tss) (k : record_count s ≡ length (flatten tss)) (laid : Laid s 0 0 tss) where
  -- It is accepted, where its header is right and its terms name its lots,
  pub laid_accepted : HasHeader s (header_at s) → All (All (TermIn (lot_count s))) tss → Accepted s
  unfolding walked count_down
  laid_accepted header lots =
      let e : record_count s ≡ 0 + length (flatten tss) = omega arith in
      accepted s (record {
        header = header;
        heads = λ c low high. laid_heads s tss 0 0 laid (omega arith) c low (omega arith);
        records = λ r low high filled. laid_records s tss 0 0 laid lots (omega arith) r low (omega arith);
        seen = count_down (record_count s);
        walk = rw (m, e) (laid_walk s tss 0 0 laid (omega arith));
        every = λ r low high filled. upto_member (record_count s) r low high;
      })

  -- and has these conditions.
  pub laid_conditions : conditions s ≡ tss
  unfolding conditions
  laid_conditions = rw m (laid_terms s tss 0 0 laid (omega arith))
