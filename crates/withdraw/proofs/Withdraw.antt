-- What comes of withdrawing a condition: of an accepted sheet, the sheet with the condition's head set to zero and the records of its chain blanked is
-- accepted, has the same lots, and the same conditions but for that one, which has no term.
use Prim.Native.Nat.{ℕ, zero, suc, ◌+◌, ◌*◌, ◌-◌, ◌≤◌, ◌<◌}
use mathlib.Core.Bool.{Bool, true, false, ◌&&◌, and-eq-true_iff, false≢true}
use mathlib.Core.List.{List, [], map, flatten}
use mathlib.Core.Logic.{inl, inr}
use mathlib.Core.Path.{◌≡◌, refl, sym, ap, ap₂, ◌∙◌}
use native.Mathlib.Omega.{arith}
use lib.Dec.{eqb, leb}
use lib.ListN.{length, get_or, set}
use borrow.Author.Tests.{eqb-true, eqb-false, eq-eqb, leb-true, leb-false}
use Rattle.buffers.specs.Bytes.{number}
use Rattle.sheet.specs.Format.{header_length, lot_count, condition_count, record_count, head_at, record_place, sign_at, spare_at, first_lot_at, second_lot_at, next_at, zero_bytes, vacant}
use Rattle.sheet.specs.Checks.{Accepted, walked, member}
use Rattle.sheet.specs.Conditions.{term_at, chain, records_from, terms_from, count_up, condition_at, conditions}
use Rattle.sheet.specs.Inner.{header_at, HasHeader}
use Rattle.sheet.proofs.Times.{times, times_member, member_times}
use Rattle.sheet.proofs.Ranges.{each_along, some_along}
use Rattle.sheet.proofs.Accepted.{SoundRecord, sound}
use Rattle.sheet.proofs.Accepting.{accepted}
use Rattle.sheet.proofs.Reached.{walked_chain, all_reached}
use Rattle.sheet.proofs.ChainEnds.{ends, chain_fuel}
use Rattle.sheet.proofs.Conditions.{withdrawn-empty}
use Rattle.withdraw.specs.Withdraw.{withdraw}
use Rattle.withdraw.proofs.Zeroed.{Off, length-zeroed, zeroed_off, zeroed-on, length-blanked, blanked_off, blanked-on, blanked_stays}
use Rattle.withdraw.proofs.Walking.{Walks, chains_walk}
use Rattle.withdraw.proofs.Chains.{two_along, fewer_along, set_along, map_on, same-chain}

-- ---- bytes that are zero

-- They are in both, where the bytes are the same;
zeros_agree : (t s : List ℕ) (count p : ℕ) → ((q : ℕ) → p ≤ q → q < p + count → get_or t q 0 ≡ get_or s q 0) → zero_bytes t count p ≡ zero_bytes s count p
unfolding zero_bytes
zeros_agree t s zero p same = refl
zeros_agree t s (suc count) p same =
    ap₂ ◌&&◌ (ap (λ (x : ℕ). eqb x 0) (same p (omega arith) (omega arith))) (zeros_agree t s count (suc p) (λ q low high. same q (omega arith) (omega arith)))

-- and they are where each is.
all_zeros : (s : List ℕ) (count p : ℕ) → ((q : ℕ) → p ≤ q → q < p + count → get_or s q 0 ≡ 0) → zero_bytes s count p ≡ true
unfolding zero_bytes
all_zeros s zero p each = refl
all_zeros s (suc count) p each =
    (and-eq-true_iff _ _).1 (eq-eqb _ _ (each p (omega arith) (omega arith)), all_zeros s count (suc p) (λ q low high. each q (omega arith) (omega arith)))

-- ---- a sheet of which condition c is withdrawn

module _ (s : List ℕ) (ok : Accepted s) (c : ℕ) (low : 1 ≤ c) (high : c ≤ condition_count s) where
  abbrev t : List ℕ
  t = withdraw s c

  abbrev m : ℕ
  m = condition_count s

  abbrev k : ℕ
  k = record_count s

  -- The records that are blanked.
  abbrev old : List ℕ
  old = records_from s (head_at s c)

  -- Where the head stands.
  abbrev head_place : ℕ
  head_place = header_length + 2 * (c - 1)

  -- ---- bytes

  -- The head is zero,
  pub head_zero : head_at t c ≡ 0
  unfolding head_at number withdraw
  head_zero =
      let first : get_or t head_place 0 ≡ 0 = blanked_stays m old _ head_place (zeroed-on _ _ s head_place (omega arith) (omega arith)) in
      let second : get_or t (head_place + 1) 0 ≡ 0 = blanked_stays m old _ (head_place + 1) (zeroed-on _ _ s (head_place + 1) (omega arith) (omega arith)) in
      omega arith

  pub withdraw-length : length (withdraw s c) ≡ length s
  unfolding withdraw
  withdraw-length = length-blanked m old _ ∙ length-zeroed _ _ s

  -- and a byte that is neither of it nor of such a record stays.
  pub withdraw_stays : (q : ℕ) → Off 2 head_place q → ((r : ℕ) → 1 ≤ times r old → Off 8 (record_place m r) q) → get_or t q 0 ≡ get_or s q 0
  unfolding withdraw
  withdraw_stays q head records = blanked_off m old _ q records ∙ zeroed_off _ _ s q head

  -- Those before the records are of none.
  before-records : (q : ℕ) → q < header_length + 2 * m → (r : ℕ) → 1 ≤ times r old → Off 8 (record_place m r) q
  before-records q h r there = inl (omega arith)

  front-number : (q : ℕ) → q + 1 < header_length + 2 * m → Off 2 head_place q → Off 2 head_place (q + 1) → number t q ≡ number s q
  unfolding number
  front-number q h first second =
      omega (
        arith,
        withdraw_stays q first (before-records q (omega arith)),
        withdraw_stays (q + 1) second (before-records (q + 1) h),
      )

  -- ---- the header

  lot-count : lot_count t ≡ lot_count s
  lot-count = front-number 0 (omega arith) (inl (omega arith)) (inl (omega arith))

  pub condition-count : condition_count t ≡ m
  condition-count = front-number 2 (omega arith) (inl (omega arith)) (inl (omega arith))

  record_count_lem : record_count t ≡ k
  record_count_lem = front-number 4 (omega arith) (inl (omega arith)) (inl (omega arith))

  -- ---- the heads

  same_head : (i : ℕ) → 1 ≤ i → i ≤ m → (i ≡ c → ⊥) → head_at t i ≡ head_at s i
  unfolding head_at
  same_head i least most other = go (leb i c) refl
    where
      go : (b : Bool) → leb i c ≡ b → number t (header_length + 2 * (i - 1)) ≡ number s (header_length + 2 * (i - 1))
      go true e =
          front-number (header_length + 2 * (i - 1)) (omega arith) (inl (omega (arith, leb-true i c e, other))) (inl (omega (arith, leb-true i c e, other)))
      go false e = front-number (header_length + 2 * (i - 1)) (omega arith) (inr (omega (arith, leb-false i c e))) (inr (omega (arith, leb-false i c e)))

  -- ---- the records

  -- The chain of the condition, as the walk has it.
  old_walked : walked_chain s c ≡ old
  old_walked = chain_fuel s ok (suc k) (head_at s c) ((sound s ok).heads c low high) (omega arith)

  in_all : (x : ℕ) → times x (walked_chain s c) ≤ times x (sound s ok).seen
  unfolding times
  in_all x = omega (arith, each_along (walked_chain s) x m 1 c low (omega arith), (all_reached s ok).counts x)

  old_range : (x : ℕ) → 1 ≤ times x old → (1 ≤ x) × (x ≤ k)
  old_range x there =
      (all_reached s ok).distinct.range x (times_member x (sound s ok).seen (omega (arith, in_all x, ap (times x) old_walked)))

  -- One of another chain, or of none, keeps its bytes,
  module _ (r : ℕ) (least : 1 ≤ r) (most : r ≤ k) (other : times r old < 1) where
    kept : (q : ℕ) → record_place m r ≤ q → q < record_place m r + 8 → get_or t q 0 ≡ get_or s q 0
    kept q from to = withdraw_stays q (inr (omega arith)) (λ x there. go x there (leb r x) refl)
      where
        differ : (x : ℕ) → 1 ≤ times x old → r ≡ x → ⊥
        differ x there e = omega (arith, ap (λ (y : ℕ). times y old) e)

        go : (x : ℕ) → 1 ≤ times x old → (b : Bool) → leb r x ≡ b → Off 8 (record_place m x) q
        go x there true e = inl (omega (arith, leb-true r x e, differ x there, old_range x there))
        go x there false e = inr (omega (arith, leb-false r x e, old_range x there))

    kept_number : (q : ℕ) → record_place m r ≤ q → q + 1 < record_place m r + 8 → number t q ≡ number s q
    unfolding number
    kept_number q from to = omega (arith, kept q from (omega arith), kept (q + 1) (omega arith) to)

    -- so its fields,
    same_sign_lem : sign_at t r ≡ sign_at s r
    unfolding sign_at
    same_sign_lem = rw condition-count (kept (record_place m r) (omega arith) (omega arith))

    same_spare : spare_at t r ≡ spare_at s r
    unfolding spare_at
    same_spare = rw condition-count (kept (record_place m r + 1) (omega arith) (omega arith))

    same_first : first_lot_at t r ≡ first_lot_at s r
    unfolding first_lot_at
    same_first = rw condition-count (kept_number (record_place m r + 2) (omega arith) (omega arith))

    same_second : second_lot_at t r ≡ second_lot_at s r
    unfolding second_lot_at
    same_second = rw condition-count (kept_number (record_place m r + 4) (omega arith) (omega arith))

    same_next : next_at t r ≡ next_at s r
    unfolding next_at
    same_next = rw condition-count (kept_number (record_place m r + 6) (omega arith) (omega arith))

    -- its term, and whether it is vacant;
    same_term : term_at t r ≡ term_at s r
    same_term = rw (same_sign_lem, same_first, same_second)

    same-vacant : vacant t r ≡ vacant s r
    unfolding vacant
    same-vacant = rw condition-count (zeros_agree t s 8 (record_place m r) kept)

  -- and one of the chain is vacant now.
  pub withdraw-vacant : (r : ℕ) → 1 ≤ times r old → vacant t r ≡ true
  unfolding vacant withdraw
  withdraw-vacant r there =
      rw condition-count
      (all_zeros t 8 (record_place m r) (λ q from to. blanked-on m old _ r q there from to))

  -- ---- the chains

  -- The chain of another condition
  module _ (i : ℕ) (least : 1 ≤ i) (most : i ≤ m) (another : i ≡ c → ⊥) where
    -- has records of the sheet, none of them blanked,
    on_another : (x : ℕ) → 1 ≤ times x (walked_chain s i) → (1 ≤ x) × (x ≤ k) × (times x old < 1)
    unfolding times
    on_another x there =
        let both = two_along (walked_chain s) x m 1 c i low (omega arith) least (omega arith) (λ e. another (sym e)) in
        let seen = (all_reached s ok).counts x in
        let once = (all_reached s ok).distinct.once x in
        let range = (all_reached s ok).distinct.range x (times_member x (sound s ok).seen (omega arith)) in
        (range.0, range.1, omega (arith, ap (times x) old_walked))

    -- so it is the same.
    leads-on : (x : ℕ) → 1 ≤ times x (walked_chain s i) → next_at t x ≡ next_at s x
    leads-on x there = let (a, b, other) = on_another x there in same_next x a b other

    same-walked : walked_chain t i ≡ walked_chain s i
    same-walked = rw (record_count_lem, same_head i least most another) (same-chain s t (suc k) (head_at s i) leads-on)

    from_walked : records_from s (head_at s i) ≡ walked_chain s i
    from_walked = sym (chain_fuel s ok (suc k) (head_at s i) ((sound s ok).heads i least most) (omega arith))

    same_from : records_from t (head_at t i) ≡ records_from s (head_at s i)
    unfolding records_from
    same_from =
        rw (record_count_lem, same_head i least most another)
        (same-chain s t k (head_at s i) (λ x there. leads-on x (omega (arith, ap (times x) from_walked))))

    -- Its terms too.
    pub same-condition : condition_at t i ≡ condition_at s i
    unfolding terms_from
    same-condition =
        rw same_from
        (map_on (term_at t) (term_at s) (records_from s (head_at s i))
        (λ x there. let (a, b, other) = on_another x (omega (arith, ap (times x) from_walked)) in same_term x a b other))

  -- That of condition c is empty.
  none-walked : walked_chain t c ≡ []
  unfolding chain
  none-walked = rw head_zero

  -- ---- the walk

  -- No chain has a record more often than it had,
  no_more : (x i : ℕ) → 1 ≤ i → i < 1 + m → times x (walked_chain t i) ≤ times x (walked_chain s i)
  unfolding times
  no_more x i least most = go (eqb i c) refl
    where
      go : (b : Bool) → eqb i c ≡ b → times x (walked_chain t i) ≤ times x (walked_chain s i)
      go true e = rw (eqb-true i c e, none-walked) (omega arith)
      go false e = rw (same-walked i least (omega arith) (eqb-false i c e)) (omega arith)

  -- each ends,
  ends-walked : (i : ℕ) → 1 ≤ i → i < 1 + m → length (walked_chain t i) < suc (record_count t)
  ends-walked i least most = go (eqb i c) refl
    where
      go : (b : Bool) → eqb i c ≡ b → length (walked_chain t i) < suc (record_count t)
      go true e = rw (eqb-true i c e, none-walked) (omega arith)
      go false e =
          rw (same-walked i least (omega arith) (eqb-false i c e), record_count_lem)
          (omega (arith, ends s ok (head_at s i) ((sound s ok).heads i least (omega arith))))

  -- and reaches no vacant record.
  filled-walked : (x i : ℕ) → 1 ≤ i → i < 1 + m → 1 ≤ times x (walked_chain t i) → vacant t x ≡ false
  unfolding times
  filled-walked x i least most there = go (eqb i c) refl
    where
      go : (b : Bool) → eqb i c ≡ b → vacant t x ≡ false
      go true e = absurd (omega (arith, ap (times x) (ap (walked_chain t) (eqb-true i c e) ∙ none-walked)))
      go false e =
          let on : 1 ≤ times x (walked_chain s i) = omega (arith, no_more x i least most) in
          let (a, b, other) = on_another i least (omega arith) (eqb-false i c e) x on in
          same-vacant x a b other ∙ (all_reached s ok).filled x (omega (arith, each_along (walked_chain s) x m 1 i least most))

  walks : Walks [] (flatten (map (walked_chain t) (count_up m 1))) (walked t)
  unfolding walked times
  walks =
      rw condition-count
      (chains_walk t m 1 [] ends-walked
      (λ x there. let (i, least, most, on) = some_along (walked_chain t) x m 1 there in filled-walked x i least most on)
      (λ x.
      omega (
        arith,
        fewer_along (walked_chain s) x (walked_chain t) m 1 (no_more x),
        (all_reached s ok).counts x,
        (all_reached s ok).distinct.once x,
      )))

  -- ---- the sheet

  -- A record that isn't vacant now is none of those that were blanked.
  not_old : (r : ℕ) → vacant t r ≡ false → times r old < 1
  not_old r filled = go (leb 1 (times r old)) refl
    where
      go : (b : Bool) → leb 1 (times r old) ≡ b → times r old < 1
      go true e = absurd (false≢true (sym filled ∙ withdraw-vacant r (leb-true 1 (times r old) e)))
      go false e = leb-false 1 (times r old) e

  was_filled : (r : ℕ) → 1 ≤ r → r ≤ k → vacant t r ≡ false → vacant s r ≡ false
  was_filled r least most filled = sym (same-vacant r least most (not_old r filled)) ∙ filled

  sound_record : (r : ℕ) → 1 ≤ r → r ≤ record_count t → vacant t r ≡ false → SoundRecord t r
  sound_record r least most filled =
      let up : r ≤ k = omega (arith, record_count_lem) in
      let other = not_old r filled in
      let was = (sound s ok).records r least up (was_filled r least up filled) in
      record {
        sign = rw (same_sign_lem r least up other) was.sign;
        spare = same_spare r least up other ∙ was.spare;
        first = rw (lot-count, same_first r least up other) was.first;
        second = rw (lot-count, same_second r least up other) was.second;
        next = rw (same_next r least up other, record_count_lem) was.next;
      }

  -- It is still reached.
  still_reached : (r : ℕ) → 1 ≤ r → r ≤ record_count t → vacant t r ≡ false → member r walks.out ≡ true
  unfolding times
  still_reached r least most filled =
      let up : r ≤ k = omega (arith, record_count_lem) in
      let seen = member_times r (sound s ok).seen ((sound s ok).every r least up (was_filled r least up filled)) in
      let (i, lowest, highest, on) = some_along (walked_chain s) r m 1 (omega (arith, (all_reached s ok).counts r)) in
      go i lowest highest on (eqb i c) refl
    where
      go : (i : ℕ) → 1 ≤ i → i < 1 + m → 1 ≤ times r (walked_chain s i) → (b : Bool) → eqb i c ≡ b → member r walks.out ≡ true
      go i lowest highest on true e =
          absurd (omega (arith, not_old r filled, ap (times r) (ap (walked_chain s) (eqb-true i c e) ∙ old_walked)))
      go i lowest highest on false e =
          times_member r walks.out
          (omega (
            arith,
            walks.counts r,
            each_along (walked_chain t) r m 1 i lowest highest,
            ap (times r) (same-walked i lowest (omega arith) (eqb-false i c e)),
          ))

  heads-within : (i : ℕ) → 1 ≤ i → i ≤ condition_count t → head_at t i ≤ record_count t
  heads-within i least most = go (eqb i c) refl
    where
      go : (b : Bool) → eqb i c ≡ b → head_at t i ≤ record_count t
      go true e = rw (eqb-true i c e, head_zero) (omega arith)
      go false e =
          let up : i ≤ m = omega (arith, condition-count) in
          rw (same_head i least up (eqb-false i c e), record_count_lem) ((sound s ok).heads i least up)

  header : HasHeader t (header_at t)
  header =
      let was = (sound s ok).header in
      record {
        counts = refl;
        lots = omega (arith, lot-count, was.lots);
        conditions = omega (arith, condition-count, was.conditions);
        records = omega (arith, record_count_lem, was.records);
        whole = omega (arith, withdraw-length, condition-count, record_count_lem, was.whole);
      }

  -- It is accepted,
  pub withdraw-accepted : Accepted (withdraw s c)
  withdraw-accepted =
      accepted t
      (record { header = header; heads = heads-within; records = sound_record; seen = walks.out; walk = walks.end; every = still_reached })

  -- has as many lots,
  pub withdraw-lots : lot_count (withdraw s c) ≡ lot_count s
  withdraw-lots = lot-count

  -- and, "so that the others keep their numbers", the same conditions, but for c, which has no term;
  pub withdraw-conditions : conditions (withdraw s c) ≡ set (conditions s) (c - 1) []
  unfolding conditions
  withdraw-conditions =
      rw (condition-count, ← (withdrawn-empty t c head_zero))
      (set_along (condition_at s) (condition_at t) m 1 c low (omega arith) (λ i least most another. same-condition i least (omega arith) another))

  -- k counts the records still.
  pub withdraw-records : record_count (withdraw s c) ≡ record_count s
  withdraw-records = record_count_lem
