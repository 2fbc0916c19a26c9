-- Checks 1 to 3 and 5, as tests on what the code has read: the header, and a record's term.
use Prim.Native.Nat.{ℕ, zero, suc, ◌+◌, ◌*◌}
use mathlib.Core.Bool.{Bool, not, ◌&&◌, ◌||◌, and-true, and-false, and_assoc}
use mathlib.Core.List.{List}
use mathlib.Core.Path.{◌≡◌, sym, ap, ◌∙◌}
use native.Mathlib.Omega.{arith}
use lib.Dec.{eqb, leb, ltb}
use lib.ListN.{length}
use borrow.Author.Tests.{ne_eqb}
use Rattle.buffers.specs.Bytes.{number}
use Rattle.sheet.specs.declared.Header.{Header}
use Rattle.sheet.specs.declared.Term.{Term}
use Rattle.sheet.specs.Verdicts.{Verdict, Passes}
use Rattle.sheet.specs.Format.{lowest_lot, same_sign, apart_sign, most_lots, most_conditions, most_records, header_length, sheet_length, lot_count, record_count, sign_at, spare_at, first_lot_at, second_lot_at, next_at}
use Rattle.sheet.specs.Checks.{or_else, first_refusal, refuses_if, check1, check2, check3, lot_in_range, well_formed, header_checks}
use Rattle.sheet.specs.Inner.{header_at, term_record_at, sign_spare_at}

-- The tests of a header and a length.
abbrev pub header_tests : Header → ℕ → Verdict
header_tests h size =
    or_else (refuses_if (ltb size header_length) 1 0)
    (or_else
    (or_else (refuses_if (ltb most_lots h.lots) 2 1)
    (or_else (refuses_if (ltb most_conditions h.conditions) 2 2)
    (refuses_if (ltb most_records h.records) 2 3)))
    (or_else (refuses_if (not (eqb size (sheet_length h.conditions h.records))) 3 0) Passes))

pub header_by_tests : (s : List ℕ) {h : Header} → h ≡ header_at s → first_refusal (header_checks s) ≡ header_tests h (length s)
unfolding first_refusal check1 check2 check3
header_by_tests s counts = rw counts

-- Sign and spare byte are in range where, as one number, they are a sign.
one_number : (sign spare : ℕ)
    → ((eqb sign same_sign || eqb sign apart_sign) && eqb spare 0) ≡ (eqb (sign + 256 * spare) same_sign || eqb (sign + 256 * spare) apart_sign)
one_number sign zero = let e : sign + 256 * 0 ≡ sign = omega arith in rw e (and-true (eqb sign same_sign || eqb sign apart_sign))
one_number sign (suc spare) =
    rw (
      ne_eqb (sign + 256 * suc spare) same_sign (λ e. omega arith),
      ne_eqb (sign + 256 * suc spare) apart_sign (λ e. omega arith),
      ne_eqb (suc spare) 0 (λ e. omega arith),
    )
    (and-false (eqb sign same_sign || eqb sign apart_sign))

sign_spare : (s : List ℕ) (r : ℕ)
    → ((eqb (sign_at s r) same_sign || eqb (sign_at s r) apart_sign) && eqb (spare_at s r) 0) ≡ (eqb (sign_spare_at s r) same_sign || eqb (sign_spare_at s r) apart_sign)
unfolding sign_at spare_at number
sign_spare s r = one_number (sign_at s r) (spare_at s r)

-- The tests of a term, and of sign and spare byte as one number, under a header.
abbrev pub record_tests : Header → Term → ℕ → Bool
record_tests h t x =
    (eqb x same_sign || eqb x apart_sign)
    && (lot_in_range lowest_lot h.lots t.a.0
    && (lot_in_range lowest_lot h.lots t.b.0
    && leb t.next.0 h.records))

pub record_by_tests : (s : List ℕ) (r : ℕ) {h : Header} {t : Term} → h ≡ header_at s → t ≡ term_record_at s r
    → well_formed lowest_lot s r ≡ record_tests h t (sign_spare_at s r)
unfolding well_formed
record_by_tests s r counts term =
    let rest : Bool =
    lot_in_range lowest_lot (lot_count s) (first_lot_at s r) && (lot_in_range lowest_lot (lot_count s) (second_lot_at s r) && leb (next_at s r) (record_count s)) in
    rw (counts, term)
    (sym (and_assoc (eqb (sign_at s r) same_sign || eqb (sign_at s r) apart_sign) (eqb (spare_at s r) 0) rest)
    ∙ ap (λ (b : Bool). b && rest) (sign_spare s r))
