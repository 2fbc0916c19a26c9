-- Checks 1 to 7, in the order of document 01's table, "Where each check sits", and check 17 of document 02.
use Rattle.std.specs.Prelude.{ℕ, zero, suc, Bool, true, false, cond, not, ◌&&◌, ◌||◌, List, [], ◌∷◌, ◌++◌, ◌≡◌, leb, ltb, eqb, length}
use Rattle.sheet.specs.Verdicts.{Verdict, Passes, Refuses}
use Rattle.sheet.specs.Format.{most_lots, most_conditions, most_records, lowest_lot, header_length, lot_count, condition_count, record_count, sheet_length, head_at, same_sign, apart_sign, sign_at, spare_at, first_lot_at, second_lot_at, next_at, vacant}

-- ---- the first check that fails

-- The first of two verdicts, if that refuses; else the second.
abbrev pub or_else : Verdict → Verdict → Verdict
or_else Passes later = later
or_else (Refuses check place) later = Refuses check place

-- "Checks run down the table.": of a list of checks the first that refuses.
unfoldable pub first_refusal : List Verdict → Verdict
first_refusal [] = Passes
first_refusal (v ∷ vs) = or_else v (first_refusal vs)

-- A check that refuses, at a given place, where a test holds.
abbrev pub refuses_if : Bool → ℕ → ℕ → Verdict
refuses_if true check place = Refuses check place
refuses_if false check place = Passes

-- A check that goes through `count` numbers from `from` on, rising, and refuses at the lowest of which `fails` holds.
unfoldable pub lowest_refusal : ℕ → (ℕ → Bool) → ℕ → ℕ → Verdict
lowest_refusal check fails zero from = Passes
lowest_refusal check fails (suc count) from =
    or_else (refuses_if (fails from) check from) (lowest_refusal check fails count (suc from))

-- ---- header and length

-- "header | 1 | fewer than 6 bytes | 0"
unfoldable pub check1 : List ℕ → Verdict
check1 s = refuses_if (ltb (length s) header_length) 1 0

-- "header | 2 | n, m or k above its most, in this order | 1, 2 or 3"
unfoldable pub check2 : List ℕ → Verdict
check2 s =
    or_else (refuses_if (ltb most_lots (lot_count s)) 2 1)
    (or_else (refuses_if (ltb most_conditions (condition_count s)) 2 2)
    (refuses_if (ltb most_records (record_count s)) 2 3))

-- "length | 3 | length wrong | 0"
unfoldable pub check3 : List ℕ → Verdict
check3 s = refuses_if (not (eqb (length s) (sheet_length (condition_count s) (record_count s)))) 3 0

-- ---- heads and records

-- "heads, rising | 4 | head above k | condition"
unfoldable pub check4 : List ℕ → Verdict
check4 s = lowest_refusal 4 (λ c. ltb (record_count s) (head_at s c)) (condition_count s) 1

-- A lot that a term may name: from `lowest` on, and at most n. With lot 0 for the lowest, lot 0 or one of the n lots.
abbrev pub lot_in_range : ℕ → ℕ → ℕ → Bool
lot_in_range lowest n lot = leb lowest lot && leb lot n

-- Sign, spare, both lots and next of record r are in range.
unfoldable pub well_formed : ℕ → List ℕ → ℕ → Bool
well_formed lowest s r =
    (eqb (sign_at s r) same_sign || eqb (sign_at s r) apart_sign)
    && (eqb (spare_at s r) 0
    && (lot_in_range lowest (lot_count s) (first_lot_at s r)
    && (lot_in_range lowest (lot_count s) (second_lot_at s r)
    && leb (next_at s r) (record_count s))))

-- "records, rising | 5 | sign, spare or lot out of range, next above k | record". "Checks 5 and 7 pass over vacant records", "Checks 5 and 11 admit lot 0"
-- (document 02).
unfoldable pub check5 : ℕ → List ℕ → Verdict
check5 lowest s = lowest_refusal 5 (λ r. not (vacant s r || well_formed lowest s r)) (record_count s) 1

-- ---- chains: "Each record lies on exactly one chain, once.", but for the vacant ones, which lie on none. Check 17 refuses a vacant record that lies on one,
-- check 6 a record that lies there twice, check 7 one that isn't vacant and lies on none.

-- A walk along chains: the records reached so far, the latest first; or the record that was reached a second time; or the vacant record that was reached.
pub data Walk : Type 0 where
  reached : List ℕ → Walk
  twice : ℕ → Walk
  into_vacant : ℕ → Walk

-- Whether a number is in a list.
unfoldable pub member : ℕ → List ℕ → Bool
member x [] = false
member x (y ∷ ys) = eqb x y || member x ys

-- "A chain is walked from its head, term by term, to the zero.": on from record r, after the records `seen`. It stops at a vacant record, by "17, a chain
-- reaches a vacant record, tested before 6 at each record" (document 02), and at one that was reached before, by 6. Where checks 4 and 5 pass, it reaches no
-- record but 1 to k, and so makes at most one step more than there are records: `fuel` above k is enough, and never decides. Where they don't, nobody sees this
-- walk.
unfoldable pub walk_chain : List ℕ → ℕ → List ℕ → ℕ → Walk
walk_chain s zero seen r = reached seen
walk_chain s (suc fuel) seen zero = reached seen
walk_chain s (suc fuel) seen (suc r) =
    cond (vacant s (suc r)) (into_vacant (suc r))
    (cond (member (suc r) seen) (twice (suc r))
    (walk_chain s fuel (suc r ∷ seen) (next_at s (suc r))))

-- "chains, by condition": `count` chains, from that of condition c on.
unfoldable pub walk_chains : List ℕ → ℕ → ℕ → Walk → Walk
walk_chains s zero c walk = walk
walk_chains s (suc count) c (twice r) = twice r
walk_chains s (suc count) c (into_vacant r) = into_vacant r
walk_chains s (suc count) c (reached seen) = walk_chains s count (suc c) (walk_chain s (suc (record_count s)) seen (head_at s c))

-- All chains of a sheet.
unfoldable pub walked : List ℕ → Walk
walked s = walk_chains s (condition_count s) 1 (reached [])

abbrev pub chains_verdict : Walk → Verdict
chains_verdict (reached seen) = Passes
chains_verdict (twice r) = Refuses 6 r
chains_verdict (into_vacant r) = Refuses 17 r

-- "chains, by condition | 6 | a record reached a second time | record", and at each record before it "17, a chain reaches a vacant record .. place is the
-- record" (document 02).
unfoldable pub check17_and6 : List ℕ → Verdict
check17_and6 s = chains_verdict (walked s)

abbrev pub reached_by : Walk → List ℕ
reached_by (reached seen) = seen
reached_by (twice r) = []
reached_by (into_vacant r) = []

-- "after the chains | 7 | a record never reached | lowest such". "Checks 5 and 7 pass over vacant records" (document 02).
unfoldable pub check7 : List ℕ → Verdict
check7 s = lowest_refusal 7 (λ r. not (vacant s r || member r (reached_by (walked s)))) (record_count s) 1

-- ---- the sheet's checks

-- The checks on the header and the length.
abbrev pub header_checks : List ℕ → List Verdict
header_checks s = check1 s ∷ check2 s ∷ check3 s ∷ []

-- "the table's checks on its own bytes, here 1 to 7", with 17: where lots count from `lowest`, and as they do.
unfoldable pub sheet_checks_with : ℕ → List ℕ → List Verdict
sheet_checks_with lowest s = header_checks s ++ check4 s ∷ check5 lowest s ∷ check17_and6 s ∷ check7 s ∷ []

abbrev pub sheet_checks : List ℕ → List Verdict
sheet_checks s = sheet_checks_with lowest_lot s

unfoldable pub sheet_verdict_with : ℕ → List ℕ → Verdict
sheet_verdict_with lowest s = first_refusal (sheet_checks_with lowest s)

abbrev pub sheet_verdict : List ℕ → Verdict
sheet_verdict s = sheet_verdict_with lowest_lot s

-- "A sheet is accepted when none of the table's checks on its own bytes, here 1 to 7, refuses it"; with document 02 they are 1 to 7 and 17.
abbrev pub Accepted : List ℕ → Type 0
Accepted s = sheet_verdict s ≡ Passes
