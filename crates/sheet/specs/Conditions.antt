-- The lots and conditions of an accepted sheet (document 01, "The sheet").
use Rattle.std.specs.Prelude.{ℕ, zero, suc, ◌≤◌, cond, List, [], ◌∷◌, map, eqb}
use Rattle.sheet.specs.Format.{lowest_lot, condition_count, record_count, head_at, same_sign, apart_sign, sign_at, first_lot_at, second_lot_at, next_at}

-- A term (a literal): "same a b" or "apart a b". "a may equal b."
pub data Term : Type 0 where
  same : ℕ → ℕ → Term
  apart : ℕ → ℕ → Term

-- "sign (one byte, 1 "same", 2 "apart")"; check 5 admits no other sign.
abbrev pub term_of : ℕ → ℕ → ℕ → Term
term_of sign a b = cond (eqb sign same_sign) (same a b) (apart a b)

-- Its sign, and its lots: "lot a, lot b".
abbrev pub sign_of : Term → ℕ
sign_of (same a b) = same_sign
sign_of (apart a b) = apart_sign

abbrev pub first_lot : Term → ℕ
first_lot (same a b) = a
first_lot (apart a b) = a

abbrev pub second_lot : Term → ℕ
second_lot (same a b) = b
second_lot (apart a b) = b

-- "Lot 0 .. may appear in terms" (document 02): a lot that a term may name is lot 0 or one of the n lots.
pub record InLots (n lot : ℕ) : Type 0 where
  pub low : lowest_lot ≤ lot
  pub high : lot ≤ n

-- Both lots of a term are such and such; a term names two lots that it may.
abbrev pub BothLots : (ℕ → Type 0) → Term → Type 0
BothLots P t = P (first_lot t) × P (second_lot t)

abbrev pub TermIn : ℕ → Term → Type 0
TermIn n t = BothLots (InLots n) t

-- The term of record r.
abbrev pub term_at : List ℕ → ℕ → Term
term_at s r = term_of (sign_at s r) (first_lot_at s r) (second_lot_at s r)

-- "Next is the record of the following term; zero ends the chain.": the records from record r on. In an accepted sheet no chain has
-- more than k records, so `fuel` k is enough, and never decides.
unfoldable pub chain : List ℕ → ℕ → ℕ → List ℕ
chain s zero r = []
chain s (suc fuel) zero = []
chain s (suc fuel) (suc r) = suc r ∷ chain s fuel (next_at s (suc r))

-- The records of the chain from record r on, and their terms, in chain order.
unfoldable pub records_from : List ℕ → ℕ → List ℕ
records_from s r = chain s (record_count s) r

unfoldable pub terms_from : List ℕ → ℕ → List Term
terms_from s r = map (term_at s) (records_from s r)

-- `count` numbers, from `from` on.
unfoldable pub count_up : ℕ → ℕ → List ℕ
count_up zero from = []
count_up (suc count) from = from ∷ count_up count (suc from)

-- Condition c (a clause): the list of its terms. "Zero: the condition has no term", and is withdrawn (document 02).
abbrev pub condition_at : List ℕ → ℕ → List Term
condition_at s c = terms_from s (head_at s c)

-- The conditions 1 to m.
unfoldable pub conditions : List ℕ → List (List Term)
conditions s = map (condition_at s) (count_up (condition_count s) 1)
