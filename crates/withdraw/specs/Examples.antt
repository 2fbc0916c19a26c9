-- Withdrawals by computation.
use Rattle.std.specs.Prelude.{ℕ, List, [], ◌∷◌, ◌≡◌, refl}
use Rattle.buffers.specs.Bytes.{number}
use Rattle.sheet.specs.Format.{head_at, next_at}
use Rattle.sheet.specs.Conditions.{chain, records_from}
use Rattle.withdraw.specs.Withdraw.{zeroed, blanked, withdraw}

-- Document 01's sheet C, its three records in another order: same 1 2 or same 1 3; apart 1 2.
abbrev pub shuffled_c : List ℕ
shuffled_c =
    3 ∷ 0 ∷ 2 ∷ 0 ∷ 3 ∷ 0 ∷
    3 ∷ 0 ∷ 2 ∷ 0 ∷
    1 ∷ 0 ∷ 1 ∷ 0 ∷ 3 ∷ 0 ∷ 0 ∷ 0 ∷
    2 ∷ 0 ∷ 1 ∷ 0 ∷ 2 ∷ 0 ∷ 0 ∷ 0 ∷
    1 ∷ 0 ∷ 1 ∷ 0 ∷ 2 ∷ 0 ∷ 1 ∷ 0 ∷ []

-- Condition 1 withdrawn: records 3 and 1 are blanked.
pub first :
    withdraw shuffled_c 1
    ≡ 3 ∷ 0 ∷ 2 ∷ 0 ∷ 3 ∷ 0 ∷
    0 ∷ 0 ∷ 2 ∷ 0 ∷
    0 ∷ 0 ∷ 0 ∷ 0 ∷ 0 ∷ 0 ∷ 0 ∷ 0 ∷
    2 ∷ 0 ∷ 1 ∷ 0 ∷ 2 ∷ 0 ∷ 0 ∷ 0 ∷
    0 ∷ 0 ∷ 0 ∷ 0 ∷ 0 ∷ 0 ∷ 0 ∷ 0 ∷ []
unfolding number head_at next_at chain records_from zeroed blanked withdraw
first = refl

-- A second time: nothing is left to be done.
pub again : withdraw (withdraw shuffled_c 1) 1 ≡ withdraw shuffled_c 1
unfolding number head_at next_at chain records_from zeroed blanked withdraw
again = refl
