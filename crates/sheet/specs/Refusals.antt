-- What a refusal is in the documents' numbers, and which refusal has such numbers.
use Rattle.std.specs.Prelude.{ℕ, cond, eqb, Result, Ok, Err}
use Rattle.sheet.specs.declared.refusal.Refusal.{Refusal}
use Rattle.sheet.specs.declared.refusal.Refusal.TheVariants.{ShortHeader, TooManyLots, TooManyConditions, TooManyRecords, WrongLength, HeadTooHigh, IllFormed, ReachedTwice, NeverReached, VacantReached, ShortGrouping, FullStore, ShortForPacked, ShortForMerged, IllSized, NoSuchRecord, LeafStands, WrongNext, WrongEnd, TooDeep, TooManyMergedConditions, TooManyMergedRecords, NoSuchLimit, NoSuchLot, WrongCount}
use Rattle.sheet.specs.Verdicts.{Verdict, Passes, Refuses}

-- The number of the check.
abbrev pub check_of : Refusal → ℕ
check_of ShortHeader = 1
check_of TooManyLots = 2
check_of TooManyConditions = 2
check_of TooManyRecords = 2
check_of WrongLength = 3
check_of (HeadTooHigh c) = 4
check_of (IllFormed r) = 5
check_of (ReachedTwice r) = 6
check_of (NeverReached r) = 7
check_of (ShortGrouping lots) = 8
check_of (FullStore most) = 9
check_of IllSized = 10
check_of (NoSuchRecord r) = 11
check_of (LeafStands r) = 12
check_of (WrongNext r) = 13
check_of (WrongEnd r) = 14
check_of (TooDeep r) = 15
check_of (ShortForPacked needed) = 16
check_of (VacantReached r) = 17
check_of TooManyMergedConditions = 18
check_of TooManyMergedRecords = 18
check_of (ShortForMerged needed) = 19
check_of (NoSuchLimit x) = 20
check_of (NoSuchLot x) = 21
check_of (WrongCount x) = 22

-- Its place.
abbrev pub place_of : Refusal → ℕ
place_of ShortHeader = 0
place_of TooManyLots = 1
place_of TooManyConditions = 2
place_of TooManyRecords = 3
place_of WrongLength = 0
place_of (HeadTooHigh c) = c.0
place_of (IllFormed r) = r.0
place_of (ReachedTwice r) = r.0
place_of (NeverReached r) = r.0
place_of (ShortGrouping lots) = lots
place_of (FullStore most) = most
place_of IllSized = 0
place_of (NoSuchRecord r) = r
place_of (LeafStands r) = r
place_of (WrongNext r) = r
place_of (WrongEnd r) = r
place_of (TooDeep r) = r
place_of (ShortForPacked needed) = needed
place_of (VacantReached r) = r.0
place_of TooManyMergedConditions = 2
place_of TooManyMergedRecords = 3
place_of (ShortForMerged needed) = needed
place_of (NoSuchLimit x) = x
place_of (NoSuchLot x) = x
place_of (WrongCount x) = x

-- The refusal of a check at a place.
abbrev pub refusal_at : ℕ → ℕ → Refusal
refusal_at check place =
    cond (eqb check 1) ShortHeader
    (cond (eqb check 2) (cond (eqb place 1) TooManyLots (cond (eqb place 2) TooManyConditions TooManyRecords))
    (cond (eqb check 3) WrongLength
    (cond (eqb check 4) (HeadTooHigh (record { 0 = place }))
    (cond (eqb check 5) (IllFormed (record { 0 = place }))
    (cond (eqb check 6) (ReachedTwice (record { 0 = place }))
    (cond (eqb check 7) (NeverReached (record { 0 = place }))
    (cond (eqb check 8) (ShortGrouping place)
    (cond (eqb check 9) (FullStore place)
    (cond (eqb check 10) IllSized
    (cond (eqb check 11) (NoSuchRecord place)
    (cond (eqb check 12) (LeafStands place)
    (cond (eqb check 13) (WrongNext place)
    (cond (eqb check 14) (WrongEnd place)
    (cond (eqb check 15) (TooDeep place)
    (cond (eqb check 16) (ShortForPacked place)
    (cond (eqb check 17) (VacantReached (record { 0 = place }))
    (cond (eqb check 18) (cond (eqb place 2) TooManyMergedConditions TooManyMergedRecords)
    (cond (eqb check 19) (ShortForMerged place)
    (cond (eqb check 20) (NoSuchLimit place)
    (cond (eqb check 21) (NoSuchLot place)
    (WrongCount place)))))))))))))))))))))

-- A result's verdict: it passes, or it refuses with number and place.
abbrev pub verdict_of : {A : Type 0} → Result A Refusal → Verdict
verdict_of (Ok a) = Passes
verdict_of (Err r) = Refuses (check_of r) (place_of r)
