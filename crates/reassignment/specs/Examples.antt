-- Counts, reassignments and a list of them, by computation.
use Rattle.std.specs.Prelude.{ℕ, List, [], ◌∷◌, ◌≡◌, refl}
use Rattle.buffers.specs.Bytes.{number}
use Rattle.sheet.specs.Format.{head_at, sign_at, spare_at, first_lot_at, second_lot_at, next_at, zero_bytes, vacant}
use Rattle.sheet.specs.Checks.{first_refusal, lowest_refusal, check1, check2, check3, check4, well_formed, check5, member, walk_chain, walk_chains, walked, check17_and6, check7, sheet_checks_with}
use Rattle.sheet.specs.Conditions.{chain, records_from, terms_from, count_up, conditions}
use Rattle.sheet.specs.Answers.{Answer, refused, answered}
use Rattle.equality.specs.Meaning.{any_term, some_term}
use Rattle.equality.specs.Evaluator.{check8, grouping_verdict_with}
use Rattle.reassignment.specs.Count.{unmet_count, count_answer}
use Rattle.reassignment.specs.Reassign.{naming, check21, check22, reassign_verdict, reassign_answer, reassign_grouping}
use Rattle.reassignment.specs.Moves.{Move, moved_all}

-- Four lots and seven conditions: "same 1 2 or same 2 3"; "apart 1 1 or same 3 1", which names lot 1 three times; "apart 4 2 or same 4 0"; a withdrawn one;
-- "same 4 1 or same 1 4"; "apart 2 3"; "same 0 3". Record 7 is vacant.
abbrev pub sheet : List ℕ
sheet =
    4 ∷ 0 ∷ 7 ∷ 0 ∷ 11 ∷ 0 ∷
    1 ∷ 0 ∷ 3 ∷ 0 ∷ 5 ∷ 0 ∷ 0 ∷ 0 ∷ 8 ∷ 0 ∷ 10 ∷ 0 ∷ 11 ∷ 0 ∷
    1 ∷ 0 ∷ 1 ∷ 0 ∷ 2 ∷ 0 ∷ 2 ∷ 0 ∷
    1 ∷ 0 ∷ 2 ∷ 0 ∷ 3 ∷ 0 ∷ 0 ∷ 0 ∷
    2 ∷ 0 ∷ 1 ∷ 0 ∷ 1 ∷ 0 ∷ 4 ∷ 0 ∷
    1 ∷ 0 ∷ 3 ∷ 0 ∷ 1 ∷ 0 ∷ 0 ∷ 0 ∷
    2 ∷ 0 ∷ 4 ∷ 0 ∷ 2 ∷ 0 ∷ 6 ∷ 0 ∷
    1 ∷ 0 ∷ 4 ∷ 0 ∷ 0 ∷ 0 ∷ 0 ∷ 0 ∷
    0 ∷ 0 ∷ 0 ∷ 0 ∷ 0 ∷ 0 ∷ 0 ∷ 0 ∷
    1 ∷ 0 ∷ 4 ∷ 0 ∷ 1 ∷ 0 ∷ 9 ∷ 0 ∷
    1 ∷ 0 ∷ 1 ∷ 0 ∷ 4 ∷ 0 ∷ 0 ∷ 0 ∷
    2 ∷ 0 ∷ 2 ∷ 0 ∷ 3 ∷ 0 ∷ 0 ∷ 0 ∷
    1 ∷ 0 ∷ 0 ∷ 0 ∷ 3 ∷ 0 ∷ 0 ∷ 0 ∷ []

-- Five bytes, which are no sheet.
abbrev pub short : List ℕ
short = 4 ∷ 0 ∷ 7 ∷ 0 ∷ 11 ∷ []

-- A grouping of a byte more than there are lots. Conditions 2, 6 and 7 are unmet.
abbrev pub grouping : List ℕ
grouping = 1 ∷ 2 ∷ 2 ∷ 1 ∷ 9 ∷ []

-- ---- counts

pub counts :
    count_answer sheet grouping
    ∷ count_answer sheet (1 ∷ 1 ∷ 1 ∷ 1 ∷ [])
    ∷ count_answer sheet (0 ∷ 0 ∷ 0 ∷ 0 ∷ [])
    ∷ count_answer sheet (1 ∷ 2 ∷ 3 ∷ 4 ∷ [])
    ∷ count_answer sheet (1 ∷ 2 ∷ 3 ∷ [])
    ∷ count_answer sheet []
    ∷ count_answer short grouping
    ∷ []
    ≡ answered 3 0 0
    ∷ answered 3 0 0
    ∷ answered 1 0 0
    ∷ answered 4 0 0
    ∷ refused 8 4
    ∷ refused 8 4
    ∷ refused 1 0
    ∷ []
unfolding number head_at sign_at spare_at first_lot_at second_lot_at next_at zero_bytes vacant first_refusal lowest_refusal check1 check2 check3 check4 well_formed check5 member walk_chain walk_chains walked check17_and6 check7 sheet_checks_with chain records_from terms_from count_up conditions any_term some_term check8 grouping_verdict_with unmet_count count_answer
counts = refl

-- ---- reassignments

abbrev outcome : List ℕ → ℕ → ℕ → ℕ → Answer × List ℕ
outcome g count lot value = (reassign_answer sheet g count lot value, reassign_grouping sheet g count lot value)

-- Right counts, one byte that stays as it was among them; lots that can't be reassigned, a lot above 255 too; running counts that are wrong: above m, where the
-- lot is refused first, below the unmet conditions that name the lot, and two that pass, of which one gives a count above m. The last
-- two have a grouping that is too short, and one of exactly n bytes.
pub outcomes :
    outcome grouping 3 1 2
    ∷ outcome grouping 3 2 1
    ∷ outcome grouping 3 3 0
    ∷ outcome grouping 3 4 2
    ∷ outcome grouping 3 3 2
    ∷ outcome grouping 3 0 2
    ∷ outcome grouping 3 5 2
    ∷ outcome grouping 3 257 2
    ∷ outcome grouping 8 1 2
    ∷ outcome grouping 8 0 2
    ∷ outcome grouping 0 1 2
    ∷ outcome grouping 7 1 3
    ∷ outcome grouping 0 4 7
    ∷ outcome (1 ∷ 2 ∷ 2 ∷ []) 3 4 0
    ∷ outcome (1 ∷ 2 ∷ 2 ∷ 1 ∷ []) 3 4 0
    ∷ []
    ≡ (answered 3 0 0, 2 ∷ 2 ∷ 2 ∷ 1 ∷ 9 ∷ [])
    ∷ (answered 3 0 0, 1 ∷ 1 ∷ 2 ∷ 1 ∷ 9 ∷ [])
    ∷ (answered 2 0 0, 1 ∷ 2 ∷ 0 ∷ 1 ∷ 9 ∷ [])
    ∷ (answered 5 0 0, 1 ∷ 2 ∷ 2 ∷ 2 ∷ 9 ∷ [])
    ∷ (answered 3 0 0, grouping)
    ∷ (refused 21 0, grouping)
    ∷ (refused 21 5, grouping)
    ∷ (refused 21 257, grouping)
    ∷ (refused 22 8, grouping)
    ∷ (refused 21 0, grouping)
    ∷ (refused 22 0, grouping)
    ∷ (answered 8 0 0, 3 ∷ 2 ∷ 2 ∷ 1 ∷ 9 ∷ [])
    ∷ (answered 1 0 0, 1 ∷ 2 ∷ 2 ∷ 7 ∷ 9 ∷ [])
    ∷ (refused 8 4, 1 ∷ 2 ∷ 2 ∷ [])
    ∷ (answered 4 0 0, 1 ∷ 2 ∷ 2 ∷ 0 ∷ [])
    ∷ []
unfolding number head_at sign_at spare_at first_lot_at second_lot_at next_at zero_bytes vacant first_refusal lowest_refusal check1 check2 check3 check4 well_formed check5 member walk_chain walk_chains walked check17_and6 check7 sheet_checks_with chain records_from terms_from count_up conditions any_term some_term check8 unmet_count naming check21 check22 reassign_verdict reassign_answer reassign_grouping
outcomes = refl

-- ---- a list of them, of which the second and the fifth are refused

abbrev pub moves : List Move
moves =
    record { lot = 1; value = 2 }
    ∷ record { lot = 0; value = 7 }
    ∷ record { lot = 4; value = 2 }
    ∷ record { lot = 3; value = 0 }
    ∷ record { lot = 5; value = 1 }
    ∷ record { lot = 3; value = 2 }
    ∷ record { lot = 2; value = 1 }
    ∷ []

pub ran : moved_all sheet (record { grouping = grouping; count = 3 }) moves ≡ record { grouping = 2 ∷ 1 ∷ 2 ∷ 2 ∷ 9 ∷ []; count = 2 }
unfolding number head_at sign_at spare_at first_lot_at second_lot_at next_at zero_bytes vacant first_refusal lowest_refusal check1 check2 check3 check4 well_formed check5 member walk_chain walk_chains walked check17_and6 check7 sheet_checks_with chain records_from terms_from count_up conditions any_term some_term check8 unmet_count naming check21 check22 reassign_verdict reassign_answer reassign_grouping moved_all
ran = refl
