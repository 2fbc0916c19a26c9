-- What the entry point ensures: by the verdict of its checks, the answer and the grouping, and what these promise of a count that is right.
use Prim.Native.Nat.{ℕ}
use mathlib.Core.List.{List}
use mathlib.Core.Path.{◌≡◌, sym, ap, ◌∙◌}
use Rattle.sheet.specs.Verdicts.{Verdict}
use Rattle.sheet.specs.Answers.{Answer, answered, answer_of}
use Rattle.reassignment.specs.Count.{count_answer}
use Rattle.reassignment.specs.Reassign.{reassign_verdict, with_value, new_count, reassign_answer, written_if, reassign_grouping}
use Rattle.reassignment.proofs.Moving.{right_answer, moved-counted}
use Rattle.reassign.specs.Promises.{StaysCounted, RightGoesThrough}

module _ (s bytes : List ℕ) (count lot value : ℕ) where
  abbrev pub Ensured : Answer → List ℕ → Type 0
  Ensured a bytes' =
      record {
        answer : a ≡ reassign_answer s bytes count lot value;
        grouping : bytes' ≡ reassign_grouping s bytes count lot value;
        counted : StaysCounted a s bytes count bytes';
        right : RightGoesThrough a s bytes count lot value bytes';
      }

  -- The verdict decides answer and bytes, and with them what is promised.
  pub ensured : {v : Verdict} → reassign_verdict s bytes count lot ≡ v → {a : Answer} {bytes' : List ℕ}
      → a ≡ answer_of v (answered (new_count s bytes count lot value) 0 0) → bytes' ≡ written_if v (with_value bytes lot value) bytes → Ensured a bytes'
  unfolding reassign_answer reassign_grouping
  ensured verdict {a} {bytes'} answer written =
      let e : a ≡ reassign_answer s bytes count lot value = answer ∙ sym (ap (λ (w : Verdict). answer_of w (answered (new_count s bytes count lot value) 0 0)) verdict) in
      let q : bytes' ≡ reassign_grouping s bytes count lot value = written ∙ sym (ap (λ (w : Verdict). written_if w (with_value bytes lot value) bytes) verdict) in
      record {
        answer = e;
        grouping = q;
        counted = λ right. rw (e, q) (moved-counted s (record { grouping = bytes; count = count }) (record { lot = lot; value = value }) right);
        right =
            λ right low high.
            let both = right_answer s bytes count right lot value low high in
            let lot-written = q ∙ both.1 in (lot-written, e ∙ both.0 ∙ ap (count_answer s) (sym lot-written));
      }
