-- What a search's answer says of the text: a refusal's text has the answer's numbers, and any other answer is that of an accepted sheet
-- whose nodes the store has room for.
use Prim.Native.Nat.{ℕ, suc, ◌≤◌}
use mathlib.Core.Bool.{Bool, true, false}
use mathlib.Core.List.{List}
use mathlib.Core.Path.{◌≡◌, refl, sym, ap, ap₂}
use native.Mathlib.Omega.{arith}
use borrow.Author.Tests.{ltb-false}
use lib.Dec.{ltb}
use Rattle.sheet.specs.Verdicts.{Verdict, Passes, Refuses}
use Rattle.sheet.specs.Answers.{Answer, refused, answered}
use Rattle.equality.specs.Search.{Tree, is_met, node_count}
use Rattle.outcome.specs.Outcome.{Result, refused_result, full_result, met_result, cannot_result, met_or_cannot, full_or, result_of, result_answer}
use Rattle.lines.specs.Lines.{refused_line}
use Rattle.text.specs.Program.{result_text}

-- An answer's parts: 0 for a refusal and one more than its first value for any other, and two numbers.
abbrev kind_of : Answer → ℕ
kind_of (refused check place) = 0
kind_of (answered kind count last) = suc kind

abbrev first_of : Answer → ℕ
first_of (refused check place) = check
first_of (answered kind count last) = count

abbrev second_of : Answer → ℕ
second_of (refused check place) = place
second_of (answered kind count last) = last

pub refused_says : (s : List ℕ) (result : Result) (check place : ℕ) → result_answer result ≡ refused check place → result_text s result ≡ refused_line check place
unfolding result_text
refused_says s (refused_result c p) check place e = ap₂ refused_line (ap first_of e) (ap second_of e)
refused_says s (full_result capacity) check place e = ap₂ refused_line (ap first_of e) (ap second_of e)
refused_says s (met_result tree) check place e = absurd (omega (arith, ap kind_of e))
refused_says s (cannot_result tree) check place e = absurd (omega (arith, ap kind_of e))

-- What is known where a search has ended: kind 1 is met, kind 2 cannot.
pub record Ended (verdict : Verdict) (capacity : ℕ) (tree : Tree) (kind count : ℕ) : Type 0 where
  pub passes : verdict ≡ Passes
  pub few : node_count tree ≤ capacity
  pub counted : count ≡ node_count tree
  pub met : kind ≡ 1 → result_of verdict capacity tree ≡ met_result tree
  pub cannot : kind ≡ 2 → result_of verdict capacity tree ≡ cannot_result tree

pub ended : (verdict : Verdict) (capacity : ℕ) (tree : Tree) (kind count : ℕ) → result_answer (result_of verdict capacity tree) ≡ answered kind count 0
    → Ended verdict capacity tree kind count
unfolding result_of
ended (Refuses check place) capacity tree kind count e = absurd (omega (arith, ap kind_of e))
ended Passes capacity tree kind count e = go (ltb capacity (node_count tree)) refl (is_met tree) refl e
  where
    go : (full : Bool) → ltb capacity (node_count tree) ≡ full → (m : Bool) → is_met tree ≡ m
        → result_answer (full_or full capacity (met_or_cannot m tree)) ≡ answered kind count 0 → Ended Passes capacity tree kind count
    go true room m e a = absurd (omega (arith, ap kind_of a))
    go false room true e a =
        record {
          passes = refl;
          few = ltb-false capacity (node_count tree) room;
          counted = sym (ap first_of a);
          met = λ k. rw (room, e);
          cannot = λ k. absurd (omega (arith, ap kind_of a));
        }
    go false room false e a =
        record {
          passes = refl;
          few = ltb-false capacity (node_count tree) room;
          counted = sym (ap first_of a);
          met = λ k. absurd (omega (arith, ap kind_of a));
          cannot = λ k. rw (room, e);
        }
