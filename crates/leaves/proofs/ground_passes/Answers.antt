-- `leaves::ground_passes`: past the terms that are seen to be false, the terms that are left are tested by a table with the path's marks.
use Prim.Native.Nat.{ℕ, ◌≤◌}
use mathlib.Core.Bool.{true, not}
use mathlib.Core.List.{List, []}
use mathlib.Core.Path.{◌≡◌, refl, sym, ap, subst, ◌∙◌}
use native.Mathlib.Omega.{arith}
use borrow.Author.Tests.{eq-eqb, ne_eqb}
use Rattle.sheet.specs.Format.{condition_count, head_at}
use Rattle.sheet.specs.Inner.{OnChain, HasConditions}
use Rattle.sheet.specs.Conditions.{terms_from}
use Rattle.sheet.proofs.Accepted.{sound}
use Rattle.sheet.proofs.ChainEnds.{terms_end, head-on}
use Rattle.equality.specs.Meaning.{any_term}
use Rattle.equality.specs.Node.{Decisions, classes, marked}
use Rattle.equality.proofs.Some.{any_false}
use Rattle.refutation.specs.Refutation.{ground_fails, named}
use Rattle.levels.specs.Levels.{row, level_under, Walkable}
use Rattle.levels.proofs.Leveling.{top_classes, top_level}
use Rattle.classes.specs.Maps.{ClassMap}
use Rattle.classes.proofs.Maps.{class_map}
use Rattle.marks.specs.Marks.{Marks, mark_at}
use Rattle.marks.proofs.Marks.{marks_at}
use Rattle.leaves.specs.Terms.{allows}
use Rattle.leaves.proofs.Splits.{decided}
use Rattle.leaves.proofs.Grounds.{stands, terms_agree, ground-terms}
use Rattle.leaves.proofs.ground_passes.Goals as goal

-- The condition is one of the sheet's, and so is its head.
module _ {s : List ℕ} {m : ℕ} (number : ℕ) (can : HasConditions s m) (least : 1 ≤ number) (most : number ≤ m) where
  counted : number ≤ condition_count s
  counted = omega (arith, can.counted)

  head_within : OnChain s (head_at s number)
  head_within = head-on s can.accepted number least counted

  -- A condition with no term is withdrawn, and no ground;
  none : (ds : Decisions) {head : ℕ} → head ≡ head_at s number → head ≡ 0 → ground_fails ds (named s number) ≡ true
  none ds head_is zero =
      ground-terms ds s can.accepted number least counted
      ∙ rw (eq-eqb (head_at s number) 0 (sym head_is ∙ zero))

  -- of another the terms that are left of the chain decide.
  module _ {path maps levels : List ℕ} {depth : ℕ} (w : Walkable path maps levels depth) {lots : List ℕ} (e : lots ≡ row maps (level_under levels depth)) where
    -- The decisions of the path.
    abbrev ds : Decisions
    ds = decided path depth

    -- The map at the path's level has its classes.
    map_is : lots ≡ classes ds
    map_is = e ∙ top_classes w

    is_map : ClassMap lots
    is_map = subst ClassMap (sym map_is) (class_map _)

    module _ {head : ℕ} (head_is : head ≡ head_at s number) (some : head ≡ 0 → ⊥) {at : ℕ} (on : OnChain s at)
        (rest : any_term (allows lots (marked lots ds)) (terms_from s head) ≡ any_term (allows lots (marked lots ds)) (terms_from s at)) where
      left_over : any_term (stands ds) (terms_from s at) ≡ ground_fails ds (named s number)
      left_over =
          let agree = terms_agree ds s can.accepted (marked (classes ds) ds) (λ x y hx hy n. refl) in
          sym (agree at on)
          ∙ sym (λ i. any_term (allows (map_is i) (marked (map_is i) ds)) (terms_from s at))
          ∙ sym rest
          ∙ (λ i. any_term (allows (map_is i) (marked (map_is i) ds)) (terms_from s (head_is i)))
          ∙ agree (head_at s number) head_within
          ∙ sym (ground-terms ds s can.accepted number least counted ∙ rw (ne_eqb (head_at s number) 0 (λ z. some (head_is ∙ z))))

      -- Where nothing is left of it, it is a ground.
      over : at ≡ 0 → true ≡ not (ground_fails ds (named s number))
      over zero =
          ap not
          (sym
          (sym left_over
          ∙ ap (λ (r : ℕ). any_term (stands ds) (terms_from s r)) zero
          ∙ ap (any_term (stands ds)) (terms_end s)
          ∙ any_false (stands ds) [] tt))

      tested : (table : List ℕ) → Marks table 0 lots ds
          → not (any_term (allows lots (mark_at table 0)) (terms_from s at)) ≡ not (ground_fails ds (named s number))
      tested table stamped =
          let marks = subst (λ (l : List ℕ). Marks table 0 l ds) map_is stamped in
          ap not
          ((λ i. any_term (allows (map_is i) (mark_at table 0)) (terms_from s at))
          ∙ terms_agree ds s can.accepted (mark_at table 0) (marks_at marks) at on
          ∙ left_over)

pub top-lots-requires : goal.top-lots-requires
top-lots-requires c =
    let w = c.requires.3 in (w.rows, w.places, top_level w)

pub head_at-head-requires : goal.head_at-head-requires
head_at-head-requires c =
    omega (arith, c.requires.1, counted c.args.c.0 c.requires.0 c.requires.1 c.requires.2, (sound c.args.sheet.now c.requires.0.accepted).header.whole)

pub past_false-at-requires : goal.past_false-at-requires
past_false-at-requires c =
    let map =
    is_map c.args.c.0 c.requires.0 c.requires.1 c.requires.2 c.requires.3 c.top-lots.ensures in
    (c.requires.0, c.requires.3.within, map, rw c.head_at-head.ensures (head_within c.args.c.0 c.requires.0 c.requires.1 c.requires.2))

pub returns-then-head-eq0 : goal.returns-then-head-eq0
returns-then-head-eq0 c = record {
  passes = sym (ap not
      (none c.args.c.0 c.requires.0 c.requires.1 c.requires.2 (decided c.args.path.now c.args.depth) c.head_at-head.ensures c.if-head-eq0.true));
}

pub returns-then-at-eq0 : goal.returns-then-at-eq0
returns-then-at-eq0 c = record {
  passes = over c.args.c.0 c.requires.0 c.requires.1 c.requires.2 c.requires.3 c.top-lots.ensures c.head_at-head.ensures c.if-head-eq0.false
      c.past_false-at.ensures.on c.past_false-at.ensures.rest c.if-at-eq0.true;
}

pub stamp-requires : goal.stamp-requires
stamp-requires c =
    let map =
    is_map c.args.c.0 c.requires.0 c.requires.1 c.requires.2 c.requires.3 c.top-lots.ensures in
    (c.requires.4, c.requires.3.within, map)

pub all_false-requires : goal.all_false-requires
all_false-requires c =
    let map =
    is_map c.args.c.0 c.requires.0 c.requires.1 c.requires.2 c.requires.3 c.top-lots.ensures in
    (c.requires.0, map, omega (arith, c.stamp.auto.table, c.requires.4), c.past_false-at.ensures.on)

pub returns : goal.returns
returns c = record {
  passes = c.all_false.ensures
      ∙ tested c.args.c.0 c.requires.0 c.requires.1 c.requires.2 c.requires.3 c.top-lots.ensures c.head_at-head.ensures c.if-head-eq0.false
      c.past_false-at.ensures.on c.past_false-at.ensures.rest c.stamp.new.table c.stamp.ensures;
}
