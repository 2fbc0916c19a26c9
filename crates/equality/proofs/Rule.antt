-- What each kind of node says: where the taken condition stands, and which of its terms are open.
use Prim.Native.Nat.{ℕ, suc, ◌+◌}
use mathlib.Core.Bool.{Bool, true, false, cond}
use mathlib.Core.List.{List, [], ◌∷◌, ◌++◌}
use mathlib.Core.Logic.{◌≢◌}
use mathlib.Core.Path.{◌≡◌, refl, sym, ap, ◌∙◌}
use native.Mathlib.Omega.{arith}
use lib.ListN.{length}
use Rattle.sheet.specs.Conditions.{Term, same, apart}
use Rattle.buffers.specs.Lists.{All}
use Rattle.buffers.proofs.Lists.{all_two}
use Rattle.equality.specs.Node.{Decisions, marked_apart, Value, is_true, is_false, is_open, value, Taken, no_condition, takes, passed_over, taken, Node, met, ground, split, clique, split_on, open_or, ground_or_split, node_of, node}
use Rattle.equality.proofs.Node.{open_same, taken-values}

-- ---- the taken condition

-- Condition c, of the terms ts, is among the conditions tss, which are numbered from `from` on, and it is not passed over.
pub record TakenAt (ds : Decisions) (from : ℕ) (tss : List (List Term)) (c : ℕ) (ts : List Term) : Type 0 where
  pub front : List (List Term)
  pub back : List (List Term)
  pub place : tss ≡ front ++ ts ∷ back
  pub number : c ≡ from + length front
  pub unmet : passed_over ds ts ≡ false

takes_some : {c : ℕ} {ts : List Term} → takes c ts ≡ no_condition → ⊥
takes_some e = let z : ◌≡◌ {A = ℕ} 0 1 = cc in omega arith

module _ (ds : Decisions) where
  pub taken_none : (from : ℕ) (tss : List (List Term)) → taken ds from tss ≡ no_condition → All (λ ts. passed_over ds ts ≡ true) tss
  unfolding taken
  taken_none from [] e = tt
  taken_none from (ts ∷ tss) e = go (passed_over ds ts) refl e (taken_none (suc from) tss)
    where
      go : (p : Bool) → passed_over ds ts ≡ p → cond p (taken ds (suc from) tss) (takes from ts) ≡ no_condition
          → (taken ds (suc from) tss ≡ no_condition → All (λ ts. passed_over ds ts ≡ true) tss)
          → All (λ ts. passed_over ds ts ≡ true) (ts ∷ tss)
      go true q e rest = (q, rest e)
      go false q e rest = absurd (takes_some e)

  pub taken_at : (from : ℕ) (tss : List (List Term)) (c : ℕ) (ts : List Term) → taken ds from tss ≡ takes c ts → TakenAt ds from tss c ts
  unfolding taken
  taken_at from [] c ts e = absurd (takes_some (sym e))
  taken_at from (us ∷ tss) c ts e = go (passed_over ds us) refl e (taken_at (suc from) tss c ts)
    where
      later : TakenAt ds (suc from) tss c ts → TakenAt ds from (us ∷ tss) c ts
      later at =
          record {
            front = us ∷ at.front;
            back = at.back;
            place = ap (λ (l : List (List Term)). us ∷ l) at.place;
            number = omega (arith, at.number);
            unmet = at.unmet;
          }

      here : passed_over ds us ≡ false → takes from us ≡ takes c ts → TakenAt ds from (us ∷ tss) c ts
      here q e =
          let terms : us ≡ ts = cc in
          let number : from ≡ c = cc in
          record {
            front = [];
            back = tss;
            place = ap (λ (l : List Term). l ∷ tss) terms;
            number = omega arith;
            unmet = rw terms at q;
          }

      go : (p : Bool) → passed_over ds us ≡ p → cond p (taken ds (suc from) tss) (takes from us) ≡ takes c ts
          → (taken ds (suc from) tss ≡ takes c ts → TakenAt ds (suc from) tss c ts) → TakenAt ds from (us ∷ tss) c ts
      go true q e rest = later (rest e)
      go false q e rest = here q e

-- ---- its first open term

-- The first open term of a condition is "same a b".
pub record OpenAt (ds : Decisions) (ts : List Term) (a b : ℕ) : Type 0 where
  pub before : List Term
  pub after : List Term
  pub place : ts ≡ before ++ same a b ∷ after
  pub passed : All (λ t. value ds t ≢ is_open) before
  pub opened : value ds (same a b) ≡ is_open

false_open : is_false ≡ is_open → ⊥
false_open e = let z : ◌≡◌ {A = ℕ} 0 1 = cc in omega arith

ground-split : {c a b : ℕ} → ground c ≡ split a b → ⊥
ground-split e = let z : ◌≡◌ {A = ℕ} 0 1 = cc in omega arith

split-ground : (t : Term) (c : ℕ) → split_on t ≡ ground c → ⊥
split-ground (same a b) c e = ground-split (sym e)
split-ground (apart a b) c e = ground-split (sym e)

module _ (ds : Decisions) (c : ℕ) where
  -- A ground's condition has no open term.
  pub no_open : (ts : List Term) (d : ℕ) → ground_or_split ds c ts ≡ ground d → (c ≡ d) × All (λ t. value ds t ≢ is_open) ts
  unfolding ground_or_split
  no_open [] d e = (cc, tt)
  no_open (t ∷ ts) d e = go (value ds t) refl e (no_open ts d)
    where
      go : (v : Value) → value ds t ≡ v → open_or t v (ground_or_split ds c ts) ≡ ground d
          → (ground_or_split ds c ts ≡ ground d → (c ≡ d) × All (λ t. value ds t ≢ is_open) ts)
          → (c ≡ d) × All (λ t. value ds t ≢ is_open) (t ∷ ts)
      go is_true q e rest = ((rest e).0, ((λ open'. let z : ◌≡◌ {A = ℕ} 0 1 = cc in omega arith), (rest e).1))
      go is_false q e rest = ((rest e).0, ((λ open'. false_open (sym q ∙ open')), (rest e).1))
      go is_open q e rest = absurd (split-ground t d e)

  -- A split is on the first open term, which is a "same" term.
  pub open_at : (ts : List Term) (a b : ℕ) → All (λ t. value ds t ≡ open_same ds t) ts → ground_or_split ds c ts ≡ split a b → OpenAt ds ts a b
  unfolding ground_or_split
  open_at [] a b values e = absurd (ground-split e)
  open_at (t ∷ ts) a b values e = go (value ds t) refl e (open_at ts a b values.1)
    where
      later : value ds t ≢ is_open → OpenAt ds ts a b → OpenAt ds (t ∷ ts) a b
      later q at =
          record {
            before = t ∷ at.before;
            after = at.after;
            place = ap (λ (l : List Term). t ∷ l) at.place;
            passed = (q, at.passed);
            opened = at.opened;
          }

      here : (u : Term) → t ≡ u → value ds t ≡ is_open → value ds t ≡ open_same ds u → split_on u ≡ split a b → OpenAt ds (t ∷ ts) a b
      here (same x y) s q o e =
          let first : x ≡ a = cc in
          let second : y ≡ b = cc in
          let term : t ≡ same a b = s ∙ (λ i. same (first i) (second i)) in
          record {
            before = [];
            after = ts;
            place = ap (λ (u : Term). u ∷ ts) term;
            passed = tt;
            opened = rw term at q;
          }
      here (apart x y) s q o e = absurd (false_open (sym o ∙ q))

      go : (v : Value) → value ds t ≡ v → open_or t v (ground_or_split ds c ts) ≡ split a b
          → (ground_or_split ds c ts ≡ split a b → OpenAt ds ts a b) → OpenAt ds (t ∷ ts) a b
      go is_true q e rest = later (λ open'. let z : ◌≡◌ {A = ℕ} 0 1 = cc in omega arith) (rest e)
      go is_false q e rest = later (λ open'. false_open (sym q ∙ open')) (rest e)
      go is_open q e rest = here t refl q values.0 e

-- ---- the node

-- The node of a condition that is taken is a ground or a split: what holds of these holds of it.
pub taken-node : (P : Node → Type 0) (ds : Decisions) (c : ℕ) → P (ground c) → ((a b : ℕ) → P (split a b)) → (ts : List Term) → P (ground_or_split ds c ts)
unfolding ground_or_split
taken-node P ds c grounds splits [] = grounds
taken-node P ds c grounds splits (t ∷ ts) = go t (value ds t) (taken-node P ds c grounds splits ts)
  where
    go : (u : Term) (v : Value) → P (ground_or_split ds c ts) → P (open_or u v (ground_or_split ds c ts))
    go u is_true rest = rest
    go u is_false rest = rest
    go (same a b) is_open rest = splits a b
    go (apart a b) is_open rest = splits a b

taken_not_met : (ds : Decisions) (c : ℕ) (ts : List Term) → ground_or_split ds c ts ≡ met → ⊥
taken_not_met ds c =
    taken-node (λ r. r ≡ met → ⊥) ds c
    (λ e. let z : ◌≡◌ {A = ℕ} 0 1 = cc in omega arith)
    (λ a b e. let z : ◌≡◌ {A = ℕ} 0 1 = cc in omega arith)

taken_not_clique : (ds : Decisions) (c : ℕ) (ts : List Term) → ground_or_split ds c ts ≡ clique → ⊥
taken_not_clique ds c =
    taken-node (λ r. r ≡ clique → ⊥) ds c
    (λ e. let z : ◌≡◌ {A = ℕ} 0 1 = cc in omega arith)
    (λ a b e. let z : ◌≡◌ {A = ℕ} 0 1 = cc in omega arith)

-- A ground names the condition taken, which has no open term.
pub record GroundAt (ds : Decisions) (tss : List (List Term)) (c : ℕ) : Type 0 where
  pub terms : List Term
  pub taken : TakenAt ds 1 tss c terms
  pub closed : All (λ t. value ds t ≢ is_open) terms

-- A split is on the first open term of the condition taken.
pub record SplitAt (ds : Decisions) (tss : List (List Term)) (a b : ℕ) : Type 0 where
  pub condition : ℕ
  pub terms : List Term
  pub taken : TakenAt ds 1 tss condition terms
  pub first : OpenAt ds terms a b

module _ (ds : Decisions) (tss : List (List Term)) where
  -- A met node takes no condition:
  pub met-none : node ds tss ≡ met → taken ds 1 tss ≡ no_condition
  unfolding node
  met-none e = go (taken ds 1 tss) refl e
    where
      go : (w : Taken) → taken ds 1 tss ≡ w → node_of met ds w ≡ met → taken ds 1 tss ≡ no_condition
      go no_condition q e = q
      go (takes c ts) q e = absurd (taken_not_met ds c ts e)

  -- every condition is passed over.
  pub met-passed : node ds tss ≡ met → All (λ ts. passed_over ds ts ≡ true) tss
  met-passed e = taken_none ds 1 tss (met-none e)

  -- No node is a clique without a limit.
  pub never_clique : node ds tss ≡ clique → ⊥
  unfolding node
  never_clique e = go (taken ds 1 tss) e
    where
      go : (w : Taken) → node_of met ds w ≡ clique → ⊥
      go no_condition e = let z : ◌≡◌ {A = ℕ} 0 1 = cc in omega arith
      go (takes c ts) e = taken_not_clique ds c ts e

  pub ground_at : (c : ℕ) → node ds tss ≡ ground c → GroundAt ds tss c
  unfolding node
  ground_at c e = go (taken ds 1 tss) refl e
    where
      go : (w : Taken) → taken ds 1 tss ≡ w → node_of met ds w ≡ ground c → GroundAt ds tss c
      go no_condition q e = let z : ◌≡◌ {A = ℕ} 0 1 = cc in absurd (omega arith)
      go (takes d ts) q e =
          let none = no_open ds d ts c e in
          record { terms = ts; taken = taken_at ds 1 tss c ts (rw none.0 at q); closed = none.1 }

  pub split_at : (a b : ℕ) → node ds tss ≡ split a b → SplitAt ds tss a b
  unfolding node
  split_at a b e = go (taken ds 1 tss) refl e
    where
      go : (w : Taken) → taken ds 1 tss ≡ w → node_of met ds w ≡ split a b → SplitAt ds tss a b
      go no_condition q e = let z : ◌≡◌ {A = ℕ} 0 1 = cc in absurd (omega arith)
      go (takes c ts) q e =
          let at = taken_at ds 1 tss c ts q in
          record { condition = c; terms = ts; taken = at; first = open_at ds c ts a b (taken-values ds ts at.unmet) e }

-- Every term of a ground's condition is false.
pub ground_false : {ds : Decisions} {tss : List (List Term)} {c : ℕ} (at : GroundAt ds tss c) → All (λ t. value ds t ≡ is_false) at.terms
ground_false {ds} at = all_two false_one at.terms (taken-values ds at.terms at.taken.unmet) at.closed
  where
    false_one : (t : Term) → value ds t ≡ open_same ds t → value ds t ≢ is_open → value ds t ≡ is_false
    false_one (same a b) e n = go (marked_apart ds a b) e
      where
        go : (p : Bool) → value ds (same a b) ≡ cond p is_false is_open → value ds (same a b) ≡ is_false
        go true e = e
        go false e = absurd (n e)
    false_one (apart a b) e n = e
